-- What upper crates may cite of sources and their airs.
use Rattle.source_machine.proofs.Prelude.{ℕ, ◌≡◌, ◌<◌, ◌≤◌, List, [], ◌∷◌, arith, ◌∙◌, ap, sym, subst, Group, BigInfo, Air, AreAirs, Sends, airs_of, pdu_of, Setup, Call, next_of, IsChecked}
use Rattle.source_machine.proofs.Framings.{airs_only, are_airs}
use Rattle.source_machine.proofs.Payloads.{sent_stays}

pub group_is_checked : (group : Group) → IsChecked group.info
group_is_checked group = record { bounds = group.bounds; framing = omega (arith, group.widths.framing) }

pub is_checked : (group : Group) (info : BigInfo) → info ≡ group.info → IsChecked info
is_checked group info of_group = subst IsChecked (sym of_group) (group_is_checked group)

-- there are airs of the calls of a source
pub airs_exist : (setup : Setup) (calls : List Call) → IsChecked setup.info → AreAirs setup calls (airs_of setup calls)
airs_exist setup calls checked = are_airs setup calls checked

-- what an event that was performed sent stays, whatever call follows
pub sends_stay : (setup : Setup) (call : Call) (calls : List Call) (airs others : List Air) (event : ℕ) (pdus : List (List ℕ)) → IsChecked setup.info
    → AreAirs setup calls airs → AreAirs setup (call ∷ calls) others → setup.first ≤ event → event < next_of setup calls
    → Sends setup airs event pdus → Sends setup others event pdus
sends_stay setup call calls airs others event pdus checked are are_others least past sends = record {
  count = sends.count;
  each = λ bis subevent bis_least bis_within below. sends.each bis subevent bis_least bis_within below
      ∙ ap (λ list. pdu_of setup list event bis subevent) (airs_only setup calls airs checked are)
      ∙ sym (sent_stays setup (call ∷ []) calls event bis subevent checked.bounds.bn checked.bounds.whole_groups least past bis_least bis_within below)
      ∙ sym (ap (λ list. pdu_of setup list event bis subevent) (airs_only setup (call ∷ calls) others checked are_others));
}
