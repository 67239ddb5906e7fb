-- A link on which one thing more happens.
use Rattle.scenario_sink.proofs.Prelude.{drop_more, drop_one, ℕ, ◌≡◌, Bool, true, false, List, [], ◌∷◌, ◌++◌, map, drop, slice_get, Option, Some, sym, ap, ◌∙◌, arith, inl, inr, ◌==◌, ◌&&◌, not, unwrap_or, cases_eq, eq-eqb, ne_eqb, IsOctets, ReceiveState, Assistant, if_slot, reading_of, Notice, delivered_of, if_its, notices_of, told_by, value_of, waiting_of, waits_of, Acts, Told, delivered, language, Linked, LinkHolds}
use Rattle.assistant_machine.specs.Calls as assistants
use Rattle.assistant_machine.specs.State.Assistants.{StandsFor}
use Rattle.assistant_machine.specs.Views as known
use Rattle.assistant_machine.specs.Cuts.{asks}
use Rattle.assistant_machine.specs.Links as links
use Rattle.assistant_machine.specs.Links.{view_of}

-- ---- the same happened, by another name

pub holds_as : (slots : ℕ) (mtu : Option ℕ) (acts others : Acts) (writes more : List (List ℕ)) (on : Linked) → acts ≡ others → writes ≡ more
    → LinkHolds slots mtu acts writes on → LinkHolds slots mtu others more on
holds_as slots mtu acts others writes more on same are holds = grind arith

-- ---- writes

pub put_holds : (slots : ℕ) (mtu : Option ℕ) (acts : Acts) (writes : List (List ℕ)) (on : Linked) (octets : List ℕ) (after : Assistant)
    → ((slots : ℕ) (taken : List assistants.Call) → StandsFor slots taken on.assistant → StandsFor slots (assistants.put octets ∷ taken) after)
    → LinkHolds slots mtu acts writes on → LinkHolds slots mtu acts (writes ++ octets ∷ []) (record on { assistant = after })
put_holds slots mtu acts writes on octets after stands holds = grind (arith, drop_more)

pub sent_holds : (slots : ℕ) (mtu : Option ℕ) (acts : Acts) (writes : List (List ℕ)) (on : Linked) (after : Assistant)
    → ((slots : ℕ) (taken : List assistants.Call) → StandsFor slots taken on.assistant → StandsFor slots (assistants.sent ∷ taken) after)
    → LinkHolds slots mtu acts writes on → LinkHolds slots mtu acts (drop 1 writes) (record on { assistant = after })
sent_holds slots mtu acts writes on after stands holds = grind (arith, drop_one, drop)

pub waiting_writes : (slots : ℕ) (mtu : Option ℕ) (acts : Acts) (writes : List (List ℕ)) (on : Linked) → LinkHolds slots mtu acts writes on → on.assistant.writes ≡ writes
waiting_writes slots mtu acts writes on holds = holds.assistant.writes ∙ holds.writes_are

-- ---- notices

-- what octets give as a value, as both say it
same_view : (a b : Bool) (given : Option (Option ReceiveState)) (old : Option ReceiveState)
    → unwrap_or (if_slot (a && not b) given) old ≡ unwrap_or (if_its (a && not b) given) old
same_view a b given old = grind arith

same_wait : (a b old : Bool) → unwrap_or (if_slot (a && b) (Some true)) old ≡ unwrap_or (if_its (a && b) (Some true)) old
same_wait a b old = grind arith

heard_view : (mtu known : Option ℕ) (slot at : ℕ) (octets : List ℕ) (old now : Option ReceiveState) → known ≡ mtu → old ≡ now
    → unwrap_or (if_slot ((at == slot) && not (asks known octets)) (reading_of octets)) old ≡ unwrap_or (told_by (language mtu) slot at octets) now
heard_view mtu known slot at octets old now is same = grind (arith, unwrap_or, if_slot, not, reading_of, same_view)

heard_wait : (mtu known : Option ℕ) (slot at : ℕ) (octets : List ℕ) (old now : Bool) → known ≡ mtu → old ≡ now
    → unwrap_or (if_slot ((at == slot) && asks known octets) (Some true)) old ≡ unwrap_or (links.asked_by (language mtu) slot at octets) now
heard_wait mtu known slot at octets old now is same = grind (arith, unwrap_or, if_slot, same_wait)

pub forged_holds : (slots : ℕ) (mtu : Option ℕ) (acts : Acts) (writes : List (List ℕ)) (on : Linked) (at : ℕ) (octets : List ℕ) (after : Assistant) → IsOctets octets
    → ((slots : ℕ) (taken : List assistants.Call) → StandsFor slots taken on.assistant → StandsFor slots (assistants.notified at octets ∷ taken) after)
    → LinkHolds slots mtu acts writes on → LinkHolds slots mtu (links.forged at octets ∷ acts) writes (record on { assistant = after })
forged_holds slots mtu acts writes on at octets after are stands holds = grind (arith, heard_view, language, heard_wait, waits_of)

-- the first notice that waits is as it is delivered
pub first_notice : (slots : ℕ) (mtu : Option ℕ) (acts : Acts) (writes : List (List ℕ)) (on : Linked) → LinkHolds slots mtu acts writes on
    → slice_get on.waiting 0 ≡ slice_get (map (delivered mtu) (waiting_of acts)) 0
first_notice slots mtu acts writes on holds = ap (λ ns. slice_get ns 0) holds.notices

told_view : (mtu : Option ℕ) (slot : ℕ) (first : Told) (rest waiting : List Told) → waiting ≡ first ∷ rest
    → links.first_notified (language mtu) slot waiting ≡ told_by (language mtu) slot (delivered mtu first).slot (delivered mtu first).value
told_view mtu slot first rest waiting is = ap (links.first_notified (language mtu) slot) is

told_wait : (mtu : Option ℕ) (slot : ℕ) (first : Told) (rest waiting : List Told) → waiting ≡ first ∷ rest
    → links.first_asked (language mtu) slot waiting ≡ links.asked_by (language mtu) slot (delivered mtu first).slot (delivered mtu first).value
told_wait mtu slot first rest waiting is = ap (links.first_asked (language mtu) slot) is

pub told_holds : (slots : ℕ) (mtu : Option ℕ) (acts : Acts) (writes : List (List ℕ)) (on : Linked) (first : Told) (rest : List Told) (notice : Notice) (after : Assistant)
    → waiting_of acts ≡ first ∷ rest → notice ≡ delivered mtu first → IsOctets notice.value
    → ((slots : ℕ) (taken : List assistants.Call) → StandsFor slots taken on.assistant → StandsFor slots (assistants.notified notice.slot notice.value ∷ taken) after)
    → LinkHolds slots mtu acts writes on → LinkHolds slots mtu (links.notified ∷ acts) writes (record { waiting = drop 1 on.waiting; assistant = after })
told_holds slots mtu acts writes on first rest notice after waits is are stands holds =
    let view : ℕ → Option ReceiveState = λ slot. view_of (language mtu) slot acts in
    let wait : ℕ → Bool = λ slot. waits_of (language mtu) slot acts in
    record {
      taken = assistants.notified notice.slot notice.value ∷ holds.taken;
      assistant = stands slots holds.taken holds.assistant;
      heard = (are, holds.heard);
      mtu_is = holds.mtu_is;
      writes_are = holds.writes_are;
      views = λ slot. heard_view mtu (assistants.mtu_of holds.taken) slot notice.slot notice.value (known.view_of slot holds.taken) (view slot) holds.mtu_is (holds.views slot)
          ∙ ap (λ given. unwrap_or given (view slot)) (ap (λ (n : Notice). told_by (language mtu) slot n.slot n.value) is ∙ sym (told_view mtu slot first rest (waiting_of acts) waits));
      reads = λ slot. heard_wait mtu (assistants.mtu_of holds.taken) slot notice.slot notice.value (known.waits_of slot holds.taken) (wait slot) holds.mtu_is (holds.reads slot)
          ∙ ap (λ given. unwrap_or given (wait slot)) (ap (λ (n : Notice). links.asked_by (language mtu) slot n.slot n.value) is ∙ sym (told_wait mtu slot first rest (waiting_of acts) waits));
      notices = ap (drop 1) holds.notices ∙ ap (λ ns. drop 1 (map (delivered mtu) ns)) waits
          ∙ ap (map (delivered mtu)) (sym (drop_one (delivered_of acts) (notices_of acts) ∙ ap (drop 1) waits));
    }

-- ---- reads

read_view : (mtu : Option ℕ) (at slot : ℕ) (octets : List ℕ) (acts : Acts) (old : Option ReceiveState)
    → octets ≡ (language mtu).encode (value_of (language mtu) at acts) → old ≡ view_of (language mtu) slot acts
    → unwrap_or (if_slot (at == slot) (reading_of octets)) old
    ≡ unwrap_or (if_its (at == slot) ((language mtu).reading ((language mtu).encode (value_of (language mtu) slot acts)))) (view_of (language mtu) slot acts)
read_view mtu at slot octets acts old is same = elim (cases_eq at slot) [
  | inl e ↦
      let encoded : octets ≡ (language mtu).encode (value_of (language mtu) slot acts) = is ∙ ap (λ n. (language mtu).encode (value_of (language mtu) n acts)) e in
      ap (λ os. unwrap_or (if_slot (at == slot) (reading_of os)) old) encoded
      ∙ here (at == slot) (reading_of ((language mtu).encode (value_of (language mtu) slot acts))) (eq-eqb at slot e)
  | inr other ↦ elsewhere (at == slot) (reading_of octets) ((language mtu).reading ((language mtu).encode (value_of (language mtu) slot acts))) (ne_eqb at slot other)
]
  where
    elsewhere : (b : Bool) (given others : Option (Option ReceiveState)) → b ≡ false → unwrap_or (if_slot b given) old ≡ unwrap_or (if_its b others) (view_of (language mtu) slot acts)
    elsewhere false given others e = same
    elsewhere true given others e = absurd cc

    here : (b : Bool) (given : Option (Option ReceiveState)) → b ≡ true → unwrap_or (if_slot b given) old ≡ unwrap_or (if_its b given) (view_of (language mtu) slot acts)
    here true given e = ap (λ o. unwrap_or given o) same
    here false given e = absurd cc

read_wait : (b old now : Bool) → old ≡ now → unwrap_or (if_slot b (Some false)) old ≡ unwrap_or (if_its b (Some false)) now
read_wait b old now same = grind arith

pub read_holds : (slots : ℕ) (mtu : Option ℕ) (acts : Acts) (writes : List (List ℕ)) (on : Linked) (at : ℕ) (octets : List ℕ) (asked after : Assistant)
    → octets ≡ (language mtu).encode (value_of (language mtu) at acts) → IsOctets octets
    → ((slots : ℕ) (taken : List assistants.Call) → StandsFor slots taken on.assistant → StandsFor slots (assistants.asked at ∷ taken) asked)
    → ((slots : ℕ) (taken : List assistants.Call) → StandsFor slots taken asked → StandsFor slots (assistants.read at octets ∷ taken) after)
    → LinkHolds slots mtu acts writes on → LinkHolds slots mtu (links.served at ∷ acts) writes (record on { assistant = after })
read_holds slots mtu acts writes on at octets asked after is are first second holds = record {
  taken = assistants.read at octets ∷ assistants.asked at ∷ holds.taken;
  assistant = second slots (assistants.asked at ∷ holds.taken) (first slots holds.taken holds.assistant);
  heard = (are, (tt, holds.heard));
  mtu_is = holds.mtu_is;
  writes_are = holds.writes_are;
  views = λ slot. read_view mtu at slot octets acts (known.view_of slot holds.taken) is (holds.views slot);
  reads = λ slot. read_wait (at == slot) (known.waits_of slot holds.taken) (waits_of (language mtu) slot acts) (holds.reads slot);
  notices = holds.notices;
}

-- ---- a step of the delegator

pub told_all : (slots : ℕ) (mtu : Option ℕ) (acts others : Acts) (writes : List (List ℕ)) (on : Linked) (more : List Notice)
    → map (delivered mtu) (waiting_of others) ≡ map (delivered mtu) (waiting_of acts) ++ more
    → ((slot : ℕ) → view_of (language mtu) slot others ≡ view_of (language mtu) slot acts)
    → ((slot : ℕ) → waits_of (language mtu) slot others ≡ waits_of (language mtu) slot acts)
    → LinkHolds slots mtu acts writes on → LinkHolds slots mtu others writes (record on { waiting = on.waiting ++ more })
told_all slots mtu acts others writes on more notices views reads holds = record {
  taken = holds.taken;
  assistant = holds.assistant;
  heard = holds.heard;
  mtu_is = holds.mtu_is;
  writes_are = holds.writes_are;
  views = λ slot. holds.views slot ∙ sym (views slot);
  reads = λ slot. holds.reads slot ∙ sym (reads slot);
  notices = ap (λ ns. ns ++ more) holds.notices ∙ sym notices;
}
