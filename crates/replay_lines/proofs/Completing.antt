-- Which endings come, what the boxes took of a text that its source tells, and their counts.
use Rattle.replay_lines.proofs.Prelude.{◌≡◌, ◌≢◌, ℕ, Bool, true, List, [], ◌∷◌, ◌++◌, reverse, sym, ap, ◌∙◌, append_assoc, Option, Some, append-nil, Consumes, MayFollow, reverse_onto, World, DidOver, lines_of, Rose, airs_of, Refusal, through, refused, SinkUnit, Took, handed_on, out_of, transcript_end, units_of, Ending, TextRead, IsWhole, AheadOf, NoneFailed, RoomForText, Complete, Failure, failure, no_room_for, took_as, arith, inl, inr, ◌⊎◌, TextLine, Account, CountsStay, OneCounts, failed_one, none_counts, one_then, took_stay, IsCut, Broken, FaultCut, LineFails}
use Rattle.replay_lines.specs.declared.ending.Ending.TheVariants as endings
use Rattle.replay_lines.proofs.LineEndings.{box_stops, units_added}
use Rattle.replay_lines.proofs.Prefixes.{units_more}

-- ---- a source that tells its text

-- what follows the octets read
pub told : (text : List ℕ) (left left' : Option (List ℕ)) (prefix : List ℕ) → left ≡ Some text → Consumes left left' prefix
    → (rest : List ℕ) × (left' ≡ Some rest) × (text ≡ prefix ++ rest)
told text left left' prefix tells c = grind arith

pub rest_of : (text : List ℕ) (left left' : Option (List ℕ)) (prefix : List ℕ) (over : Bool) → left ≡ Some text
    → TextRead left left' prefix over → (rest : List ℕ) × (text ≡ prefix ++ rest) × MayFollow over true rest
rest_of text left left' prefix over tells read = grind (arith, told)

module _ (old new : World) where
  pub ended_ahead : (ending : Ending) → DidOver airs_of ending old new
      → AheadOf airs_of ending old.boxes new.boxes old.left new.left old.taken new.taken
  ended_ahead (endings.Refused line reason) e = e.1
  ended_ahead endings.WriteFault e = e.1
  ended_ahead _ e = tt

  module _ (text : List ℕ) (tells : old.left ≡ Some text) where
    pub ended_whole : (ending : Ending) → DidOver airs_of ending old new → IsWhole ending
        → Took old.boxes new.boxes (units_of airs_of old.boxes (lines_of true text))
    ended_whole ending e whole = grind (arith, rest_of, append-nil, took_as, units_of, airs_of, lines_of)

    -- the box that failed
    failed_in : DidOver airs_of endings.OutletFault old new → Failure old.boxes new.boxes (units_of airs_of old.boxes (lines_of true text))
    failed_in o =
        let stops = box_stops old.boxes o.accounts new.boxes o.earlier o.line (out_of airs_of old.boxes (reverse o.earlier)) o.told
        o.fails in
        let f = stops.1 in
        let us : List SinkUnit = units_of airs_of old.boxes (reverse o.earlier) in
        let r = rest_of text old.left new.left o.comes.text o.comes.over tells o.comes.read in
        let at = o.comes.lines true r.0 r.2 in
        let more = units_more airs_of old.boxes [] (reverse (o.line ∷ o.earlier)) at.0 in
        failure old.boxes new.boxes o.accounts us (handed_on airs_of o.earlier o.line) (f.rest ++ more.0)
        (units_of airs_of old.boxes (lines_of true text))
        [] stops.0 o.before f (ap (λ t. units_of airs_of old.boxes (lines_of true t)) r.1
        ∙ ap (units_of airs_of old.boxes) (at.1 ∙ sym (reverse_onto o.line o.earlier at.0))
        ∙ more.1 ∙ ap (λ all. all ++ more.0) (units_added old.boxes o.earlier o.line o.accepted ∙ ap (λ all. us ++ all) f.split)
        ∙ simp append_assoc)

    no_failure : DidOver airs_of endings.OutletFault old new → NoneFailed old.boxes new.boxes → ⊥
    no_failure e none = let f = failed_in e in none f.place f.first f.after f.was f.is f.rose

    no_refusal : (line : ℕ) (reason : Refusal) → DidOver airs_of (endings.Refused line reason) old new
        → transcript_end airs_of old.boxes (lines_of true text) ≡ through → ⊥
    no_refusal line reason e is = grind (arith, rest_of, refused, through)

    room_at : (ending : Ending) → DidOver airs_of ending old new → RoomForText airs_of old.boxes text → ending ≢ endings.OutletFault
    room_at ending e room is = grind (arith, no_room_for, failed_in)

    pub ended_complete : (ending : Ending) → DidOver airs_of ending old new → (ending ≡ endings.ReadFault → Rose old.reads new.reads)
        → (ending ≡ endings.WriteFault → Rose old.writes new.writes)
        → Complete airs_of text old.boxes new.boxes old.reads new.reads old.writes new.writes ending
    ended_complete ending e read write = record {
      through_all = λ is no_read no_write none. grind (arith, no_failure, no_refusal);
      room = room_at ending e;
      no_fault = λ room no_read no_write. grind (arith, room_at);
    }

-- ---- the counts of the boxes, by how a run ended

broken_counts : (starts ends : List Account) (left left' kept kept' : Option (List ℕ)) → Broken airs_of starts ends left left' kept kept'
    → CountsStay starts ends ⊎ FaultCut airs_of starts ends left left' kept kept'
broken_counts starts ends left left' kept kept' e = grind (arith, took_stay)

-- the box of a unit of a line failed
stopped_one : (starts before after : List Account) (history : List TextLine) (line : TextLine) (text told : List ℕ)
    → LineFails airs_of starts history line text told before after → OneCounts before after
stopped_one starts before after history line text told f =
    let stops = box_stops starts before after history line text told f in
    failed_one (handed_on airs_of history line) [] stops.0 before after stops.1

broken_one : (starts ends : List Account) (left left' kept kept' : Option (List ℕ)) → Broken airs_of starts ends left left' kept kept' → OneCounts starts ends
broken_one starts ends left left' kept kept' e = elim (broken_counts starts ends left left' kept kept' e) [
  | inl stay ↦ none_counts starts ends stay
  | inr failed ↦ search (one_then, took_stay, stopped_one)
]

module _ (old new : World) where
  pub ended_counts : (ending : Ending) → DidOver airs_of ending old new → ending ≢ endings.OutletFault
      → CountsStay old.boxes new.boxes ⊎ (IsCut ending × FaultCut airs_of old.boxes new.boxes old.left new.left old.taken new.taken)
  ended_counts endings.Done e other = grind (arith, took_stay, broken_counts)
  ended_counts ending e other = grind (arith, took_stay, broken_counts)

  pub ended_one : (ending : Ending) → DidOver airs_of ending old new → OneCounts old.boxes new.boxes
  ended_one endings.Done e = search (none_counts, took_stay)
  ended_one ending e = search (none_counts, took_stay, broken_one, one_then, stopped_one)
