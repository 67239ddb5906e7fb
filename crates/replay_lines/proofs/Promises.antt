-- What is promised of a run, from what it did.
use Rattle.replay_lines.proofs.Prelude.{true, lines_of, took_as, ◌≡◌, ◌≢◌, ℕ, Some, Refusal, IsWhole, List, refl, subst, TextLine, Account, Rose, airs_of, Airs, MeetAirs, transcript_of, Ending, Promised, Did, DidOver, ReadsAtMost, read_limit, AllSame, Laws, World, arith}
use Rattle.replay_lines.specs.declared.ending.Ending.TheVariants as endings
use Rattle.replay_lines.proofs.Completing.{ended_whole, ended_ahead, ended_complete, ended_counts, ended_one}
use Rattle.replay_lines.proofs.Endings.{ends_at_once}
use Rattle.replay_lines.proofs.OtherAirs.{ahead_as, complete_as, counts_as, ended_as}
use Rattle.replay_lines.proofs.ReadingOn.{none_within}

one_of : (boxes : List Account) → Laws boxes → (airs others : Airs) → MeetAirs airs → MeetAirs others → (lines : List TextLine)
    → transcript_of airs boxes lines ≡ transcript_of others boxes lines
one_of boxes laws airs others meets meet_too lines = grind arith

module _ (old new : World) (ending : Ending) where
  did : AllSame → DidOver airs_of ending old new → (other : Ending) → ending ≡ other → Did other old new
  did same e other is airs meets =
      ended_as airs_of airs (same airs meets) old.boxes new.boxes old.left new.left old.taken new.taken other
      (let P : Ending → Type 0 = λ s. DidOver airs_of s old new in subst P is e)

  pub promised_run : DidOver airs_of ending old new → ReadsAtMost old.left new.left read_limit
      → (ending ≡ endings.ReadFault → Rose old.reads new.reads) → (ending ≢ endings.ReadFault → new.reads ≡ old.reads)
      → (ending ≡ endings.WriteFault → Rose old.writes new.writes) → (ending ≢ endings.WriteFault → new.writes ≡ old.writes)
      → Laws old.boxes → Promised old new ending
  promised_run e within read no_read write no_write laws =
      let at = did laws.same e in
      let read_fault : ending ≡ endings.ReadFault → Rose old.reads new.reads × Did endings.ReadFault old new =
      λ is. (read is, at endings.ReadFault is) in
      let write_fault : ending ≡ endings.WriteFault → Rose old.writes new.writes × Did endings.WriteFault old new =
      λ is. (write is, at endings.WriteFault is) in
      let refusal = λ (line : ℕ) (reason : Refusal). at (endings.Refused line reason) in
      let counts = λ (airs : Airs) (meets : MeetAirs airs) (other : ending ≢ endings.OutletFault).
      counts_as airs_of airs (laws.same airs meets) old.boxes new.boxes old.left new.left old.taken new.taken ending
      (ended_counts old new ending e other) in
      let boxes = λ (airs : Airs) (meets : MeetAirs airs) (text : List ℕ) (is : old.left ≡ Some text) (whole : IsWhole ending).
      took_as old.boxes new.boxes _ _ ((laws.same airs meets).units old.boxes (lines_of true text))
      (ended_whole old new text is ending e whole) in
      let complete = λ (airs : Airs) (meets : MeetAirs airs) (text : List ℕ) (is : old.left ≡ Some text).
      complete_as airs_of airs (laws.same airs meets) old.boxes new.boxes old.left new.left old.taken new.taken text
      old.reads new.reads old.writes new.writes ending (ended_complete old new text is ending e read write) in
      let ahead = λ (airs : Airs) (meets : MeetAirs airs).
      ahead_as airs_of airs (laws.same airs meets) old.boxes new.boxes old.left new.left old.taken new.taken ending
      (ended_ahead old new ending e) in
      let meet : (airs : Airs) × MeetAirs airs = (airs_of, laws.meet) in
      assumption (
        at endings.Done,
        refusal,
        read_fault,
        write_fault,
        at endings.OutletFault,
        at endings.Memory,
        counts,
        ended_one old new ending e,
        boxes,
        complete,
        ahead,
        meet,
        one_of old.boxes laws,
      )

-- memory ran out before anything was read
pub promised_none : (old : World) → Laws old.boxes → Promised old old endings.Memory
promised_none old laws =
    promised_run old old endings.Memory (ends_at_once old.boxes old.left old.taken) (none_within old.left)
    (λ e. absurd cc) (λ e. refl) (λ e. absurd cc) (λ e. refl) laws
