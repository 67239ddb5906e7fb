-- What is promised of a call that migrates, from what the migration did.
use Rattle.std.proofs.Common.{◌≡◌, ◌≢◌, ◌≤◌, ◌⊎◌, ◌∙◌, ◌++◌, ℕ, List, [], length, Option, None, Some, refl, sym, ap, subst, append_assoc, arith, length-append, inl}
use Rattle.std.proofs.lemmas.List.{append-nil}
use Rattle.std.specs.Io.KnownBytes.{Consumes, IsAtEnd, Keeps}
use Rattle.bcast_base.specs.Counts.{Rose}
use Rattle.bcast_io.specs.TextLines.{lines_of, text_limit}
use Rattle.bcast_io.proofs.Citable.{Consumes-nothing}
use Rattle.transcript_text.specs.declared.refusal.Refusal.TheVariants.{TextTooLong}
use Rattle.replay_migration.specs.TextRead.{IsTooLong, LastIsPast}
use Rattle.replay_migration.specs.Ended.{Ended, WroteText, WroteRefusal, WroteNothing, WroteShort, WrotePrefix, RanOut}
use Rattle.replay_migration.specs.declared.migration.Migration.{Migration}
use Rattle.replay_migration.specs.declared.migration.Migration.TheVariants as ends
use Rattle.replay_command.specs.declared.status.Status.{Status}
use Rattle.replay_command.specs.declared.status.Status.TheVariants as statuses
use Rattle.replay_command.specs.Migrated.{Migrated}
use Rattle.replay_command.specs.Statuses.{status_of}
use Rattle.replay_lines.specs.World.{World}

-- what a migration read and wrote, by its status
abbrev Did : Status → World → World → Type 0
Did statuses.Done old new = WroteText old.left new.left old.taken new.taken
Did (statuses.Refused line reason) old new = (reason ≡ TextTooLong) × WroteRefusal old.left new.left old.taken new.taken line
Did statuses.Usage old new = ⊥
Did statuses.ReadFault old new = WroteNothing old.left new.left old.taken new.taken
Did statuses.WriteFault old new = WroteShort old.left new.left old.taken new.taken
Did statuses.OutletFault old new = ⊥
Did statuses.Memory old new = RanOut old.left new.left old.taken new.taken ⊎ WrotePrefix old.left new.left old.taken new.taken

did_of : (how : Migration) (old new : World) → Ended how old.left new.left old.taken new.taken → Did (status_of how) old new
did_of ends.Done old new e = e
did_of (ends.TooLong line) old new e = (refl, e)
did_of ends.ReadFault old new e = e
did_of ends.WriteFault old new e = e
did_of ends.Memory old new e = e

is_read_fault : (how : Migration) → status_of how ≡ statuses.ReadFault → how ≡ ends.ReadFault
is_read_fault ends.Done is = absurd cc
is_read_fault (ends.TooLong line) is = absurd cc
is_read_fault ends.ReadFault is = refl
is_read_fault ends.WriteFault is = absurd cc
is_read_fault ends.Memory is = absurd cc

is_write_fault : (how : Migration) → status_of how ≡ statuses.WriteFault → how ≡ ends.WriteFault
is_write_fault ends.Done is = absurd cc
is_write_fault (ends.TooLong line) is = absurd cc
is_write_fault ends.ReadFault is = absurd cc
is_write_fault ends.WriteFault is = refl
is_write_fault ends.Memory is = absurd cc

-- the text that a source tells is what was read of it, and what is left
text_is : (left left' : Option (List ℕ)) (text read : List ℕ) → left ≡ Some text → Consumes left left' read → (rest : List ℕ) × (left' ≡ Some rest) × (text ≡ read ++ rest)
text_is None left' text read told consumed = absurd cc
text_is (Some all) None text read told consumed = absurd consumed
text_is (Some all) (Some rest) text read told consumed = (rest, refl, let same : all ≡ text = cc in sym same ∙ consumed)

at_end : (left' : Option (List ℕ)) (rest : List ℕ) → left' ≡ Some rest → IsAtEnd left' → rest ≡ []
at_end left' rest is ended = let P : Option (List ℕ) → Type 0 = λ l. IsAtEnd l in subst P is ended

whole_within : (left left' kept kept' : Option (List ℕ)) (text : List ℕ) → left ≡ Some text → WroteText left left' kept kept' → length text ≤ text_limit
whole_within left left' kept kept' text told wrote =
    let t = text_is left left' text wrote.text told wrote.read.consumed in
    let none = at_end left' t.0 t.1 wrote.read.at_end in
    let same : text ≡ wrote.text = t.2 ∙ ap (λ rest. wrote.text ++ rest) none ∙ append-nil wrote.text in
    omega (arith, ap length same, wrote.read.within)

whole_too_long : (left left' kept kept' : Option (List ℕ)) (line : ℕ) (text : List ℕ) → left ≡ Some text → WroteRefusal left left' kept kept' line → IsTooLong text line
whole_too_long left left' kept kept' line text told wrote =
    let read = wrote.read in
    let t = text_is left left' text read.text told read.consumed in
    let P : List ℕ → Type 0 = λ all. IsTooLong all line in
    subst P (sym t.2) (record {
      long = omega (arith, read.too_long.long, length-append read.text t.0);
      lines = λ ended more. subst (λ all. LastIsPast (lines_of ended all) line) (sym (append_assoc read.text t.0 more)) (read.too_long.lines ended (t.0 ++ more));
    })

pub migrated_of : (how : Migration) (old new : World) → Ended how old.left new.left old.taken new.taken
    → (how ≡ ends.ReadFault → Rose old.reads new.reads) → (how ≢ ends.ReadFault → new.reads ≡ old.reads)
    → (how ≡ ends.WriteFault → Rose old.writes new.writes) → (how ≢ ends.WriteFault → new.writes ≡ old.writes)
    → new.boxes ≡ old.boxes → Migrated old new (status_of how)
migrated_of how old new e read no_read write no_write boxes =
    let did = λ (status : Status) (is : status_of how ≡ status). subst (λ s. Did s old new) is (did_of how old new e) in
    record {
      done = did statuses.Done;
      refused = λ line reason. did (statuses.Refused line reason);
      read_fault = λ is. (read (is_read_fault how is), did statuses.ReadFault is);
      write_fault = λ is. (write (is_write_fault how is), did statuses.WriteFault is);
      memory = did statuses.Memory;
      no_usage = did statuses.Usage;
      no_outlet_fault = did statuses.OutletFault;
      no_read_fault = λ other. no_read (λ is. other (ap status_of is));
      no_write_fault = λ other. no_write (λ is. other (ap status_of is));
      within = λ text told is. whole_within old.left new.left old.taken new.taken text told (did statuses.Done is);
      too_long = λ text told line reason is. whole_too_long old.left new.left old.taken new.taken line text told (did (statuses.Refused line reason) is).1;
      boxes = boxes;
    }

-- a sink that took nothing
pub keeps_same : (kept : Option (List ℕ)) → Keeps kept kept
keeps_same None = tt
keeps_same (Some octets) = refl

-- memory ran out before anything was read
pub migrated_none : (old : World) → Migrated old old statuses.Memory
migrated_none old =
    migrated_of ends.Memory old old
    (inl (record { read = record { text = []; consumed = Consumes-nothing old.left; least = omega arith }; written = keeps_same old.taken }))
    (λ is. absurd cc) (λ other. refl) (λ is. absurd cc) (λ other. refl) refl
