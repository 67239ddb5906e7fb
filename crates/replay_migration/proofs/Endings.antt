-- How a migration ends, by what was read and written.
use Rattle.replay_migration.proofs.Prelude.{◌≡◌, ℕ, ◌+◌, ◌≤◌, List, [], ◌++◌, length, take, drop, Option, None, Some, Result, Ok, Err, refl, sym, subst, ◌∙◌, inl, inr, arith, length-append, length-drop, length-take-le, append-nil, Consumes, IsAtEnd, Keeps, text_limit, AppendsPrefix, AppendsShort, AppendsPrefix-nothing, Consumes-nothing, Consumes-then, ReadWhole, ReadPast, ReadPart, piece_limit}
use Rattle.scenario_text.specs.Migrated.{migrated}
use Rattle.replay_migration.specs.Ended.{Ended, too_long_line}
use Rattle.replay_migration.specs.State.Pieces.{ReadsOn, ReadsText, Took, TookPast}
use Rattle.replay_migration.specs.State.Puts.{PutsText, PutsRefusal}
use Rattle.replay_migration.specs.declared.migration.Migration.{Migration}
use Rattle.replay_migration.specs.declared.migration.Migration.TheVariants as ends
use Rattle.replay_migration.specs.declared.piece.Piece.{Piece}
use Rattle.replay_migration.specs.declared.text.Text.{Text}
use Rattle.replay_migration.specs.declared.piece.Unread.{Unread}
use Rattle.replay_migration.specs.declared.piece.Unread.TheVariants as unreads

keeps_same : (kept : Option (List ℕ)) → Keeps kept kept
keeps_same None = tt
keeps_same (Some octets) = refl

-- nothing was put
pub nothing_put : (kept : Option (List ℕ)) (octets : List ℕ) → AppendsPrefix kept kept octets
nothing_put kept octets = AppendsPrefix-nothing kept kept octets (keeps_same kept)

-- a write that was cut short is one of a prefix
pub prefix_of_short : (kept kept' : Option (List ℕ)) (octets : List ℕ) → AppendsShort kept kept' octets → AppendsPrefix kept kept' octets
prefix_of_short kept kept' octets short = record { prefix = short.prefix; rest = short.rest; whole = short.whole; appended = short.appended }

-- ---- what was read

kept_none : (a b : Option (List ℕ)) → Keeps a b → Consumes a b []
kept_none None b kept = tt
kept_none (Some x) None kept = absurd kept
kept_none (Some x) (Some y) kept = sym kept

-- nothing more was read of a source
consumed_kept : (a b c : Option (List ℕ)) (text : List ℕ) → Consumes a b text → Keeps b c → Consumes a c text
consumed_kept a b c text read kept = subst (Consumes a c) (append-nil text) (Consumes-then a b c text [] read (kept_none b c kept))

-- the end of a read of a text, by its answer
pub text_at : (a b : Option (List ℕ)) (r s : Result Text Unread) → r ≡ s → ReadsText a b r → ReadsText a b s
text_at a b r s is reads = subst (ReadsText a b) is reads

-- what one read did, by its answer
pub reads_at : (a b : Option (List ℕ)) (old new : List ℕ) (r s : Result Piece Unread) → r ≡ s → ReadsOn a b old new r → ReadsOn a b old new s
reads_at a b old new r s is reads = subst (ReadsOn a b old new) is reads

pub ok_is_no_fault : (r : Result Piece Unread) (piece : Piece) (unread : Unread) → r ≡ Ok piece → r ≡ Err unread → ⊥
ok_is_no_fault r piece unread is fails = let both : Ok piece ≡ Err unread = sym is ∙ fails in cc

pub consumed_more : (a b c : Option (List ℕ)) (text new : List ℕ) → Consumes a b text → Took b c text new → Consumes a c new
consumed_more a b c text new read took = subst (Consumes a c) (sym took.joined) (Consumes-then a b c text took.octets read took.consumed)

-- nothing was read yet
pub begin_read : (left : Option (List ℕ)) (text : List ℕ) → text ≡ [] → Consumes left left text
begin_read left text none = subst (Consumes left left) (sym none) (Consumes-nothing left)

-- the room for a piece stays
pub room_stays : (n : ℕ) (new items : List ℕ) → n ≡ length items → length items ≡ piece_limit → length (take n (new ++ drop (length new) items)) ≡ piece_limit
room_stays n new items all room =
    let within : n ≤ length (new ++ drop (length new) items) = omega (arith, length-append new (drop (length new) items), length-drop (length new) items) in
    length-take-le n (new ++ drop (length new) items) within ∙ all ∙ room

-- want of memory before anything was read
pub none_read : (left : Option (List ℕ)) → ReadPart left left (text_limit + piece_limit)
none_read left = record { text = []; consumed = Consumes-nothing left; least = omega arith }

module _ (left mid left' : Option (List ℕ)) (text : List ℕ) (read : Consumes left mid text) (within : length text ≤ text_limit) where
  -- the end of the input
  pub whole_read : (new : List ℕ) → (new ≡ text) × Keeps mid left' × IsAtEnd left' → ReadWhole left left' new
  whole_read new end =
      subst (ReadWhole left left') (sym end.0) (record { consumed = consumed_kept left mid left' text read end.1; at_end = end.2; within = within })

  -- the octet past the limit
  pub past_read : (line : ℕ) → TookPast mid left' text line → ReadPast left left' line
  past_read line took = record {
    text = text ++ took.octets;
    consumed = Consumes-then left mid left' text took.octets read took.consumed;
    too_long = took.too_long;
    least = omega (arith, within, took.least, length-append text took.octets);
  }

  -- a fault of the source, or want of memory for what was read
  pub part_read : (new : List ℕ) (unread : Unread) → ReadsOn mid left' text new (Err unread) → ReadsText left left' (Err unread)
  part_read new unreads.Failed kept = record { text = text; consumed = consumed_kept left mid left' text read kept; least = within }
  part_read new unreads.Memory gone = record {
    text = text ++ gone.octets;
    consumed = Consumes-then left mid left' text gone.octets read gone.consumed;
    least = omega (arith, within, gone.least, length-append text gone.octets);
  }

-- ---- what was written

module _ (left left' kept kept' : Option (List ℕ)) where
  pub ends_text : (text : List ℕ) → ReadWhole left left' text → (how : Migration) → PutsText text kept kept' how → Ended how left left' kept kept'
  ends_text text read ends.Done put = record { text = text; read = read; written = put }
  ends_text text read (ends.TooLong line) put = absurd put
  ends_text text read ends.ReadFault put = absurd put
  ends_text text read ends.WriteFault put = record { octets = migrated text; due = inl (record { text = text; read = read; are = refl }); written = put }
  ends_text text read ends.Memory put = inr (record { octets = migrated text; due = inl (record { text = text; read = read; are = refl }); written = put })

  pub ends_refused : (line : ℕ) → ReadPast left left' line → (how : Migration) → PutsRefusal line kept kept' how → Ended how left left' kept kept'
  ends_refused line read ends.Done put = absurd put
  ends_refused line read (ends.TooLong number) put =
      subst (λ n. Ended (ends.TooLong n) left left' kept kept') (sym put.0) (record { read = read; written = put.1 })
  ends_refused line read ends.ReadFault put = absurd put
  ends_refused line read ends.WriteFault put =
      record { octets = too_long_line line; due = inr (record { line = line; read = read; are = refl }); written = put }
  ends_refused line read ends.Memory put =
      inr (record { octets = too_long_line line; due = inr (record { line = line; read = read; are = refl }); written = put })

pub ends_failed : (left left' kept : Option (List ℕ)) → ReadPart left left' text_limit → Ended ends.ReadFault left left' kept kept
ends_failed left left' kept read = record { read = read; written = keeps_same kept }

pub ends_wanting : (left left' kept : Option (List ℕ)) → ReadPart left left' (text_limit + piece_limit) → Ended ends.Memory left left' kept kept
ends_wanting left left' kept read = inl (record { read = read; written = keeps_same kept })
