-- What is promised where a document wasn't read or is refused, and of the laws.
use Rattle.replay_lines.proofs.Prelude.{Account, None, ◌≡◌, ℕ, ◌+◌, true, List, refl, Option, Ok, arith, Rose, ReadPrefix, document_limit, Promised, World, Ending, lines_of, AppendsPrefix, AppendsPrefix-nothing, MeetAirs, Airs, none_counts, DocumentLaws, FromToml, Standing, refused_for, stands_for, transcript_over, Some, [], Err, inl, Appends, Took, took_all, took_stay, DocumentIs, Cut, TomlComplete, TomlEnding, Written, cause_line, RefusesDocument}
use Rattle.replay_lines.specs.declared.ending.Ending.TheVariants as endings
use Rattle.replay_lines.specs.FromToml.{Unread}
use Rattle.replay_lines.proofs.Endings.{keeps_same}
use Rattle.replay_lines.specs.declared.cause.Cause.{Cause}
use Rattle.replay_lines.proofs.Reading.{document_told, prefix_read}

-- the laws that are promised of every run
pub laws_of : (old new : World) (ending : Ending) → Promised old new ending → DocumentLaws old.boxes
laws_of old new ending p = assumption one_over
  where
    one_over : (airs others : Airs) → MeetAirs airs → MeetAirs others → (standing : Standing)
        → transcript_over airs old.boxes standing ≡ transcript_over others old.boxes standing
    one_over airs others meets meet_too (refused_for cause) = refl
    one_over airs others meets meet_too (stands_for text) = p.one_transcript airs others meets meet_too (lines_of true text)

-- so of every document
pub laws_at : ((old : World) → Promised old old endings.Memory) → (boxes : List Account) → DocumentLaws boxes
laws_at promised boxes =
    let old : World = record { left = None; reads = 0; taken = None; writes = 0; boxes = boxes } in laws_of old old endings.Memory
    (promised old)

-- nothing was put
pub nothing_put : (kept : Option (List ℕ)) (octets : List ℕ) → AppendsPrefix kept kept octets
nothing_put kept octets = AppendsPrefix-nothing kept kept octets (keeps_same kept)

-- what is outside once some of a document was read
abbrev pub after_reads : World → Option (List ℕ) → ℕ → World
after_reads old left reads = record { left = left; reads = reads; taken = old.taken; writes = old.writes; boxes = old.boxes }

module _ (old : World) (left : Option (List ℕ)) (reads : ℕ) where
  none_written : (most : ℕ) → ReadPrefix most old.left left → Unread most old (after_reads old left reads)
  none_written most prefix = record { read = prefix; written = keeps_same old.taken; boxes = refl }

  longer : ReadPrefix document_limit old.left left → ReadPrefix (document_limit + 1) old.left left
  longer prefix = record { octets = prefix.octets; consumed = prefix.consumed; least = omega (arith, prefix.least) }

  pub failed_toml : ReadPrefix document_limit old.left left → Rose old.reads reads → DocumentLaws old.boxes
      → FromToml old (after_reads old left reads) (Ok endings.ReadFault)
  failed_toml prefix rose laws = grind (arith, none_written, longer, none_counts)

  pub wanting_toml : ReadPrefix (document_limit + 1) old.left left → reads ≡ old.reads → DocumentLaws old.boxes
      → FromToml old (after_reads old left reads) (Ok endings.Memory)
  wanting_toml prefix same laws = grind (arith, none_written, none_counts)

-- ---- a document that is refused before any line of it is run

module _ (old new : World) (cause : Cause) (result : TomlEnding) (document : DocumentIs old.left new.left (refused_for cause))
    (put : RefusesDocument cause old.boxes new.boxes old.taken new.taken old.writes new.writes result) where
  took_none : Took old.boxes new.boxes []
  took_none = rw put.boxes (took_all old.boxes [])

  cut_of : AppendsPrefix old.taken new.taken (cause_line cause) → Cut old new
  cut_of prefix = λ airs meets. record {
    standing = refused_for cause;
    document = document;
    written = prefix;
    boxes = inl (record { done = []; rest = []; split = refl; boxes = took_none });
  }

  written_of : Appends old.taken new.taken (cause_line cause) → Written (Err cause) old new
  written_of written airs meets = record {
    standing = refused_for cause;
    document = document;
    ends_so = refl;
    written = written;
    boxes = took_none;
  }

  complete_at : (airs : Airs) → TomlComplete airs (refused_for cause) old.boxes new.boxes old.reads new.reads old.writes new.writes result
  complete_at airs = grind (arith, put)

  pub refused_toml : new.reads ≡ old.reads → DocumentLaws old.boxes → FromToml old new result
  refused_toml reads laws =
      let told = λ (text : List ℕ) (tells : old.left ≡ Some text). document_told old.left new.left text tells (refused_for cause)
      document in
      let prefix = prefix_read old.left new.left (refused_for cause) document in
      grind (arith, cut_of, written_of, none_counts, took_stay, took_none, complete_at, told)
