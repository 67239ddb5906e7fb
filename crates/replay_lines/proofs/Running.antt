-- What is promised of a document whose lines were run, by a source in memory.
use Rattle.replay_lines.proofs.Prelude.{◌≡◌, ℕ, ◌++◌, ◌∷◌, true, List, reverse, refl, sym, ap, ◌∙◌, append_assoc, arith, Option, Some, Ok, inl, inr, append-nil, Rose, AppendsPrefix-of_more, TextLine, lines_of, through, refused, Complete, Promised, Broken, Comes, Done, FaultCut, OutletFaulted, RefusedAt, World, Ending, Airs, Refusal, Account, DocumentIs, FaultCutIn, TomlCut, TomlOutlet, TomlWritten, FromToml, TomlComplete, TomlEnding, stands_for, over_text}
use Rattle.replay_lines.specs.declared.ending.Ending.TheVariants as endings
use Rattle.replay_lines.proofs.Completing.{rest_of}
use Rattle.replay_lines.proofs.Prefixes.{transcript_more, units_of_more}
use Rattle.replay_lines.proofs.Reading.{document_told, prefix_read}
use Rattle.replay_lines.proofs.Unread.{laws_of}

-- a source in memory counts no fault
pub never_fails : ¬ Rose 0 0
never_fails rose = omega (arith, rose.0)

abbrev pub ran : Ending → TomlEnding
ran ending = Ok ending

pub ending_is : (ending other : Ending) → ran ending ≡ ran other → ending ≡ other
ending_is ending other is = cc

module _ (airs : Airs) (starts ends : List Account) (text : List ℕ) (left kept kept' : Option (List ℕ)) where
  -- the line among those of the text
  line_in : (earlier : List TextLine) (line : TextLine) → Comes (Some text) left earlier line
      → (later : List TextLine) × (lines_of true text ≡ reverse earlier ++ line ∷ later)
  line_in earlier line comes =
      let rest = rest_of text (Some text) left comes.text comes.over refl comes.read in
      let at = comes.lines true rest.0 rest.2 in
      (at.0, ap (lines_of true) rest.1 ∙ at.1)

  fault_in : FaultCut airs starts ends (Some text) left kept kept' → FaultCutIn airs starts ends kept kept' (lines_of true text)
  fault_in cut = let at = line_in cut.earlier cut.line cut.comes in search

module _ (old new : World) (text : List ℕ) (document : DocumentIs old.left new.left (stands_for text)) (left : Option (List ℕ)) where
  done_in : (airs : Airs) → Done airs old.boxes new.boxes (Some text) left old.taken new.taken
      → TomlWritten airs old.boxes new.boxes old.left new.left old.taken new.taken (Ok through)
  done_in airs done =
      let rest = rest_of text (Some text) left done.text true refl done.read in
      let same : done.text ≡ text = sym (rest.1 ∙ ap (λ more. done.text ++ more) (rest.2 refl).1 ∙ append-nil done.text) in
      record {
        standing = stands_for text;
        document = document;
        ends_so = ap Ok (rw same at done.through_all);
        written = rw same at done.written;
        boxes = rw same at done.boxes;
      }

  refused_in : (airs : Airs) (line : ℕ) (reason : Refusal)
      → RefusedAt airs old.boxes new.boxes (Some text) left old.taken new.taken line reason
      → TomlWritten airs old.boxes new.boxes old.left new.left old.taken new.taken (Ok (refused line reason))
  refused_in airs line reason at =
      let rest = rest_of text (Some text) left at.text at.over refl at.read in
      record {
        standing = stands_for text;
        document = document;
        ends_so = ap Ok (rw rest.1 (at.ends_so true rest.0 rest.2));
        written = rw (rest.1, at.transcript true rest.0 rest.2) at.written;
        boxes = rw (rest.1, at.handed true rest.0 rest.2) at.boxes;
      }

  cut_in : (airs : Airs) → Broken airs old.boxes new.boxes (Some text) left old.taken new.taken
      → TomlCut airs old.boxes new.boxes old.left new.left old.taken new.taken
  cut_in airs broken =
      let rest = rest_of text (Some text) left broken.text broken.over refl broken.read in
      let octets = transcript_more airs old.boxes broken.over text broken.text rest.0 rest.1 rest.2 in
      let units = units_of_more airs old.boxes broken.over text broken.text rest.0 rest.1 rest.2 in
      record {
        standing = stands_for text;
        document = document;
        written = rw octets.1 (AppendsPrefix-of_more old.taken new.taken _ octets.0 broken.written);
        boxes = elim broken.boxes [
          | inl cut ↦ inl (record {
            done = cut.done;
            rest = cut.rest ++ units.0;
            split = units.1 ∙ ap (λ us. us ++ units.0) cut.split ∙ simp append_assoc;
            boxes = cut.boxes;
          })
          | inr failed ↦ inr (fault_in airs old.boxes new.boxes text left old.taken new.taken failed)
        ];
      }

  outlet_in : (airs : Airs) → OutletFaulted airs old.boxes new.boxes (Some text) left old.taken new.taken
      → TomlOutlet airs old.boxes new.boxes old.left new.left old.taken new.taken
  outlet_in airs failed =
      let at = line_in airs old.boxes new.boxes text left old.taken new.taken failed.earlier failed.line failed.comes in
      record {
        standing = stands_for text;
        document = document;
        earlier = failed.earlier;
        line = failed.line;
        later = at.0;
        comes = at.1;
        accepted = failed.accepted;
        accounts = failed.accounts;
        before = failed.before;
        told = failed.told;
        fails = failed.fails;
        written = failed.written;
      }

  complete_in : (airs : Airs) (reads reads' : ℕ) (ending : Ending) → Complete airs text old.boxes new.boxes 0 0 old.writes new.writes ending
      → TomlComplete airs (stands_for text) old.boxes new.boxes reads reads' old.writes new.writes (Ok ending)
  complete_in airs reads reads' ending complete = grind (arith, never_fails, complete.through_all, complete.room, complete.no_fault)

  pub ran_toml : (ending : Ending)
      → Promised (over_text (Some text) old.taken old.writes old.boxes) (over_text left new.taken new.writes new.boxes) ending
      → new.reads ≡ old.reads → FromToml old new (Ok ending)
  ran_toml ending p reads =
      record {
        done = λ is airs meets. done_in airs (p.done (ending_is ending endings.Done is) airs meets);
        refused = λ line reason is airs meets.
            refused_in airs line reason (p.refused line reason (ending_is ending (endings.Refused line reason) is) airs meets).0;
        document_refused = λ cause is. absurd cc;
        read_fault = λ is. absurd (never_fails (p.read_fault (ending_is ending endings.ReadFault is)).0);
        write_fault = λ is.
            let w = p.write_fault (ending_is ending endings.WriteFault is) in
            (w.0, λ airs meets. cut_in airs (w.1 airs meets).0);
        outlet_fault = λ is airs meets. outlet_in airs (p.outlet_fault (ending_is ending endings.OutletFault is) airs meets);
        memory = λ is. inr (λ airs meets. cut_in airs (p.memory (ending_is ending endings.Memory is) airs meets));
        no_read_fault = λ other. reads;
        no_write_fault = λ other. p.no_write_fault (λ is. other (ap Ok is));
        no_outlet_fault = λ airs meets other. elim (p.no_outlet_fault airs meets (λ is. other (ap Ok is))) [
          | inl stay ↦ inl stay
          | inr failed ↦
              let cut = fault_in airs old.boxes new.boxes text left old.taken new.taken failed.1 in
              inr (failed.0, record { standing = stands_for text; document = document; cut = cut })
        ];
        one_outlet_fault = p.one_outlet_fault;
        boxes = λ airs meets told tells whole.
            rw (document_told old.left new.left told tells (stands_for text) document) (p.boxes airs meets text refl whole);
        complete = λ airs meets told tells. rw (document_told old.left new.left told tells (stands_for text) document)
            (complete_in airs old.reads new.reads ending (p.complete airs meets text refl));
        reads_at_most = prefix_read old.left new.left (stands_for text) document;
        laws = laws_of (over_text (Some text) old.taken old.writes old.boxes) (over_text left new.taken new.writes new.boxes) ending p;
      }
