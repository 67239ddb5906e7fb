-- What is promised of the explanation of a document.
use Rattle.explain_command.proofs.Prelude.{◌≡◌, ℕ, ◌+◌, true, List, Option, Some, Ok, Err, refl, ap, subst, inl, inr, Keeps, AppendsPrefix, AppendsShort, Account, DocumentIs, EndsSo, Told, refused_for, stands_for, cause_line, ending_is, failed_toml, ran_toml, refused_toml, wanting_toml, keeps_itself}
use Rattle.bcast_base.specs.Counts.{Rose}
use Rattle.bcast_io.specs.Documents.{ReadPrefix, document_limit}
use Rattle.replay_lines.specs.declared.cause.Cause.{Cause}
use Rattle.replay_lines.specs.declared.ending.Ending.{Ending}
use Rattle.replay_lines.specs.declared.ending.Ending.TheVariants as endings
use Rattle.replay_lines.specs.FromToml.{DocumentLaws, TomlEnding}
use Rattle.replay_lines.specs.Heard.{as_told}
use Rattle.replay_lines.specs.State.Runs.{Refuses, RefusesDocument, over_text}
use Rattle.replay_lines.specs.World.{World}
use Rattle.explain_command.specs.ToldDocument.{LinesOf, RefusalTold, ToldDocument, as_told_of, stopped_for}

-- the outside behind the run of a document
abbrev pub behind : Option (List ℕ) → ℕ → Option (List ℕ) → ℕ → List Account → World
behind left reads taken writes boxes = record { left = left; reads = reads; taken = taken; writes = writes; boxes = boxes }

prefix_of_short : (kept kept' : Option (List ℕ)) (octets : List ℕ) → AppendsShort kept kept' octets → AppendsPrefix kept kept' octets
prefix_of_short kept kept' octets p = record { prefix = p.prefix; rest = p.rest; whole = p.whole; appended = p.appended }

-- ---- a refused document

module _ (cause : Cause) (kept taken : Option (List ℕ)) where
  puts_as_told : (ran : TomlEnding) → Refuses cause kept taken ran → Refuses cause kept taken (as_told_of ran)
  puts_as_told (Err why) puts = puts
  puts_as_told (Ok endings.Done) puts = absurd puts
  puts_as_told (Ok (endings.Refused line reason)) puts = absurd puts
  puts_as_told (Ok endings.ReadFault) puts = absurd puts
  puts_as_told (Ok endings.WriteFault) puts = prefix_of_short kept taken (cause_line cause) puts
  puts_as_told (Ok endings.OutletFault) puts = absurd puts
  puts_as_told (Ok endings.Memory) puts = puts

  no_fault_told : (ran : TomlEnding) → Refuses cause kept taken ran → as_told_of ran ≡ Ok endings.WriteFault → ⊥
  no_fault_told (Err why) puts is = cc
  no_fault_told (Ok endings.Done) puts is = cc
  no_fault_told (Ok (endings.Refused line reason)) puts is = cc
  no_fault_told (Ok endings.ReadFault) puts is = cc
  no_fault_told (Ok endings.WriteFault) puts is = cc
  no_fault_told (Ok endings.OutletFault) puts is = cc
  no_fault_told (Ok endings.Memory) puts is = cc

  refused_as_told : (boxes : List Account) (writes : ℕ) (ran : TomlEnding) → Refuses cause kept taken ran
      → RefusesDocument cause boxes boxes kept taken writes writes (as_told_of ran)
  refused_as_told boxes writes ran puts = record {
    boxes = refl;
    puts = puts_as_told ran puts;
    write_fault = λ is. absurd (no_fault_told ran puts is);
    no_write_fault = λ other. refl;
  }

  none_told : (left left' before after : Option (List ℕ)) (ran : TomlEnding) → Refuses cause kept taken ran → Keeps before after
      → LinesOf left left' before after ran
  none_told left left' before after (Err why) puts keeps = keeps
  none_told left left' before after (Ok endings.Done) puts keeps = absurd puts
  none_told left left' before after (Ok (endings.Refused line reason)) puts keeps = absurd puts
  none_told left left' before after (Ok endings.ReadFault) puts keeps = absurd puts
  none_told left left' before after (Ok endings.WriteFault) puts keeps = inr (tt, keeps)
  none_told left left' before after (Ok endings.OutletFault) puts keeps = absurd puts
  none_told left left' before after (Ok endings.Memory) puts keeps = inr (tt, keeps)

module _ (old : World) (left : Option (List ℕ)) (reads : ℕ) (before : Option (List ℕ)) (laws : DocumentLaws old.boxes) where
  pub told_refused : (kept' : Option (List ℕ)) (writes' : ℕ) (after : Option (List ℕ)) (cause : Cause) (result : TomlEnding)
      → DocumentIs old.left left (refused_for cause) → reads ≡ old.reads
      → RefusalTold cause old.taken kept' old.writes writes' before after result
      → ToldDocument old (behind left reads kept' writes' old.boxes) before after result
  told_refused kept' writes' after cause result document same r = record {
    ran = r.ran;
    taken = r.taken;
    writes = r.then_writes;
    run = record {
      run = refused_toml old (behind left reads r.taken old.writes old.boxes) cause (as_told_of r.ran) document
          (refused_as_told cause old.taken r.taken old.boxes old.writes r.ran r.puts) same laws;
      write_fault = r.write_fault;
      no_write_fault = r.no_write_fault;
    };
    lines = after;
    told = none_told cause old.taken r.taken old.left left before after r.ran r.puts r.lines_kept;
    lines_kept = keeps_itself after;
    kept = r.taken_kept;
    ends = r.ends;
  }

  -- ---- a document that wasn't read, or not run

  pub told_unread : ReadPrefix document_limit old.left left → Rose old.reads reads
      → ToldDocument old (behind left reads old.taken old.writes old.boxes) before before (Ok endings.ReadFault)
  told_unread prefix rose = record {
    ran = Ok endings.ReadFault;
    taken = old.taken;
    writes = old.writes;
    run = record { run = failed_toml old left reads prefix rose laws; write_fault = λ is. absurd cc; no_write_fault = λ other. refl };
    lines = before;
    told = inr (tt, keeps_itself before);
    lines_kept = keeps_itself before;
    kept = keeps_itself old.taken;
    ends = inl (refl, refl);
  }

  pub told_wanting : ReadPrefix (document_limit + 1) old.left left → reads ≡ old.reads
      → ToldDocument old (behind left reads old.taken old.writes old.boxes) before before (Ok endings.Memory)
  told_wanting prefix same = record {
    ran = Ok endings.Memory;
    taken = old.taken;
    writes = old.writes;
    run = record { run = wanting_toml old left reads prefix same laws; write_fault = λ is. absurd cc; no_write_fault = λ other. refl };
    lines = before;
    told = inr (tt, keeps_itself before);
    lines_kept = keeps_itself before;
    kept = keeps_itself old.taken;
    ends = inl (refl, refl);
  }

-- ---- a document whose lines were run

ends_in : (ran ending : Ending) (writes writes' : ℕ) → EndsSo (λ fault. fault) ran ending writes writes'
    → EndsSo stopped_for (stopped_for ran) (stopped_for ending) writes writes'
ends_in ran ending writes writes' ends = elim ends [
  | inl p ↦ inl (ap stopped_for p.0, p.1)
  | inr other ↦ elim other [
    | inl p ↦ inr (inl (ap stopped_for p.0, p.1))
    | inr p ↦ inr (inr (ap stopped_for p.0, p.1))
  ]
]

module _ (old : World) (left rest : Option (List ℕ)) (reads : ℕ) (kept' : Option (List ℕ)) (writes' : ℕ) (boxes : List Account)
    (before after : Option (List ℕ)) (text : List ℕ) (ending : Ending) where
  pub told_ran : DocumentIs old.left left (stands_for text) → reads ≡ old.reads
      → Told (over_text (Some text) old.taken old.writes old.boxes) (over_text rest kept' writes' boxes) before after ending
      → ToldDocument old (behind left reads kept' writes' boxes) before after (Ok ending)
  told_ran document same t = record {
    ran = Ok t.ran;
    taken = t.taken;
    writes = t.writes;
    run = record {
      run = ran_toml old (behind left reads t.taken old.writes boxes) text document rest (as_told true t.ran) t.run.run same;
      write_fault = λ is. t.run.write_fault (ending_is t.ran endings.WriteFault is);
      no_write_fault = λ other. t.run.no_write_fault (λ is. other (ap Ok is));
    };
    lines = t.lines;
    told = inl (record { text = text; document = document; rest = rest; told = t.told });
    lines_kept = t.lines_kept;
    kept = t.kept;
    ends = ends_in t.ran ending t.writes writes' t.ends;
  }

  pub told_text : (had : List ℕ) → had ≡ text → DocumentIs old.left left (stands_for text) → reads ≡ old.reads
      → Told (over_text (Some had) old.taken old.writes old.boxes) (over_text rest kept' writes' boxes) before after ending
      → ToldDocument old (behind left reads kept' writes' boxes) before after (Ok ending)
  told_text had is document same t =
      told_ran document same
      (subst (λ h. Told (over_text (Some h) old.taken old.writes old.boxes) (over_text rest kept' writes' boxes) before after ending) is t)
