-- A line more changes the last subgroup alone.
use Rattle.announcement_train.proofs.Prelude.{ℕ, ◌≡◌, List, [], ◌∷◌, ◌++◌, Option, None, Some, refl, sym, ap, ◌∙◌, append-nil, append_assoc, with_last}
use Rattle.std.specs.Prelude.{unwrap_or}
use Rattle.std.specs.Option.{option_or}
use Rattle.base_grammar.specs.declared.subgroup.BaseEntry.{BaseEntry}
use Rattle.base_grammar.specs.declared.subgroup.Subgroup.{Subgroup}
use Rattle.announcement_train.specs.BaseLines.{BaseLine, opens, describes, adds, subgroups_before, subgroups_in}

last_changes : (change : Subgroup → Subgroup) (before : List Subgroup) (s : Subgroup) → with_last change (before ++ s ∷ []) ≡ before ++ change s ∷ []
last_changes change [] s = refl
last_changes change (one ∷ []) s = refl
last_changes change (one ∷ other ∷ others) s = ap (λ ss. one ∷ ss) (last_changes change (other ∷ others) s)

last_changes_on : (first then both : Subgroup → Subgroup) (ss : List Subgroup) → ((s : Subgroup) → then (first s) ≡ both s)
    → with_last then (with_last first ss) ≡ with_last both ss
last_changes_on first then both [] same = refl
last_changes_on first then both (s ∷ []) same = ap (λ x. x ∷ []) (same s)
last_changes_on first then both (s ∷ other ∷ []) same = ap (λ ss. s ∷ ss) (last_changes_on first then both (other ∷ []) same)
last_changes_on first then both (s ∷ other ∷ more ∷ others) same = ap (λ ss. s ∷ ss) (last_changes_on first then both (other ∷ more ∷ others) same)

-- what is said behind the lines of the last subgroup
abbrev filled : List BaseEntry → Option (List ℕ) → Subgroup → Subgroup
filled entries metadata s = record { codec = s.codec; config = s.config; metadata = unwrap_or metadata s.metadata; entries = s.entries ++ entries }

with_entries : (s : Subgroup) (metadata : List ℕ) (these those : List BaseEntry) → these ≡ those
    → (let one : Subgroup = record { codec = s.codec; config = s.config; metadata = metadata; entries = these } in
    let other : Subgroup = record { codec = s.codec; config = s.config; metadata = metadata; entries = those } in one ≡ other)
with_entries s metadata these those same = rw same refl

described_then : (entries : List BaseEntry) (metadata : Option (List ℕ)) (said : List ℕ) (s : Subgroup)
    → filled entries metadata (filled [] (Some said) s) ≡ filled entries (option_or metadata (Some said)) s
described_then entries None said s = with_entries s said ((s.entries ++ []) ++ entries) (s.entries ++ entries) (ap (λ es. es ++ entries) (append-nil s.entries))
described_then entries (Some last) said s = with_entries s last ((s.entries ++ []) ++ entries) (s.entries ++ entries) (ap (λ es. es ++ entries) (append-nil s.entries))

added_then : (entries : List BaseEntry) (metadata : Option (List ℕ)) (e : BaseEntry) (s : Subgroup) → filled entries metadata (filled (e ∷ []) None s) ≡ filled (e ∷ entries) metadata s
added_then entries metadata e s =
    with_entries s (unwrap_or metadata s.metadata) ((s.entries ++ e ∷ []) ++ entries) (s.entries ++ e ∷ entries) (append_assoc s.entries (e ∷ []) entries)

said_behind : (entries : List BaseEntry) (metadata : Option (List ℕ)) (lines : List BaseLine) → subgroups_before entries metadata lines ≡ with_last (filled entries metadata) (subgroups_in lines)
said_behind entries metadata [] = refl
said_behind entries metadata (opens codec config ∷ earlier) =
    sym (last_changes (filled entries metadata) (subgroups_in earlier) (record { codec = codec; config = config; metadata = []; entries = [] }))
said_behind entries metadata (describes said ∷ earlier) =
    said_behind entries (option_or metadata (Some said)) earlier
    ∙ sym (ap (with_last (filled entries metadata)) (said_behind [] (Some said) earlier)
    ∙ last_changes_on (filled [] (Some said)) (filled entries metadata) (filled entries (option_or metadata (Some said))) (subgroups_in earlier) (described_then entries metadata said))
said_behind entries metadata (adds bis config ∷ earlier) =
    let e : BaseEntry = record { bis = bis; config = config } in
    said_behind (e ∷ entries) metadata earlier ∙ sym (ap (with_last (filled entries metadata)) (said_behind (e ∷ []) None earlier)
    ∙ last_changes_on (filled (e ∷ []) None) (filled entries metadata) (filled (e ∷ entries) metadata) (subgroups_in earlier) (added_then entries metadata e))

same_on_last : (one other : Subgroup → Subgroup) (ss : List Subgroup) → ((s : Subgroup) → one s ≡ other s) → with_last one ss ≡ with_last other ss
same_on_last one other [] same = refl
same_on_last one other (s ∷ []) same = ap (λ x. x ∷ []) (same s)
same_on_last one other (s ∷ next ∷ others) same = ap (λ ss. s ∷ ss) (same_on_last one other (next ∷ others) same)

pub describes_last : (said : List ℕ) (lines : List BaseLine) → subgroups_in (describes said ∷ lines) ≡ with_last (λ s. record s { metadata = said }) (subgroups_in lines)
describes_last said lines =
    said_behind [] (Some said) lines
    ∙ same_on_last (filled [] (Some said)) (λ s. record s { metadata = said }) (subgroups_in lines) (λ s. with_entries s said (s.entries ++ []) s.entries (append-nil s.entries))

pub adds_to_last : (e : BaseEntry) (lines : List BaseLine) → subgroups_in (adds e.bis e.config ∷ lines) ≡ with_last (λ s. record s { entries = s.entries ++ e ∷ [] }) (subgroups_in lines)
adds_to_last e lines = said_behind (e ∷ []) None lines
