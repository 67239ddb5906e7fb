-- How a text grows by the parts of a document, one after the other.
use Rattle.scenario_toml.proofs.Prelude.{◌≡◌, ℕ, ◌+◌, ◌<◌, true, false, cond, List, [], ◌∷◌, ◌++◌, length, drop, get_or, map, Option, None, Some, Result, Ok, Err, refl, sym, ap, ◌∙◌, append_assoc, items_view, after, both, field, words, field_of}
use Rattle.std.specs.Bool.{⊤}
use Rattle.std.proofs.lemmas.Option.{same_Some}
use Rattle.std.proofs.lemmas.List.{drop_more}
use Rattle.std.proofs.lemmas.Str.{IsUtf8-from_is_utf8, is_utf8-from_IsUtf8}
use Rattle.std.specs.Str.{IsUtf8, is_utf8}
use Rattle.toml.specs.Data.{Members}
use Rattle.toml.specs.Parse.{parse_document}
use Rattle.toml.specs.declared.value.Value.{Value}
use Rattle.scenario_toml.specs.Document.{meaning_of, meaning_in_keys, meaning_of_members, no_toml, two_texts}
use Rattle.scenario_toml.specs.declared.fields.Field.{Field as CodeField}
use Rattle.scenario_toml.specs.State.Growth.{Grows}
use Rattle.scenario_toml.specs.declared.fault.TomlFault.{TomlFault}
use Rattle.scenario_toml.specs.declared.fault.TomlFault.TheVariants as faults

none_is_some : (octets : List ℕ) (some : Option (List ℕ)) → some ≡ Some octets → some ≡ None → ⊥
none_is_some octets some is none = let both : Some octets ≡ None = sym is ∙ none in cc

-- a part that was put leaves what follows it
pub after_both : (prefix back : Option (List ℕ)) (old mid : List ℕ) → after old prefix ≡ Some mid
    → after old (both prefix back) ≡ after mid back
after_both None back old mid put = absurd (none_is_some mid None put refl)
after_both (Some prefix) None old mid put = refl
after_both (Some prefix) (Some back) old mid put = ap Some (sym (append_assoc old prefix back) ∙ ap (λ l. l ++ back) (same_Some _ _ put))

-- no part, no both
pub both_none : (prefix back : Option (List ℕ)) → prefix ≡ None → both prefix back ≡ None
both_none None back none = refl
both_none (Some prefix) back none = absurd (none_is_some prefix (Some prefix) refl none)

pub after_none : (old : List ℕ) (part : Option (List ℕ)) → after old part ≡ None → part ≡ None
after_none old None none = refl
after_none old (Some part) none = absurd (none_is_some (old ++ part) _ refl none)

-- one part was put, and then the other
pub goes : (prefix back : Option (List ℕ)) (old mid new : List ℕ) (r : Result ⊤ TomlFault) → after old prefix ≡ Some mid
    → Grows back mid new r → Grows (both prefix back) old new r
goes prefix back old mid new (Ok done) put grows = after_both prefix back old mid put ∙ grows
goes prefix back old mid new (Err faults.BadToml) put grows = grows
goes prefix back old mid new (Err faults.BadDocument) put grows =
    after_none old _ (after_both prefix back old mid put ∙ ap (after mid) grows)
goes prefix back old mid new (Err faults.Memory) put grows = tt

-- the first part was not put
pub stops : (prefix back : Option (List ℕ)) (old new new' : List ℕ) (fault : TomlFault) → Grows prefix old new (Err fault)
    → Grows (both prefix back) old new' (Err fault)
stops prefix back old new new' faults.BadToml grows = grows
stops prefix back old new new' faults.BadDocument grows = both_none prefix back grows
stops prefix back old new new' faults.Memory grows = tt

-- a loop over keys: what is left of the whole when one more word was put
pub words_goes : (keys : List CodeField) (i : ℕ) (key : CodeField) (table : Members) (text text' : List ℕ) → i < length keys
    → after text (field (field_of (get_or keys i key)) table) ≡ Some text'
    → after text (words (map field_of (drop i keys)) table) ≡ after text' (words (map field_of (drop (i + 1) keys)) table)
words_goes keys i key table text text' within put =
    rw (drop_more keys i key within)
    (after_both (field (field_of (get_or keys i key)) table) (words (map field_of (drop (i + 1) keys)) table) text text' put)

-- another number of texts than two
pub not_two : (values : List Value) → (length values ≡ 2 → ⊥) → two_texts (Some (items_view values)) ≡ None
not_two [] not = refl
not_two (a ∷ []) not = refl
not_two (a ∷ b ∷ []) not = absurd (not refl)
not_two (a ∷ b ∷ c ∷ others) not = refl

-- what a document in TOML means
pub means : (octets : List ℕ) (members : Members) → IsUtf8 octets × (parse_document octets ≡ Some members)
    → meaning_of octets ≡ meaning_in_keys members
unfolding meaning_of
means octets given parsed = rw (is_utf8-from_IsUtf8 octets parsed.0, parsed.1) refl

-- what octets mean that are none
pub means_nothing : (octets : List ℕ) → (IsUtf8 octets → parse_document octets ≡ None) → meaning_of octets ≡ no_toml
unfolding meaning_of
means_nothing octets refused =
    elim (is_utf8 octets) as (λ b. is_utf8 octets ≡ b → cond b (meaning_of_members (parse_document octets)) no_toml ≡ no_toml) [
      | true ↦ λ is. ap meaning_of_members (refused (IsUtf8-from_is_utf8 octets is))
      | false ↦ λ is. refl
    ] refl
