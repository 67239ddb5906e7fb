-- The values at the places of a row are within their ranges, and so are the numbers of its step.
use Rattle.scenario_text.proofs.Prelude.{◌≡◌, ◌≤◌, ℕ, Bool, cond, nat_eq, List, [], ◌∷◌, length, Option, None, Some, subst, arith, inl, inr, ⊤, same_Some, WordPlace, between, framing_word, time_up_to, octets_up_to, octets_exactly, number_in_octets, list_up_to, Place, one, perhaps, rising, wishes, WordValue, PlaceValue, IsOctets, MetadataFits, Step, IsInRange, Build, Row, Says, ForSome, Spells, SpellsWord, ◌▸◌}
use Rattle.ltv_codec.specs.Reading.{bad_of}
use Rattle.scenario_text.specs.Table as rows
use Rattle.scenario_text.specs.Table.{row_of}
use Rattle.scenario_text.proofs.Rows.{EachRow, of_each_row}
use Rattle.scenario_text.proofs.Octets.{AreOctets, decoded, are_octets, few_octets, wishes_spelled, add_octets, modify_octets}

abbrev pub InWord : (place : WordPlace) → WordValue place → Type 0
InWord (between least greatest) n = (least ≤ n) × (n ≤ greatest)
InWord framing_word n = n ≤ 1
InWord (time_up_to greatest) time = ⊤
InWord (octets_up_to most) octets = (length octets ≤ most) × IsOctets octets
InWord (octets_exactly count) octets = (length octets ≡ count) × IsOctets octets
InWord (number_in_octets count) n = ⊤
InWord (list_up_to most) octets = (length octets ≤ most) × (bad_of octets ≡ None) × IsOctets octets

abbrev pub InPlace : (place : Place) → PlaceValue place → Type 0
InPlace (one place) value = InWord place value
InPlace (perhaps least greatest) value = ForSome value (λ n. (least ≤ n) × (n ≤ greatest))
InPlace rising value = ⊤
InPlace (wishes most) value = (length value ≤ 31) × MetadataFits value × AreOctets value

-- each step that values in these places make is in its range
abbrev pub Within : (places : List Place) → Build places → Type 0
Within [] made = IsInRange made
Within (place ∷ places) build = (value : PlaceValue place) → InPlace place value → Within places (build value)

in_word : (place : WordPlace) (value : WordValue place) (word : List ℕ) → SpellsWord place value word → InWord place value
in_word (between least greatest) n word h = (h.1, h.2)
in_word framing_word n word h = elim h [ inl plain ↦ omega (arith, plain.0) | inr framed ↦ omega (arith, framed.0) ]
in_word (time_up_to greatest) time word h = tt
in_word (octets_up_to most) octets word h = (few_octets most octets word h, are_octets most octets word h)
in_word (octets_exactly count) octets word h = (h.1, decoded word octets h.0)
in_word (number_in_octets count) n word h = tt
in_word (list_up_to most) octets word h = (few_octets most octets word h.0, h.1, are_octets most octets word h.0)

some_within : (least greatest : ℕ) (value : Option ℕ) (words rest : List (List ℕ)) → Spells (perhaps least greatest) value words rest → ForSome value (λ n. (least ≤ n) × (n ≤ greatest))
some_within least greatest value words rest h n is = grind (arith, same_Some)

in_place : (place : Place) (value : PlaceValue place) (words rest : List (List ℕ)) → Spells place value words rest → InPlace place value
in_place (one place) value words rest h = in_word place value h.0 h.2
in_place (perhaps least greatest) value words rest h = some_within least greatest value words rest h
in_place rising value words rest h = tt
in_place (wishes most) value words rest h = let all = wishes_spelled value words h.2 in (h.0, all.0, all.1)

pub says_within : (places : List Place) (build : Build places) (made : Step) (words : List (List ℕ)) → Says places build made words → Within places build → IsInRange made
says_within [] built made words h within = subst IsInRange h.0 within
says_within (place ∷ places) build made words h within =
    says_within places (build h.0) made h.1 h.3 (within h.0 (in_place place h.0 words h.1 h.2))

-- ---- each row

abbrev RowWithin : Row → Type 0
RowWithin row = Within row.places row.build

group_within : RowWithin rows.group_row
group_within framing f origin o delay d iso i sdu s max_sdu ms max_pdu mp num_bis nb bn b nse n irc r pto p sub u spacing g phy y =
    grind arith

few_slots : (later : Bool) (slots : ℕ) → slots ≤ cond later 8 4 → slots ≤ 8
few_slots later slots few = grind arith

sink_within : (version : ℕ) → RowWithin (rows.sink_row version)
sink_within version v0 h0 v1 h1 v2 h2 v3 h3 = (h0.1, h1.0, h1.1, h2.0, few_slots (nat_eq version 2) v2 h2.1, h3)

add_within : RowWithin rows.add_row
add_within v0 h0 v1 h1 v2 h2 v3 h3 v4 h4 v5 h5 v6 h6 v7 h7 = (h0.1, h7.1, add_octets _ (grind arith))

modify_within : RowWithin rows.modify_row
modify_within v0 h0 v1 h1 v2 h2 v3 h3 v4 h4 = (h0.1, h4.1, modify_octets _ (omega (arith, h1.1)) (omega (arith, h2.1)) h4.0 h4.1 h4.2)

all_within : (version : ℕ) → EachRow RowWithin version
all_within version = record {
  -- unit, event, hear, air, inject, sniff
  of_events =
      (λ v0 h0 v1 h1 v2 h2. h2.0)
      ▸ tt
      ▸ (λ v0 h0 v1 h1 v2 h2 v3 h3. (h0.1, h1.1, h3.1))
      ▸ (λ v0 h0 v1 h1. h0.1)
      ▸ (λ v0 h0 v1 h1 v2 h2 v3 h3 v4 h4. (h0.1, h1.1, h3.1, h4.0))
      ▸ (λ v0 h0 v1 h1 v2 h2. (h0.1, h2.1))
      ▸ tt;
  -- scenario, group, start, sink, tuned, drop, stop, end
  first =
      (λ v0 h0. h0)
      ▸ group_within
      ▸ (λ v0 h0. omega (arith, h0.1))
      ▸ (sink_within version)
      ▸ (λ v0 h0 v1 h1. h0.1)
      ▸ (λ v0 h0. h0.1)
      ▸ tt
      ▸ tt
      ▸ tt;
  -- ident, subgroup, meta, bis, cipher, announce, train, terminate
  of_sources =
      (λ v0 h0 v1 h1 v2 h2 v3 h3. (h0.1, h1.0, h2.1, h3.0, h1.1, h3.1))
      ▸ (λ v0 h0 v1 h1. (h0.0, h1.0, h1.1, h0.1, h1.2))
      ▸ (λ v0 h0. h0)
      ▸ (λ v0 h0 v1 h1. (h1.0, h1.1, h1.2, h0.0, h0.1))
      ▸ (λ v0 h0 v1 h1. (h0.0, h1.0, h0.1, h1.1))
      ▸ (λ v0 h0. h0.1)
      ▸ (λ v0 h0 v1 h1 v2 h2 v3 h3 v4 h4. (h0.1, h1.1, h2.0, h3.0, h4.0, h2.1, h3.1, h4.1))
      ▸ (λ v0 h0. tt)
      ▸ tt;
  -- pac, locate, context, write, add, modify, remove, code
  of_sinks =
      (λ v0 h0 v1 h1 v2 h2 v3 h3. (h0.1, h1.0, h2.0, h3.0, h2.1, h3.1))
      ▸ (λ v0 h0 v1 h1. h0.1)
      ▸ (λ v0 h0 v1 h1 v2 h2. h0.1)
      ▸ (λ v0 h0 v1 h1. (h0.1, h1.0, h1.1))
      ▸ add_within
      ▸ modify_within
      ▸ (λ v0 h0 v1 h1. (h0.1, omega (arith, h1.1)))
      ▸ (λ v0 h0 v1 h1 v2 h2. (h0.1, h2.0, omega (arith, h1.1), h2.1))
      ▸ tt;
  -- serve, tell, read, drain, show, lose, control, forge
  of_links =
      (λ v0 h0. h0.1)
      ▸ (λ v0 h0. h0.1)
      ▸ (λ v0 h0. h0.1)
      ▸ (λ v0 h0. h0.1)
      ▸ (λ v0 h0. h0.1)
      ▸ (λ v0 h0. h0.1)
      ▸ (λ v0 h0 v1 h1. (h0.1, h1.0))
      ▸ (λ v0 h0 v1 h1 v2 h2. (h0.1, h2.0))
      ▸ tt;
  -- assist, apart, awrite, source, relay
  later =
      (λ v0 h0 v1 h1. (h0.1, h1.1))
      ▸ (λ v0 h0 v1 h1. (h0.1, h1.0, h1.1))
      ▸ (λ v0 h0 v1 h1 v2 h2. (h0.1, h1.1, h2.0, h2.1))
      ▸ (λ v0 h0. h0.1)
      ▸ (λ v0 h0 v1 h1 v2 h2. h0.1)
      ▸ tt;
  -- aserve, atell, aread, adrain, ashow
  of_later_links =
      (λ v0 h0 v1 h1. (h0.1, h1.1))
      ▸ (λ v0 h0 v1 h1. (h0.1, h1.1))
      ▸ (λ v0 h0 v1 h1. (h0.1, h1.1))
      ▸ (λ v0 h0 v1 h1. (h0.1, h1.1))
      ▸ (λ v0 h0 v1 h1. (h0.1, h1.1))
      ▸ tt;
}

pub row_within : (version : ℕ) (first : List ℕ) (row : Row) → row_of version first ≡ Some row → Within row.places row.build
row_within version first row e = of_each_row RowWithin version first row (all_within version) e
