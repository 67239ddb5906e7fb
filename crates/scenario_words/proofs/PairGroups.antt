-- The pairs of words that are left of a line, read one after the other into the octets of their subgroups.
use Rattle.scenario_words.proofs.Prelude.{◌≡◌, ◌≢◌, ◌≤◌, ◌<◌, ℕ, ◌+◌, ◌-◌, ◌/◌, List, [], ◌∷◌, ◌++◌, length, Ok, Err, refl, ap, sym, ◌∙◌, arith, length-append, number-length, Wish, LineFault, BadLine, FindsOrWants, Left, told, wish_of, all_wishes_of, wishes_octets, next as word_next, append_assoc, w32, to_le_bytes, lt-leb, flat_map, subgroup_laid, group_of}
use Rattle.std.proofs.lemmas.Grind.{flat_map-append}
use Rattle.bcast_base.specs.Encoding.{number}
use Rattle.bcast_base.specs.Layout.{Field, laid}
use Rattle.bcast_base.specs.Subgroups.{subgroup, subgroup_fields}
use Rattle.scenario_words.specs.Groups.{ReadsGroups, groups_octets}
use Rattle.scenario_words.specs.Reading.{wishes_of, number_in, octets_in}
use Rattle.scenario_words.proofs.WishWords.{wish_read, wish_fails, no_wish, all_wishes, one_longer, wishes_fit}

abbrev wish_fields : Wish → List Field
wish_fields wish = subgroup_fields (group_of wish)

-- the subgroup of one more pair lies behind the others
group_behind : (wishes : List Wish) (wish : Wish) → groups_octets (wishes ++ wish ∷ []) ≡ groups_octets wishes ++ subgroup (group_of wish)
group_behind wishes wish =
    ap laid (flat_map-append wish_fields wishes (wish ∷ []))
    ∙ (flat_map-append (λ (field : Field). field.octets) (flat_map wish_fields wishes) (flat_map wish_fields (wish ∷ []))
    ∙ ap (λ (x : List ℕ). groups_octets wishes ++ x) (subgroup_laid (group_of wish)))

length-group : (bits : ℕ) (metadata rest : List ℕ) → length (number 4 bits ++ (length metadata ∷ (metadata ++ rest))) ≡ 5 + length metadata + length rest
length-group bits metadata rest =
    let head = length-append (number 4 bits) (length metadata ∷ (metadata ++ rest)) in
    let four = number-length 4 bits in
    let both = length-append metadata rest in
    omega (arith, head, four, both)

length-groups : (wishes : List Wish) → length (groups_octets wishes) ≡ wishes_octets wishes
unfolding number
length-groups [] = refl
length-groups (wish ∷ wishes) =
    let others = length-groups wishes in
    length-group wish.bis_sync wish.metadata (groups_octets wishes) ∙ ap (λ n. 5 + length wish.metadata + n) others

-- ---- one subgroup

-- the octets of a number as std has them are its octets with the least first
pub four_low_first : (n : ℕ) → to_le_bytes w32 n ≡ number 4 n
unfolding number
four_low_first n =
    let at2 : n / 256 / 256 ≡ n / 65536 = omega arith in
    let at3 : n / 65536 / 256 ≡ n / 16777216 = omega arith in
    rw (at2, at3) refl

-- a subgroup is put in two pieces
pub group_put : (groups first whole metadata : List ℕ) (bits a b c d : ℕ) → number 4 bits ≡ a ∷ b ∷ c ∷ d ∷ [] → first ≡ groups ++ (a ∷ b ∷ c ∷ d ∷ length metadata ∷ [])
    → whole ≡ first ++ metadata → whole ≡ groups ++ subgroup (record { bits = bits; metadata = metadata })
group_put groups first whole metadata bits a b c d octets put is =
    rw (is, put, octets) (append_assoc groups (a ∷ b ∷ c ∷ d ∷ length metadata ∷ []) metadata)

-- a pair is read, and its subgroup put
pub pair_read : (old middle new : Left) (bits : ℕ) (metadata groups next : List ℕ) → word_next (number_in 4) old ≡ Ok (bits, middle) → word_next (octets_in 255) middle ≡ Ok (metadata, new)
    → next ≡ groups ++ subgroup (record { bits = bits; metadata = metadata })
    → (wish : Wish) × (wish_of old ≡ Ok (wish, new)) × (next ≡ groups ++ subgroup (group_of wish))
pair_read old middle new bits metadata groups next first second put =
    (record { bis_sync = bits; metadata = metadata }, (rw (first, second) refl), put)

-- the pairs that were read so far, so many, and the octets of their subgroups; behind them all is read as from the first on
pub record GroupsSoFar (count : ℕ) (groups : List ℕ) (left first : Left) : Type 0 where
  pub wishes : List Wish
  pub counted : length wishes ≡ count
  pub laid_as : groups ≡ groups_octets wishes
  pub rest : wishes_of wishes (31 - length wishes) left.read left.words ≡ wishes_of [] 31 first.read first.words

few_wishes : (count : ℕ) (wishes : List Wish) → length wishes ≡ count → count < 31 → length wishes < 31
few_wishes count wishes counted few = omega arith

pub group_read : (count : ℕ) (groups next : List ℕ) (old new first : Left) → GroupsSoFar count groups old first → count < 31 → old.words ≢ []
    → ((wish : Wish) × (wish_of old ≡ Ok (wish, new)) × (next ≡ groups ++ subgroup (group_of wish))) → GroupsSoFar (count + 1) next new first
group_read count groups next old new first before few some read = record {
  wishes = before.wishes ++ read.0 ∷ [];
  counted = one_longer before.wishes read.0 ∙ ap (λ n. n + 1) before.counted;
  laid_as = read.2 ∙ (ap (λ (x : List ℕ). x ++ subgroup (group_of read.0)) before.laid_as ∙ sym (group_behind before.wishes read.0));
  rest = wish_read before.wishes read.0 old new (wishes_of [] 31 first.read first.words) (few_wishes count before.wishes before.counted few) some read.1 before.rest;
}

pub group_fails : (count : ℕ) (groups : List ℕ) (old first : Left) (fault : LineFault) → GroupsSoFar count groups old first → count < 31 → old.words ≢ []
    → FindsOrWants (told fault) (wish_of old) → FindsOrWants (told fault) (wishes_of [] 31 first.read first.words)
group_fails count groups old first fault before few some h =
    wish_fails before.wishes old fault (wishes_of [] 31 first.read first.words) (few_wishes count before.wishes before.counted few) some h before.rest

pub groups_end : (count : ℕ) (groups : List ℕ) (left first : Left) → GroupsSoFar count groups left first → left.words ≡ []
    → ReadsGroups count groups left (wishes_of [] 31 first.read first.words)
groups_end count groups left first before none = record {
  wishes = before.wishes;
  is = no_wish before.wishes left (wishes_of [] 31 first.read first.words) none before.rest;
  counted = before.counted;
  laid_as = before.laid_as;
}

pub groups_full : (count : ℕ) (groups : List ℕ) (left first : Left) → GroupsSoFar count groups left first → count ≡ 31
    → ReadsGroups count groups left (wishes_of [] 31 first.read first.words)
groups_full count groups left first before full = record {
  wishes = before.wishes;
  is = all_wishes before.wishes left (wishes_of [] 31 first.read first.words) (before.counted ∙ full) before.rest;
  counted = before.counted;
  laid_as = before.laid_as;
}

-- ---- together they make few octets, or too many

laid_length : (groups : List ℕ) (wishes : List Wish) → groups ≡ groups_octets wishes → wishes_octets wishes ≡ length groups
laid_length groups wishes e = sym (ap length e ∙ length-groups wishes)

pub groups_fit : (most count : ℕ) (groups : List ℕ) (left first : Left) → ReadsGroups count groups left (wishes_of [] 31 first.read first.words) → length groups ≤ most
    → ReadsGroups count groups left (all_wishes_of most first)
groups_fit most count groups left first read few =
    let same = laid_length groups read.wishes read.laid_as in
    record {
      wishes = read.wishes;
      is = wishes_fit most read.wishes first left read.is (omega (arith, same, few));
      counted = read.counted;
      laid_as = read.laid_as;
    }

many_wishes : (most : ℕ) (wishes : List Wish) (old new : Left) → wishes_of [] 31 old.read old.words ≡ Ok (wishes, new) → most < wishes_octets wishes
    → all_wishes_of most old ≡ Err (BadLine new.read)
many_wishes most wishes old new e many = grind (arith, lt-leb, wishes_octets)

pub groups_beyond : (most count : ℕ) (groups : List ℕ) (left first : Left) → ReadsGroups count groups left (wishes_of [] 31 first.read first.words) → most < length groups
    → all_wishes_of most first ≡ Err (BadLine left.read)
groups_beyond most count groups left first read many =
    let same = laid_length groups read.wishes read.laid_as in
    many_wishes most read.wishes first left read.is (omega (arith, same, many))
