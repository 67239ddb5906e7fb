-- The pairs of words that are left of a line.
use Rattle.scenario_words.proofs.Prelude.{◌≡◌, ◌≢◌, ◌≤◌, ◌<◌, ℕ, zero, suc, ◌+◌, ◌-◌, List, [], ◌∷◌, ◌++◌, length, take, slice_get, Some, Result, Ok, sym, ◌∙◌, arith, length-append, Wish, LineFault, le-leb, MetadataFits, wishes_octets, ◌>>=◌, FindsOrWants, Left, told, wish_of, all_wishes_of}
use Rattle.scenario_words.specs.Reading.{wishes_of}
use Rattle.scenario_words.proofs.Streams.{fails_so}

abbrev go_on : List Wish → ℕ → Wish × Left → Result (List Wish × Left) LineFault
go_on before more wish = wishes_of (before ++ wish.0 ∷ []) more wish.1.read wish.1.words

one_more : (before : List Wish) (more read : ℕ) (words : List (List ℕ)) → words ≢ []
    → wishes_of before (suc more) read words ≡ (wish_of (record { words = words; read = read }) >>= go_on before more)
unfolding wishes_of
one_more before more read words some = grind arith

less : (before : List Wish) (wish : Wish) → length before < 31 → 31 - length before ≡ suc (31 - length (before ++ wish ∷ []))
less before wish few = let len : length (before ++ wish ∷ []) ≡ length before + 1 = length-append before (wish ∷ []) in omega arith

at_one : (before : List Wish) (wish : Wish) (old : Left) (whole : Result (List Wish × Left) LineFault) → length before < 31 → old.words ≢ []
    → wishes_of before (31 - length before) old.read old.words ≡ whole → (wish_of old >>= go_on before (31 - length (before ++ wish ∷ []))) ≡ whole
at_one before wish old whole few some so_far = grind (arith, one_more, length, less)

-- the next pair fits
pub wish_read : (before : List Wish) (wish : Wish) (old new : Left) (whole : Result (List Wish × Left) LineFault) → length before < 31 → old.words ≢ []
    → wish_of old ≡ Ok (wish, new) → wishes_of before (31 - length before) old.read old.words ≡ whole
    → wishes_of (before ++ wish ∷ []) (31 - length (before ++ wish ∷ [])) new.read new.words ≡ whole
wish_read before wish old new whole few some e so_far = grind (arith, at_one before wish old whole few some so_far)

-- or it doesn't
pub wish_fails : (before : List Wish) (old : Left) (fault : LineFault) (whole : Result (List Wish × Left) LineFault) → length before < 31 → old.words ≢ []
    → FindsOrWants (told fault) (wish_of old) → wishes_of before (31 - length before) old.read old.words ≡ whole → FindsOrWants (told fault) whole
wish_fails before old fault whole few some h so_far =
    let wish : Wish = record { bis_sync = 0; metadata = [] } in
    fails_so (told fault) (wish_of old) whole (go_on before (31 - length (before ++ wish ∷ []))) h (at_one before wish old whole few some so_far)

-- no word is left, or all pairs are read
none_of : (before : List Wish) (more read : ℕ) (words : List (List ℕ)) → words ≡ [] → wishes_of before more read words ≡ Ok (before, record { words = words; read = read })
unfolding wishes_of
none_of before more read words e = grind arith

pub no_wish : (before : List Wish) (old : Left) (whole : Result (List Wish × Left) LineFault) → old.words ≡ []
    → wishes_of before (31 - length before) old.read old.words ≡ whole → whole ≡ Ok (before, old)
no_wish before old whole none so_far = sym so_far ∙ none_of before (31 - length before) old.read old.words none

all_of : (before : List Wish) (more read : ℕ) (words : List (List ℕ)) → more ≡ 0 → wishes_of before more read words ≡ Ok (before, record { words = words; read = read })
unfolding wishes_of
all_of before more read words e = grind arith

pub all_wishes : (before : List Wish) (old : Left) (whole : Result (List Wish × Left) LineFault) → length before ≡ 31
    → wishes_of before (31 - length before) old.read old.words ≡ whole → whole ≡ Ok (before, old)
all_wishes before old whole full so_far = sym so_far ∙ all_of before (31 - length before) old.read old.words (omega arith)

pub one_longer : (before : List Wish) (wish : Wish) → length (before ++ wish ∷ []) ≡ length before + 1
one_longer before wish = length-append before (wish ∷ [])

pub metadata_more : (wishes : List Wish) (wish : Wish) → MetadataFits wishes → length wish.metadata ≤ 255 → MetadataFits (wishes ++ wish ∷ [])
metadata_more [] wish fits short = (short, tt)
metadata_more (first ∷ wishes) wish fits short = (fits.0, metadata_more wishes wish fits.1 short)

-- ---- the octets of the pairs

pub next_octets : (wishes : List Wish) (i : ℕ) (wish : Wish) → slice_get wishes i ≡ Some wish
    → wishes_octets (take (suc i) wishes) ≡ wishes_octets (take i wishes) + (5 + length wish.metadata)
next_octets [] i wish e = absurd cc
next_octets (first ∷ wishes) zero wish e = let same : first ≡ wish = cc in rw same (omega arith)
next_octets (first ∷ wishes) (suc i) wish e = let rest = next_octets wishes i wish e in omega (arith, rest)

pub one_short : (wishes : List Wish) (i : ℕ) (wish : Wish) → MetadataFits wishes → slice_get wishes i ≡ Some wish → length wish.metadata ≤ 255
one_short [] i wish fits e = absurd cc
one_short (first ∷ wishes) zero wish fits e = let same : first ≡ wish = cc in rw (← same) fits.0
one_short (first ∷ wishes) (suc i) wish fits e = one_short wishes i wish fits.1 e

pub wishes_fit : (most : ℕ) (wishes : List Wish) (old new : Left) → wishes_of [] 31 old.read old.words ≡ Ok (wishes, new) → wishes_octets wishes ≤ most → all_wishes_of most old ≡ Ok (wishes, new)
wishes_fit most wishes old new e few = grind (arith, le-leb, wishes_octets)
