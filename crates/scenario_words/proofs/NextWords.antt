-- One word of a line: it fits its place, or it doesn't, or none is left.
use Rattle.scenario_words.proofs.Prelude.{◌≡◌, ◌<◌, ◌^◌, ℕ, ◌+◌, ◌-◌, List, Option, None, Some, Ok, Err, refl, ap, sym, ◌∙◌, arith, LineFault, BadLine, FindsOrWants, ok_is, Left, SpellsNext, SpellsSome, told, any_word, next_of, next, taken, [], ◌∷◌}
use Rattle.scenario_words.proofs.OneWord.{number_is_time}
use Rattle.scenario_words.specs.Reading.{decimal_in, octets_in, time_in}

pub fits : {X : Type 0} (f : List ℕ → Option X) (old new : Left) (w : List ℕ) (x : X) → next any_word old ≡ Ok (w, new) → f w ≡ Some x → next f old ≡ Ok (x, new)
fits f old new w x e h = grind (arith, ok_is)

-- a number that is read is a time
taken_time : (n read : ℕ) (words : List (List ℕ)) (new : Left) (number : Option ℕ) (time : Option (Option ℕ))
    → (number ≡ Some n → time ≡ Some (Some n)) → taken read words number ≡ Ok (n, new) → taken read words time ≡ Ok (Some n, new)
taken_time n read words new number time is e = grind (arith, ok_is)

time_of : (greatest n read : ℕ) (words : List (List ℕ)) (new : Left) → greatest < 2 ^ 64 → next_of (decimal_in 0 greatest) read words ≡ Ok (n, new)
    → next_of (time_in greatest) read words ≡ Ok (Some n, new)
time_of greatest n read [] new small e = absurd (let no : next_of (decimal_in 0 greatest) read [] ≡ Ok (n, new) = e in cc)
time_of greatest n read (word ∷ words) new small e =
    taken_time n read words new (decimal_in 0 greatest word) (time_in greatest word) (number_is_time greatest n word small) e

pub time_fits : (greatest n : ℕ) (old new : Left) → greatest < 2 ^ 64 → next (decimal_in 0 greatest) old ≡ Ok (n, new) → next (time_in greatest) old ≡ Ok (Some n, new)
time_fits greatest n old new small e = time_of greatest n old.read old.words new small e

-- and so is a dash
pub dash_fits : (greatest : ℕ) (old new : Left) → old.words ≡ (45 ∷ []) ∷ new.words → new.read ≡ old.read + 1
    → next (time_in greatest) old ≡ Ok (None, new)
unfolding time_in
dash_fits greatest old new word read =
    ap (next_of (time_in greatest) old.read) word ∙ ap (λ n. Ok (None, record { words = new.words; read = n })) (sym read)

-- one that doesn't has the number of the words before it
misfits_of : {X : Type 0} (f : List ℕ → Option X) (read : ℕ) (words : List (List ℕ)) (w : List ℕ) (new : Left) → next_of any_word read words ≡ Ok (w, new)
    → f w ≡ None → next_of f read words ≡ Err (BadLine (new.read - 1))
misfits_of f read words w new e h = grind (arith, ok_is)

pub misfits : {X : Type 0} (f : List ℕ → Option X) (old new : Left) (w : List ℕ) (fault : LineFault) → next any_word old ≡ Ok (w, new)
    → f w ≡ None → fault ≡ BadLine (new.read - 1) → FindsOrWants (told fault) (next f old)
misfits f old new w fault e h is = rw is (misfits_of f old.read old.words w new e h)

pub misfit : {X : Type 0} (f : List ℕ → Option X) (old new : Left) (w : List ℕ) (n : ℕ) → next any_word old ≡ Ok (w, new)
    → f w ≡ None → n ≡ new.read - 1 → next f old ≡ Err (BadLine n)
misfit f old new w n e h is = rw is (misfits_of f old.read old.words w new e h)

-- a word that spells an octet
spells_of : (most : ℕ) (old new : Left) (w : List ℕ) (found : Option (List ℕ)) → next any_word old ≡ Ok (w, new) → octets_in most w ≡ found
    → SpellsSome found → SpellsNext (next (octets_in most) old)
spells_of most old new w found e is some = grind arith

pub spells : (most : ℕ) (old new : Left) (w : List ℕ) → next any_word old ≡ Ok (w, new) → SpellsSome (octets_in most w)
    → SpellsNext (next (octets_in most) old)
spells most old new w e some = spells_of most old new w (octets_in most w) e refl some
