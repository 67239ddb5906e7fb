-- The PDUs of an event that are lost, counted on.
use Rattle.std.proofs.Common.{◌≡◌, ℕ, ◌+◌, ◌%◌, ◌<◌, sym, ◌∙◌, ap, arith, List, true, false, Bool, ◌≤◌, ◌-◌, length, get_or, set, zero, suc, replicate, refl, get_or-set_other, get_or-set_same, inl, inr, eq-eqb, ne_eqb, lt-ltb}
use Rattle.std.proofs.lemmas.Bool.{cases_eq, cases_lt}
use Rattle.radio_schedule.specs.Losing.{CountsOn, lost_at}

mod_near : (n lose e : ℕ) → n % lose + e < lose → (n + e) % lose ≡ n % lose + e
mod_near n lose e below = grind arith

mod_far : (n lose e : ℕ) → lose ≤ n % lose + e → n % lose + e - lose < lose → (n + e) % lose ≡ n % lose + e - lose
mod_far n lose e past below = grind arith

none_lost : (lose number : ℕ) → number % lose + 1 < lose → lost_at lose number ≡ false
none_lost lose number less = grind (arith, ne_eqb)

lost_here : (lose number : ℕ) → 0 < lose → number % lose ≡ lose - 1 → lost_at lose number ≡ true
lost_here lose number some hit = grind (arith, eq-eqb, lt-ltb)

-- those before the first one that is lost are kept
kept_before : (lose n before s : ℕ) → before + n % lose + 1 ≡ lose → s < before → lost_at lose (n + s) ≡ false
kept_before lose n before s is less = none_lost lose (n + s) (omega (arith, mod_near n lose s (omega (arith, is, less)), is, less))

-- and so are those up to the next one
kept_between : (lose number d : ℕ) → number % lose ≡ lose - 1 → 0 < d → d < lose → lost_at lose (number + d) ≡ false
kept_between lose number d hit some less =
    none_lost lose (number + d) (omega (arith, mod_far number lose d (omega (arith, hit, some)) (omega (arith, hit, some, less)), hit, some, less))

pub none_everywhere : (n s : ℕ) → get_or (replicate n false) s false ≡ false
none_everywhere zero s = refl
none_everywhere (suc n) zero = refl
none_everywhere (suc n) (suc s) = none_everywhere n s

-- the lost ones are marked up to a place, at which one is lost too, and `count` PDUs are to be marked; `n` came before
pub record Marked (lose n count place : ℕ) (lost : List Bool) : Type 0 where
  pub near : place < count + lose
  pub hit : (n + place) % lose ≡ lose - 1
  pub done : (s : ℕ) → s < place → get_or lost s false ≡ lost_at lose (n + s)
  pub rest : (s : ℕ) → place ≤ s → get_or lost s false ≡ false

pub none_marked : (lose n count before : ℕ) (lost : List Bool) → 0 < lose → CountsOn lose n before → ((s : ℕ) → get_or lost s false ≡ false)
    → Marked lose n count before lost
none_marked lose n count before lost some counts none =
    let is = counts some in
    record {
      near = omega (arith, is);
      hit = omega (arith, mod_near n lose before (omega (arith, is)), is);
      done = λ s less. none s ∙ sym (kept_before lose n before s is less);
      rest = λ s past. none s;
    }

one_done : (lose n count place : ℕ) (lost : List Bool) (s : ℕ) → 0 < lose → place < length lost → Marked lose n count place lost → s < place + lose
    → get_or (set lost place true) s false ≡ lost_at lose (n + s)
one_done lose n count place lost s some within marked below =
    elim (cases_lt s place) [
      | inl before ↦ get_or-set_other lost place s true false (λ e. omega (arith, before, e)) ∙ marked.done s before
      | inr past ↦ elim (cases_eq s place) [
        | inl here ↦ rw here (get_or-set_same lost place true false within ∙ sym (lost_here lose (n + place) some marked.hit))
        | inr other ↦
            let behind : n + s ≡ n + place + (s - place) = omega (arith, past) in
            get_or-set_other lost place s true false other ∙ marked.rest s past
            ∙ sym (ap (lost_at lose) behind ∙ kept_between lose (n + place) (s - place) marked.hit (omega (arith, past, other)) (omega (arith, past, below)))
      ]
    ]

-- one more is marked
pub one_marked : (lose n count place : ℕ) (lost : List Bool) → 0 < lose → place < count → place < length lost → Marked lose n count place lost
    → Marked lose n count (place + lose) (set lost place true)
one_marked lose n count place lost some below within marked =
    let hit = marked.hit in
    let behind : n + (place + lose) ≡ n + place + lose = omega arith in
    record {
      near = omega (arith, below);
      hit = ap (λ m. m % lose) behind
          ∙ (let far = mod_far (n + place) lose lose (omega arith) (omega (arith, hit, some)) in omega (arith, far, hit));
      done = λ s less. one_done lose n count place lost s some within marked less;
      rest = λ s past. get_or-set_other lost place s true false (λ e. omega (arith, e, past, some)) ∙ marked.rest s (omega (arith, past));
    }

-- how many come before the next one behind all of them
pub counts_on : (lose n count place : ℕ) (lost : List Bool) → 0 < lose → count ≤ place → Marked lose n count place lost → CountsOn lose (n + count) (place - count)
counts_on lose n count place lost some past marked _ = grind arith
