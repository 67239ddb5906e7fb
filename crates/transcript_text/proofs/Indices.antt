-- The indices of a set, put one after the other.
use Rattle.std.proofs.Common.{◌≡◌, ◌≤◌, ◌<◌, ◌+◌, ◌-◌, ℕ, zero, suc, Bool, true, false, cond, nat_eq, List, [], ◌∷◌, ◌++◌, map, decimal, refl, ap, sym, ◌∙◌, append_assoc, arith}
use Rattle.std.specs.Int.{bit_at}
use Rattle.std.proofs.lemmas.List.{append-nil}
use Rattle.scenario_words.specs.Joined.{behind}
use Rattle.transcript_text.specs.SinkLines.{indices_from}

abbrev pub indices_words : ℕ → ℕ → ℕ → List ℕ
indices_words set index more = behind (map decimal (indices_from set index more))

chosen_next : (b : Bool) (index : ℕ) (others : List ℕ)
    → behind (map decimal (cond b (index ∷ others) others)) ≡ behind (map decimal (cond b (index ∷ []) [])) ++ behind (map decimal others)
chosen_next true index others = ap (λ (l : List ℕ). 32 ∷ l) (ap (λ (l : List ℕ). l ++ behind (map decimal others)) (sym (append-nil (decimal index))))
chosen_next false index others = refl

-- the next index first, then those after it
indices_next : (set index more : ℕ) → indices_words set index (suc more) ≡ indices_words set index 1 ++ indices_words set (index + 1) more
indices_next set index more = chosen_next (nat_eq (bit_at set (index - 1)) 1) index (indices_from set (index + 1) more)

-- the indices from one on are still to be put
pub record IndicesLeft (set : ℕ) (initial now : List ℕ) (index : ℕ) : Type 0 where
  pub so_far : now ++ indices_words set index (32 - index) ≡ initial ++ indices_words set 1 31

pub index_put : (set : ℕ) (initial now next : List ℕ) (index : ℕ) → index < 32 → IndicesLeft set initial now index → next ≡ now ++ indices_words set index 1
    → IndicesLeft set initial next (index + 1)
index_put set initial now next index inside left put =
    let more : ℕ = 31 - index in
    let here : 32 - index ≡ suc more = omega arith in
    let there : 32 - (index + 1) ≡ more = omega arith in
    let split : indices_words set index (32 - index) ≡ indices_words set index 1 ++ indices_words set (index + 1) more =
    ap (indices_words set index) here ∙ indices_next set index more in
    record {
      so_far = ap (λ (n : ℕ). next ++ indices_words set (index + 1) n) there
          ∙ (ap (λ (l : List ℕ). l ++ indices_words set (index + 1) more) put
          ∙ (append_assoc now (indices_words set index 1) (indices_words set (index + 1) more) ∙ (ap (λ (l : List ℕ). now ++ l) (sym split) ∙ left.so_far)));
    }

-- above the greatest index no stream is in the set
abbrev NoneFrom : (set index : ℕ) → Type 0
NoneFrom set index = (i : ℕ) → index - 1 ≤ i → i < 31 → bit_at set i ≡ 0

none_next : (set index : ℕ) → bit_at set (index - 1) ≡ 0 → indices_words set index 1 ≡ []
none_next set index above =
    let free : nat_eq (bit_at set (index - 1)) 1 ≡ false = rw above refl in
    ap (λ (b : Bool). behind (map decimal (cond b (index ∷ []) []))) free

none_above : (set index more : ℕ) → 1 ≤ index → index + more ≤ 32 → NoneFrom set index → indices_words set index more ≡ []
none_above set index zero least fit none = refl
none_above set index (suc more) least fit none =
    indices_next set index more
    ∙ ap (λ (l : List ℕ). l ++ indices_words set (index + 1) more) (none_next set index (none (index - 1) (omega arith) (omega arith)))
    ∙ none_above set (index + 1) more (omega arith) (omega arith) (λ i above inside. none i (omega arith) inside)

pub indices_put : (set : ℕ) (initial now : List ℕ) (index : ℕ) → 1 ≤ index → index ≤ 32 → ((i : ℕ) → index - 1 ≤ i → i < 31 → bit_at set i ≡ 0)
    → IndicesLeft set initial now index → now ≡ initial ++ indices_words set 1 31
indices_put set initial now index least fit none left =
    sym (append-nil now) ∙ (ap (λ (l : List ℕ). now ++ l) (sym (none_above set index (32 - index) least (omega arith) none)) ∙ left.so_far)
