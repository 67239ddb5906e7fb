-- What a call adds to what happens on a link.
use Rattle.scenario_sink.proofs.Prelude.{drop_more, ℕ, zero, suc, ◌≡◌, ◌≢◌, ◌+◌, ◌<◌, ◌≤◌, min, Bool, true, false, List, [], ◌∷◌, ◌++◌, length, drop, slice_get, Option, Some, None, refl, sym, ap, ◌∙◌, length-append, arith, inl, inr, ◌==◌, if◌then◌else◌, unwrap_or, filter, range_with_len, option_or, cases_eq, eq-eqb, ne_eqb, reads_of, waiting_of, IsLowest, NoneWaits, Setup, Call, joined, parted, asked, served, notified, read, is_joined, joining_by, served_of, writes, writes_waiting, IsApart, Told, acts_of, language, notices_waiting, read_first, reads_waiting, notified_first, IsStep}
use Rattle.assistant_machine.specs.Links as links
use Rattle.delegator_history.specs.LastGiven.{last_given}

pub first_and_rest : {A : Type 0} (xs : List A) (x : A) → slice_get xs 0 ≡ Some x → xs ≡ x ∷ drop 1 xs
first_and_rest xs x is = grind arith

pub none_there : {A : Type 0} (xs : List A) → slice_get xs 0 ≡ None → xs ≡ []
none_there [] is = refl
none_there (x ∷ xs) is = absurd cc

-- ---- who is there

pub joins : (link : ℕ) (calls : List Call) → is_joined link (joined link ∷ calls) ≡ true
joins link calls = ap (λ (b : Bool). unwrap_or (option_or (if b then Some true else None) (last_given (joining_by link) calls)) (link == 0)) (eq-eqb link link refl)

pub parts : (link : ℕ) (calls : List Call) → is_joined link (parted link ∷ calls) ≡ false
parts link calls = ap (λ (b : Bool). unwrap_or (option_or (if b then Some false else None) (last_given (joining_by link) calls)) (link == 0)) (eq-eqb link link refl)

pub apart_joined : (link : ℕ) (call : Call) (calls : List Call) → IsApart link call → is_joined link (call ∷ calls) ≡ is_joined link calls
apart_joined link _ calls is = grind (arith, unwrap_or, option_or, joining_by, ne_eqb)

pub step_joined : (link : ℕ) (call : Call) (calls : List Call) → IsStep call → is_joined link (call ∷ calls) ≡ is_joined link calls
step_joined link _ calls is = grind arith

-- ---- the writes

pub writes_kept : (link at : ℕ) (calls : List Call) → link ≢ at → writes_waiting link (served at ∷ calls) ≡ writes_waiting link calls
writes_kept link at calls other = grind (arith, served_of, writes, drop, min, length, ne_eqb)

within_if : (b : Bool) (d n m : ℕ) → d ≤ n → n ≤ m → (if b then min (d + 1) n else d) ≤ m
within_if b d n m h k = grind arith

zero_if : (b : Bool) (d : ℕ) (xs : List (List ℕ)) → d ≤ length xs → (if b then 0 else d) ≤ length (if b then [] else xs)
zero_if b d xs h = grind arith

more_if : (b : Bool) (d : ℕ) (xs : List (List ℕ)) (x : List ℕ) → d ≤ length xs → d ≤ length (if b then xs ++ x ∷ [] else xs)
more_if b d xs x h = grind (arith, length-append)

served_within : (link : ℕ) (calls : List Call) → served_of link calls ≤ length (writes link calls)
served_within link [] = omega arith
served_within link (joined at ∷ earlier) = zero_if (at == link) (served_of link earlier) (writes link earlier) (served_within link earlier)
served_within link (asked at octets ∷ earlier) = more_if (at == link) (served_of link earlier) (writes link earlier) octets (served_within link earlier)
served_within link (served at ∷ earlier) =
    within_if (at == link) (served_of link earlier) (length (writes link earlier)) (length (writes link earlier)) (served_within link earlier) (omega arith)
served_within link (_ ∷ earlier) = served_within link earlier

pub writes_asked : (link : ℕ) (octets : List ℕ) (calls : List Call) → writes_waiting link (asked link octets ∷ calls) ≡ writes_waiting link calls ++ octets ∷ []
writes_asked link octets calls = grind (arith, drop, served_of, writes, eq-eqb, drop_more, served_within)

pub writes_joined : (link : ℕ) (calls : List Call) → writes_waiting link (joined link ∷ calls) ≡ []
writes_joined link calls = grind (arith, drop, served_of, writes, eq-eqb)

-- ---- what happens

pub acts_told : (setup : Setup) (mtu : Option ℕ) (link : ℕ) (calls : List Call) (first : Told) (rest : List Told) → notices_waiting setup mtu link calls ≡ first ∷ rest
    → acts_of setup mtu link (notified link ∷ calls) ≡ links.notified ∷ acts_of setup mtu link calls
acts_told setup mtu link calls first rest is = grind (arith, acts_of, notified_first, waiting_of, eq-eqb)

pub acts_read : (setup : Setup) (mtu : Option ℕ) (link : ℕ) (calls : List Call) (slot : ℕ) → slice_get (reads_waiting setup mtu link calls) 0 ≡ Some slot
    → acts_of setup mtu link (read link ∷ calls) ≡ links.served slot ∷ acts_of setup mtu link calls
acts_read setup mtu link calls slot is = grind (arith, acts_of, reads_of, language, read_first, eq-eqb, first_and_rest)

pub acts_joined : (setup : Setup) (mtu : Option ℕ) (link : ℕ) (calls : List Call) → acts_of setup mtu link (joined link ∷ calls) ≡ links.joined ∷ acts_of setup mtu link calls
acts_joined setup mtu link calls = grind (arith, acts_of, eq-eqb)

-- ---- the lowest slot of which a read waits

lowest_kept : (test : ℕ → Bool) (at start n : ℕ) → start ≤ at → at < start + n → test at ≡ true → ((i : ℕ) → i < at → test i ≡ false)
    → slice_get (filter test (range_with_len start n)) 0 ≡ Some at
lowest_kept test at start zero least most here none = absurd (omega arith)
lowest_kept test at start (suc n) least most here none = elim (cases_eq start at) [
  | inl e ↦ ap (λ (b : Bool). slice_get (if b then start ∷ filter test (range_with_len (start + 1) n) else filter test (range_with_len (start + 1) n)) 0) (ap test e ∙ here) ∙ ap Some e
  | inr other ↦ ap (λ (b : Bool). slice_get (if b then start ∷ filter test (range_with_len (start + 1) n) else filter test (range_with_len (start + 1) n)) 0)
      (none start (omega arith)) ∙ lowest_kept test at (start + 1) n (omega arith) (omega arith) here none
]

none_kept : (test : ℕ → Bool) (start n : ℕ) → ((i : ℕ) → i < start + n → test i ≡ false) → filter test (range_with_len start n) ≡ []
none_kept test start zero none = refl
none_kept test start (suc n) none = grind (arith, none start (omega arith), none_kept test (start + 1) n (λ i below. none i (omega arith)))

same_some : {A : Type 0} (x y : A) → Some x ≡ Some y → x ≡ y
same_some x y e = cc

get_within : {A : Type 0} (xs : List A) (i : ℕ) (x : A) → slice_get xs i ≡ Some x → i < length xs
get_within [] i x is = absurd cc
get_within (y ∷ xs) zero x is = omega arith
get_within (y ∷ xs) (suc i) x is = let h : i < length xs = get_within xs i x is in omega (arith, h)

pub lowest_within : (reads : List Bool) (slots at : ℕ) → length reads ≡ slots → IsLowest reads at → at < slots
lowest_within reads slots at count lowest = let h : at < length reads = get_within reads at true lowest.waits in omega (arith, h, count)

pub lowest_read : (test : ℕ → Bool) (reads : List Bool) (slots at : ℕ) → length reads ≡ slots → ((slot : ℕ) → slot < slots → slice_get reads slot ≡ Some (test slot))
    → IsLowest reads at → slice_get (filter test (range_with_len 0 slots)) 0 ≡ Some at
lowest_read test reads slots at count are lowest =
    let within : at < slots = lowest_within reads slots at count lowest in
    lowest_kept test at 0 slots (omega arith) (omega (arith, within)) (same_some (test at) true (sym (are at within) ∙ lowest.waits))
    (λ i below. same_some (test i) false (sym (are i (omega (arith, within, below))) ∙ lowest.none_below i below))

pub none_read : (test : ℕ → Bool) (reads : List Bool) (slots : ℕ) → length reads ≡ slots → ((slot : ℕ) → slot < slots → slice_get reads slot ≡ Some (test slot))
    → NoneWaits reads → filter test (range_with_len 0 slots) ≡ []
none_read test reads slots count are none = grind (arith, none_kept, same_some)
