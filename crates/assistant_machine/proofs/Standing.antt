-- An assistant that stands for its calls stands for one call more.
use Rattle.std.proofs.Common.{◌≡◌, ◌≢◌, ℕ, zero, suc, ◌<◌, ◌≤◌, inl, inr, Bool, true, false, List, [], ◌∷◌, ◌++◌}
use Rattle.std.proofs.Common.{length, drop, replicate, refl, sym, ◌∙◌, ap, subst, slice_get, slice_set, Option, Some, None, length-append, arith}
use Rattle.std.specs.Prelude.{◌&&◌, ◌==◌, not, nat_lt, if◌then◌else◌, unwrap_or, option_to_list, OnSome}
use Rattle.std.proofs.lemmas.Bool.{cases_eq, eq-eqb, ltb-false, ltb-true, ne_eqb}
use Rattle.std.proofs.lemmas.List.{length-set}
use Rattle.std.proofs.lemmas.Option.{slice_get_within}
use Rattle.receive_state.specs.declared.state.ReceiveState.{ReceiveState}
use Rattle.assistant_machine.specs.Calls.{Call, limited, put, sent, notified, all_asked, asked, read, mtu_of, sent_of, writes_of}
use Rattle.assistant_machine.specs.Cuts.{asks}
use Rattle.assistant_machine.specs.Views.{if_slot, reading_of, view_of, waits_of}
use Rattle.assistant_machine.specs.State.Assistants.{Assistant, IsLowest, StandsFor, after_notice, after_read, joined, with_read, with_reading, with_write}

get_set_here : {A : Type 0} (xs : List A) (i : ℕ) (x : A) → i < length xs → slice_get (slice_set xs i x) i ≡ Some x
get_set_here [] i x h = absurd (omega arith)
get_set_here (y ∷ xs) zero x h = refl
get_set_here (y ∷ xs) (suc i) x h = get_set_here xs i x (omega arith)

get_set_other : {A : Type 0} (xs : List A) (i j : ℕ) (x : A) → j ≢ i → slice_get (slice_set xs i x) j ≡ slice_get xs j
get_set_other [] i j x h = refl
get_set_other (y ∷ xs) zero zero x h = absurd (h refl)
get_set_other (y ∷ xs) zero (suc j) x h = refl
get_set_other (y ∷ xs) (suc i) zero x h = refl
get_set_other (y ∷ xs) (suc i) (suc j) x h = get_set_other xs i j x (λ e. h (ap suc e))

get_replicate : {A : Type 0} (n i : ℕ) (x : A) → i < n → slice_get (replicate n x) i ≡ Some x
get_replicate zero i x h = absurd (omega arith)
get_replicate (suc n) zero x h = refl
get_replicate (suc n) (suc i) x h = get_replicate n i x (omega arith)

pub length_replicate : {A : Type 0} (n : ℕ) (x : A) → length (replicate n x) ≡ n
length_replicate zero x = refl
length_replicate (suc n) x = ap suc (length_replicate n x)

-- what a call gives at a slot, by whether it is the slot
given_here : {A : Type 0} (b : Bool) (new old : A) → unwrap_or (if_slot (b && true) (Some new)) old ≡ (if b then new else old)
given_here true new old = refl
given_here false new old = refl

given_now : {A : Type 0} (b : Bool) (new old : A) → unwrap_or (if_slot b (Some new)) old ≡ (if b then new else old)
given_now true new old = refl
given_now false new old = refl

given_none : {A : Type 0} (b : Bool) (given : Option A) (old : A) → unwrap_or (if_slot (b && false) given) old ≡ old
given_none true given old = refl
given_none false given old = refl

nothing_given : {A : Type 0} (b : Bool) (old : A) → unwrap_or (if_slot b None) old ≡ old
nothing_given true old = refl
nothing_given false old = refl

given_elsewhere : {A : Type 0} (b q : Bool) (given : Option A) (old : A) → b ≡ false → unwrap_or (if_slot (b && q) given) old ≡ old
given_elsewhere b q given old is = ap (λ b. unwrap_or (if_slot (b && q) given) old) is

-- the entry of a slot in a list in which one slot was set: the new one there, else the old one
one_set : {A : Type 0} (xs : List A) (at slot : ℕ) (new old : A) → at < length xs → slice_get xs slot ≡ Some old
    → slice_get (slice_set xs at new) slot ≡ Some (if at == slot then new else old)
one_set xs at slot new old within is = elim (cases_eq at slot) [
  | inl e ↦ subst (λ n. slice_get (slice_set xs at new) n ≡ Some new) e (get_set_here xs at new within)
      ∙ ap (λ (b : Bool). Some (if b then new else old)) (sym (eq-eqb at slot e))
  | inr other ↦ get_set_other xs at slot new (λ e. other (sym e)) ∙ is
      ∙ ap (λ (b : Bool). Some (if b then new else old)) (sym (ne_eqb at slot other))
]

pub fresh : (slots : ℕ) → StandsFor slots [] (joined slots)
fresh slots = record {
  views_count = length_replicate slots None;
  reads_count = length_replicate slots false;
  mtu = refl;
  writes = refl;
  sent = omega arith;
  views = λ slot below. get_replicate slots slot None below;
  reads = λ slot below. get_replicate slots slot false below;
}

pub limited_stands : (slots mtu : ℕ) (calls : List Call) (a : Assistant) → StandsFor slots calls a
    → StandsFor slots (limited mtu ∷ calls) (record a { mtu = Some mtu })
limited_stands slots mtu calls a s = record {
  views_count = s.views_count;
  reads_count = s.reads_count;
  mtu = refl;
  writes = s.writes;
  sent = s.sent;
  views = s.views;
  reads = s.reads;
}

pub all_stands : (slots : ℕ) (calls : List Call) (a : Assistant) → StandsFor slots calls a
    → StandsFor slots (all_asked ∷ calls) (record a { reads = replicate (length a.reads) true })
all_stands slots calls a s = record {
  views_count = s.views_count;
  reads_count = length_replicate (length a.reads) true ∙ s.reads_count;
  mtu = s.mtu;
  writes = s.writes;
  sent = s.sent;
  views = s.views;
  reads = λ slot below. get_replicate (length a.reads) slot true (subst (λ n. slot < n) (sym s.reads_count) below);
}

pub asked_stands : (slots at : ℕ) (calls : List Call) (a : Assistant) → IsLowest a.reads at → StandsFor slots calls a
    → StandsFor slots (asked at ∷ calls) (record a { reads = slice_set a.reads at false })
asked_stands slots at calls a waits s = record {
  views_count = s.views_count;
  reads_count = length-set a.reads at false ∙ s.reads_count;
  mtu = s.mtu;
  writes = s.writes;
  sent = s.sent;
  views = s.views;
  reads = λ slot below. one_set a.reads at slot false (waits_of slot calls) (slice_get_within a.reads at true waits.waits) (s.reads slot below)
      ∙ ap Some (sym (given_now (at == slot) false (waits_of slot calls)));
}

pub drop_more : {A : Type 0} (n : ℕ) (xs : List A) (x : A) → n ≤ length xs → drop n (xs ++ x ∷ []) ≡ drop n xs ++ x ∷ []
drop_more zero xs x h = refl
drop_more (suc n) [] x h = absurd (omega arith)
drop_more (suc n) (y ∷ xs) x h = drop_more n xs x (omega arith)

drop_one : {A : Type 0} (n : ℕ) (xs : List A) → drop 1 (drop n xs) ≡ drop (suc n) xs
drop_one zero xs = refl
drop_one (suc n) [] = refl
drop_one (suc n) (y ∷ xs) = drop_one n xs

below_by_drop : {A : Type 0} (n : ℕ) (xs ys : List A) (y : A) → drop n xs ≡ y ∷ ys → suc n ≤ length xs
below_by_drop {A} zero [] ys y e = absurd (let h : length {A = A} [] ≡ length (y ∷ ys) = ap length e in omega (arith, h))
below_by_drop zero (x ∷ xs) ys y e = omega arith
below_by_drop {A} (suc n) [] ys y e = absurd (let h : length {A = A} [] ≡ length (y ∷ ys) = ap length e in omega (arith, h))
below_by_drop (suc n) (x ∷ xs) ys y e = let h : suc n ≤ length xs = below_by_drop n xs ys y e in omega (arith, h)

pub put_stands : (slots : ℕ) (octets : List ℕ) (calls : List Call) (a : Assistant) → StandsFor slots calls a
    → StandsFor slots (put octets ∷ calls) (with_write octets a)
put_stands slots octets calls a s = record {
  views_count = s.views_count;
  reads_count = s.reads_count;
  mtu = s.mtu;
  writes = ap (λ ws. ws ++ octets ∷ []) s.writes ∙ sym (drop_more (sent_of calls) (writes_of calls) octets s.sent);
  sent = subst (λ n. sent_of calls ≤ n) (sym (length-append (writes_of calls) (octets ∷ []))) (let h : sent_of calls ≤ length (writes_of calls) = s.sent in omega (arith, h));
  views = s.views;
  reads = s.reads;
}

pub sent_stands : (slots : ℕ) (write : List ℕ) (rest : List (List ℕ)) (calls : List Call) (a : Assistant) → a.writes ≡ write ∷ rest → StandsFor slots calls a
    → StandsFor slots (sent ∷ calls) (record a { writes = drop 1 a.writes })
sent_stands slots write rest calls a some s = record {
  views_count = s.views_count;
  reads_count = s.reads_count;
  mtu = s.mtu;
  writes = ap (drop 1) s.writes ∙ drop_one (sent_of calls) (writes_of calls);
  sent = below_by_drop (sent_of calls) (writes_of calls) rest write (sym s.writes ∙ some);
  views = s.views;
  reads = s.reads;
}

-- the first write is taken, where there is one
pub taken_stands : (taken : Option (List ℕ)) (rest : List (List ℕ)) (a : Assistant) → a.writes ≡ option_to_list taken ++ rest
    → OnSome taken ((slots : ℕ) (calls : List Call) → StandsFor slots calls a → StandsFor slots (sent ∷ calls) (record a { writes = rest }))
taken_stands None rest a some = tt
taken_stands (Some write) rest a some = λ slots calls s. subst (λ ws. StandsFor slots (sent ∷ calls) (record a { writes = ws })) (ap (drop 1) some) (sent_stands slots write rest calls a some s)

-- ---- a value that was told or read

view_told : (slot at : ℕ) (value : List ℕ) (calls : List Call) (q : Bool) (r : Option (Option ReceiveState)) → asks (mtu_of calls) value ≡ q
    → reading_of value ≡ r → unwrap_or (if_slot ((at == slot) && not q) r) (view_of slot calls) ≡ view_of slot (notified at value ∷ calls)
view_told slot at value calls q r e f =
    ap (λ (q : Bool). unwrap_or (if_slot ((at == slot) && not q) r) (view_of slot calls)) (sym e)
    ∙ ap (λ r. unwrap_or (if_slot ((at == slot) && not (asks (mtu_of calls) value)) r) (view_of slot calls)) (sym f)

waits_told : (slot at : ℕ) (value : List ℕ) (calls : List Call) (q : Bool) → asks (mtu_of calls) value ≡ q
    → unwrap_or (if_slot ((at == slot) && q) (Some true)) (waits_of slot calls) ≡ waits_of slot (notified at value ∷ calls)
waits_told slot at value calls q e = ap (λ (q : Bool). unwrap_or (if_slot ((at == slot) && q) (Some true)) (waits_of slot calls)) (sym e)

view_read : (slot at : ℕ) (value : List ℕ) (calls : List Call) (r : Option (Option ReceiveState)) → reading_of value ≡ r
    → unwrap_or (if_slot (at == slot) r) (view_of slot calls) ≡ view_of slot (read at value ∷ calls)
view_read slot at value calls r f = ap (λ r. unwrap_or (if_slot (at == slot) r) (view_of slot calls)) (sym f)

elsewhere : (slots at slot : ℕ) → slots ≤ at → slot < slots → (at == slot) ≡ false
elsewhere slots at slot past below = ne_eqb at slot (λ e. omega arith)

-- the value asks, and the slot is there
pub asking_stands : (slots at : ℕ) (value : List ℕ) (calls : List Call) (a : Assistant) → asks a.mtu value ≡ true → at < length a.views
    → StandsFor slots calls a → StandsFor slots (notified at value ∷ calls) (with_read at a)
asking_stands slots at value calls a e within s =
    let e' : asks (mtu_of calls) value ≡ true = ap (λ mtu. asks mtu value) (sym s.mtu) ∙ e in
    let inside : at < length a.reads = subst (λ n. at < n) (s.views_count ∙ sym s.reads_count) within in record {
      views_count = s.views_count;
      reads_count = length-set a.reads at true ∙ s.reads_count;
      mtu = s.mtu;
      writes = s.writes;
      sent = s.sent;
      views = λ slot below. s.views slot below
          ∙ ap Some (sym (given_none (at == slot) (reading_of value) (view_of slot calls)) ∙ view_told slot at value calls true (reading_of value) e' refl);
      reads = λ slot below. one_set a.reads at slot true (waits_of slot calls) inside (s.reads slot below)
          ∙ ap Some (sym (given_here (at == slot) true (waits_of slot calls)) ∙ waits_told slot at value calls true e');
    }

-- the value tells, and the slot is there
pub telling_stands : (slots at : ℕ) (value : List ℕ) (calls : List Call) (a : Assistant) (r : Option (Option ReceiveState)) → asks a.mtu value ≡ false
    → reading_of value ≡ r → at < length a.views → StandsFor slots calls a → StandsFor slots (notified at value ∷ calls) (with_reading at r a)
telling_stands slots at value calls a None e f within s =
    let e' : asks (mtu_of calls) value ≡ false = ap (λ mtu. asks mtu value) (sym s.mtu) ∙ e in record {
      views_count = s.views_count;
      reads_count = s.reads_count;
      mtu = s.mtu;
      writes = s.writes;
      sent = s.sent;
      views = λ slot below. s.views slot below
          ∙ ap Some (sym (nothing_given ((at == slot) && true) (view_of slot calls)) ∙ view_told slot at value calls false None e' f);
      reads = λ slot below. s.reads slot below
          ∙ ap Some (sym (given_none (at == slot) (Some true) (waits_of slot calls)) ∙ waits_told slot at value calls false e');
    }
telling_stands slots at value calls a (Some view) e f within s =
    let e' : asks (mtu_of calls) value ≡ false = ap (λ mtu. asks mtu value) (sym s.mtu) ∙ e in record {
      views_count = length-set a.views at view ∙ s.views_count;
      reads_count = s.reads_count;
      mtu = s.mtu;
      writes = s.writes;
      sent = s.sent;
      views = λ slot below. one_set a.views at slot view (view_of slot calls) within (s.views slot below)
          ∙ ap Some (sym (given_here (at == slot) view (view_of slot calls)) ∙ view_told slot at value calls false (Some view) e' f);
      reads = λ slot below. s.reads slot below
          ∙ ap Some (sym (given_none (at == slot) (Some true) (waits_of slot calls)) ∙ waits_told slot at value calls false e');
    }

-- the value of no slot
pub nowhere_stands : (slots at : ℕ) (value : List ℕ) (calls : List Call) (a : Assistant) → length a.views ≤ at → StandsFor slots calls a
    → StandsFor slots (notified at value ∷ calls) a
nowhere_stands slots at value calls a past s =
    let past' : slots ≤ at = subst (λ n. n ≤ at) s.views_count past in record {
      views_count = s.views_count;
      reads_count = s.reads_count;
      mtu = s.mtu;
      writes = s.writes;
      sent = s.sent;
      views = λ slot below. s.views slot below
          ∙ ap Some (sym (given_elsewhere (at == slot) (not (asks (mtu_of calls) value)) (reading_of value) (view_of slot calls) (elsewhere slots at slot past' below)));
      reads = λ slot below. s.reads slot below
          ∙ ap Some (sym (given_elsewhere (at == slot) (asks (mtu_of calls) value) (Some true) (waits_of slot calls) (elsewhere slots at slot past' below)));
    }

-- the value that a read gave of a slot that is there
pub reading_stands : (slots at : ℕ) (value : List ℕ) (calls : List Call) (a : Assistant) (r : Option (Option ReceiveState)) → reading_of value ≡ r
    → at < length a.views → StandsFor slots calls a → StandsFor slots (read at value ∷ calls) (with_reading at r a)
reading_stands slots at value calls a None f within s = record {
  views_count = s.views_count;
  reads_count = s.reads_count;
  mtu = s.mtu;
  writes = s.writes;
  sent = s.sent;
  views = λ slot below. s.views slot below
      ∙ ap Some (sym (nothing_given (at == slot) (view_of slot calls)) ∙ view_read slot at value calls None f);
  reads = s.reads;
}
reading_stands slots at value calls a (Some view) f within s = record {
  views_count = length-set a.views at view ∙ s.views_count;
  reads_count = s.reads_count;
  mtu = s.mtu;
  writes = s.writes;
  sent = s.sent;
  views = λ slot below. one_set a.views at slot view (view_of slot calls) within (s.views slot below)
      ∙ ap Some (sym (given_now (at == slot) view (view_of slot calls)) ∙ view_read slot at value calls (Some view) f);
  reads = s.reads;
}

-- what a read gave of no slot
pub unread_stands : (slots at : ℕ) (value : List ℕ) (calls : List Call) (a : Assistant) → length a.views ≤ at → StandsFor slots calls a
    → StandsFor slots (read at value ∷ calls) a
unread_stands slots at value calls a past s =
    let past' : slots ≤ at = subst (λ n. n ≤ at) s.views_count past in record {
      views_count = s.views_count;
      reads_count = s.reads_count;
      mtu = s.mtu;
      writes = s.writes;
      sent = s.sent;
      views = λ slot below. s.views slot below
          ∙ ap (λ (b : Bool). Some (unwrap_or (if_slot b (reading_of value)) (view_of slot calls))) (sym (elsewhere slots at slot past' below));
      reads = s.reads;
    }

-- ---- as one step

by_there : {A : Type 0} (t : Bool) (there not_there : A) (P : A → Type 0) → (t ≡ true → P there) → (t ≡ false → P not_there)
    → P (if t then there else not_there)
by_there true there not_there P is isnt = is refl
by_there false there not_there P is isnt = isnt refl

pub notice_stands : (slots at : ℕ) (value : List ℕ) (calls : List Call) (a : Assistant) → StandsFor slots calls a
    → StandsFor slots (notified at value ∷ calls) (after_notice at value a)
notice_stands slots at value calls a s =
    let P : Assistant → Type 0 = λ a. StandsFor slots (notified at value ∷ calls) a in
    let t : Bool = nat_lt at (length a.views) in
    by_there (asks a.mtu value) (if t then with_read at a else a) (after_read at value a) P
    (λ e. by_there t (with_read at a) a P (λ h. asking_stands slots at value calls a e (ltb-true at (length a.views) h) s)
    (λ h. nowhere_stands slots at value calls a (ltb-false at (length a.views) h) s))
    (λ e. by_there t (with_reading at (reading_of value) a) a P
    (λ h. telling_stands slots at value calls a (reading_of value) e refl (ltb-true at (length a.views) h) s)
    (λ h. nowhere_stands slots at value calls a (ltb-false at (length a.views) h) s))

pub read_stands : (slots at : ℕ) (value : List ℕ) (calls : List Call) (a : Assistant) → StandsFor slots calls a
    → StandsFor slots (read at value ∷ calls) (after_read at value a)
read_stands slots at value calls a s =
    let P : Assistant → Type 0 = λ a. StandsFor slots (read at value ∷ calls) a in
    by_there (nat_lt at (length a.views)) (with_reading at (reading_of value) a) a P
    (λ h. reading_stands slots at value calls a (reading_of value) refl (ltb-true at (length a.views) h) s)
    (λ h. unread_stands slots at value calls a (ltb-false at (length a.views) h) s)
