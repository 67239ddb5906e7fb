-- A link on which all that waits is served, delivered and read, call by call.
use Rattle.sink_history.proofs.Prelude.{ℕ, zero, suc, ◌≡◌, ◌≢◌, ◌+◌, ◌<◌, ◌≤◌, min, inl, inr, Bool, true, false, List, [], ◌∷◌, length, drop, Option, refl, sym, ap, ◌∙◌, arith, if◌then◌else◌, unwrap_or, filter, range_with_len, cases_eq, eq-eqb, ne_eqb, delivered_of, if_its, notices_of, reads_of, waiting_of, waits_of, Setup, Call, served, notified, read, served_of, writes, writes_waiting, IsAnew, IsApart, IsDrained, LeavesLink, NoneNotifies, drained, repeated, served_out, notified_and_read, notified_out, acts_of, is_forged, language, notices_waiting, read_first, read_waits, reads_waiting, state, notified_first, AreOctets}

-- ---- lists

pub drop_nil : {A : Type 0} (n : ℕ) → drop {A = A} n [] ≡ []
drop_nil n = grind arith

pub drop_one : {A : Type 0} (n : ℕ) (xs : List A) → drop (suc n) xs ≡ drop 1 (drop n xs)
drop_one (suc n) (x ∷ xs) = drop_one n xs
drop_one n xs = search

drop_plus : {A : Type 0} (n : ℕ) (xs : List A) → drop (n + 1) xs ≡ drop 1 (drop n xs)
drop_plus n xs = grind (arith, drop, drop_one)

drop_within : {A : Type 0} (n : ℕ) (xs : List A) → drop (min n (length xs)) xs ≡ drop n xs
drop_within n [] = drop_nil (min n 0) ∙ sym (drop_nil n)
drop_within zero (x ∷ xs) = grind (arith, min, length, drop)
drop_within (suc n) (x ∷ xs) =
    let least : min (suc n) (suc (length xs)) ≡ suc (min n (length xs)) = omega arith in
    ap (λ n. drop n (x ∷ xs)) least ∙ drop_within n xs

drop_all : {A : Type 0} (xs : List A) → drop (length xs) xs ≡ []
drop_all [] = refl
drop_all (x ∷ xs) = drop_all xs

-- ---- what is left by calls of one kind

-- of a list of which each such call takes the first
pub taken_one_by_one : {A : Type 0} (call : Call) (waiting : List Call → List A) → ((calls : List Call) → waiting (call ∷ calls) ≡ drop 1 (waiting calls))
    → (n : ℕ) (calls : List Call) → waiting (repeated n call calls) ≡ drop n (waiting calls)
taken_one_by_one call waiting each zero calls = refl
taken_one_by_one call waiting each (suc n) calls =
    each (repeated n call calls) ∙ ap (drop 1) (taken_one_by_one call waiting each n calls) ∙ sym (drop_one n (waiting calls))

pub none_left : {A : Type 0} (call : Call) (waiting : List Call → List A) → ((calls : List Call) → waiting (call ∷ calls) ≡ drop 1 (waiting calls))
    → (calls : List Call) → waiting (repeated (length (waiting calls)) call calls) ≡ []
none_left call waiting each calls = taken_one_by_one call waiting each (length (waiting calls)) calls ∙ drop_all (waiting calls)

-- of what no such call changes
pub unchanged : {A : Type 0} (call : Call) (f : List Call → A) → ((calls : List Call) → f (call ∷ calls) ≡ f calls) → (n : ℕ) (calls : List Call)
    → f (repeated n call calls) ≡ f calls
unchanged call f each zero calls = refl
unchanged call f each (suc n) calls = each (repeated n call calls) ∙ unchanged call f each n calls

-- ---- a write is served

pub writes_one : (link : ℕ) (calls : List Call) → writes_waiting link (served link ∷ calls) ≡ drop 1 (writes_waiting link calls)
writes_one link calls = grind (arith, served_of, writes, drop, min, length, eq-eqb, drop_within, drop_plus)

-- ---- a notice is delivered

pub notices_one : (setup : Setup) (mtu : Option ℕ) (link : ℕ) (calls : List Call)
    → notices_waiting setup mtu link (notified link ∷ calls) ≡ drop 1 (notices_waiting setup mtu link calls)
notices_one setup mtu link calls = grind (arith, acts_of, waiting_of, notified_first, eq-eqb, drop_one, delivered_of, notices_of, drop)

-- ---- a read is served

kept_same : (test other : ℕ → Bool) (start n : ℕ) → ((i : ℕ) → start ≤ i → other i ≡ test i) → filter other (range_with_len start n) ≡ filter test (range_with_len start n)
kept_same test other start zero same = refl
kept_same test other start (suc n) same = grind (arith, same start (omega arith), kept_same test other (start + 1) n (λ i least. same i (omega arith)))

-- the first number that passes passes no longer
first_dropped : (test other : ℕ → Bool) (at start n : ℕ) (rest : List ℕ) → filter test (range_with_len start n) ≡ at ∷ rest → other at ≡ false
    → ((i : ℕ) → i ≢ at → other i ≡ test i) → filter other (range_with_len start n) ≡ rest
first_dropped test other at start zero rest is none same = absurd cc
first_dropped test other at start (suc n) rest is none same =
    by (test start) refl is (λ e. first_dropped test other at (start + 1) n rest e none same)
  where
    by : (b : Bool) → test start ≡ b
        → (if b then start ∷ filter test (range_with_len (start + 1) n) else filter test (range_with_len (start + 1) n)) ≡ at ∷ rest
        → (filter test (range_with_len (start + 1) n) ≡ at ∷ rest → filter other (range_with_len (start + 1) n) ≡ rest)
        → filter other (range_with_len start (suc n)) ≡ rest
    by true passes e behind =
        let first : start ≡ at = cc in
        let others : filter test (range_with_len (start + 1) n) ≡ rest = cc in
        ap (λ (b : Bool). if b then start ∷ filter other (range_with_len (start + 1) n) else filter other (range_with_len (start + 1) n)) (ap other first ∙ none)
        ∙ kept_same test other (start + 1) n (λ i least. same i (λ here. omega (arith, first, here))) ∙ others
    by false passes e behind =
        let quiet : other start ≡ false = elim (cases_eq start at) [
          | inl here ↦ ap other here ∙ none
          | inr elsewhere ↦ same start elsewhere ∙ passes
        ] in
        ap (λ (b : Bool). if b then start ∷ filter other (range_with_len (start + 1) n) else filter other (range_with_len (start + 1) n)) quiet ∙ behind e

pub reads_one : (setup : Setup) (mtu : Option ℕ) (link : ℕ) (calls : List Call)
    → reads_waiting setup mtu link (read link ∷ calls) ≡ drop 1 (reads_waiting setup mtu link calls)
reads_one setup mtu link calls =
    grind (arith, acts_of, reads_of, language, read_first, eq-eqb, first_dropped, waits_of, unwrap_or, if_its, ne_eqb)

notices_stay : (setup : Setup) (mtu : Option ℕ) (link : ℕ) (calls : List Call) → notices_waiting setup mtu link (read link ∷ calls) ≡ notices_waiting setup mtu link calls
notices_stay setup mtu link calls = grind (arith, acts_of, reads_of, language, waiting_of, read_first, eq-eqb)

-- ---- a drain

out_writes : (setup : Setup) (mtu : Option ℕ) (link : ℕ) (calls : List Call) → writes_waiting link (notified_and_read setup mtu link calls) ≡ writes_waiting link calls
out_writes setup mtu link calls =
    let tellings : List Call = notified_out setup mtu link calls in
    unchanged (read link) (writes_waiting link) (λ c. refl) (length (reads_waiting setup mtu link tellings)) tellings
    ∙ unchanged (notified link) (writes_waiting link) (λ c. refl) (length (notices_waiting setup mtu link calls)) calls

pub out_notices : (setup : Setup) (mtu : Option ℕ) (link : ℕ) (calls : List Call) → notices_waiting setup mtu link (notified_and_read setup mtu link calls) ≡ []
out_notices setup mtu link calls =
    let tellings : List Call = notified_out setup mtu link calls in
    unchanged (read link) (notices_waiting setup mtu link) (notices_stay setup mtu link) (length (reads_waiting setup mtu link tellings)) tellings
    ∙ none_left (notified link) (notices_waiting setup mtu link) (notices_one setup mtu link) calls

pub out_reads : (setup : Setup) (mtu : Option ℕ) (link : ℕ) (calls : List Call) → reads_waiting setup mtu link (notified_and_read setup mtu link calls) ≡ []
out_reads setup mtu link calls = none_left (read link) (reads_waiting setup mtu link) (reads_one setup mtu link) (notified_out setup mtu link calls)

pub is_drained : (setup : Setup) (mtu : Option ℕ) (link : ℕ) (calls : List Call) → IsDrained setup mtu link (drained setup mtu link calls)
is_drained setup mtu link calls = record {
  writes = out_writes setup mtu link (served_out link calls) ∙ none_left (served link) (writes_waiting link) (writes_one link) calls;
  notices = out_notices setup mtu link (served_out link calls);
  reads = out_reads setup mtu link (served_out link calls);
}

-- none of a range passes where none is kept
not_kept : (test : ℕ → Bool) (at start n : ℕ) → start ≤ at → at < start + n → filter test (range_with_len start n) ≡ [] → test at ≡ false
not_kept test at start zero least most none = absurd (omega arith)
not_kept test at start (suc n) least most none =
    by (test start) refl none (λ other e. not_kept test at (start + 1) n (omega (arith, other, least)) (omega (arith, most)) e)
  where
    by : (b : Bool) → test start ≡ b
        → (if b then start ∷ filter test (range_with_len (start + 1) n) else filter test (range_with_len (start + 1) n)) ≡ []
        → (start ≢ at → filter test (range_with_len (start + 1) n) ≡ [] → test at ≡ false) → test at ≡ false
    by true passes e behind = absurd cc
    by false passes e behind = elim (cases_eq start at) [
      | inl here ↦ ap test (sym here) ∙ passes
      | inr elsewhere ↦ behind elsewhere e
    ]

pub out_waits : (setup : Setup) (mtu : Option ℕ) (link slot : ℕ) (calls : List Call) → slot < setup.slots → read_waits setup mtu link slot (notified_and_read setup mtu link calls) ≡ false
out_waits setup mtu link slot calls within =
    not_kept (λ s. read_waits setup mtu link s (notified_and_read setup mtu link calls)) slot 0 setup.slots (omega arith) (omega (arith, within)) (out_reads setup mtu link calls)

-- what the calls of a drain behind its writes leave
out_same : {A : Type 0} (setup : Setup) (mtu : Option ℕ) (link : ℕ) (f : List Call → A) → ((calls : List Call) → f (notified link ∷ calls) ≡ f calls)
    → ((calls : List Call) → f (read link ∷ calls) ≡ f calls) → (calls : List Call) → f (notified_and_read setup mtu link calls) ≡ f calls
out_same setup mtu link f tells reads calls =
    let tellings : List Call = notified_out setup mtu link calls in
    unchanged (read link) f reads (length (reads_waiting setup mtu link tellings)) tellings
    ∙ unchanged (notified link) f tells (length (notices_waiting setup mtu link calls)) calls

pub out_state : (setup : Setup) (mtu : Option ℕ) (link slot : ℕ) (calls : List Call) → state setup slot (notified_and_read setup mtu link calls) ≡ state setup slot calls
out_state setup mtu link slot calls = out_same setup mtu link (state setup slot) (λ c. refl) (λ c. refl) calls

pub out_forged : (setup : Setup) (mtu : Option ℕ) (link : ℕ) (calls : List Call) → is_forged link (notified_and_read setup mtu link calls) ≡ is_forged link calls
out_forged setup mtu link calls = out_same setup mtu link (is_forged link) (λ c. refl) (λ c. refl) calls

more_octets : (call : Call) → ((calls : List Call) → AreOctets calls → AreOctets (call ∷ calls)) → (n : ℕ) (calls : List Call) → AreOctets calls → AreOctets (repeated n call calls)
more_octets call each zero calls are = are
more_octets call each (suc n) calls are = each (repeated n call calls) (more_octets call each n calls are)

pub out_octets : (setup : Setup) (mtu : Option ℕ) (link : ℕ) (calls : List Call) → AreOctets calls → AreOctets (notified_and_read setup mtu link calls)
out_octets setup mtu link calls are = grind (arith, notified_out, more_octets, read, length, reads_waiting, notified, notices_waiting)

pub out_tells : (setup : Setup) (mtu : Option ℕ) (link slot : ℕ) (calls : List Call) → NoneNotifies setup mtu link slot (notified_and_read setup mtu link calls)
out_tells setup mtu link slot calls = grind (arith, out_notices)

-- ---- other links, and a link that is joined

pub leaves : (setup : Setup) (mtu : Option ℕ) (link : ℕ) (call : Call) (calls : List Call) → IsApart link call → LeavesLink setup mtu link call calls
leaves setup mtu link _ calls other =
    grind (arith, ne_eqb, acts_of, writes, drop, served_of, notified_first, waiting_of, read_first, reads_of, language)

pub anew : (setup : Setup) (mtu : Option ℕ) (link : ℕ) (calls : List Call) → IsAnew setup mtu link calls
anew setup mtu link calls = grind (arith, eq-eqb, acts_of, writes, drop, served_of, waiting_of, waits_of, language)
