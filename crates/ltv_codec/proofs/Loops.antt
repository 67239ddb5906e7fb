-- Reading structures one after the other, as a loop does.
use Rattle.ltv_codec.proofs.Prelude.{◌≡◌, ℕ, zero, suc, ◌+◌, ◌-◌, ◌<◌, ◌≤◌, Bool, true, false, cond, eqb, List, [], ◌∷◌, ◌++◌, length, get_or, take, drop, Some, None, Result, Ok, Err, refl, sym, ap, ◌∙◌, arith, length-append, append-nil, take_at, IsOctets, ZeroLength, IsBad, IsFault, Fits, encoding, IsLtvList, AreLtvs, AllByRecursion, place_in, counted_in, Answers, LtvBad, Ltv, before, ltvs_of, ltvs_in, bad_of, told, IsStructure, IsBadAt, eqb-true}
use Rattle.std.specs.Result.{result_err, result_unwrap_or}
use Rattle.std.specs.Prelude.{OnOk, IfOk, IfErr, IsOk}
use Rattle.std.proofs.lemmas.Option.{same_Some}
use Rattle.ltv_codec.specs.declared.fault.LtvFault.{LtvFault}
use Rattle.ltv_codec.specs.declared.fault.LtvFault.TheVariants as faults
use Rattle.ltv_codec.specs.Reading.{ltvs_from}
use Rattle.ltv_codec.specs.Values.{first_of, first_in}
use Rattle.ltv_codec.proofs.Lists.{made, behind, behind-more, structure_read, is_zero, is_structure, list_read, read_list, read_bad}

-- ---- the rest of octets that are read

pub shorter : (rest : List ℕ) (kind : ℕ) (value others : List ℕ) → IsStructure rest kind value others → length others + (2 + length value) ≡ length rest
shorter rest kind value others s = omega (arith, ap length s.parts, length-append value others)

-- the structure at the front, and what is read behind it at its place
pub one_read : (from rest : List ℕ) (kind : ℕ) (value others : List ℕ) → length rest ≤ length from → IsStructure rest kind value others
    → ltvs_from (place_in from rest) 0 rest ≡ before (made kind value) (ltvs_from (place_in from others) 0 others)
one_read from rest kind value others h s =
    let there : place_in from rest + (2 + length value) ≡ place_in from others = omega (arith, shorter rest kind value others s) in
    structure_read (place_in from rest) rest kind value others s ∙ ap (λ (p : ℕ). before (made kind value) (ltvs_from p 0 others)) there

before-bad : (ltv : Ltv) (read : Result (List Ltv) LtvBad) → result_err (before ltv read) ≡ result_err read
before-bad ltv read = grind arith

before-in : (ltv : Ltv) (read : Result (List Ltv) LtvBad) → result_err read ≡ None → result_unwrap_or (before ltv read) [] ≡ ltv ∷ result_unwrap_or read []
before-in ltv read e = grind arith

-- a loop that ended has read everything
pub ended : (is_empty : Bool) (rest : List ℕ) → is_empty ≡ eqb (length rest) 0 → is_empty ≡ true → length rest ≡ 0
ended is_empty rest e t = eqb-true _ _ (sym e ∙ t)

-- ---- checking

-- what is wrong with the octets is wrong with the rest of them
pub record Unread (from rest : List ℕ) : Type 0 where
  pub within : length rest ≤ length from
  pub same : result_err (ltvs_from (place_in from rest) 0 rest) ≡ bad_of from

pub unread_next : (from rest : List ℕ) (kind : ℕ) (value others : List ℕ) → IsStructure rest kind value others → Unread from rest → Unread from others
unread_next from rest kind value others s u =
    record {
      within = omega (arith, u.within, shorter rest kind value others s);
      same = sym (before-bad (made kind value) (ltvs_from (place_in from others) 0 others)) ∙ ap result_err (sym (one_read from rest kind value others u.within s)) ∙ u.same;
    }

nothing_is_read : (place : ℕ) (rest : List ℕ) → length rest ≡ 0 → ltvs_from place 0 rest ≡ Ok []
unfolding ltvs_from
nothing_is_read place rest h = grind arith

pub unread_none : (from rest : List ℕ) → Unread from rest → length rest ≡ 0 → bad_of from ≡ None
unread_none from rest u h = sym u.same ∙ ap result_err (nothing_is_read (place_in from rest) rest h)

-- ---- decoding

-- the octets are read as the structures so far and what the rest is read as
pub record Undecoded (from : List ℕ) (list : List Ltv) (rest : List ℕ) : Type 0 where
  pub within : length rest ≤ length from
  pub same : behind list (ltvs_from (place_in from rest) 0 rest) ≡ ltvs_of from

pub undecoded_next : (from : List ℕ) (list : List Ltv) (rest : List ℕ) (kind : ℕ) (value others : List ℕ) → IsStructure rest kind value others → Undecoded from list rest
    → Undecoded from (list ++ made kind value ∷ []) others
undecoded_next from list rest kind value others s u =
    record {
      within = omega (arith, u.within, shorter rest kind value others s);
      same = sym (behind-more list (made kind value) (ltvs_from (place_in from others) 0 others)) ∙ ap (behind list) (sym (one_read from rest kind value others u.within s)) ∙ u.same;
    }

pub undecoded_none : (from : List ℕ) (list : List Ltv) (rest : List ℕ) → Undecoded from list rest → length rest ≡ 0 → ltvs_of from ≡ Ok list
undecoded_none from list rest u h = sym u.same ∙ ap (behind list) (nothing_is_read (place_in from rest) rest h) ∙ ap (λ (ls : List Ltv). Ok ls) (append-nil list)

-- ---- the first value of a type

-- the first value is that of the rest, and the rest is a list
pub record Unfound (from : List ℕ) (kind : ℕ) (rest : List ℕ) : Type 0 where
  pub unread : Unread from rest
  pub same : first_of kind (result_unwrap_or (ltvs_from (place_in from rest) 0 rest) []) ≡ first_in kind from

-- the rest is a structure and a list
opened : (from : List ℕ) (kind : ℕ) (rest : List ℕ) (found : ℕ) (value others : List ℕ) → bad_of from ≡ None → IsStructure rest found value others → Unfound from kind rest
    → cond (eqb found kind) (Some value) (first_of kind (result_unwrap_or (ltvs_from (place_in from others) 0 others) [])) ≡ first_in kind from
opened from kind rest found value others good s u =
    grind (
      arith,
      unread_next from rest found value others s u.unread,
      one_read from rest found value others u.unread.within s,
      before-in (made found value) (ltvs_from (place_in from others) 0 others) ((unread_next from rest found value others s u.unread).same ∙ good),
      u.same,
    )

pub unfound_next : (from : List ℕ) (kind : ℕ) (rest : List ℕ) (found : ℕ) (value others : List ℕ) → bad_of from ≡ None
    → eqb found kind ≡ false → IsStructure rest found value others → Unfound from kind rest → Unfound from kind others
unfound_next from kind rest found value others good e s u =
    record {
      unread = unread_next from rest found value others s u.unread;
      same = sym (ap (λ (b : Bool). cond b (Some value) (first_of kind (result_unwrap_or (ltvs_from (place_in from others) 0 others) []))) e) ∙ opened from kind rest found value others good s u;
    }

pub unfound_found : (from : List ℕ) (kind : ℕ) (rest : List ℕ) (found : ℕ) (value others : List ℕ) → bad_of from ≡ None
    → eqb found kind ≡ true → IsStructure rest found value others → Unfound from kind rest → first_in kind from ≡ Some value
unfound_found from kind rest found value others good e s u = grind (arith, opened from kind rest found value others good s u)

pub unfound_none : (from : List ℕ) (kind : ℕ) (rest : List ℕ) → Unfound from kind rest → length rest ≡ 0 → first_in kind from ≡ None
unfound_none from kind rest u h = sym u.same ∙ ap (λ (r : Result (List Ltv) LtvBad). first_of kind (result_unwrap_or r [])) (nothing_is_read (place_in from rest) rest h)

-- ---- the front of octets that are read

pub empty_body : (place : ℕ) (octets body after : List ℕ) → counted_in octets ≡ Some (body, after) → length body < 1 → IsBadAt place octets (ZeroLength place)
empty_body place octets [] after e h = is_zero place octets after e
empty_body place octets (kind ∷ value) after e h = absurd (omega (arith, h))

pub full_body : (octets body after : List ℕ) → IsOctets octets → counted_in octets ≡ Some (body, after) → 1 ≤ length body
    → IsStructure octets (get_or body 0 0) (take (length body - 1) (drop 1 body)) after
full_body octets [] after fits e h = absurd (omega (arith, h))
full_body octets (kind ∷ value) after fits e h = grind (arith, append-nil value, take_at value [] (length value) refl, is_structure octets kind value after fits e)

-- ---- what the calls promise

ok_in : (read : Result (List Ltv) LtvBad) → result_err read ≡ None → read ≡ Ok (result_unwrap_or read [])
ok_in read e = grind arith

err_in : (read : Result (List Ltv) LtvBad) (bad : LtvBad) → result_err read ≡ Some bad → read ≡ Err bad
err_in read bad e = grind (arith, same_Some)

-- octets that are an LTV list are the one that is read
pub list_in : (octets : List ℕ) → IsOctets octets → bad_of octets ≡ None → IsLtvList (ltvs_in octets) octets
list_in octets fits e = read_list (ltvs_in octets) octets fits (ok_in (ltvs_of octets) e)

-- a list is read as one, and what is read as one is a list
pub reads : (octets : List ℕ) → AreLtvs octets → bad_of octets ≡ None
reads octets l = ap result_err (list_read l.ltvs octets l.list)

pub are_read : (octets : List ℕ) → IsOctets octets → bad_of octets ≡ None → AreLtvs octets
are_read octets fits e = record { ltvs = ltvs_in octets; list = list_in octets fits e }

pub checked_are : (octets : List ℕ) (result : Result (Unit {0}) LtvBad) → IsOctets octets → result_err result ≡ bad_of octets → OnOk result (AreLtvs octets)
checked_are octets result fits e = grind (arith, are_read)

pub checked_list : (octets : List ℕ) (result : Result (Unit {0}) LtvBad) → IsOctets octets → result_err result ≡ bad_of octets → OnOk result (IsLtvList (ltvs_in octets) octets)
checked_list octets result fits e = grind (arith, list_in)

pub checked_cut : (octets : List ℕ) (result : Result (Unit {0}) LtvBad) → IsOctets octets → result_err result ≡ bad_of octets → IfErr result (λ bad. IsBad bad octets)
checked_cut octets result fits e = grind (arith, read_bad, err_in)

pub decoded_list : (octets : List ℕ) (result : Result (List Ltv) LtvFault) → IsOctets octets → Answers told result (ltvs_of octets) → IfOk result (λ ltvs. IsLtvList ltvs octets)
decoded_list octets result fits given = grind (arith, read_list)

are_given : (octets : List ℕ) (read : Result (List Ltv) LtvBad) → IsOctets octets → ltvs_of octets ≡ read → IsOk read → AreLtvs octets
are_given octets (Ok ltvs) fits e given = record { ltvs = ltvs; list = read_list ltvs octets fits e }
are_given octets (Err bad) fits e given = absurd cc

pub decoded_cut : (octets : List ℕ) (result : Result (List Ltv) LtvFault) → IsOctets octets → Answers told result (ltvs_of octets) → (result ≡ Err faults.Memory → 0 < length octets)
    → IfErr result (λ fault. IsFault fault octets)
decoded_cut octets result fits given some = grind (arith, are_given, read_bad)

-- ---- encoding

take_all : (ltvs : List Ltv) (i : ℕ) → length ltvs ≤ i → take i ltvs ≡ ltvs
take_all [] zero le = refl
take_all [] (suc i) le = refl
take_all (ltv ∷ ltvs) zero le = absurd (omega arith)
take_all (ltv ∷ ltvs) (suc i) le = ap (λ (ls : List Ltv). ltv ∷ ls) (take_all ltvs i (omega arith))

pub fits_at : (ltvs : List Ltv) (i : ℕ) (ltv : Ltv) → AllByRecursion Fits ltvs → i < length ltvs → ltv ≡ get_or ltvs i ltv → length ltv.value ≤ 254
fits_at [] i ltv h lt e = absurd (omega arith)
fits_at (first ∷ ltvs) zero ltv h lt e = rw e (h.0)
fits_at (first ∷ ltvs) (suc i) ltv h lt e = fits_at ltvs i ltv h.1 (omega arith) e

pub all_encoded : (ltvs : List Ltv) (octets : List ℕ) (i : ℕ) → AllByRecursion Fits ltvs → length ltvs ≤ i → octets ≡ encoding (take i ltvs) → IsLtvList ltvs octets
all_encoded ltvs octets i h le e = record { fit = h; encoded = e ∙ ap encoding (take_all ltvs i le) }
