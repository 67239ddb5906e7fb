-- The fields before the subgroups: what is read of them is encoded so, and what is encoded so is read.
use Rattle.receive_state.proofs.Prelude.{◌≡◌, ℕ, ◌+◌, ◌<◌, List, [], ◌++◌, length, Some, Ok, refl, ap, subst, ◌∙◌, arith, length-append, octet_in, octets_in, place_in, IsOctets, octet, octet_takes, octets_take, octets_again, bind_ok, needed_ok, ok_is, StateFields, code_width, ◌>>=◌, field_in}
use Rattle.receive_state.specs.Reading.{source_in, head_in}
use Rattle.receive_state.proofs.HeadTails.{source_of}

pub octets_again_at : (k : ℕ) (value rest : List ℕ) → length value ≡ k → octets_in k (value ++ rest) ≡ Some (value, rest)
octets_again_at k value rest e = subst (λ (n : ℕ). octets_in n (value ++ rest) ≡ Some (value, rest)) e (octets_again value rest)

first_fits : (from : List ℕ) (n : ℕ) (rest : List ℕ) → IsOctets from → from ≡ octet n ++ rest → n < 256
first_fits from n rest h e = grind (arith, (subst IsOctets e h) 0)

-- ---- what tells the source

abbrev pub source_before : StateFields → List ℕ → List ℕ
source_before s tail = octet s.source_id ++ (octet s.address_type ++ (s.address ++ (octet s.sid ++ (s.broadcast_id ++ tail))))

record IsSource (from : List ℕ) (x : StateFields × List ℕ) : Type 0 where
  pub parts : from ≡ source_before x.0 x.1
  pub octets : IsOctets x.1
  pub address : length x.0.address ≡ 6
  pub broadcast_id : length x.0.broadcast_id ≡ 3
  pub groups : x.0.groups ≡ []

source_takes : (from : List ℕ) (x : StateFields × List ℕ) → IsOctets from → source_in from ≡ Ok x → IsSource from x
unfolding source_in
source_takes from x h e =
    let s0 = bind_ok (field_in from octet_in from) _ x e in
    let s1 = bind_ok (field_in from octet_in s0.0.1) _ x s0.2 in
    let s2 = bind_ok (field_in from (octets_in 6) s1.0.1) _ x s1.2 in
    let s3 = bind_ok (field_in from octet_in s2.0.1) _ x s2.2 in
    let s4 = bind_ok (field_in from (octets_in 3) s3.0.1) _ x s3.2 in
    let t0 = octet_takes from s0.0.0 s0.0.1 (needed_ok (place_in from from) (octet_in from) s0.0 s0.1) in
    let t1 = octet_takes s0.0.1 s1.0.0 s1.0.1 (needed_ok (place_in from s0.0.1) (octet_in s0.0.1) s1.0 s1.1) in
    let t2 = octets_take 6 s1.0.1 s2.0.0 s2.0.1 (needed_ok (place_in from s1.0.1) (octets_in 6 s1.0.1) s2.0 s2.1) in
    let t3 = octet_takes s2.0.1 s3.0.0 s3.0.1 (needed_ok (place_in from s2.0.1) (octet_in s2.0.1) s3.0 s3.1) in
    let t4 = octets_take 3 s3.0.1 s4.0.0 s4.0.1 (needed_ok (place_in from s3.0.1) (octets_in 3 s3.0.1) s4.0 s4.1) in
    let parts = t0.parts ∙ ap (λ (z : List ℕ). octet s0.0.0 ++ z)
    (t1.parts ∙ ap (λ (z : List ℕ). octet s1.0.0 ++ z) (t2.0.parts ∙ ap (λ (z : List ℕ). s2.0.0 ++ z) (t3.parts ∙ ap (λ (z : List ℕ). octet s3.0.0 ++ z) (t4.0.parts)))) in
    let read : StateFields × List ℕ = (source_of s0.0.0 s1.0.0 s2.0.0 s3.0.0 s4.0.0, s4.0.1) in
    subst (IsSource from) {x = read} (ok_is read x s4.2)
    (record { parts = parts; octets = t4.0.fits (t3.fits (t2.0.fits (t1.fits (t0.fits h)))); address = t2.1; broadcast_id = t4.1; groups = refl })

-- ---- all fields

-- the fields before the subgroups, their number, and octets behind it
abbrev pub before : StateFields → ℕ → List ℕ → List ℕ
before s count tail = source_before s (octet s.pa_sync_state ++ (octet s.encryption ++ (s.bad_code ++ (octet count ++ tail))))

pub record IsHead (from : List ℕ) (x : StateFields × ℕ × List ℕ) : Type 0 where
  pub parts : from ≡ before x.0 x.1 x.2
  pub octets : IsOctets x.2
  pub address : length x.0.address ≡ 6
  pub broadcast_id : length x.0.broadcast_id ≡ 3
  pub bad_code : length x.0.bad_code ≡ code_width x.0.encryption
  pub few : x.1 < 256

rest_takes : (from : List ℕ) (source : StateFields × List ℕ) (x : StateFields × ℕ × List ℕ) → IsSource from source
    → (field_in from octet_in source.1 >>= λ sync. field_in from octet_in sync.1 >>= λ encryption. field_in from (octets_in (code_width encryption.0)) encryption.1
    >>= λ code. field_in from octet_in code.1 >>= λ count. Ok (record source.0 { pa_sync_state = sync.0; encryption = encryption.0; bad_code = code.0 }, count.0, count.1)) ≡ Ok x → IsHead from x
rest_takes from source x u e =
    let s0 = bind_ok (field_in from octet_in source.1) _ x e in
    let s1 = bind_ok (field_in from octet_in s0.0.1) _ x s0.2 in
    let s2 = bind_ok (field_in from (octets_in (code_width s1.0.0)) s1.0.1) _ x s1.2 in
    let s3 = bind_ok (field_in from octet_in s2.0.1) _ x s2.2 in
    let t0 = octet_takes source.1 s0.0.0 s0.0.1 (needed_ok (place_in from source.1) (octet_in source.1) s0.0 s0.1) in
    let t1 = octet_takes s0.0.1 s1.0.0 s1.0.1 (needed_ok (place_in from s0.0.1) (octet_in s0.0.1) s1.0 s1.1) in
    let t2 = octets_take (code_width s1.0.0) s1.0.1 s2.0.0 s2.0.1 (needed_ok (place_in from s1.0.1) (octets_in (code_width s1.0.0) s1.0.1) s2.0 s2.1) in
    let t3 = octet_takes s2.0.1 s3.0.0 s3.0.1 (needed_ok (place_in from s2.0.1) (octet_in s2.0.1) s3.0 s3.1) in
    let h2 : IsOctets s2.0.1 = t2.0.fits (t1.fits (t0.fits u.octets)) in
    let parts = t0.parts ∙ ap (λ (z : List ℕ). octet s0.0.0 ++ z) (t1.parts ∙ ap (λ (z : List ℕ). octet s1.0.0 ++ z) (t2.0.parts ∙ ap (λ (z : List ℕ). s2.0.0 ++ z) (t3.parts))) in
    let read : StateFields × ℕ × List ℕ = (record source.0 { pa_sync_state = s0.0.0; encryption = s1.0.0; bad_code = s2.0.0 }, s3.0.0, s3.0.1) in
    subst (IsHead from) {x = read} (ok_is read x s3.2) (record {
      parts = u.parts ∙ ap (source_before source.0) parts;
      octets = t3.fits h2;
      address = u.address;
      broadcast_id = u.broadcast_id;
      bad_code = t2.1;
      few = first_fits s2.0.1 s3.0.0 s3.0.1 h2 t3.parts;
    })

pub head_takes : (from : List ℕ) (x : StateFields × ℕ × List ℕ) → IsOctets from → head_in from ≡ Ok x → IsHead from x
unfolding head_in
head_takes from x h e = let a = bind_ok (source_in from) _ x e in rest_takes from a.0 x (source_takes from a.0 h a.1) a.2

pub head_again : (s : StateFields) (count : ℕ) (tail : List ℕ) → length s.address ≡ 6 → length s.broadcast_id ≡ 3 → length s.bad_code ≡ code_width s.encryption
    → head_in (before s count tail) ≡ Ok (record s { groups = [] }, count, tail)
unfolding head_in source_in
head_again s count tail address id code =
    let three = octet s.sid ++ (s.broadcast_id ++ (octet s.pa_sync_state ++ (octet s.encryption ++ (s.bad_code ++ (octet count ++ tail))))) in
    let five = octet s.pa_sync_state ++ (octet s.encryption ++ (s.bad_code ++ (octet count ++ tail))) in
    rw (octets_again_at 6 s.address three address, octets_again_at 3 s.broadcast_id five id, octets_again_at (code_width s.encryption) s.bad_code (octet count ++ tail) code) refl

pub before-length : (s : StateFields) (count : ℕ) (tail : List ℕ) → length s.address ≡ 6 → length s.broadcast_id ≡ 3 → length (before s count tail) ≡ 15 + length s.bad_code + length tail
before-length s count tail address id = grind (arith, length-append, octet)
