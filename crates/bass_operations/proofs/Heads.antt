-- The fields before the subgroups: what is read of them is encoded so, and what is encoded so is read.
use Rattle.bass_operations.proofs.Prelude.{◌≡◌, ℕ, ◌+◌, ◌^◌, ◌<◌, List, [], ◌++◌, length, Some, refl, ap, subst, ◌∙◌, arith, length-append, octet_in, octets_in, number_in, IsOctets, octet, number, ◌>>=◌, octet_takes, octets_take, octets_again, number_takes, number_again, number-length, bind_some, some_is, AddSource, ModifySource}
use Rattle.bass_operations.specs.Reading.{add_head_in, modify_head_in}

pub octets_again_at : (k : ℕ) (value rest : List ℕ) → length value ≡ k → octets_in k (value ++ rest) ≡ Some (value, rest)
octets_again_at k value rest e = subst (λ (n : ℕ). octets_in n (value ++ rest) ≡ Some (value, rest)) e (octets_again value rest)

first_fits : (from : List ℕ) (n : ℕ) (rest : List ℕ) → IsOctets from → from ≡ octet n ++ rest → n < 256
first_fits from n rest h e = grind (arith, (subst IsOctets e h) 0)

-- ---- Add Source

-- the fields before the subgroups, their number, and octets behind it
abbrev pub add_before : AddSource → ℕ → List ℕ → List ℕ
add_before add count tail =
    octet add.address_type ++ (add.address ++ (octet add.sid ++ (add.broadcast_id ++ (octet add.pa_sync ++ (number 2 add.pa_interval ++ (octet count ++ tail))))))

pub record IsAddHead (from : List ℕ) (x : AddSource × ℕ × List ℕ) : Type 0 where
  pub parts : from ≡ add_before x.0 x.1 x.2
  pub octets : IsOctets x.2
  pub address : length x.0.address ≡ 6
  pub broadcast_id : length x.0.broadcast_id ≡ 3
  pub pa_interval : x.0.pa_interval < 2 ^ 16
  pub few : x.1 < 256

pub add_head_takes : (from : List ℕ) (x : AddSource × ℕ × List ℕ) → IsOctets from → add_head_in from ≡ Some x → IsAddHead from x
unfolding add_head_in
add_head_takes from x h e =
    let s0 = bind_some (octet_in from) _ x e in
    let s1 = bind_some (octets_in 6 s0.0.1) _ x s0.2 in
    let s2 = bind_some (octet_in s1.0.1) _ x s1.2 in
    let s3 = bind_some (octets_in 3 s2.0.1) _ x s2.2 in
    let s4 = bind_some (octet_in s3.0.1) _ x s3.2 in
    let s5 = bind_some (number_in 2 s4.0.1) _ x s4.2 in
    let s6 = bind_some (octet_in s5.0.1) _ x s5.2 in
    let t0 = octet_takes from s0.0.0 s0.0.1 s0.1 in
    let t1 = octets_take 6 s0.0.1 s1.0.0 s1.0.1 s1.1 in
    let t2 = octet_takes s1.0.1 s2.0.0 s2.0.1 s2.1 in
    let t3 = octets_take 3 s2.0.1 s3.0.0 s3.0.1 s3.1 in
    let t4 = octet_takes s3.0.1 s4.0.0 s4.0.1 s4.1 in
    let h4 : IsOctets s4.0.1 = t4.fits (t3.0.fits (t2.fits (t1.0.fits (t0.fits h)))) in
    let t5 = number_takes 2 s4.0.1 s5.0.0 s5.0.1 h4 s5.1 in
    let h5 : IsOctets s5.0.1 = t5.0.fits h4 in
    let t6 = octet_takes s5.0.1 s6.0.0 s6.0.1 s6.1 in
    let parts = t0.parts ∙ ap (λ (z : List ℕ). octet s0.0.0 ++ z) (t1.0.parts ∙ ap (λ (z : List ℕ). s1.0.0 ++ z)
    (t2.parts ∙ ap (λ (z : List ℕ). octet s2.0.0 ++ z)
    (t3.0.parts ∙ ap (λ (z : List ℕ). s3.0.0 ++ z) (t4.parts ∙ ap (λ (z : List ℕ). octet s4.0.0 ++ z) (t5.0.parts ∙ ap (λ (z : List ℕ). number 2 s5.0.0 ++ z) (t6.parts)))))) in
    let read : AddSource × ℕ × List ℕ =
    (record { address_type = s0.0.0; address = s1.0.0; sid = s2.0.0; broadcast_id = s3.0.0; pa_sync = s4.0.0; pa_interval = s5.0.0; wishes = [] }, s6.0.0, s6.0.1) in
    subst (IsAddHead from) {x = read} (some_is read x s6.2)
    (record { parts = parts; octets = t6.fits h5; address = t1.1; broadcast_id = t3.1; pa_interval = t5.1; few = first_fits s5.0.1 s6.0.0 s6.0.1 h5 t6.parts })

pub add_head_again : (add : AddSource) (count : ℕ) (tail : List ℕ) → length add.address ≡ 6 → length add.broadcast_id ≡ 3 → add.pa_interval < 2 ^ 16
    → add_head_in (add_before add count tail) ≡ Some (record add { wishes = [] }, count, tail)
unfolding add_head_in
add_head_again add count tail address id interval =
    grind (
      arith,
      octets_again_at 6 add.address (octet add.sid ++ (add.broadcast_id ++ (octet add.pa_sync ++ (number 2 add.pa_interval ++ (octet count ++ tail))))) address,
      octets_again_at 3 add.broadcast_id (octet add.pa_sync ++ (number 2 add.pa_interval ++ (octet count ++ tail))) id,
      number_again 2 add.pa_interval (octet count ++ tail) interval,
    )

pub add_before-length : (add : AddSource) (count : ℕ) (tail : List ℕ) → length add.address ≡ 6 → length add.broadcast_id ≡ 3 → length (add_before add count tail) ≡ 15 + length tail
add_before-length add count tail address id = grind (arith, length-append, octet, number, number-length)

-- ---- Modify Source

abbrev pub modify_before : ModifySource → ℕ → List ℕ → List ℕ
modify_before modify count tail = octet modify.source_id ++ (octet modify.pa_sync ++ (number 2 modify.pa_interval ++ (octet count ++ tail)))

pub record IsModifyHead (from : List ℕ) (x : ModifySource × ℕ × List ℕ) : Type 0 where
  pub parts : from ≡ modify_before x.0 x.1 x.2
  pub octets : IsOctets x.2
  pub pa_interval : x.0.pa_interval < 2 ^ 16
  pub few : x.1 < 256

pub modify_head_takes : (from : List ℕ) (x : ModifySource × ℕ × List ℕ) → IsOctets from → modify_head_in from ≡ Some x → IsModifyHead from x
unfolding modify_head_in
modify_head_takes from x h e =
    let s0 = bind_some (octet_in from) _ x e in
    let s1 = bind_some (octet_in s0.0.1) _ x s0.2 in
    let s2 = bind_some (number_in 2 s1.0.1) _ x s1.2 in
    let s3 = bind_some (octet_in s2.0.1) _ x s2.2 in
    let t0 = octet_takes from s0.0.0 s0.0.1 s0.1 in
    let t1 = octet_takes s0.0.1 s1.0.0 s1.0.1 s1.1 in
    let h1 : IsOctets s1.0.1 = t1.fits (t0.fits h) in
    let t2 = number_takes 2 s1.0.1 s2.0.0 s2.0.1 h1 s2.1 in
    let h2 : IsOctets s2.0.1 = t2.0.fits h1 in
    let t3 = octet_takes s2.0.1 s3.0.0 s3.0.1 s3.1 in
    let parts = t0.parts ∙ ap (λ (z : List ℕ). octet s0.0.0 ++ z) (t1.parts ∙ ap (λ (z : List ℕ). octet s1.0.0 ++ z) (t2.0.parts ∙ ap (λ (z : List ℕ). number 2 s2.0.0 ++ z) (t3.parts))) in
    let read : ModifySource × ℕ × List ℕ = (record { source_id = s0.0.0; pa_sync = s1.0.0; pa_interval = s2.0.0; wishes = [] }, s3.0.0, s3.0.1) in
    subst (IsModifyHead from) {x = read} (some_is read x s3.2) (record { parts = parts; octets = t3.fits h2; pa_interval = t2.1; few = first_fits s2.0.1 s3.0.0 s3.0.1 h2 t3.parts })

pub modify_head_again : (modify : ModifySource) (count : ℕ) (tail : List ℕ) → modify.pa_interval < 2 ^ 16
    → modify_head_in (modify_before modify count tail) ≡ Some (record modify { wishes = [] }, count, tail)
unfolding modify_head_in
modify_head_again modify count tail interval = rw (number_again 2 modify.pa_interval (octet count ++ tail) interval) refl

pub modify_before-length : (modify : ModifySource) (count : ℕ) (tail : List ℕ) → length (modify_before modify count tail) ≡ 5 + length tail
modify_before-length modify count tail = omega (arith, length-append (number 2 modify.pa_interval) (octet count ++ tail), number-length 2 modify.pa_interval)
