-- Where reading the head ends at a place, the octets end in a field of the head there.
use Rattle.receive_state.proofs.Prelude.{◌≡◌, ℕ, ◌+◌, ◌-◌, ◌<◌, List, [], ◌∷◌, ◌++◌, length, Err, refl, sym, ap, subst, ◌∙◌, arith, zero-add, nat_lt, length-append, Field, free, unless, octet_in, octets_in, place_in, octet, EndsIn, StateFields, fields, FieldsFit, code_width, ◌>>=◌}
use Rattle.receive_state.specs.Reading.{head_in}
use Rattle.receive_state.proofs.Cuts.{ends_here, ends_more, zeros, length-zeros, filled, length-filled, more-zeros}
use Rattle.receive_state.proofs.CutSteps.{find_octet, find_octets}
use Rattle.receive_state.proofs.HeadTails.{source_of, sourced, from_id, from_sid, from_address, from_kind, from_source, from_count, from_code, from_enc, from_sync, head_is, assoc}

pub record EndsInHead (whole : List ℕ) (p : ℕ) : Type 0 where
  pub s : StateFields
  pub widths : FieldsFit s
  pub ends : EndsIn p (fields s) whole

-- octets that are left of the whole, with fields before them
record Left (whole : List ℕ) (front : List Field → List Field) (rest : List ℕ) : Type 0 where
  n : ℕ
  len : n + length rest ≡ length whole
  lift : (q : ℕ) (fs : List Field) → EndsIn q fs rest → EndsIn (n + q) (front fs) whole

-- what is left behind one more field
behind : {whole rest : List ℕ} {front : List Field → List Field} (field : Field) (after : List ℕ) → Left whole front rest → rest ≡ field.octets ++ after
    → Left whole (λ fs. front (field ∷ fs)) after
behind {whole} {rest} {front} field after left parts = record {
  n = left.n + length field.octets;
  len = let same = left.len in omega (arith, ap length parts, length-append field.octets after);
  lift =
      λ q fs ends. subst (λ (m : ℕ). EndsIn m (front (field ∷ fs)) whole) (let a : left.n + (length field.octets + q) ≡ left.n + length field.octets + q = omega arith in a)
      (left.lift (length field.octets + q) (field ∷ fs) (subst (EndsIn (length field.octets + q) (field ∷ fs)) (sym parts) (ends_more field fs q after ends)));
}

-- where what is left ends within a field
ends_at : {whole rest : List ℕ} {front : List Field → List Field} (p : ℕ) (field : Field) (others : List Field) (more : List ℕ) → Left whole front rest → p ≡ place_in whole rest
    → field.octets ≡ rest ++ more → 0 < length more → EndsIn p (front (field ∷ others)) whole
ends_at {whole} {rest} {front} p field others more left at e some =
    let len = left.len in
    subst (λ (m : ℕ). EndsIn m (front (field ∷ others)) whole) (let same : left.n + 0 ≡ p = omega arith in same) (left.lift 0 (field
    ∷ others) (ends_here field others rest more e some))

ends_before : {whole rest : List ℕ} {front : List Field → List Field} (p : ℕ) (field : Field) (others : List Field) → Left whole front rest → p ≡ place_in whole rest
    → field.octets ≡ octet 0 → rest ≡ [] → EndsIn p (front (field ∷ others)) whole
ends_before p field others left at e empty = ends_at p field others (octet 0) left at (e ∙ ap (λ (x : List ℕ). x ++ octet 0) (sym empty)) (omega arith)

ends_few : {whole rest : List ℕ} {front : List Field → List Field} (p k : ℕ) (others : List Field) → Left whole front rest → p ≡ place_in whole rest
    → length rest < k → EndsIn p (front (free (filled k rest) ∷ others)) whole
ends_few {whole} {rest} p k others left at few = ends_at p (free (filled k rest)) others (zeros (k - length rest)) left at refl (more-zeros k rest few)

found_count : (whole : List ℕ) (p : ℕ) (v0 : ℕ) (v1 : ℕ) (v2 : List ℕ) (v3 : ℕ) (v4 : List ℕ) (v5 : ℕ) (v6 : ℕ) (v7 : List ℕ) (rest : List ℕ) → length v2 ≡ 6 → length v4 ≡ 3
    → length v7 ≡ code_width v6
    → Left whole (λ fs. free (octet v0) ∷ unless (nat_lt 1 v1) (octet v1) ∷ free v2 ∷ unless (nat_lt 15 v3) (octet v3) ∷ free v4 ∷ unless (nat_lt 4 v5) (octet v5)
    ∷ unless (nat_lt 3 v6) (octet v6) ∷ free v7 ∷ fs) rest
    → from_count whole (source_of v0 v1 v2 v3 v4) v5 v6 v7 rest ≡ Err p → EndsInHead whole p
found_count whole p v0 v1 v2 v3 v4 v5 v6 v7 rest w2 w4 w7 left e =
    find_octet whole rest p _ e (λ empty there. record {
      s = record (source_of v0 v1 v2 v3 v4) { pa_sync_state = v5; encryption = v6; bad_code = v7 };
      widths = record { address = w2; broadcast_id = w4; bad_code = w7; few = omega arith; groups = tt };
      ends = ends_before p (free (octet 0)) _ left there refl empty;
    }) (λ value after parts e'. absurd cc)

found_code : (whole : List ℕ) (p : ℕ) (v0 : ℕ) (v1 : ℕ) (v2 : List ℕ) (v3 : ℕ) (v4 : List ℕ) (v5 : ℕ) (v6 : ℕ) (rest : List ℕ) → length v2 ≡ 6 → length v4 ≡ 3
    → Left whole (λ fs. free (octet v0) ∷ unless (nat_lt 1 v1) (octet v1) ∷ free v2 ∷ unless (nat_lt 15 v3) (octet v3) ∷ free v4 ∷ unless (nat_lt 4 v5) (octet v5)
    ∷ unless (nat_lt 3 v6) (octet v6) ∷ fs) rest → from_code whole (source_of v0 v1 v2 v3 v4) v5 v6 rest ≡ Err p → EndsInHead whole p
found_code whole p v0 v1 v2 v3 v4 v5 v6 rest w2 w4 left e =
    find_octets whole rest (code_width v6) p _ e (λ few there. record {
      s = record (source_of v0 v1 v2 v3 v4) { pa_sync_state = v5; encryption = v6; bad_code = filled (code_width v6) rest };
      widths = record { address = w2; broadcast_id = w4; bad_code = length-filled (code_width v6) rest few; few = omega arith; groups = tt };
      ends = ends_few p (code_width v6) _ left there few;
    })
    (λ value after parts width e'. found_count whole p v0 v1 v2 v3 v4 v5 v6 value after w2 w4 width (behind (free value) after left parts) e')

found_enc : (whole : List ℕ) (p : ℕ) (v0 : ℕ) (v1 : ℕ) (v2 : List ℕ) (v3 : ℕ) (v4 : List ℕ) (v5 : ℕ) (rest : List ℕ) → length v2 ≡ 6 → length v4 ≡ 3
    → Left whole (λ fs. free (octet v0) ∷ unless (nat_lt 1 v1) (octet v1) ∷ free v2 ∷ unless (nat_lt 15 v3) (octet v3) ∷ free v4 ∷ unless (nat_lt 4 v5) (octet v5) ∷ fs) rest
    → from_enc whole (source_of v0 v1 v2 v3 v4) v5 rest ≡ Err p → EndsInHead whole p
found_enc whole p v0 v1 v2 v3 v4 v5 rest w2 w4 left e =
    find_octet whole rest p _ e (λ empty there. record {
      s = record (source_of v0 v1 v2 v3 v4) { pa_sync_state = v5 };
      widths = record { address = w2; broadcast_id = w4; bad_code = refl; few = omega arith; groups = tt };
      ends = ends_before p (unless (nat_lt 3 0) (octet 0)) _ left there refl empty;
    })
    (λ value after parts e'. found_code whole p v0 v1 v2 v3 v4 v5 value after w2 w4 (behind (unless (nat_lt 3 value) (octet value)) after left parts) e')

found_sync : (whole : List ℕ) (p : ℕ) (v0 : ℕ) (v1 : ℕ) (v2 : List ℕ) (v3 : ℕ) (v4 : List ℕ) (rest : List ℕ) → length v2 ≡ 6 → length v4 ≡ 3
    → Left whole (λ fs. free (octet v0) ∷ unless (nat_lt 1 v1) (octet v1) ∷ free v2 ∷ unless (nat_lt 15 v3) (octet v3) ∷ free v4 ∷ fs) rest
    → from_sync whole (source_of v0 v1 v2 v3 v4) rest ≡ Err p → EndsInHead whole p
found_sync whole p v0 v1 v2 v3 v4 rest w2 w4 left e =
    find_octet whole rest p _ e (λ empty there. record {
      s = source_of v0 v1 v2 v3 v4;
      widths = record { address = w2; broadcast_id = w4; bad_code = refl; few = omega arith; groups = tt };
      ends = ends_before p (unless (nat_lt 4 0) (octet 0)) _ left there refl empty;
    })
    (λ value after parts e'. found_enc whole p v0 v1 v2 v3 v4 value after w2 w4 (behind (unless (nat_lt 4 value) (octet value)) after left parts) e')

found_id : (whole : List ℕ) (p : ℕ) (v0 : ℕ) (v1 : ℕ) (v2 : List ℕ) (v3 : ℕ) (rest : List ℕ) → length v2 ≡ 6
    → Left whole (λ fs. free (octet v0) ∷ unless (nat_lt 1 v1) (octet v1) ∷ free v2 ∷ unless (nat_lt 15 v3) (octet v3) ∷ fs) rest
    → (from_id whole v0 v1 v2 v3 rest >>= λ who. from_sync whole who.0 who.1) ≡ Err p → EndsInHead whole p
found_id whole p v0 v1 v2 v3 rest w2 left e =
    find_octets whole rest 3 p (λ x. sourced (source_of v0 v1 v2 v3 x.0) x.1 >>= λ who. from_sync whole who.0 who.1) (sym
    (grind (arith, assoc, place_in, octets_in, sourced, from_sync)) ∙ e) (λ few there. record {
      s = source_of v0 v1 v2 v3 (filled 3 rest);
      widths = record { address = w2; broadcast_id = length-filled 3 rest few; bad_code = refl; few = omega arith; groups = tt };
      ends = ends_few p 3 _ left there few;
    }) (λ value after parts width e'. found_sync whole p v0 v1 v2 v3 value after w2 width (behind (free value) after left parts) e')

found_sid : (whole : List ℕ) (p : ℕ) (v0 : ℕ) (v1 : ℕ) (v2 : List ℕ) (rest : List ℕ) → length v2 ≡ 6
    → Left whole (λ fs. free (octet v0) ∷ unless (nat_lt 1 v1) (octet v1) ∷ free v2 ∷ fs) rest
    → (from_sid whole v0 v1 v2 rest >>= λ who. from_sync whole who.0 who.1) ≡ Err p → EndsInHead whole p
found_sid whole p v0 v1 v2 rest w2 left e =
    find_octet whole rest p (λ x. from_id whole v0 v1 v2 x.0 x.1 >>= λ who. from_sync whole who.0 who.1) (sym (assoc (place_in whole rest) (octet_in rest)
    (λ (x : ℕ × List ℕ). from_id whole v0 v1 v2 x.0 x.1) (λ (who : StateFields × List ℕ). from_sync whole who.0 who.1)) ∙ e)
    (λ empty there. record {
      s = source_of v0 v1 v2 0 (zeros 3);
      widths = record { address = w2; broadcast_id = length-zeros 3; bad_code = refl; few = omega arith; groups = tt };
      ends = ends_before p (unless (nat_lt 15 0) (octet 0)) _ left there refl empty;
    })
    (λ value after parts e'. found_id whole p v0 v1 v2 value after w2 (behind (unless (nat_lt 15 value) (octet value)) after left parts) e')

found_address : (whole : List ℕ) (p : ℕ) (v0 : ℕ) (v1 : ℕ) (rest : List ℕ)
    → Left whole (λ fs. free (octet v0) ∷ unless (nat_lt 1 v1) (octet v1) ∷ fs) rest
    → (from_address whole v0 v1 rest >>= λ who. from_sync whole who.0 who.1) ≡ Err p → EndsInHead whole p
found_address whole p v0 v1 rest left e =
    find_octets whole rest 6 p (λ x. from_sid whole v0 v1 x.0 x.1 >>= λ who. from_sync whole who.0 who.1) (sym (assoc (place_in whole rest) (octets_in 6 rest)
    (λ (x : List ℕ × List ℕ). from_sid whole v0 v1 x.0 x.1) (λ (who : StateFields × List ℕ). from_sync whole who.0 who.1)) ∙ e)
    (λ few there. record {
      s = source_of v0 v1 (filled 6 rest) 0 (zeros 3);
      widths = record { address = length-filled 6 rest few; broadcast_id = length-zeros 3; bad_code = refl; few = omega arith; groups = tt };
      ends = ends_few p 6 _ left there few;
    }) (λ value after parts width e'. found_sid whole p v0 v1 value after width (behind (free value) after left parts) e')

found_kind : (whole : List ℕ) (p : ℕ) (v0 : ℕ) (rest : List ℕ) → Left whole (λ fs. free (octet v0) ∷ fs) rest
    → (from_kind whole v0 rest >>= λ who. from_sync whole who.0 who.1) ≡ Err p → EndsInHead whole p
found_kind whole p v0 rest left e =
    find_octet whole rest p (λ x. from_address whole v0 x.0 x.1 >>= λ who. from_sync whole who.0 who.1) (sym (assoc (place_in whole rest) (octet_in rest)
    (λ (x : ℕ × List ℕ). from_address whole v0 x.0 x.1) (λ (who : StateFields × List ℕ). from_sync whole who.0 who.1)) ∙ e)
    (λ empty there. record {
      s = source_of v0 0 (zeros 6) 0 (zeros 3);
      widths = record { address = length-zeros 6; broadcast_id = length-zeros 3; bad_code = refl; few = omega arith; groups = tt };
      ends = ends_before p (unless (nat_lt 1 0) (octet 0)) _ left there refl empty;
    }) (λ value after parts e'. found_address whole p v0 value after (behind (unless (nat_lt 1 value) (octet value)) after left parts) e')

found_source : (whole : List ℕ) (p : ℕ) (rest : List ℕ) → Left whole (λ fs. fs) rest
    → (from_source whole rest >>= λ who. from_sync whole who.0 who.1) ≡ Err p → EndsInHead whole p
found_source whole p rest left e =
    find_octet whole rest p (λ x. from_kind whole x.0 x.1 >>= λ who. from_sync whole who.0 who.1) (sym (assoc (place_in whole rest) (octet_in rest)
    (λ (x : ℕ × List ℕ). from_kind whole x.0 x.1) (λ (who : StateFields × List ℕ). from_sync whole who.0 who.1)) ∙ e)
    (λ empty there. record {
      s = source_of 0 0 (zeros 6) 0 (zeros 3);
      widths = record { address = length-zeros 6; broadcast_id = length-zeros 3; bad_code = refl; few = omega arith; groups = tt };
      ends = ends_before p (free (octet 0)) _ left there refl empty;
    }) (λ value after parts e'. found_kind whole p value after (behind (free (octet value)) after left parts) e')

pub found_head : (whole : List ℕ) (p : ℕ) → head_in whole ≡ Err p → EndsInHead whole p
found_head whole p e =
    found_source whole p whole (record { n = 0; len = zero-add (length whole); lift = λ q fs ends. subst (λ (m : ℕ). EndsIn m fs whole) (sym (zero-add q)) ends })
    (sym (head_is whole) ∙ e)
