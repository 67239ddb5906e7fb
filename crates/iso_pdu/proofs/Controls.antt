-- Control payloads: reading and layout agree.
use Rattle.iso_pdu.proofs.Prelude.{◌≡◌, ℕ, zero, suc, ◌/◌, ◌%◌, List, [], ◌∷◌, length, take, drop, eqb, refl, arith, sym, ap, subst, inl, inr, length-append, length-take, length-drop, take-append-drop, Result, Ok, Err, IfOk, IfErr, cases_Bool, eqb-true, eqb-false, eq-eqb, ne_eqb, ControlIs, ControlFaultIs, terminate, ChannelMap, Terminate}
use Rattle.iso_pdu.specs.Control.{control_of}
use Rattle.iso_pdu.specs.declared.control.Control.{Control}
use Rattle.iso_pdu.specs.declared.control.ControlFault.{ControlFault}
use Rattle.iso_pdu.specs.declared.control.ControlFault.TheVariants.{ControlLength}

abbrev good : Control → Result Control ControlFault
good told = Ok told

abbrev bad : ControlFault → Result Control ControlFault
bad fault = Err fault

good_same : (x y : Control) → good x ≡ good y → x ≡ y
good_same x y e = cc

bad_same : (x y : ControlFault) → bad x ≡ bad y → x ≡ y
bad_same x y e = cc

-- ---- BIG_TERMINATE_IND

pub control_of-layout : (told : Control) (octets : List ℕ) → ControlIs told octets → control_of octets ≡ Ok told
unfolding control_of
control_of-layout told octets h = grind (arith, length, length-append, eqb, eq-eqb)

pub control_of-read : (told : Control) (octets : List ℕ) → control_of octets ≡ Ok told → ControlIs told octets
unfolding control_of
control_of-read told [] e = absurd cc
control_of-read told (zero ∷ fields) e =
    elim (cases_Bool (eqb (length fields) 7)) [
      | inl same ↦
          let e' : good ChannelMap ≡ good told = rw same at e in
          let long : length fields ≡ 7 = eqb-true _ _ same in
          subst (λ (x : Control). ControlIs x (0 ∷ fields)) (good_same ChannelMap told e')
          (take 5 fields, drop 5 fields, omega (arith, length-take 5 fields), omega (arith, length-drop 5 fields), ap (λ (os : List ℕ). 0 ∷ os) (sym (take-append-drop 5 fields)))
      | inr differs ↦ let e' : bad ControlLength ≡ good told = rw differs at e in absurd cc
    ]
control_of-read told (suc zero ∷ []) e = absurd cc
control_of-read told (suc zero ∷ reason ∷ []) e = absurd cc
control_of-read told (suc zero ∷ reason ∷ low ∷ []) e = absurd cc
control_of-read told (suc zero ∷ reason ∷ low ∷ high ∷ []) e = grind (arith, good_same)
control_of-read told (suc zero ∷ reason ∷ low ∷ high ∷ more ∷ fields) e = absurd cc
control_of-read told (suc (suc n) ∷ fields) e = absurd cc

pub fault-control_of : (fault : ControlFault) (octets : List ℕ) → ControlFaultIs fault octets → control_of octets ≡ Err fault
unfolding control_of
fault-control_of fault octets h = grind (arith, ne_eqb)

pub control_of-fault : (fault : ControlFault) (octets : List ℕ) → control_of octets ≡ Err fault → ControlFaultIs fault octets
unfolding control_of
control_of-fault fault octets e = grind (arith, bad_same, cases_Bool, eqb, length, eqb-false)

pub terminate-is : (reason instant : ℕ) → ControlIs (Terminate reason instant) (terminate reason instant)
terminate-is reason instant = (instant % 256 ∷ instant / 256 ∷ [], refl, omega arith, refl)

-- ---- what the code answers

pub layout_of : (read : Result Control ControlFault) (octets : List ℕ) → read ≡ control_of octets → IfOk read (λ told. ControlIs told octets)
layout_of read octets e = grind (arith, control_of-read)

pub fault_of : (read : Result Control ControlFault) (octets : List ℕ) → read ≡ control_of octets → IfErr read (λ fault. ControlFaultIs fault octets)
fault_of read octets e = grind (arith, control_of-fault)
