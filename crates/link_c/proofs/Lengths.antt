-- How many octets the view of a slot has.
use Rattle.link_c.proofs.Prelude.{◌≡◌, ℕ, ◌≤◌, Bool, true, false, List, [], ◌∷◌, length, Option, Some, None, Result, Ok, Err, refl, subst, arith, ◌==◌, ◌&&◌, not, unwrap_or, and_parts, eqb-true, encoded}
use Rattle.assistant_machine.specs.Calls.{Call, all_asked, asked, limited, mtu_of, notified, put, read, sent}
use Rattle.assistant_machine.specs.Cuts.{asks}
use Rattle.assistant_machine.specs.Views.{if_slot, reading_of, told_of, view_of}
use Rattle.receive_state.proofs.Judged.{read_is}
use Rattle.receive_state.specs.Layout.{StateIs}
use Rattle.receive_state.specs.Reading.{state_of}
use Rattle.receive_state.specs.declared.fault.StateFault.{StateFault}
use Rattle.receive_state.specs.declared.state.ReceiveState.{ReceiveState}
use Rattle.link_c.specs.Links.{AreWithin, IsWithin}

pub is_encoded : (view : Option ReceiveState) (octets : List ℕ) → StateIs view octets → octets ≡ encoded view
is_encoded None octets is = is
is_encoded (Some state) octets is = is.encoded

-- what octets are read as has as many
read_within : (most : ℕ) (value : List ℕ) (told : Result (Option ReceiveState) StateFault) (view : Option ReceiveState) → IsWithin most value
    → state_of value ≡ told → length (encoded view) ≤ most → length (encoded (unwrap_or (told_of told) view)) ≤ most
read_within most value (Ok state) view within is short =
    subst (λ (octets : List ℕ). length octets ≤ most) (is_encoded state value (read_is state value within.0 is)) within.1
read_within most value (Err fault) view within is short = short

given_within : (most : ℕ) (value : List ℕ) (is : Bool) (view : Option ReceiveState) → (is ≡ true → IsWithin most value)
    → length (encoded view) ≤ most → length (encoded (unwrap_or (if_slot is (reading_of value)) view)) ≤ most
given_within most value true view within short = read_within most value (state_of value) view (within refl) refl short
given_within most value false view within short = short

pub view_within : (most slot : ℕ) (calls : List Call) → AreWithin most slot calls → length (encoded (view_of slot calls)) ≤ most
view_within most slot [] within = omega arith
view_within most slot (limited mtu ∷ earlier) within = view_within most slot earlier within
view_within most slot (put octets ∷ earlier) within = view_within most slot earlier within
view_within most slot (sent ∷ earlier) within = view_within most slot earlier within
view_within most slot (notified at value ∷ earlier) within =
    given_within most value ((at == slot) && not (asks (mtu_of earlier) value)) (view_of slot earlier)
    (λ is. within.0 (eqb-true at slot (and_parts (at == slot) (not (asks (mtu_of earlier) value)) is).0)) (view_within most slot earlier within.1)
view_within most slot (all_asked ∷ earlier) within = view_within most slot earlier within
view_within most slot (asked at ∷ earlier) within = view_within most slot earlier within
view_within most slot (read at value ∷ earlier) within =
    given_within most value (at == slot) (view_of slot earlier) (λ is. within.0 (eqb-true at slot is)) (view_within most slot earlier within.1)
