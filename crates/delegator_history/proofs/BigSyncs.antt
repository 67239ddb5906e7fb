-- A sink that an announced train puts on a group is where the group's source is.
use Rattle.delegator_history.proofs.Prelude.{◌≡◌, ◌≤◌, ◌<◌, ◌*◌, ◌/◌, ◌^◌, ℕ, Bool, false, cond, eqb, List, get_or, Option, Some, None, Result, Ok, sym, ap, ◌∙◌, subst, arith, is_some, find, same_Some, Endpoint, BaseIs, BigFault, BigInfo, Cipher, Encodes, Train, base_in, big_info_in, found_in, offset_of, BigSync, IsOnGroup, heard_as, numbers_alone}
use Rattle.ltv_codec.specs.Values.{first_of}
use Rattle.big_info.specs.Rows.{first_fault}
use Rattle.announcement_train.specs.Told.{Tells, numbers_of}
use Rattle.delegator_history.proofs.TrainOutcome.{Carries}
use Rattle.delegator_history.proofs.Delays.{delay_read}
use Rattle.big_info.proofs.Citable.{info_read}
use Rattle.delegator_history.proofs.Streams.{taken_within}

-- ---- a group that passed the check is not encrypted

passed : {A : Type 0} (holds : Bool) (x : A) (found : Option A) → cond holds (Some x) found ≡ None → (holds ≡ false) × (found ≡ None)
passed holds x found is = grind arith

none_there : (cipher : Option Cipher) → is_some cipher ≡ false → cipher ≡ None
none_there cipher is = grind arith

not_encrypted : (horizon : ℕ) (info : BigInfo) → first_fault horizon info ≡ None → info.cipher ≡ None
unfolding first_fault
not_encrypted horizon info is = grind (arith, none_there, passed, find)

-- ---- the offset, in its unit

same_offset : (offset units : ℕ) → units < 2 → offset * cond (eqb units 1) 300 30 ≡ offset * cond (eqb units 0) 30 300
same_offset offset units small = grind arith

-- ---- the numbers of a group

abbrev alone : List ℕ → Option Cipher → BigInfo
alone numbers cipher = record {
  big_offset = 0;
  big_offset_units = 0;
  iso_interval = get_or numbers 0 0;
  num_bis = get_or numbers 1 0;
  nse = get_or numbers 2 0;
  bn = get_or numbers 3 0;
  sub_interval = get_or numbers 4 0;
  pto = get_or numbers 5 0;
  bis_spacing = get_or numbers 6 0;
  irc = get_or numbers 7 0;
  max_pdu = get_or numbers 8 0;
  seed_access_address = 0;
  sdu_interval = get_or numbers 9 0;
  max_sdu = get_or numbers 10 0;
  base_crc_init = 0;
  chm = 0;
  phy = get_or numbers 11 0;
  bis_payload_count = 0;
  framing = get_or numbers 12 0;
  cipher = cipher;
}

same_numbers : (read info : BigInfo) → numbers_of read ≡ numbers_of info → read.cipher ≡ info.cipher → numbers_alone read ≡ numbers_alone info
same_numbers read info numbers cipher = ap (λ ns. alone ns read.cipher) numbers ∙ ap (λ c. alone (numbers_of info) c) cipher

-- ---- together

same_ok : (one other : BigInfo) → (let ok : BigInfo → Result BigInfo BigFault = λ info. Ok info in ok one ≡ ok other) → one ≡ other
same_ok one other is = cc

-- what stands in the ADV is the BASE that is told, and what is read of the ACAD is the BIGInfo
same_info : (horizon address_type sid : ℕ) (train : Train) (broadcast_id : List ℕ) (base : Endpoint) (info : BigInfo) (event anchor : ℕ) (big_sync : BigSync)
    → (tells : Tells train broadcast_id base info event anchor) → (carries : Carries horizon (heard_as address_type sid train) big_sync) → carries.info ≡ tells.read
same_info horizon address_type sid train broadcast_id base info event anchor big_sync tells carries =
    let found : big_info_in train.acad ≡ Some tells.info_is.octets = ap (found_in (first_of 0x2C)) tells.info_is.list ∙ tells.info_is.found in
    let octets : carries.info_octets ≡ tells.info_is.octets = same_Some carries.info_octets tells.info_is.octets (sym carries.info_found ∙ found) in
    same_ok carries.info tells.read (sym carries.info_read ∙ info_read carries.info_octets tells.read tells.info_is.is.0
    (subst (λ (os : List ℕ). Encodes tells.read tells.info_is.is.0 os) (sym octets) tells.info_is.is.1))

same_base : (horizon address_type sid : ℕ) (train : Train) (broadcast_id : List ℕ) (base : Endpoint) (info : BigInfo) (event anchor : ℕ) (big_sync : BigSync)
    → (tells : Tells train broadcast_id base info event anchor) → (carries : Carries horizon (heard_as address_type sid train) big_sync) → BaseIs base carries.base_octets
same_base horizon address_type sid train broadcast_id base info event anchor big_sync tells carries =
    grind (arith, base_in, found_in, same_Some)

pub on_its_group : (horizon address_type sid : ℕ) (train : Train) (broadcast_id : List ℕ) (base : Endpoint) (info : BigInfo) (event anchor : ℕ) (big_sync : BigSync)
    → Tells train broadcast_id base info event anchor → Carries horizon (heard_as address_type sid train) big_sync → IsOnGroup base info event anchor big_sync
on_its_group horizon address_type sid train broadcast_id base info event anchor big_sync tells carries =
    let same : carries.info ≡ tells.read = same_info horizon address_type sid train broadcast_id base info event anchor big_sync tells carries in
    let its : big_sync.info ≡ tells.read = ap (λ (on : BigSync). on.info) (sym carries.big_sync_is) ∙ same in
    let units : tells.read.big_offset_units < 2 = tells.info_is.is.1.widths.big_offset_units in
    let streams : carries.info.num_bis ≡ info.num_bis = ap (λ (i : BigInfo). i.num_bis) same ∙ ap (λ ns. get_or ns 1 0) tells.numbers in
    let small = taken_within carries.capability carries.base carries.info.num_bis carries.room carries.wishes carries.base.subgroups in
    record {
      group_is = ap numbers_alone its ∙ same_numbers tells.read info tells.numbers tells.cipher;
      plain = sym tells.cipher ∙ not_encrypted horizon tells.read (subst (λ i. first_fault horizon i ≡ None) same carries.sound);
      first_is = ap (λ (on : BigSync). on.first) (sym carries.big_sync_is) ∙ ap (λ (i : BigInfo). i.bis_payload_count / i.bn) same ∙ tells.event_is;
      anchor_is = grind (arith, offset_of, same_offset);
      delay_is = ap (λ (on : BigSync). on.delay) (sym carries.big_sync_is)
          ∙ delay_read base carries.base carries.base_octets (same_base horizon address_type sid train broadcast_id base info event anchor big_sync tells carries) carries.base_read;
      some = subst (λ (on : BigSync). 1 ≤ on.which) carries.big_sync_is carries.some;
      within = subst (λ n. big_sync.which < 2 ^ n) streams (subst (λ (on : BigSync). on.which < 2 ^ carries.info.num_bis) carries.big_sync_is small);
    }
