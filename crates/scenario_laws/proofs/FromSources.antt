-- What is the source's own is read as what was laid.
use Rattle.scenario_laws.proofs.Known.{ℕ, ◌≡◌, ◌+◌, ltb, List, [], ◌∷◌, ◌++◌, Option, Some, Result, Ok, sym, ◌∙◌, ap, subst, arith, AllByRecursion, none-some, same_Some, Content, PduIs, framed, pdu, Stay, Sent, parts_at, segmented, laid, Slots, air_at, FromSource, unframed, ◌<◌, ◌≤◌, true, refl, unwrap_or, Group, Air, payload_number, AreAirs, airs_of, content_at, pdu_of, slots_of, Airs, Setup, next_of, IsChecked, BigSync, stay_on, Step, setup_of, source_calls, is_started, MeetAirs, pdu_read_of as read_of, read_as, heard_first, FramedFromSource, Own, SendsOwn, its_airs, SourceCall, Below, Lawful, Settled, checked, group_in, settled, Extends, Within, events_more, StayCall}
use Rattle.iso_pdu.specs.declared.fault.PduFault.{PduFault}
use Rattle.iso_pdu.proofs.Citable.{pdu-is, read_of-layout, read_of-encoded}

slot_unframed : (max_pdu : ℕ) (slot : Option (List ℕ)) (r : ℕ) → unframed (laid max_pdu slot r) ≡ Some (laid max_pdu slot r)
slot_unframed max_pdu slot r = grind (arith, ltb)

same_ok : (a b : Content) → (let ok : Content → Result Content PduFault = λ c. Ok c in ok a ≡ ok b) → a ≡ b
same_ok a b e = cc

-- what is read of the octets of a PDU is what is taken of the PDU
read_own : {A : Type 0} (takes : Content → Option A) (max_pdu : ℕ) (sent : Content) (part : A) (octets : List ℕ) → octets ≡ pdu sent
    → read_as takes max_pdu octets ≡ Some part → takes sent ≡ Some part
read_own takes max_pdu sent part octets is reads =
    let got : (got : Content) × ((read_of max_pdu octets) ≡ Ok got) × (takes got ≡ Some part) = grind (arith, none-some) in
    let long = (read_of-encoded max_pdu got.0 octets got.1).1 in
    let again : read_of max_pdu octets ≡ Ok sent = read_of-layout max_pdu sent octets (subst (PduIs sent) (sym is) (pdu-is sent), long) in
    ap takes (same_ok sent got.0 (sym again ∙ got.1)) ∙ got.2

all_at : {A : Type 0} (P : A → Type 0) (later : List A) (x : A) (earlier : List A) → AllByRecursion P (later ++ x ∷ earlier) → P x
all_at P [] x earlier all = all.0
all_at P (y ∷ later) x earlier all = all_at P later x earlier all.1

pub from_source : (stay : Stay) (slots : Slots) (calls : List StayCall) → AllByRecursion (Own (air_at stay slots)) calls → FromSource stay slots calls
from_source stay slots calls all later number octets earlier content is reads =
    cc (same_Some content (air_at stay slots number) (sym (grind (arith, read_own, unframed, air_at, all_at)) ∙ slot_unframed stay.info.max_pdu _ _))

pub framed_from_source : (stay : Stay) (units : List Sent) (calls : List StayCall) → AllByRecursion (Own (λ number. framed (parts_at units number))) calls → FramedFromSource stay units calls
framed_from_source stay units calls all number parts is =
    let first = heard_first (read_as segmented stay.info.max_pdu) stay number parts calls is in
    sym (same_Some (parts_at units number) parts (read_own segmented stay.info.max_pdu (framed (parts_at units number)) parts first.octets
    (grind (arith, all_at, framed, parts_at)) first.enters.reads))

-- ---- what a source of an unframed group sends is its own, by division

own_pdu : Below → (group : Group) (setup : Setup) (whole calls : List SourceCall) (airs : List Air) → Extends whole calls → AreAirs setup calls airs → (event bis subevent : ℕ)
    → setup.info ≡ group.info → setup.info.framing ≡ 0 → setup.first ≤ event → event < next_of setup calls → 1 ≤ bis → bis ≤ group.info.num_bis → subevent < group.info.nse
    → unwrap_or (pdu_of setup airs event bis subevent) [] ≡ pdu (content_at setup whole bis (payload_number setup.info event subevent))
own_pdu below group setup whole calls airs more are event bis subevent same plain least past bis_least bis_within within =
    let longer : event < next_of setup (more.0 ++ calls) = omega (arith, events_more more.0 calls, past) in
    let all_are : AreAirs setup (more.0 ++ calls) (airs_of setup (more.0 ++ calls)) = below.some_airs setup (more.0 ++ calls) (subst IsChecked (sym same) (checked group)) in
    let sent : pdu_of setup (airs_of setup (more.0 ++ calls)) event bis subevent ≡ Some (pdu (content_at setup (more.0 ++ calls) bis (payload_number setup.info event subevent))) =
    below.counted group setup (more.0 ++ calls) (airs_of setup (more.0 ++ calls)) event bis subevent same plain all_are least longer bis_least bis_within within in
    let here : pdu_of setup airs event bis subevent ≡ Some (pdu (content_at setup (more.0 ++ calls) bis (payload_number setup.info event subevent))) =
    sym (below.sent_stays group setup more.0 calls airs (airs_of setup (more.0 ++ calls)) event bis subevent same are all_are least past bis_least bis_within within) ∙ sent in
    ap (λ o. unwrap_or o []) here ∙ ap (λ all. pdu (content_at setup all bis (payload_number setup.info event subevent))) (sym more.1)

air_same : (setup : Setup) (whole : List SourceCall) (tuning : BigSync) (bis : ℕ) (event subevent : ℕ) → tuning.info ≡ setup.info
    → content_at setup whole bis (payload_number setup.info event subevent) ≡ air_at (stay_on tuning bis) (slots_of setup whole bis) (payload_number tuning.info event subevent)
air_same setup whole tuning bis event subevent same = cc (same)

pub sends_own : Below → (airs : Airs) → MeetAirs airs → (setup : Setup) (whole : List SourceCall) (tuning : BigSync) (bis : ℕ) (own : List Step) → Lawful airs own → is_started own ≡ true
    → Within setup whole own → tuning.info ≡ setup.info → setup.info.framing ≡ 0 → SendsOwn airs (air_at (stay_on tuning bis) (slots_of setup whole bis)) tuning bis own
sends_own below airs meets setup whole tuning bis own legal started within same plain event subevent least past bis_least bis_within inside =
    let is : Settled own = settled airs own legal in
    own_pdu below (group_in own is started) (setup_of own) whole (source_calls own) (airs (setup_of own) (source_calls own)) within.calls (its_airs airs meets own legal started)
    event bis subevent refl (ap (λ (s : Setup). s.info.framing) (within.setup_is started) ∙ plain) least past bis_least bis_within inside
    ∙ ap (λ (s : Setup). pdu (content_at s whole bis (payload_number s.info event subevent))) (within.setup_is started)
    ∙ ap pdu (air_same setup whole tuning bis event subevent same)
