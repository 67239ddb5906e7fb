-- A link on which a client is told of the values of a server's slots (Core 5.2, volume 3 part F, section 3.4.7, and part G,
-- section 4.10): what waits to be told, which reads wait, and what the client takes for the value of each slot. Lists of
-- acts have the newest first; what waits has the oldest first.
use Rattle.std.specs.Prelude.{ℕ, zero, suc, ◌≡◌, ◌<◌, ◌==◌, ◌&&◌, not, Bool, true, false, List, [], ◌∷◌, ◌++◌, length, drop, Option, Some, None, if◌then◌else◌, unwrap_or}
use Rattle.std.specs.List.{AllByRecursion, filter, range_with_len}
use Rattle.assistant_machine.specs.Cuts.{asks}
use Rattle.receive_state.specs.Cuts.{cut}

-- how values are encoded and read, the value that a slot has before any other, and the MTU of the link, where it has one
pub record Language (V : Type 0) : Type 0 where
  pub encode : V → List ℕ
  pub reading : List ℕ → Option V
  pub empty : V
  pub mtu : Option ℕ

pub data Act (V : Type 0) : Type 0 where
  made : (slot : ℕ) (value : V) → Act V  -- a slot has a new value, which is to be told
  notified : Act V  -- the first notice that waits is delivered
  served : (slot : ℕ) → Act V  -- a read of a slot is served
  joined : Act V  -- the link is joined anew
  forged : (slot : ℕ) (octets : List ℕ) → Act V  -- a notice comes that no server sent

pub record Notice (V : Type 0) : Type 0 where
  pub slot : ℕ
  pub value : V

-- ---- the server

abbrev pub value_given : {V : Type 0} → ℕ → Act V → Option V
value_given slot (made at value) = if at == slot then Some value else None
value_given slot _ = None

abbrev pub value_of : {V : Type 0} → Language V → ℕ → List (Act V) → V
value_of language slot [] = language.empty
value_of language slot (act ∷ earlier) = unwrap_or (value_given slot act) (value_of language slot earlier)

-- ---- what waits

abbrev pub notices_of : {V : Type 0} → List (Act V) → List (Notice V)
notices_of [] = []
notices_of (made slot value ∷ earlier) = notices_of earlier ++ record { slot = slot; value = value } ∷ []
notices_of (joined ∷ earlier) = []
notices_of (_ ∷ earlier) = notices_of earlier

abbrev pub delivered_of : {V : Type 0} → List (Act V) → ℕ
delivered_of [] = 0
delivered_of (notified ∷ earlier) = suc (delivered_of earlier)
delivered_of (joined ∷ earlier) = 0
delivered_of (_ ∷ earlier) = delivered_of earlier

abbrev pub waiting_of : {V : Type 0} → List (Act V) → List (Notice V)
waiting_of acts = drop (delivered_of acts) (notices_of acts)

-- a notice is delivered only where one waits
abbrev pub AreFounded : {V : Type 0} → List (Act V) → Type 0
AreFounded [] = Unit {0}
AreFounded (notified ∷ earlier) = AreFounded earlier × (delivered_of earlier < length (notices_of earlier))
AreFounded (_ ∷ earlier) = AreFounded earlier

-- ---- the client

abbrev pub if_its : {A : Type 0} → Bool → Option A → Option A
if_its true given = given
if_its false given = None

-- what octets for a slot give as its value
abbrev pub told_by : {V : Type 0} → Language V → ℕ → ℕ → List ℕ → Option V
told_by language slot at octets = if_its ((at == slot) && not (asks language.mtu octets)) (language.reading octets)

abbrev pub first_notified : {V : Type 0} → Language V → ℕ → List (Notice V) → Option V
first_notified language slot [] = None
first_notified language slot (notice ∷ rest) = told_by language slot notice.slot (cut language.mtu (language.encode notice.value))

abbrev pub view_given : {V : Type 0} → Language V → ℕ → Act V → List (Act V) → Option V
view_given language slot (made at value) earlier = None
view_given language slot notified earlier = first_notified language slot (waiting_of earlier)
view_given language slot (served at) earlier = if_its (at == slot) (language.reading (language.encode (value_of language slot earlier)))
view_given language slot joined earlier = Some language.empty
view_given language slot (forged at octets) earlier = told_by language slot at octets

-- what the client takes for the value of a slot: the last value that told or was read since the link was joined
abbrev pub view_of : {V : Type 0} → Language V → ℕ → List (Act V) → V
view_of language slot [] = language.empty
view_of language slot (act ∷ earlier) = unwrap_or (view_given language slot act earlier) (view_of language slot earlier)

abbrev pub asked_by : {V : Type 0} → Language V → ℕ → ℕ → List ℕ → Option Bool
asked_by language slot at octets = if_its ((at == slot) && asks language.mtu octets) (Some true)

abbrev pub first_asked : {V : Type 0} → Language V → ℕ → List (Notice V) → Option Bool
first_asked language slot [] = None
first_asked language slot (notice ∷ rest) = asked_by language slot notice.slot (cut language.mtu (language.encode notice.value))

abbrev pub wait_given : {V : Type 0} → Language V → ℕ → Act V → List (Act V) → Option Bool
wait_given language slot (made at value) earlier = None
wait_given language slot notified earlier = first_asked language slot (waiting_of earlier)
wait_given language slot (served at) earlier = if_its (at == slot) (Some false)
wait_given language slot joined earlier = Some true
wait_given language slot (forged at octets) earlier = asked_by language slot at octets

-- a read of a slot waits: octets for it asked, or the link was joined anew, and no read of it was served since
abbrev pub waits_of : {V : Type 0} → Language V → ℕ → List (Act V) → Bool
waits_of language slot [] = false
waits_of language slot (act ∷ earlier) = unwrap_or (wait_given language slot act earlier) (waits_of language slot earlier)

-- ---- agreement

-- no notice was forged since the link was joined
abbrev pub is_forged : {V : Type 0} → List (Act V) → Bool
is_forged [] = false
is_forged (joined ∷ earlier) = false
is_forged (forged slot octets ∷ earlier) = true
is_forged (_ ∷ earlier) = is_forged earlier

-- each value that a slot had is read as it was encoded
abbrev pub IsReadBack : {V : Type 0} → Language V → V → Type 0
IsReadBack language value = language.reading (language.encode value) ≡ Some value

abbrev pub AreReadBack : {V : Type 0} → Language V → List (Act V) → Type 0
AreReadBack language [] = IsReadBack language language.empty
AreReadBack language (made slot value ∷ earlier) = IsReadBack language value × AreReadBack language earlier
AreReadBack language (_ ∷ earlier) = AreReadBack language earlier

-- no notice of a slot waits
abbrev pub NoneWaits : {V : Type 0} → ℕ → List (Act V) → Type 0
NoneWaits slot acts = AllByRecursion (λ notice. (notice.slot == slot) ≡ false) (waiting_of acts)

-- The agreement law: a slot for which neither a notice nor a read waits has its value as the client's view.
abbrev pub Agrees : {V : Type 0} → Language V → ℕ → List (Act V) → Type 0
Agrees language slot acts = NoneWaits slot acts → waits_of language slot acts ≡ false → view_of language slot acts ≡ value_of language slot acts

-- so many notices are delivered
abbrev pub tell_all : {V : Type 0} → ℕ → List (Act V) → List (Act V)
tell_all zero acts = acts
tell_all (suc count) acts = notified ∷ tell_all count acts

-- reads of these slots are served
abbrev pub serve_all : {V : Type 0} → List ℕ → List (Act V) → List (Act V)
serve_all [] acts = acts
serve_all (slot ∷ slots) acts = serve_all slots (served slot ∷ acts)

abbrev pub reads_of : {V : Type 0} → Language V → ℕ → List (Act V) → List ℕ
reads_of language slots acts = filter (λ slot. waits_of language slot acts) (range_with_len 0 slots)

-- all notices that wait are delivered in order
abbrev pub notified_out : {V : Type 0} → List (Act V) → List (Act V)
notified_out acts = tell_all (length (waiting_of acts)) acts

-- and then all reads that wait are served
abbrev pub drained : {V : Type 0} → Language V → ℕ → List (Act V) → List (Act V)
drained language slots acts = serve_all (reads_of language slots (notified_out acts)) (notified_out acts)
