-- What happens on a link: it is founded, it was forged where its calls say so, and its slots have the states of the sink.
use Rattle.sink_history.proofs.Prelude.{ℕ, zero, suc, ◌≡◌, ◌≢◌, ◌+◌, ◌<◌, ◌≤◌, inl, inr, Bool, true, false, List, [], ◌∷◌, ◌++◌, length, map, drop, Option, Some, None, option_map, refl, sym, ap, ◌∙◌, arith, ◌==◌, if◌then◌else◌, unwrap_or, bytes_eq, flat_map, range_with_len, cases_eq, eq-eqb, ne_eqb, ReceiveState, reading_of, AreFounded, AreReadBack, delivered_of, made, notices_of, reads_of, value_of, waiting_of, Notice, change, changes, Entry, Snapshot, entry_in, snapshot_of, Setup, received, state_at, status_of, value, value_at, Call, stepped, joined, served, notified, read, forged, steps_of, Acts, Told, acts_of, forging_by, is_forged, language, made_all, read_first, state, notified_first, AreOctets}
use Rattle.std.specs.Option.{option_or}
use Rattle.std.proofs.lemmas.Option.{same_Some}
use Rattle.std.proofs.lemmas.Slice.Eq.{bytes_eq-Decides}
use Rattle.assistant_machine.specs.Links as links
use Rattle.delegator_history.specs.LastGiven.{last_given}
use Rattle.delegator_history.specs.Snapshots.{entry_at}
use Rattle.delegator_history.specs.States.{answered}
use Rattle.sink_history.proofs.ReadBack.{ReadsOperations, ReadsStates, states_back}

-- ---- what the sink makes

made_founded : (now : Snapshot) (notices : List Notice) (acts : Acts) → AreFounded acts → AreFounded (made_all now notices acts)
made_founded now [] acts founded = founded
made_founded now (notice ∷ notices) acts founded = made_founded now notices (made notice.slot (state_at now notice.slot) ∷ acts) founded

made_plain : (now : Snapshot) (notices : List Notice) (acts : Acts) → links.is_forged (made_all now notices acts) ≡ links.is_forged acts
made_plain now [] acts = refl
made_plain now (notice ∷ notices) acts = made_plain now notices (made notice.slot (state_at now notice.slot) ∷ acts)

made_back : (mtu : Option ℕ) (now : Snapshot) → ((slot : ℕ) → reading_of (value (state_at now slot)) ≡ Some (state_at now slot)) → (notices : List Notice) (acts : Acts)
    → AreReadBack (language mtu) acts → AreReadBack (language mtu) (made_all now notices acts)
made_back mtu now each [] acts back = back
made_back mtu now each (notice ∷ notices) acts back = made_back mtu now each notices (made notice.slot (state_at now notice.slot) ∷ acts) (each notice.slot, back)

-- ---- it is founded

either : (P : Acts → Type 0) (b : Bool) (x y : Acts) → P x → P y → P (if b then x else y)
either x1 b x y of_x of_y = grind arith

below : {A : Type 0} (n : ℕ) (xs rest : List A) (x : A) → drop n xs ≡ x ∷ rest → n < length xs
below {A} zero [] rest x e = absurd (let h : length {A = A} [] ≡ length (x ∷ rest) = ap length e in omega (arith, h))
below zero (y ∷ xs) rest x e = omega arith
below {A} (suc n) [] rest x e = absurd (let h : length {A = A} [] ≡ length (x ∷ rest) = ap length e in omega (arith, h))
below (suc n) (y ∷ xs) rest x e = let h : n < length xs = below n xs rest x e in omega (arith, h)

told_founded : (waiting : List Told) (acts : Acts) → waiting_of acts ≡ waiting → AreFounded acts → AreFounded (notified_first waiting acts)
told_founded waiting acts is founded = grind (arith, founded, below, delivered_of, notices_of)

read_founded : (reads : List ℕ) (acts : Acts) → AreFounded acts → AreFounded (read_first reads acts)
read_founded reads acts founded = grind (arith, founded)

pub founded : (setup : Setup) (mtu : Option ℕ) (link : ℕ) (calls : List Call) → AreFounded (acts_of setup mtu link calls)
founded setup mtu link [] = tt
founded setup mtu link (stepped step ∷ earlier) =
    let before : Snapshot = snapshot_of setup (steps_of earlier) in
    let now : Snapshot = snapshot_of setup (steps_of (stepped step ∷ earlier)) in
    made_founded now (changes setup.slots before now) (acts_of setup mtu link earlier) (founded setup mtu link earlier)
founded setup mtu link (served at ∷ earlier) =
    let before : Snapshot = snapshot_of setup (steps_of earlier) in
    let now : Snapshot = snapshot_of setup (steps_of (served at ∷ earlier)) in
    made_founded now (changes setup.slots before now) (acts_of setup mtu link earlier) (founded setup mtu link earlier)
founded setup mtu link (joined at ∷ earlier) =
    let acts : Acts = acts_of setup mtu link earlier in
    either (λ acts. AreFounded acts) (at == link) (links.joined ∷ acts) acts (founded setup mtu link earlier) (founded setup mtu link earlier)
founded setup mtu link (notified at ∷ earlier) =
    let acts : Acts = acts_of setup mtu link earlier in
    either (λ acts. AreFounded acts) (at == link) (notified_first (waiting_of acts) acts) acts
    (told_founded (waiting_of acts) acts refl (founded setup mtu link earlier)) (founded setup mtu link earlier)
founded setup mtu link (read at ∷ earlier) =
    let acts : Acts = acts_of setup mtu link earlier in
    let reads : List ℕ = reads_of (language mtu) setup.slots acts in
    either (λ acts. AreFounded acts) (at == link) (read_first reads acts) acts (read_founded reads acts (founded setup mtu link earlier)) (founded setup mtu link earlier)
founded setup mtu link (forged slot octets ∷ earlier) =
    let acts : Acts = acts_of setup mtu link earlier in
    either (λ acts. AreFounded acts) (link == 0) (links.forged slot octets ∷ acts) acts (founded setup mtu link earlier) (founded setup mtu link earlier)
founded setup mtu link (_ ∷ earlier) = founded setup mtu link earlier

-- ---- what was forged

told_plain : (waiting : List Told) (acts : Acts) → links.is_forged (notified_first waiting acts) ≡ links.is_forged acts
told_plain waiting acts = grind arith

read_plain : (reads : List ℕ) (acts : Acts) → links.is_forged (read_first reads acts) ≡ links.is_forged acts
read_plain reads acts = grind arith

forged_if : (b : Bool) (slot : ℕ) (octets : List ℕ) (acts : Acts) (given : Option Bool) → links.is_forged acts ≡ unwrap_or given false
    → links.is_forged (if b then links.forged slot octets ∷ acts else acts) ≡ unwrap_or (option_or (if b then Some true else None) given) false
forged_if b slot octets acts given is = grind arith

joined_if : (b : Bool) (acts : Acts) (given : Option Bool) → links.is_forged acts ≡ unwrap_or given false
    → links.is_forged (if b then links.joined ∷ acts else acts) ≡ unwrap_or (option_or (if b then Some false else None) given) false
joined_if b acts given is = grind arith

pub forged_is : (setup : Setup) (mtu : Option ℕ) (link : ℕ) (calls : List Call) → links.is_forged (acts_of setup mtu link calls) ≡ is_forged link calls
forged_is setup mtu link [] = refl
forged_is setup mtu link (stepped step ∷ earlier) =
    let before : Snapshot = snapshot_of setup (steps_of earlier) in
    let now : Snapshot = snapshot_of setup (steps_of (stepped step ∷ earlier)) in
    made_plain now (changes setup.slots before now) (acts_of setup mtu link earlier) ∙ forged_is setup mtu link earlier
forged_is setup mtu link (served at ∷ earlier) =
    let before : Snapshot = snapshot_of setup (steps_of earlier) in
    let now : Snapshot = snapshot_of setup (steps_of (served at ∷ earlier)) in
    made_plain now (changes setup.slots before now) (acts_of setup mtu link earlier) ∙ forged_is setup mtu link earlier
forged_is setup mtu link (joined at ∷ earlier) =
    joined_if (at == link) (acts_of setup mtu link earlier) (last_given (forging_by link) earlier) (forged_is setup mtu link earlier)
forged_is setup mtu link (notified at ∷ earlier) =
    let acts : Acts = acts_of setup mtu link earlier in
    either (λ new. links.is_forged new ≡ links.is_forged acts) (at == link) (notified_first (waiting_of acts) acts) acts (told_plain (waiting_of acts) acts) refl
    ∙ forged_is setup mtu link earlier
forged_is setup mtu link (read at ∷ earlier) =
    let acts : Acts = acts_of setup mtu link earlier in
    let reads : List ℕ = reads_of (language mtu) setup.slots acts in
    either (λ new. links.is_forged new ≡ links.is_forged acts) (at == link) (read_first reads acts) acts (read_plain reads acts) refl
    ∙ forged_is setup mtu link earlier
forged_is setup mtu link (forged slot octets ∷ earlier) =
    forged_if (link == 0) slot octets (acts_of setup mtu link earlier) (last_given (forging_by link) earlier) (forged_is setup mtu link earlier)
forged_is setup mtu link (_ ∷ earlier) = forged_is setup mtu link earlier

-- over a link other than 0 no notice is forged
unforged_if : (b : Bool) (given : Option Bool) → unwrap_or given false ≡ false → unwrap_or (option_or (if b then Some false else None) given) false ≡ false
unforged_if b given is = grind arith

pub unforged : (link : ℕ) (calls : List Call) → link ≢ 0 → is_forged link calls ≡ false
unforged link [] other = refl
unforged link (joined at ∷ earlier) other = unforged_if (at == link) (last_given (forging_by link) earlier) (unforged link earlier other)
unforged link (forged slot octets ∷ earlier) other = grind (arith, ne_eqb link 0 other, unforged link earlier other)
unforged link (_ ∷ earlier) other = unforged link earlier other

-- ---- its values are read back

told_back : (mtu : Option ℕ) (waiting : List Told) (acts : Acts) → AreReadBack (language mtu) acts → AreReadBack (language mtu) (notified_first waiting acts)
told_back mtu waiting acts back = grind arith

read_back : (mtu : Option ℕ) (reads : List ℕ) (acts : Acts) → AreReadBack (language mtu) acts → AreReadBack (language mtu) (read_first reads acts)
read_back mtu reads acts back = grind arith

pub are_back : ReadsOperations → ReadsStates → (setup : Setup) (mtu : Option ℕ) (link : ℕ) (calls : List Call) → setup.slots < 256 → AreOctets calls
    → AreReadBack (language mtu) (acts_of setup mtu link calls)
are_back operations states setup mtu link [] few are = refl
are_back operations states setup mtu link (stepped step ∷ earlier) few are =
    let before : Snapshot = snapshot_of setup (steps_of earlier) in
    let now : Snapshot = snapshot_of setup (steps_of (stepped step ∷ earlier)) in
    made_back mtu now (λ slot. states_back operations states setup slot (stepped step ∷ earlier) few are) (changes setup.slots before now) (acts_of setup mtu link earlier)
    (are_back operations states setup mtu link earlier few are.1)
are_back operations states setup mtu link (served at ∷ earlier) few are =
    let before : Snapshot = snapshot_of setup (steps_of earlier) in
    let now : Snapshot = snapshot_of setup (steps_of (served at ∷ earlier)) in
    made_back mtu now (λ slot. states_back operations states setup slot (served at ∷ earlier) few are) (changes setup.slots before now) (acts_of setup mtu link earlier)
    (are_back operations states setup mtu link earlier few are.1)
are_back operations states setup mtu link (joined at ∷ earlier) few are =
    let acts : Acts = acts_of setup mtu link earlier in
    let before = are_back operations states setup mtu link earlier few are.1 in
    either (λ acts. AreReadBack (language mtu) acts) (at == link) (links.joined ∷ acts) acts before before
are_back operations states setup mtu link (notified at ∷ earlier) few are =
    let acts : Acts = acts_of setup mtu link earlier in
    let before = are_back operations states setup mtu link earlier few are.1 in
    either (λ acts. AreReadBack (language mtu) acts) (at == link) (notified_first (waiting_of acts) acts) acts (told_back mtu (waiting_of acts) acts before) before
are_back operations states setup mtu link (read at ∷ earlier) few are =
    let acts : Acts = acts_of setup mtu link earlier in
    let reads : List ℕ = reads_of (language mtu) setup.slots acts in
    let before = are_back operations states setup mtu link earlier few are.1 in
    either (λ acts. AreReadBack (language mtu) acts) (at == link) (read_first reads acts) acts (read_back mtu reads acts before) before
are_back operations states setup mtu link (forged slot octets ∷ earlier) few are =
    let acts : Acts = acts_of setup mtu link earlier in
    let before = are_back operations states setup mtu link earlier few are.1 in
    either (λ acts. AreReadBack (language mtu) acts) (link == 0) (links.forged slot octets ∷ acts) acts before before
are_back operations states setup mtu link (_ ∷ earlier) few are = are_back operations states setup mtu link earlier few are.1

-- ---- the values of its slots are the states

first_made : (now : Snapshot) (b : Bool) (slot : ℕ) (octets : List ℕ) (more : List Notice) (acts : Acts)
    → made_all now ((if b then [] else record { slot = slot; value = octets } ∷ []) ++ more) acts ≡ made_all now more (if b then acts else made slot (state_at now slot) ∷ acts)
first_made now b slot octets more acts = grind arith

made_other : (mtu : Option ℕ) (slot other : ℕ) (b : Bool) (state : Option ReceiveState) (acts : Acts) → (other == slot) ≡ false
    → value_of (language mtu) slot (if b then acts else made other state ∷ acts) ≡ value_of (language mtu) slot acts
made_other mtu slot other b state acts e = grind (arith, unwrap_or, state, value_of, language)

made_this : (mtu : Option ℕ) (slot at : ℕ) (now : Snapshot) (b : Bool) (acts : Acts) (old : Option ReceiveState) → at ≡ slot → value_of (language mtu) slot acts ≡ old
    → (b ≡ true → old ≡ state_at now slot) → value_of (language mtu) slot (if b then acts else made at (state_at now at) ∷ acts) ≡ state_at now slot
made_this mtu slot at now b acts old here is same = grind (arith, unwrap_or, state_at, value_of, language, eq-eqb)

-- the notices of so many slots from the first one on
abbrev changes_from : Snapshot → Snapshot → ℕ → ℕ → List Notice
changes_from before now start n = flat_map (λ slot. change slot (value_at before slot) (value_at now slot)) (range_with_len start n)

made_elsewhere : (mtu : Option ℕ) (slot : ℕ) (before now : Snapshot) (start n : ℕ) (acts : Acts) → slot < start
    → value_of (language mtu) slot (made_all now (changes_from before now start n) acts) ≡ value_of (language mtu) slot acts
made_elsewhere mtu slot before now start zero acts past = refl
made_elsewhere mtu slot before now start (suc n) acts past = grind (arith, bytes_eq (value_at before start) (value_at now start), changes_from before now (start + 1) n, if (bytes_eq (value_at before start) (value_at now start)) then acts else made start (state_at now start) ∷ acts, first_made now (bytes_eq (value_at before start) (value_at now start)) start (value_at now start) (changes_from before now (start + 1) n) acts, made_elsewhere mtu slot before now (start + 1) n (if (bytes_eq (value_at before start) (value_at now start)) then acts else made start (state_at now start) ∷ acts) (omega arith), made_other mtu slot start (bytes_eq (value_at before start) (value_at now start)) (state_at now start) acts (ne_eqb start slot (λ e. omega arith)))

made_here : (mtu : Option ℕ) (slot : ℕ) (before now : Snapshot) (start n : ℕ) (acts : Acts) → start ≤ slot → slot < start + n
    → value_of (language mtu) slot acts ≡ state_at before slot
    → (bytes_eq (value_at before slot) (value_at now slot) ≡ true → state_at before slot ≡ state_at now slot)
    → value_of (language mtu) slot (made_all now (changes_from before now start n) acts) ≡ state_at now slot
made_here mtu slot before now start zero acts least most is same = absurd (omega arith)
made_here mtu slot before now start (suc n) acts least most is same =
    let b : Bool = bytes_eq (value_at before start) (value_at now start) in
    let more : List Notice = changes_from before now (start + 1) n in
    let first : Acts = if b then acts else made start (state_at now start) ∷ acts in
    ap (value_of (language mtu) slot) (first_made now b start (value_at now start) more acts) ∙ elim (cases_eq start slot) [
      | inl here ↦ grind (arith, made_elsewhere, made_this, state_at, bytes_eq, value_at)
      | inr other ↦
          made_here mtu slot before now (start + 1) n first (omega (arith, other)) (omega arith)
          (made_other mtu slot start b (state_at now start) acts (ne_eqb start slot other) ∙ is) same
    ]

-- states with the same octets are the same
same_state : (s t : Option ReceiveState) → reading_of (value s) ≡ Some s → reading_of (value t) ≡ Some t → bytes_eq (value s) (value t) ≡ true → s ≡ t
same_state s t of_s of_t e = same_Some s t (sym of_s ∙ ap reading_of ((bytes_eq-Decides (value s) (value t)).0 e) ∙ of_t)

no_entry : (f : ℕ → Option Entry) (start n at : ℕ) → ((i : ℕ) → f i ≡ None) → entry_at (map f (range_with_len start n)) at ≡ None
no_entry f start (suc n) (suc at) none = no_entry f (start + 1) n at none
no_entry f start n at none = search

no_state : (setup : Setup) (slot : ℕ) → None ≡ state_at (snapshot_of setup []) slot
unfolding answered
no_state setup slot = grind (arith, snapshot_of, option_map, received, status_of, no_entry, entry_in)

told_value : (mtu : Option ℕ) (slot : ℕ) (waiting : List Told) (acts : Acts) → value_of (language mtu) slot (notified_first waiting acts) ≡ value_of (language mtu) slot acts
told_value mtu slot waiting acts = grind arith

read_value : (mtu : Option ℕ) (slot : ℕ) (reads : List ℕ) (acts : Acts) → value_of (language mtu) slot (read_first reads acts) ≡ value_of (language mtu) slot acts
read_value mtu slot reads acts = grind arith

pub value_is : ReadsOperations → ReadsStates → (setup : Setup) (mtu : Option ℕ) (link slot : ℕ) (calls : List Call) → setup.slots < 256 → slot < setup.slots → AreOctets calls
    → value_of (language mtu) slot (acts_of setup mtu link calls) ≡ state setup slot calls
value_is operations states setup mtu link slot [] few within are = no_state setup slot
value_is operations states setup mtu link slot (stepped step ∷ earlier) few within are =
    let before : Snapshot = snapshot_of setup (steps_of earlier) in
    let now : Snapshot = snapshot_of setup (steps_of (stepped step ∷ earlier)) in
    made_here mtu slot before now 0 setup.slots (acts_of setup mtu link earlier) (omega arith) (omega (arith, within))
    (value_is operations states setup mtu link slot earlier few within are.1)
    (same_state (state_at before slot) (state_at now slot) (states_back operations states setup slot earlier few are.1)
    (states_back operations states setup slot (stepped step ∷ earlier) few are))
value_is operations states setup mtu link slot (served at ∷ earlier) few within are =
    let before : Snapshot = snapshot_of setup (steps_of earlier) in
    let now : Snapshot = snapshot_of setup (steps_of (served at ∷ earlier)) in
    made_here mtu slot before now 0 setup.slots (acts_of setup mtu link earlier) (omega arith) (omega (arith, within))
    (value_is operations states setup mtu link slot earlier few within are.1)
    (same_state (state_at before slot) (state_at now slot) (states_back operations states setup slot earlier few are.1)
    (states_back operations states setup slot (served at ∷ earlier) few are))
value_is operations states setup mtu link slot (joined at ∷ earlier) few within are =
    let acts : Acts = acts_of setup mtu link earlier in
    either (λ new. value_of (language mtu) slot new ≡ value_of (language mtu) slot acts) (at == link) (links.joined ∷ acts) acts refl refl
    ∙ value_is operations states setup mtu link slot earlier few within are.1
value_is operations states setup mtu link slot (notified at ∷ earlier) few within are =
    let acts : Acts = acts_of setup mtu link earlier in
    either (λ new. value_of (language mtu) slot new ≡ value_of (language mtu) slot acts) (at == link) (notified_first (waiting_of acts) acts) acts
    (told_value mtu slot (waiting_of acts) acts) refl ∙ value_is operations states setup mtu link slot earlier few within are.1
value_is operations states setup mtu link slot (read at ∷ earlier) few within are =
    let acts : Acts = acts_of setup mtu link earlier in
    let reads : List ℕ = reads_of (language mtu) setup.slots acts in
    either (λ new. value_of (language mtu) slot new ≡ value_of (language mtu) slot acts) (at == link) (read_first reads acts) acts (read_value mtu slot reads acts) refl
    ∙ value_is operations states setup mtu link slot earlier few within are.1
value_is operations states setup mtu link slot (forged at octets ∷ earlier) few within are =
    let acts : Acts = acts_of setup mtu link earlier in
    either (λ new. value_of (language mtu) slot new ≡ value_of (language mtu) slot acts) (link == 0) (links.forged at octets ∷ acts) acts refl refl
    ∙ value_is operations states setup mtu link slot earlier few within are.1
value_is operations states setup mtu link slot (_ ∷ earlier) few within are = value_is operations states setup mtu link slot earlier few within are.1
