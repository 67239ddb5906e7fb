-- Units that are handed one by one.
use Rattle.isoal_unframed.proofs.Prelude.{ℕ, ◌≡◌, ◌+◌, ◌-◌, ◌*◌, ◌<◌, ◌≤◌, List, [], ◌∷◌, ◌++◌, length, take, drop, get_or, Option, Result, Err, sym, ap, ◌∙◌, subst, arith, take_more, take-take, drop-drop, append_assoc, append-nil, take_all, false≢true, get_or-map-range_with_len, length-map-range_with_len, per_event_of, per_unit_of, Content, Handed, HandsOver, Stay, unit_of, time_of, handed_of, owed_at, owed_of}
use Rattle.std.specs.Prelude.{IsErr}
use Rattle.unit_outlets.specs.declared.fault.TakerFault.{TakerFault}

pub hand_more : (units old now new : List Handed) (unit : Handed) (n : ℕ) → now ≡ old ++ take n units → n < length units
    → get_or units n unit ≡ unit → new ≡ now ++ unit ∷ [] → new ≡ old ++ take (n + 1) units
hand_more units old now new unit n before below here after = grind (arith, append_assoc, take_more)

pub length-owed : (stay : Stay) (event : ℕ) (kept : List (Option Content)) → length (owed_of stay event kept) ≡ per_event_of stay.info
length-owed stay event kept = length-map-range_with_len (owed_at stay event kept) 0 (per_event_of stay.info)

pub get-owed : (stay : Stay) (event : ℕ) (kept : List (Option Content)) (slot : ℕ) (d : Handed) → slot < per_event_of stay.info
    → get_or (owed_of stay event kept) slot d ≡ owed_at stay event kept slot
get-owed stay event kept slot d below = grind (arith, get_or-map-range_with_len)

pub prefix_more : {A : Type 0} (start first : ℕ) (was now new : List A) → start ≤ first → take start now ≡ take start was
    → take first new ≡ take first now → take start new ≡ take start was
prefix_more start first was now new order before same = grind (arith, take-take start first new order, take-take start first now order)

pub behind_more : {A : Type 0} (first m end : ℕ) (was now new : List A) → drop first now ≡ drop first was
    → drop (first + m) new ≡ drop (first + m) now → first + m ≤ end → drop end new ≡ drop end was
behind_more first m end was now new before same order =
    let sum : first + m + (end - (first + m)) ≡ end = omega arith in
    ap (λ k. drop k new) (sym sum) ∙ sym (drop-drop (end - (first + m)) (first + m) new)
    ∙ ap (drop (end - (first + m))) (same ∙ sym (drop-drop m first now) ∙ ap (drop m) before ∙ drop-drop m first was)
    ∙ drop-drop (end - (first + m)) (first + m) was ∙ ap (λ k. drop k was) sum

pub unit_same : (stay : Stay) (event slot time first start places : ℕ) (was now : List (Option Content)) → time ≡ time_of stay event slot
    → first ≡ start + slot * places → places ≡ per_unit_of stay.info → drop first now ≡ drop first was
    → handed_of stay.bis time (unit_of stay.info.max_sdu (take (per_unit_of stay.info) (drop first now))) ≡ owed_at stay event (drop start was) slot
unit_same stay event slot time first start places was now is_time is_first is_places same = grind (arith, drop-drop)

pub owed_more : (stay : Stay) (event slot slots time first start places : ℕ) (was kept : List (Option Content)) (old now new : List Handed)
    → time ≡ time_of stay event slot → first ≡ start + slot * places → places ≡ per_unit_of stay.info → drop first kept ≡ drop first was
    → slot < slots → slots ≡ per_event_of stay.info → now ≡ old ++ take slot (owed_of stay event (drop start was))
    → new ≡ now ++ handed_of stay.bis time (unit_of stay.info.max_sdu (take (per_unit_of stay.info) (drop first kept))) ∷ []
    → new ≡ old ++ take (slot + 1) (owed_of stay event (drop start was))
owed_more stay event slot slots time first start places was kept old now new is_time is_first is_places same below all before after =
    let unit : handed_of stay.bis time (unit_of stay.info.max_sdu (take (per_unit_of stay.info) (drop first kept))) ≡ owed_at stay event (drop start was) slot =
    unit_same stay event slot time first start places was kept is_time is_first is_places same in
    let under : slot < per_event_of stay.info = subst (λ k. slot < k) all below in
    hand_more (owed_of stay event (drop start was)) old now new (owed_at stay event (drop start was) slot) slot before
    (subst (λ k. slot < k) (sym (length-owed stay event (drop start was))) under)
    (get-owed stay event (drop start was) slot (owed_at stay event (drop start was) slot) under) (after ∙ ap (λ u. now ++ u ∷ []) unit)

pub owed_stops : (stay : Stay) (event slot slots : ℕ) (kept : List (Option Content)) (old now new : List Handed) (unit : Handed) (fault : TakerFault)
    → (r : Result (Unit {0}) TakerFault) → IsErr r
    → slot < slots → slots ≡ per_event_of stay.info → now ≡ old ++ take slot (owed_of stay event kept)
    → HandsOver (unit ∷ []) now new (Err fault) → HandsOver (owed_of stay event kept) old new r
owed_stops stay event slot slots kept old now new unit fault r is below all before hands =
    grind (arith, false≢true, append-nil, length-owed)

pub owed_all : (stay : Stay) (event slot slots : ℕ) (kept : List (Option Content)) (old now : List Handed)
    → slots ≤ slot → slots ≡ per_event_of stay.info → now ≡ old ++ take slot (owed_of stay event kept) → now ≡ old ++ owed_of stay event kept
owed_all stay event slot slots kept old now past all before = grind (arith, take_all, length-owed)
