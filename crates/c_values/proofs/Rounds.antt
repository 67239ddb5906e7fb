-- What a round leaves waiting, and how the rooms stand.
use Rattle.std.proofs.Common.{◌≡◌, ℕ, ◌+◌, ◌-◌, ◌<◌, ◌≤◌, true, false, List, [], ◌∷◌, ◌++◌, length, take, drop, map, slice_index_or, All, Contains, Option, Some, None, Result, Ok, Err, IfSome, IsSome, is_none, is_ok, refl, sym, ap, ◌∙◌, subst, option_to_list, arith, append-nil, length-append, length-take, take-take, take_all, ◌&&◌}
use Rattle.std.proofs.lemmas.List.{length-map}
use Rattle.std.proofs.lemmas.List.Elements.{All-contains, All-push, All-rest, All-take, Contains-push}
use Rattle.std.proofs.Math.Seq.{take-append_seam}
use Rattle.std.specs.Prelude.{slice_get}
use Rattle.unit_outlets.specs.Handed.{Handed, valid, lost, HandsOver, Caused}
use Rattle.unit_outlets.specs.declared.fault.TakerFault.{TakerFault}
use Rattle.unit_outlets.specs.declared.fault.TakerFault.TheVariants.{Failed, Memory}
use Rattle.c_values.specs.Kept.{Brought, IsWithin, Kept, Lacks, Room, begun, calls_of, counts_of}
use Rattle.c_values.specs.Rooms.{roomy}
use Rattle.c_values.specs.Sound.{in_rooms, waiting_as}
use Rattle.c_values.specs.declared.units.Entry.{Entry}

-- ---- lists

abbrev tail_of : {X : Type 0} → List X → List X
tail_of [] = []
tail_of (x ∷ xs) = xs

abbrev head_or : {X : Type 0} → X → List X → X
head_or d [] = d
head_or d (x ∷ xs) = x

-- an item stands behind the items that there were: it is the last one of what came
pub record Behind {X : Type 0} (now before came : List X) (item : X) : Type 0 where
  pub count : ℕ
  pub few : count < length came
  pub is : now ≡ before ++ take count came
  pub came_so : Contains came item

pub behind : {X : Type 0} (now before came : List X) (item : X) → now ++ item ∷ [] ≡ before ++ came → length before ≤ length now → Behind now before came item
behind now [] came item same long = rw (← same) record {
  count = length now;
  few = omega (arith, length-append now (item ∷ []));
  is = sym (take-append_seam now (item ∷ []));
  came_so = Contains-push now item;
}
behind [] (b ∷ before) came item same long = absurd (Prim.omega (arith, long))
behind (n ∷ now) (b ∷ before) came item same long =
    let rest = behind now before came item (ap tail_of same) (omega (arith, long)) in
    record {
      count = rest.count;
      few = rest.few;
      is = ap (λ x. x ∷ now) (ap (head_or n) same) ∙ ap (λ xs. b ∷ xs) rest.is;
      came_so = rest.came_so;
    }

-- ---- what stands in front of a taker's calls

abbrev units_at : Handed → ℕ
units_at (valid bis time octets) = bis
units_at (lost bis time) = 0

abbrev octets_at : Handed → ℕ
octets_at (valid bis time octets) = time
octets_at (lost bis time) = 0

abbrev began_at : Handed → ℕ
began_at (valid bis time octets) = head_or 0 octets
began_at (lost bis time) = 0

-- what a round that brought these calls says of the units and of the room
pub record Went (before kept : Kept) (came : List Handed) : Type 0 where
  pub room : kept.room ≡ before.room
  pub began : kept.round.began ≡ length before.waiting
  pub units : kept.waiting ++ option_to_list kept.round.missed ≡ before.waiting ++ came

room_by : (room other : Room) → room.units ≡ other.units → room.octets ≡ other.octets → room ≡ other
room_by room other units octets = ap (λ n. record { units = n; octets = room.octets }) units ∙ ap (λ n. record { units = other.units; octets = n }) octets

pub went : (before kept : Kept) (came : List Handed) → calls_of kept ≡ calls_of (begun before) ++ came → Went before kept came
went before kept came same =
    let first = ap (head_or (lost 0 0)) same in
    record {
      room = room_by kept.room before.room (ap units_at first) (ap octets_at first);
      began = ap began_at first;
      units = ap tail_of same ∙ ap (λ units. units ++ came) (append-nil before.waiting);
    }

-- ---- the ends of a round

whole : (before kept : Kept) (came : List Handed) → kept.round.missed ≡ None → Went before kept came → kept.waiting ≡ before.waiting ++ came
whole before kept came none is =
    sym (append-nil kept.waiting) ∙ subst (λ missed. kept.waiting ++ option_to_list missed ≡ before.waiting ++ came) none is.units

-- a unit found no memory
cut : (before kept : Kept) (came : List Handed) (unit : Handed) → kept.round.began ≤ length kept.waiting → kept.round.missed ≡ Some unit
    → Went before kept came → Behind kept.waiting before.waiting came unit
cut before kept came unit grew some is =
    behind kept.waiting before.waiting came unit (subst (λ missed. kept.waiting ++ option_to_list missed ≡ before.waiting ++ came) some is.units)
    (subst (λ n. n ≤ length kept.waiting) is.began grew)

-- where there was room for all that came none was missed
no_miss : (before kept : Kept) (came : List Handed) (unit : Handed) → Lacks kept.room (length kept.waiting) unit → Went before kept came
    → Behind kept.waiting before.waiting came unit → length before.waiting + length came ≤ before.room.units → All (IsWithin before.room.octets) came → ⊥
no_miss before kept came unit lacks is at few short =
    let count = ap length at.is ∙ length-append before.waiting (take at.count came) in
    let units = ap (λ (room : Room). room.units) is.room in
    let octets = ap (λ (room : Room). room.octets) is.room in
    lacks (omega (arith, count, units, at.few, few, length-take at.count came))
    (subst (λ n. IsWithin n unit) (sym octets) (All-contains (IsWithin before.room.octets) came unit short at.came_so))

-- what a unit that found no memory leaves of all that was handed over
short_of : (before kept after : Kept) (units came : List Handed) (unit : Handed) (most : ℕ) → came ≡ take most units
    → after.waiting ≡ kept.waiting → after.room ≡ kept.room
    → Lacks kept.room (length kept.waiting) unit → Went before kept came → Behind kept.waiting before.waiting came unit
    → Brought before units after false
short_of before kept after units came unit most prefix waiting room lacks is at =
    let few : at.count < length came = at.few in
    let shorter : length came ≡ length (take most units) = ap length prefix in
    let least = length-take most units in
    record {
      whole = λ no. absurd (Prim.grind (arith, no));
      part = λ _. (
        at.count,
        omega (arith, few, shorter, least),
        waiting ∙ at.is ∙ ap (λ xs. before.waiting ++ take at.count xs) prefix
            ∙ ap (λ xs. before.waiting ++ xs) (take-take at.count most units (omega (arith, few, shorter, least))),
      );
      room = room ∙ is.room;
      served = λ has. absurd (no_miss before kept came unit lacks is at (omega (arith, has.count, shorter, least))
          (subst (All (IsWithin before.room.octets)) (sym prefix) (All-take (IsWithin before.room.octets) most units has.octets)));
    }

all_of : (before kept after : Kept) (units : List Handed) → after.waiting ≡ kept.waiting → after.room ≡ kept.room
    → kept.round.missed ≡ None → Went before kept units → Brought before units after true
all_of before kept after units waiting room none is = record {
  whole = λ _. waiting ∙ whole before kept units none is;
  part = λ no. absurd (Prim.grind (arith, no));
  room = room ∙ is.room;
  served = λ _. refl;
}

-- what the end of a round shows, by the answer of who handed the units over and by whether one was missed
ended_by : (missed : Option Handed) (handed : Result (Unit {0}) TakerFault) (before kept after : Kept) (units : List Handed)
    → kept.round.missed ≡ missed → kept.round.began ≤ length kept.waiting
    → IfSome missed (Lacks kept.room (length kept.waiting)) → (0 < kept.round.wants → IsSome missed)
    → after.waiting ≡ kept.waiting → after.room ≡ kept.room
    → HandsOver units (calls_of (begun before)) (calls_of kept) handed → Caused (counts_of (begun before)) (counts_of kept) handed
    → Brought before units after (is_none missed && is_ok handed)
ended_by None (Ok _) before kept after units is grew lacks counts waiting room hands caused =
    all_of before kept after units waiting room is (went before kept units hands)
ended_by (Some unit) (Ok _) before kept after units is grew lacks counts waiting room hands caused =
    let came = went before kept units hands in
    short_of before kept after units units unit (length units) (sym (take_all (length units) units (omega arith))) waiting room lacks came (cut before kept units unit grew is came)
ended_by None (Err Failed) before kept after units is grew lacks counts waiting room hands caused = absurd (Prim.omega (arith, caused.0.0))
ended_by None (Err Memory) before kept after units is grew lacks counts waiting room hands caused = absurd (Prim.grind (arith, counts (omega (arith, caused.0.0))))
ended_by (Some unit) (Err fault) before kept after units is grew lacks counts waiting room hands caused =
    let prefix = take hands.0 units in
    let came = went before kept prefix hands.2 in
    short_of before kept after units prefix unit hands.0 refl waiting room lacks came (cut before kept prefix unit grew is came)

pub ended : (handed : Result (Unit {0}) TakerFault) (before kept after : Kept) (units : List Handed) → kept.round.began ≤ length kept.waiting
    → IfSome kept.round.missed (Lacks kept.room (length kept.waiting)) → (0 < kept.round.wants → IsSome kept.round.missed)
    → after.waiting ≡ kept.waiting → after.room ≡ kept.room
    → HandsOver units (calls_of (begun before)) (calls_of kept) handed → Caused (counts_of (begun before)) (counts_of kept) handed
    → Brought before units after (is_none kept.round.missed && is_ok handed)
ended handed before kept after units = ended_by kept.round.missed handed before kept after units refl

-- ---- rooms

in_rooms-append : (octets : ℕ) (entries : List Entry) (entry : Entry) → in_rooms octets (entries ++ entry ∷ []) ≡ in_rooms octets entries + roomy octets entry.octets
in_rooms-append octets [] entry = omega arith
in_rooms-append octets (first ∷ entries) entry = omega (arith, in_rooms-append octets entries entry)

few_rooms : (octets : ℕ) (entries : List Entry) → in_rooms octets entries ≤ length entries
few_rooms octets [] = omega arith
few_rooms octets (first ∷ entries) = let rest = few_rooms octets entries in grind (arith, rest)

-- one unit more waits, in a room of these or in another
pub one_more : (places octets rooms fewer : ℕ) (entries more : List Entry) (entry : Entry) → more ≡ entries ++ entry ∷ []
    → places ≤ rooms + in_rooms octets entries → rooms ≤ fewer + roomy octets entry.octets → places ≤ fewer + in_rooms octets more
one_more places octets rooms fewer entries more entry is enough kept =
    let count = ap (in_rooms octets) is ∙ in_rooms-append octets entries entry in omega (arith, count, enough, kept)

pub longer : {X : Type 0} (entries more : List X) (entry : X) → more ≡ entries ++ entry ∷ [] → length entries ≤ length more
longer entries more entry is = let count = ap length is ∙ length-append entries (entry ∷ []) in omega (arith, count)

pub all_short : {X : Type 0} (P : X → Type 0) (entries more : List X) (entry : X) → more ≡ entries ++ entry ∷ [] → All P entries → P entry → All P more
all_short P entries more entry is all one = rw is (All-push P entries entry all one)

-- the first unit is taken
pub taken_first : {X : Type 0} (entries rest : List X) (gone : X) → 0 < length entries → gone ≡ slice_index_or entries 0 gone
    → rest ≡ take 0 entries ++ drop (0 + 1) entries → entries ≡ gone ∷ rest
taken_first [] rest gone some first others = absurd (Prim.omega (arith, some))
taken_first (entry ∷ entries) rest gone some first others = ap (λ x. x ∷ entries) (sym first) ∙ ap (λ xs. gone ∷ xs) (sym others)

pub shown_first : {X : Type 0} (entries rest seen : List X) (gone entry : X) → entries ≡ gone ∷ rest → seen ≡ entries
    → Some entry ≡ slice_get seen 0 → entry ≡ gone
shown_first entries rest seen gone entry is same first =
    let some : Some entry ≡ Some gone = first ∙ ap (λ xs. slice_get xs 0) (same ∙ is) in cc

-- and its room waits, where there is a place for it
pub one_less : (places octets capacity rooms more : ℕ) (entries rest : List Entry) (gone : Entry) → entries ≡ gone ∷ rest
    → places ≤ rooms + in_rooms octets entries → places ≤ capacity → (rooms < capacity → rooms + roomy octets gone.octets ≤ more) → rooms ≤ more
    → places ≤ more + in_rooms octets rest
one_less places octets capacity rooms more entries rest gone is enough fits back kept =
    let count : in_rooms octets entries ≡ roomy octets gone.octets + in_rooms octets rest = ap (in_rooms octets) is in
    grind (arith, count, enough, fits, back, kept)

-- a room waits while fewer units wait than there are places
pub room_waits : (places octets rooms : ℕ) (entries : List Entry) → places ≤ rooms + in_rooms octets entries
    → length (map waiting_as entries) < places → 0 < rooms
room_waits places octets rooms entries enough few = omega (arith, enough, few, few_rooms octets entries, length-map entries waiting_as)

-- what a room lacks beside so many units it lacks beside more
pub lacks_more : (missed : Option Handed) (room : Room) (n m : ℕ) → n ≤ m → IfSome missed (Lacks room n) → IfSome missed (Lacks room m)
lacks_more None room n m more lacks = tt
lacks_more (Some unit) room n m more lacks = λ few. lacks (omega (arith, more, few))

pub all_rest : {X : Type 0} (P : X → Type 0) (entries rest : List X) (gone : X) → entries ≡ gone ∷ rest → All P entries → All P rest
all_rest P entries rest gone is all = All-rest P gone rest entries is all
