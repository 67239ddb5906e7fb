-- What the tokens hand one by one is what the list of them decides, and they are taken one behind the other.
use Rattle.isoal_framed.proofs.Prelude.{ℕ, ◌≡◌, ◌≤◌, true, cond, Bool, List, [], ◌∷◌, ◌++◌, length, Option, Some, None, refl, ap, ◌+◌, take, arith, append_assoc, length-append, cond-true, le-leb, length-take, Handed, valid, lost, Token, starts, goes_on, missing, Fate, whole, broken, Run, run_on, is_followed, fate_after, handed_of, run_of, units, undecided_run, hands_at, hands_joined, run_at, hands, run_after, Result, sym, subst, append-nil, Counts, TakerFault, HandsOn, CausedOn, Ok, Err, take-append-le, HandsOver, take-append-add}
use Rattle.std.specs.Option.{option_or}

-- behind a start whose run so far has these octets
record Joins (max_sdu bis : ℕ) (tokens : List Token) : Type 0 where
  none : units max_sdu bis tokens ≡ hands max_sdu bis None tokens
  none_run : undecided_run max_sdu tokens ≡ run_after max_sdu None tokens
  some : (time : ℕ) → (octets : List ℕ)
      → handed_of bis time (fate_after max_sdu octets (run_on tokens) (is_followed tokens)) ++ units max_sdu bis tokens
      ≡ hands max_sdu bis (Some (record { time = time; octets = octets })) tokens
  some_run : (time : ℕ) → (octets : List ℕ)
      → option_or (run_of time (fate_after max_sdu octets (run_on tokens) (is_followed tokens))) (undecided_run max_sdu tokens)
      ≡ run_after max_sdu (Some (record { time = time; octets = octets })) tokens

hands_piece : (max_sdu bis time : ℕ) (octets : List ℕ) (later : Fate) (tokens : List Token) (rest : List Handed)
    → rest ≡ hands max_sdu bis None tokens
    → handed_of bis time later ++ rest ≡ hands max_sdu bis (Some (record { time = time; octets = octets })) tokens → (fits complete : Bool)
    → handed_of bis time (cond fits (cond complete (whole octets) later) broken) ++ rest
    ≡ cond fits (cond complete (valid bis time octets ∷ []) []) (lost bis time ∷ [])
    ++ hands max_sdu bis (cond fits (cond complete None (Some (record { time = time; octets = octets }))) None) tokens
hands_piece max_sdu bis time octets later tokens rest none some fits complete = grind arith

run_piece : (max_sdu time : ℕ) (octets : List ℕ) (later : Fate) (tokens : List Token) (rest : Option Run)
    → rest ≡ run_after max_sdu None tokens
    → option_or (run_of time later) rest ≡ run_after max_sdu (Some (record { time = time; octets = octets })) tokens
    → (fits complete : Bool) → option_or (run_of time (cond fits (cond complete (whole octets) later) broken)) rest
    ≡ run_after max_sdu (cond fits (cond complete None (Some (record { time = time; octets = octets }))) None) tokens
run_piece max_sdu time octets later tokens rest none some fits complete = grind arith

joins : (max_sdu bis : ℕ) (tokens : List Token) → Joins max_sdu bis tokens
joins max_sdu bis [] = search
joins max_sdu bis (missing ∷ tokens) =
    let all : Joins max_sdu bis tokens = joins max_sdu bis tokens in
    record {
      none = all.none;
      none_run = all.none_run;
      some = λ time octets. ap (λ xs. lost bis time ∷ xs) all.none;
      some_run = λ time octets. all.none_run;
    }
joins max_sdu bis (goes_on complete part ∷ tokens) =
    let all : Joins max_sdu bis tokens = joins max_sdu bis tokens in
    record { none = all.none; none_run = all.none_run; some = grind (arith, hands_piece); some_run = grind (arith, run_piece) }
joins max_sdu bis (starts begun complete part ∷ tokens) =
    let all : Joins max_sdu bis tokens = joins max_sdu bis tokens in
    let here : units max_sdu bis (starts begun complete part ∷ tokens) ≡ hands max_sdu bis None (starts begun complete part ∷ tokens) = grind (arith, hands_piece) in
    let here_run : undecided_run max_sdu (starts begun complete part ∷ tokens) ≡ run_after max_sdu None (starts begun complete part ∷ tokens) = grind (arith, run_piece) in
    record {
      none = here;
      none_run = here_run;
      some = λ time octets. ap (λ xs. lost bis time ∷ xs) here;
      some_run = λ time octets. here_run;
    }

pub units_are : (max_sdu bis : ℕ) (tokens : List Token) → units max_sdu bis tokens ≡ hands max_sdu bis None tokens
units_are max_sdu bis tokens = grind (arith, joins)

pub undecided_is : (max_sdu : ℕ) (tokens : List Token) → undecided_run max_sdu tokens ≡ run_after max_sdu None tokens
undecided_is max_sdu tokens = grind (arith, joins max_sdu 0 tokens, (joins max_sdu 0 tokens).none_run)

-- tokens in two parts
pub hands_append : (max_sdu bis : ℕ) (run : Option Run) (xs ys : List Token)
    → hands max_sdu bis run (xs ++ ys) ≡ hands max_sdu bis run xs ++ hands max_sdu bis (run_after max_sdu run xs) ys
hands_append max_sdu bis run [] ys = refl
hands_append max_sdu bis run (x ∷ xs) ys = cc (hands_append max_sdu bis (run_at max_sdu run x) xs ys, append_assoc (hands_at max_sdu bis run x) (hands max_sdu bis (run_at max_sdu run x) xs) (hands max_sdu bis (run_after max_sdu (run_at max_sdu run x) xs) ys))

pub run_append : (max_sdu : ℕ) (run : Option Run) (xs ys : List Token)
    → run_after max_sdu run (xs ++ ys) ≡ run_after max_sdu (run_after max_sdu run xs) ys
run_append max_sdu run [] ys = refl
run_append max_sdu run (x ∷ xs) ys = run_append max_sdu (run_at max_sdu run x) xs ys

-- more tokens: what they add
pub units_more : (max_sdu bis : ℕ) (xs ys : List Token)
    → units max_sdu bis (xs ++ ys) ≡ units max_sdu bis xs ++ hands max_sdu bis (undecided_run max_sdu xs) ys
units_more max_sdu bis xs ys = cc (units_are max_sdu bis (xs ++ ys), hands_append max_sdu bis None xs ys, units_are max_sdu bis xs, undecided_is max_sdu xs)

pub undecided_more : (max_sdu : ℕ) (xs ys : List Token) → undecided_run max_sdu (xs ++ ys) ≡ run_after max_sdu (undecided_run max_sdu xs) ys
undecided_more max_sdu xs ys = cc (undecided_is max_sdu (xs ++ ys), run_append max_sdu None xs ys, undecided_is max_sdu xs)

-- a start ends the run before it
pub start_hands : (max_sdu bis : ℕ) (run : Option Run) (time : ℕ) (complete : Bool) (octets : List ℕ)
    → hands_at max_sdu bis run (starts time complete octets) ≡ hands_at max_sdu bis run missing ++ hands_joined max_sdu bis time complete octets
start_hands max_sdu bis run time complete octets = grind arith

-- the last segment of a run that fits
pub joined_valid : (max_sdu bis time at : ℕ) (items part all : List ℕ) (complete : Bool) → all ≡ take at items ++ part → at + length part ≤ max_sdu
    → complete ≡ true → hands_joined max_sdu bis time complete (take at items ++ part) ≡ valid bis time all ∷ []
joined_valid max_sdu bis time at items part all complete is room last = grind (arith, length-append, length-take, cond-true, le-leb)

-- ---- tokens that are taken one behind the other

-- units, and then more
over_then : (first second : List Handed) (old now new : List Handed) (middle result : Result (Unit {0}) TakerFault)
    → HandsOver first old now middle → HandsOn second middle now new result → HandsOver (first ++ second) old new result
over_then first second old now new (Ok x) (Ok y) before after = cc (append_assoc old first second)
over_then first second old now new (Ok x) (Err fault) before after = (
  length first + after.0,
  (omega (arith, length-append first second)),
  cc (after.2, append_assoc old first (take after.0 second), take-append-add first second after.0),
)
over_then first second old now new (Err fault) result before after = grind (arith, length-append, take-append-le)

pub hands_then : (first second : List Handed) (old now new : List Handed) (so_far middle result : Result (Unit {0}) TakerFault)
    → HandsOn first so_far old now middle → HandsOn second middle now new result → HandsOn (first ++ second) so_far old new result
hands_then first second old now new so_far middle result before after = grind (arith, over_then)

pub caused_then : (old now new : Counts) (so_far middle result : Result (Unit {0}) TakerFault)
    → CausedOn so_far old now middle → CausedOn middle now new result → CausedOn so_far old new result
caused_then old now new so_far middle result before after = grind arith

pub record Walked (max_sdu bis : ℕ) (first now : Option Run) (all rest : List Token)
    (so_far handed : Result (Unit {0}) TakerFault) (old new : List Handed) (before after : Counts) : Type 0 where
  pub runs : run_after max_sdu now rest ≡ run_after max_sdu first all
  pub taken : List Handed
  pub units : taken ++ hands max_sdu bis now rest ≡ hands max_sdu bis first all
  pub hands_on : HandsOn taken so_far old new handed
  pub cause : CausedOn so_far before after handed

pub walked_more : (max_sdu bis : ℕ) (first now next : Option Run) (all rest tokens others : List Token)
    (so_far handed result : Result (Unit {0}) TakerFault) (old now_calls new : List Handed) (before middle after : Counts)
    → Walked max_sdu bis first now all rest so_far handed old now_calls before middle
    → rest ≡ tokens ++ others → next ≡ run_after max_sdu now tokens
    → HandsOn (hands max_sdu bis now tokens) handed now_calls new result → CausedOn handed middle after result
    → Walked max_sdu bis first next all others so_far result old new before after
walked_more max_sdu bis first now next all rest tokens others so_far handed result old now_calls new before middle after walked is run_is step cause =
    grind (arith, run_append, append_assoc, hands_append, hands_then, caused_then)

pub walked_token : (max_sdu bis : ℕ) (first now next : Option Run) (all rest others : List Token) (token : Token)
    (so_far handed result : Result (Unit {0}) TakerFault) (old now_calls new : List Handed) (before middle after : Counts)
    → Walked max_sdu bis first now all rest so_far handed old now_calls before middle
    → rest ≡ token ∷ others → next ≡ run_at max_sdu now token
    → HandsOn (hands_at max_sdu bis now token) handed now_calls new result → CausedOn handed middle after result
    → Walked max_sdu bis first next all others so_far result old new before after
walked_token max_sdu bis first now next all rest others token so_far handed result old now_calls new before middle after walked is run_is step cause =
    walked_more max_sdu bis first now next all rest (token ∷ []) others so_far handed result old now_calls new before middle after walked is run_is
    (subst (λ units. HandsOn units handed now_calls new result) (sym (append-nil (hands_at max_sdu bis now token))) step) cause
