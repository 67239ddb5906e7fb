-- What waits first on a link: it is taken, or none waits.
use Rattle.scenario_sink.proofs.Prelude.{ℕ, ◌≡◌, Bool, true, false, List, ◌++◌, Option, Some, None, Result, Ok, ap, ◌∙◌, is_none, not, option_map, concat, option_or, Call, is_joined, Lines, if_there, refuse_if, LinkedSink, Goes, LinkMakes, Makes, Stays, Turns, answer_if, stayed, SinkHistory, Refusal, Stop, arith, NoSuchLink, NothingWaiting}
use Rattle.scenario_sink.proofs.Printing.{one_put}

-- ---- a call that answers what there was

pub its_line : {B : Type 0} (line : B → List ℕ) (first : Option B) (x : B) (text told : List ℕ) → Some x ≡ first → told ≡ text ++ line x → told ≡ text ++ concat (if_there line first)
its_line line first x text told is put = one_put text told (line x) put ∙ ap (λ (o : Option _). text ++ concat (if_there line o)) is

pub some_there : {A B : Type 0} (f : A → B) (first : Option A) (x : B) → Some x ≡ option_map f first → is_none first ≡ false
some_there f first x is = grind arith

pub none_there : {A B : Type 0} (f : A → B) (first : Option A) → None ≡ option_map f first → is_none first ≡ true
none_there f first is = grind arith

-- ---- whether one was taken

pub one_taken : {A : Type 0} (first : Option A) (next same : List ℕ → LinkedSink → Type 0) (told : List ℕ) (new : LinkedSink) (some : Bool) → some ≡ true
    → Turns first next same told new (Ok some) → (is_none first ≡ false) × next told new
one_taken first next same told new some is turn = grind arith

pub none_taken : {A : Type 0} (first : Option A) (next same : List ℕ → LinkedSink → Type 0) (told : List ℕ) (new : LinkedSink) (some : Bool) → some ≡ false
    → Turns first next same told new (Ok some) → (is_none first ≡ true) × same told new
none_taken first next same told new some is turn = grind arith

-- ---- why a line is refused

-- that nothing waits
abbrev pub idle_refusal : Bool → Option Refusal
idle_refusal none = option_or (refuse_if none NothingWaiting) None

-- that the link is not joined, or else this
abbrev pub link_refusal : Bool → Option Refusal → Option Refusal
link_refusal joined others = option_or (refuse_if (not joined) NoSuchLink) others

pub no_link : (joined : Bool) (others : Option Refusal) → joined ≡ false → link_refusal joined others ≡ Some NoSuchLink
no_link joined others is = ap (λ b. link_refusal b others) is

-- a link that is joined
pub past_link : (joined : Bool) (others : Option Refusal) → joined ≡ true → link_refusal joined others ≡ others
past_link joined others is = ap (λ b. link_refusal b others) is

-- on which one waits
pub some_wait : (joined none : Bool) → joined ≡ true → none ≡ false → link_refusal joined (idle_refusal none) ≡ None
some_wait joined none on waits = λ i. link_refusal (on i) (idle_refusal (waits i))

-- ---- a line that takes the first that waits

-- it prints what that gives, or it is refused since none waits
pub turned : {A : Type 0} (link : ℕ) (history : SinkHistory) (calls_made : List Call) (first : Option A) (lines : Lines) (text told : List ℕ) (new : LinkedSink)
    (waited : Bool) (result : Result (Unit {0}) Stop) → is_joined link history.calls_made ≡ true → result ≡ answer_if waited
    → Turns first (Goes history calls_made lines text) (Stays history text) told new (Ok waited)
    → LinkMakes link (idle_refusal (is_none first)) (Unit {0}) lines calls_made history text told new result
turned link history calls_made first lines text told new waited result joined is turn = grind (arith, is_none, past_link, is_joined)

-- ---- a link that is joined refuses nothing

pub joined_makes : (link : ℕ) (other : Option Refusal) (takes : Type 0) (lines : Lines) (calls_made : List Call) (history : SinkHistory) (text told : List ℕ) (new : LinkedSink)
    (result : Result (Unit {0}) Stop) → is_joined link history.calls_made ≡ true → LinkMakes link other takes lines calls_made history text told new result
    → Makes other takes lines history (stayed calls_made history) text told new result
joined_makes link other takes lines calls_made history text told new result on makes = grind (arith, stayed, past_link, is_joined)
