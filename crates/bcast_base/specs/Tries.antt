-- Reading one field behind the other, up to the first fault, whatever the faults are, and what a function says of such a
-- reading. These are this project's own.
use Rattle.std.specs.Prelude.{◌≡◌, Option, Some, None, Result, Ok, Err, IsOk}

infixl 10 ◌>>=◌
abbrev pub ◌>>=◌ : {A B E : Type 0} → Result A E → (A → Result B E) → Result B E
(Ok x) >>= f = f x
(Err fault) >>= f = Err fault

abbrev pub needed : {A E : Type 0} → E → Option A → Result A E
needed fault None = Err fault
needed fault (Some field) = Ok field

-- what a function returned is what reading gives: the value is seen by view, the fault as it is told
abbrev pub ReadsAs : {X Y F E : Type 0} → (X → Y) → (F → E) → Result X F → Result Y E → Type 0
ReadsAs view told (Ok x) read = read ≡ Ok (view x)
ReadsAs view told (Err fault) read = read ≡ Err (told fault)

-- the same, where the fault is told as it is
abbrev pub Reads : {X Y E : Type 0} → (X → Y) → Result X E → Result Y E → Type 0
Reads view (Ok x) read = read ≡ Ok (view x)
Reads view (Err fault) read = read ≡ Err fault

-- Reading finds the fault that is told. None is told of want of memory, which comes only for what is read.
abbrev pub Finds : {Y E : Type 0} → Option E → Result Y E → Type 0
Finds None read = IsOk read
Finds (Some fault) read = read ≡ Err fault

-- what a function returned is what reading gives; told is what its fault says of the octets
abbrev pub Answers : {Y F E : Type 0} → (F → Option E) → Result Y F → Result Y E → Type 0
Answers told (Ok x) read = read ≡ Ok x
Answers told (Err fault) read = Finds (told fault) read

-- the same, where want of memory may come for anything
abbrev pub FindsOrWants : {Y E : Type 0} → Option E → Result Y E → Type 0
FindsOrWants None read = Unit {0}
FindsOrWants (Some fault) read = read ≡ Err fault

-- and where the value is seen by view
abbrev pub GivesOrWants : {X Y F E : Type 0} → (F → Option E) → (X → Y) → Result X F → Result Y E → Type 0
GivesOrWants told view (Ok x) read = read ≡ Ok (view x)
GivesOrWants told view (Err fault) read = FindsOrWants (told fault) read
