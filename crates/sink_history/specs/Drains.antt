-- A drain of a link, which is this project's own: all writes that wait are served, then all notices that wait are delivered in
-- order, then all reads that wait are served.
use Rattle.std.specs.Prelude.{ℕ, zero, suc, ◌≡◌, ◌==◌, ◌≢◌, true, false, List, [], ◌∷◌, length, Option, None}
use Rattle.std.specs.List.{AllByRecursion}
use Rattle.delegator_history.specs.Trains.{Setup}
use Rattle.sink_history.specs.Calls.{Call, stepped, joined, parted, asked, served, notified, read, forged, steps_of, writes_waiting}
use Rattle.sink_history.specs.Links.{acts_of, notices_waiting, read_waits, reads_waiting, view}

abbrev pub repeated : ℕ → Call → List Call → List Call
repeated zero call calls = calls
repeated (suc count) call calls = call ∷ repeated count call calls

abbrev pub served_out : ℕ → List Call → List Call
served_out link calls = repeated (length (writes_waiting link calls)) (served link) calls

abbrev pub notified_out : Setup → Option ℕ → ℕ → List Call → List Call
notified_out setup mtu link calls = repeated (length (notices_waiting setup mtu link calls)) (notified link) calls

abbrev pub read_out : Setup → Option ℕ → ℕ → List Call → List Call
read_out setup mtu link calls = repeated (length (reads_waiting setup mtu link calls)) (read link) calls

abbrev pub notified_and_read : Setup → Option ℕ → ℕ → List Call → List Call
notified_and_read setup mtu link calls = read_out setup mtu link (notified_out setup mtu link calls)

abbrev pub drained : Setup → Option ℕ → ℕ → List Call → List Call
drained setup mtu link calls = notified_and_read setup mtu link (served_out link calls)

-- no write, no notice and no read waits
pub record IsDrained (setup : Setup) (mtu : Option ℕ) (link : ℕ) (calls : List Call) : Type 0 where
  pub writes : writes_waiting link calls ≡ []
  pub notices : notices_waiting setup mtu link calls ≡ []
  pub reads : reads_waiting setup mtu link calls ≡ []

abbrev pub NoneNotifies : Setup → Option ℕ → ℕ → ℕ → List Call → Type 0
NoneNotifies setup mtu link slot calls = AllByRecursion (λ notice. (notice.slot == slot) ≡ false) (notices_waiting setup mtu link calls)

-- the call is no step of the delegator, and one of another link where it is of one
abbrev pub IsApart : ℕ → Call → Type 0
IsApart link (stepped step) = ⊥
IsApart link (served at) = ⊥
IsApart link (joined at) = at ≢ link
IsApart link (parted at) = at ≢ link
IsApart link (asked at octets) = at ≢ link
IsApart link (notified at) = at ≢ link
IsApart link (read at) = at ≢ link
IsApart link (forged slot octets) = 0 ≢ link

pub record LeavesLink (setup : Setup) (mtu : Option ℕ) (link : ℕ) (call : Call) (calls : List Call) : Type 0 where
  pub acts : acts_of setup mtu link (call ∷ calls) ≡ acts_of setup mtu link calls
  pub writes : writes_waiting link (call ∷ calls) ≡ writes_waiting link calls
  pub steps : steps_of (call ∷ calls) ≡ steps_of calls

-- the link that is joined: nothing waits but a read of every slot, and each view is empty
pub record IsAnew (setup : Setup) (mtu : Option ℕ) (link : ℕ) (calls : List Call) : Type 0 where
  pub writes : writes_waiting link (joined link ∷ calls) ≡ []
  pub notices : notices_waiting setup mtu link (joined link ∷ calls) ≡ []
  pub reads : (slot : ℕ) → read_waits setup mtu link slot (joined link ∷ calls) ≡ true
  pub views : (slot : ℕ) → view setup mtu link slot (joined link ∷ calls) ≡ None
