-- What an assistant keeps, the calls that it stands for, and what each call makes of it.
use Rattle.std.specs.Prelude.{All, ℕ, ◌≡◌, ◌<◌, ◌≤◌, ◌++◌, ◌∷◌, [], nat_lt, Bool, true, false, List, length, replicate, slice_get, slice_set, Option, Some, None, if◌then◌else◌}
use Rattle.receive_state.specs.Layout.{HasEncoding}
use Rattle.receive_state.specs.declared.state.ReceiveState.{ReceiveState}
use Rattle.assistant_machine.specs.Calls.{Call, mtu_of, sent_of, waiting_of, writes_of}
use Rattle.assistant_machine.specs.Cuts.{asks}
use Rattle.assistant_machine.specs.Views.{reading_of, view_of, waits_of}

-- the MTU, the writes that wait, and of each slot its view and whether a read of it waits
pub record Assistant : Type 0 where
  pub mtu : Option ℕ
  pub writes : List (List ℕ)
  pub views : List (Option ReceiveState)
  pub reads : List Bool

-- the view of a slot is encoded by octets
abbrev pub IsEncodedView : Option ReceiveState → Type 0
IsEncodedView None = Unit {0}
IsEncodedView (Some state) = HasEncoding state

-- what is true of every assistant: it has as many views as reads, at most 255, and each view is encoded by octets
pub record Keeps (views reads : ℕ) (states : List (Option ReceiveState)) : Type 0 where
  pub same : views ≡ reads
  pub few : reads < 256
  pub encoded : All IsEncodedView states

-- the assistant has so many slots and is as these calls leave it
pub record StandsFor (slots : ℕ) (calls : List Call) (assistant : Assistant) : Type 0 where
  pub views_count : length assistant.views ≡ slots
  pub reads_count : length assistant.reads ≡ slots
  pub mtu : assistant.mtu ≡ mtu_of calls
  pub writes : assistant.writes ≡ waiting_of calls
  pub sent : sent_of calls ≤ length (writes_of calls)
  pub views : (slot : ℕ) → slot < slots → slice_get assistant.views slot ≡ Some (view_of slot calls)
  pub reads : (slot : ℕ) → slot < slots → slice_get assistant.reads slot ≡ Some (waits_of slot calls)

-- an assistant of so many slots that just joined
abbrev pub joined : ℕ → Assistant
joined slots = record { mtu = None; writes = []; views = replicate slots None; reads = replicate slots false }

abbrev pub with_write : List ℕ → Assistant → Assistant
with_write octets a = record a { writes = a.writes ++ octets ∷ [] }

-- a read of the slot waits
abbrev pub with_read : ℕ → Assistant → Assistant
with_read slot a = record a { reads = slice_set a.reads slot true }

abbrev pub with_reading : ℕ → Option (Option ReceiveState) → Assistant → Assistant
with_reading slot None a = a
with_reading slot (Some view) a = record a { views = slice_set a.views slot view }

-- the value is the view of its slot, where the slot is there and the octets are a value
abbrev pub after_read : ℕ → List ℕ → Assistant → Assistant
after_read slot value a = if nat_lt slot (length a.views) then with_reading slot (reading_of value) a else a

abbrev pub after_notice : ℕ → List ℕ → Assistant → Assistant
after_notice slot value a =
    if asks a.mtu value then (if nat_lt slot (length a.views) then with_read slot a else a) else after_read slot value a

-- a read of this slot waits, and of none below it
pub record IsLowest (reads : List Bool) (slot : ℕ) : Type 0 where
  pub waits : slice_get reads slot ≡ Some true
  pub none_below : (lower : ℕ) → lower < slot → slice_get reads lower ≡ Some false

-- no read waits
abbrev pub NoneWaits : List Bool → Type 0
NoneWaits reads = (slot : ℕ) → slot < length reads → slice_get reads slot ≡ Some false
