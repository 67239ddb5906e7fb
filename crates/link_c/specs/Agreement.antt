-- What a program in C calls of an assistant as its link to a server has its course (Broadcast Audio Scan Service 1.0, section 3.2;
-- Core 5.2, volume 3 part F, section 3.4.7). Lists of acts and of calls have the newest first.
use Rattle.std.specs.Prelude.{ℕ, Bool, List, [], ◌∷◌, Option, Some, None}
use Rattle.assistant_machine.specs.Calls.{Call, all_asked, asked, limited, read, notified}
use Rattle.assistant_machine.specs.Links as links
use Rattle.assistant_machine.specs.Links.{Act, Language, value_of, waiting_of}
use Rattle.assistant_machine.specs.Views.{reading_of}
use Rattle.receive_state.specs.Cuts.{cut}
use Rattle.receive_state.specs.Layout.{encoding}
use Rattle.receive_state.specs.declared.state.ReceiveState.{ReceiveState}
use Rattle.link_c.specs.declared.handle.VmLink.{VmLink}
use Rattle.link_c.specs.declared.machine.LinkMachine.{LinkMachine}

abbrev pub Acts : Type 0
Acts = List (Act (Option ReceiveState))

-- the octets of what a slot has
abbrev pub encoded : Option ReceiveState → List ℕ
encoded None = []
encoded (Some state) = encoding state

-- a slot has a state or no source
abbrev pub language : Option ℕ → Language (Option ReceiveState)
language mtu = record { encode = encoded; reading = reading_of; empty = None; mtu = mtu }

-- the handle is made, and knows the MTU of the link, where it has one
abbrev pub begun : Option ℕ → List Call
begun None = []
begun (Some mtu) = limited mtu ∷ []

-- the first notice that waits is given to the handle
abbrev pub first_given : Option ℕ → List (links.Notice (Option ReceiveState)) → List Call → List Call
first_given mtu [] calls = calls
first_given mtu (notice ∷ rest) calls = notified notice.slot (cut mtu (encoded notice.value)) ∷ calls

-- what an act makes the program call
abbrev pub calls_by : Option ℕ → Act (Option ReceiveState) → Acts → List Call → List Call
calls_by mtu (links.made slot value) earlier calls = calls
calls_by mtu links.notified earlier calls = first_given mtu (waiting_of earlier) calls
calls_by mtu (links.served slot) earlier calls = read slot (encoded (value_of (language mtu) slot earlier)) ∷ asked slot ∷ calls
calls_by mtu links.joined earlier calls = all_asked ∷ begun mtu
calls_by mtu (links.forged slot octets) earlier calls = notified slot octets ∷ calls

abbrev pub calls_of : Option ℕ → Acts → List Call
calls_of mtu [] = begun mtu
calls_of mtu (act ∷ earlier) = calls_by mtu act earlier (calls_of mtu earlier)

abbrev pub views_kept : Option LinkMachine → List (Option ReceiveState)
views_kept None = []
views_kept (Some machine) = machine.assistant.views

abbrev pub reads_kept : Option LinkMachine → List Bool
reads_kept None = []
reads_kept (Some machine) = machine.assistant.reads

-- what the handle has of each slot, and whether a read of it waits
abbrev pub views_in : VmLink → List (Option ReceiveState)
views_in handle = views_kept handle.kept

abbrev pub reads_in : VmLink → List Bool
reads_in handle = reads_kept handle.kept
