-- What a source announces that is as its steps leave it.
use Rattle.scenario_sources.proofs.Prelude.{◌≡◌, List, None, Some, Ok, Err, sym, ◌∙◌, ap, next_anchor_of, next_of, with_cipher, anchor_in, group_in, Source, CounterEnds, Refused, Step, checked_info, phase_of, sending, setup_of, source_calls, StartedIs, arith, announce_fault, train_ends, AnnouncesAs}
use Rattle.delegator_history.specs.Octets.{train_of}
use Rattle.announcement_train.specs.declared.train.Train.{Train}
use Rattle.source_machine.specs.declared.fault.AnnounceFault.TheVariants.{CounterEnds as NumbersEnd}

-- the group that it announces is the one that its lines say
group_is : (own : List Step) (started : Source) → StartedIs own started → group_in started ≡ checked_info own
group_is own started is = grind (arith, with_cipher, setup_of)

next_is : (own : List Step) (started : Source) → StartedIs own started → started.next ≡ next_of (setup_of own) (source_calls own)
next_is own started is = is.calls.next ∙ ap (λ s. next_of s (source_calls own)) is.setup

anchor_is : (own : List Step) (started : Source) → StartedIs own started → anchor_in started ≡ next_anchor_of (setup_of own) (source_calls own)
anchor_is own started is = grind (arith, setup_of, next_is)

pub announces : (own : List Step) (started : Source) (train : Train) → (phase_of own ≡ sending) × StartedIs own started
    → announce_fault started.setup (source_calls own) ≡ None
    → train ≡ train_of started.identity.broadcast_id started.base (group_in started) started.next (anchor_in started)
    → AnnouncesAs own (Ok train)
announces own started train is none same = grind (arith, source_calls, group_is, next_is, anchor_is)

pub announces_no_more : (own : List Step) (started : Source) → (phase_of own ≡ sending) × StartedIs own started
    → announce_fault started.setup (source_calls own) ≡ Some NumbersEnd → AnnouncesAs own (Err (Refused CounterEnds))
announces_no_more own started is ends = rw is.0 (ap (λ s. train_ends (announce_fault s (source_calls own))) (sym is.1.setup) ∙ ap train_ends ends)
