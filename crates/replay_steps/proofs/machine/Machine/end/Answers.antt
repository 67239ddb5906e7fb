use Rattle.replay_steps.proofs.Prelude.{◌∙◌, ap, Ok, Err, with_close, histories_of, stage_in, ComponentsStand}
use Rattle.replay_steps.proofs.Closed.{first_did}
use Rattle.replay_steps.proofs.Ending.{both_did, end_meets, first_stops, opens_at, second_stops, sums_stop}
use Rattle.replay_steps.proofs.Unassigned.{unassigned_in, unassigned_then}
use Rattle.replay_steps.proofs.machine.Machine.end.Goals as goal

pub returns-in-Err-clause-meets : goal.returns-in-Err-clause-meets
returns-in-Err-clause-meets g c starts steps stands e boxes =
    first_stops starts _ steps _ _ _ _ _ _ _ c.in-Err.stop e
    (opens_at e (c.open-first.ensures.event steps stands.sources) (c.open-second.ensures.event steps stands.sources))
    (c.in-Err.ensures.closes steps (histories_of steps) (record { sources = stands.sources; sinks = stands.sinks; relays = stands.relays }))

pub returns-in-Err-close-clause-meets : goal.returns-in-Err-close-clause-meets
returns-in-Err-close-clause-meets g c starts steps stands e boxes =
    second_stops starts _ steps c.open-first.result c.open-second.result _ _ _ _ _ c.in-Err-close.stop e
    (both_did steps _ _ c.close.new.self c.close-2.new.self c.args.text.now c.close.new.text c.close-2.new.text _ _ _
    (Err c.in-Err-close.stop)
    (opens_at e (c.open-first.ensures.event steps stands.sources) (c.open-second.ensures.event steps stands.sources))
    (c.in-Ok.ensures.closes steps (histories_of steps) (record { sources = stands.sources; sinks = stands.sinks; relays = stands.relays }))
    c.in-Err-close.ensures.closes)

pub returns-in-Ok-sums-clause-meets : goal.returns-in-Ok-sums-clause-meets
returns-in-Ok-sums-clause-meets g c starts steps stands e boxes =
    let opens = opens_at e (c.open-first.ensures.event steps stands.sources) (c.open-second.ensures.event steps stands.sources) in
    let both = both_did steps c.open-first.result c.open-second.result c.close.new.self c.close-2.new.self c.args.text.now c.close.new.text
    c.close-2.new.text _ _ _ (Ok tt) opens
    (c.in-Ok.ensures.closes steps (histories_of steps) (record { sources = stands.sources; sinks = stands.sinks; relays = stands.relays }))
    c.in-Ok-close.ensures.closes in
    end_meets starts _ steps c.open-first.result c.open-second.result _ _ c.close-2.new.text _ _ _ e boxes opens
    (ap stage_in (c.close-2.ensures.stage ∙ c.close.ensures.stage)) both
    (c.in-Ok-sums.ensures (with_close 1 c.open-second.result (with_close 0 c.open-first.result (histories_of steps))) both.1.sinks)

pub returns-in-Err-sums-clause-meets : goal.returns-in-Err-sums-clause-meets
returns-in-Err-sums-clause-meets g c starts steps stands e boxes =
    sums_stop starts _ steps c.open-first.result c.open-second.result c.close-2.new.self c.args.text.now c.close-2.new.text _ _ e
    (both_did steps _ _ c.close.new.self c.close-2.new.self c.args.text.now c.close.new.text c.close-2.new.text _ _ _ (Ok tt)
    (opens_at e (c.open-first.ensures.event steps stands.sources) (c.open-second.ensures.event steps stands.sources))
    (c.in-Ok.ensures.closes steps (histories_of steps) (record { sources = stands.sources; sinks = stands.sinks; relays = stands.relays }))
    c.in-Ok-close.ensures.closes)

pub returns-in-Err-clause-unassigned : goal.returns-in-Err-clause-unassigned
returns-in-Err-clause-unassigned g c steps stands =
    unassigned_in steps _ _
    (c.close.ensures.others steps (histories_of steps) (record { sources = stands.sources; sinks = stands.sinks; relays = stands.relays }))

pub returns-in-Err-close-clause-unassigned : goal.returns-in-Err-close-clause-unassigned
returns-in-Err-close-clause-unassigned g c steps stands =
    let components : ComponentsStand steps (histories_of steps) _ =
    record { sources = stands.sources; sinks = stands.sinks; relays = stands.relays } in
    unassigned_then steps _ _ _ (unassigned_in steps _ _ (c.close.ensures.others steps (histories_of steps) components))
    (unassigned_in steps _ _ (c.close-2.ensures.others _ _
    (first_did steps (histories_of steps) _ _ _ _ _ _ (Ok tt) (c.in-Ok.ensures.closes steps (histories_of steps) components)).1))

pub returns-in-Ok-sums-clause-unassigned : goal.returns-in-Ok-sums-clause-unassigned
returns-in-Ok-sums-clause-unassigned g c steps stands =
    let components : ComponentsStand steps (histories_of steps) _ =
    record { sources = stands.sources; sinks = stands.sinks; relays = stands.relays } in
    unassigned_then steps _ _ _ (unassigned_in steps _ _ (c.close.ensures.others steps (histories_of steps) components))
    (unassigned_in steps _ _ (c.close-2.ensures.others _ _
    (first_did steps (histories_of steps) _ _ _ _ _ _ (Ok tt) (c.in-Ok.ensures.closes steps (histories_of steps) components)).1))

pub returns-in-Err-sums-clause-unassigned : goal.returns-in-Err-sums-clause-unassigned
returns-in-Err-sums-clause-unassigned g c steps stands =
    let components : ComponentsStand steps (histories_of steps) _ =
    record { sources = stands.sources; sinks = stands.sinks; relays = stands.relays } in
    unassigned_then steps _ _ _ (unassigned_in steps _ _ (c.close.ensures.others steps (histories_of steps) components))
    (unassigned_in steps _ _ (c.close-2.ensures.others _ _
    (first_did steps (histories_of steps) _ _ _ _ _ _ (Ok tt) (c.in-Ok.ensures.closes steps (histories_of steps) components)).1))
