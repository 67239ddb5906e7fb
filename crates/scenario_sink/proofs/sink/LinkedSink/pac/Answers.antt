use Rattle.scenario_sink.proofs.Prelude.{◌<◌, ◌≤◌, ◌∷◌, ◌++◌, [], length, refl, sym, subst, IsOctets, record_added, Halves, Snapshot, record_of, snapshot_in, Stands, greatest_value}
use Rattle.ltv_codec.proofs.Citable.{are_read}
use Rattle.pacs_records.specs.Layout.{value}
use Rattle.scenario_sink.proofs.Recorded.{has_room, no_room}
use Rattle.scenario_sink.proofs.Stands.{sets}
use Rattle.scenario_sink.proofs.Untold.{its_snapshot}
use Rattle.scenario_sink.proofs.sink.LinkedSink.pac.Goals as goal

pub add_pac-requires-clause-caps : goal.add_pac-requires-clause-caps
add_pac-requires-clause-caps c = λ _. are_read c.args.caps (subst IsOctets c.as_slice.ensures c.are_octets.ensures) c.requires.caps

pub add_pac-requires-clause-metadata : goal.add_pac-requires-clause-metadata
add_pac-requires-clause-metadata c = are_read c.args.metadata (subst IsOctets c.as_slice-2.ensures c.are_octets-2.ensures) c.requires.metadata

pub returns-in-Ok : goal.returns-in-Ok
returns-in-Ok c source sink history lives =
    let took = lives.stands.took in
    let entry = record_of c.args.codec c.args.caps c.args.metadata in (
      has_room (length (value ((snapshot_in history.made history.calls_made).capability.entries ++ entry ∷ [])))
          (subst (λ (s : Snapshot). length (value (s.capability.entries ++ entry ∷ [])) ≤ greatest_value) (its_snapshot history _ _ took)
          (c.in-Ok.ensures.fits history.made.setup took.taken took.stands)),
      record {
        stands = sets c.a_step_notifies_each_link.ensures (record_added entry) history c.args.self.now.delegator _ _ refl tt (λ snapshot i. refl) lives.stands
            (c.in-Ok.ensures.stands history.made.setup took.taken took.stands) c.add_pac.ensures.settings;
        source_is = lives.source_is;
      },
    )

pub returns-in-Err-TooLong : goal.returns-in-Err-TooLong
returns-in-Err-TooLong c source sink history lives =
    let took = lives.stands.took in
    let entry = record_of c.args.codec c.args.caps c.args.metadata in (
      no_room (length (value ((snapshot_in history.made history.calls_made).capability.entries ++ entry ∷ [])))
          (subst (λ (s : Snapshot). greatest_value < length (value (s.capability.entries ++ entry ∷ []))) (its_snapshot history _ _ took)
          (rw c.in-Err-TooLong.field-0-is at (c.in-Err-TooLong.ensures.refused history.made.setup took.taken took.stands))),
      record { stands = subst (λ (d : Halves). Stands history d c.args.self.now.links) (sym c.in-Err-TooLong.ensures.err) lives.stands; source_is = lives.source_is },
    )

pub returns-in-Err-Memory : goal.returns-in-Err-Memory
returns-in-Err-Memory c source sink history lives =
    let took = lives.stands.took in
    let entry = record_of c.args.codec c.args.caps c.args.metadata in (
      has_room (length (value ((snapshot_in history.made history.calls_made).capability.entries ++ entry ∷ [])))
          (subst (λ (s : Snapshot). length (value (s.capability.entries ++ entry ∷ [])) ≤ greatest_value) (its_snapshot history _ _ took)
          (rw c.in-Err-Memory.field-0-is at (c.in-Err-Memory.ensures.refused history.made.setup took.taken took.stands))),
      tt,
    )
