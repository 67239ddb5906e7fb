use Rattle.isoal_framed.proofs.framed_in.FramedIn.hand_units.Goals as goal

pub returns-clause-step : goal.returns-clause-step
returns-clause-step g c = rw (← c.self.view_is) (cc (c.take_places-handed.ensures.kept, c.take_places-handed.ensures.run, c.self.invariant.buffer))

pub returns-clause-hands : goal.returns-clause-hands
returns-clause-hands g c = rw (← c.self.view_is) (rw c.self.invariant.buffer at c.take_places-handed.ensures.hands)
