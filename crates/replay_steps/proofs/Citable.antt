-- What crates above may cite: what a line hands up and that the boxes took it, what a line did by its result, what became of the units
-- where a box stops a close, that a box that failed had no room for the valid units of its sink, and which boxes no line took.
pub use Rattle.replay_steps.proofs.LineLaws.{meets_at, handed_line, took_as, took_history}
pub use Rattle.replay_steps.proofs.Components.{Failure, box_fails, failure, no_room_for}
pub use Rattle.replay_steps.proofs.Unassigned.{none_run, unassigned_line, unassigned_run}
