-- What upper crates may cite: an assistant that just joined, one that learned its MTU and one that asks for every slot.
pub use Rattle.assistant_machine.proofs.Standing.{fresh, limited_stands, all_stands, length_replicate, drop_more}
