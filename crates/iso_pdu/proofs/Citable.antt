-- What upper crates may cite: a PDU is read exactly where it has the layout.
pub use Rattle.iso_pdu.proofs.PdusRead.{pdu-is, read_of-layout, read_of-encoded}
