-- What is read of a document, one piece after the other.
use Rattle.bcast_io.proofs.Prelude.{◌≡◌, ℕ, ◌≤◌, List, [], ◌++◌, length, Option, Result, Err, subst, arith, append-nil, length-append, Consumes, Keeps, ReadsDocument, document_limit}
use Rattle.bcast_io.proofs.Citable.{Consumes-then}
use Rattle.bcast_io.specs.State.Pieces.{ReadsOn}
use Rattle.bcast_io.specs.declared.piece.Piece.{Piece}
use Rattle.bcast_io.specs.declared.piece.Unread.{Unread}
use Rattle.bcast_io.specs.declared.piece.Unread.TheVariants as unreads

kept_none : (a b : Option (List ℕ)) → Keeps a b → Consumes a b []
kept_none a b kept = grind arith

-- nothing more was read of a source
consumed_kept : (a b c : Option (List ℕ)) (octets : List ℕ) → Consumes a b octets → Keeps b c → Consumes a c octets
consumed_kept a b c octets read kept = subst (Consumes a c) (append-nil octets) (Consumes-then a b c octets [] read (kept_none b c kept))

-- what one read did, by its answer
pub reads_at : (a b : Option (List ℕ)) (old new : List ℕ) (r s : Result Piece Unread) → r ≡ s → ReadsOn a b old new r → ReadsOn a b old new s
reads_at a b old new r s is reads = subst (ReadsOn a b old new) is reads

module _ (left mid left' : Option (List ℕ)) (octets : List ℕ) (read : Consumes left mid octets) where
  -- a fault of the source, or want of memory for what was read
  pub part_read : (new : List ℕ) (unread : Unread) → length octets ≤ document_limit → ReadsOn mid left' octets new (Err unread) → ReadsDocument left left' (Err unread)
  part_read new unreads.Failed within kept = record { octets = octets; consumed = consumed_kept left mid left' octets read kept; least = within }
  part_read new unreads.Memory within gone = record {
    octets = octets ++ gone.octets;
    consumed = Consumes-then left mid left' octets gone.octets read gone.consumed;
    least = omega (arith, gone.within, length-append octets gone.octets);
  }
