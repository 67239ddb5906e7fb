-- What was read of a document, and what it stands for.
use Rattle.replay_lines.proofs.Prelude.{◌≡◌, ℕ, ◌+◌, ◌≤◌, cond, List, length, ap, arith, Option, Some, length-append, lt-ltb, le-ltb, append-nil, ReadWhole, ReadPast, ReadPrefix, document_limit, meaning_of, TooLong, DocumentIs, WholeIs, Standing, refused_for, standing_by}
use Rattle.replay_lines.proofs.Completing.{told}
use Rattle.replay_lines.specs.Standing.{standing_of}

is_too_long : (document : List ℕ) → document_limit + 1 ≤ length document → standing_of document ≡ refused_for TooLong
unfolding standing_of
is_too_long document long = grind (arith, cond, refused_for, standing_by, meaning_of, lt-ltb, document_limit, length)

is_within : (document : List ℕ) → length document ≤ document_limit → standing_of document ≡ standing_by (meaning_of document)
unfolding standing_of
is_within document within = grind (arith, cond, refused_for, standing_by, meaning_of, le-ltb, document_limit, length)

-- a document that was read to its end
pub whole_is : (left left' : Option (List ℕ)) (document : List ℕ) → ReadWhole left left' document
    → DocumentIs left left' (standing_by (meaning_of document))
whole_is left left' document read = grind (arith, is_within)

-- no more was read than octet 1,048,577
pub prefix_read : (left left' : Option (List ℕ)) (standing : Standing) → DocumentIs left left' standing
    → ReadPrefix (document_limit + 1) left left'
prefix_read left left' standing document = grind arith

-- ---- a source that tells its octets

module _ (left left' : Option (List ℕ)) (document : List ℕ) (tells : left ≡ Some document) where
  whole_told : (standing : Standing) → WholeIs left left' standing → standing_of document ≡ standing
  whole_told standing whole = grind (arith, told, append-nil)

  past_told : ReadPast left left' → standing_of document ≡ refused_for TooLong
  past_told past =
      let t = told document left left' past.octets tells past.consumed in
      is_too_long document (omega (arith, past.long, ap length t.2, length-append past.octets t.0))

  -- the document that it tells stands for what was read
  pub document_told : (standing : Standing) → DocumentIs left left' standing → standing_of document ≡ standing
  document_told (refused_for TooLong) past = past_told past
  document_told standing whole = whole_told standing whole
