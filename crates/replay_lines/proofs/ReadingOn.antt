-- The text that a run took from its source, line by line.
use Rattle.replay_lines.proofs.Prelude.{◌≡◌, ℕ, ◌+◌, ◌≤◌, Bool, true, false, List, [], ◌∷◌, ◌++◌, length, reverse, refl, ap, append_assoc, arith, Option, None, Result, Ok, Err, length-append, append-nil, length-reverse, false≢true, false_from_ne_true, Consumes, IsAtEnd, TextLine, plain, too_long, past, lines_of, Reading, IsSound, IsPast, IsDone, BreaksOff, lines_after, LineRead, Line, LineTooLong, TextTooLong, End, Failed, Consumes-nothing, lines-nothing, lines-unended, lines-end, lines-past_all, reverse_onto, Comes, ReadsAhead, ReadsAtMost, read_limit, ReadTo, TextIs, NextIs, IfOk, OnErr}
use Rattle.bcast_io.specs.TextLines.{lines_from}
use Rattle.bcast_io.specs.State.Reading.{Took}
use Rattle.bcast_io.specs.State.Reading as reading
use Rattle.bcast_io.specs.State.Answering.{Answers, Anew}

-- nothing was read yet
pub read_none : (left : Option (List ℕ)) (reader : Reading)
    → reader ≡ record { ahead = []; part = []; taken = 0; over = false; line = None } → ReadTo left left [] reader
read_none left reader e = grind (arith, false≢true)

-- what was passed has these lines, and no octet of another
pub passed_lines : (left left' : Option (List ℕ)) (lines : List TextLine) (reader : Reading) (r : ReadTo left left' lines reader) → lines_of true r.passed ≡ reverse lines
passed_lines left left' lines reader r = grind (arith, append-nil, r.begins true [] (λ over. (refl, refl)), lines-nothing)

pub ahead_of : {left left' : Option (List ℕ)} {lines : List TextLine} {reader : Reading} → ReadTo left left' lines reader
    → ReadsAhead left left' (length lines)
ahead_of {left = left} {left' = left'} {lines = lines} {reader = reader} r = record {
  upto = r.passed;
  ahead = reader.ahead;
  consumed = r.consumed;
  least = r.sound.least;
  within = omega (arith, ap length (passed_lines left left' lines reader r), length-reverse lines);
}

pub comes_of : {left left' : Option (List ℕ)} {lines : List TextLine} {line : TextLine} {reader : Reading}
    → ReadTo left left' (line ∷ lines) reader → Comes left left' lines line
comes_of {lines = lines} {line = line} {reader = reader} r = record {
  text = r.passed ++ reader.ahead;
  over = reader.over;
  read = record { consumed = r.consumed; at_end = r.at_end };
  lines = λ at_end more follows. (
    lines_after at_end reader (reader.ahead ++ more),
    grind (arith, lines_of, append_assoc, reverse_onto, lines_after),
  );
}

-- a step of the reader after these lines, which passed the octets of further ones
pub begins_more : (left mid left' : Option (List ℕ)) (lines : List TextLine) (old new : Reading) (further : List TextLine) (r : ReadTo left mid lines old)
    → old.over ≡ false → (t : Took old new mid left' further) → (at_end : Bool) (more : List ℕ) → reading.MayFollow new.over at_end more
    → lines_of at_end ((r.passed ++ t.reads.octets) ++ more) ≡ reverse lines ++ (further ++ lines_after at_end new more)
begins_more left mid left' lines old new further r going t at_end more follows = grind (arith, lines_of, append_assoc, false≢true, reverse)

pub consumed_more : (left mid left' : Option (List ℕ)) (lines : List TextLine) (old new : Reading) (further : List TextLine)
    (r : ReadTo left mid lines old) (t : Took old new mid left' further) → Consumes left left' ((r.passed ++ t.reads.octets) ++ new.ahead)
consumed_more left mid left' lines old new further r t = grind (arith, append_assoc)

pub read_line : (left mid left' : Option (List ℕ)) (lines : List TextLine) (old new : Reading) (line : TextLine)
    → ReadTo left mid lines old → old.over ≡ false → Took old new mid left' (line ∷ []) → new.part ≡ [] → IsSound new → (new.over ≡ true → IsAtEnd left')
    → ReadTo left left' (line ∷ lines) new
read_line left mid left' lines old new line r going t part sound end =
    let consumed = consumed_more left mid left' lines old new (line ∷ []) r t in
    let begins = begins_more left mid left' lines old new (line ∷ []) r going t in
    grind (arith, reverse_onto, length-append)

least_last : (taken : ℕ) (part : List ℕ) → length (lines_from true taken part []) ≤ 1
least_last taken [] = omega (arith, ap length (lines-nothing true taken))
least_last taken (x ∷ xs) = omega (arith, ap length (lines-end taken (x ∷ xs) (omega arith)))

pub read_past : (left mid left' : Option (List ℕ)) (lines : List TextLine) (old new : Reading)
    → ReadTo left mid lines old → old.over ≡ false → Took old new mid left' [] → IsPast new → IsSound new → (new.over ≡ true → IsAtEnd left')
    → Comes left left' lines past × ReadsAhead left left' (length lines + 1)
read_past left mid left' lines old new r going t is sound end =
    let consumed = consumed_more left mid left' lines old new [] r t in
    let begins = begins_more left mid left' lines old new [] r going t in
    let least = sound.least in
    let within : length (lines_of true (r.passed ++ t.reads.octets)) ≤ length lines + 1 =
    grind (arith, append-nil, begins true [] (λ over. (refl, refl)), length-append, length-reverse, least_last) in
    (grind (arith, lines_of, append_assoc, begins, reverse, lines-past_all, length-append), search)

pub read_end : (left mid left' : Option (List ℕ)) (lines : List TextLine) (old new : Reading)
    → ReadTo left mid lines old → IsDone old new → Consumes mid left' [] → IsAtEnd left' → TextIs left left' lines true
read_end left mid left' lines old new r done none end = record {
  text = r.passed;
  read = grind (arith, append-nil);
  whole = passed_lines left mid lines old r;
}

pub read_broken : (left mid left' : Option (List ℕ)) (lines : List TextLine) (old new : Reading)
    → ReadTo left mid lines old → old.over ≡ false → BreaksOff old new mid left' → TextIs left left' lines false
read_broken left mid left' lines old new r going b =
    let consumed = consumed_more left mid left' lines old new [] r b.took in
    grind (arith, lines_of, append-nil, begins_more, false≢true, reverse, lines-unended)

-- the source is at its end where the reader is over
at_the_end : (left mid left' : Option (List ℕ)) (lines : List TextLine) (old new : Reading) (over : Bool) → old.over ≡ over
    → ReadTo left mid lines old → (old.over ≡ true → left' ≡ mid) → (old.over ≡ false → new.over ≡ true → IsAtEnd left') → new.over ≡ true → IsAtEnd left'
at_the_end left mid left' lines old new over is r same end over' = grind arith

pub next_is : (left mid left' : Option (List ℕ)) (lines : List TextLine) (old new : Reading) (result : Result LineRead Failed)
    → IfOk result (λ read. Answers read old new mid left') → OnErr result (BreaksOff old new mid left')
    → IfOk result (λ read. Anew read new) → IsSound new → (old.over ≡ true → (result ≡ Ok End) × (left' ≡ mid))
    → (old.over ≡ false → new.over ≡ true → IsAtEnd left') → ReadTo left mid lines old → NextIs left left' lines new result
next_is left mid left' lines old new (Ok Line) a b anew sound over end r = grind (arith, false_from_ne_true, read_line, plain)
next_is left mid left' lines old new (Ok LineTooLong) a b anew sound over end r = grind (arith, false_from_ne_true, read_line, too_long)
next_is left mid left' lines old new (Ok TextTooLong) a b anew sound over end r =
    let going : old.over ≡ false = false_from_ne_true old.over (λ e. let is = (over e).0 in cc) in
    read_past left mid left' lines old new r going a.2 a.1 sound (end going)
next_is left mid left' lines old new (Ok End) a b anew sound over end r =
    read_end left mid left' lines old new r a.0 a.1 (at_the_end left mid left' lines old new old.over refl r (λ e. (over e).1) end a.0.over)
next_is left mid left' lines old new (Err failed) a b anew sound over end r =
    let going : old.over ≡ false = false_from_ne_true old.over (λ e. let is = (over e).0 in cc) in
    read_broken left mid left' lines old new r going b

-- no more is read than a text and one read behind it
within_took : (left mid left' : Option (List ℕ)) (lines more : List TextLine) (old new : Reading) → ReadTo left mid lines old → Took old new mid left' more → IsSound new
    → ReadsAtMost left left' read_limit
within_took left mid left' lines more old new r t sound = record {
  octets = (r.passed ++ t.reads.octets) ++ new.ahead;
  consumed = consumed_more left mid left' lines old new more r t;
  within = omega (arith, r.count, t.reads.count, sound.least, sound.fits, length-append (r.passed ++ t.reads.octets) new.ahead, length-append r.passed t.reads.octets);
}

pub next_within : (left mid left' : Option (List ℕ)) (lines : List TextLine) (old new : Reading) (result : Result LineRead Failed)
    → IfOk result (λ read. Answers read old new mid left') → OnErr result (BreaksOff old new mid left') → IsSound new
    → ReadTo left mid lines old → ReadsAtMost left left' read_limit
next_within left mid left' lines old new (Ok End) a b sound r = grind (arith, length, length-append)
next_within left mid left' lines old new result a b sound r = search (false≢true, within_took, length, length-append)

-- nothing was read
pub none_within : (left : Option (List ℕ)) → ReadsAtMost left left read_limit
none_within left = record { octets = []; consumed = Consumes-nothing left; within = omega arith }
