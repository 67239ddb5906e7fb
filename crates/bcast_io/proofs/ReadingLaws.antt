-- What a reader of lines does, step by step, and what several steps come to.
use Rattle.bcast_io.proofs.Prelude.{◌≡◌, ℕ, ◌+◌, ◌-◌, ◌<◌, ◌≤◌, Bool, true, false, List, [], ◌∷◌, ◌++◌, Option, Some, length, take, refl, sym, ap, subst, ◌∙◌, arith, append_assoc, append-nil, take-append-drop, length-take-le, le-leb, length-append, get_or, drop, false≢true, Consumes, newline, text_limit, line_limit, TextLine, plain, too_long, past, line_of, NoNewline, Names, Finds, Ends, GoesOn, Answers, drop_more, drop-drop, take_all, nil_from_length, Reading, lines_after, Reads, Took, IsPast, BreaksOff, lines_left}
use Rattle.bcast_io.specs.TextLines.{lines_from}
use Rattle.bcast_io.specs.declared.line_reader.LineRead.{LineRead}
use Rattle.bcast_io.specs.declared.line_reader.LineRead.TheVariants.{Line, LineTooLong, TextTooLong, End}
use Rattle.bcast_io.proofs.Transfers.{Consumes-nothing, Consumes-then}
use Rattle.bcast_io.proofs.LineLaws.{lines-end, lines-nothing, lines-unended, lines-none, lines-past_all, lines-run, lines-newline, lines-kept, line_of-kept}

-- octets that end no line went to the line so far
pub Reads-part : (old new : Reading) (octets : List ℕ) → NoNewline octets → old.ahead ≡ octets ++ new.ahead → new.part ≡ take 9001 (old.part ++ octets)
    → new.taken ≡ old.taken + length octets → new.taken ≤ text_limit → Reads old new [] []
Reads-part old new octets none split part taken fits = grind (arith, append-nil, lines-run, lines-kept, length, take)

-- a line was whole
pub Reads-line : (old new : Reading) (octets : List ℕ) (line : TextLine) → NoNewline octets → old.ahead ≡ octets ++ newline ∷ new.ahead → new.part ≡ []
    → new.taken ≡ old.taken + length octets + 1 → new.taken ≤ text_limit → line ≡ line_of (take 9001 (old.part ++ octets)) → Reads old new [] (line ∷ [])
Reads-line old new octets line none split part taken fits named = record {
  octets = octets ++ newline ∷ [];
  count = omega (arith, length-append octets (newline ∷ []));
  split = append-nil old.ahead ∙ split ∙ sym (append_assoc octets (newline ∷ []) new.ahead);
  first = grind (arith, append_assoc, newline, lines-run, lines-newline, length, line_of-kept);
}

-- one step after another
pub Reads-then : (a b c : Reading) (xs ys : List ℕ) (before lines : List TextLine) → b.over ≡ false → Reads a b xs before → Reads b c ys lines → Reads a c (xs ++ ys) (before ++ lines)
Reads-then a b c xs ys before lines going p q = record {
  octets = p.octets ++ q.octets;
  count = omega (arith, p.count, q.count, length-append p.octets q.octets);
  split = grind (arith, append_assoc);
  first = grind (arith, lines_after, append_assoc, false≢true);
}

-- a list at one of its elements
split_at : (xs : List ℕ) (i x : ℕ) → i < length xs → get_or xs i 0 ≡ x → xs ≡ take i xs ++ x ∷ drop 1 (drop i xs)
split_at xs i x within is = grind (arith, take-append-drop, take, drop_more, drop, drop-drop)

-- the octets up to the first end of a line were taken, then the end, and the line was answered
pub Finds-line : (read : LineRead) (old mid next new : Reading) (at : ℕ) → at < length old.ahead → get_or old.ahead at 0 ≡ newline → NoNewline (take at old.ahead)
    → old.taken + at < text_limit
    → mid.part ≡ take 9001 (old.part ++ take at old.ahead) → mid.ahead ≡ drop at old.ahead → mid.taken ≡ old.taken + at
    → next.part ≡ mid.part → next.ahead ≡ drop 1 mid.ahead → next.taken ≡ mid.taken + 1
    → Names read new.line (line_of next.part) → new.part ≡ [] → new.ahead ≡ next.ahead → new.taken ≡ next.taken → Finds read old new
Finds-line read old mid next new at within end before fits p1 a1 t1 p2 a2 t2 names p3 a3 t3 =
    let octets = take at old.ahead in
    let count : length octets ≡ at = length-take-le at old.ahead (omega arith) in
    let rest : drop 1 (drop at old.ahead) ≡ new.ahead = sym (a3 ∙ a2 ∙ ap (drop 1) a1) in
    let split : old.ahead ≡ octets ++ newline ∷ new.ahead = split_at old.ahead at newline within end ∙ ap (λ l. octets ++ newline ∷ l) rest in
    let kept : next.part ≡ take 9001 (old.part ++ octets) = p2 ∙ p1 in
    let taken : new.taken ≡ old.taken + length octets + 1 = omega arith in
    let reads = λ (line : TextLine) (is : line ≡ line_of (take 9001 (old.part ++ octets))). Reads-line old new octets line before split p3 taken (omega arith) is in
    named read names (λ line is. reads line (sym is ∙ ap line_of kept))
  where
    named : (read : LineRead) → Names read new.line (line_of next.part) → ((line : TextLine) → line_of next.part ≡ line → Reads old new [] (line ∷ [])) → Finds read old new
    named Line n r = (n.0, n.1, r (plain n.0) n.2)
    named LineTooLong n r = (n.0, r too_long n.1)
    named TextTooLong n r = absurd n
    named End n r = absurd n

-- a line that was ahead as a whole was taken with its end
pub Finds-whole : (old new : Reading) (at : ℕ) → at < length old.ahead → get_or old.ahead at 0 ≡ newline → NoNewline (take at old.ahead)
    → old.taken + at < text_limit → at ≤ line_limit → old.part ≡ [] → new.line ≡ Some (take at old.ahead) → new.part ≡ old.part
    → new.ahead ≡ drop (at + 1) old.ahead → new.taken ≡ old.taken + at + 1 → Finds Line old new
Finds-whole old new at within end before fits short empty line part ahead taken =
    let octets = take at old.ahead in
    let count : length octets ≡ at = length-take-le at old.ahead (omega arith) in
    let rest : drop 1 (drop at old.ahead) ≡ new.ahead = drop-drop 1 at old.ahead ∙ sym ahead in
    let split : old.ahead ≡ octets ++ newline ∷ new.ahead = split_at old.ahead at newline within end ∙ ap (λ l. octets ++ newline ∷ l) rest in
    let named : plain octets ≡ line_of (take 9001 (old.part ++ octets)) = rw (empty, take_all 9001 octets (omega (arith, count)), le-leb (length octets) line_limit (omega (arith, count))) refl in
    (octets, line, Reads-line old new octets (plain octets) before split (part ∙ empty) (omega (arith, count)) (omega arith) named)

-- a prefix of what was ahead ended no line and went to the line so far
pub Reads-prefix : (old new : Reading) (n : ℕ) → n ≤ length old.ahead → NoNewline (take n old.ahead) → new.ahead ≡ drop n old.ahead
    → new.part ≡ take 9001 (old.part ++ take n old.ahead) → new.taken ≡ old.taken + n → old.taken + n ≤ text_limit → Reads old new [] []
Reads-prefix old new n within none ahead part taken fits =
    let octets = take n old.ahead in
    let count : length octets ≡ n = length-take-le n old.ahead within in
    Reads-part old new octets none (sym (take-append-drop n old.ahead) ∙ ap (λ l. octets ++ l) (sym ahead)) part (omega arith) (omega arith)

-- the end of the input ended the line so far
pub Ends-line : (read : LineRead) (old mid new : Reading) → 0 < length old.part → old.ahead ≡ [] → Names read mid.line (line_of old.part) → mid.taken ≡ old.taken
    → new.line ≡ mid.line → new.part ≡ [] → new.ahead ≡ [] → new.taken ≡ mid.taken → new.over ≡ true → Ends read old new
Ends-line read old mid new some ahead names t1 line part ahead' t2 over = named read names
  where
    reads : (l : TextLine) → line_of old.part ≡ l → Reads old new [] (l ∷ [])
    reads l is = record {
      octets = [];
      count = omega arith;
      split = append-nil old.ahead ∙ ahead ∙ sym ahead';
      first = λ e more follows.
          let at = follows over in
          ap (λ b. lines_from b old.taken old.part more) at.0 ∙ ap (λ m. lines_from true old.taken old.part m) at.1
          ∙ lines-end old.taken old.part some ∙ ap (λ l. l ∷ []) is
          ∙ ap (λ ls. l ∷ ls) (sym (lines-nothing e new.taken) ∙ sym (ap (λ p. lines_from e new.taken p []) part) ∙ sym (ap (λ m. lines_from e new.taken new.part m) at.1));
    }

    named : (read : LineRead) → Names read mid.line (line_of old.part) → Ends read old new
    named Line n = (n.0, line ∙ n.1, reads (plain n.0) n.2)
    named LineTooLong n = (line ∙ n.0, reads too_long n.1)
    named TextTooLong n = absurd n
    named End n = absurd n

-- what was read off with no read
pub Took-of : (a b : Reading) (l : Option (List ℕ)) (lines : List TextLine) → Reads a b [] lines → Took a b l l lines
Took-of a b l lines p = record { piece = []; consumed = Consumes-nothing l; reads = p }

-- one call's steps, one after another
pub Took-then : (a b c : Reading) (k l m : Option (List ℕ)) (before lines : List TextLine) → b.over ≡ false → Took a b k l before → Took b c l m lines → Took a c k m (before ++ lines)
Took-then a b c k l m before lines going p q = record {
  piece = p.piece ++ q.piece;
  consumed = Consumes-then k l m p.piece q.piece p.consumed q.consumed;
  reads = Reads-then a b c p.piece q.piece before lines going p.reads q.reads;
}

-- where nothing is left of what was taken, nothing was there
nothing_taken : (a b : Reading) (piece : List ℕ) → b.over ≡ false → b.part ≡ [] → b.ahead ≡ [] → Reads a b piece [] → (a.part ≡ []) × (a.ahead ≡ []) × (piece ≡ [])
nothing_taken a b piece going part ahead p =
    let no_line : lines_after true a (p.octets ++ []) ≡ [] =
    p.first true [] (λ over. absurd (false≢true (sym going ∙ over))) ∙ ap (λ q. lines_from true b.taken q []) part ∙ lines-nothing true b.taken in
    let none = lines-none a.taken a.part (p.octets ++ []) no_line in
    let octets : p.octets ≡ [] = sym (append-nil p.octets) ∙ none.1 in
    let all : a.ahead ++ piece ≡ [] = p.split ∙ ap (λ l. l ++ b.ahead) octets ∙ ahead in
    (none.0, nil_from_length a.ahead (omega (arith, ap length all, length-append a.ahead piece)), nil_from_length piece (omega (arith, ap length all, length-append a.ahead piece)))

pub Answers-then : (read : LineRead) (a b c : Reading) (k l m : Option (List ℕ)) → b.over ≡ false → Took a b k l [] → Answers read b c l m → Answers read a c k m
Answers-then Line a b c k l m going p q = (q.0, q.1, Took-then a b c k l m [] (plain q.0 ∷ []) going p q.2)
Answers-then LineTooLong a b c k l m going p q = (q.0, Took-then a b c k l m [] (too_long ∷ []) going p q.1)
Answers-then TextTooLong a b c k l m going p q = (q.0, q.1, Took-then a b c k l m [] [] going p q.2)
Answers-then End a b c k l m going p q =
    let none = nothing_taken a b p.piece going q.0.part q.0.ahead p.reads in (
      record { part = none.0; ahead = none.1; over = q.0.over; line = q.0.line },
      Consumes-then k l m [] [] (subst (Consumes k l) none.2 p.consumed) q.1,
    )

-- an answer of the octets ahead, and one at the end of the input
pub Answers-found : (read : LineRead) (a b : Reading) (l : Option (List ℕ)) → Finds read a b → Answers read a b l l
Answers-found read a b l p = grind (arith, Took-of, plain, too_long)

pub Answers-ends : (read : LineRead) (a b : Reading) (l : Option (List ℕ)) → Ends read a b → Answers read a b l l
Answers-ends read a b l p = grind (arith, Took-of, plain, too_long)

pub BreaksOff-then : (a b c : Reading) (k l m : Option (List ℕ)) → b.over ≡ false → Took a b k l [] → BreaksOff b c l m → BreaksOff a c k m
BreaksOff-then a b c k l m going p q = record { took = Took-then a b c k l m [] [] going p q.took; ahead = q.ahead; going = q.going; line = q.line }

-- where all that was ahead went to the line so far, no whole line was ahead
pub not_ready : (a b : Reading) → b.over ≡ false → b.ahead ≡ [] → Reads a b [] [] → lines_after false a a.ahead ≡ []
not_ready a b going ahead p = grind (arith, append-nil, lines_after, false≢true, lines-unended)

-- past the limit of the text nothing else is found
pub Finds-at_past : (read : LineRead) (a b : Reading) → b.over ≡ false → IsPast a → Finds read a b → read ≡ TextTooLong
Finds-at_past read a b going past' p = at read p
  where
    no_line : (line : TextLine) → (line ≡ past → ⊥) → Reads a b [] (line ∷ []) → ⊥
    no_line line ne r =
        let law = r.first true (0 ∷ []) (λ over. absurd (false≢true (sym going ∙ over))) in
        let all = lines-past_all true a.taken a.part (r.octets ++ 0 ∷ []) (omega (arith, past'.taken)) (omega (arith, length-append r.octets (0 ∷ []))) in
        let same : line ∷ lines_after true b (0 ∷ []) ≡ past ∷ [] = sym law ∙ all in
        ne cc

    at : (read : LineRead) → Finds read a b → read ≡ TextTooLong
    at Line p = absurd (no_line (plain p.0) (λ e. cc) p.2)
    at LineTooLong p = absurd (no_line too_long (λ e. cc) p.1)
    at TextTooLong p = refl
    at End p = absurd p

-- a line that was answered took an octet or the end of the input
pub GoesOn-of : (read : LineRead) (a c : Reading) (l m : Option (List ℕ)) → a.over ≡ false → c.taken ≤ text_limit → Answers read a c l m → GoesOn read a c
GoesOn-of read a c l m going fits p = at read p
  where
    nearer : (over : Bool) → c.over ≡ over → (line : TextLine) → Took a c l m (line ∷ []) → lines_left c < lines_left a
    nearer true is line t = rw (is, going) (omega (arith, t.reads.count))
    nearer false is line t = rw (is, going) (some t.reads.octets refl)
      where
        some : (octets : List ℕ) → t.reads.octets ≡ octets → text_limit - c.taken + 1 < text_limit - a.taken + 1
        some [] e =
            let law = t.reads.first false [] (λ over. absurd (false≢true (sym is ∙ over))) in
            let none : lines_after false a (t.reads.octets ++ []) ≡ [] = ap (λ o. lines_after false a (o ++ [])) e ∙ lines-unended a.taken a.part in
            let same : line ∷ lines_after false c [] ≡ [] = sym law ∙ none in
            absurd cc
        some (x ∷ xs) e = omega (arith, t.reads.count, ap length e)

    at : (read : LineRead) → Answers read a c l m → GoesOn read a c
    at Line p = nearer c.over refl (plain p.0) p.2
    at LineTooLong p = nearer c.over refl too_long p.1
    at TextTooLong p = tt
    at End p = tt
