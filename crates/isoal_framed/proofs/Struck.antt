-- What the tokens of a stay decide are the entries of the units that were sent.
use Rattle.isoal_framed.proofs.Prelude.{ℕ, zero, suc, ◌≡◌, ◌+◌, ◌-◌, ◌/◌, ◌<◌, ◌≤◌, inl, inr, true, false, Bool, ◌&&◌, List, [], ◌∷◌, ◌++◌, map, length, Option, Some, None, refl, sym, ap, ◌∙◌, subst, arith, append_assoc, length-append, flat_map, cases_Bool, and_right, append-nil, none-some, valid, Stay, Token, goes_on, missing, token_of, Run, hands, run_joined, Fit, Sent, octets_in, is_last, parts_at, InOrder, entry_of}
use Rattle.isoal_framed.proofs.Begun.{joined_fits, Shown, same_none, run_inj, goes_shown, begun_heard, begun_missed}
use Rattle.isoal_framed.proofs.Entries.{scan, scan_heard, scan_missing, scan_open, no_entries, scan_run, scan_end, carried_here, carried_later, none_here, toks, toks_same, tok_heard, tok_missing, toks_first, toks_none}

-- where no number is closed any more
zero_shown : (stay : Stay) (heard : ℕ → Bool) (closed from : ℕ) (segments : List (List ℕ)) (whole : Bool) (run : Option Run) (units : List Sent) → closed ≤ from
    → (segments ≡ [] → run ≡ None) → (segments ≡ [] → InOrder from closed units) → (1 ≤ length segments → InOrder (from + length segments - 1) closed units)
    → [] ≡ scan_run heard closed stay.bis whole run from segments ++ flat_map (entry_of stay heard closed) units
zero_shown stay heard closed from [] whole None units past rests order later = sym (no_entries stay heard closed from closed units (order refl) past)
zero_shown stay heard closed from [] whole (Some run) units past rests order later = absurd (none-some run (sym (rests refl)))
zero_shown stay heard closed from (octets ∷ segments) whole None units past rests order later = grind (arith, no_entries)
zero_shown stay heard closed from (octets ∷ segments) whole (Some run) units past rests order later = grind (arith, no_entries, scan_open)

-- behind its first number a unit that goes on has the rest of its segments
later_toks : (stay : Stay) (heard : ℕ → Bool) (from n : ℕ) (octets : List ℕ) (segments : List (List ℕ)) (whole : Bool) (units : List Sent)
    → toks stay heard from (octets ∷ segments) whole units (from + 1) n ≡ toks stay heard (from + 1) segments whole units (from + 1) n
later_toks stay heard from n octets segments whole units = grind (arith, toks_same, carried_later)

-- the tokens from a number on where a unit goes on
goes_heard : (stay : Stay) (heard : ℕ → Bool) (from n : ℕ) (octets : List ℕ) (segments : List (List ℕ)) (whole : Bool) (units : List Sent) → heard from ≡ true
    → toks stay heard from (octets ∷ segments) whole units from (suc n)
    ≡ goes_on (whole && is_last segments) octets ∷ (map (token_of stay (from / stay.info.bn)) (parts_at units from)
    ++ toks stay heard (from + 1) segments whole units (from + 1) n)
goes_heard stay heard from n octets segments whole units is = search (toks_first, toks, tok_heard, carried_here, later_toks)

goes_missed : (stay : Stay) (heard : ℕ → Bool) (from n : ℕ) (octets : List ℕ) (segments : List (List ℕ)) (whole : Bool) (units : List Sent) → heard from ≡ false
    → toks stay heard from (octets ∷ segments) whole units from (suc n) ≡ missing ∷ toks stay heard (from + 1) segments whole units (from + 1) n
goes_missed stay heard from n octets segments whole units gap = search (toks_first, toks, tok_missing, later_toks)

-- the last segment of a unit that goes on
last_heard : (stay : Stay) (heard : ℕ → Bool) (closed from n : ℕ) (octets : List ℕ) (whole : Bool) (run : Run) (units : List Sent) → heard from ≡ true
    → length (run.octets ++ octets_in (octets ∷ [])) ≤ stay.info.max_sdu → from + suc n ≡ closed → (whole ≡ false → (units ≡ []) × (closed ≤ from + 1))
    → hands stay.info.max_sdu stay.bis None
    (map (token_of stay (from / stay.info.bn)) (parts_at units from) ++ toks stay heard (from + 1) [] whole units (from + 1) n)
    ≡ flat_map (entry_of stay heard closed) units → hands stay.info.max_sdu stay.bis (Some run) (goes_on (whole && true) octets
    ∷ (map (token_of stay (from / stay.info.bn)) (parts_at units from) ++ toks stay heard (from + 1) [] whole units (from + 1) n))
    ≡ scan heard closed stay.bis run.time whole (run.octets ++ octets_in (octets ∷ [])) from (octets ∷ []) ++ flat_map (entry_of stay heard closed) units
last_heard stay heard closed from n octets true run units is room all last rest = grind (arith, octets_in, append-nil, length, hands, run_joined, map, token_of, parts_at, toks, joined_fits, valid, flat_map, entry_of, scan_heard, scan_end)
last_heard stay heard closed from n octets false run units is room all last rest =
    let same : run.octets ++ octets_in (octets ∷ []) ≡ run.octets ++ octets = ap (λ xs. run.octets ++ xs) (append-nil octets) in
    let fits : length (run.octets ++ octets) ≤ stay.info.max_sdu = subst (λ xs. length xs ≤ stay.info.max_sdu) same room in
    let none : units ≡ [] = (last refl).0 in
    let end : closed ≤ from + 1 = (last refl).1 in
    let count : n ≡ 0 = omega arith in
    ap (λ xs. xs ++ hands stay.info.max_sdu stay.bis (run_joined stay.info.max_sdu run.time false (run.octets ++ octets))
    (map (token_of stay (from / stay.info.bn)) (parts_at units from) ++ toks stay heard (from + 1) [] false units (from + 1) n))
    (joined_fits stay.info.max_sdu stay.bis run.time (run.octets ++ octets) fits).1
    ∙ ap (λ us. hands stay.info.max_sdu stay.bis (run_joined stay.info.max_sdu run.time false (run.octets ++ octets))
    (map (token_of stay (from / stay.info.bn)) (parts_at us from) ++ toks stay heard (from + 1) [] false us (from + 1) n)) none
    ∙ ap (λ k. hands stay.info.max_sdu stay.bis (run_joined stay.info.max_sdu run.time false (run.octets ++ octets)) (toks stay heard (from + 1) [] false [] (from + 1) k)) count
    ∙ ap (hands stay.info.max_sdu stay.bis (run_joined stay.info.max_sdu run.time false (run.octets ++ octets))) (toks_none stay heard (from + 1) [] false [] (from + 1))
    ∙ ap (flat_map (entry_of stay heard closed)) (sym none) ∙ ap (λ xs. xs ++ flat_map (entry_of stay heard closed) units)
    (sym (scan_heard heard closed stay.bis run.time false (run.octets ++ octets_in (octets ∷ [])) from octets [] (omega arith) is
    ∙ scan_end heard closed stay.bis run.time false (run.octets ++ octets_in (octets ∷ [])) (from + 1)))

-- a further segment of a unit that goes on
more_joined : (max_sdu bis : ℕ) (run : Run) (octets : List ℕ) (tokens : List Token) → length (run.octets ++ octets) ≤ max_sdu
    → hands max_sdu bis (Some run) (goes_on false octets ∷ tokens) ≡ hands max_sdu bis (Some (record { time = run.time; octets = run.octets ++ octets })) tokens
more_joined max_sdu bis run octets tokens fits = grind (arith, joined_fits)

-- the last segment, whether the run stands or not
last_run : (stay : Stay) (heard : ℕ → Bool) (closed from n : ℕ) (octets : List ℕ) (whole : Bool) (run : Option Run) (units : List Sent) → heard from ≡ true
    → ((r : Run) → run ≡ Some r → length (r.octets ++ octets_in (octets ∷ [])) ≤ stay.info.max_sdu) → from + suc n ≡ closed
    → (whole ≡ false → (units ≡ []) × (closed ≤ from + 1)) → hands stay.info.max_sdu stay.bis None
    (map (token_of stay (from / stay.info.bn)) (parts_at units from) ++ toks stay heard (from + 1) [] whole units (from + 1) n)
    ≡ flat_map (entry_of stay heard closed) units → hands stay.info.max_sdu stay.bis run (goes_on (whole && true) octets
    ∷ (map (token_of stay (from / stay.info.bn)) (parts_at units from) ++ toks stay heard (from + 1) [] whole units (from + 1) n))
    ≡ scan_run heard closed stay.bis whole run from (octets ∷ []) ++ flat_map (entry_of stay heard closed) units
last_run stay heard closed from n octets whole run units is fits all last rest = grind (arith, last_heard)

-- a missing number
gap_run : (stay : Stay) (heard : ℕ → Bool) (closed from : ℕ) (octets : List ℕ) (segments : List (List ℕ)) (whole : Bool) (run : Option Run) (units : List Sent) (tokens : List Token)
    → heard from ≡ false → from < closed → hands stay.info.max_sdu stay.bis None tokens ≡ flat_map (entry_of stay heard closed) units
    → hands stay.info.max_sdu stay.bis run (missing ∷ tokens)
    ≡ scan_run heard closed stay.bis whole run from (octets ∷ segments) ++ flat_map (entry_of stay heard closed) units
gap_run stay heard closed from octets segments whole run units tokens gap below rest = grind (arith, scan_missing)

-- a further segment, whether the run stands or not
more_run : (stay : Stay) (heard : ℕ → Bool) (closed from n : ℕ) (octets next : List ℕ) (segments : List (List ℕ)) (whole : Bool) (run : Option Run) (units : List Sent)
    → Shown stay heard closed (from + 1) n → heard from ≡ true → from < closed → InOrder (from + 1 + length (next ∷ segments) - 1) closed units
    → (whole ≡ false → (units ≡ []) × (closed ≤ from + 1 + length (next ∷ segments)))
    → ((r : Run) → run ≡ Some r → length (r.octets ++ octets_in (octets ∷ next ∷ segments)) ≤ stay.info.max_sdu) → Fit stay.info.max_sdu units
    → hands stay.info.max_sdu stay.bis run (goes_on false octets ∷ toks stay heard (from + 1) (next ∷ segments) whole units (from + 1) n)
    ≡ scan_run heard closed stay.bis whole run from (octets ∷ next ∷ segments) ++ flat_map (entry_of stay heard closed) units
more_run stay heard closed from n octets next segments whole None units shown is below order last fits fit =
    goes_shown stay heard closed (from + 1) n whole None units next segments shown order last (λ r same. absurd (none-some r same)) fit
more_run stay heard closed from n octets next segments whole (Some run) units shown is below order last fits fit =
    let room : length (run.octets ++ (octets ++ octets_in (next ∷ segments))) ≤ stay.info.max_sdu = fits run refl in
    let same : (run.octets ++ octets) ++ octets_in (next ∷ segments) ≡ run.octets ++ (octets ++ octets_in (next ∷ segments)) =
    append_assoc run.octets octets (octets_in (next ∷ segments)) in
    let all : length ((run.octets ++ octets) ++ octets_in (next ∷ segments)) ≤ stay.info.max_sdu = subst (λ xs. length xs ≤ stay.info.max_sdu) (sym same) room in
    let part : length (run.octets ++ octets) ≤ stay.info.max_sdu = omega (arith, length-append (run.octets ++ octets) (octets_in (next ∷ segments))) in
    more_joined stay.info.max_sdu stay.bis run octets (toks stay heard (from + 1) (next ∷ segments) whole units (from + 1) n) part
    ∙ goes_shown stay heard closed (from + 1) n whole (Some (record { time = run.time; octets = run.octets ++ octets })) units next segments shown order last
    (λ r is_r. subst (λ now. length (now.octets ++ octets_in (next ∷ segments)) ≤ stay.info.max_sdu) (run_inj r (record { time = run.time; octets = run.octets ++ octets }) is_r) all) fit
    ∙ ap (λ xs. scan heard closed stay.bis run.time whole xs (from + 1) (next ∷ segments) ++ flat_map (entry_of stay heard closed) units) same
    ∙ ap (λ xs. xs ++ flat_map (entry_of stay heard closed) units)
    (sym (scan_heard heard closed stay.bis run.time whole (run.octets ++ (octets ++ octets_in (next ∷ segments))) from octets (next ∷ segments) below is))

more_shown : (stay : Stay) (heard : ℕ → Bool) (closed n from : ℕ) → from + suc n ≡ closed → Shown stay heard closed (from + 1) n
    → (segments : List (List ℕ)) (whole : Bool) (run : Option Run) (units : List Sent)
    → (segments ≡ [] → run ≡ None) → (segments ≡ [] → InOrder from closed units) → (1 ≤ length segments → InOrder (from + length segments - 1) closed units)
    → (whole ≡ false → 1 ≤ length segments → (units ≡ []) × (closed ≤ from + length segments))
    → ((r : Run) → run ≡ Some r → length (r.octets ++ octets_in segments) ≤ stay.info.max_sdu) → Fit stay.info.max_sdu units
    → hands stay.info.max_sdu stay.bis run (toks stay heard from segments whole units from (suc n))
    ≡ scan_run heard closed stay.bis whole run from segments ++ flat_map (entry_of stay heard closed) units
more_shown stay heard closed n from all shown [] whole (Some run) units rests order later last fits fit = absurd (none-some run (sym (rests refl)))
more_shown stay heard closed n from all shown [] whole None units rests order later last fits fit = elim (cases_Bool (heard from)) [
  | inl is ↦
      ap (hands stay.info.max_sdu stay.bis None) (toks_first stay heard from [] whole units from n
      ∙ ap (λ tokens. tokens ++ toks stay heard from [] whole units (from + 1) n) (tok_heard stay heard from [] whole units from is)
      ∙ ap (λ tokens. map (token_of stay (from / stay.info.bn)) (parts_at units from) ++ tokens) (same_none stay heard from (from + 1) whole whole units (from + 1) n))
      ∙ begun_heard stay heard closed from n whole shown is all units (order refl) fit
  | inr gap ↦
      ap (hands stay.info.max_sdu stay.bis None) (toks_first stay heard from [] whole units from n
      ∙ ap (λ tokens. tokens ++ toks stay heard from [] whole units (from + 1) n) (tok_missing stay heard from [] whole units from gap)
      ∙ ap (λ tokens. missing ∷ tokens) (same_none stay heard from (from + 1) whole whole units (from + 1) n))
      ∙ begun_missed stay heard closed from n whole shown gap units (order refl) fit
]
more_shown stay heard closed n from all shown (octets ∷ []) whole run units rests order later last fits fit = grind (arith, cases_Bool, goes_heard, last_run, begun_heard, goes_missed, gap_run, toks, begun_missed)
more_shown stay heard closed n from all shown (octets ∷ next ∷ segments) whole run units rests order later last fits fit =
    let step : from + length (octets ∷ next ∷ segments) - 1 ≡ from + 1 + length (next ∷ segments) - 1 = omega arith in
    let order' : InOrder (from + 1 + length (next ∷ segments) - 1) closed units = subst (λ first. InOrder first closed units) step (later (omega arith)) in
    let longer : from + length (octets ∷ next ∷ segments) ≡ from + 1 + length (next ∷ segments) = omega arith in
    elim (cases_Bool (heard from)) [
      | inr gap ↦
          ap (hands stay.info.max_sdu stay.bis run) (goes_missed stay heard from n octets (next ∷ segments) whole units gap)
          ∙ gap_run stay heard closed from octets (next ∷ segments) whole run units (toks stay heard (from + 1) (next ∷ segments) whole units (from + 1) n) gap (omega arith)
          (goes_shown stay heard closed (from + 1) n whole None units next segments shown order'
          (λ part. ((last part (omega arith)).0, subst (λ end. closed ≤ end) longer (last part (omega arith)).1)) (λ r same. absurd (none-some r same)) fit)
      | inl is ↦ grind (arith, goes_heard, toks, and_right, none_here, more_run)
    ]

all_shown : (stay : Stay) (heard : ℕ → Bool) (closed n from : ℕ) → from + n ≡ closed → Shown stay heard closed from n
unfolding Shown
all_shown stay heard closed zero from all = grind (arith, toks_none, zero_shown)
all_shown stay heard closed (suc n) from all = λ segments whole run units rests order later last fits fit.
    more_shown stay heard closed n from all (all_shown stay heard closed n (from + 1) (omega arith)) segments whole run units rests order later last fits fit

-- from a number on at which a stay begins, inside a unit too
pub shown_from : (stay : Stay) (heard : ℕ → Bool) (closed n from : ℕ) → from + n ≡ closed → (segments : List (List ℕ)) (whole : Bool) (units : List Sent)
    → (segments ≡ [] → InOrder from closed units) → (1 ≤ length segments → InOrder (from + length segments - 1) closed units)
    → (whole ≡ false → 1 ≤ length segments → (units ≡ []) × (closed ≤ from + length segments)) → Fit stay.info.max_sdu units
    → hands stay.info.max_sdu stay.bis None (toks stay heard from segments whole units from n) ≡ flat_map (entry_of stay heard closed) units
unfolding Shown
shown_from stay heard closed n from all segments whole units order later last fit = grind (arith, all_shown, none-some)
