-- What a step that both lists of steps have prints of the sink, of its assistants and of the source.
use Rattle.scenario_laws.proofs.Known.Sources.{ℕ, zero, suc, ◌≡◌, ◌∙◌, List, ◌++◌, length, map, Option, refl, ap, arith, codes, decimal, option_map, slice_get, range_with_len, Settings, state_at, value, writes_waiting, served_out, notified_out, language, notices_waiting, reads_waiting, view_of, Step, Label, reply_line, value_line, Source, drain_lines, if_there, printed_where, read_line, read_lines, replied, serve_line, serve_lines, stated, tell_line, tell_lines, view_lines, was_read, ◌==◌, not, false, concat, eqb-true, not-false, Airs, calls_made, source_at, made_of, lines_by, is_other, sink_in, LinkCall as Call, Alike, notices_same, reads_same, repeats, served_grow, told_grow, waiting_same, Sourced, HistoriesAlike, Same, both_alike}
use Rattle.scenario_laws.proofs.Isolating.Kept.{Means, chosen_closing, sourced}

-- ---- one call on a link

pub replied_same : (made : Settings) (link : ℕ) (a b : List Call) → Alike made.setup made.mtu a b
    → replied made link a ≡ replied made link b
replied_same made link a b same = cc (same.snapshot, waiting_same made.setup made.mtu link a b same)

read_same : (made : Settings) (link : ℕ) (a b : List Call) → Alike made.setup made.mtu a b → was_read made link a ≡ was_read made link b
read_same made link a b same = grind (arith, option_map, value, state_at, slice_get, reads_waiting, stated, reads_same)

serve_same : (label : Label) (made : Settings) (link : ℕ) (a b : List Call) → Alike made.setup made.mtu a b
    → serve_line label made link a ≡ serve_line label made link b
serve_same label made link a b same = ap (if_there (reply_line label)) (replied_same made link a b same)

tell_same : (label : Label) (made : Settings) (link : ℕ) (a b : List Call) → Alike made.setup made.mtu a b
    → tell_line label made link a ≡ tell_line label made link b
tell_same label made link a b same = grind (arith, if_there, value_line, notices_same)

read_line_same : (label : Label) (made : Settings) (link : ℕ) (a b : List Call) → Alike made.setup made.mtu a b
    → read_line label made link a ≡ read_line label made link b
read_line_same label made link a b same = ap (if_there (value_line label.read label.numbers)) (read_same made link a b same)

-- ---- a drain

pub append_same : {A : Type 0} (xs ys xs' ys' : List A) → xs ≡ xs' → ys ≡ ys' → xs ++ ys ≡ xs' ++ ys'
append_same xs ys xs' ys' first rest = ap (λ ls. ls ++ ys) first ∙ ap (λ ls. xs' ++ ls) rest

serves_same : (label : Label) (made : Settings) (link count : ℕ) (a b : List Call) → Alike made.setup made.mtu a b
    → serve_lines label made link count a ≡ serve_lines label made link count b
serves_same label made link zero a b same = refl
serves_same label made link (suc count) a b same = search (append_same, serve_same, repeats, serves_same label made link count a b same)

tells_same : (label : Label) (made : Settings) (link count : ℕ) (a b : List Call) → Alike made.setup made.mtu a b
    → tell_lines label made link count a ≡ tell_lines label made link count b
tells_same label made link zero a b same = refl
tells_same label made link (suc count) a b same = search (append_same, tell_same, repeats, tells_same label made link count a b same)

reads_lines_same : (label : Label) (made : Settings) (link count : ℕ) (a b : List Call) → Alike made.setup made.mtu a b
    → read_lines label made link count a ≡ read_lines label made link count b
reads_lines_same label made link zero a b same = refl
reads_lines_same label made link (suc count) a b same =
    search (append_same, read_line_same, repeats, reads_lines_same label made link count a b same)

drain_same : (label : Label) (made : Settings) (link : ℕ) (a b : List Call) → Alike made.setup made.mtu a b
    → drain_lines label made link a ≡ drain_lines label made link b
drain_same label made link a b same =
    let served : Alike made.setup made.mtu (served_out link a) (served_out link b) = served_grow made.setup made.mtu link a b same in
    let sa : List Call = served_out link a in
    let sb : List Call = served_out link b in
    let told : Alike made.setup made.mtu (notified_out made.setup made.mtu link sa)
    (notified_out made.setup made.mtu link sb) = told_grow made.setup made.mtu link sa sb served in
    let ta : List Call = notified_out made.setup made.mtu link sa in
    let tb : List Call = notified_out made.setup made.mtu link sb in
    append_same (serve_lines label made link (length (writes_waiting link a)) a ++ tell_lines label made link
    (length (notices_waiting made.setup made.mtu link sa)) sa)
    (read_lines label made link (length (reads_waiting made.setup made.mtu link ta)) ta)
    (serve_lines label made link (length (writes_waiting link b)) b ++ tell_lines label made link
    (length (notices_waiting made.setup made.mtu link sb)) sb)
    (read_lines label made link (length (reads_waiting made.setup made.mtu link tb)) tb)
    (grind (arith, append_same, serve_lines, length, writes_waiting, tell_lines, notices_waiting, waiting_same, serves_same, notices_same, tells_same))
    (grind (arith, read_lines, length, reads_same, reads_lines_same, reads_waiting))

-- ---- states and views

views_same : (sink link : ℕ) (made : Settings) (a b : List Call) → Alike made.setup made.mtu a b
    → view_lines sink link made a ≡ view_lines sink link made b
views_same sink link made a b same = grind (arith, map, value_line, codes, decimal, value, view_of, language, range_with_len)

-- ---- trains

-- ---- what a line prints that names the sink

pub printed_same : (line : Step) (source source' : Source) (made made' : Option Settings) (a b : List Call) → Sourced line source source'
    → made ≡ made' → HistoriesAlike made a b → printed_where source line made a ≡ printed_where source' line made' b
printed_same line source source' made made' a b sourced sinks_same same =
    grind (arith, serve_same, tell_same, read_line_same, drain_same, views_same)

-- ---- what a step prints that is kept: the same over both lists of steps

-- a step that names no other sink names this one
this_one : (sink n : ℕ) → not (sink == n) ≡ false → sink ≡ n
this_one sink n is = eqb-true sink n (not-false (sink == n) is)

-- ---- units

-- ---- lines of the sink

named_same : (airs : Airs) (s n sink : ℕ) (line : Step) (made others : List Step) → not (sink == n) ≡ false → Means s made line
    → Same airs s n made others → concat (printed_where (source_at made) line (made_of sink made) (calls_made sink made))
    ≡ concat (printed_where (source_at others) line (made_of sink others) (calls_made sink others))
named_same airs s n sink line made others this means same =
    grind (arith, this_one, concat, printed_where, source_at, made_of, calls_made, printed_same, sourced)

-- ---- all of them

pub lines_same : (airs : Airs) (s n : ℕ) (step : Step) (made others : List Step) → is_other n (sink_in step) ≡ false → Means s made step
    → Same airs s n made others → lines_by airs n made step ≡ lines_by airs n others step
lines_same airs s n last made others this means same = grind (arith, chosen_closing, both_alike, this_one, named_same)
