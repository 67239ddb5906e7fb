-- A line of a first word, a space and the digit of a sink says its step in each version.
use Rattle.recurring_lines.proofs.Prelude.{◌≡◌, ◌≤◌, ◌+◌, ◌-◌, ℕ, zero, suc, true, List, [], ◌∷◌, ◌++◌, length, get_or, drop, None, Some, Ok, refl, ap, sym, ◌∙◌, subst, codes, arith, Step, add-one, Option, bytes_eq, take, IfSome, take-append-drop, drop_all, bytes_eq-Decides, Announce, Serve, Tell, Drain, Lose, is_in_range, IsInRange}
use Rattle.std.proofs.Math.Seq.{drop-cons}
use Rattle.std.specs.Fmt.{digits as numerals}
use Rattle.scenario_words.specs.Joined.{space}
use Rattle.scenario_words.specs.Reading.{decimal_in}
use Rattle.scenario_text.specs.Steps.{read_of, step_of}
use Rattle.recurring_lines.specs.SinkLines.{sink_line_step}
use Rattle.recurring_lines.specs.declared.sink_lines.SinkLine.{SinkLine}
use Rattle.scenario_text.specs.Table.{row_of, first_row_of, source_row_of, sink_row_of, link_row_of}

-- what holds of each sink
of_each_sink : (P : ℕ → Type 0) → P 0 → P 1 → P 2 → P 3 → P 4 → P 5 → P 6 → P 7 → (sink : ℕ) → sink ≤ 7 → P sink
of_each_sink P a b c d e f g h zero most = a
of_each_sink P a b c d e f g h (suc zero) most = b
of_each_sink P a b c d e f g h (suc (suc zero)) most = c
of_each_sink P a b c d e f g h (suc (suc (suc zero))) most = d
of_each_sink P a b c d e f g h (suc (suc (suc (suc zero)))) most = e
of_each_sink P a b c d e f g h (suc (suc (suc (suc (suc zero))))) most = f
of_each_sink P a b c d e f g h (suc (suc (suc (suc (suc (suc zero)))))) most = g
of_each_sink P a b c d e f g h (suc (suc (suc (suc (suc (suc (suc zero))))))) most = h
of_each_sink P a b c d e f g h (suc (suc (suc (suc (suc (suc (suc (suc n)))))))) most = absurd (omega (arith, most))

-- the line of this first word says the step of the sink
abbrev pub Says : List ℕ → (ℕ → Step) → ℕ → ℕ → Type 0
Says name build version sink = read_of version (name ++ space ∷ (48 + sink) ∷ []) ≡ Ok (Some (build sink))

-- a word that is this one says it as well
same_said : (name word : List ℕ) (build : ℕ → Step) (version sink : ℕ) → bytes_eq name word ≡ true → Says word build version sink → Says name build version sink
same_said name word build version sink is said = subst (λ first. Says first build version sink) (sym ((bytes_eq-Decides name word).0 is)) said

pub announces : (version sink : ℕ) (name : List ℕ) → bytes_eq name (codes "announce") ≡ true → sink ≤ 7 → Says name Announce version sink
unfolding read_of step_of row_of first_row_of source_row_of decimal_in numerals
announces version sink name is most = same_said name (codes "announce") Announce version sink is (of_each_sink (Says (codes "announce") Announce version) refl refl refl refl refl refl refl refl sink most)

pub serves : (version sink : ℕ) (name : List ℕ) → bytes_eq name (codes "serve") ≡ true → sink ≤ 7 → Says name Serve version sink
unfolding read_of step_of row_of first_row_of source_row_of sink_row_of link_row_of decimal_in numerals
serves version sink name is most = same_said name (codes "serve") Serve version sink is (of_each_sink (Says (codes "serve") Serve version) refl refl refl refl refl refl refl refl sink most)

pub tells : (version sink : ℕ) (name : List ℕ) → bytes_eq name (codes "tell") ≡ true → sink ≤ 7 → Says name Tell version sink
unfolding read_of step_of row_of first_row_of source_row_of sink_row_of link_row_of decimal_in numerals
tells version sink name is most = same_said name (codes "tell") Tell version sink is (of_each_sink (Says (codes "tell") Tell version) refl refl refl refl refl refl refl refl sink most)

pub drains : (version sink : ℕ) (name : List ℕ) → bytes_eq name (codes "drain") ≡ true → sink ≤ 7 → Says name Drain version sink
unfolding read_of step_of row_of first_row_of source_row_of sink_row_of link_row_of decimal_in numerals
drains version sink name is most = same_said name (codes "drain") Drain version sink is (of_each_sink (Says (codes "drain") Drain version) refl refl refl refl refl refl refl refl sink most)

pub loses : (version sink : ℕ) (name : List ℕ) → bytes_eq name (codes "lose") ≡ true → sink ≤ 7 → Says name Lose version sink
unfolding read_of step_of row_of first_row_of source_row_of sink_row_of link_row_of decimal_in numerals
loses version sink name is most = same_said name (codes "lose") Lose version sink is (of_each_sink (Says (codes "lose") Lose version) refl refl refl refl refl refl refl refl sink most)

-- ---- the whole line

whole : (line : List ℕ) (end digit : ℕ) → length line ≡ end + 2 → get_or line end 0 ≡ space → get_or line (end + 1) 0 ≡ digit → 48 ≤ digit
    → take end line ++ space ∷ (48 + (digit - 48)) ∷ [] ≡ line
whole line end digit count before is least =
    let first : drop end line ≡ get_or line end 0 ∷ drop (suc end) line = drop-cons line end 0 (omega arith) in
    let second : drop (suc end) line ≡ get_or line (suc end) 0 ∷ drop (suc (suc end)) line = drop-cons line (suc end) 0 (omega arith) in
    let none : drop (suc (suc end)) line ≡ [] = drop_all (suc (suc end)) line (omega arith) in
    let same : 48 + (digit - 48) ≡ digit = omega arith in
    let at = rw add-one at is in
    let both : drop end line ≡ space ∷ (48 + (digit - 48)) ∷ [] = cc in
    ap (λ rest. take end line ++ rest) (sym both) ∙ take-append-drop end line

pub of_whole : (line : List ℕ) (end digit : ℕ) (found : Option SinkLine) → length line ≡ end + 2 → get_or line end 0 ≡ space
    → get_or line (end + 1) 0 ≡ digit → 48 ≤ digit
    → IfSome found (λ said. (version : ℕ) → read_of version (take end line ++ space ∷ (48 + (digit - 48)) ∷ []) ≡ Ok (Some (sink_line_step said)))
    → IfSome found (λ said. (version : ℕ) → read_of version line ≡ Ok (Some (sink_line_step said)))
of_whole line end digit None count before is least h = tt
of_whole line end digit (Some said) count before is least h = λ version. ap (read_of version) (sym (whole line end digit count before is least)) ∙ h version

pub in_range : (line : List ℕ) (found : Option SinkLine) → IfSome found (λ said. (version : ℕ) → read_of version line ≡ Ok (Some (sink_line_step said)))
    → IfSome found (λ said. IsInRange (sink_line_step said))
in_range line None h = tt
in_range line (Some said) h = is_in_range 1 line (Ok (Some (sink_line_step said))) (h 1)
