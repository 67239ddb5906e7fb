-- A line that is one of the lines of a sink.
use Rattle.scenario_sink.proofs.Prelude.{ℕ, ◌≡◌, List, [], ◌∷◌, None, Result, refl, sym, subst, Source, printed_of, refused_by, LinkedSink, LineMakes, Quietly, SinkHistory, after_line, asked, stayed, Stop, arith, Add, Modify, Remove, Code}
use Rattle.scenario_text.specs.declared.step.Step.{Step}
use Rattle.scenario_sink.specs.Making.{Takes}
use Rattle.scenario_sink.specs.Operates.{Operates}
use Rattle.scenario_sink.proofs.Printing.{nothing_put}

-- the line is this one, which prints nothing

pub does_so : (source : Source) (given said : Step) (history : SinkHistory) (text : List ℕ) (new : LinkedSink) (result : Result (Unit {0}) Stop) → given ≡ said
    → printed_of source said history.made history.calls_made ≡ []
    → Quietly (refused_by said history.made history.calls_made) (Takes said []) history (after_line source said history) new result → LineMakes source given history text text new result
does_so source given said history text new result is quiet does = grind (arith, refused_by, after_line, nothing_put)

-- the line is this one
pub makes_so : (source : Source) (given said : Step) (history : SinkHistory) (text told : List ℕ) (new : LinkedSink) (result : Result (Unit {0}) Stop) → given ≡ said
    → LineMakes source said history text told new result → LineMakes source given history text told new result
makes_so source given said history text told new result is makes = subst (λ other. LineMakes source other history text told new result) (sym is) makes

-- the line says the operation of these octets
pub operated : (source : Source) (step : Step) (octets : List ℕ) (history : SinkHistory) (text : List ℕ) (new : LinkedSink) (result : Result (Unit {0}) Stop)
    → Operates step octets → Quietly None (Unit {0}) history (stayed (asked 0 octets ∷ history.calls_made) history) new result → LineMakes source step history text text new result
operated source (Add sink op) octets history text new result is quiet =
    let P : List ℕ → Type 0 = λ written. Quietly None (Unit {0}) history (stayed (asked 0 written ∷ history.calls_made) history) new result in
    does_so source (Add sink op) (Add sink op) history text new result refl refl (subst P is quiet)
operated source (Modify sink op) octets history text new result is quiet =
    let P : List ℕ → Type 0 = λ written. Quietly None (Unit {0}) history (stayed (asked 0 written ∷ history.calls_made) history) new result in
    does_so source (Modify sink op) (Modify sink op) history text new result refl refl (subst P is quiet)
operated source (Remove sink id) octets history text new result is quiet =
    let P : List ℕ → Type 0 = λ written. Quietly None (Unit {0}) history (stayed (asked 0 written ∷ history.calls_made) history) new result in
    does_so source (Remove sink id) (Remove sink id) history text new result refl refl (subst P is quiet)
operated source (Code sink id code) octets history text new result is quiet =
    let P : List ℕ → Type 0 = λ written. Quietly None (Unit {0}) history (stayed (asked 0 written ∷ history.calls_made) history) new result in
    does_so source (Code sink id code) (Code sink id code) history text new result refl refl (subst P is quiet)
operated source this octets history text new result is quiet = grind arith
