-- A step that none of the arms for some of a sink's lines took is one of the others, or none.
use Rattle.scenario_sink.proofs.Prelude.{ℕ, ◌≡◌, List, arith, Assist, Apart, AWrite, AServe, ATell, ARead, ADrain, AShow, Add, Modify, Remove, Code}
use Rattle.bass_operations.specs.declared.operation.AddSource.{AddSource}
use Rattle.bass_operations.specs.declared.operation.ModifySource.{ModifySource}
use Rattle.scenario_text.specs.declared.step.Step.{Step}
use Rattle.scenario_text.specs.declared.step.Step.TheVariants.{Pac, Locate, Context, Train, Write, Serve, Tell, Read, Drain, Show, Lose, Control, Forge}
use Rattle.scenario_sink.specs.SinkLines.{IsLent, IsLinkLine, IsSinkLine}

pub record KeepsNothing (step : Step) : Type 0 where
  pub pac : (sink : ℕ) (codec caps metadata : List ℕ) → step ≡ Pac sink codec caps metadata → ⊥
  pub write : (sink : ℕ) (octets : List ℕ) → step ≡ Write sink octets → ⊥
  pub awrite : (sink link : ℕ) (octets : List ℕ) → step ≡ AWrite sink link octets → ⊥
  pub add : (sink : ℕ) (op : AddSource) → step ≡ Add sink op → ⊥
  pub modify : (sink : ℕ) (op : ModifySource) → step ≡ Modify sink op → ⊥

pub of_lent : (step : Step) → KeepsNothing step → IsLent step
of_lent _ other = grind arith

pub record IsOther (step : Step) : Type 0 where
  pub locate : (sink bits : ℕ) → step ≡ Locate sink bits → ⊥
  pub context : (sink sink_bits source_bits : ℕ) → step ≡ Context sink sink_bits source_bits → ⊥
  pub train : (sink time : ℕ) (ext adv acad : List ℕ) → step ≡ Train sink time ext adv acad → ⊥
  pub remove : (sink source_id : ℕ) → step ≡ Remove sink source_id → ⊥
  pub code : (sink source_id : ℕ) (code : List ℕ) → step ≡ Code sink source_id code → ⊥
  pub show : (sink : ℕ) → step ≡ Show sink → ⊥
  pub lose : (sink : ℕ) → step ≡ Lose sink → ⊥
  pub control : (sink : ℕ) (octets : List ℕ) → step ≡ Control sink octets → ⊥
  pub forge : (sink slot : ℕ) (octets : List ℕ) → step ≡ Forge sink slot octets → ⊥
  pub assist : (sink link : ℕ) → step ≡ Assist sink link → ⊥
  pub apart : (sink link : ℕ) → step ≡ Apart sink link → ⊥

pub of_link : (step : Step) → IsOther step → IsSinkLine step → IsLent step → IsLinkLine step
of_link _ other is lent = grind arith

pub record IsOffLinks (step : Step) : Type 0 where
  pub serve : (sink : ℕ) → step ≡ Serve sink → ⊥
  pub tell : (sink : ℕ) → step ≡ Tell sink → ⊥
  pub read : (sink : ℕ) → step ≡ Read sink → ⊥
  pub drain : (sink : ℕ) → step ≡ Drain sink → ⊥
  pub aserve : (sink link : ℕ) → step ≡ AServe sink link → ⊥
  pub atell : (sink link : ℕ) → step ≡ ATell sink link → ⊥
  pub aread : (sink link : ℕ) → step ≡ ARead sink link → ⊥
  pub adrain : (sink link : ℕ) → step ≡ ADrain sink link → ⊥
  pub ashow : (sink link : ℕ) → step ≡ AShow sink link → ⊥

pub no_link_line : (step : Step) → IsOffLinks step → IsLinkLine step → ⊥
no_link_line _ other is = grind arith
