-- How a sink is synchronized to a BIG: its streams, the first event, that event's anchor in µs, and Presentation_Delay in µs (Basic
-- Audio Profile 1.0, section 6.5; Core 5.2, volume 6 part B, section 4.4.6.11).
use Rattle.std.specs.Prelude.{ℕ}
use Rattle.big_info.specs.declared.info.BigInfo.{BigInfo}

-- bit n of `which` stands for the stream of index n + 1
pub record BigSync : Type 0 where
  pub info : BigInfo
  pub which : ℕ
  pub first : ℕ
  pub anchor : ℕ
  pub delay : ℕ
