-- A payload that is at most H events ahead is in the window of its event.
use Rattle.std.proofs.Common.{◌≡◌, ℕ, ◌+◌, ◌*◌, ◌<◌, ◌≤◌, arith}
use Rattle.std.proofs.Math.Nat.{mul-le-mul_right}
use Rattle.big_info.specs.declared.info.BigInfo.{BigInfo}
use Rattle.big_info.specs.Schedule.{horizon_of}
use Rattle.radio_schedule.specs.PayloadNumber.{InWindow}

pub in_window : (info : BigInfo) (event ahead place number : ℕ) → ahead ≤ horizon_of info → place < info.bn
    → number ≡ (event + ahead) * info.bn + place → InWindow info event number
in_window info event ahead place number near within is =
    let least : event * info.bn ≤ (event + ahead) * info.bn = mul-le-mul_right info.bn (omega arith) in
    let past : (event + ahead + 1) * info.bn ≤ (event + horizon_of info + 1) * info.bn = mul-le-mul_right info.bn (omega arith) in
    record { least = omega arith; past = omega arith }
