-- What a source is configured with, and what fixes it once it was started: its identity (Basic Audio Profile 1.0, section
-- 3.7.2), and its group (Core 5.2, volume 6 part B, section 4.4.6).
use Rattle.std.specs.Prelude.{ℕ, ◌≤◌, ◌==◌, ◌&&◌, Bool, bytes_eq, Option}
use Rattle.base_grammar.specs.Layout.{Endpoint}
use Rattle.big_info.specs.Bounds.{Bounds}
use Rattle.big_info.specs.declared.info.BigInfo.{BigInfo}
use Rattle.big_info.specs.declared.info.Cipher.{Cipher}
use Rattle.source_machine.specs.Calls.{Setup}
use Rattle.source_machine.specs.Ciphers.{without_cipher}
use Rattle.source_machine.specs.declared.setup.Identity.{Identity}
use Rattle.source_machine.specs.declared.setup.Setup.{Setup as Given}

-- two sources are the same to their receivers, whatever their addresses (Basic Audio Profile 1.0, section 3.7.2)
unfoldable pub are_twins : Identity → Identity → Bool
are_twins one other = (one.address_type == other.address_type) && (one.sid == other.sid) && bytes_eq one.broadcast_id other.broadcast_id

-- what a source that has a group keeps: who it is, its group without its cipher, the cipher, its BASE, the anchor of its
-- first event in µs, and whether the time of a framed unit may be past the next anchor
pub record Configured : Type 0 where
  pub identity : Identity
  pub info : BigInfo
  pub cipher : Option Cipher
  pub base : Endpoint
  pub origin : ℕ
  pub ahead : Bool

-- a source that was given this setup
abbrev pub configured : Given → Bool → Configured
configured setup ahead = record {
  identity = setup.identity;
  info = without_cipher setup.info;
  cipher = setup.info.cipher;
  base = setup.base;
  origin = setup.origin;
  ahead = ahead;
}

-- a configured source whose first event this is
abbrev pub started : Configured → ℕ → Setup
started source first =
    record { info = source.info; origin = source.origin; delay = source.base.delay; first = first; ahead = source.ahead }

-- what every group that passed the group check keeps to
pub record IsChecked (info : BigInfo) : Type 0 where
  pub bounds : Bounds info
  pub framing : info.framing ≤ 1
