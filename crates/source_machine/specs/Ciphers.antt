-- A source may have an encrypted group (Core 5.2, volume 6 part B, section 4.4.6.11), which it announces. It sends no units
-- of it.
use Rattle.std.specs.Prelude.{ℕ, ◌≡◌, Option, Some, None}
use Rattle.big_info.specs.declared.fault.GroupFault.{GroupFault}
use Rattle.big_info.specs.declared.fault.GroupFault.TheVariants.{Encrypted}
use Rattle.big_info.specs.declared.info.BigInfo.{BigInfo}
use Rattle.big_info.specs.declared.info.Cipher.{Cipher}
use Rattle.big_info.specs.Rows.{first_fault}

abbrev pub without_cipher : BigInfo → BigInfo
without_cipher info = record info { cipher = None }

abbrev pub with_cipher : BigInfo → Option Cipher → BigInfo
with_cipher info cipher = record info { cipher = cipher }

-- no row of the group check holds but that of a cipher
abbrev pub MayBeSent : ℕ → BigInfo → Type 0
MayBeSent horizon info = (fault : GroupFault) → first_fault horizon info ≡ Some fault → fault ≡ Encrypted

-- this row is the first that holds, and not that of a cipher
pub record IsBadFor (horizon : ℕ) (info : BigInfo) (fault : GroupFault) : Type 0 where
  pub first : first_fault horizon info ≡ Some fault
  pub other : fault ≡ Encrypted → ⊥
