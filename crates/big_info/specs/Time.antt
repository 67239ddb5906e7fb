-- The lengths of time that a group fixes, in µs (Core 5.2, volume 6 part B, section 4.4.6, and part G, section 3.2).
use Rattle.std.specs.Prelude.{ℕ, ◌+◌, ◌-◌, ◌*◌, ◌==◌, is_some, if◌then◌else◌}
use Rattle.big_info.specs.declared.info.BigInfo.{BigInfo}

-- ISO_Interval is in units of 1.25 ms
abbrev pub iso_us_of : BigInfo → ℕ
iso_us_of info = info.iso_interval * 1250

-- an encrypted PDU has a message integrity code of 4 octets
abbrev pub mic_octets : BigInfo → ℕ
mic_octets info = if is_some info.cipher then 4 else 0

-- MPT: the time that the longest PDU takes on the air, at 8 µs an octet on LE 1M and 4 µs on LE 2M
abbrev pub mpt_of : BigInfo → ℕ
mpt_of info = if info.phy == 0 then (info.max_pdu + mic_octets info + 10) * 8 else (info.max_pdu + mic_octets info + 11) * 4

-- BIG_Sync_Delay: from the anchor of an event to the end of the last PDU of its first copies
abbrev pub sync_delay_of : BigInfo → ℕ
sync_delay_of info = (info.num_bis - 1) * info.bis_spacing + (info.nse - 1) * info.sub_interval + mpt_of info
