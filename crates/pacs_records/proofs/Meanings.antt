-- Each test of a requirement means what the requirement says.
use Rattle.pacs_records.proofs.Prelude.{◌≡◌, ◌↔◌, ℕ, ◌-◌, ◌*◌, ◌≤◌, Bool, true, false, ◌&&◌, ◌||◌, eqb, bit_and, List, Option, refl, arith, not, nat_le, unwrap_or, IsSomeAnd, bit_at, bytes_eq, leb-true, le-leb, eqb-true, eq-eqb, ne_eqb, bytes_eq-Decides, Effective, Capability, NotTaken, Codec, Frequency, Duration, FrameOctets, Channels, FramesPerSdu, Location, Context, PacRecord, lc3, is_lc3, Has, caps_in, channel_count, HasFrequency, HasDuration, HasFrameOctets, HasChannels, HasFrames, IsPlaced, HasContext, Meets, present, has, frequency_met, duration_met, frame_octets_met, channels_met, frames_met, location_met, context_met}
use Rattle.ltv_codec.specs.declared.caps.Caps.{Caps}
use Rattle.ltv_codec.specs.declared.config.Config.{Config}
use Rattle.pacs_records.proofs.Bits.{share_means}

both_mean : (a b : Bool) (P Q : Type 0) → (a ≡ true) ↔ P → (b ≡ true) ↔ Q → ((a && b) ≡ true) ↔ (P × Q)
both_mean a b x3 x4 p q = grind arith

present_means : (value : Option ℕ) (test : ℕ → Bool) (P : ℕ → Type 0) → ((n : ℕ) → (test n ≡ true) ↔ P n) → (present value test ≡ true) ↔ IsSomeAnd value P
present_means value test x3 h = grind arith

at_most : (a b : ℕ) → (nat_le a b ≡ true) ↔ (a ≤ b)
at_most a b = (leb-true a b, le-leb a b)

has_means : (set k : ℕ) → (has set k ≡ true) ↔ Has set k
has_means set k = (eqb-true (bit_at set k) 1, eq-eqb (bit_at set k) 1)

three_mean : (a b c : Bool) (P Q R : Type 0) → (a ≡ true) ↔ P → (b ≡ true) ↔ Q → (c ≡ true) ↔ R → ((a && (b && c)) ≡ true) ↔ (P × Q × R)
three_mean a b c x4 x5 x6 p q r = grind arith

frequency_means : (config : Config) (caps : Caps) → (frequency_met config caps ≡ true) ↔ HasFrequency config caps
frequency_means config caps =
    present_means config.frequency (λ code. present caps.frequencies (λ set. nat_le 1 code && (nat_le code 16 && has set (code - 1))))
    (λ code. IsSomeAnd caps.frequencies (λ set. (1 ≤ code) × (code ≤ 16) × Has set (code - 1)))
    (grind (arith, present_means, nat_le, has, three_mean, at_most, has_means))

duration_means : (config : Config) (caps : Caps) → (duration_met config caps ≡ true) ↔ HasDuration config caps
duration_means config caps = grind (arith, present_means, present, nat_le, has, both_mean, at_most, has_means)

frame_octets_mean : (config : Config) (caps : Caps) → (frame_octets_met config caps ≡ true) ↔ HasFrameOctets config caps
frame_octets_mean config caps =
    present_means config.frame_octets (λ octets. present caps.least (λ least. present caps.greatest (λ greatest. nat_le least octets && nat_le octets greatest)))
    (λ octets. IsSomeAnd caps.least (λ least. IsSomeAnd caps.greatest (λ greatest. (least ≤ octets) × (octets ≤ greatest))))
    (grind (arith, present_means, present, nat_le, both_mean, at_most))

channels_mean : (config : Config) (caps : Caps) → (channels_met config caps ≡ true) ↔ HasChannels config caps
channels_mean config caps = grind (arith, both_mean, nat_le, channel_count, has, unwrap_or, at_most, has_means)

frames_mean : (config : Config) (caps : Caps) → (frames_met config caps ≡ true) ↔ HasFrames config caps
frames_mean config caps = at_most (unwrap_or config.blocks 1 * channel_count config.allocation) (unwrap_or caps.frames (channel_count config.allocation))

location_means : (config : Config) (locations : ℕ) → (location_met config locations ≡ true) ↔ IsPlaced config locations
location_means config locations = grind (arith, eqb, ne_eqb, unwrap_or, not, bit_and, share_means)

context_means : (contexts : Option ℕ) (available : ℕ) → (context_met contexts available ≡ true) ↔ HasContext contexts available
context_means contexts available = share_means (unwrap_or contexts 1) available

-- ---- all of them

-- the test of each requirement, which counts for LC3 alone but for the first
abbrev pub met : PacRecord → Capability → Effective → NotTaken → Bool
met entry capability effective Codec = bytes_eq entry.codec effective.codec
met entry capability effective Frequency = not (is_lc3 effective.codec) || frequency_met effective.config (caps_in entry.caps)
met entry capability effective Duration = not (is_lc3 effective.codec) || duration_met effective.config (caps_in entry.caps)
met entry capability effective FrameOctets = not (is_lc3 effective.codec) || frame_octets_met effective.config (caps_in entry.caps)
met entry capability effective Channels = not (is_lc3 effective.codec) || channels_met effective.config (caps_in entry.caps)
met entry capability effective FramesPerSdu = not (is_lc3 effective.codec) || frames_met effective.config (caps_in entry.caps)
met entry capability effective Location = not (is_lc3 effective.codec) || location_met effective.config capability.locations
met entry capability effective Context = not (is_lc3 effective.codec) || context_met effective.contexts capability.contexts

for_lc3 : (codec : List ℕ) (b : Bool) (P : Type 0) → (b ≡ true) ↔ P → ((not (is_lc3 codec) || b) ≡ true) ↔ (codec ≡ lc3 → P)
for_lc3 codec b P h = by_test (is_lc3 codec) refl
  where
    by_test : (t : Bool) → is_lc3 codec ≡ t → ((not t || b) ≡ true) ↔ (codec ≡ lc3 → P)
    by_test true e = (λ x _. h.0 x, λ f. h.1 (f ((bytes_eq-Decides codec lc3).0 e)))
    by_test false e = (λ _ same. absurd (differ same), λ _. refl)
      where
        differ : codec ≡ lc3 → ⊥
        differ same =
            let yes : is_lc3 codec ≡ true = (bytes_eq-Decides codec lc3).1 same in
            cc

pub met_means : (entry : PacRecord) (capability : Capability) (effective : Effective) (reason : NotTaken) → (met entry capability effective reason ≡ true) ↔ Meets reason entry capability effective
met_means entry capability effective Codec = bytes_eq-Decides entry.codec effective.codec
met_means entry capability effective Frequency =
    for_lc3 effective.codec (frequency_met effective.config (caps_in entry.caps)) (HasFrequency effective.config (caps_in entry.caps)) (frequency_means effective.config (caps_in entry.caps))
met_means entry capability effective Duration =
    for_lc3 effective.codec (duration_met effective.config (caps_in entry.caps)) (HasDuration effective.config (caps_in entry.caps)) (duration_means effective.config (caps_in entry.caps))
met_means entry capability effective FrameOctets =
    for_lc3 effective.codec (frame_octets_met effective.config (caps_in entry.caps)) (HasFrameOctets effective.config (caps_in entry.caps)) (frame_octets_mean effective.config (caps_in entry.caps))
met_means entry capability effective Channels =
    for_lc3 effective.codec (channels_met effective.config (caps_in entry.caps)) (HasChannels effective.config (caps_in entry.caps)) (channels_mean effective.config (caps_in entry.caps))
met_means entry capability effective FramesPerSdu =
    for_lc3 effective.codec (frames_met effective.config (caps_in entry.caps)) (HasFrames effective.config (caps_in entry.caps)) (frames_mean effective.config (caps_in entry.caps))
met_means entry capability effective Location =
    for_lc3 effective.codec (location_met effective.config capability.locations) (IsPlaced effective.config capability.locations) (location_means effective.config capability.locations)
met_means entry capability effective Context =
    for_lc3 effective.codec (context_met effective.contexts capability.contexts) (HasContext effective.contexts capability.contexts) (context_means effective.contexts capability.contexts)
