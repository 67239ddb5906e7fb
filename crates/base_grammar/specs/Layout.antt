-- The BASE (Basic Audio Profile 1.0, section 3.7.2.2): the octets are the concatenation of Presentation_Delay,
-- Num_Subgroups and the subgroups. A subgroup is Num_BIS, Codec_ID, its configuration and its metadata, each of the two
-- behind its length, and then its entries: BIS_index and the entry's configuration behind its length.
use Rattle.std.specs.Prelude.{ℕ, ◌<◌, ◌≤◌, ◌^◌, ◌≡◌, ◌==◌, Bool, false, IsTrue, List, [], ◌∷◌, ◌++◌, length, map}
use Rattle.std.specs.List.{flat_map, list_any, AllByRecursion}
use Rattle.std.specs.Str.{bytes_eq}
use Rattle.bcast_base.specs.Encoding.{number, counted}
use Rattle.ltv_codec.specs.Layout.{AreLtvs}
use Rattle.base_grammar.specs.declared.subgroup.BaseEntry.{BaseEntry}
use Rattle.base_grammar.specs.declared.subgroup.Subgroup.{Subgroup}

-- a BASE without where it lies in memory
pub record Endpoint : Type 0 where
  pub delay : ℕ
  pub subgroups : List Subgroup

abbrev pub endpoint : ℕ → List Subgroup → Endpoint
endpoint delay subgroups = record { delay = delay; subgroups = subgroups }

-- the Codec_ID of LC3: coding format 6, no company, no codec of its own
abbrev pub lc3 : List ℕ
lc3 = 6 ∷ 0 ∷ 0 ∷ 0 ∷ 0 ∷ []

abbrev pub is_lc3 : List ℕ → Bool
is_lc3 codec = bytes_eq codec lc3

-- ---- the encoding

abbrev pub entry : BaseEntry → List ℕ
entry e = e.bis ∷ counted e.config

abbrev pub subgroup : Subgroup → List ℕ
subgroup s = length s.entries ∷ (s.codec ++ (counted s.config ++ (counted s.metadata ++ flat_map entry s.entries)))

abbrev pub encoding : Endpoint → List ℕ
encoding v = number 3 v.delay ++ (length v.subgroups ∷ flat_map subgroup v.subgroups)

-- ---- the rows that the fields have to meet

abbrev pub bis_of : BaseEntry → ℕ
bis_of e = e.bis

abbrev pub indices : List Subgroup → List ℕ
indices subgroups = flat_map (λ s. map bis_of s.entries) subgroups

abbrev pub stands_in : List ℕ → ℕ → Bool
stands_in before bis = list_any (λ b. b == bis) before

-- none of the indices stands before, neither among the first ones nor among the indices themselves
abbrev pub AreNew : List ℕ → List ℕ → Type 0
AreNew before [] = Unit {0}
AreNew before (bis ∷ others) = (stands_in before bis ≡ false) × AreNew (before ++ bis ∷ []) others

-- a configuration of LC3 is an LTV list, any other is carried unread
abbrev pub IsConfig : Bool → List ℕ → Type 0
IsConfig is_list octets = IsTrue is_list → AreLtvs octets

pub record EntryFits (is_list : Bool) (e : BaseEntry) : Type 0 where
  pub least : 1 ≤ e.bis
  pub greatest : e.bis ≤ 31
  pub config : IsConfig is_list e.config

pub record SubgroupFits (s : Subgroup) : Type 0 where
  pub codec : length s.codec ≡ 5
  pub config : IsConfig (is_lc3 s.codec) s.config
  pub metadata : AreLtvs s.metadata
  pub entries : AllByRecursion (EntryFits (is_lc3 s.codec)) s.entries

abbrev pub HasCodec : Subgroup → Type 0
HasCodec s = length s.codec ≡ 5

abbrev pub HasEntry : Subgroup → Type 0
HasEntry s = 1 ≤ length s.entries

-- each field meets its row, and there are at most 252 octets
pub record IsBase (v : Endpoint) : Type 0 where
  pub delay : v.delay < 2 ^ 24
  pub some : 1 ≤ length v.subgroups
  pub streams : AllByRecursion HasEntry v.subgroups
  pub fits : AllByRecursion SubgroupFits v.subgroups
  pub once : AreNew [] (indices v.subgroups)
  pub small : length (encoding v) ≤ 252

-- the octets are this BASE
pub record BaseIs (v : Endpoint) (octets : List ℕ) : Type 0 where
  pub base : IsBase v
  pub encoded : octets ≡ encoding v
