-- What a word of digits spells is octets, and so is what an operation of such octets spells.
use Rattle.scenario_text.proofs.Prelude.{◌≤◌, ◌<◌, ◌≡◌, ℕ, zero, suc, ◌/◌, ◌%◌, List, [], ◌∷◌, ◌++◌, length, Ok, arith, flat_map, AllByRecursion, laid, IsOctets, subgroup_fields, Wish, AddSource, ModifySource, Add, Modify, MetadataFits, group_of, encoding, SpellsOctets, SpellsWishes}
use Rattle.hex.specs.Hex.{decode_of}
use Rattle.hex.proofs.HexLemmas.{decode_of-ok}
use Rattle.bcast_base.specs.Encoding.{number}

-- each metadata is octets
abbrev pub AreOctets : List Wish → Type 0
AreOctets wishes = AllByRecursion (λ wish. IsOctets wish.metadata) wishes

pub nil_octets : IsOctets []
nil_octets i = omega arith

pub cons_octets : (first : ℕ) (rest : List ℕ) → first < 256 → IsOctets rest → IsOctets (first ∷ rest)
cons_octets first rest h hs x5 = grind arith

append_octets : (prefix rest : List ℕ) → IsOctets prefix → IsOctets rest → IsOctets (prefix ++ rest)
append_octets [] rest h hs = hs
append_octets (first ∷ prefix) rest h hs = cons_octets first (prefix ++ rest) (h 0) (append_octets prefix rest (λ i. h (suc i)) hs)

number_octets : (k value : ℕ) → IsOctets (number k value)
unfolding number
number_octets zero value = nil_octets
number_octets (suc k) value = cons_octets (value % 256) (number k (value / 256)) (omega arith) (number_octets k (value / 256))

-- ---- what words spell

pub decoded : (word octets : List ℕ) → decode_of word ≡ Ok octets → IsOctets octets
decoded word octets e = (decode_of-ok word octets e).3

pub are_octets : (most : ℕ) (octets word : List ℕ) → SpellsOctets most octets word → IsOctets octets
are_octets most octets word h = grind (arith, nil_octets, decoded)

pub few_octets : (most : ℕ) (octets word : List ℕ) → SpellsOctets most octets word → length octets ≤ most
few_octets most octets word h = grind arith

pub wishes_spelled : (all : List Wish) (words : List (List ℕ)) → SpellsWishes all words → MetadataFits all × AreOctets all
wishes_spelled (wish ∷ others) (bits ∷ metadata ∷ words) h =
    let rest = wishes_spelled others words h.2 in
    ((few_octets 255 wish.metadata metadata h.1, rest.0), (are_octets 255 wish.metadata metadata h.1, rest.1))
wishes_spelled all words h = search (few_octets, are_octets)

-- ---- what operations spell

groups_octets : (wishes : List Wish) → MetadataFits wishes → AreOctets wishes → IsOctets (laid (flat_map (λ wish. subgroup_fields (group_of wish)) wishes))
groups_octets [] fits are = nil_octets
groups_octets (wish ∷ wishes) fits are =
    let all = laid (flat_map (λ w. subgroup_fields (group_of w)) wishes) in
    let rest = groups_octets wishes fits.1 are.1 in
    let metadata = append_octets wish.metadata all are.0 rest in
    let counted = cons_octets (length wish.metadata) (wish.metadata ++ all) (omega (arith, fits.0)) metadata in
    append_octets (number 4 wish.bis_sync) (length wish.metadata ∷ (wish.metadata ++ all)) (number_octets 4 wish.bis_sync) counted

-- PA_Interval, and the subgroups
ends_octets : (interval : ℕ) (wishes : List Wish) → length wishes ≤ 31 → MetadataFits wishes → AreOctets wishes
    → IsOctets (number 2 interval ++ length wishes ∷ laid (flat_map (λ wish. subgroup_fields (group_of wish)) wishes))
ends_octets interval wishes few fits are =
    grind (arith, laid, flat_map, subgroup_fields, group_of, append_octets, length, number_octets, cons_octets, groups_octets)

-- the fields of one octet
pub record AddOctets (op : AddSource) : Type 0 where
  pub address_type : op.address_type < 256
  pub address : IsOctets op.address
  pub sid : op.sid < 256
  pub broadcast_id : IsOctets op.broadcast_id
  pub pa_sync : op.pa_sync < 256
  pub few : length op.wishes ≤ 31
  pub fits : MetadataFits op.wishes
  pub are : AreOctets op.wishes

pub add_octets : (op : AddSource) → AddOctets op → IsOctets (encoding (Add op))
add_octets op are = grind (arith, length, laid, flat_map, subgroup_fields, group_of, cons_octets, ends_octets, append_octets)

pub modify_octets : (op : ModifySource) → op.source_id < 256 → op.pa_sync < 256 → length op.wishes ≤ 31 → MetadataFits op.wishes → AreOctets op.wishes → IsOctets (encoding (Modify op))
modify_octets op source_id pa_sync few fits are = grind (arith, length, laid, flat_map, subgroup_fields, group_of, cons_octets, ends_octets)
