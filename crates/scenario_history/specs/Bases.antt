-- The BASE of a source (Basic Audio Profile 1.0, section 3.7.2.2), of what its lines say. The steps here are those of one
-- source, the newest first.
use Rattle.std.specs.Prelude.{ℕ, nat_lt, is_some, Bool, List, [], ◌∷◌, length, unwrap_or}
use Rattle.base_grammar.specs.Draft.{is_empty_last, last_of}
use Rattle.base_grammar.specs.Layout.{Endpoint, endpoint, indices, encoding, stands_in}
use Rattle.base_grammar.specs.declared.subgroup.Subgroup.{Subgroup}
use Rattle.announcement_train.specs.BaseLines.{BaseLine, opens, describes, adds, subgroups_in}
use Rattle.announcement_train.specs.PlainBase.{plain_base_of}
use Rattle.scenario_text.specs.declared.step.Step.{Step}
use Rattle.scenario_text.specs.declared.step.Step.TheVariants.{Subgroup as SubgroupLine, Meta, Bis}
use Rattle.scenario_history.specs.Source.{GroupLine, group_of, no_group}

abbrev pub with_base_line : Step → List BaseLine → List BaseLine
with_base_line (SubgroupLine codec config) lines = opens codec config ∷ lines
with_base_line (Meta metadata) lines = describes metadata ∷ lines
with_base_line (Bis bis config) lines = adds bis config ∷ lines
with_base_line _ lines = lines

abbrev pub base_lines : List Step → List BaseLine
base_lines [] = []
base_lines (step ∷ earlier) = with_base_line step (base_lines earlier)

abbrev pub subgroups_of : List Step → List Subgroup
subgroups_of steps = subgroups_in (base_lines steps)

abbrev pub has_subgroup : List Step → Bool
has_subgroup steps = is_some (last_of (subgroups_of steps))

abbrev pub is_last_bare : List Step → Bool
is_last_bare steps = is_empty_last (last_of (subgroups_of steps))

abbrev pub has_bis : List Step → ℕ → Bool
has_bis steps bis = stands_in (indices (subgroups_of steps)) bis

-- without a `subgroup` line the BASE has one subgroup of LC3, and an entry with nothing configured for each stream
abbrev pub base_from : GroupLine → List Subgroup → Endpoint
base_from group [] = plain_base_of group.delay group.info.num_bis
base_from group (subgroup ∷ others) = endpoint group.delay (subgroup ∷ others)

abbrev pub base_of : List Step → Endpoint
base_of steps = base_from (unwrap_or (group_of steps) no_group) (subgroups_of steps)

abbrev pub is_base_too_long : List Step → Bool
is_base_too_long steps = nat_lt 252 (length (encoding (base_of steps)))
