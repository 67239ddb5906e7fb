-- The line of an operation says it in each version, and its octets are what is laid.
use Rattle.recurring_lines.proofs.Prelude.{◌≡◌, ℕ, true, List, [], ◌∷◌, ◌++◌, Ok, refl, ap, sym, ◌∙◌, subst, codes, ap₂, inl, inr, Add, Modify, Remove, LineTakes, some_takes}
use Rattle.bcast_base.specs.Encoding.{number}
use Rattle.bass_operations.specs.Layout.{encoding}
use Rattle.bass_operations.specs.declared.operation.AddSource.{AddSource}
use Rattle.bass_operations.specs.declared.operation.ModifySource.{ModifySource}
use Rattle.bass_operations.specs.declared.operation.Operation.{Operation}
use Rattle.bass_operations.specs.declared.operation.Operation.TheVariants as operations
use Rattle.bass_operations.specs.declared.wishes.Wish.{Wish}
use Rattle.scenario_words.specs.Groups.{ReadsGroups}
use Rattle.scenario_words.specs.Reading.{Left, all_wishes_of, decimal_in, next}
use Rattle.scenario_text.specs.Steps.{at_row, read_of, step_of}
use Rattle.scenario_text.specs.Table.{add_row, modify_row, remove_row, row_of, first_row_of, source_row_of, sink_row_of}
use Rattle.recurring_lines.specs.Operations.{SaysOperation, TakesOrSays}
use Rattle.recurring_lines.specs.declared.operations.AddHead.{AddHead}
use Rattle.recurring_lines.specs.declared.operations.ModifyHead.{ModifyHead}
use Rattle.recurring_lines.proofs.FrequentLines.{all_whole, behind_first}

-- ---- where memory runs out

pub modify_takes : (line words : List ℕ) (left : Left) → codes "modify " ++ words ≡ line → left ≡ behind_first words → some_takes modify_row.places left ≡ true → TakesOrSays line
unfolding row_of first_row_of source_row_of sink_row_of
modify_takes line words left same begins takes = inl (λ version. subst (LineTakes version) same (sym (ap (some_takes modify_row.places) begins) ∙ takes))

pub add_takes : (line words : List ℕ) (left : Left) → codes "add " ++ words ≡ line → left ≡ behind_first words → some_takes add_row.places left ≡ true → TakesOrSays line
unfolding row_of first_row_of source_row_of sink_row_of
add_takes line words left same begins takes = inl (λ version. subst (LineTakes version) same (sym (ap (some_takes add_row.places) begins) ∙ takes))

-- the line says an operation, and these are its octets
abbrev pub ReadsOperation : List ℕ → ℕ → List ℕ → Type 0
ReadsOperation line sink octets = (op : Operation) × SaysOperation line sink op × (octets ≡ encoding op)

pub reads_takes : (line octets : List ℕ) (sink : ℕ) → ReadsOperation line sink octets → TakesOrSays line
reads_takes line octets sink reads = inr (sink, reads.0, reads.1)

-- ---- what was read and laid

abbrev modified : ModifyHead → List Wish → ModifySource
modified head wishes = record { source_id = head.source_id; pa_sync = head.pa_sync; pa_interval = head.pa_interval; wishes = wishes }

abbrev pub modify_octets : ModifyHead → ℕ → List ℕ → List ℕ
modify_octets head count groups = 3 ∷ head.source_id ∷ head.pa_sync ∷ (number 2 head.pa_interval ++ (count ∷ groups))

pub modify_read : (line words : List ℕ) (left middle after : Left) (head : ModifyHead) (count : ℕ) (groups : List ℕ)
    → codes "modify " ++ words ≡ line → left ≡ behind_first words
    → ((wishes : List Wish) (after : Left) → all_wishes_of 506 middle ≡ Ok (wishes, after)
    → at_row modify_row left ≡ Ok (Modify head.sink (modified head wishes), after))
    → ReadsGroups count groups after (all_wishes_of 506 middle) → after.words ≡ [] → ReadsOperation line head.sink (modify_octets head count groups)
unfolding read_of step_of row_of first_row_of source_row_of sink_row_of
modify_read line words left middle after head count groups same begins gives read none =
    let made = modified head read.wishes in (
      operations.Modify made,
      (λ version. ap (read_of version) (sym same) ∙ all_whole modify_row words left after (Modify head.sink made) begins (gives read.wishes after read.is) none),
      ap₂ (modify_octets head) (sym read.counted) read.laid_as,
    )

abbrev added : AddHead → List Wish → AddSource
added head wishes = record {
  address_type = head.address_type;
  address = head.address;
  sid = head.sid;
  broadcast_id = head.broadcast_id;
  pa_sync = head.pa_sync;
  pa_interval = head.pa_interval;
  wishes = wishes;
}

abbrev pub add_octets : AddHead → ℕ → List ℕ → List ℕ
add_octets head count groups =
    2 ∷ head.address_type ∷ (head.address ++ (head.sid ∷ (head.broadcast_id ++ (head.pa_sync ∷ (number 2 head.pa_interval ++ (count ∷ groups))))))

pub add_read : (line words : List ℕ) (left middle after : Left) (head : AddHead) (count : ℕ) (groups : List ℕ) → codes "add " ++ words ≡ line → left ≡ behind_first words
    → ((wishes : List Wish) (after : Left) → all_wishes_of 496 middle ≡ Ok (wishes, after) → at_row add_row left ≡ Ok (Add head.sink (added head wishes), after))
    → ReadsGroups count groups after (all_wishes_of 496 middle) → after.words ≡ [] → ReadsOperation line head.sink (add_octets head count groups)
unfolding read_of step_of row_of first_row_of source_row_of sink_row_of
add_read line words left middle after head count groups same begins gives read none =
    let made = added head read.wishes in (
      operations.Add made,
      (λ version. ap (read_of version) (sym same) ∙ all_whole add_row words left after (Add head.sink made) begins (gives read.wishes after read.is) none),
      ap₂ (add_octets head) (sym read.counted) read.laid_as,
    )

pub remove_read : (line words : List ℕ) (left middle after : Left) (sink source_id : ℕ) → codes "remove " ++ words ≡ line → left ≡ behind_first words
    → next (decimal_in 0 7) left ≡ Ok (sink, middle) → next (decimal_in 0 255) middle ≡ Ok (source_id, after) → after.words ≡ []
    → ReadsOperation line sink (5 ∷ source_id ∷ [])
unfolding read_of step_of row_of first_row_of source_row_of sink_row_of
remove_read line words left middle after sink source_id same begins first second none =
    let is : at_row remove_row left ≡ Ok (Remove sink source_id, after) = rw (first, second) refl in
    (operations.Remove source_id, (λ version. ap (read_of version) (sym same) ∙ all_whole remove_row words left after (Remove sink source_id) begins is none), refl)
