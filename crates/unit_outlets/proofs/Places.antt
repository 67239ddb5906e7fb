-- A box of a list, seen through the list of accounts.
use Rattle.std.proofs.Common.{◌∙◌, ap, zero, suc, [], ◌∷◌}
use Rattle.std.proofs.lemmas.List.{map-set}
use Rattle.std.proofs.lemmas.Option.{slice_get-map, slice_get_read}
use Rattle.std.specs.Option.{option_map}
use Rattle.std.specs.Prelude.{ℕ, ◌≡◌, ◌<◌, List, length, map, slice_set, get_or, Result, refl}
use Rattle.unit_outlets.specs.Account.{Account}
use Rattle.unit_outlets.specs.Took.{OthersSame, Took, TookAt}
use Rattle.unit_outlets.specs.declared.fault.OutletFault.{OutletFault}

pub took_at : {A : Type 0} (account : A → Account) (boxes : List A) (place : ℕ) (unit : List ℕ) (old new : A)
    (result : Result (Unit {0}) OutletFault) → place < length boxes → old ≡ get_or boxes place old
    → Took unit (account old) (account new) result → TookAt place unit (map account boxes) (map account (slice_set boxes place new)) result
took_at account boxes place unit old new result inside at took = record {
  before = account old;
  after = account new;
  here = slice_get-map account boxes place ∙ ap (option_map account) (slice_get_read boxes (length boxes) place old refl inside at);
  others = map-set account boxes place new;
  took = took;
}

-- the boxes of a list of which one was set
pub others_same : {A : Type 0} (boxes : List A) (place : ℕ) (new : A) → OthersSame place boxes (slice_set boxes place new)
others_same [] place new other apart = refl
others_same (box ∷ boxes) zero new zero apart = absurd (apart refl)
others_same (box ∷ boxes) zero new (suc other) apart = refl
others_same (box ∷ boxes) (suc place) new zero apart = refl
others_same (box ∷ boxes) (suc place) new (suc other) apart = others_same boxes place new other (λ same. apart (ap suc same))
