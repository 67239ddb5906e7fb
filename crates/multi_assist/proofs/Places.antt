-- A notice that is put behind those that wait on a link.
use Rattle.std.proofs.Common.{◌≡◌, Option, Some, None, refl, ◌∙◌}
use Rattle.delegator_history.specs.declared.notice.Notice.{Notice}
use Rattle.multi_assist.specs.State.Places.{Linked, copy_for, with_copy, with_notice}

pub copied : (notice : Notice) (link : Option Linked) → with_copy (copy_for notice link) link ≡ with_notice notice link
copied notice None = refl
copied notice (Some link) = refl

-- a link whose copy was made ready and put
pub put_is : (notice : Notice) (old ready new : Option Linked) (copy : Option Notice) → ready ≡ old → copy ≡ copy_for notice old → new ≡ with_copy copy ready
    → new ≡ with_notice notice old
put_is notice old ready new copy same copy_is put = put ∙ (λ i. with_copy (copy_is i) (same i)) ∙ copied notice old
