use Rattle.announcement_train.proofs.Prelude.{◌≡◌, ◌+◌, ◌++◌, ◌∷◌, ℕ, List, [], ap, length, arith, ◌∙◌, length-append, number-length, structure, service_ad}
use Rattle.bcast_base.specs.Encoding.{number}
use Rattle.announcement_train.proofs.train.service_begun.Goals as goal

laid : (uuid count : ℕ) (content : List ℕ) → length content ≡ count → (count + 3) ∷ 22 ∷ (number 2 uuid ++ content) ≡ structure (service_ad uuid content)
laid uuid count content is =
    ap (λ (long : ℕ). long ∷ 22 ∷ (number 2 uuid ++ content)) (omega (arith, length-append (number 2 uuid) content, number-length 2 uuid))

pub returns : goal.returns
returns c content is =
    let count = c.args.count in
    let first : c.append.new.self ≡ (count + 3) ∷ 22 ∷ [] =
    c.in_ok-append.ensures.ok ∙ ap (λ (octets : List ℕ). octets ++ (count + 3) ∷ 22 ∷ []) (c.of-octets.ensures ∙ c.in_ok-with_capacity.ensures.items) in
    let second : c.put_number.new.out ≡ (count + 3) ∷ 22 ∷ number 2 c.from.result =
    c.in_ok-put_number.ensures.ok ∙ ap (λ (octets : List ℕ). octets ++ number 2 c.from.result) first in
    ap (λ (octets : List ℕ). octets ++ content) second ∙ (laid c.from.result count content is ∙ ap (λ (uuid : ℕ). structure (service_ad uuid content)) c.from.ensures)
