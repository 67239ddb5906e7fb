use Rattle.std.proofs.Common.{◌≡◌, ◌+◌, ◌++◌, List, length, take, ℕ, ap, ◌∙◌, subst, refl, arith}
use Rattle.announcement_train.specs.declared.train.Train.{Train}
use Rattle.source_c.proofs.Parts.{three_parts}
use Rattle.source_c.proofs.announce.put_train.Goals as goal

pub returns-clause-some : goal.returns-clause-some
returns-clause-some c =
    let ext = c.as_slice-ext.result.now in
    let adv = c.as_slice-adv.result.now in
    let acad = c.as_slice-acad.result.now in
    let train : Train = record { time = c.args.train.now.time; ext = ext; adv = adv; acad = acad } in
    let is : train ≡ c.args.train.now =
    ap (λ (octets : List ℕ). record { time = c.args.train.now.time; ext = octets; adv = adv; acad = acad }) c.as_slice-ext.ensures
    ∙ ap (λ (octets : List ℕ). record { time = c.args.train.now.time; ext = c.args.train.now.ext; adv = octets; acad = acad }) c.as_slice-adv.ensures
    ∙ ap (λ (octets : List ℕ). record { time = c.args.train.now.time; ext = c.args.train.now.ext; adv = c.args.train.now.adv; acad = octets }) c.as_slice-acad.ensures in
    let one : take (length ext) c.put_behind.new.room ≡ ext =
    subst (λ n. take n c.put_behind.new.room ≡ ext) (omega arith) c.put_behind.ensures.octets in
    let two : take (length ext + length adv) c.put_behind-2.new.room ≡ ext ++ adv = c.put_behind-2.ensures.octets ∙ ap (λ (prefix : List ℕ). prefix ++ adv) one in
    let all : take (length ext + length adv + length acad) c.put_behind-3.new.room ≡ (ext ++ adv) ++ acad =
    c.put_behind-3.ensures.octets ∙ ap (λ (prefix : List ℕ). prefix ++ acad) two in
    three_parts train c.put_behind-3.new.room (length ext + length adv + length acad) refl all ∙ is
