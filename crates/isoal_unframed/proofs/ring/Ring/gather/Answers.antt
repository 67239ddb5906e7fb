use Rattle.isoal_unframed.proofs.Prelude.{ap, ◌∙◌, ◌≡◌, ◌≤◌, ◌+◌, ◌-◌, ◌*◌, ◌++◌, length, sym, subst, take, drop, arith, with_items, length-drop, length-take-le, mul-le, add-mul}
use Rattle.isoal_unframed.proofs.Kept.{slot_prefix, slot_behind, slot_octets, slot-kept, option_same}
use Rattle.isoal_unframed.proofs.Vecs.{mid_is}
use Rattle.isoal_unframed.proofs.ring.Ring.gather.Goals as goal

within_is : (c : goal.After-self-2-1) → c.args.first + c.args.places ≤ length c.args.self.now.cells.items
within_is c = subst (λ n. c.args.first + c.args.places ≤ n) c.args.self.now.cells.ok.0 c.requires

size_is : (c : goal.After-self-2-1) → length c.args.self.now.block.items ≡ length c.args.self.now.cells.items * c.args.self.now.max_pdu
size_is c = sym c.args.self.now.block.ok.0 ∙ c.args.self.now.octets ∙ ap (λ n. n * c.args.self.now.max_pdu) c.args.self.now.cells.ok.0

many_is : (c : goal.After-self-2-1)
    → (c.args.first + c.args.places) * c.from-max_pdu.result - c.args.first * c.from-max_pdu.result ≡ c.args.places * c.args.self.now.max_pdu
many_is c = grind (arith, add-mul)

room_is : (c : goal.After-self-2-1)
    → c.args.first * c.from-max_pdu.result + c.args.places * c.args.self.now.max_pdu ≤ length c.args.self.now.block.items
room_is c =
    grind (
      arith,
      add-mul c.args.first c.args.places c.args.self.now.max_pdu,
      c.from-max_pdu.ensures,
      mul-le (c.args.first + c.args.places) c.args.self.now.max_pdu (length c.args.self.now.cells.items) c.args.self.now.max_pdu (within_is c) (omega arith),
      size_is c,
    )

slot_is : (c : goal.After-self-2-1)
    → take ((c.args.first + c.args.places) * c.from-max_pdu.result - c.args.first * c.from-max_pdu.result) (drop (c.args.first * c.from-max_pdu.result) c.deref_mut.result.now)
    ≡ take (c.args.places * c.args.self.now.max_pdu) (drop (c.args.first * c.args.self.now.max_pdu) c.args.self.now.block.items)
slot_is c = grind (arith, many_is)

count_is : (c : goal.After-self-2-1) → length c.gather.new.block ≡ c.args.places * c.args.self.now.max_pdu
count_is c = grind (arith, length-drop, room_is, slot_is, length-take-le)

block_is : (c : goal.After-self-2-1) → (with_items c.args.self.now.block (take (c.args.first * c.from-max_pdu.result) c.deref_mut.result.now
    ++ (c.gather.new.block ++ drop ((c.args.first + c.args.places) * c.from-max_pdu.result - c.args.first * c.from-max_pdu.result)
    (drop (c.args.first * c.from-max_pdu.result) c.deref_mut.result.now)))).items
    ≡ take (c.args.first * c.args.self.now.max_pdu) c.args.self.now.block.items
    ++ (c.gather.new.block ++ drop (c.args.first * c.args.self.now.max_pdu + c.args.places * c.args.self.now.max_pdu) c.args.self.now.block.items)
block_is c = grind (arith, mid_is, count_is, many_is, room_is)

pub returns-clause-prefix : goal.returns-clause-prefix
returns-clause-prefix c = grind (arith, slot_prefix, within_is, size_is, block_is)

pub returns-clause-behind : goal.returns-clause-behind
returns-clause-behind c =
    slot_behind c.args.self.now.max_pdu c.args.first c.args.places c.args.self.now.cells.items c.args.self.now.block.items c.gather.new.block
    _ (within_is c) (size_is c) (count_is c) (block_is c)

cells_are : (c : goal.After-self-2-1)
    → take (c.args.first + c.args.places - c.args.first) (drop c.args.first c.deref.result.now) ≡ take c.args.places (drop c.args.first c.args.self.now.cells.items)
cells_are c = grind arith

pub returns-clause-unit : goal.returns-clause-unit
returns-clause-unit c = grind (arith, slot-kept, within_is, cells_are, slot_is, option_same, slot_octets, size_is, block_is)

pub returns-clause-bound : goal.returns-clause-bound
returns-clause-bound c = grind (arith, room_is, count_is)
