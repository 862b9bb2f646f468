use Rattle.std.proofs.Common.{◌≡◌, ◌++◌, ◌∷◌, [], rules, ap, arith}
use Rattle.raw_tree.proofs.Common.{Payload, Container, begun_of, members_left, tree_of_container}
use Rattle.raw_tree.proofs.writer.Encodings.{shown_len}
use Rattle.raw_tree.proofs.writer.MemberSteps.{container_holds, members_len, stack-last}
use Rattle.raw_tree.proofs.writer.WrittenMembers.{left_with, room_left, writing_begins, writing_inside, writing_ends}
use Rattle.raw_tree.proofs.writer.write.Goals as goal

pub payloads-init : goal.payloads-init
payloads-init c = grind (arith, container_holds, writing_begins)

pub put_element-requires-clause-room : goal.put_element-requires-clause-room
put_element-requires-clause-room c = grind (arith, room_left _ _ _ c.payloads.invariant.writing, shown_len)

pub put_element-requires-clause-fits : goal.put_element-requires-clause-fits
put_element-requires-clause-fits c = grind (arith, room_left _ _ _ c.payloads.invariant.writing, shown_len)

pub put_head-requires : goal.put_head-requires
put_head-requires c = grind (arith, room_left _ _ _ c.payloads.invariant.writing)

pub start-payload-requires-in-Container-clause-room : goal.start-payload-requires-in-Container-clause-room
start-payload-requires-in-Container-clause-room c = grind (arith, room_left _ _ _ c.payloads.invariant.writing)

pub start-payload-requires-in-Container-clause-fits : goal.start-payload-requires-in-Container-clause-fits
start-payload-requires-in-Container-clause-fits c = grind (arith, room_left _ _ _ c.payloads.invariant.writing)

pub payloads-smaller : goal.payloads-smaller
payloads-smaller c = grind (arith, container_holds, members_len, stack-last)

pub payloads-preserved : goal.payloads-preserved
payloads-preserved c =
    let outer : Payload = record { members = c.next.new.self; start = c.payloads.payload.start } in
    let grown : c.push.new.self.items ≡ c.payloads.waiting.items ++ outer ∷ [] = search rules in
    let left : begun_of outer ≡ left_with (begun_of c.payloads.payload) (members_left c.next.new.self) =
    ap (λ (k : Container). record { tree = tree_of_container k; start = c.payloads.payload.start; left = members_left c.next.new.self }) c.in-Some.ensures.container
    in
    let step = rw c.in-Container.ensures at c.in-Some.ensures.step in
    let head = rw (c.tag.ensures, c.text-key.ensures) at c.put_head.ensures.items in
    record {
      writing = rw (grown, stack-last begun_of c.payloads.waiting.items outer, left, c.start-payload-in-Container.ensures.begun, c.start-payload-in-Container.ensures.items, c.put_head.new.out.ok.0)
          (writing_inside c.payloads.invariant.writing step c.put_head.new.out.items (container_holds c.in-Container.inner) head);
      capacity = omega (arith, c.payloads.invariant.capacity, c.put_head.ensures.capacity, c.start-payload-in-Container.ensures.capacity);
    }

pub payloads-smaller-in_default : goal.payloads-smaller-in_default
payloads-smaller-in_default c = grind (arith, stack-last)

pub payloads-preserved-in_default : goal.payloads-preserved-in_default
payloads-preserved-in_default c = grind (arith, stack-last, writing_ends)
