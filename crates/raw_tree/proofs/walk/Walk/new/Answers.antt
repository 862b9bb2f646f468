use Rattle.std.proofs.Common.{rules, ◌≡◌, ◌⊎◌, ◌+◌, ◌<◌, [], drop, length, length-drop, arith, refl}
use Rattle.raw_tree.proofs.Common.{bytes_of}
use Rattle.raw_tree.proofs.walk.Starts.{at_start}
use Rattle.raw_view.proofs.Face.{LeadsTo-bound}
use Rattle.raw_tree.proofs.walk.Walk.new.Goals as goal

pub unreachable-requires : goal.unreachable-requires
unreachable-requires c =
    let b = bytes_of c.args.document in
    let is = c.requires c.args.most_waiting refl in
    let outside : (c.args.start.offset < 4) ⊎ (length b < c.args.start.offset) = search rules in
    let bound = LeadsTo-bound (drop 4 b) is.frames is.s is.reaches in
    omega (arith, bound, length-drop 4 b, c.args.document.envelope.enough, is.begins, outside)

pub returns-clause-level : goal.returns-clause-level
returns-clause-level c = record {
  document_is = refl;
  none_waits = c.new.ensures.items;
  left_is = rw c.in-Some.is at c.from_offset.ensures.left;
  offset_is = refl;
  start_is = refl;
}

pub returns-clause-come : goal.returns-clause-come
returns-clause-come c first =
    let b = bytes_of c.args.document in
    let begins : c.args.start.offset + length (drop 4 b) ≡ length b = omega (arith, first, length-drop 4 b, c.args.document.envelope.enough) in
    let is = c.requires c.args.most_waiting refl in
    let none : c.args.start.number ≡ 0 = omega (arith, first, is.begins, is.number_is, LeadsTo-bound (drop 4 b) is.frames is.s is.reaches, length-drop 4 b) in
    record { at = at_start (returns-clause-level c) [] [] (drop 4 b) refl begins none (record { visits = []; each = refl; seen_is = refl }) }
