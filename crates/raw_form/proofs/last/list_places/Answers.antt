use Rattle.std.proofs.Common.{rules, ◌≡◌, [], arith, length-drop, refl}
use Rattle.raw_form.proofs.canonical.Common.{bytes_of}
use Rattle.key_set.specs.References.{texts}
use Rattle.raw_tree.proofs.Face.{envelope_fits}
use Rattle.raw_form.proofs.last.Places.{left_more, listed_more, passed_all}
use Rattle.raw_form.proofs.last.list_places.Goals as goal

pub elements-init : goal.elements-init
elements-init c =
    let empty : c.new-places.result.items ≡ [] = search rules in
    record {
      below = texts c.truncate.new.self.items;
      own = [];
      keys = rw c.deref.ensures.value at c.behind-keys.ensures;
      as_many = rw empty refl;
      frames = [];
      reaches = refl;
      left_is = c.new-elements.ensures;
      least = search rules;
      begins = rw c.new-elements.ensures (omega (arith, length-drop 4 (bytes_of c.args.document), c.args.document.envelope.enough));
      each = λ pairs read. record { passed = []; rest = pairs; whole = refl; left_is = rw c.new-elements.ensures read; holds = rw empty (refl, tt) };
    }

pub returns-in_default-clause-places : goal.returns-in_default-clause-places
returns-in_default-clause-places c pairs read = (passed_all (c.elements.invariant.each pairs read) _ c.in_default.ensures).1

pub behind-offset-requires : goal.behind-offset-requires
behind-offset-requires c = omega (arith, c.elements.invariant.begins, left_more _ _ _ c.in-Some.ensures, envelope_fits _ c.args.document.envelope)

pub elements-preserved : goal.elements-preserved
elements-preserved c = search (rules, listed_more c.elements.invariant)
