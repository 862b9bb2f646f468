use Rattle.std.proofs.Common.{◌≡◌, rules, Some, length, length-drop, arith, refl}
use Rattle.raw_form.proofs.canonical.Common.{bytes_of, document}
use Rattle.raw_form.proofs.rewritten.Members.{read_pairs}
use Rattle.raw_form.proofs.rewritten.Rewritten.new.Goals as goal

pub returns-in-Array-clause-left : goal.returns-in-Array-clause-left
returns-in-Array-clause-left c t stands =
    let (pairs, rest, same) = read_pairs (rw c.in-Array.is at stands) in
    rw (c.level-in-Array.ensures.keys, c.level-in-Array.ensures.elements, c.level-in-Array.ensures.code_len, c.none-in-Array.ensures, same)
    (refl, (omega (arith, length-drop 4 (bytes_of c.args.held.document), c.args.held.document.envelope.header.fits), pairs, rest, refl))

pub returns-in_ok-keys-in-Code-clause-left : goal.returns-in_ok-keys-in-Code-clause-left
returns-in_ok-keys-in-Code-clause-left c t stands =
    let len : c.level-in-Code.result.code_len ≡ Some (length c.in-Code.code.now) = search rules in
    let scope = rw c.in-Code.is at stands in
    rw (c.level-in-Code.ensures.keys, c.level-in-Code.ensures.elements, len, scope.2) (refl, c.in_ok-keys-in-Code.ensures.left (document scope.0) scope.1)
