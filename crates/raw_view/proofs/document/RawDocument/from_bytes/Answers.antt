use Rattle.std.proofs.Common.{◌≡◌, arith, ◌-◌, pos, length, ap, ◌∙◌, Some}
use Rattle.std.proofs.lemmas.Int.{ints}
use Rattle.std.proofs.lemmas.Option.{slice_get-get_or}
use Rattle.raw_view.proofs.document.RawDocument.from_bytes.Goals as goal

pub invariant_of-result : goal.invariant_of-result
invariant_of-result c =
    let b = c.args.bytes.now in
    let declared : c.front_i32-header.result ≡ pos (length b) = omega (arith, ints) in
    record {
      envelope = record {
        bytes = λ i. omega (arith, c.type_inv.bytes i);
        enough = omega arith;
        header = rw (← declared) c.front_i32-header.ensures;
        ended = slice_get-get_or b (length b - 1) 0 (omega arith) ∙ ap Some c.if-bytes-ne0.false;
      };
    }
