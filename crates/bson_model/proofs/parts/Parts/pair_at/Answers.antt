use Rattle.std.proofs.Common.{◌≡◌, ◌<◌, ◌≤◌, Some, length, slice_get, ap, sym, ◌∙◌, arith}
use Rattle.std.specs.String.{string_bytes}
use Rattle.std.proofs.lemmas.Option.{slice_get-get_or, slice_get_past}
use Rattle.bson_model.proofs.Kept.{pair_at, no_pair_at}
use Rattle.bson_model.proofs.parts.Parts.pair_at.Goals as goal

pub returns-then-index-len-clause-pair : goal.returns-then-index-len-clause-pair
returns-then-index-len-clause-pair g c =
    let a = c.self.inside in
    let h : length a.keys ≤ c.args.index = omega (arith, c.len.ensures, a.values.ok.0, c.self.invariant) in
    rw (← c.self.view_is) (sym (no_pair_at string_bytes c.args.index a.keys a.values.items (slice_get_past a.keys c.args.index h)))

pub returns-clause-pair : goal.returns-clause-pair
returns-clause-pair g c =
    let a = c.self.inside in
    let h : c.args.index < length a.values.items = omega (arith, c.len.ensures, a.values.ok.0) in
    let v : slice_get a.values.items c.args.index ≡ Some c.index.result.now = slice_get-get_or a.values.items c.args.index c.index.result.now h ∙ ap Some (sym c.index.ensures) in
    let key = c.in-Some.key.now in
    let held = rw c.as_slice.ensures.texts at c.in-Some.ensures.lookup.1 in
    let at : slice_get a.keys c.args.index ≡ Some key = slice_get-get_or a.keys c.args.index key (omega (arith, h, c.self.invariant)) ∙ ap Some (sym held) in
    rw (c.as_str.ensures.value, ← c.self.view_is) (sym (pair_at string_bytes c.args.index c.in-Some.key.now c.index.result.now a.keys a.values.items at v))
