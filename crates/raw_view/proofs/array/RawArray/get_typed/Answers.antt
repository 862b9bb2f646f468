use Rattle.raw_view.proofs.LookUps.Accessed.{gets}
use Rattle.raw_view.proofs.array.RawArray.get_typed.Goals as goal

pub returns : goal.returns
returns g c =
    let h = c.get.ensures.found in
    (h.0, h.1, gets g.T.Typed.value_as g.T.Typed.kind _ c.get.result h.0 c.typed_at_index.result h.2 c.typed_at_index.ensures)
