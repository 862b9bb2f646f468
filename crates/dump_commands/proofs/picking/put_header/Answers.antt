use Rattle.dump_io.proofs.Face.{front_none, on_any}
use Rattle.dump_io.specs.lines.Fronts.{AppendsFront}
use Rattle.dump_commands.specs.Picking.{header_of}
use Rattle.dump_commands.proofs.picking.put_header.Goals as goal

pub returns-in_err-row-in-Row-clause-front : goal.returns-in_err-row-in-Row-clause-front
returns-in_err-row-in-Row-clause-front g c =
    let old = g.D.Write.contents c.args.out.now in
    let text = header_of c.args.picking in
    on_any c.from_residual.result (AppendsFront old old text) (front_none old text)
