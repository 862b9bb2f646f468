use Rattle.std.proofs.Common.{arith}
use Rattle.raw_resync.proofs.Looking.{IsPieceIn, at_end, at_more, at_none, cannot_count}
use Rattle.raw_resync.proofs.check.check_at.Goals as goal

pub returns-in-End-clause-checked : goal.returns-in-End-clause-checked
returns-in-End-clause-checked c =
    let p = c.args.part in
    at_end p.limits p.bytes.now p.is_last p.at c.args.place c.args.work.now c.requires.1 c.in-End.ensures

pub returns-in-NoPiece-clause-checked : goal.returns-in-NoPiece-clause-checked
returns-in-NoPiece-clause-checked c =
    let p = c.args.part in
    at_none p.limits p.bytes.now p.is_last p.at c.args.place c.args.work.now c.requires.1 c.in-NoPiece.ensures

pub returns-in-Wants-clause-checked : goal.returns-in-Wants-clause-checked
returns-in-Wants-clause-checked c =
    let p = c.args.part in
    at_more p.limits p.bytes.now p.is_last p.at c.args.place c.in-Wants.count c.args.work.now c.in-Wants.ensures

pub returns-then-len-le-SMALL-clause-checked : goal.returns-then-len-le-SMALL-clause-checked
returns-then-len-le-SMALL-clause-checked c =
    let p = c.args.part in
    let piece : IsPieceIn p.limits p.bytes.now c.args.place c.in-Piece.len = record { within = c.in-Piece.ensures.0; is = c.in-Piece.ensures.1 } in
    cannot_count piece p.is_last p.at c.args.work.now (λ may. omega (arith, may.long, c.if-len-le-SMALL.true))
