use Rattle.raw_shelf.proofs.Stored.{stored}
use Rattle.std.proofs.Common.{refl}
use Rattle.raw_shelf.proofs.shelf.store.Goals as goal
use Rattle.raw_shelf.proofs.shelf.store.Goals.{in-Ok, in-Err}

pub returns : goal.returns
returns c =
    elim c.match-insert.branch [
      | in-Ok w ↦ rw (w.result-is) (stored c.args.documents.now.keys c.insert.new.self.keys c.args.bytes w.in-Ok.is_new w.in-Ok.ensures.added w.in-Ok.ensures.keys)
      | in-Err w ↦ rw (w.result-is, w.in-Err.ensures.err) (refl, refl)
    ]
