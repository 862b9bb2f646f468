use Rattle.std.proofs.lemmas.Bool.{false≢true}
use Rattle.raw_bson.specs.Envelope.{IsEnvelope}
use Rattle.raw_shelf.proofs.Stored.{envelope_at, stored_at}
use Rattle.raw_shelf.proofs.shelf.Shelf.at.Goals as goal

pub unreachable-requires : goal.unreachable-requires
unreachable-requires c =
    let env : IsEnvelope c.deref.result.now = rw (c.deref.ensures.value)
    (envelope_at _ c.args.index c.in_ok-bytes.bytes.now.items c.self.invariant
    (stored_at c.self.inside.documents.keys c.args.index c.in_ok-bytes.bytes.now c.in_ok-bytes.ensures.key)) in
    false≢true (c.in-Err.ensures.sound.1 env)

pub returns : goal.returns
returns c =
    rw (c.in-Ok.ensures.same, c.deref.ensures.value, ← c.self.view_is) (stored_at c.self.inside.documents.keys c.args.index c.in_ok-bytes.bytes.now c.in_ok-bytes.ensures.key)
