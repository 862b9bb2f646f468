use Rattle.std.proofs.Common.{◌≤◌, ◌+◌, ℕ, ℤ, Bool, true, false, List, inr, arith}
use Rattle.std.proofs.lemmas.Result.{err_from_is_err_and}
use Rattle.raw_bson.specs.Document.{bytes_of}
use Rattle.raw_bson.specs.Limits.{Limits}
use Rattle.raw_bson.proofs.Face.{ReadsDump-more, ReadsDump-grows}
use Rattle.bson_uses.specs.Tallies.{PlusOne, Steps}
use Rattle.bson_uses.specs.declared.tally.Tally.{Tally}
use Rattle.bson_uses.proofs.tally.tally_of.Goals as goal

-- a document makes each count at most one greater
plus_one : (t u : Tally) (is : Bool) (z : ℤ) → PlusOne t is z u → (u.documents ≤ t.documents + 1) × (u.canonical ≤ t.canonical + 1)
plus_one t u true z p = (omega (arith, p.0), omega (arith, p.1))
plus_one t u false z p = (omega (arith, p.0), omega (arith, p.1))

more_documents : (limits : Limits) (key : List ℕ) (t u : Tally) (d : List ℕ) → Steps limits key t d u → u.documents ≤ t.documents + 1
more_documents limits key t u d step = (plus_one t u step.0 step.2 step.4).0

more_canonical : (limits : Limits) (key : List ℕ) (t u : Tally) (d : List ℕ) → Steps limits key t d u → u.canonical ≤ t.canonical + 1
more_canonical limits key t u d step = (plus_one t u step.0 step.2 step.4).1

pub returns-in_err-tally-clause-refused : goal.returns-in_err-tally-clause-refused
returns-in_err-tally-clause-refused c =
    let e = err_from_is_err_and c.from_residual.result c.from_residual.ensures.1 in
    rw (e.1, e.2) (
      c.loop-rest.tally,
      _,
      c.loop-rest.invariant.0,
      inr (bytes_of c.in-Ok.parts.0, c.in-Ok.parts.1.now, c.in-Ok.ensures.parts, c.in-Ok.parts.0.envelope, c.in_err-tally.ensures),
    )

pub loop-rest-preserved : goal.loop-rest-preserved
loop-rest-preserved c =
    let more = ReadsDump-more c.loop-rest.invariant.0 c.in-Ok.ensures.parts c.in-Ok.parts.0.envelope c.in_ok-tally.ensures in (
      more,
      omega (arith, ReadsDump-grows (λ (t : Tally). t.documents) (more_documents c.args.limits c.args.key.now) more),
      omega (arith, ReadsDump-grows (λ (t : Tally). t.canonical) (more_canonical c.args.limits c.args.key.now) more),
    )
