use Rattle.std.proofs.Common.{Option, arith, subst}
use Rattle.raw_view.specs.Document.{bytes_of}
use Rattle.raw_tree.specs.Barriers.{IsBarrier, TellsBarrier}
use Rattle.raw_tree.specs.declared.walk.barrier.Barrier.{Barrier}
use Rattle.raw_tree.specs.declared.walk.barrier.BarrierKind.{BarrierKind}
use Rattle.bson_from_json.proofs.Sound.{no_fault, too_deep_told, too_long}
use Rattle.bson_from_json.proofs.levels.check.Goals as goal

pub unreachable-requires : goal.unreachable-requires
unreachable-requires c =
    let b = bytes_of c.args.document in
    let (x, is, at) = subst (λ (o : Option Barrier). TellsBarrier c.args.limits b o) c.in-Ok-Some.field-0-is c.in-Ok-Some.ensures.barrier in
    let (fault, same, told) = subst (λ (k : BarrierKind). IsBarrier k x) c.in-Fault.is is in
    no_fault c.args.limits b x fault c.requires at same

pub returns-in-TooManyBytes-clause-stops : goal.returns-in-TooManyBytes-clause-stops
returns-in-TooManyBytes-clause-stops c =
    let b = bytes_of c.args.document in
    let (x, is, at) = subst (λ (o : Option Barrier). TellsBarrier c.args.limits b o) c.in-Ok-Some.field-0-is c.in-Ok-Some.ensures.barrier in
    let same = subst (λ (k : BarrierKind). IsBarrier k x) c.in-TooManyBytes.is is in
    record { excused = λ es readable e. too_long c.args.limits b es e x at same }

pub returns-in-TooDeep-clause-stops : goal.returns-in-TooDeep-clause-stops
returns-in-TooDeep-clause-stops c =
    let b = bytes_of c.args.document in
    let (x, is, at) = subst (λ (o : Option Barrier). TellsBarrier c.args.limits b o) c.in-Ok-Some.field-0-is c.in-Ok-Some.ensures.barrier in
    let same = subst (λ (k : BarrierKind). IsBarrier k x) c.in-TooDeep.is is in
    record {
      excused = λ es readable e.
          too_deep_told c.args.limits b es e x (omega (arith, c.requires.0.header.fits)) readable at same;
    }
