use Rattle.std.proofs.Common.{List, drop}
use Rattle.raw_view.specs.Frame.{Frame}
use Rattle.raw_view.specs.Frame.ElementSteps.{HasRead}
use Rattle.raw_view.specs.LookUp.{HasNoKey}
use Rattle.raw_view.specs.Document.{bytes_of}
use Rattle.raw_view.proofs.document.RawDocument.get.Given as goal

abbrev pub invariant-loop-step : goal.invariant-loop-step
invariant-loop-step l = (passed : List Frame) × HasRead (drop 4 (bytes_of l.fn.self)) passed l.step-iterator × HasNoKey l.key passed
