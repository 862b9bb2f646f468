use Rattle.std.proofs.Common.{◌≡◌, List, drop}
use Rattle.std.specs.String.{string_bytes}
use Rattle.raw_bson.specs.Frame.{Frame}
use Rattle.raw_bson.specs.ElementSteps.{HasRead}
use Rattle.raw_bson.specs.Document.{bytes_of}
use Rattle.bsonraw.specs.Print.{frame_lines}
use Rattle.bsonraw.proofs.list.list_document.Given as goal

-- what was read so far is written
abbrev pub invariant-loop-item : goal.invariant-loop-item
invariant-loop-item l = (frames : List Frame) × HasRead (drop 4 (bytes_of l.document)) frames l.item-iterator × (string_bytes l.output ≡ frame_lines frames)
