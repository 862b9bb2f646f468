use Rattle.std.proofs.Common.{ap, take, ◌∙◌}
use Rattle.std.proofs.lemmas.List.{take_min}
use Rattle.bsonraw_dump.proofs.files.guess.front.Goals as goal

pub returns : goal.returns
returns c = ap (λ n. take n c.args.read.now) c.min.ensures ∙ take_min 64 c.args.read.now
