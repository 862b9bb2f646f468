use Rattle.std.proofs.Common.{sym}
use Rattle.std.proofs.lemmas.List.{append-nil}
use Rattle.std.specs.List.{IsDistinct}
use Rattle.key_set.specs.References.{texts}
use Rattle.key_set.proofs.References.{length_texts}
use Rattle.key_set.proofs.key_set.KeySet.behind.Goals as goal

pub returns : goal.returns
unfolding IsDistinct
returns c = (tt, sym (length_texts c.args.listed.now), sym (append-nil (texts c.args.listed.now)), tt)
