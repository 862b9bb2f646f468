use Rattle.std.proofs.Common.{◌∙◌, arith, subst, sym}
use Rattle.bson_from_json.specs.Levels.{IsReadAgain}
use Rattle.bson_from_json.proofs.Sound.{document_read}
use Rattle.bson_from_json.proofs.unfinished.Unfinished.finish.Goals as goal

pub check-requires : goal.check-requires
check-requires c =
    let self = c.args.self in
    subst IsReadAgain (sym (c.as_ref.ensures ∙ c.in-Ok.ensures.same)) (document_read self.bytes.items (omega (arith, self.few, self.fits)) c.requires)
