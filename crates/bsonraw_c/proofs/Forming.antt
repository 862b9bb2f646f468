-- A document that is its own canonical form.
use Rattle.std.proofs.Common.{ℕ, List}
use Rattle.bson_model.specs.Tree.{document}
use Rattle.raw_bson.specs.Envelope.{IsEnvelope}
use Rattle.raw_bson.specs.Limits.{Limits}
use Rattle.raw_form.specs.FormsWithin.{IsFormWithin}
use Rattle.raw_form.specs.Violations.{IsCanonicalWithin}
use Rattle.raw_tree.proofs.Face.{canonical_is_own_form, document_reads, read_within}

pub own_form : (limits : Limits) (b : List ℕ) → IsEnvelope b → IsCanonicalWithin limits b → IsFormWithin limits b b
own_form limits b env (few, canonical) =
    let read = document_reads limits.depth b canonical in
    record { form = canonical_is_own_form b env (limits.depth, canonical); within = (document read.0, read_within limits b (document read.0) few read.1) }
