use Rattle.std.proofs.Common.{◌≡◌, List, subst, ℕ}
use Rattle.std.specs.Io.KnownBytes.{Appends}
use Rattle.raw_view.specs.Document.{bytes_of}
use Rattle.raw_view.specs.Frame.Envelope.{IsEnvelope}
use Rattle.dump_commands.specs.elements.Listing.{HasListingFront, ListsDocument}
use Rattle.dump_commands.proofs.Listed.{IsPartly, IsWritten, listed, listed_nothing, lists_front}
use Rattle.dump_io.proofs.Face.{on_err, on_ok}
use Rattle.dump_commands.proofs.reporting.put_elements.Goals as goal

pub returns-clause-listed : goal.returns-clause-listed
returns-clause-listed g c =
    let b = c.args.bytes.now in
    let old = g.W.Write.contents c.args.report.now in
    let new = g.W.Write.contents c.list_levels.new.out in
    let same : bytes_of c.in-Ok.document ≡ b = c.in-Ok.ensures.same in
    let is : IsEnvelope b = subst IsEnvelope same c.in-Ok.document.envelope in
    on_ok c.list_levels.result (IsWritten 500 1 (bytes_of c.in-Ok.document) old new) ((listing : List ℕ) × ListsDocument b listing × Appends old new listing)
    (λ w. listed b old new is (subst (λ (x : List ℕ). IsWritten 500 1 x old new) same w)) c.list_levels.ensures.listed

pub returns-clause-front : goal.returns-clause-front
returns-clause-front g c =
    let b = c.args.bytes.now in
    let old = g.W.Write.contents c.args.report.now in
    let new = g.W.Write.contents c.list_levels.new.out in
    let same : bytes_of c.in-Ok.document ≡ b = c.in-Ok.ensures.same in
    let is : IsEnvelope b = subst IsEnvelope same c.in-Ok.document.envelope in
    on_err c.list_levels.result (IsPartly 500 1 (bytes_of c.in-Ok.document) old new) ((lines : List ℕ) × HasListingFront b lines × Appends old new lines)
    (λ partly. lists_front b old new is (subst (λ (x : List ℕ). IsPartly 500 1 x old new) same partly)) c.list_levels.ensures.front

pub returns-in_default-clause-listed : goal.returns-in_default-clause-listed
returns-in_default-clause-listed g c = listed_nothing c.args.bytes.now c.in_default.field-0 (g.W.Write.contents c.args.report.now) c.in_default.ensures.refused
