use Rattle.std.proofs.Common.{◌≡◌, length}
use Rattle.dump_io.specs.input.InFront.{PassesDocuments}
use Rattle.dump_io.proofs.input.portion.pass_documents.Given as goal

-- `counter` documents were passed
abbrev pub invariant-documents : goal.invariant-documents
invariant-documents g l =
    (d : PassesDocuments l.most l.count (g.R.Read.remaining l.initial.reader) (g.R.Read.remaining l.reader) l.initial.window l.window) × (length d.documents ≡ l.counter)
