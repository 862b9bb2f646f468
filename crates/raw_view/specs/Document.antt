-- The bytes of a view.
use Rattle.std.specs.Prelude.{ℕ, List}
use Rattle.raw_view.specs.declared.document.RawDocument.{RawDocument}

-- the bytes of a document
abbrev pub bytes_of : RawDocument → List ℕ
bytes_of d = d.bytes.now
