-- What holds of bytes that are written from a tree, and of trees that are read from bytes. Bytes b that are read here
-- have an envelope.
use Rattle.std.specs.Prelude.{◌≡◌, ◌<◌, ◌≤◌, ◌↔◌, ℕ, List, None}
use Rattle.bson_model.specs.Proper.{IsProper}
use Rattle.bson_model.specs.Tree.{Tree, Trees, Entries, array, document}
use Rattle.raw_view.specs.Frame.Envelope.{IsEnvelope}
use Rattle.raw_view.specs.Errors.{key_of}
use Rattle.raw_view.specs.Frame.Number.{max_length}
use Rattle.raw_view.specs.declared.error.Error.{Error}
use Rattle.raw_view.specs.declared.error.ErrorKind.TheVariants.{MalformedValue}
use Rattle.raw_view.specs.declared.error.Reason.TheVariants.{TooLong}
use Rattle.raw_tree.specs.Canonical.{IsCanonical, IsCanonicalAs}
use Rattle.raw_tree.specs.writer.Encoding.{encoding, encoded_len}
use Rattle.raw_tree.specs.reader.Reading.{Sort, as_document, as_array, Reads, ReadsAs}

-- the bytes are the encoding of the tree, and are no longer than a document may be
abbrev pub IsSpelling : Tree → List ℕ → Type 0
IsSpelling t b = (encoded_len t ≤ max_length) × (encoding t ≡ b)

-- If this tree of a document or of an array is proper and not too long, its encoding has an envelope, is read as the
-- same tree, and is canonical.
abbrev pub ComesBack : Sort → Tree → Type 0
ComesBack sort t = IsProper t → encoded_len t ≤ max_length → IsEnvelope (encoding t) × ReadsAs sort (encoding t) t × IsCanonicalAs sort (encoding t)

-- this holds of the tree of every document; a proper tree has its numbers in their ranges
abbrev pub DocumentsComeBack : Type 0
DocumentsComeBack = (es : Entries) → ComesBack as_document (document es)

-- this holds of the tree of every list
abbrev pub ListsComeBack : Type 0
ListsComeBack = (ts : Trees) → ComesBack as_array (array ts)

-- A tree that these bytes are read as is proper. It is not too long and its encoding is these bytes if and only if
-- they are canonical. Canonical bytes are read as a tree.
pub record IsSpelledOneWay (sort : Sort) (b : List ℕ) : Type 0 where
  pub proper : (t : Tree) → ReadsAs sort b t → IsProper t
  pub unchanged : (t : Tree) → ReadsAs sort b t → (IsSpelling t b ↔ IsCanonicalAs sort b)
  pub canonical_reads : IsCanonicalAs sort b → (t : Tree) × ReadsAs sort b t

-- this holds of all bytes with an envelope
abbrev pub AllAreSpelledOneWay : Sort → Type 0
AllAreSpelledOneWay sort = (b : List ℕ) → IsEnvelope b → IsSpelledOneWay sort b

-- The canonical form theorem: a is the canonical form of the document b.
pub record IsCanonicalForm (b a : List ℕ) : Type 0 where
  pub envelope : IsEnvelope b
  -- the tree of b, and a as its encoding
  pub tree : Tree
  pub read : Reads b tree
  pub spelled : IsSpelling tree a
  -- for every document c with a tree that is not too long: the encoding of that tree is a if and only if it is the
  -- tree of b
  pub same_tree : (c : List ℕ) (t : Tree) → IsEnvelope c → Reads c t → encoded_len t ≤ max_length → ((encoding t ≡ a) ↔ (t ≡ tree))
  -- a is b if and only if b is canonical
  pub unchanged : (a ≡ b) ↔ IsCanonical b
  -- a is a canonical document with the same tree, so a is its own canonical form
  pub form_envelope : IsEnvelope a
  pub canonical : IsCanonical a
  pub reads_back : Reads a tree

-- bytes have at most one canonical form
abbrev pub HaveOneForm : Type 0
HaveOneForm = (b a other : List ℕ) → IsCanonicalForm b a → IsCanonicalForm b other → other ≡ a

-- the encoding of the tree would be too long; the error has no key
abbrev pub TellsTooLong : Tree → Error → Type 0
TellsTooLong t e = (max_length < encoded_len t) × (e.kind ≡ MalformedValue TooLong) × (key_of e ≡ None)
