-- Documents and arrays that are borrowed or owned.
use Rattle.std.specs.Prelude.{◌≡◌, ℕ, List}
use Rattle.raw_view.specs.Document.{bytes_of}
use Rattle.raw_view.specs.Meaning.Value.{array_bytes_of}
use Rattle.raw_view.specs.declared.document.RawDocument.{RawDocument}
use Rattle.raw_view.specs.declared.array.RawArray.{RawArray}
use Rattle.raw_bson.specs.declared.cow.CowRawDocument.{CowRawDocument}
use Rattle.raw_bson.specs.declared.cow.CowRawDocument.TheVariants as cow
use Rattle.raw_bson.specs.declared.cow.CowRawArray.{CowRawArray}
use Rattle.raw_bson.specs.declared.cow.CowRawArray.TheVariants as cow_array

-- the bytes of the document
abbrev pub cow_bytes : CowRawDocument → List ℕ
cow_bytes (cow.Borrowed d) = bytes_of d
cow_bytes (cow.Owned d) = d

-- the bytes of the array
abbrev pub cow_array_bytes : CowRawArray → List ℕ
cow_array_bytes (cow_array.Borrowed a) = array_bytes_of a
cow_array_bytes (cow_array.Owned a) = a.bytes

-- a borrowed document of these bytes
abbrev pub BorrowsDocument : List ℕ → CowRawDocument → Type 0
BorrowsDocument b c = (d : RawDocument) × (c ≡ cow.Borrowed d) × (bytes_of d ≡ b)

-- a borrowed array of these bytes
abbrev pub BorrowsArray : List ℕ → CowRawArray → Type 0
BorrowsArray b c = (a : RawArray) × (c ≡ cow_array.Borrowed a) × (array_bytes_of a ≡ b)
