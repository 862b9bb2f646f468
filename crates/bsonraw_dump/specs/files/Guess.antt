-- What a file looks like that is no dump, or no text in UTF-8, as far as its first bytes tell.
use Rattle.std.specs.Prelude.{◌≡◌, ◌⊎◌, ◌≤◌, ℕ, List, [], ◌∷◌, ◌++◌, Option, None, Some, codes, drop, take}
use Rattle.std.specs.List.{All}
use Rattle.std.specs.Str.{IsTrimAsciiStart}
use Rattle.raw_view.specs.Frame.{Frame, IsFrame}
use Rattle.raw_view.specs.Frame.Kind.{tag_of}
use Rattle.raw_view.specs.declared.element_type.ElementType.{ElementType}
use Rattle.dump_io.specs.input.Cut.{IsPiece, IsSoundLength, said_len}

-- how many bytes of a file are looked at
abbrev pub front_of : List ℕ → List ℕ
front_of s = take 64 s

-- s begins with these bytes
abbrev pub Begins : List ℕ → List ℕ → Type 0
Begins bytes s = (r : List ℕ) × (s ≡ bytes ++ r)

-- a byte is the tag of an element
abbrev pub IsTag : ℕ → Type 0
IsTag byte = (kind : ElementType) × (byte ≡ tag_of kind)

-- This byte may come after the length of a document: the final 0 of one without elements, or the tag of an element of one that has as
-- many bytes as a document has.
abbrev pub MayFollow : (most : ℕ) → (len : ℕ) → ℕ → Type 0
MayFollow most len byte = ((byte ≡ 0) × (len ≡ 5)) ⊎ (IsTag byte × IsSoundLength most len)

-- the first of these bytes, if there is one, may
abbrev pub MayGoOn : (most : ℕ) → (len : ℕ) → List ℕ → Type 0
MayGoOn most len [] = Unit {0}
MayGoOn most len (byte ∷ r) = MayFollow most len byte

-- a document of at most this number of bytes may begin with s
abbrev pub MayBegin : (most : ℕ) → List ℕ → Type 0
MayBegin most s = MayGoOn most (said_len s) (drop 4 s)

-- a document of at most this number of bytes that has no elements, or whose first one can be read
pub record OpensWell (most : ℕ) (d : List ℕ) : Type 0 where
  pub piece : IsPiece most d
  pub opens : (drop 4 d ≡ 0 ∷ []) ⊎ ((f : Frame) × (r : List ℕ) × IsFrame (drop 4 d) f r)

-- gzip, RFC 1952
abbrev pub IsGzip : List ℕ → Type 0
IsGzip s = Begins (0x1F ∷ 0x8B ∷ []) s

-- a frame of Zstandard, RFC 8878
abbrev pub IsZstd : List ℕ → Type 0
IsZstd s = Begins (0x28 ∷ 0xB5 ∷ 0x2F ∷ 0xFD ∷ []) s

-- an archive of mongodump: 0x8199E26D, the least byte first
abbrev pub IsArchive : List ℕ → Type 0
IsArchive s = Begins (0x6D ∷ 0xE2 ∷ 0x99 ∷ 0x81 ∷ []) s

-- UTF-16 with a byte order mark, of either order
abbrev pub IsUtf16 : List ℕ → Type 0
IsUtf16 s = Begins (0xFF ∷ 0xFE ∷ []) s ⊎ Begins (0xFE ∷ 0xFF ∷ []) s

-- a character of ASCII that is printed, a tab or the end of a line
abbrev pub IsPlain : ℕ → Type 0
IsPlain byte = (byte ≡ 9) ⊎ (byte ≡ 10) ⊎ (byte ≡ 13) ⊎ ((0x20 ≤ byte) × (byte ≤ 0x7E))

-- after white space an object or an array begins
abbrev pub OpensJson : List ℕ → Type 0
OpensJson s = (r : List ℕ) × IsTrimAsciiStart s r × (Begins (codes "{") r ⊎ Begins (codes "[") r)

-- the byte order mark of UTF-8
abbrev pub IsMarked : List ℕ → Type 0
IsMarked s = Begins (0xEF ∷ 0xBB ∷ 0xBF ∷ []) s

-- after it an object or an array begins
abbrev pub IsMarkedJson : List ℕ → Type 0
IsMarkedJson s = IsMarked s × All IsPlain (drop 3 s) × OpensJson (drop 3 s)

-- a digit of a number in base 16, or white space
abbrev pub IsDigitOrSpace : ℕ → Type 0
IsDigitOrSpace byte = ((0x30 ≤ byte) × (byte ≤ 0x39)) ⊎ ((0x41 ≤ byte) × (byte ≤ 0x46)) ⊎ ((0x61 ≤ byte) × (byte ≤ 0x66))
    ⊎ (byte ≡ 9) ⊎ (byte ≡ 10) ⊎ (byte ≡ 13) ⊎ (byte ≡ 0x20)

-- what a file looks like that begins so, and what helps
abbrev pub LooksLike : List ℕ → List ℕ → Type 0
LooksLike s words =
    (IsGzip s × (words ≡ codes "looks like gzip, not a dump: gzip -dc FILE | bsonraw-dump .."))
    ⊎ (IsZstd s × (words ≡ codes "looks like zstd, not a dump: zstd -dc FILE | bsonraw-dump .."))
    ⊎ (IsArchive s × (words ≡ codes "looks like an archive: mongorestore --archive=FILE, then mongodump"))
    ⊎ (IsUtf16 s × (words ≡ codes "looks like text in UTF-16, not a dump"))
    ⊎ (IsMarkedJson s × (words ≡ codes "looks like JSON, not a dump: tail -c +4 FILE | bsonraw-dump bson"))
    ⊎ (All IsPlain s × OpensJson s × (words ≡ codes "looks like JSON, not a dump: bsonraw-dump bson FILE, or mongoimport, reads it"))
    ⊎ (All IsDigitOrSpace s × (words ≡ codes "looks like hex digits, not a dump: xxd -r -p FILE | bsonraw-dump .., or bsonraw"))
    ⊎ (All IsPlain s × (¬ OpensJson s) × (¬ All IsDigitOrSpace s) × (words ≡ codes "looks like text, not a dump; --resync looks for documents in it"))

-- it looks like none of these
abbrev pub LooksLikeNothing : List ℕ → Type 0
LooksLikeNothing s = (words : List ℕ) → ¬ LooksLike s words

-- what is told of a file that begins so and has to be a dump of documents of at most this number of bytes: what it looks like, unless a document
-- may begin so
abbrev pub Hints : (most : ℕ) → List ℕ → Option (List ℕ) → Type 0
Hints most s (Some words) = (¬ MayBegin most (front_of s)) × LooksLike (front_of s) words
Hints most s None = MayBegin most (front_of s) ⊎ LooksLikeNothing (front_of s)

-- what is told of a file that begins so and has to be a text in UTF-8
abbrev pub HintsAtText : List ℕ → Option (List ℕ) → Type 0
HintsAtText s (Some words) =
    (IsGzip s × (words ≡ codes "looks like gzip, not text: gzip -dc FILE | bsonraw-dump bson"))
    ⊎ (IsUtf16 s × (words ≡ codes "looks like text in UTF-16: iconv -f UTF-16 -t UTF-8 FILE | bsonraw-dump bson"))
    ⊎ (IsMarked s × (words ≡ codes "begins with a byte order mark: tail -c +4 FILE | bsonraw-dump bson"))
HintsAtText s None = (¬ IsGzip s) × (¬ IsUtf16 s) × (¬ IsMarked s)

-- the same of a file that has to be a dump of documents of at most this number of bytes, or a text
abbrev pub HintsAt : Option ℕ → List ℕ → Option (List ℕ) → Type 0
HintsAt (Some most) s words = Hints most s words
HintsAt None s words = HintsAtText s words
