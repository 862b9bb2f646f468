-- The rest of a text with open levels, and the bytes that must come of it. No public contract cites this file.
use Rattle.std.specs.Prelude.{◌≡◌, ◌⊎◌, ℕ, pos, ◌+◌, ◌-◌, false, List, [], ◌∷◌, ◌++◌, codes, drop, length, reverse, take}
use Rattle.std.specs.Str.{IsUtf8}
use Rattle.json.specs.Json.{Json, Items, Members, object}
use Rattle.json.specs.Token.{Token, begin_object, end_object, end_array, key, string}
use Rattle.json.specs.Tree.{json_tokens, items_tokens, members_tokens}
use Rattle.bson_model.specs.Bytes.{NulFree}
use Rattle.bson_model.specs.Leaf.{Leaf, string as text_of}
use Rattle.bson_model.specs.Proper.{Everywhere, InEntries, InTrees, IsLeafInRange, IsLeafNulFree, IsLeafSubtypeProper, OfParts, Whatever}
use Rattle.bson_model.specs.Tree.{Tree, Trees, Entries, document}
use Rattle.raw_tree.specs.Encoding.{encoding, entries_bytes, items_bytes, kind_of_tree, tree_payload}
use Rattle.raw_tree.specs.Reading.{Reads}
use Rattle.raw_view.specs.Frame.Envelope.{IsEnvelope}
use Rattle.raw_view.specs.Frame.Format.{element_of, string_payload}
use Rattle.raw_view.specs.Meaning.{RawValue, single}
use Rattle.raw_view.specs.Frame.Number.{le32}
use Rattle.raw_tree.specs.Payload.{IsRawInRange, element_bytes, unset}
use Rattle.values_from_json.specs.Meaning.{AreItems, AreMembers, Means, has_wrapper_key, is_wrapper_key}
use Rattle.values_from_json.specs.Wrapped.{IsWrapped}
use Rattle.bson_from_json.specs.declared.levels.Holder.{Holder}
use Rattle.bson_from_json.specs.declared.levels.Holder.TheVariants as holder
use Rattle.bson_from_json.specs.declared.levels.Level.{Level}
use Rattle.bson_from_json.specs.declared.reading.Reader.{Reader}

-- a level that starts here
abbrev pub level_at : Holder → ℕ → Level
level_at h start = record { holder = h; start = start }

-- the level of an array that starts here and has this many items
abbrev pub array_level : ℕ → ℕ → Level
array_level items start = level_at (holder.Array items) start

-- the bytes, where the four bytes at `start` are set to the number of bytes from there on
abbrev pub with_len : ℕ → List ℕ → List ℕ
with_len start b = take start b ++ (le32 (pos (length b - start)) ++ drop (start + 4) b)

-- the bytes followed by a tag and a key
abbrev pub headed : List ℕ → ℕ → List ℕ → List ℕ
headed b tag k = b ++ tag ∷ (k ++ 0 ∷ [])

-- the bytes, with a string after the first `at`
abbrev pub with_string : ℕ → List ℕ → List ℕ → List ℕ
with_string at text b = take at b ++ (string_payload text ++ drop at b)

-- the bytes followed by a document under this key, whose one element is a string with the key $type
abbrev pub typed_bytes : List ℕ → List ℕ → List ℕ → List ℕ
typed_bytes b k text = with_len (length (headed b 3 k)) (((headed b 3 k ++ unset) ++ element_bytes (codes "$type") (single (text_of text))) ++ 0 ∷ [])

-- the bytes up to the scope of a code
abbrev pub before_scope : List ℕ → List ℕ → List ℕ → List ℕ
before_scope b k code = (headed b 15 k ++ unset) ++ string_payload code

-- a level may continue with members
abbrev pub HasMembers : Holder → Type 0
HasMembers holder.Text = Unit {0}
HasMembers holder.Document = Unit {0}
HasMembers (holder.Begun first) = ⊥
HasMembers holder.Typed = ⊥
HasMembers (holder.Array items) = ⊥
HasMembers (holder.Scope start) = Unit {0}
HasMembers (holder.ScopeBeforeCode start) = Unit {0}

-- a key contains no 0, and in a document it isn't that of a wrapper
abbrev pub MayBeIn : Holder → List ℕ → Type 0
MayBeIn holder.Document k = NulFree k × (is_wrapper_key k ≡ false)
MayBeIn _ k = NulFree k

-- what is read again after it is written: the leaf is in range, its C strings contain no 0, and its subtype is the one of its byte
abbrev pub IsLeafReadable : Leaf → Type 0
IsLeafReadable l = IsLeafInRange l × IsLeafNulFree l × IsLeafSubtypeProper l

-- a key that is read again
abbrev pub IsKeyReadable : List ℕ → Type 0
IsKeyReadable k = IsUtf8 k × NulFree k

-- the parts of a tree that is read again; keys may repeat
abbrev pub readable_parts : OfParts
readable_parts = record { of_leaf = IsLeafReadable; of_code = IsUtf8; of_key = IsKeyReadable; of_keys = Whatever }

-- the tree is read again after it is written
abbrev pub IsReadable : Tree → Type 0
IsReadable = Everywhere readable_parts

-- the value means this tree, which is readable
abbrev pub MeansReadable : Json → Tree → Type 0
MeansReadable j t = Means j t × IsReadable t

-- these members write these pairs; the tokens of the members with the bracket; and the bytes of the elements
pub record ArePairs (ms : Members) (es : Entries) (ts : List Token) (bytes : List ℕ) : Type 0 where
  pub mean : AreMembers ms es
  pub readable : InEntries readable_parts es
  pub tokens : ts ≡ members_tokens ms
  pub bytes_are : bytes ≡ entries_bytes es

-- these are the tokens of members, and the bytes of what they write
abbrev pub HasPairs : List Token → List ℕ → Type 0
HasPairs ts bytes = (ms : Members) × (es : Entries) × ArePairs ms es ts bytes

-- the same of the members of a document
abbrev pub HasOrdinaryPairs : List Token → List ℕ → Type 0
HasOrdinaryPairs ts bytes = (ms : Members) × (es : Entries) × (has_wrapper_key ms ≡ false) × ArePairs ms es ts bytes

-- the same of the items of an array
abbrev pub HasItems : ℕ → List Token → List ℕ → Type 0
HasItems n ts bytes = (js : Items) × (trees : Trees) × (AreItems js trees × InTrees readable_parts trees) × (ts ≡ items_tokens js) × (bytes ≡ items_bytes n trees)

-- a value, and what follows it
abbrev pub HasFirstOf : (List Token → List ℕ → Type 0) → List ℕ → List Token → List ℕ → Type 0
HasFirstOf P k ts bytes =
    (j : Json) × (t : Tree) × (others : List Token) × (more : List ℕ) × MeansReadable j t × P others more
    × (ts ≡ json_tokens j ++ others) × (bytes ≡ element_of (kind_of_tree t) k (tree_payload t) ++ more)

-- a level continues with these tokens up to its bracket, which write these elements
abbrev pub HasRestOfLevel : Holder → List Token → List ℕ → Type 0
HasRestOfLevel holder.Text ts bytes = HasPairs ts bytes
HasRestOfLevel holder.Document ts bytes = HasOrdinaryPairs ts bytes
HasRestOfLevel (holder.Begun first) ts bytes = HasFirstOf HasOrdinaryPairs first.now ts bytes
HasRestOfLevel holder.Typed ts bytes = HasFirstOf HasOrdinaryPairs (codes "$type") (begin_object ∷ ts) bytes
HasRestOfLevel (holder.Array items) ts bytes = HasItems items ts bytes
HasRestOfLevel (holder.Scope start) ts bytes = HasPairs ts bytes
HasRestOfLevel (holder.ScopeBeforeCode start) ts bytes = HasPairs ts bytes

-- the closing bracket of a level
abbrev pub bracket : Holder → Token
bracket (holder.Array items) = end_array
bracket holder.Text = end_object
bracket holder.Document = end_object
bracket (holder.Begun first) = end_object
bracket holder.Typed = end_object
bracket (holder.Scope start) = end_object
bracket (holder.ScopeBeforeCode start) = end_object

-- what follows the bracket of a level inside its wrapper, and with it the bytes up to the end of the level, with the lengths set
abbrev pub IsClosed : Holder → ℕ → List ℕ → List Token → List ℕ → Type 0
IsClosed (holder.Array items) start b ts closed = (ts ≡ []) × (closed ≡ with_len start b)
IsClosed holder.Text start b ts closed = (ts ≡ []) × (closed ≡ with_len start b)
IsClosed holder.Document start b ts closed = (ts ≡ []) × (closed ≡ with_len start b)
IsClosed (holder.Begun first) start b ts closed = (ts ≡ []) × (closed ≡ with_len start b)
IsClosed holder.Typed start b ts closed = (ts ≡ []) × (closed ≡ with_len start b)
IsClosed (holder.Scope outer) start b ts closed = (ts ≡ end_object ∷ []) × (closed ≡ with_len outer (with_len start b))
IsClosed (holder.ScopeBeforeCode outer) start b ts closed =
    (code : List ℕ) × IsUtf8 code × (ts ≡ key (codes "$code") ∷ string code ∷ end_object ∷ [])
    × (closed ≡ with_len outer (with_string start code (with_len start b)))

-- a relation between bytes and the tokens after them
abbrev pub Makes : Type 1
Makes = List ℕ → List Token → Type 0

-- after the bytes b a level continues to its end, and `On` holds of what comes after it
abbrev pub RestIn : Holder → ℕ → Makes → Makes
RestIn h start On = λ b ts.
    (inside : List Token) × (bytes : List ℕ) × (after : List Token) × (closed : List ℕ) × (behind : List Token)
    × HasRestOfLevel h inside bytes × IsClosed h start (b ++ (bytes ++ 0 ∷ [])) after closed × (ts ≡ inside ++ (after ++ behind)) × On closed behind

-- after the bytes b these levels, the innermost first, are ended by exactly these tokens, and the result is `out`
abbrev pub Rest : List ℕ → List Level → Makes
Rest out [] = λ b ts. (ts ≡ []) × (out ≡ b)
Rest out (l ∷ ls) = RestIn l.holder l.start (Rest out ls)

-- a value is next, its element follows the bytes b, and `On` holds of what comes after it
abbrev pub ValueIn : Makes → List ℕ → Makes
ValueIn On k b ts =
    (j : Json) × (t : Tree) × (behind : List Token) × MeansReadable j t × (ts ≡ json_tokens j ++ behind)
    × On (b ++ element_of (kind_of_tree t) k (tree_payload t)) behind

-- the levels of a reader, the innermost first
abbrev pub levels_of : Reader → List Level
levels_of r = reverse r.document.levels.items

-- the bytes that a reader has written
abbrev pub bytes_of : Reader → List ℕ
bytes_of r = r.document.bytes.items

-- the rest of a reader's text gives these bytes
abbrev pub RestOf : List ℕ → Reader → Type 0
RestOf out r = Rest out (levels_of r) (bytes_of r) r.source.tokens

-- Whatever comes of the rest now was to come of the rest before, which had this level inside its others.
pub record TakesLevel (old new : Reader) (l : Level) : Type 0 where
  pub made : (out : List ℕ) → RestOf out new → Rest out (l ∷ levels_of old) (bytes_of old) old.source.tokens

-- .. and its bracket before it
pub record ClosesBracket (old new : Reader) (l : Level) : Type 0 where
  pub made : HasMembers l.holder ⊎ (bracket l.holder ≡ end_array) → (out : List ℕ) → RestOf out new
      → Rest out (l ∷ levels_of old) (bytes_of old) (bracket l.holder ∷ old.source.tokens)

-- .. and was a value under this key, of which these tokens were taken already
pub record TakesValue (old new : Reader) (k : List ℕ) (taken : List Token) : Type 0 where
  pub made : (out : List ℕ) → RestOf out new → ValueIn (Rest out (levels_of old)) k (bytes_of old) (taken ++ old.source.tokens)

-- the element with this key and this value follows the bytes, and the levels and limits are unchanged
pub record Puts (old new : Reader) (k : List ℕ) (v : RawValue) : Type 0 where
  pub limits : new.document.limits ≡ old.document.limits
  pub levels : new.document.levels.items ≡ old.document.levels.items
  pub bytes : bytes_of new ≡ bytes_of old ++ element_bytes k v
  pub in_range : IsRawInRange v

-- the value of a wrapper with this key is taken, and what it means is put under a key
pub record TakesLeaf (old new : Reader) (wrapper k : List ℕ) : Type 0 where
  pub json : Json
  pub says : Leaf
  pub is : IsWrapped wrapper json says
  pub nul_free : IsLeafNulFree says
  pub subtype : IsLeafSubtypeProper says
  pub tokens : old.source.tokens ≡ json_tokens json ++ new.source.tokens
  pub puts : Puts old new k (single says)

-- the bytes are those of a readable document
abbrev pub IsReadableDocument : List ℕ → Type 0
IsReadableDocument b = (es : Entries) × InEntries readable_parts es × (b ≡ encoding (document es))

-- the bytes have an envelope, and are read as a tree
abbrev pub IsReadAgain : List ℕ → Type 0
IsReadAgain b = IsEnvelope b × ((t : Tree) × Reads b t)

-- the tokens are those of an object whose members write a readable document with these bytes
abbrev pub SaysBytes : List Token → List ℕ → Type 0
SaysBytes ts b = (ms : Members) × (es : Entries) × AreMembers ms es × InEntries readable_parts es × (ts ≡ json_tokens (object ms)) × (b ≡ encoding (document es))
