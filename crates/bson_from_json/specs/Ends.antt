-- The tokens with which a text with open levels may continue and end, so that it writes a document of a size. No public contract cites this file.
use Rattle.std.specs.Prelude.{◌≡◌, ◌≤◌, ◌<◌, ◌+◌, ℕ, false, suc, List, [], ◌∷◌, ◌++◌, codes, length}
use Rattle.json.specs.Json.{Json, Items, Members, object}
use Rattle.json.specs.Token.{Token, begin_object, end_object, key, string}
use Rattle.json.specs.Tree.{json_tokens, items_tokens, members_tokens}
use Rattle.bson_model.specs.Leaf.{Leaf}
use Rattle.bson_model.specs.Proper.{InEntries}
use Rattle.bson_model.specs.Tree.{Tree, Trees, Entries, document}
use Rattle.raw_tree.specs.Encoding.{encoded_len, encoding, entries_len, items_len}
use Rattle.raw_tree.specs.declared.reader.limits.Limits.{Limits}
use Rattle.raw_tree.specs.Payload.{payload_of}
use Rattle.raw_view.specs.Frame.Format.{leaf_payload}
use Rattle.raw_view.specs.Meaning.{RawValue}
use Rattle.values_from_json.specs.Meaning.{AreItems, AreMembers, Means, has_wrapper_key}
use Rattle.values_from_json.specs.Numbers.{IsPlain}
use Rattle.values_from_json.specs.Wrapped.{IsWrapped}
use Rattle.values_from_json.specs.declared.error.JsonReason.{JsonReason}
use Rattle.values_from_json.specs.declared.error.JsonReason.TheVariants as reason
use Rattle.bson_from_json.specs.Depths.{entries_depth, items_depth, tree_depth}
use Rattle.bson_from_json.specs.Levels.{bytes_of, levels_of, readable_parts}
use Rattle.bson_from_json.specs.declared.levels.Holder.{Holder}
use Rattle.bson_from_json.specs.declared.levels.Holder.TheVariants as holder
use Rattle.bson_from_json.specs.declared.levels.Level.{Level}
use Rattle.bson_from_json.specs.declared.reading.Reader.{Reader}
use Rattle.bson_from_json.specs.declared.unfinished.Unfinished.{Unfinished}

-- how many levels a document has, and how many bytes
pub record Size : Type 0 where
  pub depth : ℕ
  pub len : ℕ

-- the size of the document with these members
abbrev pub size_of : Entries → Size
size_of es = record { depth = tree_depth (document es); len = encoded_len (document es) }

-- a value with a meaning of at most d levels and just n bytes is next, followed by these tokens
abbrev pub ValueThen : ℕ → ℕ → List Token → List Token → Type 0
ValueThen d n ts behind = (j : Json) × (t : Tree) × Means j t × (ts ≡ json_tokens j ++ behind) × (tree_depth t ≤ d) × (encoded_len t ≡ n)

-- the members of the text or of a scope are next, followed by its bracket; n counts the bytes of their elements
abbrev pub MembersThen : ℕ → ℕ → List Token → List Token → Type 0
MembersThen d n ts behind = (ms : Members) × (es : Entries) × AreMembers ms es × (ts ≡ members_tokens ms ++ behind) × (entries_depth es ≤ d) × (entries_len es ≡ n)

-- the members of a document are next
abbrev pub OrdinaryThen : ℕ → ℕ → List Token → List Token → Type 0
OrdinaryThen d n ts behind =
    (ms : Members) × (es : Entries) × (has_wrapper_key ms ≡ false) × AreMembers ms es × (ts ≡ members_tokens ms ++ behind) × (entries_depth es ≤ d) × (entries_len es ≡ n)

-- the items of an array are next, of which there were `items` before
abbrev pub ItemsThen : ℕ → ℕ → ℕ → List Token → List Token → Type 0
ItemsThen items d n ts behind = (js : Items) × (trees : Trees) × AreItems js trees × (ts ≡ items_tokens js ++ behind) × (items_depth trees ≤ d) × (items_len items trees ≡ n)

-- a value under this key is next, then the other members of a document
abbrev pub FirstThen : List ℕ → ℕ → ℕ → List Token → List Token → Type 0
FirstThen first d n ts behind = (rest : List Token) × (m others : ℕ) × ValueThen d m ts rest × OrdinaryThen d others rest behind × ((2 + length first + m) + others ≡ n)

-- the rest of a level is next, followed by its bracket
abbrev pub InsideThen : Holder → ℕ → ℕ → List Token → List Token → Type 0
InsideThen holder.Text d n ts behind = MembersThen d n ts behind
InsideThen holder.Document d n ts behind = OrdinaryThen d n ts behind
InsideThen (holder.Begun first) d n ts behind = FirstThen first.now d n ts behind
InsideThen holder.Typed d n ts behind = FirstThen (codes "$type") d n (begin_object ∷ ts) behind
InsideThen (holder.Array items) d n ts behind = ItemsThen items d n ts behind
InsideThen (holder.Scope start) d n ts behind = MembersThen d n ts behind
InsideThen (holder.ScopeBeforeCode start) d n ts behind = MembersThen d n ts behind

-- what follows the bracket of a level inside its wrapper is next, which adds n bytes
abbrev pub WrapperThen : Holder → ℕ → List Token → List Token → Type 0
WrapperThen holder.Text n ts behind = (ts ≡ behind) × (n ≡ 0)
WrapperThen holder.Document n ts behind = (ts ≡ behind) × (n ≡ 0)
WrapperThen (holder.Begun first) n ts behind = (ts ≡ behind) × (n ≡ 0)
WrapperThen holder.Typed n ts behind = (ts ≡ behind) × (n ≡ 0)
WrapperThen (holder.Array items) n ts behind = (ts ≡ behind) × (n ≡ 0)
WrapperThen (holder.Scope start) n ts behind = (ts ≡ end_object ∷ behind) × (n ≡ 0)
WrapperThen (holder.ScopeBeforeCode start) n ts behind = (text : List ℕ) × (ts ≡ key (codes "$code") ∷ string text ∷ end_object ∷ behind) × (n ≡ 5 + length text)

-- the rest of a level, its last byte and the rest of its wrapper are next, followed by these tokens
abbrev pub LevelThen : Holder → ℕ → ℕ → List Token → List Token → Type 0
LevelThen h d n ts behind = (rest : List Token) × (m after : ℕ) × InsideThen h d m ts rest × WrapperThen h after rest behind × ((m + 1) + after ≡ n)

-- after b bytes these levels, the innermost first, are ended by exactly these tokens, and the document has this size
abbrev pub CanEnd : Size → List Level → ℕ → List Token → Type 0
CanEnd size [] b ts = (ts ≡ []) × (b ≡ size.len)
CanEnd size (l ∷ ls) b ts = (behind : List Token) × (d n : ℕ) × LevelThen l.holder d n ts behind × (suc (d + length ls) ≤ size.depth) × CanEnd size ls (b + n) behind

-- the number of bytes that a reader has written
abbrev pub len_of : Reader → ℕ
len_of r = length (bytes_of r)

-- what a reader has read can be ended by exactly the tokens that remain
abbrev pub CanGoOn : Size → Reader → Type 0
CanGoOn size r = CanEnd size (levels_of r) (len_of r) r.source.tokens

-- the same, with one more level innermost
abbrev pub LevelNext : Size → Reader → Level → Type 0
LevelNext size r l = CanEnd size (l ∷ levels_of r) (len_of r) r.source.tokens

-- a value under this key is next, of which these tokens were taken already
abbrev pub ValueNext : Size → Reader → List ℕ → List Token → Type 0
ValueNext size r k taken =
    (behind : List Token) × (d n : ℕ) × ValueThen d n (taken ++ r.source.tokens) behind × (d + length (levels_of r) ≤ size.depth)
    × CanEnd size (levels_of r) (len_of r + (2 + length k + n)) behind

-- the last byte of a level and what follows its bracket are next
abbrev pub WrapperNext : Size → Reader → Holder → Type 0
WrapperNext size r h = (behind : List Token) × (n : ℕ) × WrapperThen h n r.source.tokens behind × CanEnd size (levels_of r) (len_of r + (1 + n)) behind

-- no value is next
abbrev pub LacksValue : List Token → Type 0
LacksValue ts = (d n : ℕ) (behind : List Token) → ¬ ValueThen d n ts behind

-- the rest of such a level isn't next
abbrev pub LacksLevel : Holder → List Token → Type 0
LacksLevel h ts = (d n : ℕ) (behind : List Token) → ¬ LevelThen h d n ts behind

-- the rest of such a wrapper isn't next
abbrev pub LacksWrapper : Holder → List Token → Type 0
LacksWrapper h ts = (n : ℕ) (behind : List Token) → ¬ WrapperThen h n ts behind

-- If what a reader has read could be ended, it still can: a value was next, of which these tokens were taken already.
pub record KeepsValue (old new : Reader) (k : List ℕ) (taken : List Token) : Type 0 where
  pub limits : new.document.limits ≡ old.document.limits
  pub kept : (size : Size) → ValueNext size old k taken → CanGoOn size new

-- .. the rest of a level was next, inside the others
pub record KeepsLevel (old new : Reader) (l : Level) : Type 0 where
  pub limits : new.document.limits ≡ old.document.limits
  pub kept : (size : Size) → LevelNext size old l → CanGoOn size new

-- .. what follows its bracket
pub record KeepsClosed (old new : Reader) (l : Level) : Type 0 where
  pub limits : new.document.limits ≡ old.document.limits
  pub kept : (size : Size) → WrapperNext size old l.holder → CanGoOn size new

-- The reason is out of memory, or a limit that this many levels or bytes exceed.
abbrev pub Exceeds : Limits → ℕ → ℕ → JsonReason → Type 0
Exceeds limits levels bytes reason.OutOfMemory = Unit {0}
Exceeds limits levels bytes reason.TooManyBytes = limits.bytes < bytes
Exceeds limits levels bytes reason.TooDeep = limits.depth < levels
Exceeds limits levels bytes _ = ⊥

-- why this many bytes and levels aren't added to an unfinished document
abbrev pub Refuses : Unfinished → ℕ → ℕ → JsonReason → Type 0
Refuses u bytes levels r = Exceeds u.limits (length u.levels.items + levels) (length u.bytes.items + bytes) r

-- why a document of this size isn't read
abbrev pub Excuses : Limits → Size → JsonReason → Type 0
Excuses limits size r = Exceeds limits size.depth size.len r

-- The reason excuses every document that could be read: a value is next, of which these tokens were taken already.
pub record StopsValue (old : Reader) (k : List ℕ) (taken : List Token) (r : JsonReason) : Type 0 where
  pub excused : (size : Size) → ValueNext size old k taken → Excuses old.document.limits size r

-- .. the rest of a level is next, inside the others
pub record StopsLevel (old : Reader) (l : Level) (r : JsonReason) : Type 0 where
  pub excused : (size : Size) → LevelNext size old l → Excuses old.document.limits size r

-- .. what follows its bracket
pub record StopsClosed (old : Reader) (l : Level) (r : JsonReason) : Type 0 where
  pub excused : (size : Size) → WrapperNext size old l.holder → Excuses old.document.limits size r

-- .. the whole text, whose tokens these are
pub record StopsWhole (limits : Limits) (ts : List Token) (r : JsonReason) : Type 0 where
  pub excused : (ms : Members) (es : Entries) → AreMembers ms es → ts ≡ json_tokens (object ms) → Excuses limits (size_of es) r

-- This element isn't put.
pub record RefusesValue (u : Unfinished) (k : List ℕ) (v : RawValue) (r : JsonReason) : Type 0 where
  pub refused : Refuses u (2 + length k + length (payload_of v)) 0 r

-- The reason refuses every element of a wrapper's value that could be next.
pub record StopsLeaf (old : Reader) (wrapper k : List ℕ) (r : JsonReason) : Type 0 where
  pub refused : (j : Json) (l : Leaf) (rest : List Token) → IsWrapped wrapper j l → old.source.tokens ≡ json_tokens j ++ rest
      → Refuses old.document (2 + length k + length (leaf_payload l)) 0 r

-- .. of this number
pub record StopsPlain (old : Reader) (text k : List ℕ) (r : JsonReason) : Type 0 where
  pub refused : (l : Leaf) → IsPlain text l → Refuses old.document (2 + length k + length (leaf_payload l)) 0 r

-- The reason excuses this document of these bytes.
pub record StopsDocument (limits : Limits) (b : List ℕ) (r : JsonReason) : Type 0 where
  pub excused : (es : Entries) → InEntries readable_parts es → b ≡ encoding (document es) → Excuses limits (size_of es) r

-- every document that the tokens write has just n bytes
pub record HaveLength (ts : List Token) (n : ℕ) : Type 0 where
  pub same : (ms : Members) (es : Entries) → AreMembers ms es → ts ≡ json_tokens (object ms) → encoded_len (document es) ≡ n
