-- The steps of reading: whatever comes of the rest after a step was to come of the rest before it.
use Rattle.std.proofs.Common.{◌≡◌, ◌⊎◌, inl, inr, ℕ, ◌+◌, ◌-◌, Bool, true, false, List, [], ◌∷◌, ◌++◌, ◌||◌, codes, decimal, length, length-append, refl, sym, ap, ◌∙◌, subst, arith, append-nil, append_assoc, reverse}
use Rattle.std.proofs.lemmas.List.{reverse-append}
use Rattle.std.proofs.Math.Seq.{drop-append-add, drop-append_seam, take-append_seam}
use Rattle.json.specs.Json.{Json, Members, array, object, string, no_items, item, no_members, member}
use Rattle.json.specs.Json as json
use Rattle.json.proofs.Printed.Utf8.{IsUtf8-are_ascii}
use Rattle.json.specs.Token.{Token}
use Rattle.json.specs.Tree.{items_tokens, json_tokens, members_tokens}
use Rattle.std.specs.Str.{IsUtf8}
use Rattle.bson_model.specs.Bytes.{NulFree}
use Rattle.bson_model.specs.Leaf.{Leaf, string as string_leaf}
use Rattle.bson_model.specs.Proper.{InEntries}
use Rattle.bson_model.specs.Tree.{Tree, Entries, leaf, document, code_with_scope, no_tree, tree_then, no_entry, entry_then}
use Rattle.bson_model.specs.Tree as tree
use Rattle.raw_tree.specs.Encoding.{encoding, kind_of_tree, tree_payload}
use Rattle.raw_view.specs.Frame.Format.{counted, element_of, framed, leaf_payload, scoped_payload, string_payload}
use Rattle.raw_view.specs.Frame.Kind.{kind_of_leaf}
use Rattle.raw_tree.specs.Payload.{element_bytes, unset}
use Rattle.raw_view.specs.Meaning.{single}
use Rattle.bson_model.proofs.Face.{NulFree-cons, NulFree-nil}
use Rattle.values_from_json.specs.Meaning.{AreMembers, Means, has_wrapper_key, is_wrapper_key}
use Rattle.values_from_json.specs.Wrapped.{IsWrapped, one_member}
use Rattle.values_from_json.specs.Taken.{TakesRest}
use Rattle.bson_from_json.specs.Levels.{headed, with_len, with_string, HasMembers, IsClosed, IsKeyReadable, IsLeafReadable, MayBeIn, MeansReadable, ArePairs, HasFirstOf, HasOrdinaryPairs, HasRestOfLevel, bracket, Makes, RestIn, ValueIn, readable_parts, typed_bytes}
use Rattle.bson_from_json.specs.declared.levels.Holder.{Holder}
use Rattle.bson_from_json.specs.declared.levels.Holder.TheVariants as holder
use Rattle.bson_from_json.specs.declared.levels.Level.{Level}
use denote.Ref.{Bor}

-- the innermost level is the last
pub innermost : (ls : List Level) (l : Level) → reverse (ls ++ l ∷ []) ≡ l ∷ reverse ls
innermost ls l = reverse-append ls (l ∷ [])

-- bytes

-- an element, the rest of a level and its last byte
regrouped : (b piece more : List ℕ) → (b ++ piece) ++ (more ++ 0 ∷ []) ≡ b ++ ((piece ++ more) ++ 0 ∷ [])
regrouped b piece more = append_assoc b piece (more ++ 0 ∷ []) ∙ ap (λ (x : List ℕ). b ++ x) (sym (append_assoc piece more (0 ∷ [])))

-- an element that is written in two parts
pub behind : (b key payload : List ℕ) (tag : ℕ) → (b ++ tag ∷ (key ++ 0 ∷ [])) ++ payload ≡ b ++ tag ∷ (key ++ 0 ∷ payload)
behind b key payload tag = simp append_assoc

-- the four bytes before others, set to the length of all
counted_at : (before rest : List ℕ) → with_len (length before) ((before ++ unset) ++ rest) ≡ before ++ counted rest
counted_at before rest =
    let w : (before ++ unset) ++ rest ≡ before ++ 0 ∷ 0 ∷ 0 ∷ 0 ∷ rest = append_assoc before unset rest in
    let len : length (before ++ 0 ∷ 0 ∷ 0 ∷ 0 ∷ rest) - length before ≡ 4 + length rest = omega (arith, length-append before (0 ∷ 0 ∷ 0 ∷ 0 ∷ rest)) in
    rw (w, len, take-append_seam before (0 ∷ 0 ∷ 0 ∷ 0 ∷ rest), drop-append-add before (0 ∷ 0 ∷ 0 ∷ 0 ∷ rest) 4) refl

framed_in : (tag : ℕ) (k b bytes : List ℕ) → with_len (length (headed b tag k)) ((headed b tag k ++ unset) ++ (bytes ++ 0 ∷ [])) ≡ b ++ tag ∷ (k ++ 0 ∷ framed bytes)
framed_in tag k b bytes = counted_at (headed b tag k) (bytes ++ 0 ∷ []) ∙ behind b k (framed bytes) tag

scoped_in : (k b code bytes : List ℕ) → with_len (length (headed b 15 k)) (with_len (length ((headed b 15 k ++ unset) ++ string_payload code))
    ((((headed b 15 k ++ unset) ++ string_payload code) ++ unset) ++ (bytes ++ 0 ∷ []))) ≡ b ++ 15 ∷ (k ++ 0 ∷ scoped_payload code (framed bytes))
scoped_in k b code bytes =
    let before = headed b 15 k in
    let text = string_payload code in
    ap (λ (x : List ℕ). with_len (length before) x) (counted_at ((before ++ unset) ++ text) (bytes ++ 0 ∷ []) ∙ append_assoc (before ++ unset) text (framed bytes))
    ∙ counted_at before (text ++ framed bytes) ∙ behind b k (scoped_payload code (framed bytes)) 15

-- a string between others
string_at : (before text rest : List ℕ) → with_string (length before) text (before ++ rest) ≡ before ++ (string_payload text ++ rest)
string_at before text rest = rw (take-append_seam before rest, drop-append_seam before rest) refl

code_put_in : (k b code bytes : List ℕ) → with_len (length (headed b 15 k)) (with_string (length (headed b 15 k ++ unset)) code (with_len (length (headed b 15 k ++ unset))
    (((headed b 15 k ++ unset) ++ unset) ++ (bytes ++ 0 ∷ [])))) ≡ b ++ 15 ∷ (k ++ 0 ∷ scoped_payload code (framed bytes))
code_put_in k b code bytes =
    let before = headed b 15 k in
    let text = string_payload code in
    ap (λ (x : List ℕ). with_len (length before) (with_string (length (before ++ unset)) code x)) (counted_at (before ++ unset) (bytes ++ 0 ∷ []))
    ∙ ap (λ (x : List ℕ). with_len (length before) x) (string_at (before ++ unset) code (framed bytes))
    ∙ counted_at before (text ++ framed bytes) ∙ behind b k (scoped_payload code (framed bytes)) 15

-- the pairs of a level, one more before them
more : {ms : Members} {es : Entries} {inside : List Token} {bytes : List ℕ} (k : List ℕ) (j : Json) (t : Tree) → IsKeyReadable k → MeansReadable j t → ArePairs ms es inside bytes
    → ArePairs (member k j ms) (entry_then k t es) (Token.key k ∷ (json_tokens j ++ inside)) (element_of (kind_of_tree t) k (tree_payload t) ++ bytes)
more {ms} {es} k j t key means pairs = record {
  mean = (t, es, key.1, means.0, pairs.mean, refl);
  readable = (key, means.1, pairs.readable);
  tokens = ap (λ (x : List Token). Token.key k ∷ (json_tokens j ++ x)) pairs.tokens;
  bytes_are = ap (λ (x : List ℕ). element_of (kind_of_tree t) k (tree_payload t) ++ x) pairs.bytes_are;
}

neither : (a b : Bool) → a ≡ false → b ≡ false → (a || b) ≡ false
neither false b e f = f
neither true b e f = e

-- a member
goes_on : (h : Holder) (k : List ℕ) (j : Json) (t : Tree) (inside : List Token) (bytes : List ℕ) → HasMembers h → IsUtf8 k → MayBeIn h k → MeansReadable j t → HasRestOfLevel h inside bytes
    → HasRestOfLevel h (Token.key k ∷ (json_tokens j ++ inside)) (element_of (kind_of_tree t) k (tree_payload t) ++ bytes)
goes_on holder.Text k j t inside bytes has text may means (ms, es, pairs) = (member k j ms, entry_then k t es, more k j t (text, may) means pairs)
goes_on holder.Document k j t inside bytes has text may means (ms, es, none, pairs) =
    (member k j ms, entry_then k t es, neither (is_wrapper_key k) (has_wrapper_key ms) may.1 none, more k j t (text, may.0) means pairs)
goes_on (holder.Begun first) k j t inside bytes has text may means on = absurd has
goes_on holder.Typed k j t inside bytes has text may means on = absurd has
goes_on (holder.Array items) k j t inside bytes has text may means on = absurd has
goes_on (holder.Scope start) k j t inside bytes has text may means (ms, es, pairs) = (member k j ms, entry_then k t es, more k j t (text, may) means pairs)
goes_on (holder.ScopeBeforeCode start) k j t inside bytes has text may means (ms, es, pairs) = (member k j ms, entry_then k t es, more k j t (text, may) means pairs)

not_object : Token.end_object ≡ Token.end_array → ⊥
not_object e = cc

no_pairs : ArePairs no_members no_entry (Token.end_object ∷ []) []
no_pairs = record { mean = refl; readable = tt; tokens = refl; bytes_are = refl }

-- the rest of a document after a key
first_pairs : (first : List ℕ) (ts : List Token) (bytes : List ℕ) → IsKeyReadable first → is_wrapper_key first ≡ false → HasFirstOf HasOrdinaryPairs first ts bytes
    → HasOrdinaryPairs (Token.key first ∷ ts) bytes
first_pairs first ts bytes key plain (j, t, others, rest, means, (ms, es, none, pairs), tokens, bytes_are) =
    let whole = more first j t key means pairs in (
      member first j ms,
      entry_then first t es,
      neither (is_wrapper_key first) (has_wrapper_key ms) plain none,
      record {
        mean = whole.mean;
        readable = whole.readable;
        tokens = ap (λ (x : List Token). Token.key first ∷ x) tokens ∙ whole.tokens;
        bytes_are = bytes_are ∙ whole.bytes_are;
      },
    )

-- the key $type
free_type : NulFree (codes "$type")
free_type =
    NulFree-cons 36 (116 ∷ 121 ∷ 112 ∷ 101 ∷ []) (λ e. omega (arith, e)) (NulFree-cons 116 (121 ∷ 112 ∷ 101 ∷ []) (λ e. omega (arith, e))
    (NulFree-cons 121 (112 ∷ 101 ∷ []) (λ e. omega (arith, e)) (NulFree-cons 112 (101 ∷ []) (λ e. omega (arith, e)) (NulFree-cons 101 [] (λ e. omega (arith, e)) NulFree-nil))))

pub type_key : IsKeyReadable (codes "$type")
type_key = (IsUtf8-are_ascii (codes "$type") refl, free_type)

unlike_brace : {t : Token} {a b : List Token} → (Token.begin_object ≡ t → ⊥) → Token.begin_object ∷ a ≡ t ∷ b → ⊥
unlike_brace unlike e = unlike cc

-- a value that begins with a brace
braced : (j : Json) (r ts : List Token) → Token.begin_object ∷ ts ≡ json_tokens j ++ r → (front : List Token) × (json_tokens j ≡ Token.begin_object ∷ front)
braced json.null r ts e = absurd (unlike_brace (λ f. cc) e)
braced (json.boolean b) r ts e = absurd (unlike_brace (λ f. cc) e)
braced (json.number s) r ts e = absurd (unlike_brace (λ f. cc) e)
braced (json.string s) r ts e = absurd (unlike_brace (λ f. cc) e)
braced (json.array js) r ts e = absurd (unlike_brace (λ f. cc) e)
braced (json.object ms) r ts e = (members_tokens ms, refl)

behind_brace : {a b : List Token} → Token.begin_object ∷ a ≡ Token.begin_object ∷ b → a ≡ b
behind_brace e = cc

module _ (On : Makes) where
  -- a level ends
  pub closes : (h : Holder) (start : ℕ) (b : List ℕ) (ts after : List Token) (closed : List ℕ) → HasMembers h ⊎ (bracket h ≡ Token.end_array)
      → IsClosed h start (b ++ 0 ∷ []) after closed → On closed ts → RestIn h start On b (bracket h ∷ (after ++ ts))
  closes holder.Text start b ts after closed may is on = (Token.end_object ∷ [], [], after, closed, ts, (no_members, no_entry, no_pairs), is, refl, on)
  closes holder.Document start b ts after closed may is on = (Token.end_object ∷ [], [], after, closed, ts, (no_members, no_entry, refl, no_pairs), is, refl, on)
  closes (holder.Begun first) start b ts after closed (inl may) is on = absurd may
  closes (holder.Begun first) start b ts after closed (inr may) is on = absurd (not_object may)
  closes holder.Typed start b ts after closed (inl may) is on = absurd may
  closes holder.Typed start b ts after closed (inr may) is on = absurd (not_object may)
  closes (holder.Array items) start b ts after closed may is on = (Token.end_array ∷ [], [], after, closed, ts, (no_items, no_tree, (refl, tt), refl, refl), is, refl, on)
  closes (holder.Scope outer) start b ts after closed may is on = (Token.end_object ∷ [], [], after, closed, ts, (no_members, no_entry, no_pairs), is, refl, on)
  closes (holder.ScopeBeforeCode outer) start b ts after closed may is on = (Token.end_object ∷ [], [], after, closed, ts, (no_members, no_entry, no_pairs), is, refl, on)

  -- an item of an array
  pub takes_item : (n start : ℕ) (b : List ℕ) (ts : List Token) → ValueIn (RestIn (holder.Array (n + 1)) start On) (decimal n) b ts → RestIn (holder.Array n) start On b ts
  takes_item n start b ts (j, t, r, means, e, (inside, bytes, after, closed, rest, (js, trees, are, tokens, bytes_are), is, f, on)) =
      let piece = element_of (kind_of_tree t) (decimal n) (tree_payload t) in (
        json_tokens j ++ inside,
        piece ++ bytes,
        after,
        closed,
        rest,
        (
          item j js,
          tree_then t trees,
          ((t, trees, means.0, are.0, refl), (means.1, are.1)),
          ap (λ (x : List Token). json_tokens j ++ x) tokens,
          ap (λ (x : List ℕ). piece ++ x) bytes_are,
        ),
        subst (λ (x : List ℕ). IsClosed (holder.Array n) start x after closed) (regrouped b piece bytes) is,
        e ∙ ap (λ (x : List Token). json_tokens j ++ x) f ∙ sym (append_assoc (json_tokens j) inside (after ++ rest)),
        on,
      )

  -- a member
  pub takes_member : (h : Holder) (start : ℕ) (k b : List ℕ) (ts : List Token) → HasMembers h → IsUtf8 k → MayBeIn h k → ValueIn (RestIn h start On) k b ts
      → RestIn h start On b (Token.key k ∷ ts)
  takes_member h start k b ts has text may (j, t, r, means, e, (inside, bytes, after, closed, rest, going, is, f, on)) =
      let piece = element_of (kind_of_tree t) k (tree_payload t) in (
        Token.key k ∷ (json_tokens j ++ inside),
        piece ++ bytes,
        after,
        closed,
        rest,
        goes_on h k j t inside bytes has text may means going,
        subst (λ (x : List ℕ). IsClosed h start x after closed) (regrouped b piece bytes) is,
        ap (λ (x : List Token). Token.key k ∷ x) (e ∙ ap (λ (x : List Token). json_tokens j ++ x) f ∙ sym (append_assoc (json_tokens j) inside (after ++ rest))),
        on,
      )

  -- the value of a key that was taken already
  pub takes_first : (first : Bor (List ℕ)) (start : ℕ) (b : List ℕ) (ts : List Token) → ValueIn (RestIn holder.Document start On) first.now b ts → RestIn (holder.Begun first) start On b ts
  takes_first first start b ts (j, t, r, means, e, (inside, bytes, after, closed, rest, going, is, f, on)) =
      let piece = element_of (kind_of_tree t) first.now (tree_payload t) in (
        json_tokens j ++ inside,
        piece ++ bytes,
        after,
        closed,
        rest,
        (j, t, inside, bytes, means, going, refl, refl),
        subst (λ (x : List ℕ). IsClosed (holder.Begun first) start x after closed) (regrouped b piece bytes) is,
        e ∙ ap (λ (x : List Token). json_tokens j ++ x) f ∙ sym (append_assoc (json_tokens j) inside (after ++ rest)),
        on,
      )

  -- levels that are opened

  pub opens_text : (ts : List Token) → RestIn holder.Text 0 On unset ts → (ms : Members) × (es : Entries) × (behind : List Token) × AreMembers ms es
      × InEntries readable_parts es × (ts ≡ members_tokens ms ++ behind) × On (encoding (document es)) behind
  opens_text ts (inside, bytes, after, closed, rest, (ms, es, pairs), (none, is), e, on) = (
    ms,
    es,
    rest,
    pairs.mean,
    pairs.readable,
    e ∙ ap (λ (x : List Token). x ++ (after ++ rest)) pairs.tokens ∙ ap (λ (x : List Token). members_tokens ms ++ (x ++ rest)) none,
    subst (λ (x : List ℕ). On x rest) (is ∙ counted_at [] (bytes ++ 0 ∷ []) ∙ ap framed pairs.bytes_are) on,
  )

  pub opens_array : (k b : List ℕ) (ts : List Token) → RestIn (holder.Array 0) (length (headed b 4 k)) On (headed b 4 k ++ unset) ts → ValueIn On k b (Token.begin_array ∷ ts)
  opens_array k b ts (inside, bytes, after, closed, rest, (js, trees, are, tokens, bytes_are), (none, is), e, on) = (
    array js,
    tree.array trees,
    rest,
    ((trees, are.0, refl), are.1),
    ap (λ (x : List Token). Token.begin_array ∷ x)
        (e ∙ ap (λ (x : List Token). x ++ (after ++ rest)) tokens ∙ ap (λ (x : List Token). items_tokens js ++ (x ++ rest)) none),
    subst (λ (x : List ℕ). On x rest) (is ∙ framed_in 4 k b bytes ∙ ap (λ (x : List ℕ). b ++ 4 ∷ (k ++ 0 ∷ framed x)) bytes_are) on,
  )

  pub opens_document : (k b : List ℕ) (ts : List Token) → RestIn holder.Document (length (headed b 3 k)) On (headed b 3 k ++ unset) ts → ValueIn On k b (Token.begin_object ∷ ts)
  opens_document k b ts (inside, bytes, after, closed, rest, (ms, es, none, pairs), (ended, is), e, on) = (
    object ms,
    document es,
    rest,
    (inl (es, none, pairs.mean, refl), (tt, pairs.readable)),
    ap (λ (x : List Token). Token.begin_object ∷ x) (e ∙ ap (λ (x : List Token). x ++ (after ++ rest)) pairs.tokens ∙ ap (λ (x : List Token). members_tokens ms ++ (x ++ rest)) ended),
    subst (λ (x : List ℕ). On x rest) (is ∙ framed_in 3 k b bytes ∙ ap (λ (x : List ℕ). b ++ 3 ∷ (k ++ 0 ∷ framed x)) pairs.bytes_are) on,
  )

  -- a key of a document, which was taken already
  pub key_on : (first : Bor (List ℕ)) (start : ℕ) (b : List ℕ) (ts : List Token) → IsKeyReadable first.now → is_wrapper_key first.now ≡ false → RestIn (holder.Begun first) start On b ts
      → RestIn holder.Document start On b (Token.key first.now ∷ ts)
  key_on first start b ts key plain (inside, bytes, after, closed, rest, has, is, e, on) =
      (Token.key first.now ∷ inside, bytes, after, closed, rest, first_pairs first.now inside bytes key plain has, is, ap (λ (x : List Token). Token.key first.now ∷ x) e, on)

  pub opens_begun : (k b : List ℕ) (first : Bor (List ℕ)) (ts : List Token) → IsKeyReadable first.now → is_wrapper_key first.now ≡ false
      → RestIn (holder.Begun first) (length (headed b 3 k)) On (headed b 3 k ++ unset) ts → ValueIn On k b (Token.begin_object ∷ Token.key first.now ∷ ts)
  opens_begun k b first ts key plain on = opens_document k b (Token.key first.now ∷ ts) (key_on first (length (headed b 3 k)) (headed b 3 k ++ unset) ts key plain on)

  -- a document whose first key is $type

  pub opens_typed : (k b : List ℕ) (ts : List Token) → RestIn holder.Typed (length (headed b 3 k)) On (headed b 3 k ++ unset) ts
      → ValueIn On k b (Token.begin_object ∷ Token.key (codes "$type") ∷ Token.begin_object ∷ ts)
  opens_typed k b ts (inside, bytes, after, closed, rest, has, is, e, on) =
      opens_document k b (Token.key (codes "$type") ∷ Token.begin_object ∷ ts) (
        Token.key (codes "$type") ∷ Token.begin_object ∷ inside,
        bytes,
        after,
        closed,
        rest,
        first_pairs (codes "$type") (Token.begin_object ∷ inside) bytes type_key refl has,
        is,
        ap (λ (x : List Token). Token.key (codes "$type") ∷ Token.begin_object ∷ x) e,
        on,
      )

  pub takes_typed : (start : ℕ) (b : List ℕ) (ts : List Token) → ValueIn (RestIn holder.Document start On) (codes "$type") b (Token.begin_object ∷ ts) → RestIn holder.Typed start On b ts
  takes_typed start b ts (j, t, r, means, e, (inside, bytes, after, closed, rest, going, is, f, on)) =
      let piece = element_of (kind_of_tree t) (codes "$type") (tree_payload t) in
      let (front, g) = braced j r ts e in (
        front ++ inside,
        piece ++ bytes,
        after,
        closed,
        rest,
        (j, t, inside, bytes, means, going, ap (λ (x : List Token). x ++ inside) (sym g), refl),
        subst (λ (x : List ℕ). IsClosed holder.Typed start x after closed) (regrouped b piece bytes) is,
        behind_brace (e ∙ ap (λ (x : List Token). x ++ r) g ∙ ap (λ (x : List Token). Token.begin_object ∷ (front ++ x)) f) ∙ sym (append_assoc front inside (after ++ rest)),
        on,
      )

  -- .. one of that element alone
  pub puts_typed : (k b text : List ℕ) (ts : List Token) → IsLeafReadable (string_leaf text) → On (typed_bytes b k text) ts
      → ValueIn On k b (Token.begin_object ∷ Token.key (codes "$type") ∷ Token.string text ∷ Token.end_object ∷ ts)
  puts_typed k b text ts readable on =
      let es = entry_then (codes "$type") (leaf (string_leaf text)) no_entry in
      let piece = element_bytes (codes "$type") (single (string_leaf text)) in (
        object (one_member (codes "$type") (string text)),
        document es,
        ts,
        (inl (es, refl, (leaf (string_leaf text), no_entry, type_key.1, refl, refl, refl), refl), (tt, (type_key, readable, tt))),
        refl,
        subst (λ (x : List ℕ). On x ts) (ap (λ (x : List ℕ). with_len (length (headed b 3 k)) x) (append_assoc (headed b 3 k ++ unset) piece (0 ∷ []))
            ∙ framed_in 3 k b piece ∙ ap (λ (x : List ℕ). b ++ 3 ∷ (k ++ 0 ∷ framed x)) (sym (append-nil piece))) on,
      )

  -- a document without members
  pub puts_empty : (k b : List ℕ) (ts : List Token) → On (headed b 3 k ++ framed []) ts → ValueIn On k b (Token.begin_object ∷ Token.end_object ∷ ts)
  puts_empty k b ts on =
      (object no_members, document no_entry, ts, (inl (no_entry, refl, refl, refl), (tt, tt)), refl, subst (λ (x : List ℕ). On x ts) (behind b k (framed []) 3) on)

  -- a scope after its code
  pub opens_scope : (k b code : List ℕ) (ts : List Token) → IsUtf8 code
      → RestIn (holder.Scope (length (headed b 15 k))) (length ((headed b 15 k ++ unset) ++ string_payload code)) On (((headed b 15 k ++ unset) ++ string_payload code) ++ unset) ts
      → ValueIn On k b (Token.begin_object ∷ Token.key (codes "$code") ∷ Token.string code ∷ Token.key (codes "$scope") ∷ Token.begin_object ∷ ts)
  opens_scope k b code ts text (inside, bytes, after, closed, rest, (ms, es, pairs), (ended, is), e, on) = (
    object (member (codes "$code") (string code) (one_member (codes "$scope") (object ms))),
    code_with_scope code es,
    rest,
    (inr (inr (inl (code, es, refl, refl, refl, pairs.mean, refl))), (text, tt, pairs.readable)),
    ap (λ (x : List Token). Token.begin_object ∷ Token.key (codes "$code") ∷ Token.string code ∷ Token.key (codes "$scope") ∷ Token.begin_object ∷ x)
        (e ∙ ap (λ (x : List Token). x ++ (after ++ rest)) pairs.tokens ∙ ap (λ (x : List Token). members_tokens ms ++ (x ++ rest)) ended
        ∙ sym (append_assoc (members_tokens ms) (Token.end_object ∷ []) rest)),
    subst (λ (x : List ℕ). On x rest) (is ∙ scoped_in k b code bytes ∙ ap (λ (x : List ℕ). b ++ 15 ∷ (k ++ 0 ∷ scoped_payload code (framed x))) pairs.bytes_are) on,
  )

  -- a scope before its code
  pub opens_before_code : (k b : List ℕ) (ts : List Token)
      → RestIn (holder.ScopeBeforeCode (length (headed b 15 k))) (length (headed b 15 k ++ unset)) On ((headed b 15 k ++ unset) ++ unset) ts
      → ValueIn On k b (Token.begin_object ∷ Token.key (codes "$scope") ∷ Token.begin_object ∷ ts)
  opens_before_code k b ts (inside, bytes, after, closed, rest, (ms, es, pairs), (code, text, ended, is), e, on) = (
    object (member (codes "$scope") (object ms) (one_member (codes "$code") (string code))),
    code_with_scope code es,
    rest,
    (inr (inr (inr (code, es, refl, refl, pairs.mean, refl, refl))), (text, tt, pairs.readable)),
    ap (λ (x : List Token). Token.begin_object ∷ Token.key (codes "$scope") ∷ Token.begin_object ∷ x)
        (e ∙ ap (λ (x : List Token). x ++ (after ++ rest)) pairs.tokens ∙ ap (λ (x : List Token). members_tokens ms ++ (x ++ rest)) ended
        ∙ sym (append_assoc (members_tokens ms) (Token.key (codes "$code") ∷ Token.string code ∷ Token.end_object ∷ []) rest)),
    subst (λ (x : List ℕ). On x rest) (is ∙ code_put_in k b code bytes ∙ ap (λ (x : List ℕ). b ++ 15 ∷ (k ++ 0 ∷ scoped_payload code (framed x))) pairs.bytes_are) on,
  )

  -- values that hold no others

  pub puts_leaf : (k b : List ℕ) (j : Json) (l : Leaf) (ts : List Token) → Means j (leaf l) → IsLeafReadable l → On (b ++ element_of (kind_of_leaf l) k (leaf_payload l)) ts
      → ValueIn On k b (json_tokens j ++ ts)
  puts_leaf k b j l ts means readable on = (j, leaf l, ts, (means, readable), refl, on)

  -- what follows the first key of an object that writes one value
  pub puts_rest : {ts new : List Token} (k b first : List ℕ) (l : Leaf) → TakesRest first ts new l → IsLeafReadable l → On (b ++ element_of (kind_of_leaf l) k (leaf_payload l)) new
      → ValueIn On k b (Token.begin_object ∷ Token.key first ∷ ts)
  puts_rest {ts} {new} k b first l (j, ms, e, is) readable on = (
    object (member first j ms),
    leaf l,
    new,
    (inr (inl (l, is, refl)), readable),
    ap (λ (x : List Token). Token.begin_object ∷ Token.key first ∷ x) (e ∙ sym (append_assoc (json_tokens j) (members_tokens ms) new)),
    on,
  )

  pub puts_wrapped : {old : List Token} (k b wrapper : List ℕ) (j : Json) (l : Leaf) (mid new : List Token) → IsWrapped wrapper j l × IsLeafReadable l → old ≡ json_tokens j ++ mid
      → mid ≡ Token.end_object ∷ new → On (b ++ element_of (kind_of_leaf l) k (leaf_payload l)) new → ValueIn On k b (Token.begin_object ∷ Token.key wrapper ∷ old)
  puts_wrapped {old} k b wrapper j l mid new is e f on = (
    object (one_member wrapper j),
    leaf l,
    new,
    (inr (inl (l, is.0, refl)), is.1),
    ap (λ (x : List Token). Token.begin_object ∷ Token.key wrapper ∷ x)
        (e ∙ ap (λ (x : List Token). json_tokens j ++ x) f ∙ sym (append_assoc (json_tokens j) (Token.end_object ∷ []) new)),
    on,
  )

-- a level that may continue with members
pub has_members : (h : Holder) → ((n : ℕ) → h ≡ holder.Array n → ⊥) → ((k : Bor (List ℕ)) → h ≡ holder.Begun k → ⊥) → (h ≡ holder.Typed → ⊥) → HasMembers h
has_members holder.Text a b c = tt
has_members holder.Document a b c = tt
has_members (holder.Begun first) a b c = absurd (b first refl)
has_members holder.Typed a b c = absurd (c refl)
has_members (holder.Array items) a b c = absurd (a items refl)
has_members (holder.Scope start) a b c = tt
has_members (holder.ScopeBeforeCode start) a b c = tt

pub object_bracket : (h : Holder) → HasMembers h → bracket h ≡ Token.end_object
object_bracket holder.Text has = refl
object_bracket holder.Document has = refl
object_bracket (holder.Begun first) has = refl
object_bracket holder.Typed has = refl
object_bracket (holder.Array items) has = absurd has
object_bracket (holder.Scope start) has = refl
object_bracket (holder.ScopeBeforeCode start) has = refl
