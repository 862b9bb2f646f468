-- Objects whose first key is $binary or $type: the values and the documents that they write.
use Rattle.std.proofs.Common.{◌≡◌, ◌≤◌, ◌⊎◌, ◌+◌, inl, inr, ℕ, suc, List, [], ◌∷◌, ◌++◌, codes, length, length-append, refl, sym, ap, subst, ◌∙◌, append_assoc, arith}
use Rattle.std.proofs.lemmas.Bool.{false≢true}
use Rattle.std.specs.Str.{IsUtf8}
use Rattle.json.specs.Json.{Json, Members, no_members, member}
use Rattle.json.specs.Json as json
use Rattle.json.specs.Reads.{token_of}
use Rattle.json.specs.Token.{Token}
use Rattle.json.specs.Tree.{json_tokens, members_tokens}
use Rattle.json.specs.declared.token.Token.{Token as Read}
use Rattle.json.specs.declared.token.Token.TheVariants as read
use Rattle.bson_model.specs.Leaf.{Leaf, string}
use Rattle.bson_model.specs.Proper.{IsLeafNulFree, IsLeafSubtypeProper}
use Rattle.bson_model.specs.Tree.{leaf}
use Rattle.raw_tree.specs.Encoding.{encoded_len}
use Rattle.raw_tree.specs.Payload.{IsRawInRange, element_bytes, unset}
use Rattle.raw_tree.specs.declared.reader.limits.Limits.{Limits}
use Rattle.raw_view.specs.Frame.Format.{leaf_payload}
use Rattle.raw_view.specs.Meaning.{single}
use Rattle.values_from_json.specs.Taken.{LacksToken, NoToken, TakesNoRest, TakesRest}
use Rattle.values_from_json.specs.Wrapped.{IsWrapped, WritesOne}
use Rattle.values_from_json.specs.declared.error.JsonReason.{JsonReason}
use Rattle.values_from_json.specs.declared.error.JsonReason.TheVariants.{OutOfMemory}
use Rattle.values_from_json.specs.declared.source.Source.{Source}
use Rattle.values_from_json.specs.declared.wrapper.Wrapper.TheVariants as wrapper
use Rattle.values_from_json.proofs.Face.{behind_type, same_value, wrapped_key, writes}
use Rattle.bson_from_json.specs.Ends.{CanEnd, Exceeds, Excuses, FirstThen, KeepsLevel, KeepsValue, LacksValue, LevelNext, LevelThen, OrdinaryThen, Refuses, RefusesValue, Size, StopsLevel, StopsValue, ValueNext, ValueThen, len_of}
use Rattle.bson_from_json.specs.Levels.{HasMembers, MayBeIn, Puts, Rest, TakesLevel, TakesValue, ValueIn, RestIn, bytes_of, headed, level_at, levels_of, typed_bytes}
use Rattle.bson_from_json.specs.declared.levels.Holder.{Holder}
use Rattle.bson_from_json.specs.declared.levels.Holder.TheVariants as holder
use Rattle.bson_from_json.specs.declared.levels.Level.{Level}
use Rattle.bson_from_json.specs.declared.reading.Reader.{Reader}
use Rattle.bson_from_json.specs.declared.unfinished.Unfinished.{Unfinished}
use Rattle.bson_from_json.proofs.Ends.{AloneThen, BegunThen, WrapperValueThen, end_taken, key_taken, none_taken, plain_object, starts}
use Rattle.bson_from_json.proofs.Keeps.{IsWithin, as_object, as_wrapper, binary_is_no_code, binary_is_no_scope, end_is_good, key_is_good, levels_within, no_token, open_keeps, opened_len, put_keeps, puts_len, same_behind, value_refused, value_within}
use Rattle.bson_from_json.proofs.Moments.{IsAt, rest_at, rest_within, value_at}
use Rattle.bson_from_json.proofs.Refusals.{exceeds_more}
use Rattle.bson_from_json.proofs.Sizes.{one_alone_size, one_wrapped_size}
use Rattle.bson_from_json.proofs.Steps.{key_on, opens_document, opens_typed, puts_leaf, puts_rest, puts_typed, takes_member, takes_typed, type_key}
use denote.Ref.{Bor}

-- one value, after the first key of its object

same_members : {ms ns : Members} → json.object ms ≡ json.object ns → ms ≡ ns
same_members e = cc

module _ {first : List ℕ} {ts new : List Token} {l : Leaf} (one : (j : Json) (m : Leaf) → IsWrapped first j l → IsWrapped first j m → length (leaf_payload l) ≡ length (leaf_payload m)) where
  alone_taken : {n : ℕ} (behind : List Token) → TakesRest first ts new l → AloneThen first n ts behind → (new ≡ behind) × (length (leaf_payload l) ≡ n)
  alone_taken {n} behind (j, ms, e, w) (m, (i, ns, f, also), len) =
      let tokens = append_assoc (json_tokens j) (members_tokens ms) new ∙ sym e ∙ f ∙ sym (append_assoc (json_tokens i) (members_tokens ns) behind) in
      let same = same_value (json.object (member first j ms)) (json.object (member first i ns)) new behind
      (ap (λ (x : List Token). Token.begin_object ∷ Token.key first ∷ x) tokens) in
      let both = subst (λ (x : Members). WritesOne x m) (sym (same_members same.0)) also in
      (same.1, one_alone_size l m first j ms (one j m) w both ∙ len)

module _ (old new : Reader) {mid : Reader} {k first : List ℕ} {taken ts : List Token} {l : Leaf} where
  pub rest_put : taken ++ old.source.tokens ≡ Token.begin_object ∷ Token.key first ∷ ts → TakesRest first ts mid.source.tokens l → new.source ≡ mid.source → mid.document ≡ old.document
      → IsLeafNulFree l → IsLeafSubtypeProper l → Puts mid new k (single l) → TakesValue old new k taken
  rest_put e takes source same free proper puts = record {
    made = λ out rest.
        let levels = puts.levels ∙ ap (λ (u : Unfinished). u.levels.items) same in
        let bytes = puts.bytes ∙ ap (λ (u : Unfinished). u.bytes.items ++ element_bytes k (single l)) same in
        subst (λ (x : List Token). ValueIn (Rest out (levels_of old)) k (bytes_of old) x) (sym e)
        (puts_rest (Rest out (levels_of old)) k (bytes_of old) first l takes (puts.in_range, free, proper)
        (rest_at {r = new} out (record { levels = levels; bytes = bytes; tokens = ap (λ (x : Source). x.tokens) source }) rest));
  }

-- the value after $binary

binary_of : {d n : ℕ} {ts behind : List Token} → WrapperValueThen wrapper.Binary d n ts behind → AloneThen (codes "$binary") n ts behind
binary_of {d} {n} {ts} {behind} (inl (j, l, is, e, len)) = (l, (j, no_members, e, is), len)
binary_of {d} {n} {ts} {behind} (inr (inl (same, is))) = absurd (binary_is_no_code (sym same))
binary_of {d} {n} {ts} {behind} (inr (inr (inl (same, is)))) = absurd (binary_is_no_scope (sym same))
binary_of {d} {n} {ts} {behind} (inr (inr (inr (same, is)))) = is

binary_starts : {d n : ℕ} (ts behind : List Token) → ValueThen d n (Token.begin_object ∷ Token.key (codes "$binary") ∷ ts) behind → AloneThen (codes "$binary") n ts behind
binary_starts ts behind value = binary_of (as_wrapper wrapper.Binary ts behind value)

-- .. and after $type

type_starts : {d n : ℕ} (ts behind : List Token) → ValueThen d n (Token.begin_object ∷ Token.key (codes "$type") ∷ ts) behind
    → BegunThen (codes "$type") d n ts behind ⊎ AloneThen (codes "$type") n ts behind
type_starts ts behind value =
    plain_object (codes "$type") ts (Token.key (codes "$type") ∷ ts) behind refl refl (as_object (Token.key (codes "$type") ∷ ts) behind value)

-- digits and $binary aren't next
abbrev pub NoBinary : List Token → Type 0
NoBinary ts = (s : List ℕ) (rest : List Token) → ts ≡ Token.string s ∷ Token.key (codes "$binary") ∷ rest → ⊥

only_begun : {d n : ℕ} {ts behind : List Token} → NoBinary ts → BegunThen (codes "$type") d n ts behind ⊎ AloneThen (codes "$type") n ts behind → BegunThen (codes "$type") d n ts behind
only_begun {d} {n} {ts} {behind} none (inl is) = is
only_begun {d} {n} {ts} {behind} none (inr (l, takes, len)) = let (text, digits, pair, e) = behind_type takes in absurd (none digits _ e)

begun_starts : {d n : ℕ} (ts behind : List Token) → NoBinary ts → ValueThen d n (Token.begin_object ∷ Token.key (codes "$type") ∷ ts) behind → BegunThen (codes "$type") d n ts behind
begun_starts ts behind none value = only_begun none (type_starts ts behind value)

-- a string, then the rest of a document
abbrev pub TextThen : List ℕ → ℕ → ℕ → List Token → List Token → Type 0
TextThen text d n ts behind = (e others : ℕ) × OrdinaryThen e others ts behind × (suc e ≤ d) × (12 + length (leaf_payload (string text)) + others ≡ n)

same_rest : {t u : Token} {a b : List Token} → t ∷ a ≡ u ∷ b → a ≡ b
same_rest e = cc

-- .. or the second key of a binary
text_of : {d n : ℕ} (text : List ℕ) (ts behind : List Token) → BegunThen (codes "$type") d n (Token.string text ∷ ts) behind ⊎ AloneThen (codes "$type") n (Token.string text ∷ ts) behind
    → TextThen text d n ts behind ⊎ ((rest : List Token) × (ts ≡ Token.key (codes "$binary") ∷ rest))
text_of {d} {n} text ts behind (inl (e, m, (rest, one, others, value, more, sum), fewer, five)) =
    let (same, len) = starts (Token.string text ∷ ts) rest value in
    let of_type : length (codes "$type") ≡ 5 = refl in
    inl (e, others, subst (λ (x : List Token). OrdinaryThen e others x behind) (sym same) more, fewer, omega (arith, sum, five, len, of_type))
text_of {d} {n} text ts behind (inr (l, takes, len)) = let (s, digits, pair, e) = behind_type takes in inr (_, same_rest e)

text_starts : {d n : ℕ} (text : List ℕ) (ts behind : List Token) → ValueThen d n (Token.begin_object ∷ Token.key (codes "$type") ∷ Token.string text ∷ ts) behind
    → TextThen text d n ts behind ⊎ ((rest : List Token) × (ts ≡ Token.key (codes "$binary") ∷ rest))
text_starts text ts behind value = text_of text ts behind (type_starts (Token.string text ∷ ts) behind value)

only_text : {d n : ℕ} (text : List ℕ) {ts behind : List Token} → LacksToken ts (Token.key (codes "$binary"))
    → TextThen text d n ts behind ⊎ ((rest : List Token) × (ts ≡ Token.key (codes "$binary") ∷ rest)) → TextThen text d n ts behind
only_text {d} {n} text {ts} {behind} none (inl is) = is
only_text {d} {n} text {ts} {behind} none (inr (rest, e)) = absurd (none rest e)

-- $binary isn't a key of a document
no_document : {d n : ℕ} (text : List ℕ) {ts behind : List Token} → TextThen text d n (Token.key (codes "$binary") ∷ ts) behind → ⊥
no_document {d} {n} text {ts} {behind} (e, others, more, fewer, sum) =
    let may = (key_taken e others holder.Document (Token.key (codes "$binary") ∷ ts) behind tt more (codes "$binary") ts refl).0 in false≢true (sym may.1)

alone_of : {d n : ℕ} (text : List ℕ) (ts behind : List Token)
    → BegunThen (codes "$type") d n (Token.string text ∷ Token.key (codes "$binary") ∷ ts) behind ⊎ AloneThen (codes "$type") n (Token.string text ∷ Token.key (codes "$binary") ∷ ts) behind
    → AloneThen (codes "$type") n (Token.string text ∷ Token.key (codes "$binary") ∷ ts) behind
alone_of text ts behind (inl (e, m, (rest, one, others, value, more, sum), fewer, five)) =
    let (same, len) = starts (Token.string text ∷ Token.key (codes "$binary") ∷ ts) rest value in
    absurd (no_document text (e, others, subst (λ (x : List Token). OrdinaryThen e others x behind) (sym same) more, fewer, refl))
alone_of text ts behind (inr is) = is

typed_starts : {d n : ℕ} (text : List ℕ) (ts behind : List Token) → ValueThen d n (Token.begin_object ∷ Token.key (codes "$type") ∷ Token.string text ∷ Token.key (codes "$binary") ∷ ts) behind
    → AloneThen (codes "$type") n (Token.string text ∷ Token.key (codes "$binary") ∷ ts) behind
typed_starts text ts behind value = alone_of text ts behind (type_starts (Token.string text ∷ Token.key (codes "$binary") ∷ ts) behind value)

-- one value, whose first key and perhaps more was taken

module _ {old : Reader} {k first : List ℕ} {taken ts : List Token}
    (is : (d n : ℕ) (behind : List Token) → ValueThen d n (taken ++ old.source.tokens) behind → AloneThen first n ts behind) where
  rest_stops : (r : JsonReason) → (r ≡ OutOfMemory) ⊎ TakesNoRest first ts → StopsValue old k taken r
  rest_stops r (inl e) = record { excused = λ size next. subst (λ (x : JsonReason). Excuses old.document.limits size x) (sym e) tt }
  rest_stops r (inr none) = record { excused = λ size (behind, d, n, value, deep, outer). let (l, takes, len) = is d n behind value in absurd (none l behind takes) }

  module _ {l : Leaf} {rest : List Token} (one : (j : Json) (m : Leaf) → IsWrapped first j l → IsWrapped first j m → length (leaf_payload l) ≡ length (leaf_payload m))
      (takes : TakesRest first ts rest l) where
    rest_refused : (r : JsonReason) → RefusesValue old.document k (single l) r → StopsValue old k taken r
    rest_refused r over = value_refused r (2 + length k + length (leaf_payload l)) 0
        (λ d m behind value. (omega (arith, (alone_taken one behind takes (is d m behind value)).1), omega arith)) over.refused

    rest_keeps : {mid : Reader} (new : Reader) → new.source.tokens ≡ rest → mid.document ≡ old.document → Puts mid new k (single l) → KeepsValue old new k taken
    rest_keeps {mid} new source same puts =
        put_keeps old new (length (leaf_payload l)) (puts.limits ∙ ap (λ (u : Unfinished). u.limits) same) (puts.levels ∙ ap (λ (u : Unfinished). u.levels.items) same)
        (puts_len puts ∙ ap (λ (u : Unfinished). length u.bytes.items + (2 + length k + length (leaf_payload l))) same)
        (λ d m behind value. let (e, len) = alone_taken one behind takes (is d m behind value) in (source ∙ e, len))

one_binary : {l : Leaf} (j : Json) (m : Leaf) → IsWrapped (codes "$binary") j l → IsWrapped (codes "$binary") j m → length (leaf_payload l) ≡ length (leaf_payload m)
one_binary {l} j m h also = one_wrapped_size wrapper.Binary j l m (writes wrapper.Binary j l h) also

one_type : {l : Leaf} (j : Json) (m : Leaf) → IsWrapped (codes "$type") j l → IsWrapped (codes "$type") j m → length (leaf_payload l) ≡ length (leaf_payload m)
one_type {l} j m h also = absurd (false≢true (wrapped_key (codes "$type") j l h))

-- .. $binary
module _ {old : Reader} {k : List ℕ} where
  pub binary_stops : (r : JsonReason) → (r ≡ OutOfMemory) ⊎ TakesNoRest (codes "$binary") old.source.tokens → StopsValue old k (Token.begin_object ∷ Token.key (codes "$binary") ∷ []) r
  binary_stops r none = rest_stops (λ d n behind value. binary_starts old.source.tokens behind value) r none

  module _ {l : Leaf} {rest : List Token} (takes : TakesRest (codes "$binary") old.source.tokens rest l) where
    pub binary_refused : (r : JsonReason) → RefusesValue old.document k (single l) r → StopsValue old k (Token.begin_object ∷ Token.key (codes "$binary") ∷ []) r
    binary_refused r over = rest_refused (λ d n behind value. binary_starts old.source.tokens behind value) one_binary takes r over

    pub binary_keeps : {mid : Reader} (new : Reader) → new.source.tokens ≡ rest → mid.document ≡ old.document → Puts mid new k (single l)
        → KeepsValue old new k (Token.begin_object ∷ Token.key (codes "$binary") ∷ [])
    binary_keeps {mid} new source same puts = rest_keeps (λ d n behind value. binary_starts old.source.tokens behind value) one_binary takes {mid = mid} new source same puts

-- .. $type, digits and $binary
abbrev pub typed_head : List ℕ → List Token
typed_head s = Token.begin_object ∷ Token.key (codes "$type") ∷ Token.string s ∷ Token.key (codes "$binary") ∷ []

module _ {old : Reader} {k : List ℕ} (s : List ℕ) where
  pub digits_stop : (r : JsonReason) → (r ≡ OutOfMemory) ⊎ TakesNoRest (codes "$type") (Token.string s ∷ Token.key (codes "$binary") ∷ old.source.tokens) → StopsValue old k (typed_head s) r
  digits_stop r none = rest_stops (λ d n behind value. typed_starts s old.source.tokens behind value) r none

  module _ {l : Leaf} {rest : List Token} (takes : TakesRest (codes "$type") (Token.string s ∷ Token.key (codes "$binary") ∷ old.source.tokens) rest l) where
    pub digits_refused : (r : JsonReason) → RefusesValue old.document k (single l) r → StopsValue old k (typed_head s) r
    digits_refused r over = rest_refused (λ d n behind value. typed_starts s old.source.tokens behind value) one_type takes r over

    pub digits_keep : {mid : Reader} (new : Reader) → new.source.tokens ≡ rest → mid.document ≡ old.document → Puts mid new k (single l) → KeepsValue old new k (typed_head s)
    digits_keep {mid} new source same puts = rest_keeps (λ d n behind value. typed_starts s old.source.tokens behind value) one_type takes {mid = mid} new source same puts

-- a document whose first key is $type

same_head : {ts a b : List Token} {t u : Token} → ts ≡ t ∷ a → ts ≡ u ∷ b → t ≡ u
same_head e f = cc

key_is : {k other : List ℕ} → Token.key k ≡ Token.key other → k ≡ other
key_is e = cc

pub no_binary_at : {ts rest : List Token} {t : Token} → ts ≡ t ∷ rest → ((s : List ℕ) → t ≡ Token.string s → ⊥) → NoBinary ts
no_binary_at e other s more f = other s (same_head e f)

pub brace_no_string : (s : List ℕ) → Token.begin_object ≡ Token.string s → ⊥
brace_no_string s e = cc

-- no value of $type is next
lacks_either : {d n : ℕ} {ts behind : List Token} → LacksValue ts → BegunThen (codes "$type") d n ts behind ⊎ AloneThen (codes "$type") n ts behind → ⊥
lacks_either {d} {n} {ts} {behind} none (inl (e, m, (rest, one, others, value, more, sum), fewer, five)) = none e one rest value
lacks_either {d} {n} {ts} {behind} none (inr (l, takes, len)) =
    let (text, s, pair, e) = behind_type takes in none 0 (encoded_len (leaf (string s))) _ (json.string s, leaf (string s), refl, e, omega arith, refl)

pub no_typed_value : {ts : List Token} → LacksValue ts → LacksValue (Token.begin_object ∷ Token.key (codes "$type") ∷ ts)
no_typed_value {ts} none d n behind value = lacks_either none (type_starts ts behind value)

module _ {old : Reader} {k : List ℕ} (none : NoBinary old.source.tokens) where
  -- its header is refused
  pub typed_refused : (r : JsonReason) → Refuses old.document (2 + length k + 4) 1 r → StopsValue old k (Token.begin_object ∷ Token.key (codes "$type") ∷ []) r
  typed_refused r over = value_refused r (2 + length k + 4) 1
      (λ d n behind value. let (e, m, first, fewer, five) = begun_starts old.source.tokens behind none value in (omega (arith, five), omega (arith, fewer))) over

  -- an object is its first value
  pub typed_opens : {new : Reader} (start : ℕ) → old.source.tokens ≡ Token.begin_object ∷ new.source.tokens → new.document.limits ≡ old.document.limits
      → new.document.levels.items ≡ old.document.levels.items ++ level_at holder.Typed start ∷ [] → bytes_of new ≡ headed (bytes_of old) 3 k ++ unset
      → KeepsValue old new k (Token.begin_object ∷ Token.key (codes "$type") ∷ [])
  typed_opens {new} start e limits levels bytes =
      open_keeps old new holder.Typed start (2 + length k + 4) limits refl levels (opened_len old new k 3 bytes)
      (λ d m behind value.
      let (f, inside, members, fewer, five) = begun_starts old.source.tokens behind none value in
      (f, inside + 1 + 0, (behind, inside, 0, subst (λ (x : List Token). FirstThen (codes "$type") f inside x behind) e members, (refl, refl), refl), fewer, omega (arith, five)))

-- another value is
module _ (old mid : Reader) (k : List ℕ) {token : Token} (none : NoBinary old.source.tokens) (start : ℕ)
    (levels_are : mid.document.levels.items ≡ old.document.levels.items ++ level_at holder.Document start ∷ [])
    (bytes_are : bytes_of mid ≡ headed (bytes_of old) 3 k ++ unset) (tokens_are : old.source.tokens ≡ token ∷ mid.source.tokens) where
  typed_next : (size : Size) → ValueNext size old k (Token.begin_object ∷ Token.key (codes "$type") ∷ []) → ValueNext size mid (codes "$type") (token ∷ [])
  typed_next size (behind, d, n, value, deep, outer) =
      let (e, m, (rest, one, others, first, more, sum), fewer, five) = begun_starts old.source.tokens behind none value in
      let levels = levels_within mid old.document.levels.items (level_at holder.Document start) levels_are in
      let room : suc (e + length (levels_of old)) ≤ size.depth = omega (arith, fewer, deep) in
      let ended : len_of old + (2 + length k + n) ≡ (len_of mid + (2 + length (codes "$type") + one)) + (others + 1 + 0) = omega (arith, opened_len old mid k 3 bytes_are, sum, five) in (
        rest,
        e,
        one,
        subst (λ (x : List Token). ValueThen e one x rest) tokens_are first,
        subst (λ (x : List Level). e + length x ≤ size.depth) (sym levels) (omega (arith, room)),
        subst (λ (x : List Level). CanEnd size x (len_of mid + (2 + length (codes "$type") + one)) rest) (sym levels)
            (behind, e, others + 1 + 0, (behind, others, 0, more, (refl, refl), refl), room, subst (λ (x : ℕ). CanEnd size (levels_of old) x behind) ended outer),
      )

  pub typed_keeps : {new : Reader} → mid.document.limits ≡ old.document.limits → KeepsValue mid new (codes "$type") (token ∷ [])
      → KeepsValue old new k (Token.begin_object ∷ Token.key (codes "$type") ∷ [])
  typed_keeps {new} limits keeps = record { limits = keeps.limits ∙ limits; kept = λ size next. keeps.kept size (typed_next size next) }

  pub typed_stops : (r : JsonReason) → mid.document.limits ≡ old.document.limits → StopsValue mid (codes "$type") (token ∷ []) r
      → StopsValue old k (Token.begin_object ∷ Token.key (codes "$type") ∷ []) r
  typed_stops r limits stops = record { excused = λ size next. subst (λ (x : Limits). Excuses x size r) limits (stops.excused size (typed_next size next)) }

-- .. and a string is its first value

abbrev pub text_head : List ℕ → List Token
text_head s = Token.begin_object ∷ Token.key (codes "$type") ∷ Token.string s ∷ []

text_only : {d n : ℕ} (text : List ℕ) (ts behind : List Token) → LacksToken ts (Token.key (codes "$binary"))
    → ValueThen d n (Token.begin_object ∷ Token.key (codes "$type") ∷ Token.string text ∷ ts) behind
    → TextThen text d n ts behind
text_only text ts behind none value = only_text text none (text_starts text ts behind value)

pub no_typed_member : {ts : List Token} (text : List ℕ) → LacksToken ts Token.end_object → ((k : List ℕ) → LacksToken ts (Token.key k)) → LacksValue (text_head text ++ ts)
no_typed_member {ts} text end key d n behind value =
    let (e, others, more, fewer, sum) = text_only text ts behind (key (codes "$binary")) value in none_taken e others holder.Document ts behind tt more end key

pub no_member_token : {ts : List Token} (text : List ℕ) → NoToken ts → LacksValue (text_head text ++ ts)
no_member_token text none = no_typed_member text (no_token none Token.end_object end_is_good) (λ k. no_token none (Token.key k) (key_is_good k))

end_no_key : {ts a b : List Token} {k : List ℕ} → ts ≡ Token.end_object ∷ a → ts ≡ Token.key k ∷ b → ⊥
end_no_key e f = cc

pub end_no_binary : {ts new : List Token} → ts ≡ Token.end_object ∷ new → LacksToken ts (Token.key (codes "$binary"))
end_no_binary e rest f = end_no_key e f

-- a second key, which isn't $binary
pub other_key : {ts new : List Token} {second : List ℕ} → ts ≡ Token.key second ∷ new → (second ≡ codes "$binary" → ⊥) → LacksToken ts (Token.key (codes "$binary"))
other_key e other rest f = other (key_is (same_head e f))

pub no_typed_key : {ts new : List Token} {second : List ℕ} (text : List ℕ) → ts ≡ Token.key second ∷ new → (second ≡ codes "$binary" → ⊥) → (MayBeIn holder.Document second → ⊥)
    → LacksValue (text_head text ++ ts)
no_typed_key {ts} {new} {second} text e other never d n behind value =
    let (f, others, more, fewer, sum) = text_only text ts behind (other_key e other) value in never (key_taken f others holder.Document ts behind tt more second new e).0

module _ {old : Reader} {k : List ℕ} (text : List ℕ) (none : LacksToken old.source.tokens (Token.key (codes "$binary"))) where
  -- what is refused of it
  pub text_refused : (r : JsonReason) (bytes : ℕ) → bytes ≤ 2 + length k + (12 + length (leaf_payload (string text))) → Refuses old.document bytes 1 r → StopsValue old k (text_head text) r
  text_refused r bytes few over = value_refused r bytes 1
      (λ d n behind value.
      let (e, others, more, fewer, sum) = text_only text old.source.tokens behind none value in (omega (arith, few, sum), omega (arith, fewer))) over

  -- nothing follows
  pub text_keeps : {new : Reader} → old.source.tokens ≡ Token.end_object ∷ new.source.tokens → new.document.limits ≡ old.document.limits → new.document.levels.items ≡ old.document.levels.items
      → len_of new ≡ len_of old + (2 + length k + (12 + length (leaf_payload (string text)))) → KeepsValue old new k (text_head text)
  text_keeps {new} e limits levels len =
      put_keeps old new (12 + length (leaf_payload (string text))) limits levels len
      (λ d m behind value.
      let (f, others, more, fewer, sum) = text_only text old.source.tokens behind none value in
      let (same, zero) = end_taken f others holder.Document old.source.tokens behind tt more new.source.tokens e in (same, omega (arith, sum, zero)))

  -- another key does
  module _ (mid : Reader) (second : Bor (List ℕ)) (start : ℕ) (levels_are : mid.document.levels.items ≡ old.document.levels.items ++ level_at (holder.Begun second) start ∷ [])
      (bytes_are : bytes_of mid ≡ headed (bytes_of old) 3 k ++ unset) (limits_are : mid.document.limits ≡ old.document.limits) where
    pub second_keeps : {new : Reader} → old.source.tokens ≡ Token.key second.now ∷ new.source.tokens → Puts mid new (codes "$type") (single (string text)) → KeepsValue old new k (text_head text)
    second_keeps {new} e puts =
        let of_type : length (codes "$type") ≡ 5 = refl in
        let len : len_of new ≡ len_of old + (2 + length k + 4 + (7 + length (leaf_payload (string text)))) = omega (arith, puts_len puts, opened_len old mid k 3 bytes_are, of_type) in
        open_keeps old new (holder.Begun second) start (2 + length k + 4 + (7 + length (leaf_payload (string text)))) (puts.limits ∙ limits_are) refl (puts.levels ∙ levels_are) len
        (λ d m behind value.
        let (f, others, more, fewer, sum) = text_only text old.source.tokens behind none value in
        let (may, rest) = key_taken f others holder.Document old.source.tokens behind tt more second.now new.source.tokens e in
        (f, others + 1 + 0, (behind, others, 0, rest, (refl, refl), refl), fewer, omega (arith, sum)))

    pub second_refused : (r : JsonReason) → RefusesValue mid.document (codes "$type") (single (string text)) r → StopsValue old k (text_head text) r
    second_refused r over =
        let of_type : length (codes "$type") ≡ 5 = refl in
        let deep : length mid.document.levels.items + 0 ≤ length old.document.levels.items + 1 =
        omega (arith, ap length levels_are, length-append old.document.levels.items (level_at (holder.Begun second) start ∷ [])) in
        let few : len_of mid + (2 + length (codes "$type") + length (leaf_payload (string text))) ≤ len_of old + (2 + length k + 4 + (7 + length (leaf_payload (string text)))) =
        omega (arith, opened_len old mid k 3 bytes_are, of_type) in
        text_refused r (2 + length k + 4 + (7 + length (leaf_payload (string text)))) (omega arith) (exceeds_more old.document.limits _ _ _ _ r deep few
        (subst (λ (x : Limits). Exceeds x (length mid.document.levels.items + 0) (len_of mid + (2 + length (codes "$type") + length (leaf_payload (string text)))) r) limits_are over.refused))

-- what comes of the rest

module _ (old new : Reader) where
  -- the document of one string
  pub text_put : (k text : List ℕ) (ts : List Token) → IsRawInRange (single (string text)) → IsAt new old.document.levels.items (typed_bytes (bytes_of old) k text) ts
      → old.source.tokens ≡ Token.end_object ∷ ts → TakesValue old new k (text_head text)
  text_put k text ts range is e = record {
    made = λ out rest.
        subst (λ (x : List Token). ValueIn (Rest out (levels_of old)) k (bytes_of old) (text_head text ++ x)) (sym e)
        (puts_typed (Rest out (levels_of old)) k (bytes_of old) text ts (range, tt, tt) (rest_at {r = new} out is rest));
  }

  -- an object is the first value
  pub typed_opened : (k : List ℕ) (ts : List Token) → IsAt new (old.document.levels.items ++ level_at holder.Typed (length (headed (bytes_of old) 3 k)) ∷ []) (headed (bytes_of old) 3 k ++ unset) ts
      → old.source.tokens ≡ Token.begin_object ∷ ts → TakesValue old new k (Token.begin_object ∷ Token.key (codes "$type") ∷ [])
  typed_opened k ts is e = record {
    made = λ out rest.
        subst (λ (x : List Token). ValueIn (Rest out (levels_of old)) k (bytes_of old) (Token.begin_object ∷ Token.key (codes "$type") ∷ x)) (sym e)
        (opens_typed (Rest out (levels_of old)) k (bytes_of old) ts (rest_within {r = new} _ _ out is rest));
  }

  -- .. which is read on
  pub typed_taken : {mid : Reader} (l : Level) → l.holder ≡ holder.Typed → IsAt mid (old.document.levels.items ++ level_at holder.Document l.start ∷ []) (bytes_of old) old.source.tokens
      → TakesValue mid new (codes "$type") (Token.begin_object ∷ []) → TakesLevel old new l
  typed_taken {mid} l e is value = subst (λ (h : Holder). TakesLevel old new (level_at h l.start)) (sym e) (record {
    made = λ out rest.
        takes_typed (Rest out (levels_of old)) l.start (bytes_of old) old.source.tokens (value_at _ _ out (codes "$type") (Token.begin_object ∷ []) is (value.made out rest));
  })

  -- another value is
  pub other_opened : {mid : Reader} {token : Token} (k : List ℕ)
      → IsAt mid (old.document.levels.items ++ level_at holder.Document (length (headed (bytes_of old) 3 k)) ∷ []) (headed (bytes_of old) 3 k ++ unset) mid.source.tokens
      → old.source.tokens ≡ token ∷ mid.source.tokens → TakesValue mid new (codes "$type") (token ∷ []) → TakesValue old new k (Token.begin_object ∷ Token.key (codes "$type") ∷ [])
  other_opened {mid} {token} k is e value = record {
    made = λ out rest.
        subst (λ (x : List Token). ValueIn (Rest out (levels_of old)) k (bytes_of old) (Token.begin_object ∷ Token.key (codes "$type") ∷ x)) (sym e)
        (opens_document (Rest out (levels_of old)) k (bytes_of old) (Token.key (codes "$type") ∷ token ∷ mid.source.tokens)
        (takes_member (Rest out (levels_of old)) holder.Document (length (headed (bytes_of old) 3 k)) (codes "$type") (headed (bytes_of old) 3 k ++ unset) (token ∷ mid.source.tokens)
        tt type_key.0 (type_key.1, refl) (value_at _ _ out (codes "$type") (token ∷ []) is (value.made out rest))));
  }

  -- a string is, and a key follows
  pub second_opened : {mid : Reader} (k text : List ℕ) (second : Bor (List ℕ)) (ts : List Token)
      → IsAt mid (old.document.levels.items ++ level_at (holder.Begun second) (length (headed (bytes_of old) 3 k)) ∷ []) (headed (bytes_of old) 3 k ++ unset) ts
      → Puts mid new (codes "$type") (single (string text)) → new.source.tokens ≡ ts → IsUtf8 second.now → MayBeIn holder.Document second.now
      → old.source.tokens ≡ Token.key second.now ∷ ts → TakesValue old new k (text_head text)
  second_opened {mid} k text second ts is puts tokens utf8 may e = record {
    made = λ out rest.
        let start = length (headed (bytes_of old) 3 k) in
        let before = headed (bytes_of old) 3 k ++ unset in
        let piece = element_bytes (codes "$type") (single (string text)) in
        let at : IsAt new (old.document.levels.items ++ level_at (holder.Begun second) start ∷ []) (before ++ piece) ts =
        record { levels = puts.levels ∙ is.levels; bytes = puts.bytes ∙ ap (λ (x : List ℕ). x ++ piece) is.bytes; tokens = tokens } in
        let on = key_on (Rest out (levels_of old)) second start (before ++ piece) ts (utf8, may.0) may.1 (rest_within {r = new} _ _ out at rest) in
        let value = puts_leaf (RestIn holder.Document start (Rest out (levels_of old))) (codes "$type") before (json.string text) (string text) (Token.key second.now ∷ ts)
        refl (puts.in_range, tt, tt) on in
        let member = takes_member (Rest out (levels_of old)) holder.Document start (codes "$type") before (Token.string text ∷ Token.key second.now ∷ ts) tt type_key.0 (type_key.1, refl) value in
        subst (λ (x : List Token). ValueIn (Rest out (levels_of old)) k (bytes_of old) (text_head text ++ x)) (sym e)
        (opens_document (Rest out (levels_of old)) k (bytes_of old) (Token.key (codes "$type") ∷ Token.string text ∷ Token.key second.now ∷ ts) member);
  }

-- an object that is the first value of a document, whose brace was taken

module _ (old : Reader) {mid : Reader} (l : Level) (e : l.holder ≡ holder.Typed) (is : IsWithin old mid (level_at holder.Document l.start)) (same : mid.source.tokens ≡ old.source.tokens) where
  typed_within : (size : Size) → LevelNext size old l → ValueNext size mid (codes "$type") (Token.begin_object ∷ [])
  typed_within size (behind, d, n, level, deep, outer) =
      let (rest, m, after, (next, one, others, value, more, total), wrapper, sum) = subst (λ (h : Holder). LevelThen h d n old.source.tokens behind) e level in
      value_within old mid size (codes "$type") behind (level_at holder.Document l.start) (Token.begin_object ∷ []) is
      (subst (λ (x : List Token). ValueThen d one (Token.begin_object ∷ x) next) (sym same) value) (rest, others, after, more, wrapper, refl) (omega (arith, total, sum)) (deep, outer)

  pub level_keeps : {new : Reader} → KeepsValue mid new (codes "$type") (Token.begin_object ∷ []) → KeepsLevel old new l
  level_keeps {new} value = record { limits = value.limits ∙ is.limits; kept = λ size next. value.kept size (typed_within size next) }

  pub level_stops : (r : JsonReason) → StopsValue mid (codes "$type") (Token.begin_object ∷ []) r → StopsLevel old l r
  level_stops r stops = record { excused = λ size next. subst (λ (x : Limits). Excuses x size r) is.limits (stops.excused size (typed_within size next)) }

-- a token that isn't a string
pub no_string_of : (t : Read) → ((s : Bor (List ℕ)) → t ≡ read.String s → ⊥) → (s : List ℕ) → token_of t ≡ Token.string s → ⊥
no_string_of read.BeginObject differ s e = cc
no_string_of read.EndObject differ s e = cc
no_string_of read.BeginArray differ s e = cc
no_string_of read.EndArray differ s e = cc
no_string_of (read.Key k) differ s e = cc
no_string_of (read.String k) differ s e = differ k refl
no_string_of (read.Number k) differ s e = cc
no_string_of (read.Bool b) differ s e = cc
no_string_of read.Null differ s e = cc
no_string_of read.Bad differ s e = cc
