-- The tokens that remain of a level, a value or a wrapper after its first ones were taken, and how many levels and bytes they write.
use Rattle.std.proofs.Common.{◌≡◌, ◌≤◌, ◌⊎◌, ◌||◌, ◌+◌, ℕ, max, suc, Bool, true, false, List, [], ◌∷◌, ◌++◌, codes, decimal, length, refl, sym, ap, subst, ◌∙◌, inl, inr, append_assoc, arith}
use Rattle.std.proofs.Math.Nat.{le-max_left, le-max_right}
use Rattle.std.proofs.lemmas.Bool.{false≢true}
use Rattle.json.specs.Json.{Json, Members, no_items, item, no_members, member}
use Rattle.json.specs.Json as json
use Rattle.json.specs.Token.{Token}
use Rattle.json.specs.Tree.{json_tokens, items_tokens, members_tokens}
use Rattle.bson_model.specs.Bytes.{NulFree}
use Rattle.bson_model.specs.Leaf.{Leaf, boolean, string}
use Rattle.bson_model.specs.Tree.{Tree, Trees, Entries, code_with_scope, document, entry_then, no_entry}
use Rattle.raw_tree.specs.Encoding.{encoded_len, entries_len, items_len}
use Rattle.raw_view.specs.Frame.Format.{leaf_payload}
use Rattle.values_from_json.specs.Numbers.{IsPlain}
use Rattle.values_from_json.specs.Meaning.{IsWhole, Means, has_wrapper_key, is_wrapper_key}
use Rattle.values_from_json.specs.Taken.{LacksToken, TakesRest}
use Rattle.values_from_json.specs.Wrapped.{IsOldBinary, IsWrapped}
use Rattle.bson_from_json.specs.Depths.{entries_depth, items_depth, tree_depth}
use Rattle.bson_from_json.specs.Levels.{HasMembers, MayBeIn}
use Rattle.values_from_json.specs.Keys.{wrapper_key}
use Rattle.bson_from_json.specs.Ends.{FirstThen, InsideThen, ItemsThen, MembersThen, OrdinaryThen, ValueThen}
use Rattle.bson_from_json.specs.declared.levels.Holder.{Holder}
use Rattle.bson_from_json.specs.declared.levels.Holder.TheVariants as holder
use Rattle.values_from_json.specs.declared.wrapper.Wrapper.{Wrapper}
use Rattle.values_from_json.specs.declared.wrapper.Wrapper.TheVariants as wrapper
use Rattle.values_from_json.proofs.Face.{is_of_wrapper, named, old_binary_first, wrapped_key}

-- the size of a tree that equals another

deep_as : {d : ℕ} {t u : Tree} → t ≡ u → tree_depth t ≤ d → tree_depth u ≤ d
deep_as {d} {t} {u} is deep = subst (λ (x : Tree). tree_depth x ≤ d) is deep

long_as : {n : ℕ} {t u : Tree} → t ≡ u → encoded_len t ≡ n → encoded_len u ≡ n
long_as {n} {t} {u} is long = sym (ap encoded_len is) ∙ long

-- the first token of a value

abbrev pub ObjectThen : ℕ → ℕ → List Token → List Token → Type 0
ObjectThen d n ts behind = (ms : Members) × (t : Tree) × Means (json.object ms) t × (ts ≡ members_tokens ms ++ behind) × (tree_depth t ≤ d) × (encoded_len t ≡ n)

abbrev pub ArrayThen : ℕ → ℕ → List Token → List Token → Type 0
ArrayThen d n ts behind = (e m : ℕ) × ItemsThen 0 e m ts behind × (suc e ≤ d) × (5 + m ≡ n)

abbrev pub NumberThen : List ℕ → ℕ → List Token → List Token → Type 0
NumberThen s n ts behind = (l : Leaf) × IsPlain s l × (ts ≡ behind) × (length (leaf_payload l) ≡ n)

abbrev pub Starts : ℕ → ℕ → List Token → List Token → Type 0
Starts d n [] behind = ⊥
Starts d n (Token.begin_object ∷ ts) behind = ObjectThen d n ts behind
Starts d n (Token.end_object ∷ ts) behind = ⊥
Starts d n (Token.begin_array ∷ ts) behind = ArrayThen d n ts behind
Starts d n (Token.end_array ∷ ts) behind = ⊥
Starts d n (Token.key s ∷ ts) behind = ⊥
Starts d n (Token.string s ∷ ts) behind = (ts ≡ behind) × (length (leaf_payload (string s)) ≡ n)
Starts d n (Token.number s ∷ ts) behind = NumberThen s n ts behind
Starts d n (Token.boolean b ∷ ts) behind = (ts ≡ behind) × (length (leaf_payload (boolean b)) ≡ n)
Starts d n (Token.null ∷ ts) behind = (ts ≡ behind) × (0 ≡ n)
Starts d n (Token.bad ∷ ts) behind = ⊥

of_json : (d n : ℕ) (j : Json) (t : Tree) (behind : List Token) → Means j t → tree_depth t ≤ d → encoded_len t ≡ n → Starts d n (json_tokens j ++ behind) behind
of_json d n json.null t behind m deep long = (refl, long_as m long)
of_json d n (json.boolean b) t behind m deep long = (refl, long_as m long)
of_json d n (json.number s) t behind (l, is, e) deep long = (l, is, refl, long_as e long)
of_json d n (json.string s) t behind m deep long = (refl, long_as m long)
of_json d n (json.array js) t behind (ts, are, e) deep long = (items_depth ts, items_len 0 ts, (js, ts, are, refl, omega arith, refl), deep_as e deep, long_as e long)
of_json d n (json.object ms) t behind m deep long = (ms, t, m, refl, deep, long)

pub starts : {d n : ℕ} (ts behind : List Token) → ValueThen d n ts behind → Starts d n ts behind
starts {d} {n} ts behind (j, t, means, e, deep, long) = subst (λ (x : List Token). Starts d n x behind) (sym e) (of_json d n j t behind means deep long)

-- the first token of a level

left_false : (a b : Bool) → (a || b) ≡ false → a ≡ false
left_false false b e = refl
left_false true b e = e

right_false : (a b : Bool) → (a || b) ≡ false → b ≡ false
right_false false b e = e
right_false true b e = absurd (false≢true (sym e))

-- the bracket is first
abbrev pub EndThen : Token → ℕ → List Token → List Token → Type 0
EndThen bracket n ts behind = (ts ≡ bracket ∷ behind) × (0 ≡ n)

-- the value of this key, then more
abbrev pub RestThen : Holder → List ℕ → ℕ → ℕ → List Token → List Token → Type 0
RestThen h k d n after behind = (rest : List Token) × (m others : ℕ) × ValueThen d m after rest × InsideThen h d others rest behind × ((2 + length k + m) + others ≡ n)

-- a key, its value and more
abbrev pub MemberThen : Holder → ℕ → ℕ → List Token → List Token → Type 0
MemberThen h d n ts behind = (k : List ℕ) × (after : List Token) × (ts ≡ Token.key k ∷ after) × MayBeIn h k × RestThen h k d n after behind

of_members : (h : Holder) → ((k : List ℕ) → NulFree k → MayBeIn h k) → ((d n : ℕ) (ts behind : List Token) → MembersThen d n ts behind → InsideThen h d n ts behind)
    → (d n : ℕ) (ts behind : List Token) → MembersThen d n ts behind → EndThen Token.end_object n ts behind ⊎ MemberThen h d n ts behind
of_members h may is d n ts behind (no_members, es, are, e, deep, long) = inl (e, sym (ap entries_len are) ∙ long)
of_members h may is d n ts behind (member k j ms, es, (t, others, free, means, are, f), e, deep, long) =
    let rest = members_tokens ms ++ behind in
    let within : max (tree_depth t) (entries_depth others) ≤ d = subst (λ (x : Entries). entries_depth x ≤ d) f deep in
    let first : tree_depth t ≤ d = omega (arith, within, le-max_left (tree_depth t) (entries_depth others)) in
    let more : entries_depth others ≤ d = omega (arith, within, le-max_right (tree_depth t) (entries_depth others)) in
    inr (
      k,
      json_tokens j ++ rest,
      e ∙ ap (λ (x : List Token). Token.key k ∷ x) (append_assoc (json_tokens j) (members_tokens ms) behind),
      may k free,
      (
        rest,
        encoded_len t,
        entries_len others,
        (j, t, means, refl, first, refl),
        is d (entries_len others) rest behind (ms, others, are, refl, more, refl),
        sym (ap entries_len f) ∙ long,
      ),
    )

of_ordinary : (d n : ℕ) (ts behind : List Token) → OrdinaryThen d n ts behind → EndThen Token.end_object n ts behind ⊎ MemberThen holder.Document d n ts behind
of_ordinary d n ts behind (no_members, es, none, are, e, deep, long) = inl (e, sym (ap entries_len are) ∙ long)
of_ordinary d n ts behind (member k j ms, es, none, (t, others, free, means, are, f), e, deep, long) =
    let rest = members_tokens ms ++ behind in
    let within : max (tree_depth t) (entries_depth others) ≤ d = subst (λ (x : Entries). entries_depth x ≤ d) f deep in
    let first : tree_depth t ≤ d = omega (arith, within, le-max_left (tree_depth t) (entries_depth others)) in
    let more : entries_depth others ≤ d = omega (arith, within, le-max_right (tree_depth t) (entries_depth others)) in
    inr (
      k,
      json_tokens j ++ rest,
      e ∙ ap (λ (x : List Token). Token.key k ∷ x) (append_assoc (json_tokens j) (members_tokens ms) behind),
      (free, left_false (is_wrapper_key k) (has_wrapper_key ms) none),
      (
        rest,
        encoded_len t,
        entries_len others,
        (j, t, means, refl, first, refl),
        (ms, others, right_false (is_wrapper_key k) (has_wrapper_key ms) none, are, refl, more, refl),
        sym (ap entries_len f) ∙ long,
      ),
    )

level_starts : (h : Holder) → HasMembers h → (d n : ℕ) (ts behind : List Token) → InsideThen h d n ts behind → EndThen Token.end_object n ts behind ⊎ MemberThen h d n ts behind
level_starts holder.Text has d n ts behind inside = of_members holder.Text (λ k free. free) (λ e m x y i. i) d n ts behind inside
level_starts holder.Document has d n ts behind inside = of_ordinary d n ts behind inside
level_starts (holder.Begun first) has d n ts behind inside = absurd has
level_starts holder.Typed has d n ts behind inside = absurd has
level_starts (holder.Array items) has d n ts behind inside = absurd has
level_starts (holder.Scope start) has d n ts behind inside = of_members (holder.Scope start) (λ k free. free) (λ e m x y i. i) d n ts behind inside
level_starts (holder.ScopeBeforeCode start) has d n ts behind inside = of_members (holder.ScopeBeforeCode start) (λ k free. free) (λ e m x y i. i) d n ts behind inside

unlike_key : {ts a b : List Token} {k : List ℕ} → ts ≡ Token.end_object ∷ a → ts ≡ Token.key k ∷ b → ⊥
unlike_key e f = cc

same_key : {ts a b : List Token} {k k' : List ℕ} → ts ≡ Token.key k ∷ a → ts ≡ Token.key k' ∷ b → k ≡ k'
same_key e f = cc

behind_key : {ts a b : List Token} {k k' : List ℕ} → ts ≡ Token.key k ∷ a → ts ≡ Token.key k' ∷ b → a ≡ b
behind_key e f = cc

behind_token : {ts a b : List Token} {t : Token} → ts ≡ t ∷ a → ts ≡ t ∷ b → a ≡ b
behind_token e f = cc

abbrev pub KeyThen : Holder → List ℕ → ℕ → ℕ → List Token → List Token → Type 0
KeyThen h k d n new behind = MayBeIn h k × RestThen h k d n new behind

module _ (d n : ℕ) (h : Holder) (ts behind : List Token) where
  key_first : EndThen Token.end_object n ts behind ⊎ MemberThen h d n ts behind → (k : List ℕ) (new : List Token) → ts ≡ Token.key k ∷ new → KeyThen h k d n new behind
  key_first (inl f) k new e = absurd (unlike_key f.0 e)
  key_first (inr (k', after, f, may, value)) k new e =
      let at = subst (λ (x : List Token). RestThen h k' d n x behind) (behind_key f e) value in
      (subst (MayBeIn h) (same_key f e) may, subst (λ (x : List ℕ). RestThen h x d n new behind) (same_key f e) at)

  end_first : EndThen Token.end_object n ts behind ⊎ MemberThen h d n ts behind → (new : List Token) → ts ≡ Token.end_object ∷ new → (new ≡ behind) × (0 ≡ n)
  end_first (inl f) new e = (behind_token e f.0, f.1)
  end_first (inr (k', after, f, may, value)) new e = absurd (unlike_key e f)

  none_first : EndThen Token.end_object n ts behind ⊎ MemberThen h d n ts behind → LacksToken ts Token.end_object → ((k : List ℕ) → LacksToken ts (Token.key k)) → ⊥
  none_first (inl f) end key = end behind f.0
  none_first (inr (k, after, f, may, value)) end key = key k after f

  pub key_taken : HasMembers h → InsideThen h d n ts behind → (k : List ℕ) (new : List Token) → ts ≡ Token.key k ∷ new → KeyThen h k d n new behind
  key_taken has inside k new e = key_first (level_starts h has d n ts behind inside) k new e

  pub end_taken : HasMembers h → InsideThen h d n ts behind → (new : List Token) → ts ≡ Token.end_object ∷ new → (new ≡ behind) × (0 ≡ n)
  end_taken has inside new e = end_first (level_starts h has d n ts behind inside) new e

  pub none_taken : HasMembers h → InsideThen h d n ts behind → LacksToken ts Token.end_object → ((k : List ℕ) → LacksToken ts (Token.key k)) → ⊥
  none_taken has inside end key = none_first (level_starts h has d n ts behind inside) end key

-- the first token of an array's rest

abbrev pub ItemThen : ℕ → ℕ → ℕ → List Token → List Token → Type 0
ItemThen items d n ts behind =
    (rest : List Token) × (m others : ℕ) × ValueThen d m ts rest × ItemsThen (items + 1) d others rest behind × ((2 + length (decimal items) + m) + others ≡ n)

items_start : {d n : ℕ} (items : ℕ) (ts behind : List Token) → ItemsThen items d n ts behind → EndThen Token.end_array n ts behind ⊎ ItemThen items d n ts behind
items_start {d} {n} items ts behind (no_items, trees, are, e, deep, long) = inl (e, sym (ap (items_len items) are) ∙ long)
items_start {d} {n} items ts behind (item j js, trees, (t, others, means, are, f), e, deep, long) =
    let rest = items_tokens js ++ behind in
    let within : max (tree_depth t) (items_depth others) ≤ d = subst (λ (x : Trees). items_depth x ≤ d) f deep in
    let first : tree_depth t ≤ d = omega (arith, within, le-max_left (tree_depth t) (items_depth others)) in
    let more : items_depth others ≤ d = omega (arith, within, le-max_right (tree_depth t) (items_depth others)) in
    inr (
      rest,
      encoded_len t,
      items_len (items + 1) others,
      (j, t, means, e ∙ append_assoc (json_tokens j) (items_tokens js) behind, first, refl),
      (js, others, are, refl, more, refl),
      sym (ap (items_len items) f) ∙ long,
    )

module _ {d n : ℕ} (items : ℕ) (ts behind : List Token) where
  array_end_first : EndThen Token.end_array n ts behind ⊎ ItemThen items d n ts behind → (new : List Token) → ts ≡ Token.end_array ∷ new → (new ≡ behind) × (0 ≡ n)
  array_end_first (inl f) new e = (behind_token e f.0, f.1)
  array_end_first (inr (rest, m, others, value, more, sum)) new e = absurd (subst (λ (x : List Token). Starts d m x rest) e (starts ts rest value))

  item_first : EndThen Token.end_array n ts behind ⊎ ItemThen items d n ts behind → LacksToken ts Token.end_array → ItemThen items d n ts behind
  item_first (inl f) end = absurd (end behind f.0)
  item_first (inr is) end = is

  pub array_end_taken : ItemsThen items d n ts behind → (new : List Token) → ts ≡ Token.end_array ∷ new → (new ≡ behind) × (0 ≡ n)
  array_end_taken is new e = array_end_first (items_start items ts behind is) new e

  pub item_next : ItemsThen items d n ts behind → LacksToken ts Token.end_array → ItemThen items d n ts behind
  item_next is end = item_first (items_start items ts behind is) end

-- objects

-- what follows the first key of an object that writes one value
abbrev pub AloneThen : List ℕ → ℕ → List Token → List Token → Type 0
AloneThen first n ts behind = (l : Leaf) × TakesRest first ts behind l × (length (leaf_payload l) ≡ n)

no_old_binary : {l : Leaf} → IsOldBinary no_members l → ⊥
no_old_binary {l} (text, digits, bytes, subtype, inl e, decoded, of_digits, is) = cc
no_old_binary {l} (text, digits, bytes, subtype, inr e, decoded, of_digits, is) = cc

-- the first of its keys that is no wrapper's
type_first : {k : List ℕ} → is_wrapper_key k ≡ false → (k ≡ codes "$binary") ⊎ (k ≡ codes "$type") → k ≡ codes "$type"
type_first {k} plain (inl e) = absurd (false≢true (sym plain ∙ ap is_wrapper_key e))
type_first {k} plain (inr e) = e

alone_type : {k : List ℕ} {ts behind : List Token} {l : Leaf} → is_wrapper_key k ≡ false → TakesRest k ts behind l → k ≡ codes "$type"
alone_type {k} {ts} {behind} {l} plain (j, no_members, e, w) = absurd (false≢true (sym plain ∙ wrapped_key k j l w))
alone_type {k} {ts} {behind} {l} plain (j, member m i ms, e, w) = type_first plain (old_binary_first w)

pub empty_object : {d n : ℕ} (ts behind new : List Token) → ObjectThen d n ts behind → ts ≡ Token.end_object ∷ new → (new ≡ behind) × (1 ≤ d) × (5 ≡ n)
empty_object {d} {n} ts behind new (no_members, t, inl (es, none, are, says), e, deep, long) f =
    let whole : t ≡ document no_entry = says ∙ ap document are in (behind_token f e, deep_as whole deep, long_as whole long)
empty_object {d} {n} ts behind new (no_members, t, inr (inl (l, w, says)), e, deep, long) f = absurd (no_old_binary w)
empty_object {d} {n} ts behind new (no_members, t, inr (inr w), e, deep, long) f = absurd w
empty_object {d} {n} ts behind new (member k j ms, t, means, e, deep, long) f = absurd (unlike_key f e)

pub no_object : {d n : ℕ} (ts behind : List Token) → LacksToken ts Token.end_object → ((k : List ℕ) → LacksToken ts (Token.key k)) → ObjectThen d n ts behind → ⊥
no_object {d} {n} ts behind end key (no_members, t, means, e, deep, long) = end behind e
no_object {d} {n} ts behind end key (member k j ms, t, means, e, deep, long) = key k ((json_tokens j ++ members_tokens ms) ++ behind) e

-- the members of a document, after its first key
abbrev pub BegunThen : List ℕ → ℕ → ℕ → List Token → List Token → Type 0
BegunThen k d n new behind = (e m : ℕ) × FirstThen k e m new behind × (suc e ≤ d) × (5 + m ≡ n)

-- what an object is whose first key is this
module _ (k : List ℕ) (new ts behind : List Token) (e : ts ≡ Token.key k ∷ new) where
  first_key : (k' : List ℕ) (j : Json) (ms : Members) → ts ≡ members_tokens (member k' j ms) ++ behind → k' ≡ k
  first_key k' j ms f = same_key f e

  value_behind : (k' : List ℕ) (j : Json) (ms : Members) → ts ≡ members_tokens (member k' j ms) ++ behind → new ≡ json_tokens j ++ (members_tokens ms ++ behind)
  value_behind k' j ms f = behind_key e f ∙ append_assoc (json_tokens j) (members_tokens ms) behind

  -- no key of a wrapper
  module _ (plain : is_wrapper_key k ≡ false) where
    no_wrapper : (k' : List ℕ) (j : Json) (ms : Members) → ts ≡ members_tokens (member k' j ms) ++ behind → is_wrapper_key k' ≡ true → ⊥
    no_wrapper k' j ms f is = false≢true (sym plain ∙ ap is_wrapper_key (sym (first_key k' j ms f)) ∙ is)

    module _ {d n : ℕ} where
      -- a document, or one value
      pub plain_object : ObjectThen d n ts behind → BegunThen k d n new behind ⊎ AloneThen k n new behind
      plain_object (no_members, t, means, f, deep, long) = absurd (unlike_key f e)
      plain_object (member k' j ms, t, inl (es, none, (first, others, free, means, are, is), says), f, deep, long) =
          let whole : t ≡ document (entry_then k' first others) = says ∙ ap document is in
          let size : ℕ = (2 + length k' + encoded_len first) + entries_len others in inl (
            max (tree_depth first) (entries_depth others),
            size,
            (
              members_tokens ms ++ behind,
              encoded_len first,
              entries_len others,
              (j, first, means, value_behind k' j ms f, le-max_left (tree_depth first) (entries_depth others), refl),
              (ms, others, right_false (is_wrapper_key k') (has_wrapper_key ms) none, are, refl, le-max_right (tree_depth first) (entries_depth others), refl),
              ap (λ (x : List ℕ). (2 + length x + encoded_len first) + entries_len others) (sym (first_key k' j ms f)),
            ),
            deep_as whole deep,
            long_as whole long,
          )
      plain_object (member k' j no_members, t, inr (inl (l, is, says)), f, deep, long) = absurd (no_wrapper k' j no_members f (wrapped_key k' j l is))
      plain_object (member k' j (member m i ms), t, inr (inl (l, is, says)), f, deep, long) =
          let others = member m i ms in
          inr (l, (j, others, value_behind k' j others f, subst (λ (x : List ℕ). IsOldBinary (member x j others) l) (first_key k' j others f) is), long_as says long)
      plain_object (member k' j no_members, t, inr (inr is), f, deep, long) = absurd is
      plain_object (member k' j (member m i no_members), t, inr (inr (inl (code, es, is, second, other, whole, says))), f, deep, long) =
          absurd (no_wrapper k' j (member m i no_members) f (ap is_wrapper_key is))
      plain_object (member k' j (member m i no_members), t, inr (inr (inr (code, es, is, second, whole, other, says))), f, deep, long) =
          absurd (no_wrapper k' j (member m i no_members) f (ap is_wrapper_key is))
      plain_object (member k' j (member m i (member o h ms)), t, inr (inr is), f, deep, long) = absurd is

    -- .. nor $type
    module _ {d n : ℕ} (other : k ≡ codes "$type" → ⊥) where
      not_alone : BegunThen k d n new behind ⊎ AloneThen k n new behind → BegunThen k d n new behind
      not_alone (inl is) = is
      not_alone (inr (l, takes, len)) = absurd (other (alone_type plain takes))

      pub ordinary : ObjectThen d n ts behind → BegunThen k d n new behind
      ordinary is = not_alone (plain_object is)

      pub free_first : ObjectThen d n ts behind → NulFree k
      free_first (no_members, t, means, f, deep, long) = absurd (unlike_key f e)
      free_first (member k' j ms, t, inl (es, none, (first, others, free, means, are, is), says), f, deep, long) = subst NulFree (first_key k' j ms f) free
      free_first (member k' j no_members, t, inr (inl (l, is, says)), f, deep, long) = absurd (no_wrapper k' j no_members f (wrapped_key k' j l is))
      free_first (member k' j (member m i ms), t, inr (inl (l, is, says)), f, deep, long) =
          let same = first_key k' j (member m i ms) f in absurd (other (sym same ∙ type_first (ap is_wrapper_key same ∙ plain) (old_binary_first is)))
      free_first (member k' j no_members, t, inr (inr is), f, deep, long) = absurd is
      free_first (member k' j (member m i no_members), t, inr (inr (inl (code, es, is, second, other, whole, says))), f, deep, long) =
          absurd (no_wrapper k' j (member m i no_members) f (ap is_wrapper_key is))
      free_first (member k' j (member m i no_members), t, inr (inr (inr (code, es, is, second, whole, other, says))), f, deep, long) =
          absurd (no_wrapper k' j (member m i no_members) f (ap is_wrapper_key is))
      free_first (member k' j (member m i (member o h ms)), t, inr (inr is), f, deep, long) = absurd is

-- what follows the key of a wrapper

abbrev pub LeafThen : Wrapper → ℕ → List Token → List Token → Type 0
LeafThen w n ts behind = (j : Json) × (l : Leaf) × IsWrapped (wrapper_key w) j l × (ts ≡ json_tokens j ++ (Token.end_object ∷ behind)) × (length (leaf_payload l) ≡ n)

-- the members of a scope, and what they write with their code
abbrev pub ScopeSized : List ℕ → ℕ → ℕ → List Token → List Token → Type 0
ScopeSized code d n rest behind = (e m : ℕ) × MembersThen e m rest behind × (suc e ≤ d) × (4 + (5 + length code) + (5 + m) ≡ n)

abbrev pub CodeThen : ℕ → ℕ → List Token → List Token → Type 0
CodeThen d n ts behind =
    (code : List ℕ) × (rest : List Token) × (ts ≡ Token.string code ∷ Token.key (codes "$scope") ∷ Token.begin_object ∷ rest) × ScopeSized code d n rest (Token.end_object ∷ behind)

abbrev pub ScopeThen : ℕ → ℕ → List Token → List Token → Type 0
ScopeThen d n ts behind = (code : List ℕ) × (rest : List Token) × (ts ≡ Token.begin_object ∷ rest)
    × ScopeSized code d n rest (Token.key (codes "$code") ∷ Token.string code ∷ Token.end_object ∷ behind)

abbrev pub WrapperValueThen : Wrapper → ℕ → ℕ → List Token → List Token → Type 0
WrapperValueThen w d n ts behind =
    LeafThen w n ts behind ⊎ ((wrapper.Code ≡ w) × CodeThen d n ts behind) ⊎ ((wrapper.Scope ≡ w) × ScopeThen d n ts behind)
    ⊎ ((wrapper.Binary ≡ w) × AloneThen (codes "$binary") n ts behind)

-- a code with this scope, in either order
module _ {d n : ℕ} {t : Tree} {code : List ℕ} {es : Entries} (says : t ≡ code_with_scope code es) (deep : tree_depth t ≤ d) (long : encoded_len t ≡ n) {ts behind : List Token} where
  code_then : (k : List ℕ) (j i : Json) → j ≡ json.string code → IsWhole i es → k ≡ codes "$scope"
      → ts ≡ json_tokens j ++ (members_tokens (member k i no_members) ++ behind) → CodeThen d n ts behind
  code_then k j json.null is whole named e = absurd whole
  code_then k j (json.boolean b) is whole named e = absurd whole
  code_then k j (json.number s) is whole named e = absurd whole
  code_then k j (json.string s) is whole named e = absurd whole
  code_then k j (json.array js) is whole named e = absurd whole
  code_then k j (json.object ms) is whole named e = (
    code,
    members_tokens ms ++ (Token.end_object ∷ behind),
    e ∙ ap (λ (x : Json). json_tokens x ++ (members_tokens (member k (json.object ms) no_members) ++ behind)) is
        ∙ ap (λ (x : List ℕ). Token.string code ∷ Token.key x ∷ Token.begin_object ∷ ((members_tokens ms ++ (Token.end_object ∷ [])) ++ behind)) named
        ∙ ap (λ (x : List Token). Token.string code ∷ Token.key (codes "$scope") ∷ Token.begin_object ∷ x) (append_assoc (members_tokens ms) (Token.end_object ∷ []) behind),
    (entries_depth es, entries_len es, (ms, es, whole, refl, omega arith, refl), deep_as says deep, long_as says long),
  )

  scope_then : (k : List ℕ) (j i : Json) → IsWhole j es → i ≡ json.string code → k ≡ codes "$code"
      → ts ≡ json_tokens j ++ (members_tokens (member k i no_members) ++ behind) → ScopeThen d n ts behind
  scope_then k json.null i whole is named e = absurd whole
  scope_then k (json.boolean b) i whole is named e = absurd whole
  scope_then k (json.number s) i whole is named e = absurd whole
  scope_then k (json.string s) i whole is named e = absurd whole
  scope_then k (json.array js) i whole is named e = absurd whole
  scope_then k (json.object ms) i whole is named e = (
    code,
    members_tokens ms ++ (Token.key (codes "$code") ∷ Token.string code ∷ Token.end_object ∷ behind),
    e ∙ ap (λ (x : Json). Token.begin_object ∷ (members_tokens ms ++ (members_tokens (member k x no_members) ++ behind))) is
        ∙ ap (λ (x : List ℕ). Token.begin_object ∷ (members_tokens ms ++ (Token.key x ∷ Token.string code ∷ Token.end_object ∷ behind))) named,
    (entries_depth es, entries_len es, (ms, es, whole, refl, omega arith, refl), deep_as says deep, long_as says long),
  )

module _ (w : Wrapper) (new ts behind : List Token) (e : ts ≡ Token.key (wrapper_key w) ∷ new) where
  value_of : (k : List ℕ) (j : Json) (ms : Members) → ts ≡ members_tokens (member k j ms) ++ behind → new ≡ json_tokens j ++ (members_tokens ms ++ behind)
  value_of k j ms f = value_behind (wrapper_key w) new ts behind e k j ms f

  key_of : (k : List ℕ) (j : Json) (ms : Members) → ts ≡ members_tokens (member k j ms) ++ behind → k ≡ wrapper_key w
  key_of k j ms f = first_key (wrapper_key w) new ts behind e k j ms f

  -- an old binary
  old_value : {n : ℕ} {k : List ℕ} → (k ≡ codes "$binary") ⊎ (k ≡ codes "$type") → k ≡ wrapper_key w
      → (k ≡ codes "$binary" → AloneThen (codes "$binary") n new behind) → (wrapper.Binary ≡ w) × AloneThen (codes "$binary") n new behind
  old_value {n} {k} (inl e) at is = (named w wrapper.Binary (sym at ∙ e), is e)
  old_value {n} {k} (inr e) at is = absurd (false≢true (ap is_wrapper_key (sym e ∙ at) ∙ is_of_wrapper w))

  pub wrapper_value : {d n : ℕ} → ObjectThen d n ts behind → WrapperValueThen w d n new behind
  wrapper_value {d} {n} (no_members, t, means, f, deep, long) = absurd (unlike_key f e)
  wrapper_value {d} {n} (member k j ms, t, inl (es, none, are, says), f, deep, long) =
      absurd (false≢true (sym (left_false (is_wrapper_key k) (has_wrapper_key ms) none) ∙ ap is_wrapper_key (key_of k j ms f) ∙ is_of_wrapper w))
  wrapper_value {d} {n} (member k j no_members, t, inr (inl (l, is, says)), f, deep, long) =
      inl (j, l, subst (λ (x : List ℕ). IsWrapped x j l) (key_of k j no_members f) is, value_of k j no_members f, long_as says long)
  wrapper_value {d} {n} (member k j (member m i ms), t, inr (inl (l, is, says)), f, deep, long) =
      let others = member m i ms in
      inr (inr (inr (old_value (old_binary_first is) (key_of k j others f)
      (λ e. (l, (j, others, value_of k j others f, subst (λ (x : List ℕ). IsOldBinary (member x j others) l) e is), long_as says long)))))
  wrapper_value {d} {n} (member k j no_members, t, inr (inr is), f, deep, long) = absurd is
  wrapper_value {d} {n} (member k j (member m i no_members), t, inr (inr (inl (code, es, first, second, is, whole, says))), f, deep, long) =
      let ms = member m i no_members in
      inr (inl (named w wrapper.Code (sym (key_of k j ms f) ∙ first), code_then says deep long m j i is whole second (value_of k j ms f)))
  wrapper_value {d} {n} (member k j (member m i no_members), t, inr (inr (inr (code, es, first, second, whole, is, says))), f, deep, long) =
      let ms = member m i no_members in
      inr (inr (inl (named w wrapper.Scope (sym (key_of k j ms f) ∙ first), scope_then says deep long m j i whole is second (value_of k j ms f))))
  wrapper_value {d} {n} (member k j (member m i (member o h ms)), t, inr (inr is), f, deep, long) = absurd is
