-- What a JSON value means is always as deep.
use Rattle.std.proofs.Common.{◌≡◌, ◌⊎◌, ◌||◌, ℕ, max, suc, Bool, true, false, List, codes, get_or, refl, sym, ap, ◌∙◌, inl, inr, arith}
use Rattle.std.proofs.lemmas.Bool.{false≢true}
use Rattle.json.specs.Json.{Json, Items, Members, no_items, item, no_members, member}
use Rattle.json.specs.Json as json
use Rattle.bson_model.specs.Tree.{Tree, Trees, Entries}
use Rattle.values_from_json.specs.Meaning.{AreItems, AreMembers, IsWhole, Means, WrapsOne, WrapsScope, has_wrapper_key, is_wrapper_key}
use Rattle.values_from_json.proofs.Face.{old_binary_first, old_binary_key, wrapped_key}
use Rattle.bson_from_json.specs.Depths.{entries_depth, items_depth, tree_depth}

-- an object that is a wrapper has the key of one
pub wraps_one_key : (ms : Members) (t : Tree) → WrapsOne ms t → has_wrapper_key ms ≡ true
wraps_one_key no_members t (l, is, e) = old_binary_key no_members l is
wraps_one_key (member k j no_members) t (l, is, e) = ap (λ (b : Bool). b || false) (wrapped_key k j l is)
wraps_one_key (member k j (member k' j' ms)) t (l, is, e) = old_binary_key (member k j (member k' j' ms)) l is

pub wraps_scope_key : (ms : Members) (t : Tree) → WrapsScope ms t → has_wrapper_key ms ≡ true
wraps_scope_key no_members t w = absurd w
wraps_scope_key (member k j no_members) t w = absurd w
wraps_scope_key (member k j (member k' j' no_members)) t (inl w) = ap (λ (x : List ℕ). is_wrapper_key x || (is_wrapper_key k' || false)) w.2
wraps_scope_key (member k j (member k' j' no_members)) t (inr w) = ap (λ (x : List ℕ). is_wrapper_key x || (is_wrapper_key k' || false)) w.2
wraps_scope_key (member k j (member k' j' (member k'' j'' ms))) t w = absurd w

-- the first key of a binary is none of a code with scope
binary_or_code : (k code : List ℕ) → (k ≡ codes "$binary") ⊎ (k ≡ codes "$type") → k ≡ code → (get_or code 1 0 ≡ 98 → ⊥) × (get_or code 1 0 ≡ 116 → ⊥) → ⊥
binary_or_code k code (inl e) f unlike = unlike.0 (ap (λ (x : List ℕ). get_or x 1 0) (sym f ∙ e))
binary_or_code k code (inr e) f unlike = unlike.1 (ap (λ (x : List ℕ). get_or x 1 0) (sym f ∙ e))

-- no object is both one value that holds no others and a code with scope
one_or_scope : (ms : Members) (t u : Tree) → WrapsOne ms t → WrapsScope ms u → ⊥
one_or_scope no_members t u w v = absurd v
one_or_scope (member k j no_members) t u w v = absurd v
one_or_scope (member k j (member k' j' no_members)) t u (l, is, e) (inl v) = binary_or_code k (codes "$code") (old_binary_first is) v.2 (λ x. omega (arith, x), λ x. omega (arith, x))
one_or_scope (member k j (member k' j' no_members)) t u (l, is, e) (inr v) = binary_or_code k (codes "$scope") (old_binary_first is) v.2 (λ x. omega (arith, x), λ x. omega (arith, x))
one_or_scope (member k j (member k' j' (member k'' j'' ms))) t u w v = absurd v

code_or_scope : (k : List ℕ) → k ≡ codes "$code" → k ≡ codes "$scope" → ⊥
code_or_scope k e f = omega (arith, ap (λ (x : List ℕ). get_or x 1 0) (sym e ∙ f))

-- as deep as another
deep_as : {t u : Tree} {a b : Tree} → t ≡ a → u ≡ b → tree_depth a ≡ tree_depth b → tree_depth t ≡ tree_depth u
deep_as e f same = ap tree_depth e ∙ same ∙ sym (ap tree_depth f)

one_same : (ms : Members) (t u : Tree) → WrapsOne ms t → WrapsOne ms u → tree_depth t ≡ tree_depth u
one_same ms t u (l, is, e) (l', also, f) = deep_as e f refl

mutual
  value_depth : (j : Json) (t u : Tree) → Means j t → Means j u → tree_depth t ≡ tree_depth u
  value_depth json.null t u m n = deep_as m n refl
  value_depth (json.boolean b) t u m n = deep_as m n refl
  value_depth (json.number s) t u (l, is, e) (l', also, f) = deep_as e f refl
  value_depth (json.string s) t u m n = deep_as m n refl
  value_depth (json.array js) t u (ts, are, e) (us, also, f) = deep_as e f (ap suc (items_same js ts us are also))
  value_depth (json.object ms) t u (inl (es, none, are, e)) (inl (fs, none', also, f)) = deep_as e f (ap suc (one_depth ms es fs are also))
  value_depth (json.object ms) t u (inl (es, none, are, e)) (inr (inl w)) = absurd (false≢true (sym none ∙ wraps_one_key ms u w))
  value_depth (json.object ms) t u (inl (es, none, are, e)) (inr (inr w)) = absurd (false≢true (sym none ∙ wraps_scope_key ms u w))
  value_depth (json.object ms) t u (inr (inl w)) (inl (es, none, are, e)) = absurd (false≢true (sym none ∙ wraps_one_key ms t w))
  value_depth (json.object ms) t u (inr (inl w)) (inr (inl v)) = one_same ms t u w v
  value_depth (json.object ms) t u (inr (inl w)) (inr (inr v)) = absurd (one_or_scope ms t u w v)
  value_depth (json.object ms) t u (inr (inr w)) (inl (es, none, are, e)) = absurd (false≢true (sym none ∙ wraps_scope_key ms t w))
  value_depth (json.object ms) t u (inr (inr w)) (inr (inl v)) = absurd (one_or_scope ms u t v w)
  value_depth (json.object ms) t u (inr (inr w)) (inr (inr v)) = scope_same ms t u w v

  items_same : (js : Items) (ts us : Trees) → AreItems js ts → AreItems js us → items_depth ts ≡ items_depth us
  items_same no_items ts us e f = ap items_depth e ∙ sym (ap items_depth f)
  items_same (item j js) ts us (t, rest, means, are, e) (u, others, also, more, f) =
      ap items_depth e ∙ ap (λ (x : ℕ). max x (items_depth rest)) (value_depth j t u means also) ∙ ap (λ (x : ℕ). max (tree_depth u) x) (items_same js rest others are more)
      ∙ sym (ap items_depth f)

  -- members always write members that are as deep
  pub one_depth : (ms : Members) (es fs : Entries) → AreMembers ms es → AreMembers ms fs → entries_depth es ≡ entries_depth fs
  one_depth no_members es fs e f = ap entries_depth e ∙ sym (ap entries_depth f)
  one_depth (member k j ms) es fs (t, rest, free, means, are, e) (u, others, free', also, more, f) =
      ap entries_depth e ∙ ap (λ (x : ℕ). max x (entries_depth rest)) (value_depth j t u means also) ∙ ap (λ (x : ℕ). max (tree_depth u) x) (one_depth ms rest others are more)
      ∙ sym (ap entries_depth f)

  whole_same : (j : Json) (es fs : Entries) → IsWhole j es → IsWhole j fs → entries_depth es ≡ entries_depth fs
  whole_same json.null es fs h k = absurd h
  whole_same (json.boolean b) es fs h k = absurd h
  whole_same (json.number s) es fs h k = absurd h
  whole_same (json.string s) es fs h k = absurd h
  whole_same (json.array js) es fs h k = absurd h
  whole_same (json.object ms) es fs h k = one_depth ms es fs h k

  scope_same : (ms : Members) (t u : Tree) → WrapsScope ms t → WrapsScope ms u → tree_depth t ≡ tree_depth u
  scope_same no_members t u w v = absurd w
  scope_same (member k j no_members) t u w v = absurd w
  scope_same (member k j (member k' j' no_members)) t u (inl (code, es, c, s, is, whole, e)) (inl (code', fs, c', s', is', whole', f)) = deep_as e f (ap suc (whole_same j' es fs whole whole'))
  scope_same (member k j (member k' j' no_members)) t u (inl (code, es, c, s, is, whole, e)) (inr (code', fs, s', c', whole', is', f)) = absurd (code_or_scope k c s')
  scope_same (member k j (member k' j' no_members)) t u (inr (code, es, s, c, whole, is, e)) (inl (code', fs, c', s', is', whole', f)) = absurd (code_or_scope k c' s)
  scope_same (member k j (member k' j' no_members)) t u (inr (code, es, s, c, whole, is, e)) (inr (code', fs, s', c', whole', is', f)) = deep_as e f (ap suc (whole_same j es fs whole whole'))
  scope_same (member k j (member k' j' (member k'' j'' ms))) t u w v = absurd w
