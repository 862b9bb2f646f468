-- `==` of two values is equality of their trees.
use Rattle.std.proofs.Common.{◌≡◌, ℕ, zero, suc, ◌+◌, ◌<◌, Bool, true, false, ◌&&◌, List, [], ◌∷◌, map, refl, ap, sym, subst, ◌∙◌, Vec, Global, nat_eq, arith, Decides}
use Rattle.std.specs.Cmp.{booleans_Decides}
use Rattle.std.specs.Cmp.Lexicographic.{pointwise}
use Rattle.std.specs.Ordering.{int_eq}
use Rattle.std.specs.String.{string_bytes, string_eq}
use Rattle.std.proofs.lemmas.Bool.Decides.{Decides-eqb, Decides-int_eq}
use Rattle.std.proofs.lemmas.Slice.Eq.{bytes_eq-Decides}
use mathlib.Core.Bool.{beq}
use denote.Param.Weighed.{most}
use denote.Enum.Declared.{Choice}
use denote.Enum.Compared.{by, Each}
use Rattle.bson_model.specs.Leaf.{Leaf, double, string, binary, undefined, object_id, boolean, date_time, null, regular_expression, db_pointer, javascript_code, symbol, int32, timestamp, int64, decimal128, max_key, min_key}
use Rattle.bson_model.specs.Tree.{Tree, leaf, array, document, code_with_scope, trees, entries, tree_of, pairs_of, with_trees, tree_of_document}
use Rattle.bson_model.specs.declared.bson.Bson as b
use Rattle.bson_model.specs.declared.bson.Bson.{Bson, size-Bson}
use Rattle.bson_model.specs.declared.bson.Bson.TheViews.{sized-Array, sized-Document, sized-JavaScriptCodeWithScope}
use Rattle.bson_model.specs.declared.bson.Document.{Document, size_is-Document}
use Rattle.bson_model.specs.declared.bson.JavaScriptCodeWithScope.{JavaScriptCodeWithScope, size_is-JavaScriptCodeWithScope}
use Rattle.bson_model.specs.contracts.binaries.BinarySubtypePartialEq.TheImpl as subtype_eqs
use Rattle.bson_model.specs.contracts.binaries.BinaryPartialEq.TheImpl as binary_eqs
use Rattle.bson_model.specs.contracts.bson.Bson as bson
use Rattle.bson_model.specs.contracts.bson.BsonPartialEq.TheImpl as eqs
use Rattle.bson_model.specs.contracts.bson.BsonPartialEq.TheImpl.Laws as laws
use Rattle.bson_model.specs.contracts.bson.DocumentPartialEq.TheImpl as document_eqs
use Rattle.bson_model.specs.contracts.bson.DocumentPartialEq.TheImpl.Laws as document_laws
use Rattle.bson_model.specs.contracts.bson.JavaScriptCodeWithScopePartialEq.TheImpl as code_eqs
use Rattle.bson_model.specs.contracts.bson.JavaScriptCodeWithScopePartialEq.TheImpl.Laws as code_laws
use Rattle.bson_model.specs.contracts.numbers.Decimal128PartialEq.TheImpl as decimal_eqs
use Rattle.bson_model.specs.contracts.numbers.DoubleBitsPartialEq.TheImpl as double_eqs
use Rattle.bson_model.specs.contracts.object_id.DbPointerPartialEq.TheImpl as db_pointer_eqs
use Rattle.bson_model.specs.contracts.object_id.ObjectIdPartialEq.TheImpl as object_id_eqs
use Rattle.bson_model.specs.contracts.regexes.RegexPartialEq.TheImpl as regex_eqs
use Rattle.bson_model.specs.contracts.times.DateTimePartialEq.TheImpl as date_time_eqs
use Rattle.bson_model.specs.contracts.times.TimestampPartialEq.TheImpl as timestamp_eqs
use Rattle.bson_model.proofs.SubtypeEquality.{alike, same_subtype}
use Rattle.bson_model.proofs.Trees.{tree_of-Array, tree_of-Document, tree_of-JavaScriptCodeWithScope}
use Rattle.bson_model.proofs.Variants.{Kinds, AllDecide, decided, along, joined}

abbrev E : Bson → Bson → Bool
E = eqs.ghosts.eq

abbrev same_pairs : List (List ℕ × Bson) → List (List ℕ × Bson) → Bool
same_pairs = pointwise (λ p q. pointwise nat_eq p.0 q.0 && E p.1 q.1)

abbrev each_eq : Each Bool bson.enum.parts
each_eq = (
  λ a b. double_eqs.ghosts.eq a.0 b.0,
  (
    λ a b. string_eq a.0 b.0,
    (
      λ a b. document_eqs.ghosts.eq a.0 b.0,
      (
        λ a b. pointwise E a.0.items b.0.items,
        (
          λ a b. binary_eqs.ghosts.eq a.0 b.0,
          (
            λ a b. true,
            (
              λ a b. object_id_eqs.ghosts.eq a.0 b.0,
              (
                λ a b. beq a.0 b.0,
                (
                  λ a b. date_time_eqs.ghosts.eq a.0 b.0,
                  (
                    λ a b. true,
                    (
                      λ a b. regex_eqs.ghosts.eq a.0 b.0,
                      (
                        λ a b. db_pointer_eqs.ghosts.eq a.0 b.0,
                        (
                          λ a b. string_eq a.0 b.0,
                          (
                            λ a b. string_eq a.0 b.0,
                            (
                              λ a b. code_eqs.ghosts.eq a.0 b.0,
                              (
                                λ a b. int_eq a.0 b.0,
                                (
                                  λ a b. timestamp_eqs.ghosts.eq a.0 b.0,
                                  (
                                    λ a b. int_eq a.0 b.0,
                                    (
                                      λ a b. decimal_eqs.ghosts.eq a.0 b.0,
                                      (λ a b. true, (λ a b. true, tt)),
                                    ),
                                  ),
                                ),
                              ),
                            ),
                          ),
                        ),
                      ),
                    ),
                  ),
                ),
              ),
            ),
          ),
        ),
      ),
    ),
  ),
)

abbrev by_choice : Choice bson.enum.parts → Choice bson.enum.parts → Bool
by_choice = by false false bson.enum.parts each_eq

at_choice : (c d : Choice bson.enum.parts) → E (bson.the_make c) (bson.the_make d) ≡ by_choice c d
at_choice c d = laws.is (bson.the_make c) (bson.the_make d) ∙ (λ i. by_choice (bson.the_beta c i) (bson.the_beta d i))

at_document : (d e : Document) → document_eqs.ghosts.eq d e ≡ same_pairs d.pairs e.pairs
at_document d e = document_laws.is d e

at_code : (d e : JavaScriptCodeWithScope) → code_eqs.ghosts.eq d e ≡ (string_eq d.code e.code && document_eqs.ghosts.eq d.scope e.scope)
at_code d e = code_laws.is d e

size_list : (v : Vec Bson Global) → size-Bson (b.Array v) ≡ most size-Bson v.items + 1
size_list v = omega (arith, sized-Array v)

size_doc : (d : Document) → size-Bson (b.Document d) ≡ most size-Bson (map (λ p. p.1) d.pairs) + 2
size_doc d = omega (arith, sized-Document d, size_is-Document d)

size_code : (c : JavaScriptCodeWithScope) → size-Bson (b.JavaScriptCodeWithScope c) ≡ most size-Bson (map (λ p. p.1) c.scope.pairs) + 3
size_code c = omega (arith, sized-JavaScriptCodeWithScope c, size_is-JavaScriptCodeWithScope c, size_is-Document c.scope)

-- a number for each kind of tree
abbrev leaf_place : Leaf → ℕ
leaf_place (double x) = 0
leaf_place (string x) = 1
leaf_place (binary s x) = 4
leaf_place undefined = 5
leaf_place (object_id x) = 6
leaf_place (boolean x) = 7
leaf_place (date_time x) = 8
leaf_place null = 9
leaf_place (regular_expression x y) = 10
leaf_place (db_pointer x y) = 11
leaf_place (javascript_code x) = 12
leaf_place (symbol x) = 13
leaf_place (int32 x) = 15
leaf_place (timestamp x y) = 16
leaf_place (int64 x) = 17
leaf_place (decimal128 x) = 18
leaf_place max_key = 19
leaf_place min_key = 20

abbrev place : Tree → ℕ
place (leaf l) = leaf_place l
place (document es) = 2
place (array ts) = 3
place (code_with_scope s es) = 14

abbrev make : Choice bson.enum.parts → Tree
make c = tree_of (bson.the_make c)

kinds : Kinds place bson.enum.parts 0 make
unfolding tree_of
kinds = (
  λ u. refl,
  (
    λ u. refl,
    (
      λ u. ap place (tree_of-Document u.0),
      (
        λ u. ap place (tree_of-Array u.0),
        (
          λ u. refl,
          (
            λ u. refl,
            (
              λ u. refl,
              (
                λ u. refl,
                (
                  λ u. refl,
                  (
                    λ u. refl,
                    (
                      λ u. refl,
                      (
                        λ u. refl,
                        (
                          λ u. refl,
                          (
                            λ u. refl,
                            (
                              λ u. ap place (tree_of-JavaScriptCodeWithScope u.0),
                              (
                                λ u. refl,
                                (
                                  λ u. refl,
                                  (
                                    λ u. refl,
                                    (
                                      λ u. refl,
                                      (
                                        λ u. refl,
                                        (λ u. refl, tt),
                                      ),
                                    ),
                                  ),
                                ),
                              ),
                            ),
                          ),
                        ),
                      ),
                    ),
                  ),
                ),
              ),
            ),
          ),
        ),
      ),
    ),
  ),
)

entries_inj : (es fs : List (List ℕ × Tree)) → entries es ≡ entries fs → es ≡ fs
entries_inj [] [] h = refl
entries_inj [] (f ∷ fs) h = cc
entries_inj (e ∷ es) [] h = cc
entries_inj (e ∷ es) (f ∷ fs) h =
    let k : e.0 ≡ f.0 = cc in let t : e.1 ≡ f.1 = cc in let r : es ≡ fs = entries_inj es fs (cc) in
    λ i. (k i, t i) ∷ r i

module _ (n : ℕ) (IH : (x y : Bson) → size-Bson x < n → Decides (E x y) (tree_of x ≡ tree_of y)) where
  by_items : (xs ys : List Bson) → most size-Bson xs < n → Decides (pointwise E xs ys) (trees (map tree_of xs) ≡ trees (map tree_of ys))
  by_items [] [] h = (λ p. refl, λ q. refl)
  by_items [] (y ∷ ys) h = (λ p. cc, λ q. cc)
  by_items (x ∷ xs) [] h = (λ p. cc, λ q. cc)
  by_items (x ∷ xs) (y ∷ ys) h = joined (E x y) (pointwise E xs ys) (IH x y (omega arith)) (by_items xs ys (omega arith)) (λ p q. cc) (λ r. cc) (λ r. cc)

  by_pairs : (ps qs : List (List ℕ × Bson)) → most size-Bson (map (λ p. p.1) ps) < n → Decides (same_pairs ps qs) (with_trees ps ≡ with_trees qs)
  by_pairs [] [] h = (λ p. refl, λ q. refl)
  by_pairs [] (y ∷ ys) h = (λ p. cc, λ q. cc)
  by_pairs (x ∷ xs) [] h = (λ p. cc, λ q. cc)
  by_pairs (x ∷ xs) (y ∷ ys) h =
      let first : Decides (pointwise nat_eq x.0 y.0 && E x.1 y.1) ((x.0 ≡ y.0) × (tree_of x.1 ≡ tree_of y.1)) =
      joined (pointwise nat_eq x.0 y.0) (E x.1 y.1) (bytes_eq-Decides x.0 y.0) (IH x.1 y.1 (omega arith)) (λ p q. (p, q)) (λ r. r.0) (λ r. r.1) in
      joined (pointwise nat_eq x.0 y.0 && E x.1 y.1) (same_pairs xs ys) first (by_pairs xs ys (omega arith))
      (λ p q. λ i. (p.0 i, p.1 i) ∷ q i)
      (λ r. let e : ◌≡◌ {A = List ℕ × Tree} (x.0, tree_of x.1) (y.0, tree_of y.1) = cc in (ap (λ p. p.0) e, ap (λ p. p.1) e))
      (λ r. cc)

  abbrev Small : Choice bson.enum.parts → Type 0
  Small c = size-Bson (bson.the_make c) < suc n

  by_document : (d e : Document) → size-Bson (b.Document d) < suc n → Decides (document_eqs.ghosts.eq d e) (tree_of (b.Document d) ≡ tree_of (b.Document e))
  by_document d e h =
      along _ _ (at_document d e) (by_pairs d.pairs e.pairs (omega (arith, size_doc d)))
      (λ p. tree_of-Document d ∙ ap (λ es. document (entries es)) p ∙ sym (tree_of-Document e))
      (λ q. let k = sym (tree_of-Document d) ∙ q ∙ tree_of-Document e in entries_inj _ _ (cc))

  by_list : (v w : Vec Bson Global) → size-Bson (b.Array v) < suc n → Decides (pointwise E v.items w.items) (tree_of (b.Array v) ≡ tree_of (b.Array w))
  by_list v w h =
      along _ _ refl (by_items v.items w.items (omega (arith, size_list v)))
      (λ p. tree_of-Array v ∙ ap array p ∙ sym (tree_of-Array w))
      (λ q. let k = sym (tree_of-Array v) ∙ q ∙ tree_of-Array w in cc)

  by_code : (c d : JavaScriptCodeWithScope) → size-Bson (b.JavaScriptCodeWithScope c) < suc n
      → Decides (code_eqs.ghosts.eq c d) (tree_of (b.JavaScriptCodeWithScope c) ≡ tree_of (b.JavaScriptCodeWithScope d))
  by_code c d h =
      let below = by_pairs c.scope.pairs d.scope.pairs (omega (arith, size_code c)) in
      let scopes = along _ _ (at_document c.scope d.scope) below (λ p. p) (λ p. p) in
      along _ _ (at_code c d)
      (joined (string_eq c.code d.code) (document_eqs.ghosts.eq c.scope d.scope) (bytes_eq-Decides (string_bytes c.code) (string_bytes d.code)) scopes
      (λ p q. λ i. code_with_scope (p i) (entries (q i))) (λ r. cc) (λ r. entries_inj _ _ (cc)))
      (λ p. tree_of-JavaScriptCodeWithScope c ∙ p ∙ sym (tree_of-JavaScriptCodeWithScope d))
      (λ q. sym (tree_of-JavaScriptCodeWithScope c) ∙ q ∙ tree_of-JavaScriptCodeWithScope d)

  all_decide : AllDecide place bson.enum.parts each_eq make Small
  unfolding tree_of
  all_decide = (
    λ u v s. along _ _ refl (Decides-eqb u.0.0 v.0.0) (λ p. ap (λ z. leaf (double z)) p) (λ q. cc),
    (
      λ u v s. along _ _ refl (bytes_eq-Decides (string_bytes u.0) (string_bytes v.0)) (λ p. ap (λ z. leaf (string z)) p) (λ q. cc),
      (
        λ u v s. by_document u.0 v.0 s,
        (
          λ u v s. by_list u.0 v.0 s,
          (
            λ u v s. joined (subtype_eqs.ghosts.eq u.0.subtype v.0.subtype) (pointwise nat_eq u.0.bytes.items v.0.bytes.items)
                (same_subtype u.0.subtype v.0.subtype) (bytes_eq-Decides u.0.bytes.items v.0.bytes.items) (λ p q. λ i. leaf (binary (p i) (q i))) (λ r. cc)
                (λ r. cc),
            (
              λ u v s. alike refl,
              (
                λ u v s. along _ _ refl (bytes_eq-Decides u.0.bytes v.0.bytes) (λ p. ap (λ z. leaf (object_id z)) p) (λ q. cc),
                (
                  λ u v s. along _ _ refl (booleans_Decides u.0 v.0) (λ p. ap (λ z. leaf (boolean z)) p) (λ q. cc),
                  (
                    λ u v s. along _ _ refl (Decides-int_eq u.0.millis v.0.millis) (λ p. ap (λ z. leaf (date_time z)) p) (λ q. cc),
                    (
                      λ u v s. alike refl,
                      (
                        λ u v s. joined (string_eq u.0.pattern v.0.pattern) (string_eq u.0.options v.0.options)
                            (bytes_eq-Decides (string_bytes u.0.pattern) (string_bytes v.0.pattern))
                            (bytes_eq-Decides (string_bytes u.0.options) (string_bytes v.0.options)) (λ p q. λ i. leaf (regular_expression (p i) (q i)))
                            (λ r. cc) (λ r. cc),
                        (
                          λ u v s. joined (string_eq u.0.namespace v.0.namespace) (object_id_eqs.ghosts.eq u.0.id v.0.id)
                              (bytes_eq-Decides (string_bytes u.0.namespace) (string_bytes v.0.namespace)) (bytes_eq-Decides u.0.id.bytes v.0.id.bytes)
                              (λ p q. λ i. leaf (db_pointer (p i) (q i))) (λ r. cc) (λ r. cc),
                          (
                            λ u v s. along _ _ refl (bytes_eq-Decides (string_bytes u.0) (string_bytes v.0)) (λ p. ap (λ z. leaf (javascript_code z)) p) (λ q. cc),
                            (
                              λ u v s. along _ _ refl (bytes_eq-Decides (string_bytes u.0) (string_bytes v.0)) (λ p. ap (λ z. leaf (symbol z)) p) (λ q. cc),
                              (
                                λ u v s. by_code u.0 v.0 s,
                                (
                                  λ u v s. along _ _ refl (Decides-int_eq u.0 v.0) (λ p. ap (λ z. leaf (int32 z)) p) (λ q. cc),
                                  (
                                    λ u v s. joined (nat_eq u.0.time v.0.time) (nat_eq u.0.increment v.0.increment) (Decides-eqb u.0.time v.0.time)
                                        (Decides-eqb u.0.increment v.0.increment) (λ p q. λ i. leaf (timestamp (p i) (q i))) (λ r. cc) (λ r. cc),
                                    (
                                      λ u v s. along _ _ refl (Decides-int_eq u.0 v.0) (λ p. ap (λ z. leaf (int64 z)) p) (λ q. cc),
                                      (
                                        λ u v s. along _ _ refl (bytes_eq-Decides u.0.bytes v.0.bytes) (λ p. ap (λ z. leaf (decimal128 z)) p) (λ q. cc),
                                        (
                                          λ u v s. alike refl,
                                          (λ u v s. alike refl, tt),
                                        ),
                                      ),
                                    ),
                                  ),
                                ),
                              ),
                            ),
                          ),
                        ),
                      ),
                    ),
                  ),
                ),
              ),
            ),
          ),
        ),
      ),
    ),
  )

  by_size : (x y : Bson) → size-Bson x < suc n → Decides (E x y) (tree_of x ≡ tree_of y)
  by_size x y h =
      let c = bson.as_values x in let d = bson.as_values y in
      let m : Decides (E (bson.the_make c) (bson.the_make d)) (make c ≡ make d) =
      rw (at_choice c d) (decided place bson.enum.parts 0 each_eq make Small kinds all_decide c d (rw (bson.the_eta x) h)) in
      subst (λ z. Decides (E z y) (tree_of z ≡ tree_of y)) (bson.the_eta x) (subst (λ z. Decides (E (bson.the_make c) z) (make c ≡ tree_of z)) (bson.the_eta y) m)

all_below : (n : ℕ) (x y : Bson) → size-Bson x < n → Decides (E x y) (tree_of x ≡ tree_of y)
all_below zero x y h = absurd (omega arith)
all_below (suc n) x y h = by_size n (all_below n) x y h

-- `==` of two values
pub same_tree : (x y : Bson) → Decides (E x y) (tree_of x ≡ tree_of y)
same_tree x y = all_below (suc (size-Bson x)) x y (omega arith)

-- `==` of two documents
pub same_document : (d e : Document) → Decides (document_eqs.ghosts.eq d e) (with_trees (pairs_of d) ≡ with_trees (pairs_of e))
same_document d e = rw (at_document d e) (by_pairs (suc (most size-Bson (map (λ p. p.1) d.pairs))) (λ x y h. same_tree x y) d.pairs e.pairs (omega arith))

-- the same of their trees
pub same_document_tree : (d e : Document) → Decides (document_eqs.ghosts.eq d e) (tree_of_document d ≡ tree_of_document e)
same_document_tree d e =
    along _ _ refl (same_document d e) (λ p. ap (λ es. document (entries es)) p) (λ q. entries_inj _ _ (cc))
