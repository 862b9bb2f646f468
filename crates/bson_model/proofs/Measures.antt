-- What a value, a document or a code with scope holds is smaller than it, by the measure of the checker: `size-Bson`, `size-Document`,
-- `size-JavaScriptCodeWithScope`.
use Rattle.std.proofs.Common.{◌≡◌, ℕ, zero, suc, ◌<◌, ◌≤◌, List, [], ◌∷◌, map, Some, slice_get, ap, arith}
use denote.Param.Weighed.{most}
use Rattle.bson_model.specs.Tree.{pairs_of}
use Rattle.bson_model.specs.declared.bson.Bson as b
use Rattle.bson_model.specs.declared.bson.Bson.{Bson, size-Bson}
use Rattle.bson_model.specs.declared.bson.Bson.TheViews.{sized-Document, sized-JavaScriptCodeWithScope}
use Rattle.bson_model.specs.declared.bson.Document.{Document, size-Document, size_is-Document}
use Rattle.bson_model.specs.declared.bson.JavaScriptCodeWithScope.{JavaScriptCodeWithScope, size-JavaScriptCodeWithScope, size_is-JavaScriptCodeWithScope}

-- a member is at most the greatest
pub at_most_member : (vs : List Bson) (i : ℕ) (v : Bson) → slice_get vs i ≡ Some v → size-Bson v ≤ most size-Bson vs
at_most_member [] i v e = cc
at_most_member (w ∷ vs) zero v e = let h : ◌≡◌ {A = Bson} w v = cc in let s = ap size-Bson h in omega arith
at_most_member (w ∷ vs) (suc i) v e = let h = at_most_member vs i v e in omega arith

at_most_value : (ps : List (List ℕ × Bson)) (i : ℕ) (k : List ℕ) (v : Bson) → slice_get ps i ≡ Some (k, v) → size-Bson v ≤ most size-Bson (map (λ p. p.1) ps)
at_most_value [] i k v e = cc
at_most_value (p ∷ ps) zero k v e = let h : ◌≡◌ {A = List ℕ × Bson} p (k, v) = cc in let s = ap (λ q. size-Bson q.1) h in omega arith
at_most_value (p ∷ ps) (suc i) k v e = let h = at_most_value ps i k v e in omega arith

-- a value of `pair_at`
pub value_smaller : (d : Document) (i : ℕ) (k : List ℕ) (v : Bson) → slice_get (pairs_of d) i ≡ Some (k, v) → size-Bson v < size-Document d
value_smaller d i k v e = omega (arith, size_is-Document d, at_most_value d.pairs i k v e)

-- the document of a value
pub document_smaller : (d : Document) → size-Document d < size-Bson (b.Document d)
document_smaller d = omega (arith, sized-Document d)

-- the code with scope of a value
pub code_smaller : (c : JavaScriptCodeWithScope) → size-JavaScriptCodeWithScope c < size-Bson (b.JavaScriptCodeWithScope c)
code_smaller c = omega (arith, sized-JavaScriptCodeWithScope c)

-- a scope
pub scope_smaller : (c : JavaScriptCodeWithScope) → size-Document c.scope < size-JavaScriptCodeWithScope c
scope_smaller c = omega (arith, size_is-JavaScriptCodeWithScope c)
