-- `Parts` as a type that may hold the type that holds it, by its values. The names that begin with `the_` are those
-- that the checker looks for.
use Rattle.std.specs.Prelude.{◌≡◌, ℕ, List, [], ◌∷◌, map, length, String, nat_eq, ◌&&◌}
use Rattle.std.specs.List.{zip}
use Rattle.std.specs.declared.cmp.PartialEq as eq
use Rattle.std.specs.Cmp.Derive.Mapped.{pointwise-map}
use Rattle.std.specs.Cmp.Lexicographic.{pointwise}
use Rattle.std.specs.String.{string_bytes}
use mathlib.Core.Path.{refl, sym, ap, ◌∙◌}
use mathlib.Core.Former.{Former, one_more, this, const, pair, list, via}
use native.Mathlib.Nat.{ℕ_set}
use native.Mathlib.Omega.{arith}
use lib.ListN.{length-map}
use base.Stored.{code_map, coded_ℕ, coded_list, coded×, gcons}
use denote.RattleType.{RattleType}
use denote.HoleLaws.{Alike}
use denote.HolePlaces.{Recodes, struct_places, laid}
use denote.Hole.Fix.{over}
use mathlib.Core.Former.{children}
use denote.Hole.Carrier.{listed}
use mathlib.Core.Former.{Count, Row, list_count, list_put}
use Rattle.std.specs.Prelude.{max}
use denote.Param.Nested.{deepest}
use denote.Param.Weighed.{Weighed, most, none_max, List-puts, w_pair, w_const}
use denote.Model.Placed.{held, view_places_where}
use Rattle.std.specs.formers.vec.Vec as vec
use Rattle.std.specs.declared.alloc.Global.{Global}
use Rattle.std.specs.contracts.alloc.Global as heap
use Rattle.std.specs.contracts.impls.GlobalAllocator.TheImpl.{ghosts}
use Rattle.bson_model.specs.declared.parts.Parts.TheInside.{Inside}
use Rattle.bson_model.specs.declared.parts.Parts.TheView.{view, invariant}
use Rattle.bson_model.specs.contracts.parts.Parts as C
use Rattle.bson_model.specs.contracts.parts.Parts.TheInside as I

-- the keys of a document
abbrev Keys : Type 0
Keys = List (String Global)

-- the shape of a pair: a key and a value
abbrev entry : Former {0} → Former {0}
entry g = pair (const (List ℕ)) g

-- the values of pairs
abbrev pub values : {X : Type 0} → List (List ℕ × X) → List X
values d = map (λ p. p.1) d

-- the greatest of the pairs is the greatest of their values
most_values : {Y : Type 0} (f : Y → ℕ) (es : List (List ℕ × Y)) → most (λ p. max 0 (f p.1)) es ≡ most f (values es)
most_values f [] = refl
most_values f (e ∷ es) = λ i. max (sym (none_max (f e.1)) i) (most_values f es i)

-- pairs weigh what their values weigh
pub entries_puts : {g : Former {0}} (w : Weighed g) (X : Type 0) (μ : X → ℕ) (es : List (List ℕ × g.Of X)) (n : Count) (t : Row X n)
    → deepest μ (list_count (entry g) (map ((entry g).shape X) es) n) (list_put (entry g) X es n t) ≡ max (most (w.weight X μ) (values es)) (deepest μ n t)
entries_puts w X μ es n t = List-puts (w_pair (w_const (List ℕ)) w) X μ es n t ∙ ap (λ a. max a (deepest μ n t)) (most_values (w.weight X μ) es)

-- the children of a list of pairs are its values
values_listed : (X : Type 0) (es : List (List ℕ × X)) → listed _ (children (list (entry this)) X es) ≡ values es
values_listed X [] = refl
values_listed X (e ∷ es) = ap (λ l. e.1 ∷ l) (values_listed X es)

-- the pairs, as a shape around the values
abbrev pub the_former : Former {0} → Former {0}
the_former g = list (entry g)

-- how much pairs weigh, by their values
abbrev pub the_weighed : {g : Former {0}} → Weighed g → Weighed (the_former g)
the_weighed w = record { weight = λ X μ d. most (w.weight X μ) (values d); puts = λ X μ d. entries_puts w X μ d }

-- the pairs of no value
pub the_empty : List (List ℕ × ⊥)
the_empty = []

-- the values of the pairs
abbrev pub the_items : (X : Type 0) → List (List ℕ × X) → List X
the_items X d = values d

-- the values of the pairs are the children of the shape
pub the_items_listed : (X : Type 0) (d : List (List ℕ × X)) → listed _ (children (the_former this) X d) ≡ the_items X d
the_items_listed X d = values_listed X d

-- the shape of the fields: the keys and the values
abbrev fields : Former {0}
fields = via (pair (const Keys) (vec.the_former this Global)) Inside (λ X a. (a.keys, a.values)) (λ X v. record { keys = v.0; values = v.1 }) (λ X a. refl) (λ X v. refl)

-- a function on values, applied to a pair
abbrev pub on_value : {K X Y : Type 0} → (X → Y) → K × X → K × Y
on_value h p = (p.0, h p.1)

-- mapping the values of pairs is pairing the mapped values
zip-map : {K X Y : Type 0} (h : X → Y) (ks : List K) (vs : List X) → zip ks (map h vs) ≡ map (on_value h) (zip ks vs)
zip-map h [] vs = refl
zip-map h (k ∷ ks) [] = refl
zip-map h (k ∷ ks) (v ∷ vs) = ap (λ l. (k, h v) ∷ l) (zip-map h ks vs)

-- pairs hold what their values hold
zip-held : (X : Type 0) (ks : List (List ℕ)) (vs : List X) → length ks ≡ length vs → held (list (entry this)) X (zip ks vs) ≡ held (list this) X vs
zip-held X [] [] e = refl
zip-held X [] (v ∷ vs) e = absurd (omega arith)
zip-held X (k ∷ ks) [] e = absurd (omega arith)
zip-held X (k ∷ ks) (v ∷ vs) e = λ i. (one_more (zip-held X ks vs (omega arith) i).0, (v, (zip-held X ks vs (omega arith) i).1))

module _ (R S : RattleType) (h : R.Denot → S.Denot) where
  -- a mapped value is in the places of the value
  pub the_places : Alike R S h → Alike (C.the_row R) (C.the_row S) ((the_former this).map R.Denot S.Denot h)
  the_places a = view_places_where fields (the_former this) view
      (λ X Y k u. zip-map k (map string_bytes u.keys) u.values.items)
      (λ X u. length u.values.items ≡ length u.keys)
      (λ X Y k u e. sym (length-map u.values.items k) ∙ e)
      (λ X u e. zip-held X (map string_bytes u.keys) u.values.items (length-map u.keys string_bytes ∙ sym e))
      R.Denot S.Denot h (C.the_row R).coded (C.the_row S).coded
      (invariant R.Denot) (invariant S.Denot) (λ u. ℕ_set _ _) (λ u. ℕ_set _ _)
      (λ u e. length-map u.values.items h ∙ e) (λ u e. sym (length-map u.values.items h) ∙ e) (λ u e. e)
      (over (I.the_row R)) (over (I.the_row S))
      (struct_places (I.the_type R) (I.the_type S) (λ n. n, (vec.mapped h, tt)) _ (λ d. refl) refl
      ((refl, (λ n. refl, λ n. refl)), (laid _ _ _ (vec.the_places heap.the_row ghosts R S h a), tt)))

  -- a mapped value has the codes of the value
  pub the_codes_placed : Recodes R S h → Recodes (C.the_row R) (C.the_row S) ((the_former this).map R.Denot S.Denot h)
  the_codes_placed e d = sym (code_map (coded× (coded_list coded_ℕ) R.coded).code (coded× (coded_list coded_ℕ) S.coded).code (on_value h)
      (λ x i. gcons ((coded_list coded_ℕ).code x.0) (sym (e x.1) i)) d)

-- `==` of mapped pairs is `==` of the pairs by the mapped test
pub the_eq_natural : (X Y : Type 0) (h : X → Y) (V : eq.Ghosts Y) (m n : List (List ℕ × X))
    → pointwise (λ p q. pointwise nat_eq p.0 q.0 && V.eq p.1 q.1) (map (on_value h) m) (map (on_value h) n)
    ≡ pointwise (λ p q. pointwise nat_eq p.0 q.0 && V.eq (h p.1) (h q.1)) m n
the_eq_natural X Y h V m n = pointwise-map (on_value h) (λ p q. pointwise nat_eq p.0 q.0 && V.eq p.1 q.1) m n
