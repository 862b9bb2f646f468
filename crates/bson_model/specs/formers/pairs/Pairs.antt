-- `Pairs` as a type that may hold the type that holds it. It is described by its parts, which are in a box that may be
-- absent. The names that begin with `the_` are those that the checker looks for.
use Rattle.std.specs.Prelude.{◌≡◌, ℕ, List, [], map, nat_eq, ◌&&◌}
use Rattle.std.specs.declared.cmp.PartialEq as eq
use Rattle.std.specs.Cmp.Lexicographic.{pointwise}
use mathlib.Core.Path.{refl}
use mathlib.Core.Logic.{◌⊎◌, inl, inr}
use mathlib.Core.Former.{Former, this, const, pair, or, via, children}
use base.Stored.{gnil}
use base.Fml.{ftrue}
use denote.RattleType.{RattleType}
use denote.HoleLaws.{Alike}
use denote.HolePlaces.{Recodes, struct_places, enum_places, eachs, laid, one_value}
use denote.Hole.Carrier.{listed}
use denote.Hole.Fix.{over}
use denote.Memory.{part_of}
use denote.Model.Placed.{held, view_places}
use denote.Param.Weighed.{Weighed}
use denote.RawPtr.{Ptr}
use denote.Sharing.{nothing}
use Rattle.std.specs.declared.alloc.Global.{Global}
use Rattle.std.specs.contracts.alloc.Global as heap
use Rattle.std.specs.contracts.impls.GlobalAllocator.TheImpl.{ghosts}
use Rattle.std.specs.declared.boxed.Box.{Box}
use Rattle.std.specs.contracts.boxed.Box as box
use Rattle.std.specs.declared.option.Option.{Option}
use Rattle.std.specs.declared.option.Option.TheVariants.{None, Some}
use Rattle.std.specs.contracts.option.Option as option
use Rattle.bson_model.specs.formers.parts.Parts as parts
use Rattle.bson_model.specs.contracts.parts.Parts as P
use Rattle.bson_model.specs.declared.pairs.Pairs.TheInside.{Inside}
use Rattle.bson_model.specs.declared.pairs.Pairs.TheView.{view, invariant}
use Rattle.bson_model.specs.contracts.pairs.Pairs as C
use Rattle.bson_model.specs.contracts.pairs.Pairs.TheInside as I

-- the pairs, as a shape around the values
abbrev pub the_former : Former {0} → Former {0}
the_former g = parts.the_former g

-- how much pairs weigh, by their values
abbrev pub the_weighed : {g : Former {0}} → Weighed g → Weighed (the_former g)
the_weighed w = parts.the_weighed w

-- the pairs of no value
pub the_empty : List (List ℕ × ⊥)
the_empty = []

-- the values of the pairs
abbrev pub the_items : (X : Type 0) → List (List ℕ × X) → List X
the_items X d = parts.values d

-- the values of the pairs are the children of the shape
pub the_items_listed : (X : Type 0) (d : List (List ℕ × X)) → listed _ (children (the_former this) X d) ≡ the_items X d
the_items_listed X d = parts.the_items_listed X d

-- the pairs in their box
abbrev Boxed : Type 0 → Type 0
Boxed X = Box (List (List ℕ × X)) Global

-- the box with another value in it
abbrev with_value : {A B : Type 0} → Box A Global → B → Box B Global
with_value b y = record { ptr = b.ptr; alloc = b.alloc; value = y }

-- a function on values, applied in the box
abbrev box_over : {X Y : Type 0} → (X → Y) → Boxed X → Boxed Y
box_over h b = with_value b (map (parts.on_value h) b.value)

-- the same in a box that may be absent
abbrev option_over : {X Y : Type 0} → (X → Y) → Option (Boxed X) → Option (Boxed Y)
option_over h None = None
option_over h (Some b) = Some (box_over h b)

module _ {X : Type 0} where
  -- the box as its address and its value, or nothing
  abbrev split : Option (Boxed X) → Unit {0} ⊎ ((Ptr × Global) × List (List ℕ × X))
  split None = inl tt
  split (Some b) = inr ((b.ptr, b.alloc), b.value)

  -- and back
  abbrev join : Unit {0} ⊎ ((Ptr × Global) × List (List ℕ × X)) → Option (Boxed X)
  join (inl u) = None
  join (inr v) = Some (record { ptr = v.0.0; alloc = v.0.1; value = v.1 })

  -- one undoes the other
  join-split : (o : Option (Boxed X)) → join (split o) ≡ o
  join-split None = refl
  join-split (Some b) = refl

  -- and the other way round
  split-join : (v : Unit {0} ⊎ ((Ptr × Global) × List (List ℕ × X))) → split (join v) ≡ v
  split-join (inl u) = refl
  split-join (inr v) = refl

-- the shape of a box that may be absent
abbrev optional : Former {0}
optional = via (or (const (Unit {0})) (pair (const (Ptr × Global)) (parts.the_former this))) (λ X. Option (Boxed X)) (λ X. split) (λ X. join) (λ X. join-split) (λ X. split-join)

-- the shape of the fields: the allocator and the box
abbrev fields : Former {0}
fields = via (pair (const Global) optional) Inside (λ X a. (a.alloc, a.parts)) (λ X v. record { alloc = v.0; parts = v.1 }) (λ X a. refl) (λ X v. refl)

module _ (X : Type 0) where
  -- the fields with another box
  abbrev with_parts : Inside X → Option (Boxed X) → Inside X
  with_parts u o = record { alloc = u.alloc; parts = o }

  -- the values are in the fields as they are in the pairs
  keeps : (u : Inside X) (o : Option (Boxed X)) → held (the_former this) X (view X (with_parts u o)) ≡ held fields X (with_parts u o)
  keeps u None = refl
  keeps u (Some b) = refl

  module _ (Y : Type 0) (h : X → Y) where
    -- mapping the shape is mapping the box
    mapped : (o : Option (Boxed X)) → optional.map X Y h o ≡ option_over h o
    mapped None = refl
    mapped (Some b) = refl

    -- what is seen of mapped fields is what is seen of the fields, mapped
    natural : (u : Inside X) (o : Option (Boxed X)) → view Y (fields.map X Y h (with_parts u o)) ≡ (the_former this).map X Y h (view X (with_parts u o))
    natural u None = refl
    natural u (Some b) = refl

-- the type of a box around a type
abbrev box_of : RattleType → RattleType
box_of R = box.the_row R heap.the_row ghosts

module _ (R S : RattleType) (h : R.Denot → S.Denot) where
  -- a mapped box has its value in the places of the box
  box_places : Alike R S h → Alike (box_of R) (box_of S) (λ b. with_value b (h b.value))
  unfolding part_of
  box_places a = record {
    mir_same = λ i. (box_of (one_value R (a.mir_same i) (λ _. ftrue) (λ _ _. nothing) gnil)).mir;
    own_same = λ b i. (box_of (one_value R (a.mir_same i) (a.own_same b.value i) (a.shr_same b.value i) gnil)).own_val (with_value b tt);
    shr_same = λ b i. (box_of (one_value R (a.mir_same i) (a.own_same b.value i) (a.shr_same b.value i) gnil)).shr_at (with_value b tt);
  }

module _ (R S : RattleType) (h : R.Denot → S.Denot) where
  -- a mapped box that may be absent is of the same variant
  variant : (o : Option (Boxed R.Denot))
      → (option.enum (box_of (P.the_row S))).as_values (option_over h o)
      ≡ eachs (option.enum (box_of (P.the_row R))).parts (option.enum (box_of (P.the_row S))).parts (tt, ((box_over h, tt), tt)) ((option.enum (box_of (P.the_row R))).as_values o)
  variant None = refl
  variant (Some b) = refl

  -- a mapped value is in the places of the value
  pub the_places : Alike R S h → Alike (C.the_row R) (C.the_row S) ((the_former this).map R.Denot S.Denot h)
  the_places a =
      let below = box_places (P.the_row R) (P.the_row S) (map (parts.on_value h)) (parts.the_places R S h a) in
      let top = enum_places (option.enum (box_of (P.the_row R))) (option.enum (box_of (P.the_row S))) (tt, ((box_over h, tt), tt)) (option_over h) variant refl (tt, ((laid _ _ _ below, tt), tt)) in
      view_places fields (the_former this) view (λ X Y k u. natural X Y k u u.parts) (λ X u. keeps X u u.parts)
      R.Denot S.Denot h (C.the_row R).coded (C.the_row S).coded
      (invariant R.Denot) (invariant S.Denot) (λ u p q. refl) (λ u p q. refl) (λ u e. tt) (λ u e. tt)
      (over (I.the_row R)) (over (I.the_row S))
      (struct_places (I.the_type R) (I.the_type S) ((λ g. g), (option_over h, tt)) _ (λ d i. (d.alloc, (mapped R.Denot S.Denot h d.parts i, tt))) refl
      ((refl, (λ n. refl, λ n. refl)), (laid _ _ _ top, tt)))

  -- a mapped value has the codes of the value
  pub the_codes_placed : Recodes R S h → Recodes (C.the_row R) (C.the_row S) ((the_former this).map R.Denot S.Denot h)
  the_codes_placed e d = parts.the_codes_placed R S h e d

-- `==` of mapped pairs is `==` of the pairs by the mapped test
pub the_eq_natural : (X Y : Type 0) (h : X → Y) (V : eq.Ghosts Y) (m n : List (List ℕ × X))
    → pointwise (λ p q. pointwise nat_eq p.0 q.0 && V.eq p.1 q.1) (map (parts.on_value h) m) (map (parts.on_value h) n)
    ≡ pointwise (λ p q. pointwise nat_eq p.0 q.0 && V.eq (h p.1) (h q.1)) m n
the_eq_natural X Y h V m n = parts.the_eq_natural X Y h V m n
