-- What a caller's loop preserves that asks something of each item, even if it ends early.
use Rattle.std.proofs.Common.{◌≡◌, ◌⊎◌, ◌++◌, ◌∷◌, [], ◌∙◌, ℕ, Bool, true, false, List, drop, ap, sym, subst, refl, inl, inr, Option, Some, None, Result, Ok, Err}
use Rattle.std.proofs.lemmas.Result.{err_from_is_err_and}
use Rattle.std.specs.Prelude.{option_map, IsErrAnd}
use denote.Ref.{Bor}
use Rattle.raw_view.specs.Errors.Answers.{Says, TellsItem, TellsValue, TellsFound, StepsItems}
use Rattle.raw_view.specs.Frame.ElementSteps.{HasReadItems}
use Rattle.raw_view.specs.Frame.{Frame, IsFrame, End, Done, Stopped, EndsIn, IsWalk, LeadsTo}
use Rattle.raw_view.specs.Meaning.Item.{Item, entry, stopped, ItemsOf, AreItems}
use Rattle.raw_view.specs.LookUp.{LooksUp}
use Rattle.raw_view.specs.Meaning.{RawValue, KeyedFault, Meaning, value, faulty, Means}
use Rattle.raw_view.specs.Meaning.Value.{value_of}
use Rattle.raw_view.specs.declared.bson_ref.RawBsonRef.{RawBsonRef}
use Rattle.raw_view.specs.declared.error.Error.{Error}
use Rattle.raw_view.proofs.Face.{one_frame, one_meaning, one_stop, the_items, no_frame_at_stop, no_frame_at_final, no_stop_at_final, HasReadItems-none, HasReadItems-pair, HasReadItems-value, HasReadItems-end}
use Rattle.raw_bson.specs.EachItem.{EachItem, OneItem, HoldsOfEach, HoldsOfOne, ComesTo, ComesToFault, HasReadEach, TriesEach, SeeksOne, value_in, AsksUnder}

-- lists of items

pub EachItem-more : (P : List ℕ → RawValue → Type 0) (items : List Item) (key : List ℕ) (v : RawValue) → EachItem P items → P key v → EachItem P (items ++ entry key (value v) ∷ [])
EachItem-more P [] key v h p = (p, tt)
EachItem-more P (entry k (value w) ∷ items) key v h p = (h.0, EachItem-more P items key v h.1 p)
EachItem-more P (entry k (faulty fault) ∷ items) key v h p = absurd h
EachItem-more P (stopped fault ∷ items) key v h p = absurd h

-- of the item after them
pub EachItem-at : (P : List ℕ → RawValue → Type 0) (items : List Item) (key : List ℕ) (v : RawValue) (rest : List Item) → EachItem P (items ++ entry key (value v) ∷ rest) → P key v
EachItem-at P [] key v rest h = h.0
EachItem-at P (entry k (value w) ∷ items) key v rest h = EachItem-at P items key v rest h.1
EachItem-at P (entry k (faulty fault) ∷ items) key v rest h = absurd h
EachItem-at P (stopped fault ∷ items) key v rest h = absurd h

-- one of them is enough
pub OneItem-at : (P : List ℕ → RawValue → Type 0) (items : List Item) (key : List ℕ) (v : RawValue) (rest : List Item) → P key v → OneItem P (items ++ entry key (value v) ∷ rest)
OneItem-at P [] key v rest p = inl p
OneItem-at P (entry k (value w) ∷ items) key v rest p = inr (OneItem-at P items key v rest p)
OneItem-at P (entry k (faulty fault) ∷ items) key v rest p = OneItem-at P items key v rest p
OneItem-at P (stopped fault ∷ items) key v rest p = OneItem-at P items key v rest p

-- what doesn't hold of each doesn't hold of one
pub OneItem-none : (P : List ℕ → RawValue → Type 0) (items : List Item) → EachItem (λ key v. ¬ P key v) items → ¬ OneItem P items
OneItem-none P [] h = λ one. one
OneItem-none P (entry k (value w) ∷ items) h = λ one. elim one [ inl p ↦ h.0 p | inr q ↦ OneItem-none P items h.1 q ]
OneItem-none P (entry k (faulty fault) ∷ items) h = absurd h
OneItem-none P (stopped fault ∷ items) h = absurd h

-- what was read is the beginning of every list

-- where a walk ends, no frame is at the front
no_frame_at_end : (s : List ℕ) (end : End) (f : Frame) (r : List ℕ) → EndsIn s end → IsFrame s f r → ⊥
no_frame_at_end s Done f r e b = no_frame_at_final s e f r b
no_frame_at_end s (Stopped fault key) f r e b = no_frame_at_stop s fault key e f r b

-- frames that were read begin every walk; its other frames are what remains
pub LeadsTo-begins : (s : List ℕ) (fs : List Frame) (r : List ℕ) (all : List Frame) (end : End) → LeadsTo s fs r → IsWalk s all end → (rest : List Frame) × (all ≡ fs ++ rest) × IsWalk r rest end
LeadsTo-begins s [] r all end l w = (all, refl, subst (λ (x : List ℕ). IsWalk x all end) l w)
LeadsTo-begins s (f ∷ fs) r [] end l w = absurd (no_frame_at_end s end f l.0 w l.1)
LeadsTo-begins s (f ∷ fs) r (g ∷ gs) end l w =
    let same = one_frame s f g l.0 w.0 l.1 w.1 in
    let on = LeadsTo-begins l.0 fs r gs end l.2 (rw same.1 w.2) in
    (on.0, ap (λ (x : Frame). x ∷ gs) (sym same.0) ∙ ap (λ x. f ∷ x) on.1, on.2)

-- and so do their items
items_begin : (fs rest : List Frame) (end : End) (items all : List Item) → ItemsOf fs Done items → ItemsOf (fs ++ rest) end all → (more : List Item) × (all ≡ items ++ more) × ItemsOf rest end more
items_begin [] rest end items all i h = (all, ap (λ x. x ++ all) (sym i), h)
items_begin (f ∷ fs) rest end items all i h =
    let on = items_begin fs rest end i.1 h.1 i.4 h.4 in
    let same = one_meaning f h.0 i.0 h.2 i.2 in
    (on.0, h.3 ∙ ap (λ (m : Meaning). entry f.key m ∷ h.1) same ∙ ap (λ x. entry f.key i.0 ∷ x) on.1 ∙ ap (λ x. x ++ on.0) (sym i.3), on.2)

-- the items that were read begin every list of items
pub HasReadItems-begins : (b : List ℕ) (items : List Item) (left : Option (List ℕ)) (all : List Item) → HasReadItems (drop 4 b) items left → AreItems b all → (more : List Item) × (all ≡ items ++ more)
HasReadItems-begins b items None all h are = absurd h.read
HasReadItems-begins b items (Some r) all h are =
    let walk = LeadsTo-begins (drop 4 b) h.frames r are.0 are.1 h.read are.2 in
    let more = items_begin h.frames walk.0 are.1 items all h.items_are (subst (λ (fs : List Frame). ItemsOf fs are.1 all) walk.1 are.3) in
    (more.0, more.1)

-- a list with these items and others, the first of which is this one
behind : (all items more : List Item) (item : Item) (after : List Item) → all ≡ items ++ more → more ≡ item ∷ after → all ≡ items ++ item ∷ after
behind all items more item after h first = h ∙ ap (λ x. items ++ x) first

module _ {X : Type 0} (Tells : Result X Error → Item → Type 0) where
  -- what a step returns is the first of the remaining items
  told_first : (r : List ℕ) (rest : List Frame) (end : End) (more : List Item) (out : Result X Error) (new : Option (List ℕ))
      → StepsItems Tells (Some r) (Some out) new → IsWalk r rest end → ItemsOf rest end more
      → (item : Item) × (after : List Item) × (more ≡ item ∷ after) × Tells out item
  told_first r [] end more out new (inl g) w i = absurd (no_frame_at_end r end g.frame g.rest w g.in_front)
  told_first r [] Done more out new (inr g) w i = absurd (no_stop_at_final r g.fault.fault g.fault.key w g.stops)
  told_first r [] (Stopped fault key) more out new (inr g) w i =
      let same = one_stop r g.fault.fault fault g.fault.key key g.stops w in
      let this : g.fault ≡ record { fault = fault; key = key } = λ j. record { fault = same.0 j; key = same.1 j } in
      (stopped (record { fault = fault; key = key }), [], i, subst (λ (x : KeyedFault). Tells out (stopped x)) this g.told)
  told_first r (f ∷ rest) end more out new (inl g) w i =
      let same = one_frame r g.frame f g.rest w.0 g.in_front w.1 in
      let means : Means f g.meaning = subst (λ (x : Frame). Means x g.meaning) same.0 g.means in
      let told : Tells out (entry f.key g.meaning) = subst (λ (x : Frame). Tells out (entry x.key g.meaning)) same.0 g.told in
      (entry f.key i.0, i.1, i.3, subst (λ (m : Meaning). Tells out (entry f.key m)) (one_meaning f g.meaning i.0 means i.2) told)
  told_first r (f ∷ rest) end more out new (inr g) w i = absurd (no_frame_at_stop r g.fault.fault g.fault.key g.stops f w.0 w.1)

  -- in every list of items, the item after those that were read is the one that a step returns
  pub HasReadItems-next : (b : List ℕ) (items : List Item) (old new : Option (List ℕ)) (out : Result X Error) (all : List Item)
      → HasReadItems (drop 4 b) items old → StepsItems Tells old (Some out) new → AreItems b all
      → (item : Item) × (after : List Item) × (all ≡ items ++ item ∷ after) × Tells out item
  HasReadItems-next b items None new out all h st are = absurd h.read
  HasReadItems-next b items (Some r) new out all h st are =
      let walk = LeadsTo-begins (drop 4 b) h.frames r are.0 are.1 h.read are.2 in
      let more = items_begin h.frames walk.0 are.1 items all h.items_are (subst (λ (fs : List Frame). ItemsOf fs are.1 all) walk.1 are.3) in
      let first = told_first r walk.0 are.1 more.0 out new st walk.2 more.2 in
      (first.0, first.1, behind all items more.0 first.0 first.1 more.1 first.2, first.3)

-- what holds of an item

pub told_pair : (p : Bor (List ℕ) × RawBsonRef) (item : Item) → TellsItem (Ok p) item → item ≡ entry p.0.now (value (value_of p.1))
told_pair p (entry key (value v)) t = let keys = sym t.0 in let values = sym t.1 in λ i. entry (keys i) (value (values i))
told_pair p (entry key (faulty fault)) t = absurd t
told_pair p (stopped fault) t = absurd t

told_value : (v : RawBsonRef) (item : Item) → TellsValue (Ok v) item → (key : List ℕ) × (item ≡ entry key (value (value_of v)))
told_value v (entry key (value w)) t = (key, ap (λ x. entry key (value x)) (sym t))
told_value v (entry key (faulty fault)) t = absurd t
told_value v (stopped fault) t = absurd t

-- a fault of a value, or the stop
abbrev pub IsFaultOf : KeyedFault → Item → Type 0
IsFaultOf fault item = ((key : List ℕ) × (item ≡ entry key (faulty fault))) ⊎ (item ≡ stopped fault)

pub told_pair_fault : (e : Error) (item : Item) → TellsItem (Err e) item → (fault : KeyedFault) × IsFaultOf fault item × Says e fault
told_pair_fault e (entry key (value v)) t = absurd t
told_pair_fault e (entry key (faulty fault)) t = (fault, inl (key, refl), t)
told_pair_fault e (stopped fault) t = (fault, inr refl, t)

told_value_fault : (e : Error) (item : Item) → TellsValue (Err e) item → (fault : KeyedFault) × IsFaultOf fault item × Says e fault
told_value_fault e (entry key (value v)) t = absurd t
told_value_fault e (entry key (faulty fault)) t = (fault, inl (key, refl), t)
told_value_fault e (stopped fault) t = (fault, inr refl, t)

-- loops that ask something of each item

module _ {P : List ℕ → RawValue → Type 0} {b : List ℕ} where
  -- before the first item
  pub HasReadEach-none : {left : Option (List ℕ)} → left ≡ Some (drop 4 b) → HasReadEach P b left
  HasReadEach-none {left = left} begins = record { items = []; read = HasReadItems-none (drop 4 b) left begins; each = tt }

  -- a list of items has one of these items after others
  comes_to : {left : Option (List ℕ)} {all : List Item} (h : HasReadEach P b left) (item : Item) (after : List Item) → AreItems b all → all ≡ h.items ++ item ∷ after → ComesTo P b item
  comes_to h item after are same = record { before = h.items; after = after; are_items = subst (AreItems b) same are; each = h.each }

  comes_to_fault : {left : Option (List ℕ)} {all : List Item} (h : HasReadEach P b left) (item : Item) (after : List Item) (fault : KeyedFault) → AreItems b all
      → all ≡ h.items ++ item ∷ after → IsFaultOf fault item → ComesToFault P b fault
  comes_to_fault h item after fault are same (inl k) = inl (k.0, subst (ComesTo P b) k.1 (comes_to h item after are same))
  comes_to_fault h item after fault are same (inr k) = inr (subst (ComesTo P b) k (comes_to h item after are same))

  -- one more key and value was read, and it holds of them
  pub HasReadEach-pair : {old new : Option (List ℕ)} {out : Result (Bor (List ℕ) × RawBsonRef) Error} {p : Bor (List ℕ) × RawBsonRef} → HasReadEach P b old
      → StepsItems TellsItem old (Some out) new → out ≡ Ok p → P p.0.now (value_of p.1) → HasReadEach P b new
  HasReadEach-pair {old = old} {new = new} {p = p} h st was holds = record {
    items = h.items ++ entry p.0.now (value (value_of p.1)) ∷ [];
    read = HasReadItems-pair (drop 4 b) h.items old new p h.read (subst (λ (x : Result (Bor (List ℕ) × RawBsonRef) Error). StepsItems TellsItem old (Some x) new) was st);
    each = EachItem-more P h.items p.0.now (value_of p.1) h.each holds;
  }

  -- one key and value was read after those of which it holds
  pub HasReadEach-comes : {old : Option (List ℕ)} (new : Option (List ℕ)) {all : List Item} {out : Result (Bor (List ℕ) × RawBsonRef) Error}
      {p : Bor (List ℕ) × RawBsonRef} → HasReadEach P b old → StepsItems TellsItem old (Some out) new → out ≡ Ok p → AreItems b all
      → ComesTo P b (entry p.0.now (value (value_of p.1)))
  HasReadEach-comes {old = old} new {all = all} {out = out} {p = p} h st was are =
      let next = HasReadItems-next TellsItem b h.items old new out all h.read st are in
      let this = told_pair p next.0 (subst (λ (x : Result (Bor (List ℕ) × RawBsonRef) Error). TellsItem x next.0) was next.3) in
      subst (ComesTo P b) this (comes_to h next.0 next.1 are next.2)

  -- a fault comes after them
  pub HasReadEach-fault : {old : Option (List ℕ)} (new : Option (List ℕ)) {all : List Item} {out : Result (Bor (List ℕ) × RawBsonRef) Error} {e : Error}
      → HasReadEach P b old → StepsItems TellsItem old (Some out) new → out ≡ Err e → AreItems b all
      → (fault : KeyedFault) × ComesToFault P b fault × Says e fault
  HasReadEach-fault {old = old} new {all = all} {out = out} {e = e} h st was are =
      let next = HasReadItems-next TellsItem b h.items old new out all h.read st are in
      let told = told_pair_fault e next.0 (subst (λ (x : Result (Bor (List ℕ) × RawBsonRef) Error). TellsItem x next.0) was next.3) in
      (told.0, comes_to_fault h next.0 next.1 told.0 are next.2 told.1, told.2)

  -- the same if values of an array are read, under some keys
  pub HasReadEach-value : {old new : Option (List ℕ)} {out : Result RawBsonRef Error} {v : RawBsonRef} → HasReadEach P b old
      → StepsItems TellsValue old (Some out) new → out ≡ Ok v → ((key : List ℕ) → P key (value_of v)) → HasReadEach P b new
  HasReadEach-value {old = old} {new = new} {v = v} h st was holds =
      let more = HasReadItems-value (drop 4 b) h.items old new v h.read (subst (λ (x : Result RawBsonRef Error). StepsItems TellsValue old (Some x) new) was st) in
      record {
        items = h.items ++ entry more.0 (value (value_of v)) ∷ [];
        read = more.1;
        each = EachItem-more P h.items more.0 (value_of v) h.each (holds more.0);
      }

  pub HasReadEach-comes_value : {old : Option (List ℕ)} (new : Option (List ℕ)) {all : List Item} {out : Result RawBsonRef Error} {v : RawBsonRef}
      → HasReadEach P b old → StepsItems TellsValue old (Some out) new → out ≡ Ok v → AreItems b all
      → (key : List ℕ) × ComesTo P b (entry key (value (value_of v)))
  HasReadEach-comes_value {old = old} new {all = all} {out = out} {v = v} h st was are =
      let next = HasReadItems-next TellsValue b h.items old new out all h.read st are in
      let this = told_value v next.0 (subst (λ (x : Result RawBsonRef Error). TellsValue x next.0) was next.3) in
      (this.0, subst (ComesTo P b) this.1 (comes_to h next.0 next.1 are next.2))

  pub HasReadEach-value_fault : {old : Option (List ℕ)} (new : Option (List ℕ)) {all : List Item} {out : Result RawBsonRef Error} {e : Error}
      → HasReadEach P b old → StepsItems TellsValue old (Some out) new → out ≡ Err e → AreItems b all
      → (fault : KeyedFault) × ComesToFault P b fault × Says e fault
  HasReadEach-value_fault {old = old} new {all = all} {out = out} {e = e} h st was are =
      let next = HasReadItems-next TellsValue b h.items old new out all h.read st are in
      let told = told_value_fault e next.0 (subst (λ (x : Result RawBsonRef Error). TellsValue x next.0) was next.3) in
      (told.0, comes_to_fault h next.0 next.1 told.0 are next.2 told.1, told.2)

  -- no item is left, so it holds of each
  pub HasReadEach-end : {X : Type 0} (Tells : Result X Error → Item → Type 0) {old : Option (List ℕ)} (new : Option (List ℕ)) → HasReadEach P b old → StepsItems Tells old None new → HoldsOfEach P b
  HasReadEach-end Tells {old = old} new h st = record { items = h.items; are_items = HasReadItems-end Tells b h.items old new h.read st; each = h.each }

-- loops that end at the first error

-- what such a loop preserves: what it has read, and Ok for each
pub record HasTried {E : Type 0} (wrap : Error → E) (Answers : List ℕ → RawValue → Result (Unit {0}) E → Type 0) (b : List ℕ) (left : Option (List ℕ)) : Type 0 where
  pub read : HasReadEach (λ key v. Answers key v (Ok tt)) b left

module _ {E : Type 0} {wrap : Error → E} {Answers : List ℕ → RawValue → Result (Unit {0}) E → Type 0} {b : List ℕ} where
  -- the call returned Ok for one more
  pub HasTried-more : {old new : Option (List ℕ)} {out : Result (Bor (List ℕ) × RawBsonRef) Error} {p : Bor (List ℕ) × RawBsonRef} {r : Result (Unit {0}) E}
      → HasTried wrap Answers b old → StepsItems TellsItem old (Some out) new → out ≡ Ok p → Answers p.0.now (value_of p.1) r → r ≡ Ok tt
      → HasTried wrap Answers b new
  HasTried-more {p = p} h st was answers ok = record { read = HasReadEach-pair h.read st was (subst (Answers p.0.now (value_of p.1)) ok answers) }

  -- the call returned an error, with which the loop ends
  pub HasTried-error : {old : Option (List ℕ)} (new : Option (List ℕ)) {all : List Item} {out : Result (Bor (List ℕ) × RawBsonRef) Error}
      {p : Bor (List ℕ) × RawBsonRef} {r : Result (Unit {0}) E} {e : E} (x : Result (Unit {0}) E) → HasTried wrap Answers b old
      → StepsItems TellsItem old (Some out) new → out ≡ Ok p → AreItems b all → Answers p.0.now (value_of p.1) r → r ≡ Err e → IsErrAnd x (λ y. y ≡ e)
      → TriesEach wrap Answers b x
  HasTried-error new {p = p} x h st was are answers bad left =
      let q = err_from_is_err_and x left in
      rw (q.1, q.2) (inl (p.0.now, value_of p.1, HasReadEach-comes new h.read st was are, subst (Answers p.0.now (value_of p.1)) bad answers))

  -- a fault was met, and its error wrapped
  pub HasTried-fault : {old : Option (List ℕ)} (new : Option (List ℕ)) {all : List Item} {out : Result (Bor (List ℕ) × RawBsonRef) Error} {e : Error}
      (x : Result (Unit {0}) E) → HasTried wrap Answers b old → StepsItems TellsItem old (Some out) new → out ≡ Err e → AreItems b all
      → IsErrAnd x (λ y. y ≡ wrap e) → TriesEach wrap Answers b x
  HasTried-fault new {e = e} x h st was are left =
      let q = err_from_is_err_and x left in
      let met = HasReadEach-fault new h.read st was are in
      rw q.1 (inr (met.0, met.1, (e, met.2, q.2)))

  -- no item is left
  pub HasTried-end : {old : Option (List ℕ)} (new : Option (List ℕ)) → HasTried wrap Answers b old → StepsItems TellsItem old None new → TriesEach wrap Answers b (Ok tt)
  HasTried-end new h st = HasReadEach-end TellsItem new h.read st

-- searches within an array

-- what a search preserves: what it has read, none of it what is sought
pub record HasSought {E : Type 0} (wrap : Error → E) (P : List ℕ → RawValue → Type 0) (b : List ℕ) (left : Option (List ℕ)) : Type 0 where
  pub read : HasReadEach (λ key v. ¬ P key v) b left

module _ {E : Type 0} {wrap : Error → E} {P : List ℕ → RawValue → Type 0} {b : List ℕ} where
  -- one more item isn't what is sought
  pub HasSought-more : {old new : Option (List ℕ)} {out : Result RawBsonRef Error} {v : RawBsonRef} → HasSought wrap P b old
      → StepsItems TellsValue old (Some out) new → out ≡ Ok v → ((key : List ℕ) → ¬ P key (value_of v)) → HasSought wrap P b new
  HasSought-more h st was other = record { read = HasReadEach-value h.read st was other }

  -- one item is what is sought
  pub HasSought-found : {old : Option (List ℕ)} (new : Option (List ℕ)) {all : List Item} {out : Result RawBsonRef Error} {v : RawBsonRef}
      → HasSought wrap P b old → StepsItems TellsValue old (Some out) new → out ≡ Ok v → AreItems b all → ((key : List ℕ) → P key (value_of v))
      → SeeksOne wrap P b (Ok true)
  HasSought-found new {v = v} h st was are holds = let met = HasReadEach-comes_value new h.read st was are in (met.0, value_of v, met.1, holds met.0)

  -- a fault was met, and its error wrapped
  pub HasSought-fault : {old : Option (List ℕ)} (new : Option (List ℕ)) {all : List Item} {out : Result RawBsonRef Error} {e : Error} (x : Result Bool E)
      → HasSought wrap P b old → StepsItems TellsValue old (Some out) new → out ≡ Err e → AreItems b all → IsErrAnd x (λ y. y ≡ wrap e) → SeeksOne wrap P b x
  HasSought-fault new {e = e} x h st was are left =
      let q = err_from_is_err_and x left in
      let met = HasReadEach-value_fault new h.read st was are in
      rw q.1 (met.0, met.1, (e, met.2, q.2))

  -- no item is left
  pub HasSought-end : {old : Option (List ℕ)} (new : Option (List ℕ)) → HasSought wrap P b old → StepsItems TellsValue old None new → SeeksOne wrap P b (Ok false)
  HasSought-end new h st = HasReadEach-end TellsValue new h.read st

-- look-ups before something else

-- what is found is what is returned
found_value : (x : Option RawBsonRef) (found : Option Meaning) → TellsFound (Ok x) found → found ≡ option_map value (value_in x)
found_value None found t = t
found_value (Some v) found t = t

found_fault : (e : Error) (found : Option Meaning) → TellsFound (Err e) found → (fault : KeyedFault) × (found ≡ Some (faulty fault)) × Says e fault
found_fault e None t = absurd t
found_fault e (Some (value w)) t = absurd t
found_fault e (Some (faulty fault)) t = (fault, refl, t)

module _ {T E : Type 0} {wrap : Error → E} {Answers : Option RawValue → Result T E → Type 0} {b key : List ℕ} {r : Result T E} where
  -- a value was found, or nothing
  pub AsksUnder-found : (x : Option RawBsonRef) → (found : Option Meaning) × LooksUp b key found × TellsFound (Ok x) found → Answers (value_in x) r → AsksUnder wrap Answers b key r
  AsksUnder-found x f answers = record { told = inl (value_in x, subst (LooksUp b key) (found_value x f.0 f.2) f.1, answers) }

  -- a fault was found
  pub AsksUnder-fault : (e : Error) → (found : Option Meaning) × LooksUp b key found × TellsFound (Err e) found → IsErrAnd r (λ y. y ≡ wrap e) → AsksUnder wrap Answers b key r
  AsksUnder-fault e f left =
      let q = err_from_is_err_and r left in
      let met = found_fault e f.0 f.2 in
      record { told = inr (met.0, subst (LooksUp b key) met.1 f.1, q.0, (e, met.2, q.2), q.1) }

-- what an item says of all

-- if it doesn't hold of one, it doesn't hold of each
pub ComesTo-not_each : {P : List ℕ → RawValue → Type 0} {b : List ℕ} {key : List ℕ} {v : RawValue} → ComesTo P b (entry key (value v)) → ¬ P key v → ¬ HoldsOfEach P b
ComesTo-not_each {P = P} {b = b} {key = key} {v = v} c bad =
    λ h. bad (EachItem-at P c.before key v c.after (subst (EachItem P)
    ((the_items b (c.before ++ entry key (value v) ∷ c.after) c.are_items).1 h.items h.are_items) h.each))

-- if it holds of this one, it holds of one
pub ComesTo-one : {P Q : List ℕ → RawValue → Type 0} {b : List ℕ} {key : List ℕ} {v : RawValue} → ComesTo Q b (entry key (value v)) → P key v → HoldsOfOne P b
ComesTo-one {P = P} {key = key} {v = v} c good = record { items = c.before ++ entry key (value v) ∷ c.after; are_items = c.are_items; one = OneItem-at P c.before key v c.after good }

-- if it holds of none, it doesn't hold of one
pub HoldsOfEach-not_one : {P : List ℕ → RawValue → Type 0} {b : List ℕ} → HoldsOfEach (λ key v. ¬ P key v) b → ¬ HoldsOfOne P b
HoldsOfEach-not_one {P = P} {b = b} h = λ one. OneItem-none P h.items h.each (subst (OneItem P) ((the_items b h.items h.are_items).1 one.items one.are_items) one.one)
