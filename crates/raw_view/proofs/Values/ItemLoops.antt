-- What a caller's loop over keys and values, or over the values of an array, preserves.
use Rattle.std.proofs.Common.{◌≡◌, ◌≤◌, ◌*◌, ◌++◌, ◌∷◌, [], ◌∙◌, ℕ, suc, List, length, drop, ap, sym, subst, refl, inl, inr, arith, Option, Some, None, Result, Ok, Err}
use denote.Ref.{Bor}
use Rattle.raw_view.specs.Errors.Answers.{Says, TellsMeaning, TellsItem, TellsValue, StepsItems}
use Rattle.raw_view.specs.Frame.ElementSteps.{HasRead, HasReadItems}
use Rattle.raw_view.specs.Frame.{Frame, IsFrame, IsStop, Done}
use Rattle.raw_view.specs.Meaning.Item.{Item, entry, stopped, ItemsOf, AreItems, AreValues, HaveValues, HasFirstFault}
use Rattle.raw_view.specs.Meaning.{RawValue, KeyedFault, Meaning, value, faulty, Means}
use Rattle.raw_view.specs.Meaning.Value.{value_of}
use Rattle.raw_view.specs.declared.bson_ref.RawBsonRef.{RawBsonRef}
use Rattle.raw_view.specs.declared.error.Error.{Error}
use Rattle.raw_view.proofs.Frames.Loops.{LeadsTo-walk, LeadsTo-more, HasRead-bound}

-- lists of items

items_more : (frames : List Frame) (items : List Item) (f : Frame) (m : Meaning) → ItemsOf frames Done items → Means f m → ItemsOf (frames ++ f ∷ []) Done (items ++ entry f.key m ∷ [])
items_more [] items f m h means = (m, [], means, ap (λ x. x ++ entry f.key m ∷ []) h, refl)
items_more (g ∷ frames) items f m h means = (h.0, h.1 ++ entry f.key m ∷ [], h.2, ap (λ x. x ++ entry f.key m ∷ []) h.3, items_more frames h.1 f m h.4 means)

values_more : (items : List Item) (key : List ℕ) (v : RawValue) → AreValues items → AreValues (items ++ entry key (value v) ∷ [])
values_more [] key v h = tt
values_more (entry name (value w) ∷ items) key v h = values_more items key v h
values_more (entry name (faulty fault) ∷ items) key v h = absurd h
values_more (stopped fault ∷ items) key v h = absurd h

first_value : (f : Frame) (frames : List Frame) (m : Meaning) (rest : List Item) → Means f m → AreValues (entry f.key m ∷ rest) → (AreValues rest → HaveValues frames) → HaveValues (f ∷ frames)
first_value f frames (value v) rest means h more = ((v, means), more h)
first_value f frames (faulty fault) rest means h more = absurd h

have_values : (frames : List Frame) (items : List Item) → ItemsOf frames Done items → AreValues items → HaveValues frames
have_values [] items i h = tt
have_values (f ∷ frames) items i h = first_value f frames i.0 i.1 i.2 (subst AreValues i.3 h) (have_values frames i.1 i.4)

length-items : (frames : List Frame) (items : List Item) → ItemsOf frames Done items → length items ≡ length frames
length-items [] items h = ap length h
length-items (f ∷ frames) items h = ap length h.3 ∙ ap (λ n. suc n) (length-items frames h.1 h.4)

-- what is kept

-- before the first item
pub HasReadItems-none : (s : List ℕ) (left : Option (List ℕ)) → left ≡ Some s → HasReadItems s [] left
HasReadItems-none s left begins = subst (HasReadItems s []) (sym begins) (record { frames = []; read = refl; items_are = refl; values = tt })

-- an item takes at least two bytes
pub HasReadItems-bound : (s : List ℕ) (items : List Item) (left : Option (List ℕ)) → HasReadItems s items left → 2 * length items ≤ length s
HasReadItems-bound s items left h = omega (arith, length-items h.frames items h.items_are, HasRead-bound s h.frames left h.read)

-- one more frame with a value
one_more : (s : List ℕ) (items : List Item) (r : List ℕ) (f : Frame) (t : List ℕ) (v : RawValue) (new : Option (List ℕ)) → HasReadItems s items (Some r)
    → IsFrame r f t → Means f (value v) → new ≡ Some t → HasReadItems s (items ++ entry f.key (value v) ∷ []) new
one_more s items r f t v new h at means left = record {
  frames = h.frames ++ f ∷ [];
  read = subst (HasRead s (h.frames ++ f ∷ [])) (sym left) (LeadsTo-more s h.frames r f t h.read at);
  items_are = items_more h.frames items f (value v) h.items_are means;
  values = values_more items f.key v h.values;
}

-- a returned value is the one that the frame means
told_value : (f : Frame) (v : RawBsonRef) (m : Meaning) → Means f m → TellsMeaning (Ok v) m → Means f (value (value_of v))
told_value f v (value w) means tells = subst (λ x. Means f (value x)) (sym tells) means
told_value f v (faulty fault) means tells = absurd tells

-- and so is a key
told_pair : (f : Frame) (p : Bor (List ℕ) × RawBsonRef) (m : Meaning) → Means f m → TellsItem (Ok p) (entry f.key m) → (f.key ≡ p.0.now) × Means f (value (value_of p.1))
told_pair f p (value w) means tells = (sym tells.0, subst (λ x. Means f (value x)) (sym tells.1) means)
told_pair f p (faulty fault) means tells = absurd tells

-- a returned fault is the one that the frame means
told_fault : (f : Frame) (e : Error) (m : Meaning) → Means f m → TellsMeaning (Err e) m → (fault : KeyedFault) × Means f (faulty fault) × Says e fault
told_fault f e (value v) means tells = absurd tells
told_fault f e (faulty fault) means tells = (fault, means, tells)

-- an error instead of a key and a value says what the frame means
meaning_told : (f : Frame) (e : Error) (m : Meaning) → TellsItem (Err e) (entry f.key m) → TellsMeaning (Err e) m
meaning_told f e (value v) tells = tells
meaning_told f e (faulty fault) tells = tells

-- one more key and value was read
pub HasReadItems-pair : (s : List ℕ) (items : List Item) (old new : Option (List ℕ)) (p : Bor (List ℕ) × RawBsonRef) → HasReadItems s items old
    → StepsItems TellsItem old (Some (Ok p)) new → HasReadItems s (items ++ entry p.0.now (value (value_of p.1)) ∷ []) new
HasReadItems-pair s items None new p h st = absurd h.read
HasReadItems-pair s items (Some r) new p h st =
    elim st [
      | inl g ↦
          let told = told_pair g.frame p g.meaning g.means g.told in
          subst (λ key. HasReadItems s (items ++ entry key (value (value_of p.1)) ∷ []) new) told.0 (one_more s items r g.frame g.rest (value_of p.1) new h g.in_front told.1 g.left)
      | inr g ↦ absurd g.told
    ]

-- one more value of an array was read, under some key
pub HasReadItems-value : (s : List ℕ) (items : List Item) (old new : Option (List ℕ)) (v : RawBsonRef) → HasReadItems s items old
    → StepsItems TellsValue old (Some (Ok v)) new → (key : List ℕ) × HasReadItems s (items ++ entry key (value (value_of v)) ∷ []) new
HasReadItems-value s items None new v h st = absurd h.read
HasReadItems-value s items (Some r) new v h st =
    elim st [
      | inl g ↦ (g.frame.key, one_more s items r g.frame g.rest (value_of v) new h g.in_front (told_value g.frame v g.meaning g.means g.told) g.left)
      | inr g ↦ absurd g.told
    ]

-- no item is left: these are the items of the document
module _ {X : Type 0} (Tells : Result X Error → Item → Type 0) where
  pub HasReadItems-end : (b : List ℕ) (items : List Item) (old new : Option (List ℕ)) → HasReadItems (drop 4 b) items old → StepsItems Tells old None new → AreItems b items
  HasReadItems-end b items None new h st = absurd h.read
  HasReadItems-end b items (Some r) new h st = (h.frames, Done, LeadsTo-walk (drop 4 b) h.frames r Done h.read st.0, h.items_are)

-- the first fault is met
first_fault : (b : List ℕ) (items : List Item) (r : List ℕ) (f : Frame) (t : List ℕ) (e : Error) (m : Meaning) → HasReadItems (drop 4 b) items (Some r)
    → IsFrame r f t → Means f m → TellsMeaning (Err e) m → (fault : KeyedFault) × HasFirstFault b fault × Says e fault
first_fault b items r f t e m h at means tells =
    let told = told_fault f e m means tells in
    (told.0, (h.frames, r, h.read, have_values h.frames items h.items_are h.values, inr (f, t, at, told.1)), told.2)

first_stop : (b : List ℕ) (items : List Item) (r : List ℕ) (e : Error) (fault : KeyedFault) → HasReadItems (drop 4 b) items (Some r)
    → IsStop r fault.fault fault.key → Says e fault → (fault : KeyedFault) × HasFirstFault b fault × Says e fault
first_stop b items r e fault h stop says = (fault, (h.frames, r, h.read, have_values h.frames items h.items_are h.values, inl stop), says)

-- by an error instead of a key and a value
pub HasReadItems-pair_fault : (b : List ℕ) (items : List Item) (old new : Option (List ℕ)) (e : Error) → HasReadItems (drop 4 b) items old
    → StepsItems TellsItem old (Some (Err e)) new → (fault : KeyedFault) × HasFirstFault b fault × Says e fault
HasReadItems-pair_fault b items None new e h st = absurd h.read
HasReadItems-pair_fault b items (Some r) new e h st =
    elim st [
      | inl g ↦ first_fault b items r g.frame g.rest e g.meaning h g.in_front g.means (meaning_told g.frame e g.meaning g.told)
      | inr g ↦ first_stop b items r e g.fault h g.stops g.told
    ]

-- by an error instead of a value
pub HasReadItems-value_fault : (b : List ℕ) (items : List Item) (old new : Option (List ℕ)) (e : Error) → HasReadItems (drop 4 b) items old
    → StepsItems TellsValue old (Some (Err e)) new → (fault : KeyedFault) × HasFirstFault b fault × Says e fault
HasReadItems-value_fault b items None new e h st = absurd h.read
HasReadItems-value_fault b items (Some r) new e h st =
    elim st [
      | inl g ↦ first_fault b items r g.frame g.rest e g.meaning h g.in_front g.means g.told
      | inr g ↦ first_stop b items r e g.fault h g.stops g.told
    ]
