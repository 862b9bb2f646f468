-- The result of a loop that takes a state from item to item of a document, or from document to document of a dump.
use Rattle.std.specs.Prelude.{◌≡◌, ◌⊎◌, ℕ, List, [], ◌∷◌, ◌++◌, Result, Ok, Err}
use Rattle.std.specs.List.{All}
use Rattle.raw_view.specs.Frame.Envelope.{IsEnvelope}
use Rattle.raw_view.specs.Meaning.Item.{Item, entry, stopped, AreItems}
use Rattle.raw_view.specs.Meaning.{RawValue, KeyedFault, value, faulty}
use Rattle.raw_view.specs.declared.error.Error.{Error}
use Rattle.raw_bson.specs.EachItem.{WrapsFault}

-- Each of these items is a key with a value, and they lead from one state to another. At each item the call returns the next state, as
-- `Answers` says.
abbrev pub LeadOn : {S E : Type 0} → (S → List ℕ → RawValue → Result S E → Type 0) → S → List Item → S → Type 0
LeadOn Answers s [] t = t ≡ s
LeadOn {S} Answers s (entry key (value v) ∷ items) t = (next : S) × Answers s key v (Ok next) × LeadOn Answers next items t
LeadOn Answers s (_ ∷ items) t = ⊥

-- the document b has this item, and the items before it lead from one state to the other
pub record ComesIn {S E : Type 0} (Answers : S → List ℕ → RawValue → Result S E → Type 0) (start : S) (b : List ℕ) (item : Item) (s : S) : Type 0 where
  pub before : List Item
  pub after : List Item
  pub are_items : AreItems b (before ++ item ∷ after)
  pub lead : LeadOn Answers start before s

module _ {S E : Type 0} (wrap : Error → E) (Answers : S → List ℕ → RawValue → Result S E → Type 0) where
  -- What such a loop over the document b returns from this first state on: the state to which all items lead; otherwise the error of the
  -- call for an item, or of a fault, before which all items lead to some state.
  abbrev pub FoldsEach : S → List ℕ → Result S E → Type 0
  FoldsEach start b (Ok t) = (items : List Item) × AreItems b items × LeadOn Answers start items t
  FoldsEach start b (Err e) =
      ((s : S) × (key : List ℕ) × (v : RawValue) × ComesIn Answers start b (entry key (value v)) s × Answers s key v (Err e))
      ⊎ ((s : S) × (fault : KeyedFault) × (((key : List ℕ) × ComesIn Answers start b (entry key (faulty fault)) s) ⊎ ComesIn Answers start b (stopped fault) s)
      × WrapsFault wrap fault e)

-- the bytes of these documents, one after another
abbrev pub joined : List (List ℕ) → List ℕ
joined [] = []
joined (d ∷ ds) = d ++ joined ds

-- these documents lead from one state to another, each by a step
abbrev pub LeadThrough : {S : Type 0} → (S → List ℕ → S → Type 0) → S → List (List ℕ) → S → Type 0
LeadThrough Step s [] t = t ≡ s
LeadThrough {S} Step s (d ∷ ds) t = (next : S) × Step s d next × LeadThrough Step next ds t

-- s begins with documents that lead from one state to another, and this follows them
pub record ReadsDump {S : Type 0} (Step : S → List ℕ → S → Type 0) (start : S) (s : List ℕ) (end : S) (left : List ℕ) : Type 0 where
  pub docs : List (List ℕ)
  pub parts : joined docs ++ left ≡ s
  pub documents : All IsEnvelope docs
  pub lead : LeadThrough Step start docs end
