-- What a caller's loop preserves that takes a state from item to item, or from document to document.
use Rattle.std.proofs.Common.{◌≡◌, ◌⊎◌, ◌≤◌, ◌+◌, ◌-◌, ◌++◌, ◌∷◌, [], ◌∙◌, ℕ, List, drop, length, length-append, length-drop, append_assoc, ap, sym, subst, refl, inl, inr, arith, Option, Some, None, Result, Ok, Err}
use Rattle.std.proofs.lemmas.List.Elements.{All-head, All-nil, All-push, All-tail}
use Rattle.std.proofs.lemmas.Result.{err_from_is_err_and}
use Rattle.std.specs.List.{All}
use Rattle.std.specs.Prelude.{IsErrAnd}
use denote.Ref.{Bor}
use Rattle.raw_view.specs.Errors.Answers.{StepsItems, TellsItem}
use Rattle.raw_view.specs.Frame.Envelope.{IsEnvelope}
use Rattle.raw_view.specs.Frame.ElementSteps.{HasReadItems}
use Rattle.raw_view.specs.Meaning.Item.{Item, entry, stopped, AreItems}
use Rattle.raw_view.specs.Meaning.{RawValue, KeyedFault, value, faulty}
use Rattle.raw_view.specs.Meaning.Value.{value_of}
use Rattle.raw_view.specs.declared.bson_ref.RawBsonRef.{RawBsonRef}
use Rattle.raw_view.specs.declared.error.Error.{Error}
use Rattle.raw_view.proofs.Face.{HasReadItems-none, HasReadItems-end, HasReadItems-bound}
use Rattle.raw_bson.specs.Folds.{LeadOn, ComesIn, FoldsEach, joined, LeadThrough, ReadsDump}
use Rattle.raw_bson.proofs.EachItems.{HasReadItems-next, told_pair, told_pair_fault, IsFaultOf}
use Rattle.raw_bson.proofs.LoopSteps.{HasReadItems-pair}

-- loops over items

-- what such a loop preserves: what it has read, which leads to its state
pub record HasFolded {S E : Type 0} (wrap : Error → E) (Answers : S → List ℕ → RawValue → Result S E → Type 0) (start : S) (b : List ℕ) (s : S) (left : Option (List ℕ)) : Type 0 where
  pub items : List Item
  pub read : HasReadItems (drop 4 b) items left
  pub lead : LeadOn Answers start items s

LeadOn-more : {S E : Type 0} (Answers : S → List ℕ → RawValue → Result S E → Type 0) (start : S) (items : List Item) (key : List ℕ) (v : RawValue) (s t : S)
    → LeadOn Answers start items s → Answers s key v (Ok t) → LeadOn Answers start (items ++ entry key (value v) ∷ []) t
LeadOn-more Answers start [] key v s t h a = (t, subst (λ x. Answers x key v (Ok t)) h a, refl)
LeadOn-more Answers start (entry k (value w) ∷ items) key v s t h a = (h.0, h.1, LeadOn-more Answers h.0 items key v s t h.2 a)
LeadOn-more Answers start (entry k (faulty fault) ∷ items) key v s t h a = absurd h
LeadOn-more Answers start (stopped fault ∷ items) key v s t h a = absurd h

-- a state that an item makes at most one greater is at most the number of items
LeadOn-grows : {S E : Type 0} (Answers : S → List ℕ → RawValue → Result S E → Type 0) (size : S → ℕ)
    → ((x y : S) (key : List ℕ) (v : RawValue) → Answers x key v (Ok y) → size y ≤ size x + 1)
    → (start : S) (items : List Item) (s : S) → LeadOn Answers start items s → size s ≤ size start + length items
LeadOn-grows Answers size each start [] s h = omega (arith, ap size h)
LeadOn-grows Answers size each start (entry k (value w) ∷ items) s h = omega (arith, each start h.0 k w h.1, LeadOn-grows Answers size each h.0 items s h.2)
LeadOn-grows Answers size each start (entry k (faulty fault) ∷ items) s h = absurd h
LeadOn-grows Answers size each start (stopped fault ∷ items) s h = absurd h

module _ {S E : Type 0} {wrap : Error → E} {Answers : S → List ℕ → RawValue → Result S E → Type 0} {start : S} {b : List ℕ} where
  -- before the first item
  pub HasFolded-none : {left : Option (List ℕ)} → left ≡ Some (drop 4 b) → HasFolded wrap Answers start b start left
  HasFolded-none {left = left} begins = record { items = []; read = HasReadItems-none (drop 4 b) left begins; lead = refl }

  -- the call returned the next state for one more
  pub HasFolded-more : {old new : Option (List ℕ)} {out : Result (Bor (List ℕ) × RawBsonRef) Error} {p : Bor (List ℕ) × RawBsonRef} {s t : S} {r : Result S E}
      → HasFolded wrap Answers start b s old → StepsItems TellsItem old (Some out) new → out ≡ Ok p → Answers s p.0.now (value_of p.1) r → r ≡ Ok t
      → HasFolded wrap Answers start b t new
  HasFolded-more {p = p} {s = s} {t = t} h st was answers ok = record {
    items = h.items ++ entry p.0.now (value (value_of p.1)) ∷ [];
    read = HasReadItems-pair h.read st was;
    lead = LeadOn-more Answers start h.items p.0.now (value_of p.1) s t h.lead (subst (Answers s p.0.now (value_of p.1)) ok answers);
  }

  -- this item follows what was read
  comes_in : {left : Option (List ℕ)} {all : List Item} {s : S} (h : HasFolded wrap Answers start b s left) (item : Item) (after : List Item) → AreItems b all
      → all ≡ h.items ++ item ∷ after → ComesIn Answers start b item s
  comes_in h item after are same = record { before = h.items; after = after; are_items = subst (AreItems b) same are; lead = h.lead }

  comes_in_fault : {left : Option (List ℕ)} {all : List Item} {s : S} (h : HasFolded wrap Answers start b s left) (item : Item) (after : List Item) (fault : KeyedFault)
      → AreItems b all → all ≡ h.items ++ item ∷ after → IsFaultOf fault item
      → ((key : List ℕ) × ComesIn Answers start b (entry key (faulty fault)) s) ⊎ ComesIn Answers start b (stopped fault) s
  comes_in_fault {s = s} h item after fault are same (inl k) = inl (k.0, subst (λ x. ComesIn Answers start b x s) k.1 (comes_in h item after are same))
  comes_in_fault {s = s} h item after fault are same (inr k) = inr (subst (λ x. ComesIn Answers start b x s) k (comes_in h item after are same))

  -- the call returned an error, with which the loop ends
  pub HasFolded-error : {old : Option (List ℕ)} (new : Option (List ℕ)) {all : List Item} {out : Result (Bor (List ℕ) × RawBsonRef) Error}
      {p : Bor (List ℕ) × RawBsonRef} {s : S} {r : Result S E} {e : E} (x : Result S E) → HasFolded wrap Answers start b s old
      → StepsItems TellsItem old (Some out) new → out ≡ Ok p → AreItems b all → Answers s p.0.now (value_of p.1) r → r ≡ Err e → IsErrAnd x (λ y. y ≡ e)
      → FoldsEach wrap Answers start b x
  HasFolded-error {old = old} new {all = all} {out = out} {p = p} {s = s} x h st was are answers bad left =
      let q = err_from_is_err_and x left in
      let next = HasReadItems-next TellsItem b h.items old new out all h.read st are in
      let this = told_pair p next.0 (subst (λ (o : Result (Bor (List ℕ) × RawBsonRef) Error). TellsItem o next.0) was next.3) in
      rw (q.1, q.2) (inl (
        s,
        p.0.now,
        value_of p.1,
        subst (λ i. ComesIn Answers start b i s) this (comes_in h next.0 next.1 are next.2),
        subst (Answers s p.0.now (value_of p.1)) bad answers,
      ))

  -- a fault was met, and its error wrapped
  pub HasFolded-fault : {old : Option (List ℕ)} (new : Option (List ℕ)) {all : List Item} {out : Result (Bor (List ℕ) × RawBsonRef) Error} {e : Error} {s : S}
      (x : Result S E) → HasFolded wrap Answers start b s old → StepsItems TellsItem old (Some out) new → out ≡ Err e → AreItems b all
      → IsErrAnd x (λ y. y ≡ wrap e) → FoldsEach wrap Answers start b x
  HasFolded-fault {old = old} new {all = all} {out = out} {e = e} {s = s} x h st was are left =
      let q = err_from_is_err_and x left in
      let next = HasReadItems-next TellsItem b h.items old new out all h.read st are in
      let told = told_pair_fault e next.0 (subst (λ (o : Result (Bor (List ℕ) × RawBsonRef) Error). TellsItem o next.0) was next.3) in
      rw q.1 (inr (s, told.0, comes_in_fault h next.0 next.1 told.0 are next.2 told.1, (e, told.2, q.2)))

  -- no item is left
  pub HasFolded-end : {old : Option (List ℕ)} (new : Option (List ℕ)) {s : S} → HasFolded wrap Answers start b s old → StepsItems TellsItem old None new
      → FoldsEach wrap Answers start b (Ok s)
  HasFolded-end {old = old} new h st = (h.items, HasReadItems-end TellsItem b h.items old new h.read st, h.lead)

  -- a state that an item makes at most one greater
  pub HasFolded-grows : {left : Option (List ℕ)} {s : S} (size : S → ℕ) → ((x y : S) (key : List ℕ) (v : RawValue) → Answers x key v (Ok y) → size y ≤ size x + 1)
      → HasFolded wrap Answers start b s left → size s ≤ size start + length b
  HasFolded-grows {left = left} {s = s} size each h = omega (
    arith,
    LeadOn-grows Answers size each start h.items s h.lead,
    HasReadItems-bound (drop 4 b) h.items left h.read,
    length-drop 4 b,
  )

-- loops over the documents of a dump

LeadThrough-more : {S : Type 0} (Step : S → List ℕ → S → Type 0) (start : S) (docs : List (List ℕ)) (d : List ℕ) (s t : S) → LeadThrough Step start docs s → Step s d t
    → LeadThrough Step start (docs ++ d ∷ []) t
LeadThrough-more Step start [] d s t h step = (t, subst (λ x. Step x d t) h step, refl)
LeadThrough-more Step start (x ∷ docs) d s t h step = (h.0, h.1, LeadThrough-more Step h.0 docs d s t h.2 step)

LeadThrough-grows : {S : Type 0} (Step : S → List ℕ → S → Type 0) (size : S → ℕ) → ((x y : S) (d : List ℕ) → Step x d y → size y ≤ size x + 1)
    → (start : S) (docs : List (List ℕ)) (s : S) → LeadThrough Step start docs s → size s ≤ size start + length docs
LeadThrough-grows Step size each start [] s h = omega (arith, ap size h)
LeadThrough-grows Step size each start (d ∷ docs) s h = omega (arith, each start h.0 d h.1, LeadThrough-grows Step size each h.0 docs s h.2)

-- one more document
pub joined-more : (docs : List (List ℕ)) (d rest : List ℕ) → joined (docs ++ d ∷ []) ++ rest ≡ joined docs ++ (d ++ rest)
joined-more [] d rest = append_assoc d [] rest
joined-more (x ∷ docs) d rest = append_assoc x (joined (docs ++ d ∷ [])) rest ∙ ap (λ y. x ++ y) (joined-more docs d rest) ∙ sym (append_assoc x (joined docs) (d ++ rest))

length-joined : (docs : List (List ℕ)) → All IsEnvelope docs → length docs ≤ length (joined docs)
length-joined [] all = omega arith
length-joined (d ∷ docs) all = omega (arith, (All-head IsEnvelope d docs all).enough, length-append d (joined docs), length-joined docs (All-tail IsEnvelope d docs all))

module _ {S : Type 0} {Step : S → List ℕ → S → Type 0} {start : S} {s : List ℕ} where
  -- before the first document
  pub ReadsDump-none : ReadsDump Step start s start s
  ReadsDump-none = record { docs = []; parts = refl; documents = All-nil IsEnvelope; lead = refl }

  -- one more was cut off
  pub ReadsDump-more : {left behind d : List ℕ} {t u : S} → ReadsDump Step start s t left → left ≡ d ++ behind → IsEnvelope d → Step t d u
      → ReadsDump Step start s u behind
  ReadsDump-more {left = left} {behind = behind} {d = d} {t = t} {u = u} h cut this step = record {
    docs = h.docs ++ d ∷ [];
    parts = joined-more h.docs d behind ∙ ap (λ y. joined h.docs ++ y) (sym cut) ∙ h.parts;
    documents = All-push IsEnvelope h.docs d h.documents this;
    lead = LeadThrough-more Step start h.docs d t u h.lead step;
  }

  -- where the rest begins
  pub ReadsDump-length : {left : List ℕ} {t : S} (h : ReadsDump Step start s t left) → length (joined h.docs) + length left ≡ length s
  ReadsDump-length {left = left} h = sym (length-append (joined h.docs) left) ∙ ap length h.parts

  -- where the bytes after the next document begin
  pub ReadsDump-offset : {left : List ℕ} (d behind : List ℕ) {t : S} → ReadsDump Step start s t left → left ≡ d ++ behind
      → (length s - length left) + length d ≡ length s - length behind
  ReadsDump-offset d behind h cut = omega (arith, ReadsDump-length h, ap length cut ∙ length-append d behind)

  -- a state that a document makes at most one greater
  pub ReadsDump-grows : {left : List ℕ} {t : S} (size : S → ℕ) → ((x y : S) (d : List ℕ) → Step x d y → size y ≤ size x + 1) → ReadsDump Step start s t left
      → size t + length left ≤ size start + length s
  ReadsDump-grows {t = t} size each h = omega (arith, LeadThrough-grows Step size each start h.docs t h.lead, length-joined h.docs h.documents, ReadsDump-length h)
