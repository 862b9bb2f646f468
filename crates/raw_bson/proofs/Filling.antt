-- Filling a buffer, one item after the other.
use Rattle.std.proofs.Common.{◌≡◌, List, [], ◌∷◌, ◌++◌, Option, Some, None, Result, Ok, Err, refl, subst, inr}
use Rattle.std.specs.Iterator.{Yields, Drains}
use Rattle.std.proofs.iter.Next.{Yields-more}
use Rattle.raw_view.specs.declared.error.Error.{Error}
use Rattle.raw_bson.specs.Fills.{TakesEach, Fills}

-- all items came; the state of the iterator was made from the one passed in
pub drained : {A S : Type 0} (gives : S → Option A → S → Type 0) (start s last after : S) (xs : List A) → s ≡ start → Yields gives s xs last → gives last None after → Drains gives start xs
drained gives start s last after xs from ran none = (after, (last, subst (λ q. Yields gives q xs last) from ran, none))

module _ {X A : Type 0} (Takes : X → A → Result (Unit {0}) Error → X → Type 0) where
  -- one more item
  pub takes_more : (b : X) (xs : List A) (mid : X) (x : A) (left : X) → TakesEach Takes b xs mid → Takes mid x (Ok tt) left → TakesEach Takes b (xs ++ x ∷ []) left
  takes_more b [] mid x left h t = (left, subst (λ (y : X). Takes y x (Ok tt) left) h t, refl)
  takes_more b (y ∷ xs) mid x left h t = (h.0, h.1, takes_more h.0 xs mid x left h.2 t)

  -- all items were taken
  pub filled : {S : Type 0} {last after : S} (empty full : X) (gives : S → Option A → S → Type 0) (start s : S) (xs : List A) → s ≡ start → Yields gives s xs last
      → gives last None after → TakesEach Takes empty xs full → Fills Takes empty gives start (Ok full)
  filled {last = last} {after = after} empty full gives start s xs from ran none taken =
      record { items = xs; given = drained gives start s last after xs from ran none; taken = taken }

  -- one more item came and was refused
  pub refused : {S : Type 0} {last after : S} {e : Error} {mid : X} (empty : X) (gives : S → Option A → S → Type 0) (start s : S) (xs : List A) (x : A) → s ≡ start
      → Yields gives s xs last → gives last (Some x) after → TakesEach Takes empty xs mid → Takes mid x (Err e) mid → Fills Takes empty gives start (Err e)
  refused {last = last} {after = after} {mid = mid} empty gives start s xs x from ran gave taken why =
      let more = Yields-more gives s xs last x after ran gave in
      inr (record { items = xs; last = x; after = after; left = mid; given = subst (λ q. Yields gives q (xs ++ x ∷ []) after) from more; taken = taken; failed = why })
