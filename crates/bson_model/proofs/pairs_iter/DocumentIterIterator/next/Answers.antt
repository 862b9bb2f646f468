use Rattle.std.proofs.Common.{◌≡◌, ℕ, zero, suc, List, [], ◌∷◌, drop, Some, None, slice_get, refl, sym, ap, ◌∙◌, add-one}
use Rattle.bson_model.specs.Tree.{pairs_of}
use Rattle.bson_model.proofs.pairs_iter.DocumentIterIterator.next.Goals as goal

none_left : {X : Type 0} (xs : List X) (n : ℕ) → slice_get xs n ≡ None → drop n xs ≡ []
none_left [] zero at = refl
none_left [] (suc n) at = refl
none_left (x ∷ xs) zero at = cc
none_left (x ∷ xs) (suc n) at = none_left xs n at

one_more : {X : Type 0} (xs : List X) (n : ℕ) (x : X) → slice_get xs n ≡ Some x → drop n xs ≡ x ∷ drop (suc n) xs
one_more [] n x at = cc
one_more (y ∷ xs) zero x at = ap (λ z. z ∷ xs) cc
one_more (y ∷ xs) (suc n) x at = one_more xs n x at

pub returns-in-Some-clause-steps : goal.returns-in-Some-clause-steps
returns-in-Some-clause-steps c = sym c.self.view_is ∙ rw add-one
    (one_more (pairs_of c.self.inside.document.now) c.self.inside.next (c.in-Some.pair.0.now, c.in-Some.pair.1.now)
    (sym (rw c.in-Some.is at c.pair_at.ensures.pair)))

pub returns-in-None-clause-steps : goal.returns-in-None-clause-steps
returns-in-None-clause-steps c = let none = sym c.self.view_is ∙ none_left (pairs_of c.self.inside.document.now) c.self.inside.next (sym c.in-None.ensures.pair) in (none, none)
