-- What a writer holds, and that it was given a text.
use Rattle.bson_to_json.proofs.Common.{Appends, HasFront, Style, WroteFront}
use Rattle.std.proofs.Common.{◌≡◌, ◌++◌, ℕ, List, Option, None, Some, refl, sym, subst}

pub appends_of_grows : (old new : Option (List ℕ)) (bs : List ℕ) → ((most : ℕ) (text : List ℕ) → old ≡ Some text → new ≡ Some (text ++ bs)) → Appends old new bs
appends_of_grows None new bs f = tt
appends_of_grows (Some x) new bs f = subst (λ (y : Option (List ℕ)). Appends (Some x) y bs) (sym (f 0 x refl)) refl

-- of what has these known bytes
module _ {S : Type 0} (contents : S → Option (List ℕ)) (style : Style) (b : List ℕ) (old new : S) where
  pub wrote_front : HasFront (λ (w : S) (most : ℕ) (text : List ℕ). contents w ≡ Some text) style b old new → WroteFront style b (contents old) (contents new)
  wrote_front (text, json, f) = (text, json, record { front = f.front; behind = f.behind; whole = f.whole; put = appends_of_grows (contents old) (contents new) f.front f.put })
