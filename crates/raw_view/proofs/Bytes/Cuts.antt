-- A key and its 0 are determined by the bytes.
use Rattle.std.proofs.Common.{◌≡◌, ℕ, List, [], ◌∷◌, ◌++◌}
use Rattle.bson_model.specs.Bytes.{NulFree}
use Rattle.bson_model.proofs.Face.{NulFree-head, NulFree-tail}

pub cut : (k k' z z' : List ℕ) → NulFree k → NulFree k' → k ++ 0 ∷ z ≡ k' ++ 0 ∷ z' → (k ≡ k') × (z ≡ z')
cut [] [] z z' h h' e = (cc, cc)
cut [] (x ∷ k') z z' h h' e = absurd (NulFree-head x k' h' (cc))
cut (x ∷ k) [] z z' h h' e = absurd (NulFree-head x k h (cc))
cut (x ∷ k) (y ∷ k') z z' h h' e =
    let t : k ++ 0 ∷ z ≡ k' ++ 0 ∷ z' = cc in
    let r = cut k k' z z' (NulFree-tail x k h) (NulFree-tail y k' h') t in
    (cc, r.1)
