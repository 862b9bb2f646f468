-- The document at the front of bytes has the length that they begin with.
use Rattle.std.proofs.Common.{◌≡◌, ◌++◌, ◌∷◌, [], ℕ, ℤ, pos, w32, to_z, List, length, get_or, arith, ap, ◌∙◌}
use Rattle.std.proofs.lemmas.List.{get_or_append_left}
use Rattle.std.specs.Int.{from_le_bytes}
use Rattle.raw_view.specs.Frame.Envelope.{IsEnvelope}
use Rattle.raw_view.proofs.Bytes.Numbers.{read_front, IsLe32-same}

-- the first four bytes
abbrev pub first_four : List ℕ → List ℕ
first_four s = get_or s 0 0 ∷ get_or s 1 0 ∷ get_or s 2 0 ∷ get_or s 3 0 ∷ []

pub header_of_front : (s p r : List ℕ) (z : ℤ) → s ≡ p ++ r → IsEnvelope p → z ≡ to_z w32 (from_le_bytes w32 (first_four s)) → z ≡ pos (length p)
header_of_front s p r z e env read =
    let at0 : get_or s 0 0 ≡ get_or p 0 0 = ap (λ (x : List ℕ). get_or x 0 0) e ∙ get_or_append_left p r 0 0 (omega (arith, env.enough)) in
    let at1 : get_or s 1 0 ≡ get_or p 1 0 = ap (λ (x : List ℕ). get_or x 1 0) e ∙ get_or_append_left p r 0 1 (omega (arith, env.enough)) in
    let at2 : get_or s 2 0 ≡ get_or p 2 0 = ap (λ (x : List ℕ). get_or x 2 0) e ∙ get_or_append_left p r 0 2 (omega (arith, env.enough)) in
    let at3 : get_or s 3 0 ≡ get_or p 3 0 = ap (λ (x : List ℕ). get_or x 3 0) e ∙ get_or_append_left p r 0 3 (omega (arith, env.enough)) in
    let same : first_four s ≡ first_four p = λ i. at0 i ∷ at1 i ∷ at2 i ∷ at3 i ∷ [] in
    IsLe32-same _ z (pos (length p)) (read_front p z env.bytes (omega (arith, env.enough)) (read ∙ ap (λ (four : List ℕ). to_z w32 (from_le_bytes w32 four)) same)) env.header
