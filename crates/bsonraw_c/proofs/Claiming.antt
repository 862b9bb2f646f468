-- An element that is put where it was claimed.
use Rattle.std.proofs.Common.{◌≡◌, ◌<◌, ◌+◌, inl, inr, ℕ, Some, List, [], ◌∷◌, ◌++◌, length, ap, sym, ◌∙◌, arith, append_assoc, length-append}
use Rattle.raw_bson.specs.Append.{frame_bytes}
use Rattle.raw_bson.specs.Frame.{Frame}
use Rattle.raw_bson.specs.Kind.{tag_of}
use Rattle.raw_bson.specs.Number.{max_length}
use Rattle.bsonraw_c.specs.Build.{Adds, IsTooLong, grown, put_bytes}
use Rattle.bsonraw_c.specs.BuildParts.{Claims}
use Rattle.bsonraw_c.specs.declared.build.Builder.{Builder}
use Rattle.bsonraw_c.proofs.Putting.{joined}

-- an element that is no longer than what was claimed
short : (b : Builder) (size n : ℕ) → n ≡ size → b.len + size < max_length → b.count < max_length → IsTooLong b n → ⊥
short b size n e few more (inl far) = omega (arith, far, e, few)
short b size n e few more (inr many) = omega (arith, many, more)

-- the head of an element was put, and then its payload
pub claimed : (f : Frame) (size at : ℕ) (old new : Builder) (before headed after : List ℕ) → Claims size (length before) old new (Some at)
    → size ≡ 2 + (length f.key + length f.payload) → headed ≡ put_bytes at (tag_of f.kind ∷ (f.key ++ 0 ∷ [])) before
    → after ≡ put_bytes (at + length f.key + 2) f.payload headed → Adds f old new before after
claimed f size at old new before headed after claims exact head payload =
    let front = tag_of f.kind ∷ (f.key ++ 0 ∷ []) in
    let whole : frame_bytes f ≡ front ++ f.payload = sym (ap (λ (x : List ℕ). tag_of f.kind ∷ x) (append_assoc f.key (0 ∷ []) f.payload)) in
    let long : length (frame_bytes f) ≡ size = omega (arith, exact, length-append f.key (0 ∷ f.payload)) in
    let one = length-append f.key (0 ∷ []) in
    let put = joined at (at + length f.key + 2) front f.payload before headed after head payload (omega (arith, one)) (omega (arith, claims.2, claims.3, exact, one)) in
    inr (inr (
      short old size (length (frame_bytes f)) long claims.0 claims.1,
      omega (arith, claims.2, long),
      put ∙ ap (λ (x : List ℕ). put_bytes at x before) (sym whole) ∙ ap (λ (n : ℕ). put_bytes n (frame_bytes f) before) claims.3,
      claims.4 ∙ ap (λ (n : ℕ). grown old n) (sym long),
    ))
