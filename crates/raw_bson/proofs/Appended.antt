-- The bytes that an append writes.
use Rattle.std.proofs.Common.{◌≡◌, ◌≤◌, ◌+◌, ◌-◌, ◌∷◌, ◌++◌, [], ℕ, ℤ, List, pos, length, take, drop, ap, sym, ◌∙◌, arith, append_assoc, length-append}
use Rattle.std.proofs.lemmas.List.{drop-take, drop-append-le, length-take, length-take-le}
use Rattle.raw_view.specs.Frame.{Frame}
use Rattle.raw_view.specs.Frame.Number.{le32}
use Rattle.raw_view.specs.Frame.Format.{inside_of}
use Rattle.raw_bson.specs.Append.{frame_bytes, appended_bytes}
use Rattle.raw_bson.proofs.KeptWalks.{length-inside, length-frame_bytes}

-- all of a document without its header and its final 0
front_dropped : (b : List ℕ) → 5 ≤ length b → drop 4 (take (length b - 1) b) ≡ inside_of b
front_dropped b h =
    let n : length b - 1 ≡ 4 + (length b - 5) = omega arith in
    rw n (drop-take 4 (length b - 5) b)

behind_header : (b more : List ℕ) → 5 ≤ length b → drop 4 (take (length b - 1) b ++ more) ≡ inside_of b ++ more
behind_header b more h =
    let enough : 4 ≤ length (take (length b - 1) b) = omega (arith, length-take (length b - 1) b) in
    drop-append-le 4 (take (length b - 1) b) more enough ∙ ap (λ (x : List ℕ). x ++ more) (front_dropped b h)

-- an element in place of the final 0, then a 0, and then the header
pub written_is_appended : (b : List ℕ) (f : Frame) (total : ℤ) → 5 ≤ length b → total ≡ pos (length b + (length f.key + (2 + length f.payload)))
    → le32 total ++ drop 4 (take (length b - 1) b ++ (frame_bytes f ++ 0 ∷ [])) ≡ appended_bytes b f
written_is_appended b f total h t =
    let inside = inside_of b ++ frame_bytes f in
    let n : length b + (length f.key + (2 + length f.payload)) ≡ 4 + length (inside ++ 0 ∷ []) =
    omega (arith, h, length-inside b h, length-frame_bytes f, length-append (inside_of b) (frame_bytes f), length-append inside (0 ∷ [])) in
    let back : drop 4 (take (length b - 1) b ++ (frame_bytes f ++ 0 ∷ [])) ≡ inside ++ 0 ∷ [] =
    behind_header b (frame_bytes f ++ 0 ∷ []) h ∙ sym (append_assoc (inside_of b) (frame_bytes f) (0 ∷ [])) in
    ap (λ (z : ℤ). le32 z ++ drop 4 (take (length b - 1) b ++ (frame_bytes f ++ 0 ∷ []))) (t ∙ ap (λ (x : ℕ). pos x) n) ∙ ap (λ (x : List ℕ). le32 (pos (4 + length (inside ++ 0 ∷ []))) ++ x) back

-- as many bytes as there were, and those of the element
pub written_len : (b : List ℕ) (f : Frame) → 5 ≤ length b → length (take (length b - 1) b ++ (frame_bytes f ++ 0 ∷ [])) ≡ length b + (length f.key + (2 + length f.payload))
written_len b f h =
    omega (arith, h, length-append (take (length b - 1) b) (frame_bytes f ++ 0 ∷ []), length-append (frame_bytes f) (0 ∷ []), length-take-le (length b - 1) b (omega arith), length-frame_bytes f)
