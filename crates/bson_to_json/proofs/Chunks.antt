-- Bytes piece by piece, and their base64.
use Rattle.bson_to_json.proofs.Common.{encode_of, encode_of-append, length-take-le, standard, take-add, take-length}
use Rattle.std.proofs.Common.{◌≡◌, ◌+◌, ◌-◌, ◌%◌, ◌≤◌, ℕ, List, ◌++◌, length, take, drop, refl, sym, ap, ◌∙◌, arith}

-- a piece after groups of three
pub chunk_put : (b : List ℕ) (i n m : ℕ) → i ≤ length b → i % 3 ≡ 0 → m ≡ n → encode_of standard (take i b) ++ encode_of standard (take m (drop i b)) ≡ encode_of standard (take (i + n) b)
chunk_put b i n m le groups e =
    let whole : length (take i b) % 3 ≡ 0 = ap (λ (k : ℕ). k % 3) (length-take-le i b le) ∙ groups in
    ap (λ (k : ℕ). encode_of standard (take i b) ++ encode_of standard (take k (drop i b))) e
    ∙ sym (encode_of-append standard (take i b) (take n (drop i b)) whole) ∙ ap (encode_of standard) (sym (take-add i n b))

pub last_chunk : (b : List ℕ) (i : ℕ) → i ≤ length b → i % 3 ≡ 0 → encode_of standard (take i b) ++ encode_of standard (take (length b - i) (drop i b)) ≡ encode_of standard b
last_chunk b i le groups =
    let whole : i + (length b - i) ≡ length b = omega arith in
    chunk_put b i (length b - i) (length b - i) le groups refl ∙ ap (λ (k : ℕ). encode_of standard (take k b)) whole ∙ ap (encode_of standard) (take-length b)
