-- Lengths that exceed any limit, by their last byte.
use Rattle.std.proofs.Common.{◌≡◌, ℕ, zero, suc, ◌+◌, ◌-◌, ◌<◌, ◌≤◌, List, ◌∷◌, [], Bool, true, arith, drop, get_or, length, take, subst, sym, ap, ◌∙◌, refl, inl, inr, length-drop, length-take-le}
use Rattle.std.proofs.lemmas.Bool.{cases_lt}
use Rattle.std.proofs.lemmas.List.{get_or-drop, get_or-take}
use Rattle.memchr.specs.Find.{is_byte2}
use Rattle.raw_resync.specs.Pieces.{said_len}
use Rattle.raw_resync.specs.Seeking.{LacksPiece, LacksPieces}

-- a byte that is neither 0 nor 1
at_least_two : (x : ℕ) → ¬ (is_byte2 0 1 x ≡ true) → 2 ≤ x
at_least_two zero not = absurd (not refl)
at_least_two (suc zero) not = absurd (not refl)
at_least_two (suc (suc x)) not = omega arith

long_said : (s : List ℕ) → 4 ≤ length s → 2 ≤ get_or s 3 0 → 33554432 ≤ said_len s
long_said [] four top = absurd (omega arith)
long_said (a ∷ []) four top = absurd (omega arith)
long_said (a ∷ b ∷ []) four top = absurd (omega arith)
long_said (a ∷ b ∷ c ∷ []) four top = absurd (omega arith)
long_said (a ∷ b ∷ c ∷ d ∷ t) four top = omega (arith, top)

-- the bytes from one place on, before another
pub hay_len : (bytes : List ℕ) (from end : ℕ) → end ≤ length bytes → length (take (end - from) (drop from bytes)) ≡ end - from
hay_len bytes from end within =
    let rest : length (drop from bytes) ≡ length bytes - from = length-drop from bytes in
    length-take-le (end - from) (drop from bytes) (omega (arith, rest, within))

-- no piece is at the front of places whose length has another last byte
pub lacks_tops : {hay : List ℕ} (most : ℕ) (last : Bool) (bytes : List ℕ) (place end next : ℕ) → most < 33554432 → end ≤ length bytes → place + 4 ≤ end
    → hay ≡ take (end - (place + 1 + 3)) (drop (place + 1 + 3) bytes) → next ≤ place + 1 + length hay
    → ((k : ℕ) → k < next - (place + 1) → ¬ (is_byte2 0 1 (get_or hay k 0) ≡ true)) → LacksPieces most last bytes place next
lacks_tops {hay} most last bytes place end next small within more is far none j low high =
    let k : ℕ = j - (place + 1) in
    let count : length hay ≡ end - (place + 1 + 3) = ap length is ∙ hay_len bytes (place + 1 + 3) end within in
    let size : length (drop j bytes) ≡ length bytes - j = length-drop j bytes in
    let here : place + 1 + 3 + k ≡ j + 3 = omega (arith, low) in
    let same : get_or hay k 0 ≡ get_or (drop j bytes) 3 0 =
    ap (λ (h : List ℕ). get_or h k 0) is
    ∙ get_or-take (end - (place + 1 + 3)) (drop (place + 1 + 3) bytes) k 0 (omega (arith, low, high, far, count))
    ∙ get_or-drop (place + 1 + 3) bytes k 0 ∙ ap (λ i. get_or bytes i 0) here ∙ sym (get_or-drop j bytes 3 0) in
    let top : 2 ≤ get_or (drop j bytes) 3 0 = subst (λ x. 2 ≤ x) same (at_least_two (get_or hay k 0) (none k (omega (arith, low, high)))) in
    let four : 4 ≤ length (drop j bytes) = omega (arith, size, within, more, far, count, high) in
    let said : 33554432 ≤ said_len (drop j bytes) = long_said (drop j bytes) four top in
    inr (four, inr (omega (arith, said, small)))

-- lengths of 0
small_said : (s : List ℕ) → 4 ≤ length s → get_or s 0 0 ≡ 0 → get_or s 1 0 ≡ 0 → get_or s 2 0 ≡ 0 → get_or s 3 0 ≡ 0 → said_len s < 5
small_said [] four a b c d = absurd (omega arith)
small_said (x ∷ []) four a b c d = absurd (omega arith)
small_said (x ∷ y ∷ []) four a b c d = absurd (omega arith)
small_said (x ∷ y ∷ z ∷ []) four a b c d = absurd (omega arith)
small_said (x ∷ y ∷ z ∷ w ∷ t) four a b c d = omega (arith, a, b, c, d)

pub lacks_zeros : {hay : List ℕ} {most : ℕ} {last : Bool} (bytes : List ℕ) (place end count : ℕ) → end ≤ length bytes → hay ≡ take (end - place) (drop place bytes) → count ≤ length hay
    → ((k : ℕ) → k < count → get_or hay k 0 ≡ 0) → (j : ℕ) → place ≤ j → j + 3 < place + count → LacksPiece most last (drop j bytes)
lacks_zeros {hay} bytes place end count within is few zeros j low high =
    let size : length (drop j bytes) ≡ length bytes - j = length-drop j bytes in
    let len : length hay ≡ end - place = ap length is ∙ hay_len bytes place end within in
    let at : (i : ℕ) → i < 4 → get_or (drop j bytes) i 0 ≡ 0 = λ i less.
    let back : place + (j - place + i) ≡ j + i = omega (arith, low) in
    get_or-drop j bytes i 0 ∙ ap (λ n. get_or bytes n 0) (sym back) ∙ sym (get_or-drop place bytes (j - place + i) 0)
    ∙ sym (get_or-take (end - place) (drop place bytes) (j - place + i) 0 (omega (arith, low, high, few, len, less)))
    ∙ ap (λ (h : List ℕ). get_or h (j - place + i) 0) (sym is) ∙ zeros (j - place + i) (omega (arith, low, high, less)) in
    let four : 4 ≤ length (drop j bytes) = omega (arith, size, within, low, high, few, len) in
    inr (four, inl (small_said (drop j bytes) four (at 0 (omega arith)) (at 1 (omega arith)) (at 2 (omega arith)) (at 3 (omega arith))))

-- no piece is from `place` on before `next`, nor from there on before `end`
pub lacks_on : {most : ℕ} {last : Bool} {bytes : List ℕ} (place next end : ℕ) → LacksPieces most last bytes place next → ((j : ℕ) → next ≤ j → j < end → LacksPiece most last (drop j bytes))
    → LacksPieces most last bytes place end
lacks_on place next end p q j low high = elim (cases_lt j next) [
  | inl before ↦ p j low before
  | inr behind ↦ q j behind high
]
