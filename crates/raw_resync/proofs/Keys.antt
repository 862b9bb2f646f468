-- Whether bytes end in the key of a nested document.
use Rattle.std.proofs.Common.{◌≡◌, ℕ, suc, ◌+◌, ◌-◌, ◌<◌, ◌≤◌, ◌⊎◌, List, [], ◌∷◌, ◌++◌, Bool, true, false, MatchBool, arith, get_or, length, take, drop, drop-cons, sym, ap, ◌∙◌, subst, inl, inr, append_assoc, length-append, length-drop}
use Rattle.std.proofs.lemmas.List.{get_or-drop, same_from_push, take-append-drop}
use Rattle.std.proofs.lemmas.Bool.{cases_lt}
use Rattle.std.proofs.lemmas.List.Elements.{All-from_get_or, All-get_or}
use Rattle.std.proofs.Math.Nat.{eq-or-lt_of_le}
use Rattle.std.proofs.Math.Seq.{drop-append_seam, get_or-append_seam}
use Rattle.std.specs.Str.{IsUtf8}
use Rattle.raw_resync.specs.Resync.{EndsInKey, IsBeforeLength}
use Rattle.raw_resync.specs.Seeking.{IsKeyAfter}

-- bytes that end in a key, without its 0
split_text : (text : List ℕ) (x : ℕ) (e : EndsInKey (text ++ x ∷ [])) → (text ≡ e.front ++ e.tag ∷ e.key) × (x ≡ 0)
split_text text x e =
    let whole : text ++ x ∷ [] ≡ (e.front ++ e.tag ∷ e.key) ++ 0 ∷ [] = e.spelled ∙ sym (append_assoc e.front (e.tag ∷ e.key) (0 ∷ [])) in
    same_from_push text (e.front ++ e.tag ∷ e.key) x 0 whole

-- no control character is from here on
abbrev pub IsPlainFrom : List ℕ → ℕ → Type 0
IsPlainFrom text start = (k : ℕ) → start ≤ k → k < length text → 32 ≤ get_or text k 0

pub plain_more : (text : List ℕ) (start : ℕ) → 0 < start → 32 ≤ get_or text (start - 1) 0 → IsPlainFrom text start → IsPlainFrom text (start - 1)
plain_more text start some here plain k low high = elim (cases_lt k start) [
  | inl before ↦ let same : k ≡ start - 1 = omega (arith, low, before, some) in subst (λ n. 32 ≤ get_or text n 0) (sym same) here
  | inr behind ↦ plain k behind high
]

-- where in the text the tag and the key are
module _ (text : List ℕ) (e : EndsInKey (text ++ 0 ∷ [])) where
  text_is : text ≡ e.front ++ e.tag ∷ e.key
  text_is = (split_text text 0 e).0

  text_len : length text ≡ length e.front + 1 + length e.key
  text_len =
      let len : length text ≡ length e.front + length (e.tag ∷ e.key) = ap length text_is ∙ length-append e.front (e.tag ∷ e.key) in
      omega (arith, len)

  tag_low : e.tag < 32
  tag_low = elim e.before [
    | inl document ↦ omega (arith, document)
    | inr (inl array) ↦ omega (arith, array)
    | inr (inr number) ↦ omega (arith, number)
  ]

  tag_here : get_or text (length e.front) 0 ≡ e.tag
  tag_here = ap (λ l. get_or l (length e.front) 0) text_is ∙ get_or-append_seam e.front e.tag e.key 0

  key_here : drop (length e.front + 1) text ≡ e.key
  key_here =
      let len : length (e.front ++ e.tag ∷ []) ≡ length e.front + 1 = length-append e.front (e.tag ∷ []) in
      let whole : text ≡ (e.front ++ e.tag ∷ []) ++ e.key = text_is ∙ sym (append_assoc e.front (e.tag ∷ []) e.key) in
      ap (λ n. drop n text) (sym len) ∙ ap (drop (length (e.front ++ e.tag ∷ []))) whole ∙ drop-append_seam (e.front ++ e.tag ∷ []) e.key

  key_plain : (k : ℕ) → length e.front < k → k < length text → 32 ≤ get_or text k 0
  key_plain k low high =
      let back : length e.front + 1 + (k - (length e.front + 1)) ≡ k = omega (arith, low) in
      let within : k - (length e.front + 1) < length e.key = omega (arith, low, high, text_len) in
      let there = All-get_or (λ c. 32 ≤ c) e.key (k - (length e.front + 1)) 0 within e.plain in
      let same : get_or e.key (k - (length e.front + 1)) 0 ≡ get_or text k 0 =
      ap (λ (l : List ℕ). get_or l (k - (length e.front + 1)) 0) (sym key_here) ∙ get_or-drop (length e.front + 1) text (k - (length e.front + 1)) 0 ∙ ap (λ n. get_or text n 0) back in
      subst (λ n. 32 ≤ n) same there

  -- the tag is before all that has no control character
  tag_before : (start : ℕ) → IsPlainFrom text start → length e.front < start
  tag_before start plain = elim (cases_lt (length e.front) start) [
    | inl before ↦ before
    | inr behind ↦
        let high : 32 ≤ get_or text (length e.front) 0 = plain (length e.front) behind (omega (arith, text_len)) in
        absurd (omega (arith, high, tag_here, tag_low))
  ]

  -- the tag is the last control character
  tag_at : (start : ℕ) → 0 < start → start ≤ length text → IsPlainFrom text start → get_or text (start - 1) 0 < 32 → length e.front ≡ start - 1
  tag_at start some within plain low =
      let before : length e.front < start = tag_before start plain in
      elim (eq-or-lt_of_le {n = length e.front} {m = start - 1} (omega (arith, before))) [
        | inl same ↦ same
        | inr less ↦ let high : 32 ≤ get_or text (start - 1) 0 = key_plain (start - 1) less (omega (arith, some, within)) in absurd (omega (arith, high, low))
      ]

  -- so the tag and the key are there
  pub is_key : (start : ℕ) → 0 < start → start ≤ length text → IsPlainFrom text start → get_or text (start - 1) 0 < 32 → IsKeyAfter (get_or text (start - 1) 0) (drop start text)
  is_key start some within plain low =
      let at : length e.front ≡ start - 1 = tag_at start some within plain low in
      let tag : get_or text (start - 1) 0 ≡ e.tag = ap (λ n. get_or text n 0) (sym at) ∙ tag_here in
      let next : length e.front + 1 ≡ start = omega (arith, at, some) in
      let key : drop start text ≡ e.key = ap (λ n. drop n text) (sym next) ∙ key_here in (
        subst IsBeforeLength (sym tag) e.before,
        subst (λ (l : List ℕ). 0 < length l) (sym key) e.some,
        subst IsUtf8 (sym key) e.text,
      )

  -- the key has at most 64 bytes
  pub near : (start : ℕ) → IsPlainFrom text start → (0 < start) × (length text - start ≤ 64)
  near start plain =
      let before : length e.front < start = tag_before start plain in
      (omega (arith, before), omega (arith, before, text_len, e.few))

-- a tag and a key are there
pub key_ends : (text : List ℕ) (start : ℕ) → 0 < start → start ≤ length text → length text - start ≤ 64 → IsPlainFrom text start → IsKeyAfter (get_or text (start - 1) 0) (drop start text)
    → EndsInKey (text ++ 0 ∷ [])
key_ends text start some within few plain (before, any, utf8) =
    let size : length (drop start text) ≡ length text - start = length-drop start text in
    let next : suc (start - 1) ≡ start = omega (arith, some) in
    let behind : drop (start - 1) text ≡ get_or text (start - 1) 0 ∷ drop start text =
    drop-cons text (start - 1) 0 (omega (arith, some, within)) ∙ ap (λ n. get_or text (start - 1) 0 ∷ drop n text) next in
    let whole : text ≡ take (start - 1) text ++ get_or text (start - 1) 0 ∷ drop start text =
    sym (take-append-drop (start - 1) text) ∙ ap (λ l. take (start - 1) text ++ l) behind in
    record {
      front = take (start - 1) text;
      tag = get_or text (start - 1) 0;
      key = drop start text;
      spelled = ap (λ l. l ++ 0 ∷ []) whole ∙ append_assoc (take (start - 1) text) (get_or text (start - 1) 0 ∷ drop start text) (0 ∷ []);
      before = before;
      some = any;
      few = omega (arith, size, few);
      text = utf8;
      plain = All-from_get_or (λ c. 32 ≤ c) (drop start text) 0
          (λ i less.
          subst (λ n. 32 ≤ n) (sym (get_or-drop start text i 0)) (plain (start + i) (omega arith) (omega (arith, less, size))));
    }

-- a control character is found, and this is said of it and what follows it
pub found_key : {bytes : List ℕ} (text : List ℕ) (start byte : ℕ) (key : List ℕ) (r : Bool) → bytes ≡ text ++ 0 ∷ []
    → (0 < start) × (start ≤ length text) × (length text - start ≤ 64) → IsPlainFrom text start → byte ≡ get_or text (start - 1) 0 → byte < 32
    → key ≡ drop start text → MatchBool r (IsKeyAfter byte key) (¬ IsKeyAfter byte key) → MatchBool r (EndsInKey bytes) (¬ EndsInKey bytes)
found_key {bytes} text start byte key true is (some, within, few) plain at low key_is has =
    let here = subst (λ n. IsKeyAfter n (drop start text)) at (subst (IsKeyAfter byte) key_is has) in
    subst EndsInKey (sym is) (key_ends text start some within few plain here)
found_key {bytes} text start byte key false is (some, within, few) plain at low key_is hasnt = λ e.
    let low' : get_or text (start - 1) 0 < 32 = omega (arith, at, low) in
    let here = is_key text (subst EndsInKey is e) start some within plain low' in
    hasnt (subst (IsKeyAfter byte) (sym key_is) (subst (λ n. IsKeyAfter n (drop start text)) (sym at) here))

-- none is near enough
pub none_near : (bytes text : List ℕ) (x start : ℕ) → bytes ≡ text ++ x ∷ [] → x ≡ 0 → IsPlainFrom text start → ¬ ((0 < start) × (length text - start ≤ 64)) → ¬ EndsInKey bytes
none_near bytes text x start is zero plain far e =
    let is' : bytes ≡ text ++ 0 ∷ [] = is ∙ ap (λ n. text ++ n ∷ []) zero in
    far (near text (subst EndsInKey is' e) start plain)
