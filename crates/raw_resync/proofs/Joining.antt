-- Passed places in all of the rest, from those in parts of it.
use Rattle.std.proofs.Common.{◌≡◌, ℕ, suc, ◌+◌, ◌-◌, ◌<◌, ◌≤◌, ◌⊎◌, List, [], ◌∷◌, ◌++◌, Bool, true, false, arith, length, take, drop, sym, ap, ◌∙◌, subst, refl, inl, inr, append_assoc, length-append, length-drop, length-take-le}
use Rattle.std.proofs.lemmas.List.{drop-append-le, drop-drop}
use Rattle.std.proofs.Math.Seq.{drop-append_seam, take-add}
use Rattle.raw_tree.specs.declared.reader.limits.Limits.{Limits}
use Rattle.raw_resync.specs.Charge.{HasRoom, IsProbed, charged}
use Rattle.raw_resync.specs.Resync.{EndsInKey}
use Rattle.raw_resync.specs.Searches.{IsFoundAt, IsLeftOut, IsLikely, IsPassedAt, LooksInto, PassesOver}
use Rattle.raw_resync.specs.declared.work.Work.{Work}

-- bytes that end in a key, after others
key_further : (a t : List ℕ) → EndsInKey t → EndsInKey (a ++ t)
key_further a t e = record {
  front = a ++ e.front;
  tag = e.tag;
  key = e.key;
  spelled = ap (λ l. a ++ l) e.spelled ∙ sym (append_assoc a e.front (e.tag ∷ (e.key ++ 0 ∷ [])));
  before = e.before;
  some = e.some;
  few = e.few;
  text = e.text;
  plain = e.plain;
}

-- if bytes end in a key, their last 66 do
key_nearer : (a t : List ℕ) → 66 ≤ length t → EndsInKey (a ++ t) → EndsInKey t
key_nearer a t enough e =
    let last : List ℕ = e.tag ∷ (e.key ++ 0 ∷ []) in
    let size : length (e.key ++ 0 ∷ []) ≡ length e.key + 1 = length-append e.key (0 ∷ []) in
    let whole : length a + length t ≡ length e.front + length last = sym (length-append a t) ∙ ap length e.spelled ∙ length-append e.front last in
    let inside : length a ≤ length e.front = omega (arith, size, whole, enough, e.few) in
    record {
      front = drop (length a) e.front;
      tag = e.tag;
      key = e.key;
      spelled = sym (drop-append_seam a t) ∙ ap (drop (length a)) e.spelled ∙ drop-append-le (length a) e.front last inside;
      before = e.before;
      some = e.some;
      few = e.few;
      text = e.text;
      plain = e.plain;
    }

-- a document that may count may also count after fewer bytes
likely_nearer : (limits : Limits) (n place : ℕ) (s : List ℕ) → IsLikely limits s (n + place) → IsLikely limits (drop n s) place
likely_nearer limits n place s p = record {
  b = p.b;
  rest = p.rest;
  split = drop-drop place n s ∙ p.split;
  piece = p.piece;
  long = p.long;
  envelope = p.envelope;
  begun = p.begun;
  alone = λ key. p.alone (subst EndsInKey (sym (take-add n place s)) (key_further (take n s) (take place (drop n s)) key));
}

-- and after more bytes, if those before the place have room for a key
alone_further : (limits : Limits) (n place : ℕ) (s : List ℕ) → (n ≡ 0) ⊎ (66 ≤ place) → (p : IsLikely limits (drop n s) place) → ¬ EndsInKey (take (n + place) s)
alone_further limits n place s (inl none) p key =
    let same : n + place ≡ place = omega (arith, none) in
    p.alone (subst (λ m. EndsInKey (take place (drop m s))) (sym none) (subst (λ m. EndsInKey (take m s)) same key))
alone_further limits n place s (inr far) p key =
    let len : length (drop place (drop n s)) ≡ length p.b + length p.rest = ap length p.split ∙ length-append p.b p.rest in
    let left : length (drop place (drop n s)) ≡ length (drop n s) - place = length-drop place (drop n s) in
    let size : length (take place (drop n s)) ≡ place = length-take-le place (drop n s) (omega (arith, p.long, len, left)) in
    p.alone (key_nearer (take n s) (take place (drop n s)) (omega (arith, size, far)) (subst EndsInKey (take-add n place s) key))

likely_further : (limits : Limits) (n place : ℕ) (s : List ℕ) → (n ≡ 0) ⊎ (66 ≤ place) → IsLikely limits (drop n s) place → IsLikely limits s (n + place)
likely_further limits n place s back p = record {
  b = p.b;
  rest = p.rest;
  split = sym (drop-drop place n s) ∙ p.split;
  piece = p.piece;
  long = p.long;
  envelope = p.envelope;
  begun = p.begun;
  alone = alone_further limits n place s back p;
}

end_further : (at n place len : ℕ) → (at + n) + (place + len) ≡ at + ((n + place) + len)
end_further at n place len = omega arith

-- what is known of a place, counted from n bytes before
module _ (limits : Limits) (s : List ℕ) (at n place : ℕ) (back : (n ≡ 0) ⊎ (66 ≤ place)) where
  left_further : (w : Work) → IsLeftOut limits (drop n s) (at + n) place w → IsLeftOut limits s at (n + place) w
  unfolding likely_further
  left_further w (p, none) = (likely_further limits n place s back p, subst (λ e. ¬ HasRoom w (length p.b) e) (end_further at n place (length p.b)) none)

  left_nearer : (w : Work) → IsLeftOut limits s at (n + place) w → IsLeftOut limits (drop n s) (at + n) place w
  unfolding likely_nearer
  left_nearer w (p, none) = (likely_nearer limits n place s p, subst (λ e. ¬ HasRoom w (length p.b) e) (sym (end_further at n place (length p.b))) none)

  looks_further : (old new : Work) (is : Bool) → LooksInto limits (drop n s) (at + n) place old new is → LooksInto limits s at (n + place) old new is
  unfolding likely_further
  looks_further old new is (p, room, m, probed, same) = (
    likely_further limits n place s back p,
    subst (λ e. HasRoom old (length p.b) e) (end_further at n place (length p.b)) room,
    m,
    probed,
    same ∙ ap (λ e. charged old m e) (end_further at n place (length p.b)),
  )

  pub found_further : (old new : Work) → IsFoundAt limits (drop n s) (at + n) place old new → IsFoundAt limits s at (n + place) old new
  found_further old new (inl (none, same)) = inl (sym (drop-drop place n s) ∙ none, same)
  found_further old new (inr looked) = inr (looks_further old new true looked)

  passed_further : (old new : Work) → IsPassedAt limits (drop n s) (at + n) place old new → IsPassedAt limits s at (n + place) old new
  passed_further old new (within, how) =
      let size : length (drop n s) ≡ length s - n = length-drop n s in
      let there : n + place < length s = omega (arith, size, within) in
      elim how [
        | inl (none, same) ↦ (there, inl (λ p. none (likely_nearer limits n place s p), same))
        | inr (inl (left, same)) ↦ (there, inr (inl (left_further old left, same)))
        | inr (inr looked) ↦ (there, inr (inr (looks_further old new false looked)))
      ]

back_on : (n from place : ℕ) → from ≤ place → (n ≡ 0) ⊎ (66 ≤ from) → (n ≡ 0) ⊎ (66 ≤ place)
back_on n from place low (inl none) = inl none
back_on n from place low (inr far) = inr (omega (arith, low, far))

there : (n from place : ℕ) → n + from ≤ place → n + (place - n) ≡ place
there n from place low = omega (arith, low)

next : (n from place : ℕ) → n + from ≤ place → suc (place - n) ≡ suc place - n
next n from place low = omega (arith, low)

-- passed places, counted from n bytes before
pub passes_further : {limits : Limits} {s : List ℕ} {at : ℕ} (n from to : ℕ) {old new : Work} {all : Bool} → (n ≡ 0) ⊎ (66 ≤ from)
    → PassesOver limits (drop n s) (at + n) from to old new all → PassesOver limits s at (n + from) (n + to) old new all
passes_further {limits} {s} {at} n from to {old} {new} back p = record {
  work = λ place. p.work (place - n);
  start = ap p.work (omega arith) ∙ p.start;
  end = ap p.work (omega arith) ∙ p.end;
  each = λ place low high.
      let back' = back_on n from (place - n) (omega (arith, low)) back in
      let here = passed_further limits s at n (place - n) back' (p.work (place - n)) (p.work (suc (place - n)))
      (p.each (place - n) (omega (arith, low)) (omega (arith, low, high))) in
      subst (λ m. IsPassedAt limits s at m (p.work (place - n)) (p.work (suc place - n))) (there n from place low)
      (subst (λ i. IsPassedAt limits s at (n + (place - n)) (p.work (place - n)) (p.work i)) (next n from place low) here);
  whole = λ is place low high left.
      let back' = back_on n from (place - n) (omega (arith, low)) back in
      p.whole is (place - n) (omega (arith, low)) (omega (arith, low, high))
      (left_nearer limits s at n (place - n) back' (p.work (place - n)) (subst (λ m. IsLeftOut limits s at m (p.work (place - n))) (sym (there n from place low)) left));
  some = λ not.
      let (place, low, high, left) = p.some not in
      let same : n + place - n ≡ place = omega arith in
      let further = left_further limits s at n place (back_on n from place low back) (p.work place) left in
      (n + place, omega (arith, low), omega (arith, high), subst (λ i. IsLeftOut limits s at (n + place) (p.work i)) (sym same) further);
}
