-- What is written piece by piece.
use Rattle.std.proofs.Common.{◌≡◌, ◌++◌, ◌+◌, ℕ, List, Option, Result, OnOk, replicate, subst, sym, take, drop, ap, ◌∙◌, ◌-◌, append_assoc, length, length-drop, take-append-drop}
use Rattle.bson_to_json.proofs.Common.{Appends, Appends-kept, Appends-trans, Keeps, on_ok_weaker, replicate-append-replicate, take-length}

-- two pieces one after another are the whole
pub whole_put : (a b c : Option (List ℕ)) (x y z : List ℕ) → Appends a b x → Appends b c y → x ++ y ≡ z → Appends a c z
whole_put a b c x y z first second e = subst (Appends a c) e (Appends-trans a b c x y first second)

-- the same if the second may fail
pub last_put : {A E : Type 0} (r : Result A E) (a b c : Option (List ℕ)) (x y z : List ℕ) → Appends a b x → x ++ y ≡ z → OnOk r (Appends b c y) → OnOk r (Appends a c z)
last_put r a b c x y z first e second = on_ok_weaker r (λ (put : Appends b c y). whole_put a b c x y z first put e) second

-- a piece and what is between two others, as they group
pub joined : (a q b x : List ℕ) → (a ++ (q ++ b)) ++ x ≡ a ++ (q ++ (b ++ x))
joined a q b x = append_assoc a (q ++ b) x ∙ ap (λ (y : List ℕ). a ++ y) (append_assoc q b x)

-- more of the same byte
pub repeated_more : (m n k byte : ℕ) → m + n ≡ k → replicate m byte ++ replicate n byte ≡ replicate k byte
repeated_more m n k byte e = replicate-append-replicate m n byte ∙ ap (λ (j : ℕ). replicate j byte) e

-- a prefix of the bytes is written, and this is left
pub record IsAhead (old new : Option (List ℕ)) (bytes rest : List ℕ) : Type 0 where
  pub front : List ℕ
  pub whole : bytes ≡ front ++ rest
  pub put : Appends old new front

pub ahead_more : (a b c : Option (List ℕ)) (bytes rest left : List ℕ) (n : ℕ) → IsAhead a b bytes rest → Appends b c (take n rest) → left ≡ drop n rest → IsAhead a c bytes left
ahead_more a b c bytes rest left n h put is = record {
  front = h.front ++ take n rest;
  whole = h.whole ∙ ap (λ (z : List ℕ). h.front ++ z) (sym (take-append-drop n rest) ∙ ap (λ (z : List ℕ). take n rest ++ z) (sym is)) ∙ sym (append_assoc h.front (take n rest) left);
  put = Appends-trans a b c h.front (take n rest) h.put put;
}

pub ahead_kept : (a b c : Option (List ℕ)) (bytes rest : List ℕ) → IsAhead a b bytes rest → Keeps b c → IsAhead a c bytes rest
ahead_kept a b c bytes rest h kept = record { front = h.front; whole = h.whole; put = Appends-kept a b c h.front h.put kept }

-- the rest after a place
pub rest_whole : (b : List ℕ) (i : ℕ) → take (length b - i) (drop i b) ≡ drop i b
rest_whole b i = ap (λ (k : ℕ). take k (drop i b)) (sym (length-drop i b)) ∙ take-length (drop i b)
