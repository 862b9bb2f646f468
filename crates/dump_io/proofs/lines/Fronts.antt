-- What a writer holds after a front of a text was written.
use Rattle.std.proofs.Common.{◌++◌, ℕ, List, [], Option, Result, Ok, Err, OnErr, sym, refl, ap, ◌∙◌, append_assoc, append-nil}
use Rattle.std.specs.Io.KnownBytes.{Appends}
use Rattle.std.proofs.KnownBytes.{Appends-nil, Appends-trans}
use Rattle.dump_io.specs.lines.Fronts.{AppendsFront}

pub on_err : {A E : Type 0} (r : Result A E) (P Q : Type 0) → (P → Q) → OnErr r P → OnErr r Q
on_err (Ok x) P Q f h = h
on_err (Err e) P Q f h = f h

pub on_errs : {A E : Type 0} (r : Result A E) (P Q R : Type 0) → (P → Q → R) → OnErr r P → OnErr r Q → OnErr r R
on_errs (Ok x) P Q R f h k = h
on_errs (Err e) P Q R f h k = f h k

pub on_any : {A E : Type 0} (r : Result A E) (P : Type 0) → P → OnErr r P
on_any (Ok x) P h = tt
on_any (Err e) P h = h

-- the empty text is a front
pub front_none : (a : Option (List ℕ)) (text : List ℕ) → AppendsFront a a text
front_none a text = record { front = []; behind = text; whole = refl; put = Appends-nil a }

-- the whole text is a front
pub front_whole : (a b : Option (List ℕ)) (text : List ℕ) → Appends a b text → AppendsFront a b text
front_whole a b text put = record { front = text; behind = []; whole = sym (append-nil text); put = put }

-- a front of the first part is a front of the whole
pub front_first : (a b : Option (List ℕ)) (x y : List ℕ) → AppendsFront a b x → AppendsFront a b (x ++ y)
front_first a b x y h = record {
  front = h.front;
  behind = h.behind ++ y;
  whole = ap (λ (z : List ℕ). z ++ y) h.whole ∙ append_assoc h.front h.behind y;
  put = h.put;
}

-- the first part with a front of the second is a front of the whole
pub front_behind : (a b c : Option (List ℕ)) (x y : List ℕ) → Appends a b x → AppendsFront b c y → AppendsFront a c (x ++ y)
front_behind a b c x y put h = record {
  front = x ++ h.front;
  behind = h.behind;
  whole = ap (λ (z : List ℕ). x ++ z) h.whole ∙ sym (append_assoc x h.front h.behind);
  put = Appends-trans a b c x h.front put h.put;
}
