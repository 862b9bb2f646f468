-- A buffer that is filled in place by what is read.
use Rattle.std.proofs.Common.{◌≡◌, ℕ, ◌+◌, ◌-◌, ◌≤◌, List, [], ◌++◌, Option, IsNone, arith, length, length-append, take, slice_range, sym, ap, ◌∙◌, subst, le_refl, drop_at, length-take-le}
use Rattle.std.proofs.lemmas.Slice.{take-put_mid_below}
use Rattle.std.specs.Io.KnownBytes.{Consumes, Keeps}
use Rattle.std.proofs.KnownBytes.{Consumes-kept, Consumes-nil, Consumes-trans}
use Rattle.dump_io.specs.input.Reading.{ReadsRest}
use Rattle.dump_io.specs.declared.input.window.Drained.{Drained}
use borrow.Rule.Slice.PartMut.{put_mid, post_of}
use lib.Seq.{take-add, take-append-le}

take_split : (a b : ℕ) (old new : List ℕ) → a ≤ b → take a new ≡ take a old → take a old ++ slice_range new a b ≡ take b new
take_split a b old new h front =
    let same : a + (b - a) ≡ b = omega arith in
    ap (λ l. l ++ slice_range new a b) (sym front) ∙ sym (take-add a (b - a) new) ∙ ap (λ n. take n new) same

slice_range-put_mid : (a k n : ℕ) (xs ys : List ℕ) → a ≤ length xs → n ≤ length ys → slice_range (put_mid a k xs ys) a (a + n) ≡ take n ys
slice_range-put_mid a k n xs ys within fits =
    let same : (a + n) - a ≡ n = omega arith in
    let after = post_of a k xs in
    ap (take ((a + n) - a)) (drop_at (take a xs) (ys ++ after) a (length-take-le a xs within)) ∙ ap (λ m. take m (ys ++ after)) same ∙ take-append-le n ys after fits

-- what was read into the room after the front is there
pub filled_more : (a b c : Option (List ℕ)) (buffer new : List ℕ) (at room n : ℕ) → at ≤ length buffer → n ≤ length new → Consumes a b (take at buffer) → Consumes b c (take n new)
    → Consumes a c (take (at + n) (put_mid at room buffer new))
filled_more a b c buffer new at room n within fits before read =
    let part = slice_range-put_mid at room n buffer new within fits in
    let joined = take_split at (at + n) buffer (put_mid at room buffer new) (omega arith) (take-put_mid_below _ _ _ _ _ (le_refl _) within) in
    subst (Consumes a c) (ap (λ l. take at buffer ++ l) (sym part) ∙ joined) (Consumes-trans a b c _ _ before read)

-- if nothing was read, the front stays
pub filled_same : (a b c : Option (List ℕ)) (buffer new : List ℕ) (at room : ℕ) → at ≤ length buffer → Consumes a b (take at buffer) → Keeps b c → Consumes a c (take at (put_mid at room buffer new))
filled_same a b c buffer new at room within before kept = subst (Consumes a c) (sym (take-put_mid_below _ _ _ _ _ (le_refl _) within)) (Consumes-kept a b c _ before kept)

-- `count` bytes were read
abbrev pub IsDrained : (old new : Option (List ℕ)) → ℕ → Type 0
IsDrained old new count = (bytes : List ℕ) × Consumes old new bytes × (length bytes ≡ count)

pub drained_more : (a b c : Option (List ℕ)) (count n : ℕ) (buffer : List ℕ) → IsDrained a b count → Consumes b c (take n buffer) → n ≤ length buffer → IsDrained a c (count + n)
drained_more a b c count n buffer (bytes, read, len) more fits =
    let size : length (take n buffer) ≡ n = length-take-le n buffer fits in
    (bytes ++ take n buffer, Consumes-trans a b c bytes (take n buffer) read more, length-append bytes (take n buffer) ∙ ap (λ k. k + length (take n buffer)) len ∙ ap (λ k. count + k) size)

pub drained_kept : (a b c : Option (List ℕ)) (count : ℕ) → IsDrained a b count → Keeps b c → IsDrained a c count
drained_kept a b c count (bytes, read, len) kept = (bytes, Consumes-kept a b c bytes read kept, len)

-- the same of a rest that begins with bytes ahead
pub rest_behind : (a c : Option (List ℕ)) (ahead : List ℕ) (rest all : Drained) → ReadsRest a c [] rest → all.count ≡ rest.count + length ahead → all.failure ≡ rest.failure → ReadsRest a c ahead all
rest_behind a c ahead rest all r sum same = record {
  more = r.more;
  is_read = λ before read. Consumes-trans before a c ahead r.more read (r.is_read a (Consumes-nil a));
  len =
      let size : length r.more ≡ rest.count = r.len in
      let both : length (ahead ++ r.more) ≡ length ahead + length r.more = length-append ahead r.more in
      omega arith;
  to_end = λ none. r.to_end (subst IsNone same none);
}
