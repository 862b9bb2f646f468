-- The steps of a row of appends.
use Rattle.std.proofs.Common.{◌≡◌, ◌++◌, ◌∷◌, [], ℕ, List, Result, Err, ap, refl, sym, subst, inr}
use Rattle.std.proofs.lemmas.Result.{err_from_is_err_and}
use Rattle.std.specs.Prelude.{IfErr, IsErrAnd}
use Rattle.raw_view.specs.Frame.{Frame}
use Rattle.raw_view.specs.Meaning.{RawValue, Means, value}
use Rattle.raw_view.specs.declared.error.Error.{Error}
use Rattle.raw_bson.specs.Append.{AddsValue, Appends, HoldsFrames, IsValueSubtypeProper, value_frame}
use Rattle.raw_bson.specs.Fills.{empty_document}
use Rattle.raw_bson.specs.Rows.{HoldsRow, MeanTheirValues, RefusesRow, frames_of_row}
use Rattle.raw_bson.proofs.HeldFrames.{HoldsFrames-empty}

frames_of_row-more : (pairs : List (List ℕ × RawValue)) (key : List ℕ) (v : RawValue) → frames_of_row (pairs ++ (key, v) ∷ []) ≡ frames_of_row pairs ++ value_frame key v ∷ []
frames_of_row-more [] key v = refl
frames_of_row-more (p ∷ pairs) key v = ap (λ (fs : List Frame). value_frame p.0 p.1 ∷ fs) (frames_of_row-more pairs key v)

MeanTheirValues-more : (pairs : List (List ℕ × RawValue)) (key : List ℕ) (v : RawValue) → MeanTheirValues pairs → Means (value_frame key v) (value v) → MeanTheirValues (pairs ++ (key, v) ∷ [])
MeanTheirValues-more [] key v h m = (m, tt)
MeanTheirValues-more (p ∷ pairs) key v h m = (h.0, MeanTheirValues-more pairs key v h.1 m)

-- the new document
pub HoldsRow-empty : {b : List ℕ} → b ≡ empty_document → HoldsRow b []
HoldsRow-empty {b = b} empty = record { frames = HoldsFrames-empty b empty; means = tt }

-- one more was appended
pub HoldsRow-more : {b key left : List ℕ} {v : RawValue} {pairs : List (List ℕ × RawValue)} → HoldsRow b pairs → AddsValue b key v left → IsValueSubtypeProper v
    → HoldsRow left (pairs ++ (key, v) ∷ [])
HoldsRow-more {key = key} {left = left} {v = v} {pairs = pairs} h adds proper = record {
  frames = subst (HoldsFrames left) (sym (frames_of_row-more pairs key v)) (adds.holds (frames_of_row pairs) h.frames);
  means = MeanTheirValues-more pairs key v h.means (adds.means proper);
}

-- the next one failed, and the row ends with its error
pub RefusesRow-at : {X : Type 0} {b : List ℕ} {done : List (List ℕ × RawValue)} (e : Error) (key : List ℕ) (v : RawValue) (todo : List (List ℕ × RawValue))
    (left : List ℕ) (x : Result X Error) → HoldsRow b done → Appends b key v (Err e) left → IsErrAnd x (λ y. y ≡ e)
    → IfErr x (RefusesRow (done ++ (key, v) ∷ todo))
RefusesRow-at {b = b} {done = done} e key v todo left x h failed is =
    let q = err_from_is_err_and x is in
    rw (q.1, q.2) (inr (b, key, v, done, todo, refl, h, failed.0))
