-- A look-up by a number along the elements of an iterator.
use Rattle.std.proofs.Common.{◌≡◌, ◌≢◌, ◌<◌, ◌≤◌, ◌+◌, ◌^◌, ℕ, ℤ, List, [], ◌∷◌, ◌++◌, length, ap, sym, ◌∙◌, refl, arith, length-append, Option, None, Some, Result, Ok, Err, inl, inr, subst, decimal}
use Rattle.std.specs.Option.{option_copied}
use Rattle.raw_bson.proofs.Face.{LeadsTo-more}
use Rattle.raw_bson.specs.ElementSteps.{frame_of}
use Rattle.raw_bson.specs.Frame.{Frame, LeadsTo}
use Rattle.raw_bson.specs.RawElement.{RawElement}
use Rattle.raw_view.specs.Frame.Front.{StepsFront}
use Rattle.raw_view.specs.declared.error.BorrowedError.{BorrowedError}
use Rattle.bsonraw_c.specs.Codes.{SaysKind}
use Rattle.bsonraw_c.specs.Iters.{GoesThrough, HasNoElement, IsKeyAt, IsShortKey, IsWorkedOut, Returns, StopsAt, place_of_none}
use Rattle.bsonraw_c.specs.Paths.{FindsNumberFrom}
use Rattle.bsonraw_c.specs.declared.codes.Status.TheVariants as status
use Rattle.bsonraw_c.specs.declared.iter.Iter.{Iter}
use Rattle.bsonraw_c.proofs.Iterating.{faulted, few, goes_on, placed, short}

-- The iterator has gone over `index` frames from s on, up to this offset, where rest is left. The step is no number of them.
pub record HasCounted (b step : List ℕ) (it : Iter) (next index : ℕ) (left : Option (List ℕ)) : Type 0 where
  pub d : List ℕ
  pub s : List ℕ
  pub rest : List ℕ
  pub passed : List Frame
  pub begins : GoesThrough b it d s
  pub goes : GoesThrough b (record it { next = next }) d rest
  pub leads : LeadsTo s passed rest
  pub counted : length passed ≡ index
  pub few_passed : index ≤ next
  pub others : (n : ℕ) → n < index → decimal n ≢ step
  pub left_is : left ≡ Some rest

pub counted_none : (b step : List ℕ) (it : Iter) (d s : List ℕ) (left : Option (List ℕ)) → GoesThrough b it d s → left ≡ Some s → HasCounted b step it it.next 0 left
counted_none b step it d s left g is = record {
  d = d;
  s = s;
  rest = s;
  passed = [];
  begins = g;
  goes = g;
  leads = refl;
  counted = refl;
  few_passed = omega arith;
  others = λ n below. absurd (omega (arith, below));
  left_is = is;
}

-- one number more that the step isn't
one_other : (step : List ℕ) (index : ℕ) → ((n : ℕ) → n < index → decimal n ≢ step) → decimal index ≢ step → (n : ℕ) → n < index + 1 → decimal n ≢ step
one_other step index others not n below is = grind (arith, others, not)

-- what it comes to from there on
from : {b step : List ℕ} {it : Iter} {next index : ℕ} {old : Option (List ℕ)} (h : HasCounted b step it next index old) (after : Iter) (code : ℤ)
    → StopsAt (λ _. decimal (length h.passed) ≡ step) b h.rest next after code → FindsNumberFrom b step h.s it after code
from {step = step} {next = next} h after code stops =
    (h.d, h.rest, next, h.passed, h.goes, h.leads, subst (λ (k : ℕ). (n : ℕ) → n < k → decimal n ≢ step) (sym h.counted) h.others, stops)

module _ {b step : List ℕ} {it : Iter} {next index : ℕ} {old : Option (List ℕ)} (new : Option (List ℕ)) {result : Option (Result RawElement BorrowedError)}
    (h : HasCounted b step it next index old) (steps : StepsFront old result new) where
  stepped : (item : Option (Result RawElement BorrowedError)) → result ≡ item → StepsFront (Some h.rest) item new
  stepped item is = subst (λ (x : Option (List ℕ)). StepsFront x item new) h.left_is (subst (λ (x : Option (Result RawElement BorrowedError)). StepsFront old x new) is steps)

  -- an element ends below 2 ^ 32
  pub short_element : (e : RawElement) → result ≡ Some (Ok e) → next + (2 + (length (frame_of e).key + length (frame_of e).payload)) < 2 ^ 32
  short_element e is = let st = stepped (Some (Ok e)) is in few b h.d h.rest (record it { next = next }) h.goes (frame_of e) st.0 st.1

  -- and so does the key of a stop
  pub short_key : (stop : BorrowedError) → result ≡ Some (Err stop) → IsShortKey next (option_copied stop.key)
  short_key stop is = let st = stepped (Some (Err stop)) is in short b h.d h.rest (record it { next = next }) h.goes stop st.0

  -- an element of another number
  pub counted_more : (e : RawElement) (after : ℕ) → result ≡ Some (Ok e) → decimal index ≢ step
      → after ≡ next + (2 + (length (frame_of e).key + length (frame_of e).payload)) → HasCounted b step it after (index + 1) new
  counted_more e after is other next_is =
      let st = stepped (Some (Ok e)) is in
      record {
        d = h.d;
        s = h.s;
        rest = st.0;
        passed = h.passed ++ frame_of e ∷ [];
        begins = h.begins;
        goes = goes_on b h.d h.rest (record it { next = next }) h.goes (frame_of e) st.0 after st.1 next_is;
        leads = LeadsTo-more h.s h.passed h.rest (frame_of e) st.0 h.leads st.1;
        counted = omega (arith, h.counted, length-append h.passed (frame_of e ∷ []));
        few_passed = omega (arith, h.few_passed, next_is);
        others = one_other step index h.others other;
        left_is = st.2;
      }

  -- the element of this number
  pub finds_element : (e : RawElement) (after : Iter) (code : ℤ) → result ≡ Some (Ok e) → decimal index ≡ step → IsWorkedOut next (frame_of e) after
      → Returns status.Done code → FindsNumberFrom b step h.s it after code
  finds_element e after code is same out done =
      let st = stepped (Some (Ok e)) is in
      from h after code (inl ((frame_of e, st.0, st.1, ap decimal h.counted ∙ same, placed b h.d h.rest (record it { next = next }) h.goes (frame_of e) st.0 after st.1 out), done))

  -- the end
  pub finds_end : (after : Iter) (code : ℤ) → result ≡ None → HasNoElement (place_of_none b) after → after.next ≡ next → Returns status.Nothing code → FindsNumberFrom b step h.s it after code
  finds_end after code is none next_is done = let st = stepped None is in from h after code (inr (inl ((st.0, none, next_is), done)))

  -- the stop
  pub finds_fault : (stop : BorrowedError) (after : Iter) (code : ℤ) → result ≡ Some (Err stop) → IsKeyAt (place_of_none b) next (option_copied stop.key) after
      → after.next ≡ next → SaysKind stop.kind after.fault.why → after.fault.offset ≡ next → Returns status.Fault code
      → FindsNumberFrom b step h.s it after code
  finds_fault stop after code is out next_is why offset_is done =
      let st = stepped (Some (Err stop)) is in
      from h after code (inr (inr (faulted b h.d h.rest (record it { next = next }) h.goes stop after st.0 out next_is why offset_is, done)))
