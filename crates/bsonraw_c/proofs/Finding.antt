-- A look-up by a key along the elements of an iterator.
use Rattle.std.proofs.Common.{◌≡◌, ◌≢◌, ◌<◌, ◌+◌, ◌^◌, ℕ, ℤ, List, [], ◌∷◌, ◌++◌, length, refl, Option, None, Some, Result, Ok, Err, inl, inr, subst}
use Rattle.std.specs.Option.{option_copied}
use Rattle.raw_bson.proofs.Face.{LeadsTo-more}
use Rattle.raw_bson.specs.ElementSteps.{frame_of}
use Rattle.raw_bson.specs.Frame.{Frame, LeadsTo}
use Rattle.raw_bson.specs.LookUp.{HasNoKey, HasThisKey}
use Rattle.raw_bson.specs.RawElement.{RawElement}
use Rattle.raw_view.specs.Frame.Front.{StepsFront}
use Rattle.raw_view.specs.declared.error.BorrowedError.{BorrowedError}
use Rattle.bsonraw_c.specs.Codes.{SaysKind}
use Rattle.bsonraw_c.specs.Iters.{FindsFrom, GoesThrough, HasNoElement, IsKeyAt, IsShortKey, IsWorkedOut, Returns, StopsAt, place_of_none}
use Rattle.bsonraw_c.specs.declared.codes.Status.TheVariants as status
use Rattle.bsonraw_c.specs.declared.iter.Iter.{Iter}
use Rattle.bsonraw_c.proofs.Iterating.{faulted, few, goes_on, placed, short}

HasNoKey-more : (key : List ℕ) (fs : List Frame) (f : Frame) → HasNoKey key fs → f.key ≢ key → HasNoKey key (fs ++ f ∷ [])
HasNoKey-more key [] f h n = (n, tt)
HasNoKey-more key (g ∷ fs) f h n = (h.0, HasNoKey-more key fs f h.1 n)

-- The iterator has gone over frames with other keys, from s on, up to this offset, where rest is left.
pub record HasPassed (b key : List ℕ) (it : Iter) (next : ℕ) (left : Option (List ℕ)) : Type 0 where
  pub d : List ℕ
  pub s : List ℕ
  pub rest : List ℕ
  pub passed : List Frame
  pub begins : GoesThrough b it d s
  pub goes : GoesThrough b (record it { next = next }) d rest
  pub leads : LeadsTo s passed rest
  pub others : HasNoKey key passed
  pub left_is : left ≡ Some rest

-- what it comes to from there on
from : {b key : List ℕ} {it : Iter} {next : ℕ} {old : Option (List ℕ)} (h : HasPassed b key it next old) (after : Iter) (code : ℤ)
    → StopsAt (HasThisKey key) b h.rest next after code → FindsFrom b key h.s it after code
from {next = next} h after code stops = (h.d, h.rest, next, h.passed, h.goes, h.leads, h.others, stops)

module _ {b key : List ℕ} {it : Iter} {next : ℕ} {old : Option (List ℕ)} (new : Option (List ℕ)) {result : Option (Result RawElement BorrowedError)}
    (h : HasPassed b key it next old) (steps : StepsFront old result new) where
  stepped : (item : Option (Result RawElement BorrowedError)) → result ≡ item → StepsFront (Some h.rest) item new
  stepped item is = subst (λ (x : Option (List ℕ)). StepsFront x item new) h.left_is (subst (λ (x : Option (Result RawElement BorrowedError)). StepsFront old x new) is steps)

  -- an element ends below 2 ^ 32
  pub short_element : (e : RawElement) → result ≡ Some (Ok e) → next + (2 + (length (frame_of e).key + length (frame_of e).payload)) < 2 ^ 32
  short_element e is = let st = stepped (Some (Ok e)) is in few b h.d h.rest (record it { next = next }) h.goes (frame_of e) st.0 st.1

  -- and so does the key of a stop
  pub short_key : (stop : BorrowedError) → result ≡ Some (Err stop) → IsShortKey next (option_copied stop.key)
  short_key stop is = let st = stepped (Some (Err stop)) is in short b h.d h.rest (record it { next = next }) h.goes stop st.0

  -- an element with another key
  pub passed_more : (e : RawElement) (after : ℕ) → result ≡ Some (Ok e) → (frame_of e).key ≢ key
      → after ≡ next + (2 + (length (frame_of e).key + length (frame_of e).payload)) → HasPassed b key it after new
  passed_more e after is other next_is =
      let st = stepped (Some (Ok e)) is in
      record {
        d = h.d;
        s = h.s;
        rest = st.0;
        passed = h.passed ++ frame_of e ∷ [];
        begins = h.begins;
        goes = goes_on b h.d h.rest (record it { next = next }) h.goes (frame_of e) st.0 after st.1 next_is;
        leads = LeadsTo-more h.s h.passed h.rest (frame_of e) st.0 h.leads st.1;
        others = HasNoKey-more key h.passed (frame_of e) h.others other;
        left_is = st.2;
      }

  -- the element with the key
  pub finds_element : (e : RawElement) (after : Iter) (code : ℤ) → result ≡ Some (Ok e) → (frame_of e).key ≡ key → IsWorkedOut next (frame_of e) after
      → Returns status.Done code → FindsFrom b key h.s it after code
  finds_element e after code is same out done =
      let st = stepped (Some (Ok e)) is in
      from h after code (inl ((frame_of e, st.0, st.1, same, placed b h.d h.rest (record it { next = next }) h.goes (frame_of e) st.0 after st.1 out), done))

  -- the end
  pub finds_end : (after : Iter) (code : ℤ) → result ≡ None → HasNoElement (place_of_none b) after → after.next ≡ next → Returns status.Nothing code → FindsFrom b key h.s it after code
  finds_end after code is none next_is done = let st = stepped None is in from h after code (inr (inl ((st.0, none, next_is), done)))

  -- the stop
  pub finds_fault : (stop : BorrowedError) (after : Iter) (code : ℤ) → result ≡ Some (Err stop) → IsKeyAt (place_of_none b) next (option_copied stop.key) after
      → after.next ≡ next → SaysKind stop.kind after.fault.why → after.fault.offset ≡ next → Returns status.Fault code → FindsFrom b key h.s it after code
  finds_fault stop after code is out next_is why offset_is done =
      let st = stepped (Some (Err stop)) is in
      from h after code (inr (inr (faulted b h.d h.rest (record it { next = next }) h.goes stop after st.0 out next_is why offset_is, done)))
