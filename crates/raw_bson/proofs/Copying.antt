-- What a caller's loop preserves that copies a document element by element.
use Rattle.std.proofs.Common.{◌≡◌, ◌⊎◌, ◌≤◌, ◌+◌, ◌++◌, ◌∷◌, [], ◌∙◌, ℕ, List, Option, Some, None, Result, Ok, Err, inl, inr, append-nil, append_assoc, length, drop, length-drop, ap, sym, refl, subst, arith}
use Rattle.std.proofs.lemmas.Result.{err_from_is_err_and}
use Rattle.std.specs.Prelude.{IfErr, IsErrAnd}
use Rattle.raw_view.specs.Errors.{IsOutOfMemory}
use Rattle.raw_view.specs.Frame.ElementSteps.{HasRead, StepsElement, frame_of}
use Rattle.raw_view.specs.Frame.Envelope.{IsEnvelope}
use Rattle.raw_view.specs.Frame.Number.{max_length}
use Rattle.raw_view.specs.Frame.{Frame, IsShortScope}
use Rattle.raw_view.specs.Meaning.{RawValue}
use Rattle.raw_view.specs.declared.element.RawElement.{RawElement}
use Rattle.raw_view.specs.declared.error.Error.{Error}
use Rattle.raw_view.proofs.Face.{HasRead-end}
use Rattle.raw_bson.specs.Append.{AddsValue, Appends, AppendsFrame, HaveNoShortScope, HoldsFrames, KeepsWalk, RefusesAppend, appended_bytes, value_frame}
use Rattle.raw_bson.specs.Copying.{CopiesUpTo, EndsCopy, GiveFrames, IsCopy, TellsStop, RefusesElement, RefusesFrame}
use Rattle.raw_bson.specs.Fills.{empty_document}
use Rattle.raw_bson.proofs.HeldFrames.{HaveNoShortScope-last, HoldsFrames-element, HoldsFrames-empty}
use Rattle.raw_bson.proofs.Lengths.{RefusesLength-bound, length-appended_bytes, length_left, length_left-step}
use Rattle.raw_bson.proofs.LoopSteps.{HasRead-more, HasRead-stop}

-- what the loop has read, and what that became, which the copy holds
pub record HasCopied (Gives : Frame → List Frame → Type 0) (b copy : List ℕ) (left : Option (List ℕ)) : Type 0 where
  pub frames : List Frame
  pub given : List Frame
  pub read : HasRead (drop 4 b) frames left
  pub gives : GiveFrames Gives frames given
  pub holds : HaveNoShortScope given → HoldsFrames copy given

-- one more frame, and what it becomes
GiveFrames-more : (Gives : Frame → List Frame → Type 0) (frames given : List Frame) (f : Frame) (one : List Frame) → GiveFrames Gives frames given → Gives f one
    → GiveFrames Gives (frames ++ f ∷ []) (given ++ one)
GiveFrames-more Gives [] given f one h gives = (one, [], gives, refl, ap (λ g. g ++ one) h ∙ sym (append-nil one))
GiveFrames-more Gives (x ∷ frames) given f one h gives =
    (h.0, h.1 ++ one, h.2, GiveFrames-more Gives frames h.1 f one h.3 gives, ap (λ g. g ++ one) h.4 ∙ append_assoc h.0 h.1 one)

-- the first of some frames have no short code with scope if none of them has
before_others : (fs gs : List Frame) → HaveNoShortScope (fs ++ gs) → HaveNoShortScope fs
before_others [] gs h = tt
before_others (f ∷ fs) gs h = (h.0, before_others fs gs h.1)

module _ {Gives : Frame → List Frame → Type 0} {b : List ℕ} where
  -- before the first element, with a new copy
  pub HasCopied-none : {copy : List ℕ} {left : Option (List ℕ)} → copy ≡ empty_document → left ≡ Some (drop 4 b) → HasCopied Gives b copy left
  HasCopied-none {copy = copy} {left = left} new begins = record {
    frames = [];
    given = [];
    read = subst (HasRead (drop 4 b) []) (sym begins) refl;
    gives = refl;
    holds = λ none. HoldsFrames-empty copy new;
  }

  module _ {copy : List ℕ} {old new : Option (List ℕ)} {out : Result RawElement Error} {e : RawElement} where
    -- an element was left out
    pub HasCopied-skip : HasCopied Gives b copy old → StepsElement old (Some out) new → out ≡ Ok e → Gives (frame_of e) [] → HasCopied Gives b copy new
    HasCopied-skip h st was gives = record {
      frames = h.frames ++ frame_of e ∷ [];
      given = h.given ++ [];
      read = HasRead-more (drop 4 b) h.frames old new h.read st was;
      gives = GiveFrames-more Gives h.frames h.given (frame_of e) [] h.gives gives;
      holds = subst (λ g. HaveNoShortScope g → HoldsFrames copy g) (sym (append-nil h.given)) h.holds;
    }

    -- an element was appended as it is
    pub HasCopied-element : {left : List ℕ} → HasCopied Gives b copy old → StepsElement old (Some out) new → out ≡ Ok e → Gives (frame_of e) (frame_of e ∷ [])
        → (¬ IsShortScope (frame_of e) → KeepsWalk copy (frame_of e) left) → HasCopied Gives b left new
    HasCopied-element {left = left} h st was gives walk = record {
      frames = h.frames ++ frame_of e ∷ [];
      given = h.given ++ frame_of e ∷ [];
      read = HasRead-more (drop 4 b) h.frames old new h.read st was;
      gives = GiveFrames-more Gives h.frames h.given (frame_of e) (frame_of e ∷ []) h.gives gives;
      holds = λ all.
          let long = HaveNoShortScope-last h.given (frame_of e) all in
          HoldsFrames-element copy h.given (frame_of e) left (h.holds long.0) long.1 (walk long.1);
    }

    -- a value was appended in the place of an element
    pub HasCopied-value : {left key : List ℕ} {v : RawValue} → HasCopied Gives b copy old → StepsElement old (Some out) new → out ≡ Ok e
        → Gives (frame_of e) (value_frame key v ∷ []) → AddsValue copy key v left → HasCopied Gives b left new
    HasCopied-value {key = key} {v = v} h st was gives adds = record {
      frames = h.frames ++ frame_of e ∷ [];
      given = h.given ++ value_frame key v ∷ [];
      read = HasRead-more (drop 4 b) h.frames old new h.read st was;
      gives = GiveFrames-more Gives h.frames h.given (frame_of e) (value_frame key v ∷ []) h.gives gives;
      holds = λ all. adds.holds h.given (h.holds (before_others h.given (value_frame key v ∷ []) all));
    }

    -- a value was appended under its key
    pub HasCopied-put : {left key : List ℕ} {v w : RawValue} → HasCopied Gives b copy old → StepsElement old (Some out) new → out ≡ Ok e → key ≡ (frame_of e).key → w ≡ v
        → Gives (frame_of e) (value_frame (frame_of e).key v ∷ []) → AddsValue copy key w left → HasCopied Gives b left new
    HasCopied-put {left = left} {key = key} {v = v} {w = w} h st was same is gives adds =
        HasCopied-value h st was gives (subst (λ k. AddsValue copy k v left) same (subst (λ x. AddsValue copy key x left) is adds))

  -- the walk stops
  pub HasCopied-stop : {copy : List ℕ} {old : Option (List ℕ)} (new : Option (List ℕ)) {out : Result RawElement Error} {e : Error} → HasCopied Gives b copy old
      → StepsElement old (Some out) new → out ≡ Err e → TellsStop b e
  HasCopied-stop {old = old} new h st was = let told = HasRead-stop (drop 4 b) h.frames old new h.read st was in (h.frames, told.0, told.1, told.2, told.3)

  -- no element is left
  pub HasCopied-end : {copy : List ℕ} {old : Option (List ℕ)} (new : Option (List ℕ)) → HasCopied Gives b copy old → StepsElement old None new → IsCopy Gives b copy
  HasCopied-end {old = old} new h st = record {
    frames = h.frames;
    given = h.given;
    walk = HasRead-end (drop 4 b) h.frames old new h.read st;
    gives = h.gives;
    holds = h.holds;
  }

comes_up_to : (Gives : Frame → List Frame → Type 0) (b copy : List ℕ) (old new : Option (List ℕ)) (out : Result RawElement Error) (e : RawElement)
    → HasCopied Gives b copy old → StepsElement old (Some out) new → out ≡ Ok e → CopiesUpTo Gives b copy (frame_of e)
comes_up_to Gives b copy None new out e h st was = absurd h.read
comes_up_to Gives b copy (Some s) new out e h st was =
    let next = subst (λ x. StepsElement (Some s) (Some x) new) was st in
    record { before = h.frames; given = h.given; rest = s; behind = next.0; leads = h.read; next = next.1; gives = h.gives; holds = h.holds }

-- the exits of such a loop, each with the error of a call
module _ {X : Type 0} where
  -- the new copy wasn't made
  pub EndsCopy-new : (Gives : Frame → List Frame → Type 0) (Inside : Frame → Error → Type 0) (b : List ℕ) {bad : Error} (x : Result X Error) → IsOutOfMemory bad
      → IsErrAnd x (λ y. y ≡ bad) → IfErr x (EndsCopy Gives Inside b)
  EndsCopy-new Gives Inside b x memory left = let q = err_from_is_err_and x left in rw (q.1, q.2) (record { why = inl memory })

  module _ {Gives : Frame → List Frame → Type 0} (Inside : Frame → Error → Type 0) {b copy : List ℕ} {old : Option (List ℕ)} (new : Option (List ℕ))
      {out : Result RawElement Error} (bad : Error) (x : Result X Error) (h : HasCopied Gives b copy old) (st : StepsElement old (Some out) new) where
    -- the walk stops
    pub EndsCopy-stop : out ≡ Err bad → IsErrAnd x (λ y. y ≡ bad) → IfErr x (EndsCopy Gives Inside b)
    EndsCopy-stop was left = let q = err_from_is_err_and x left in rw (q.1, q.2) (record { why = inr (inl (HasCopied-stop new h st was)) })

    module _ {e : RawElement} (was : out ≡ Ok e) where
      -- a frame is the one at which copying ends
      ends_at : RefusesFrame Gives copy (frame_of e) bad ⊎ Inside (frame_of e) bad → IsErrAnd x (λ y. y ≡ bad) → IfErr x (EndsCopy Gives Inside b)
      ends_at why left =
          let q = err_from_is_err_and x left in
          rw (q.1, q.2) (record { why = inr (inr (copy, frame_of e, comes_up_to Gives b copy old new out e h st was, why)) })

      -- an element wasn't appended as it is
      pub EndsCopy-element : {after : List ℕ} → Gives (frame_of e) (frame_of e ∷ []) → AppendsFrame copy (frame_of e) (Err bad) after → IsErrAnd x (λ y. y ≡ bad)
          → IfErr x (EndsCopy Gives Inside b)
      EndsCopy-element gives appends left = ends_at (inl (inl (gives, appends.0))) left

      -- a value wasn't appended under its key
      pub EndsCopy-put : {key after : List ℕ} {v w : RawValue} → key ≡ (frame_of e).key → w ≡ v → Gives (frame_of e) (value_frame (frame_of e).key v ∷ [])
          → Appends copy key w (Err bad) after → IsErrAnd x (λ y. y ≡ bad) → IfErr x (EndsCopy Gives Inside b)
      EndsCopy-put {key = key} {v = v} same is gives appends left =
          let refused = subst (λ k. RefusesAppend copy k v bad.kind) same (subst (λ y. RefusesAppend copy key y bad.kind) is appends.0) in
          ends_at (inl (inr (v, gives, refused))) left

      -- what would replace an element can't be computed
      pub EndsCopy-inside : Inside (frame_of e) bad → IsErrAnd x (λ y. y ≡ bad) → IfErr x (EndsCopy Gives Inside b)
      EndsCopy-inside why left = ends_at (inr why) left

-- a copy that leaves elements out is no longer than what it was copied from
pub record IsNoLonger (b copy : List ℕ) (left : Option (List ℕ)) : Type 0 where
  pub room : length copy + length_left left ≤ length b + 1
  pub enough : 5 ≤ length copy

module _ {b : List ℕ} where
  pub IsNoLonger-none : {copy : List ℕ} {left : Option (List ℕ)} → IsEnvelope b → copy ≡ empty_document → left ≡ Some (drop 4 b) → IsNoLonger b copy left
  IsNoLonger-none envelope new begins = record {
    room = omega (arith, ap length_left begins, ap {B = ℕ} length new, length-drop 4 b, envelope.enough);
    enough = omega (arith, ap {B = ℕ} length new);
  }

  module _ {copy : List ℕ} {old new : Option (List ℕ)} {out : Result RawElement Error} {e : RawElement} where
    -- an element was left out
    pub IsNoLonger-skip : IsNoLonger b copy old → StepsElement old (Some out) new → out ≡ Ok e → IsNoLonger b copy new
    IsNoLonger-skip h st was = record { room = omega (arith, length_left-step old new st was, h.room); enough = h.enough }

    -- an element was appended
    pub IsNoLonger-element : {left : List ℕ} → IsNoLonger b copy old → StepsElement old (Some out) new → out ≡ Ok e → AppendsFrame copy (frame_of e) (Ok tt) left
        → IsNoLonger b left new
    IsNoLonger-element h st was appends =
        let more = ap length appends.1 ∙ length-appended_bytes copy (frame_of e) h.enough in
        record { room = omega (arith, more, length_left-step old new st was, h.room); enough = omega (arith, more, h.enough) }

  -- an element wasn't appended
  pub IsNoLonger-refused : {copy : List ℕ} {old : Option (List ℕ)} (new : Option (List ℕ)) {out : Result RawElement Error} {e : RawElement} (left : List ℕ) (bad : Error)
      → IsEnvelope b → IsNoLonger b copy old → StepsElement old (Some out) new → out ≡ Ok e → AppendsFrame copy (frame_of e) (Err bad) left → RefusesElement b bad
  IsNoLonger-refused {copy = copy} {old = old} new {e = e} left bad envelope h st was appends =
      let bound : length (appended_bytes copy (frame_of e)) ≤ length b + 1 = omega (arith, length-appended_bytes copy (frame_of e) h.enough, length_left-step old new st was, h.room) in
      let fits : length b ≤ max_length = omega (arith, envelope.header.fits) in
      RefusesLength-bound (length (appended_bytes copy (frame_of e))) (length b) bad bound fits appends.0 appends.1
