-- How far the elements of a piece follow one another.
use Rattle.std.proofs.Common.{◌≡◌, ℕ, suc, ◌+◌, ◌-◌, ◌≤◌, List, [], ◌∷◌, ◌++◌, Bool, true, false, MatchBool, Option, None, Some, arith, length, drop, drop-cons, slice_get, sym, ap, ◌∙◌, subst, refl, inl, inr, length-drop}
use Rattle.std.proofs.lemmas.List.{drop-drop}
use Rattle.std.proofs.lemmas.Option.{get_or_from_slice_get, slice_get_within}
use Rattle.raw_view.specs.Frame.{Done, Frame, HasNoFrame, IsFrame, IsWalk, LeadsTo}
use Rattle.raw_view.specs.Frame.Envelope.{IsEnvelope}
use Rattle.raw_view.specs.Frame.ElementSteps.{frame_of}
use Rattle.raw_view.specs.declared.element.RawElement.{RawElement}
use Rattle.raw_view.proofs.Face.{LeadsTo-more, LeadsTo-walk, no_frame_at_final, one_frame}
use Rattle.raw_tree.specs.Looking.{TakesFrame, size_of}
use Rattle.raw_tree.proofs.Face.{drop_frame, frame_size}
use Rattle.raw_resync.specs.Resync.{IsFramed}
use Rattle.raw_resync.specs.Charge.{IsWalked}

-- how many bytes are left
abbrev pub left_of : Option (List ℕ) → ℕ
left_of None = 0
left_of (Some s) = length s

-- elements were passed up to this offset of b
pub record HasWalked (b : List ℕ) (left : Option (List ℕ)) (offset : ℕ) : Type 0 where
  pub frames : List Frame
  pub leads : LeadsTo (drop 4 b) frames (drop offset b)
  pub left_is : left ≡ Some (drop offset b)
  pub within : offset ≤ length b

pub walked_none : (b : List ℕ) (left : Option (List ℕ)) → IsEnvelope b → left ≡ Some (drop 4 b) → HasWalked b left 4
walked_none b left is same = record { frames = []; leads = refl; left_is = same; within = omega (arith, is.enough) }

-- one more element is passed
module _ {b : List ℕ} {left : Option (List ℕ)} {offset : ℕ} (w : HasWalked b left offset) (new : Option (List ℕ)) where
  pub takes_next : (e : RawElement) → TakesFrame left (Some e) new → (r : List ℕ) × IsFrame (drop offset b) (frame_of e) r × (new ≡ Some r)
  takes_next e takes = subst (λ l. TakesFrame l (Some e) new) w.left_is takes

  pub step_within : (e : RawElement) → TakesFrame left (Some e) new → offset + size_of (frame_of e) ≤ length b
  step_within e takes =
      let (r, frame, same) = takes_next e takes in
      let size : size_of (frame_of e) + length r ≡ length (drop offset b) = frame_size (drop offset b) (frame_of e) r frame in
      let all : length (drop offset b) ≡ length b - offset = length-drop offset b in
      omega (arith, size, all, w.within)

  pub walked_more : (e : RawElement) (end : ℕ) → end ≡ offset + size_of (frame_of e) → TakesFrame left (Some e) new → HasWalked b new end
  walked_more e end far takes =
      let (r, frame, same) = takes_next e takes in
      let within = step_within e takes in
      let none : size_of (frame_of e) + 0 ≡ size_of (frame_of e) = omega arith in
      let behind : r ≡ drop end b =
      sym (drop_frame (drop offset b) (frame_of e) r 0 frame) ∙ ap (λ n. drop n (drop offset b)) none ∙ drop-drop (size_of (frame_of e)) offset b ∙ ap (λ n. drop n b) (sym far) in
      record {
        frames = w.frames ++ frame_of e ∷ [];
        leads = subst (LeadsTo (drop 4 b) (w.frames ++ frame_of e ∷ [])) behind (LeadsTo-more (drop 4 b) w.frames (drop offset b) (frame_of e) r w.leads frame);
        left_is = same ∙ ap Some behind;
        within = omega (arith, within, far);
      }

  -- no element follows
  pub walked_all : IsEnvelope b → TakesFrame left None new → IsWalked b offset
  walked_all envelope none = inr (envelope, w.frames, w.leads, subst (λ l. TakesFrame l None new) w.left_is none, w.within)

-- where a whole walk ends
walk_end : (s : List ℕ) (fs : List Frame) (r : List ℕ) (gs : List Frame) → LeadsTo s fs r → HasNoFrame r → IsWalk s gs Done → r ≡ 0 ∷ []
walk_end s [] r [] leads none walk = sym leads ∙ walk
walk_end s [] r (g ∷ gs) leads none (t, frame, more) = absurd (none g t (subst (λ l. IsFrame l g t) leads frame))
walk_end s (f ∷ fs) r [] (t, frame, more) none walk = absurd (no_frame_at_final s walk f t frame)
walk_end s (f ∷ fs) r (g ∷ gs) (t, frame, more) none (u, frame', more') =
    let same : t ≡ u = (one_frame s f g t u frame frame').1 in
    walk_end u fs r gs (subst (λ l. LeadsTo l fs r) same more) none more'

nil_of : (s : List ℕ) → length s ≡ 0 → s ≡ []
nil_of [] none = refl
nil_of (x ∷ s) none = absurd (omega (arith, none))

-- the last byte alone
last_left : (b : List ℕ) (n : ℕ) → slice_get b (length b - 1) ≡ Some 0 → n + 1 ≡ length b → drop n b ≡ 0 ∷ []
last_left b n ended whole =
    let at : length b - 1 ≡ n = omega (arith, whole) in
    let last : slice_get b n ≡ Some 0 = ap (slice_get b) (sym at) ∙ ended in
    let behind : drop n b ≡ 0 ∷ drop (suc n) b = drop-cons b n 0 (slice_get_within b n 0 last) ∙ ap (λ x. x ∷ drop (suc n) b) (get_or_from_slice_get b n 0 0 last) in
    let size : length (drop (suc n) b) ≡ length b - suc n = length-drop (suc n) b in
    behind ∙ ap (λ (t : List ℕ). 0 ∷ t) (nil_of (drop (suc n) b) (omega (arith, size, whole)))

-- the walk ends at the last byte
pub framed : (b : List ℕ) (n : ℕ) → IsEnvelope b → IsWalked b n → n + 1 ≡ length b → IsFramed b
framed b n envelope (inl (lacks, is)) whole = absurd (lacks envelope)
framed b n envelope (inr (there, fs, leads, none, within)) whole =
    (envelope, (fs, LeadsTo-walk (drop 4 b) fs (drop n b) Done leads (last_left b n envelope.ended whole)))

pub unframed : (b : List ℕ) (n : ℕ) → IsEnvelope b → IsWalked b n → ¬ (n + 1 ≡ length b) → ¬ IsFramed b
unframed b n envelope (inl (lacks, is)) short framed = lacks envelope
unframed b n envelope (inr (there, fs, leads, none, within)) short (whole, (gs, walk)) =
    let end : drop n b ≡ 0 ∷ [] = walk_end (drop 4 b) fs (drop n b) gs leads none walk in
    let one : length (drop n b) ≡ 1 = ap length end in
    let size : length (drop n b) ≡ length b - n = length-drop n b in
    short (omega (arith, one, size, within))

-- whether the walk ends at the last byte
pub walked_on : (b : List ℕ) (n : ℕ) (r : Bool) → IsEnvelope b → IsWalked b n → (r ≡ true → n + 1 ≡ length b) → (r ≡ false → ¬ (n + 1 ≡ length b)) → MatchBool r (IsFramed b) (¬ IsFramed b)
walked_on b n true envelope walked is isnt = framed b n envelope walked (is refl)
walked_on b n false envelope walked is isnt = unframed b n envelope walked (isnt refl)
