-- Levels that are open while texts are replaced: what becomes of their document once they are ended.
use Rattle.std.proofs.Common.{◌≡◌, ◌∙◌, ◌≤◌, ◌+◌, ◌-◌, ◌++◌, ◌∷◌, [], ℕ, zero, suc, pos, List, Option, None, Some, length, drop, take, ap, arith, refl, sym, subst, append_assoc, length-append, length-take, length-drop}
use Rattle.std.proofs.lemmas.List.{append-nil, drop_at, take_at}
use Rattle.raw_view.proofs.Face.{no_frame_at_final, no_frame_at_stop, no_stop_at_final, stop_said}
use Rattle.raw_view.specs.Frame.{HasNoFrame}
use Rattle.raw_view.specs.Frame.Format.{framed, scoped_payload, string_payload, tagged}
use Rattle.raw_view.specs.Frame.Front.{StopsWith}
use Rattle.raw_view.specs.Frame.Number.{le32}
use Rattle.raw_view.specs.declared.error.BorrowedError.{BorrowedError}
use Rattle.raw_view.specs.declared.level.Holder.TheVariants as holder
use Rattle.raw_tree.proofs.Face.{walk_over, walk_step}
use Rattle.raw_tree.specs.Members.{with_len}
use Rattle.raw_tree.specs.Payload.{element_bytes, unset}
use Rattle.raw_form.specs.Replacing.{BecomeBytes, Becomes, BecomesUpTo, MeansKept, RestBecomes}
use Rattle.raw_form.specs.ReplacingSteps.{Completes, Opens, begun_with, code_len_of, ended_level}
use Rattle.raw_form.specs.declared.replaced.Open.{Open}
use Rattle.raw_form.proofs.canonical.Common.{Frame, Holder, IsFrame, RawValue, ended_by, header_len, held_opening, holding, kind_of_raw, payload_of, tag_of}
use Rattle.raw_form.proofs.replaced.Kept.{becomes_held, nested_of, one_kept}

-- one element

more : (n : ℕ) (f : Frame) (s r x : List ℕ) (v w : RawValue) → IsFrame s f r → MeansKept f v → Becomes (BecomesUpTo n) v w → RestBecomes (BecomesUpTo n) r x
    → RestBecomes (BecomesUpTo n) s (element_bytes f.key w ++ x)
more n f s r x v w at means becomes (frames, walk, bytes) = (f ∷ frames, (r, at, walk), (v, w, x, means, becomes, bytes, refl))

less : (n : ℕ) (f : Frame) (s r x : List ℕ) → IsFrame s f r → RestBecomes (BecomesUpTo n) s x
    → (v w : RawValue) × (y : List ℕ) × MeansKept f v × Becomes (BecomesUpTo n) v w × RestBecomes (BecomesUpTo n) r y × (x ≡ element_bytes f.key w ++ y)
less n f s r x at (frames, walk, bytes) =
    let step = walk_step s frames f r walk at in
    let b : BecomeBytes (BecomesUpTo n) (f ∷ step.0) x = rw step.1 at bytes in
    (b.0, b.1, b.2, b.3, b.4, (step.0, step.2, b.5), b.6)

-- no element is left
none_left : (n : ℕ) (s x : List ℕ) → HasNoFrame s → RestBecomes (BecomesUpTo n) s x → (s ≡ 0 ∷ []) × (x ≡ [])
none_left n s x none (frames, walk, bytes) = let over = walk_over s frames walk none in (rw over at walk, rw over at bytes)

-- past the frame at its front the level is the new one
pub record Passes (level new : Open) (s : List ℕ) (f : Frame) (r : List ℕ) : Type 0 where
  pub at : IsFrame s f r
  pub old_is : level.elements ≡ Some s
  pub new_is : new.elements ≡ Some r
  pub start_is : new.start ≡ level.start
  pub code_is : new.code_len ≡ level.code_len

-- its element is put
module _ (n : ℕ) (levels : List Open) (out : List ℕ) {level new : Open} {s r : List ℕ} {f : Frame} (step : Passes level new s f r) where
  open step use {at, old_is, new_is, start_is, code_is}

  joined : (e x : List ℕ) → ended_level new ((out ++ e) ++ x) ≡ ended_level level (out ++ (e ++ x))
  joined e x = rw (start_is, code_is, append_assoc out e x) refl

  pub passes : (v w : RawValue) → MeansKept f v → Becomes (BecomesUpTo n) v w → (a : List ℕ) → Completes n (new ∷ levels) (out ++ element_bytes f.key w) a
      → Completes n (level ∷ levels) out a
  passes v w means becomes a (x, left, rest) = (
    element_bytes f.key w ++ x,
    rw old_is (more n f s r x v w at means becomes (rw new_is at left)),
    subst (λ (b : List ℕ). Completes (suc n) levels b a) (joined (element_bytes f.key w) x) rest,
  )

  pub returned : (a : List ℕ) → Completes n (level ∷ levels) out a
      → (v w : RawValue) × MeansKept f v × Becomes (BecomesUpTo n) v w × Completes n (new ∷ levels) (out ++ element_bytes f.key w) a
  returned a (x, left, rest) =
      let (v, w, y, means, becomes, bytes, x_is) = less n f s r x at (rw old_is at left) in
      let same : ended_level level (out ++ x) ≡ ended_level new ((out ++ element_bytes f.key w) ++ y) =
      ap (λ (z : List ℕ). ended_level level (out ++ z)) x_is ∙ sym (joined (element_bytes f.key w) y) in
      (v, w, means, becomes, (y, rw new_is bytes, subst (λ (b : List ℕ). Completes (suc n) levels b a) same rest))

-- a level is ended

set_head : (before body : List ℕ) → with_len (length before) (before ++ 0 ∷ 0 ∷ 0 ∷ 0 ∷ body) ≡ before ++ (le32 (pos (4 + length body)) ++ body)
set_head before body =
    let len : length (before ++ 0 ∷ 0 ∷ 0 ∷ 0 ∷ body) - length before ≡ 4 + length body = omega (arith, length-append before (0 ∷ 0 ∷ 0 ∷ 0 ∷ body)) in
    let four : (before ++ 0 ∷ 0 ∷ 0 ∷ 0 ∷ []) ++ body ≡ before ++ 0 ∷ 0 ∷ 0 ∷ 0 ∷ body = append_assoc before (0 ∷ 0 ∷ 0 ∷ 0 ∷ []) body in
    let behind : drop (length before + 4) (before ++ 0 ∷ 0 ∷ 0 ∷ 0 ∷ body) ≡ body =
    ap (drop (length before + 4)) (sym four) ∙ drop_at (before ++ 0 ∷ 0 ∷ 0 ∷ 0 ∷ []) body (length before + 4) (length-append before (0 ∷ 0 ∷ 0 ∷ 0 ∷ [])) in
    rw (len, take_at before (0 ∷ 0 ∷ 0 ∷ 0 ∷ body) (length before) refl, behind) refl

framed_at : (before inside : List ℕ) → with_len (length before) (((before ++ unset) ++ inside) ++ 0 ∷ []) ≡ before ++ framed inside
framed_at before inside = rw (append_assoc (before ++ unset) inside (0 ∷ []), append_assoc before unset (inside ++ 0 ∷ [])) (set_head before (inside ++ 0 ∷ []))

scoped_at : (before code inside : List ℕ) → with_len (length before)
    (with_len (length before + 9 + length code) (((before ++ (unset ++ string_payload code ++ unset)) ++ inside) ++ 0 ∷ [])) ≡ before
    ++ scoped_payload code (framed inside)
scoped_at before code inside =
    let text = string_payload code in
    let head = before ++ (unset ++ text) in
    let start : length before + 9 + length code ≡ length head = omega (arith, length-append before (unset ++ text), length-append code (0 ∷ [])) in
    let same : ((before ++ (unset ++ text ++ unset)) ++ inside) ++ 0 ∷ [] ≡ ((head ++ unset) ++ inside) ++ 0 ∷ [] = simp append_assoc in
    let whole : head ++ framed inside ≡ before ++ 0 ∷ 0 ∷ 0 ∷ 0 ∷ (text ++ framed inside) = simp append_assoc in
    rw (start, same, framed_at head inside, whole) (set_head before (text ++ framed inside))

closed_at : (h : Holder) (d before y : List ℕ) → ended_by (code_len_of h) (length before) (((before ++ held_opening h) ++ y) ++ 0 ∷ []) ≡ before ++ payload_of (holding h (framed y))
closed_at holder.Document d before y = framed_at before y
closed_at holder.Array d before y = framed_at before y
closed_at (holder.Code code) d before y = scoped_at before code.now y

kind_held : (h : Holder) (d e : List ℕ) → kind_of_raw (holding h d) ≡ kind_of_raw (holding h e)
kind_held holder.Document d e = refl
kind_held holder.Array d e = refl
kind_held (holder.Code code) d e = refl

element_begun : (old key d e : List ℕ) (h : Holder) → begun_with old key h d ++ payload_of (holding h e) ≡ old ++ element_bytes key (holding h e)
element_begun old key d e h =
    let p = payload_of (holding h e) in
    let tag = tag_of (kind_of_raw (holding h e)) in
    let flat : (tag ∷ (key ++ 0 ∷ [])) ++ p ≡ tag ∷ (key ++ 0 ∷ p) = ap (λ (z : List ℕ). tag ∷ z) (append_assoc key (0 ∷ []) p) in
    rw (kind_held h d e, append_assoc old (tag ∷ (key ++ 0 ∷ [])) p) (ap (λ (z : List ℕ). old ++ z) flat)

-- an element whose value holds a level is whole once the level is ended
closed : (key d out new y : List ℕ) (h : Holder) (inner : Open) → Opens key h d out new inner → ended_level inner (new ++ y) ≡ out ++ element_bytes key (holding h (framed y))
closed key d out new y h inner o =
    rw (o.code_is, o.start_is, o.put) (closed_at h d (begun_with out key h d) y ∙ element_begun out key d (framed y) h)

module _ (n : ℕ) (levels : List Open) {level behind inner : Open} {out new s r d : List ℕ} {f : Frame} {h : Holder} (step : Passes level behind s f r)
    (means : MeansKept f (holding h d)) (opens : Opens f.key h d out new inner) where
  pub enters : (a : List ℕ) → Completes n (inner ∷ behind ∷ levels) new a → Completes (suc n) (level ∷ levels) out a
  enters a (y, left, rest) =
      let inside : RestBecomes (BecomesUpTo n) (drop 4 d) y = rw opens.elements at left in
      passes (suc n) levels out step (holding h d) (holding h (framed y)) means (becomes_held (suc n) h d (framed y) (y, inside, refl)) a
      (subst (λ (b : List ℕ). Completes (suc n) (behind ∷ levels) b a) (closed f.key d out new y h inner opens) rest)

  pub entered : (a : List ℕ) → Completes (suc n) (level ∷ levels) out a → Completes n (inner ∷ behind ∷ levels) new a
  entered a whole =
      let (v, w, also, becomes, rest) = returned (suc n) levels out step a whole in
      let it : v ≡ holding h d = one_kept f v (holding h d) also means in
      let (e, (y, inside, e_is), w_is) = nested_of (suc n) h d w (subst (λ (x : RawValue). Becomes (BecomesUpTo (suc n)) x w) it becomes) in
      let whole_is : element_bytes f.key w ≡ element_bytes f.key (holding h (framed y)) = ap (element_bytes f.key) (w_is ∙ ap (holding h) e_is) in
      let same : out ++ element_bytes f.key w ≡ ended_level inner (new ++ y) = ap (λ (z : List ℕ). out ++ z) whole_is ∙ sym (closed f.key d out new y h inner opens) in
      (y, rw opens.elements inside, subst (λ (b : List ℕ). Completes (suc n) (behind ∷ levels) b a) same rest)

-- the level in it is too deep
pub too_deep : (levels : List Open) (out d : List ℕ) (h : Holder) {level behind : Open} {s r : List ℕ} {f : Frame} → Passes level behind s f r → MeansKept f (holding h d)
    → (a : List ℕ) → Completes zero (level ∷ levels) out a → ⊥
too_deep levels out d h {f = f} step means a whole =
    let (v, w, also, becomes, rest) = returned zero levels out step a whole in
    let it : v ≡ holding h d = one_kept f v (holding h d) also means in
    (nested_of zero h d w (subst (λ (x : RawValue). Becomes (BecomesUpTo zero) x w) it becomes)).1

-- the innermost level is over
module _ (n : ℕ) (level : Open) (levels : List Open) (out : List ℕ) {s : List ℕ} (is : level.elements ≡ Some s) (final : s ≡ 0 ∷ []) where
  pub ends : (a : List ℕ) → Completes (suc n) levels (ended_level level out) a → Completes n (level ∷ levels) out a
  ends a rest = ([], rw is ([], final, refl), subst (λ (b : List ℕ). Completes (suc n) levels (ended_level level b) a) (sym (append-nil out)) rest)

  pub ended_then : (a : List ℕ) → Completes n (level ∷ levels) out a → Completes (suc n) levels (ended_level level out) a
  ended_then a (x, left, rest) =
      let none : x ≡ [] = (none_left n s x (no_frame_at_final s final) (rw is at left)).1 in
      subst (λ (b : List ℕ). Completes (suc n) levels (ended_level level b) a) (ap (λ (z : List ℕ). out ++ z) none ∙ append-nil out) rest

-- a level that stops becomes nothing
pub stopped : (n : ℕ) (level : Open) (levels : List Open) (out s : List ℕ) (e : BorrowedError) (key : Option (List ℕ)) → level.elements ≡ Some s → StopsWith e.kind key s
    → (a : List ℕ) → Completes n (level ∷ levels) out a → ⊥
stopped n level levels out s e key is stops a (x, left, rest) =
    let (fault, says, stop) = stop_said e.kind key s stops in
    let over = none_left n s x (no_frame_at_stop s fault key stop) (rw is at left) in
    no_stop_at_final s fault key over.0 stop

-- no byte is lost

length-with_len : (start : ℕ) (b : List ℕ) → length b ≤ length (with_len start b)
length-with_len start b =
    omega (arith, length-append (take start b) (le32 (pos (length b - start)) ++ drop (start + 4) b), length-take start b, length-drop (start + 4) b)

length-ended_by : (code : Option ℕ) (start : ℕ) (b : List ℕ) → length b ≤ length (ended_by code start b)
length-ended_by None start b = length-with_len start b
length-ended_by (Some n) start b = omega (arith, length-with_len start (with_len (start + 9 + n) b), length-with_len (start + 9 + n) b)

pub length-ended : (level : Open) (out : List ℕ) → length out + 1 ≤ length (ended_level level out)
length-ended level out = omega (arith, length-ended_by level.code_len level.start (out ++ 0 ∷ []), length-append out (0 ∷ []))

pub length-completes : (n : ℕ) (levels : List Open) (out a : List ℕ) → Completes n levels out a → length out ≤ length a
length-completes n [] out a is = omega (arith, ap length is)
length-completes n (level ∷ levels) out a (x, left, rest) =
    omega (arith, length-completes (suc n) levels (ended_level level (out ++ x)) a rest, length-ended level (out ++ x), length-append out x)

-- the document itself

pub closed_first : (level : Open) (out x : List ℕ) → level.start ≡ 0 → level.code_len ≡ None → out ≡ held_opening holder.Document → ended_level level (out ++ x) ≡ framed x
closed_first level out x start code out_is = rw (start, code, out_is) (framed_at [] x)

-- an opened level

pub opens_longer : (key d out new : List ℕ) (h : Holder) (inner : Open) → Opens key h d out new inner → length out ≤ length new
opens_longer key d out new h inner o =
    omega (arith, ap length o.put, length-append (begun_with out key h d) (held_opening h), length-append out (tagged (tag_of (kind_of_raw (holding h d))) key []))

header_of : (h : Holder) → header_len (code_len_of h) ≡ length (held_opening h)
header_of holder.Document = refl
header_of holder.Array = refl
header_of (holder.Code code) = grind (arith, length-append)

pub opens_within : (key d out new : List ℕ) (h : Holder) (inner : Open) → Opens key h d out new inner → inner.start + header_len inner.code_len ≤ length new
opens_within key d out new h inner o =
    omega (arith, ap length o.put, length-append (begun_with out key h d) (held_opening h), o.start_is, ap header_len o.code_is, header_of h)
