-- Where levels and their elements are in the bytes of a document.
use Rattle.std.proofs.Common.{pos, inl, inr, ◌⊎◌, ◌≡◌, ◌∙◌, ◌<◌, ◌≤◌, ◌+◌, ◌-◌, ◌*◌, ◌++◌, ◌∷◌, [], ℕ, suc, List, Some, zero, map, slice_index_or, length, drop, take, append_assoc, arith, ap, refl, sym, subst, length-append, length-drop}
use Rattle.std.proofs.Math.Seq.{drop-append_seam, take-length}
use Rattle.std.proofs.lemmas.List.{append-nil, drop-append-le, drop-drop, take-append-le}
use Rattle.raw_tree.proofs.Common.{ElementType, Frame, HasShape, Holds, IsEnvelope, IsFrame, LeadsTo, RawValue, le32, map-append, max_length, string_payload, tag_of, MeansValue}
use Rattle.raw_tree.proofs.walk.Common.{IsLe32, LiesAt, PathStep, Span, Step, StoreSteps, StoresStep, Waiting, end_of, offset_in, size_of, step_of}
use Rattle.raw_view.proofs.Face.{LeadsTo-bound}
use Rattle.raw_tree.proofs.walk.Frames.{drop_frame, frame_size}
use Rattle.raw_view.specs.declared.element_type.ElementType.TheVariants as kind
use Rattle.raw_view.specs.Meaning as raw

-- a frame is a frame with more bytes after it

shape_more : (k : ElementType) (p r q : List ℕ) → HasShape k p r → HasShape k p (r ++ q)
shape_more kind.JavaScriptCodeWithScope p r q h =
    let front : take 4 (p ++ r) ≡ take 4 (p ++ (r ++ q)) = sym (take-append-le 4 (p ++ r) q h.enough) ∙ ap (take 4) (append_assoc p r q) in
    record {
      enough = omega (arith, h.enough, length-append p r, length-append p (r ++ q), length-append r q);
      header = subst (λ (x : List ℕ). IsLe32 x (pos (length p))) front h.header;
    }
shape_more _ p r q h = h

pub frame_more : (s : List ℕ) (f : Frame) (r q : List ℕ) → IsFrame s f r → IsFrame (s ++ q) f (r ++ q)
frame_more s f r q at = record {
  spelled = rw (at.spelled) (simp append_assoc);
  key_nul_free = at.key_nul_free;
  key_utf8 = at.key_utf8;
  payload_is = shape_more f.kind f.payload r q at.payload_is;
}

-- nested bytes are the end of a payload

abbrev pub EndsWith : List ℕ → List ℕ → Type 0
EndsWith p d = (front : List ℕ) × (p ≡ front ++ d)

document_whole : (k : ElementType) (p e : List ℕ) → MeansValue k p (raw.document e) ⊎ MeansValue k p (raw.array e) → p ≡ e
document_whole k p e m = grind arith

scoped_whole : (k : ElementType) (p code e : List ℕ) → MeansValue k p (raw.scoped code e) → p ≡ le32 (pos (4 + length (string_payload code ++ e))) ++ (string_payload code ++ e)
scoped_whole k p code e m = grind arith

pub nested_last : (k : ElementType) (p : List ℕ) (v : RawValue) (d : List ℕ) → MeansValue k p v → Holds v d → EndsWith p d
nested_last k p (raw.single l) d m h = absurd h
nested_last k p (raw.document e) d m h = ([], document_whole k p e (inl m) ∙ sym h)
nested_last k p (raw.array e) d m h = ([], document_whole k p e (inr m) ∙ sym h)
nested_last k p (raw.scoped code e) d m h =
    let len : List ℕ = le32 (pos (4 + length (string_payload code ++ e))) in
    (len ++ string_payload code, scoped_whole k p code e m ∙ sym (append_assoc len (string_payload code) e) ∙ ap (λ (x : List ℕ). (len ++ string_payload code) ++ x) (sym h))

-- some frames of a level were passed: where what is left of it begins, and where it ends
pub record IsPlaced {K : Type 0} (b : List ℕ) (i : Span K) (frames : List Frame) (s : List ℕ) : Type 0 where
  pub behind : List ℕ
  pub there : drop (offset_in i frames) b ≡ s ++ behind
  pub ends : offset_in i frames + length s ≡ i.start + length i.bytes
  pub within : i.start + length i.bytes ≤ length b
  pub counted : i.start + 4 + 2 * length frames ≤ offset_in i frames

behind_frame : (n : ℕ) (b s : List ℕ) (f : Frame) (r q : List ℕ) → IsFrame s f r → drop n b ≡ s ++ q → drop (n + size_of f) b ≡ r ++ q
behind_frame n b s f r q at there =
    let none : size_of f ≡ size_of f + 0 = omega arith in
    sym (drop-drop (size_of f) n b) ∙ ap (drop (size_of f)) there ∙ ap (λ (m : ℕ). drop m (s ++ q)) none ∙ drop_frame (s ++ q) f (r ++ q) 0 (frame_more s f r q at)

leads_there : (n : ℕ) (b s : List ℕ) (frames : List Frame) (r q : List ℕ) → LeadsTo s frames r → drop n b ≡ s ++ q → drop (end_of n frames) b ≡ r ++ q
leads_there n b s [] r q l there = rw (← l) there
leads_there n b s (f ∷ frames) r q (t, at, l) there = leads_there (n + size_of f) b t frames r q l (behind_frame n b s f t q at there)

pub end_size : (n : ℕ) (s : List ℕ) (frames : List Frame) (r : List ℕ) → LeadsTo s frames r → end_of n frames + length r ≡ n + length s
end_size n s [] r l = omega (arith, ap length l)
end_size n s (f ∷ frames) r (t, at, l) = omega (arith, end_size (n + size_of f) t frames r l, frame_size s f t at)

pub placed : {K : Type 0} (b : List ℕ) (i : Span K) (frames : List Frame) (s : List ℕ) → LiesAt b i.start i.bytes → LeadsTo (drop 4 i.bytes) frames s → IsPlaced b i frames s
placed b i frames s lies l =
    let enough : 5 ≤ length i.bytes = lies.envelope.enough in
    let ends = end_size (i.start + 4) (drop 4 i.bytes) frames s l in
    let front : drop (i.start + 4) b ≡ drop 4 i.bytes ++ lies.behind = sym (drop-drop 4 i.start b) ∙ ap (drop 4) lies.lies ∙ drop-append-le 4 i.bytes lies.behind (omega arith) in
    record {
      behind = lies.behind;
      there = leads_there (i.start + 4) b (drop 4 i.bytes) frames s lies.behind l front;
      ends = omega (arith, ends, length-drop 4 i.bytes, enough);
      within = omega (arith, ap length lies.lies, length-drop i.start b, length-append i.bytes lies.behind, enough);
      counted = omega (arith, ends, LeadsTo-bound (drop 4 i.bytes) frames s l);
    }

-- so it begins in the level's own bytes
pub left_there : {K : Type 0} (i : Span K) (frames : List Frame) (s : List ℕ) → 5 ≤ length i.bytes → LeadsTo (drop 4 i.bytes) frames s → s ≡ drop (offset_in i frames - i.start) i.bytes
left_there i frames s enough l =
    let far : end_of 4 frames ≡ offset_in i frames - i.start = omega (arith, end_size 4 (drop 4 i.bytes) frames s l, end_size (i.start + 4) (drop 4 i.bytes) frames s l) in
    sym (append-nil s) ∙ sym (leads_there 4 i.bytes (drop 4 i.bytes) frames s [] l (sym (append-nil (drop 4 i.bytes)))) ∙ ap (λ (n : ℕ). drop n i.bytes) far

-- the nested bytes of a frame are before the bytes that follow it
pub nested_lies : {b s : List ℕ} {f : Frame} {r : List ℕ} (inner q : List ℕ) (offset first : ℕ) → drop offset b ≡ s ++ q → IsFrame s f r → EndsWith f.payload inner
    → IsEnvelope inner → first + length inner ≡ offset + size_of f → LiesAt b first inner
nested_lies {b} {s} {f} {r} inner q offset first there at ends envelope far =
    let front : List ℕ = tag_of f.kind ∷ (f.key ++ 0 ∷ ends.0) in
    let spelled : s ++ q ≡ front ++ (inner ++ (r ++ q)) = rw ((frame_more s f r q at).spelled, ends.1) (simp append_assoc) in
    let size : length front + length inner ≡ size_of f = omega (arith, length-append f.key (0 ∷ ends.0), ap length ends.1, length-append ends.0 inner) in
    let place : first ≡ offset + length front = omega (arith, far, size) in
    record {
      behind = r ++ q;
      lies = rw place (sym (drop-drop (length front) offset b) ∙ ap (drop (length front)) (there ∙ spelled) ∙ drop-append_seam front (inner ++ (r ++ q)));
      envelope = envelope;
    }

-- the document lies in itself
pub whole_lies : (b : List ℕ) → IsEnvelope b → LiesAt b 0 b
whole_lies b envelope = record { behind = []; lies = sym (append-nil b); envelope = envelope }

-- the offsets of a document fit
pub envelope_fits : (b : List ℕ) → IsEnvelope b → length b ≤ max_length
envelope_fits b is = omega (arith, is.header.fits.sfits)

-- stored levels

-- the stored level with this number
pub stored_there : (b : List ℕ) (ws : List Waiting) (path : List Step) (n : ℕ) (other : Waiting) → StoreSteps b ws path → n < length ws
    → (step : Step) × StoresStep b (slice_index_or ws n other) step × (take (suc n) path ≡ take n path ++ step ∷ [])
stored_there b [] path n other h few = absurd (omega (arith, few))
stored_there b (w ∷ ws) [] n other h few = absurd h
stored_there b (w ∷ ws) (step ∷ path) zero other h few = (step, h.0, refl)
stored_there b (w ∷ ws) (step ∷ path) (suc n) other h few =
    let there = stored_there b ws path n other h.1 (omega (arith, few)) in
    (there.0, there.1, ap (λ (steps : List Step). step ∷ steps) there.2)

-- the element of a stored level is in the document
pub stored_within : (b : List ℕ) (w : Waiting) (step : Step) → StoresStep b w step → (4 ≤ w.element) × (w.element ≤ length b)
stored_within b w step is =
    (is.first, omega (arith, frame_size (drop w.element b) is.frame is.rest is.at, length-drop w.element b))

pub stored_step : {b : List ℕ} {w : Waiting} {step : Step} (is : StoresStep b w step) (key : List ℕ) → key ≡ is.frame.key → record { number = w.number; key = Some key } ≡ step
stored_step {w = w} is key same = (λ i. record { number = w.number; key = Some (same i) }) ∙ sym is.step_is

-- the steps at which stored levels wait
pub steps_more : (steps more : List PathStep) (step : PathStep) (path : List Step) (n : ℕ) (last : Step) → map step_of steps ≡ take n path
    → more ≡ steps ++ step ∷ [] → step_of step ≡ last → take (suc n) path ≡ take n path ++ last ∷ [] → map step_of more ≡ take (n + 1) path
steps_more steps more step path n last h e same next =
    let one : suc n ≡ n + 1 = omega arith in
    ap (map step_of) e ∙ map-append step_of steps (step ∷ []) ∙ (λ i. h i ++ same i ∷ []) ∙ sym next ∙ ap (λ (m : ℕ). take m path) one

pub steps_done : (steps more : List PathStep) (step : PathStep) (path : List Step) (n : ℕ) → map step_of steps ≡ take n path
    → more ≡ steps ++ step ∷ [] → length path ≡ n → map step_of more ≡ path ++ step_of step ∷ []
steps_done steps more step path n h e all =
    let whole : take n path ≡ path = ap (λ (m : ℕ). take m path) (sym all) ∙ take-length path in
    ap (map step_of) e ∙ map-append step_of steps (step ∷ []) ∙ ap (λ (l : List Step). l ++ step_of step ∷ []) (h ∙ whole)

pub stored_more : (b : List ℕ) (ws : List Waiting) (w : Waiting) (path : List Step) (step : Step) → StoreSteps b ws path → StoresStep b w step
    → StoreSteps b (ws ++ w ∷ []) (path ++ step ∷ [])
stored_more b [] w path step h is = rw h (is, refl)
stored_more b (v ∷ ws) w [] step h is = absurd h
stored_more b (v ∷ ws) w (x ∷ path) step h is = (h.0, stored_more b ws w path step h.1 is)

pub stored_many : (b : List ℕ) (ws : List Waiting) (path : List Step) → StoreSteps b ws path → length path ≡ length ws
stored_many b [] path h = ap length h
stored_many b (w ∷ ws) path h = grind (arith, stored_many b ws)
