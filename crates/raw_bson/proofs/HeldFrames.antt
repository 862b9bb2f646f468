-- A document that was made by appends holds the frames that were appended.
use Rattle.std.proofs.Common.{◌≡◌, ◌≤◌, ◌+◌, ◌++◌, ◌∷◌, [], ◌∙◌, ℕ, List, length, decimal, ap, sym, refl, subst, arith}
use denote.Ref.{Bor}
use Rattle.bson_model.specs.Leaf.{Leaf, double}
use Rattle.raw_view.specs.Frame.{Frame, IsFrame, IsShortScope}
use Rattle.raw_view.specs.Meaning.{RawValue, single, document, array, scoped, Means, value}
use Rattle.raw_view.specs.Frame.Number.{max_length}
use Rattle.raw_view.proofs.Face.{leaf_means, scoped_means}
use Rattle.raw_tree.specs.Payload.{payload_of, IsRawInRange, IsValueNulFree}
use Rattle.raw_tree.proofs.Face.{value_spelled}
use Rattle.raw_bson.specs.Append.{value_frame, EndsInShortScope, KeepsWalk, HaveNoShortScope, HoldsFrames, IsValueSubtypeProper, AddsValue}
use Rattle.raw_bson.specs.Fills.{empty_document, frames_of_pairs, frames_from}
use Rattle.raw_bson.specs.Owned.{owned_value}
use Rattle.raw_bson.specs.declared.bson.RawBson.{RawBson}

-- no value is written as a short code with scope

leaf_is_long : (key : List ℕ) (leaf : Leaf) → ¬ IsShortScope (value_frame key (single leaf))
leaf_is_long key (double bits) short = let bad = short.0 in cc
leaf_is_long key _ short = let bad = short.0 in cc

pub value_is_long : (key : List ℕ) (v : RawValue) → ¬ IsShortScope (value_frame key v)
value_is_long key (single leaf) = leaf_is_long key leaf
value_is_long key (document bytes) = λ short. let bad = short.0 in cc
value_is_long key (array bytes) = λ short. let bad = short.0 in cc
value_is_long key (scoped code scope) = λ short. omega (arith, short.1)

-- a value that a frame means is written as this frame
pub frame_again : (s : List ℕ) (f : Frame) (r : List ℕ) (v : RawValue) → IsFrame s f r → Means f (value v) → value_frame f.key v ≡ f
frame_again s f r v at means =
    let h = value_spelled f.kind f.payload r v at.payload_is means in
    ap (λ k. record { kind = k; key = f.key; payload = payload_of v }) h.1 ∙ ap (λ p. record { kind = f.kind; key = f.key; payload = p }) h.0

-- lists of frames

-- if no frame is short, the last one isn't
last_is_long : (before : List Frame) (last : Frame) → HaveNoShortScope (before ++ last ∷ []) → ¬ IsShortScope last
last_is_long [] last h = h.0
last_is_long (f ∷ before) last h = last_is_long before last h.1

ends_long : (frames : List Frame) → HaveNoShortScope frames → ¬ EndsInShortScope frames
ends_long frames h short = last_is_long short.0 short.1 (subst HaveNoShortScope short.2 h) short.3

pub HaveNoShortScope-more : (frames : List Frame) (f : Frame) → HaveNoShortScope frames → ¬ IsShortScope f → HaveNoShortScope (frames ++ f ∷ [])
HaveNoShortScope-more [] f h long = (long, tt)
HaveNoShortScope-more (g ∷ frames) f h long = (h.0, HaveNoShortScope-more frames f h.1 long)

-- of one more frame, the last and those before it
pub HaveNoShortScope-last : (frames : List Frame) (f : Frame) → HaveNoShortScope (frames ++ f ∷ []) → HaveNoShortScope frames × (¬ IsShortScope f)
HaveNoShortScope-last [] f h = (tt, h.0)
HaveNoShortScope-last (g ∷ frames) f h = let rest = HaveNoShortScope-last frames f h.1 in ((h.0, rest.0), rest.1)

-- documents

-- the document without elements holds no frame
pub HoldsFrames-empty : (b : List ℕ) → b ≡ empty_document → HoldsFrames b []
HoldsFrames-empty b empty = subst (λ x. HoldsFrames x []) (sym empty) (record { walk = refl; no_short_scope = tt })

-- one more element as it is
pub HoldsFrames-element : (b : List ℕ) (frames : List Frame) (f : Frame) (left : List ℕ) → HoldsFrames b frames → ¬ IsShortScope f → KeepsWalk b f left → HoldsFrames left (frames ++ f ∷ [])
HoldsFrames-element b frames f left h long keeps = record {
  walk = (keeps frames h.walk (ends_long frames h.no_short_scope)).0;
  no_short_scope = HaveNoShortScope-more frames f h.no_short_scope long;
}

-- one more value
pub HoldsFrames-value : (b : List ℕ) (frames : List Frame) (key : List ℕ) (v : RawValue) (left : List ℕ) → HoldsFrames b frames
    → KeepsWalk b (value_frame key v) left → HoldsFrames left (frames ++ value_frame key v ∷ [])
HoldsFrames-value b frames key v left h keeps = HoldsFrames-element b frames (value_frame key v) left h (value_is_long key v) keeps

-- the frame of a value means it
pub value_means : (key : List ℕ) (v : RawValue) → IsRawInRange v → IsValueNulFree v → IsValueSubtypeProper v → length (payload_of v) ≤ max_length → Means (value_frame key v) (value v)
value_means key (single leaf) h n s l = leaf_means leaf h n s l
value_means key (document bytes) h n s l = refl
value_means key (array bytes) h n s l = refl
value_means key (scoped code scope) h n s l = scoped_means code scope h.0 h.1 (omega arith)

-- so an append adds it
pub adds_value : (b key : List ℕ) (v : RawValue) (left : List ℕ) → IsRawInRange v → IsValueNulFree v → length (payload_of v) ≤ max_length
    → KeepsWalk b (value_frame key v) left → AddsValue b key v left
adds_value b key v left range nul_free fits keeps = record {
  holds = λ frames h. HoldsFrames-value b frames key v left h keeps;
  means = λ proper. value_means key v range nul_free proper fits;
}

-- rows of appends

pub frames_of_pairs-more : (pairs : List (Bor (List ℕ) × RawBson)) (pair : Bor (List ℕ) × RawBson)
    → frames_of_pairs (pairs ++ pair ∷ []) ≡ frames_of_pairs pairs ++ value_frame pair.0.now (owned_value pair.1) ∷ []
frames_of_pairs-more [] pair = refl
frames_of_pairs-more (p ∷ pairs) pair = ap (λ fs. value_frame p.0.now (owned_value p.1) ∷ fs) (frames_of_pairs-more pairs pair)

frames_from-more : (n : ℕ) (values : List RawBson) (v : RawBson) → frames_from n (values ++ v ∷ []) ≡ frames_from n values ++ value_frame (decimal (n + length values)) (owned_value v) ∷ []
frames_from-more n [] v = ap (λ k. value_frame (decimal k) (owned_value v) ∷ []) (omega arith)
frames_from-more n (w ∷ values) v =
    let place : n + 1 + length values ≡ n + length (w ∷ values) = omega arith in
    let rest = frames_from-more (n + 1) values v ∙ ap (λ k. frames_from (n + 1) values ++ value_frame (decimal k) (owned_value v) ∷ []) place in
    ap (λ fs. value_frame (decimal n) (owned_value w) ∷ fs) rest

pub frames_from_zero-more : (values : List RawBson) (v : RawBson) → frames_from 0 (values ++ v ∷ []) ≡ frames_from 0 values ++ value_frame (decimal (length values)) (owned_value v) ∷ []
frames_from_zero-more values v =
    let place : 0 + length values ≡ length values = omega arith in
    frames_from-more 0 values v ∙ ap (λ k. frames_from 0 values ++ value_frame (decimal k) (owned_value v) ∷ []) place
