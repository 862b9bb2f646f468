-- Every list of bytes that ends with a 0 has a walk.
use Rattle.std.proofs.Common.{◌≡◌, ◌⊎◌, inl, inr, ◌++◌, ◌∷◌, [], ◌-◌, ◌+◌, ◌<◌, ◌≤◌, ℕ, zero, suc, List, length, take, drop, get_or, slice_get, arith, ap, sym, refl, ◌∙◌, subst, length-append, append_assoc, Option, Some, None}
use Rattle.std.specs.Str.{IsUtf8}
use Rattle.std.proofs.lemmas.Bool.{cases_eq}
use Rattle.std.proofs.lemmas.List.{take-append-drop, nil_from_length, get_or-append-add}
use Rattle.std.proofs.lemmas.Option.{slice_get-get_or, get_or_from_slice_get}
use Rattle.bson_model.specs.Bytes.{AreBytes, NulFree}
use Rattle.raw_view.specs.Frame.Envelope.{IsEnvelope}
use Rattle.raw_view.specs.Frame.Kind.{tag_of}
use Rattle.raw_view.specs.declared.element_type.ElementType.TheVariants as kind
use Rattle.raw_view.specs.declared.error.Reason.{Reason}
use Rattle.raw_view.specs.declared.error.Reason.TheVariants as reason
use Rattle.raw_view.specs.Frame.{Frame, IsFrame, HasNoFrame, Fault, Malformed, Utf8, HasKey, IsPayloadReason, IsStop, End, Done, Stopped, IsWalk}
use Rattle.raw_view.specs.Frame.{no_byte_left, key_not_utf8, regex_not_utf8, no_payload}
use Rattle.raw_view.specs.declared.element_type.ElementType.{ElementType}
use Rattle.raw_view.specs.Frame.Front.{EndsWithNul}
use Rattle.raw_view.proofs.Bytes.DecidedTexts.{front_text_or_not, bad_regex_or_not}
use Rattle.raw_view.proofs.Frames.Decided.{both_or_not, kind_or_not, payload_or_not}
use Rattle.bson_model.proofs.Face.{AreBytes-back, AreBytes-drop}
use Rattle.raw_view.proofs.Frames.Reasons.{payload_reason}
use Rattle.raw_view.proofs.Frames.Fronts.{no_frame, no_nul_ends, tag_stop}
use Rattle.raw_view.proofs.Frames.Loops.{IsFrame-shorter}
use Rattle.raw_view.proofs.Frames.Iteration.{front_and_rest}

-- the last byte of the back is the last of the whole
EndsWithNul-back : (front back : List ℕ) → EndsWithNul (front ++ back) → EndsWithNul back
EndsWithNul-back front back last some =
    let whole : length (front ++ back) ≡ length front + length back = length-append front back in
    let place : length (front ++ back) - 1 ≡ length front + (length back - 1) = omega arith in
    let end : get_or (front ++ back) (length (front ++ back) - 1) 0 ≡ 0 = get_or_from_slice_get (front ++ back) _ 0 0 (last (omega arith)) in
    slice_get-get_or back (length back - 1) 0 (omega arith) ∙ ap Some (sym (get_or-append-add front back (length back - 1) 0) ∙ rw place at end)

-- what follows a frame is bytes
pub AreBytes-rest : (s : List ℕ) (f : Frame) (r : List ℕ) → IsFrame s f r → AreBytes s → AreBytes r
AreBytes-rest s f r b bytes = AreBytes-back (tag_of f.kind ∷ (f.key ++ 0 ∷ f.payload)) r (subst AreBytes (front_and_rest s f r b) bytes)

-- and the last of them is 0
EndsWithNul-rest : (s : List ℕ) (f : Frame) (r : List ℕ) → IsFrame s f r → EndsWithNul s → EndsWithNul r
EndsWithNul-rest s f r b last = EndsWithNul-back (tag_of f.kind ∷ (f.key ++ 0 ∷ f.payload)) r (subst EndsWithNul (front_and_rest s f r b) last)

-- the final 0 is at the front of s, or a frame, or there is a stop
abbrev pub HasFront : List ℕ → Type 0
HasFront s =
    (s ≡ 0 ∷ [])
    ⊎ ((f : Frame) × (r : List ℕ) × IsFrame s f r)
    ⊎ ((fault : Fault) × (key : Option (List ℕ)) × IsStop s fault key)

-- if no 0 follows the tag and the last byte is 0, the tag is the final 0
last_is_final : (tag : ℕ) (behind : List ℕ) → NulFree behind → EndsWithNul (tag ∷ behind) → tag ∷ behind ≡ 0 ∷ []
last_is_final tag behind h last =
    let at : length (tag ∷ behind) - 1 ≡ length behind = omega arith in
    let end : slice_get (tag ∷ behind) (length behind) ≡ Some 0 = rw at at (last (omega arith)) in
    let none : behind ≡ [] = no_nul_ends tag behind h end in
    let zero : Some tag ≡ Some 0 = subst (λ (x : List ℕ). slice_get (tag ∷ x) (length x) ≡ Some 0) none end in
    cc

-- a key and no payload of its tag's kind: a stop, whose fault is one of text where a text of a regular expression is bad
key_and_no_payload : (s : List ℕ) (key : List ℕ) (at : HasKey s key) (k : ElementType) (why : Reason) → IsUtf8 key → at.tag ≡ tag_of k → HasNoFrame s → IsPayloadReason k at.behind why
    → (fault : Fault) × (key : Option (List ℕ)) × IsStop s fault key
key_and_no_payload s key at k why u tag none is =
    elim (both_or_not (cases_eq at.tag (tag_of kind.RegularExpression)) (bad_regex_or_not at.behind)) [
      | inl bad ↦ (Utf8, Some key, regex_not_utf8 key at u none bad refl refl)
      | inr good ↦ (Malformed why, Some key, no_payload key at k why u tag none good is refl refl)
    ]

-- a key that is a text: a frame, or a stop
behind_key : (s : List ℕ) (tag : ℕ) (key behind : List ℕ) → AreBytes behind → tag < 256 → s ≡ tag ∷ (key ++ 0 ∷ behind) → NulFree key → IsUtf8 key → HasFront s
behind_key s tag key behind bytes l e h u =
    elim (kind_or_not tag l) [
      | inl k ↦ elim (payload_or_not k.0 behind bytes) [
        | inl p ↦ inr (inl (
          record { kind = k.0; key = key; payload = take p.0 behind },
          drop p.0 behind,
          record {
            spelled = rw (take-append-drop p.0 behind, ← k.1) e;
            key_nul_free = h;
            key_utf8 = u;
            payload_is = p.2;
          },
        ))
        | inr none ↦ (
            let why = payload_reason k.0 behind bytes none in
            let at : HasKey s key = record { tag = tag; behind = behind; spelled = e; nul_free = h } in
            inr (inr (key_and_no_payload s key at k.0 why.0 u k.1 (no_frame s tag key behind k.0 e h k.1 none) why.1)))
      ]
      | inr none ↦ inr (inr (Malformed (reason.InvalidTag tag), Some key, tag_stop s tag key behind e h u none))
    ]

-- one of the three is at the front
pub has_front : (s : List ℕ) → AreBytes s → EndsWithNul s → HasFront s
has_front [] bytes last = inr (inr (Malformed reason.Overflowed, None, no_byte_left refl refl refl))
has_front (tag ∷ behind) bytes last =
    elim (front_text_or_not behind) [
      | inl t ↦ (
          let back : AreBytes behind = λ i. bytes (suc i) in
          let text : behind ≡ (t.0 ++ 0 ∷ []) ++ t.1 = rw append_assoc t.2 in
          behind_key (tag ∷ behind) tag t.0 t.1 (AreBytes-back (t.0 ++ 0 ∷ []) t.1 (subst AreBytes text back)) (bytes 0) (ap (λ x. tag ∷ x) t.2) t.3 t.4)
      | inr none ↦ elim none [
        | inl h ↦ inl (last_is_final tag behind h last)
        | inr b ↦ inr (inr (Utf8, None, key_not_utf8 b.0 (record { tag = tag; behind = b.1; spelled = ap (λ x. tag ∷ x) b.2; nul_free = b.3 }) b.4 refl refl))
      ]
    ]

-- a walk through at most n bytes
walk_within : (n : ℕ) (s : List ℕ) → length s ≤ n → AreBytes s → EndsWithNul s → (frames : List Frame) × (end : End) × IsWalk s frames end
walk_within zero s l bytes last = ([], Stopped (Malformed reason.Overflowed) None, no_byte_left (nil_from_length s (omega arith)) refl refl)
walk_within (suc n) s l bytes last =
    elim (has_front s bytes last) [
      | inl e ↦ ([], Done, e)
      | inr more ↦ elim more [
        | inl t ↦ (
            let rest = walk_within n t.1 (omega (arith, IsFrame-shorter s t.0 t.1 t.2)) (AreBytes-rest s t.0 t.1 t.2 bytes) (EndsWithNul-rest s t.0 t.1 t.2 last) in
            (t.0 ∷ rest.0, rest.1, (t.1, t.2, rest.2)))
        | inr stop ↦ ([], Stopped stop.0 stop.1, stop.2)
      ]
    ]

-- a walk, through all of the bytes
pub has_walk : (s : List ℕ) → AreBytes s → EndsWithNul s → (frames : List Frame) × (end : End) × IsWalk s frames end
has_walk s bytes last = walk_within (length s) s (omega arith) bytes last

-- the walk of a document
pub document_has_walk : (b : List ℕ) → IsEnvelope b → (frames : List Frame) × (end : End) × IsWalk (drop 4 b) frames end
document_has_walk b d =
    let whole : b ≡ take 4 b ++ drop 4 b = sym (take-append-drop 4 b) in
    let last : EndsWithNul b = λ some. d.ended in
    has_walk (drop 4 b) (AreBytes-drop 4 b d.bytes) (EndsWithNul-back (take 4 b) (drop 4 b) (subst EndsWithNul whole last))
