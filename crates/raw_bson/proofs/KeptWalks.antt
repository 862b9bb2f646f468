-- An append makes a document again, and what was read before is read before the new element.
use Rattle.std.proofs.Common.{◌≡◌, ◌≢◌, inl, inr, ◌<◌, ◌≤◌, ◌+◌, ◌-◌, ◌++◌, ◌∷◌, [], ℕ, pos, zero, suc, List, length, take, drop, get_or, arith, ap, sym, refl, ◌∙◌, subst, append_assoc, length-append, length-drop}
use Rattle.std.specs.Str.{IsUtf8}
use Rattle.std.proofs.lemmas.List.{take-append-le, get_or_at, get_or-take, same_from_push, length-take-le}
use Rattle.std.proofs.lemmas.Bool.{cases_lt}
use Rattle.bson_model.specs.Bytes.{AreBytes}
use Rattle.raw_view.specs.Frame.Envelope.{IsEnvelope}
use Rattle.raw_view.specs.Frame.Format.{string_payload, inside_of}
use Rattle.raw_view.specs.Frame.{HasDeclaredLength, HasShape, Frame, IsFrame, IsWalk, Done, StandsAnywhere}
use Rattle.raw_view.specs.Frame.Kind.{tag_of}
use Rattle.raw_view.specs.Meaning.{RawValue, single, document, array, scoped, kind_of_raw}
use Rattle.raw_view.specs.Frame.Number.{max_length, IsLe32, le32}
use Rattle.raw_view.specs.declared.element_type.ElementType.{ElementType}
use Rattle.raw_view.specs.declared.element_type.ElementType.TheVariants as kind
use Rattle.raw_view.proofs.Face.{document_framed, the_walk, length-framed, leaf_shape, declared_shape, framed_is_envelope}
use Rattle.raw_tree.specs.Payload.{payload_of, IsRawInRange, IsValueNulFree}
use Rattle.raw_bson.specs.Append.{frame_bytes, appended_bytes, IsNulFreeElement, HasRoom, value_frame, EndsInShortScope, KeepsWalk}

-- lengths

-- the tag and the key's 0 are two bytes
pub length-frame_bytes : (f : Frame) → length (frame_bytes f) ≡ length f.key + (2 + length f.payload)
length-frame_bytes f = omega (arith, length-append f.key (0 ∷ f.payload))

-- all but five
pub length-inside : (b : List ℕ) → 5 ≤ length b → length (inside_of b) ≡ length b - 5
length-inside b five = length-take-le (length b - 5) (drop 4 b) (omega (arith, length-drop 4 b))

-- the new element is added
pub length-appended_bytes : (b : List ℕ) (f : Frame) → 5 ≤ length b → length (appended_bytes b f) ≡ length b + (length f.key + (2 + length f.payload))
length-appended_bytes b f five =
    omega (arith, length-framed (inside_of b ++ frame_bytes f), length-append (inside_of b) (frame_bytes f), length-inside b five, length-frame_bytes f)

-- the envelope

-- a document with one more element has its envelope
pub appended_is_envelope : (b : List ℕ) (f : Frame) → AreBytes (appended_bytes b f) → HasRoom b f → IsEnvelope (appended_bytes b f)
appended_is_envelope b f bytes room = framed_is_envelope (inside_of b ++ frame_bytes f) bytes (omega (arith, length-framed (inside_of b ++ frame_bytes f), room))

-- the shape of what is written

-- a written value
value_has_shape : (v : RawValue) (r : List ℕ) → IsRawInRange v → IsValueNulFree v → length (payload_of v) ≤ max_length → HasShape (kind_of_raw v) (payload_of v) r
value_has_shape (single leaf) r h n l = leaf_shape leaf r h n l
value_has_shape (document bytes) r h n l = h
value_has_shape (array bytes) r h n l = h
value_has_shape (scoped code scope) r h n l = declared_shape (string_payload code ++ scope) r (omega arith)

-- the frame of a value is one before any following bytes
pub value_stands : (key : List ℕ) (v : RawValue) → IsUtf8 key → IsNulFreeElement key v → IsRawInRange v → length (payload_of v) ≤ max_length → StandsAnywhere (value_frame key v)
value_stands key v text nul_free in_range l r = record {
  spelled = refl;
  key_nul_free = nul_free.0;
  key_utf8 = text;
  payload_is = value_has_shape v r in_range nul_free.1 l;
}

-- walks and their last byte

-- bytes after a frame and after what follows it
frame-append : (tag : ℕ) (key p r e : List ℕ) → (tag ∷ (key ++ 0 ∷ (p ++ r))) ++ e ≡ tag ∷ (key ++ 0 ∷ (p ++ (r ++ e)))
frame-append tag key p r e = simp append_assoc

-- bytes whose walk ends at a final 0 end in 0
last_of_walk : (s : List ℕ) (frames : List Frame) → IsWalk s frames Done → (t : List ℕ) × (s ≡ t ++ 0 ∷ [])
last_of_walk s [] w = ([], w)
last_of_walk s (f ∷ frames) w =
    let rest = last_of_walk w.0 frames w.2 in
    let spelled : s ≡ tag_of f.kind ∷ (f.key ++ 0 ∷ (f.payload ++ (rest.0 ++ 0 ∷ []))) = w.1.spelled ∙ ap (λ x. tag_of f.kind ∷ (f.key ++ 0 ∷ (f.payload ++ x))) rest.1 in
    (tag_of f.kind ∷ (f.key ++ 0 ∷ (f.payload ++ rest.0)), spelled ∙ sym (frame-append (tag_of f.kind) f.key f.payload rest.0 (0 ∷ [])))

-- codes with scope, whose shape depends on what follows them

-- no kind has tag 0, kind by kind
tag_of-above : (k : ElementType) → 0 < tag_of k
tag_of-above kind.Double = omega arith
tag_of-above _ = omega arith

-- the byte of a number at its own place is 0
le32-at_itself : (n : ℕ) → n ≤ 3 → get_or (le32 (pos n)) n 0 ≡ 0
le32-at_itself zero l = refl
le32-at_itself (suc zero) l = refl
le32-at_itself (suc (suc zero)) l = refl
le32-at_itself (suc (suc (suc zero))) l = refl
le32-at_itself (suc (suc (suc (suc n)))) l = absurd (omega arith)

-- No frame follows a payload that ends inside its own length bytes: the tag of the frame would be one of these bytes, and that byte is 0.
no_frame_in_length : (p s r : List ℕ) (f : Frame) → length p ≤ 3 → IsFrame s f r → HasDeclaredLength p s → ⊥
no_frame_in_length p s r f short b d =
    let tag : get_or (p ++ s) (length p) 0 ≡ tag_of f.kind = ap (λ (x : List ℕ). get_or (p ++ x) (length p) 0) b.spelled ∙ get_or_at p (tag_of f.kind) _ 0 (length p) refl in
    let front : get_or (take 4 (p ++ s)) (length p) 0 ≡ get_or (p ++ s) (length p) 0 = get_or-take 4 (p ++ s) (length p) 0 (omega arith) in
    let byte : get_or (take 4 (p ++ s)) (length p) 0 ≡ 0 = ap (λ (x : List ℕ). get_or x (length p) 0) d.header.bytes_are ∙ le32-at_itself (length p) short in
    omega (arith, tag_of-above f.kind)

-- the length bytes are before the final 0, unless the payload is the last and has three bytes
length_before_end : (p m : List ℕ) (frames : List Frame) → IsWalk (m ++ 0 ∷ []) frames Done → (frames ≡ [] → length p ≢ 3) → HasDeclaredLength p (m ++ 0 ∷ []) → 4 ≤ length (p ++ m)
length_before_end p m [] w other d =
    let long : length p ≢ 3 = other refl in
    omega (arith, d.enough, ap length w, length-append p (m ++ 0 ∷ []), length-append m (0 ∷ []), length-append p m)
length_before_end p m (f ∷ frames) w other d =
    elim (cases_lt 3 (length p)) [
      | inl long ↦ omega (arith, length-append p m)
      | inr short ↦ absurd (no_frame_in_length p (m ++ 0 ∷ []) w.0 f short w.1 d)
    ]

-- the declared length is the same if bytes after the length bytes change
declared_on : (p m x y : List ℕ) → 4 ≤ length (p ++ m) → HasDeclaredLength p (m ++ x) → HasDeclaredLength p (m ++ y)
declared_on p m x y four d =
    let before : take 4 (p ++ (m ++ x)) ≡ take 4 (p ++ m) = ap (take 4) (sym (append_assoc p m x)) ∙ take-append-le 4 (p ++ m) x four in
    let after : take 4 (p ++ (m ++ y)) ≡ take 4 (p ++ m) = ap (take 4) (sym (append_assoc p m y)) ∙ take-append-le 4 (p ++ m) y four in
    record {
      enough = omega (arith, ap length (append_assoc p m y), length-append (p ++ m) y);
      header = subst (λ (z : List ℕ). IsLe32 z (pos (length p))) (before ∙ sym after) d.header;
    }

-- every shape but that of a code with scope is the same before other bytes
shape_on : (k : ElementType) (p r t : List ℕ) → (k ≡ kind.JavaScriptCodeWithScope → HasDeclaredLength p r → HasDeclaredLength p t) → HasShape k p r → HasShape k p t
shape_on kind.JavaScriptCodeWithScope p r t on h = on refl h
shape_on _ p r t on h = h

-- bytes in place of the final 0

-- a frame stays a frame, and these bytes follow it
frame_on : (m t e : List ℕ) (f : Frame) (frames : List Frame) → IsFrame (m ++ 0 ∷ []) f (t ++ 0 ∷ []) → IsWalk (t ++ 0 ∷ []) frames Done → ¬ EndsInShortScope (f ∷ frames) → IsFrame (m ++ e) f (t ++ e)
frame_on m t e f frames b w none =
    let front : m ≡ tag_of f.kind ∷ (f.key ++ 0 ∷ (f.payload ++ t)) = (same_from_push m _ 0 0 (b.spelled ∙ sym (frame-append (tag_of f.kind) f.key f.payload t (0 ∷ [])))).0 in
    let other : f.kind ≡ kind.JavaScriptCodeWithScope → frames ≡ [] → length f.payload ≢ 3 = λ scoped last three. none ([], f, ap (λ x. f ∷ x) last, (scoped, omega (arith, three))) in
    let declared : f.kind ≡ kind.JavaScriptCodeWithScope → HasDeclaredLength f.payload (t ++ 0 ∷ []) → HasDeclaredLength f.payload (t ++ e) =
    λ scoped d. declared_on f.payload t (0 ∷ []) e (length_before_end f.payload t frames w (other scoped) d) d in
    record {
      spelled = ap (λ x. x ++ e) front ∙ frame-append (tag_of f.kind) f.key f.payload t e;
      key_nul_free = b.key_nul_free;
      key_utf8 = b.key_utf8;
      payload_is = shape_on f.kind f.payload (t ++ 0 ∷ []) (t ++ e) declared b.payload_is;
    }

-- a walk continues with the frame at their front, and a new final 0
walk_on : (m e : List ℕ) (frames : List Frame) (f : Frame) → IsFrame e f (0 ∷ []) → IsWalk (m ++ 0 ∷ []) frames Done → ¬ EndsInShortScope frames → IsWalk (m ++ e) (frames ++ f ∷ []) Done
walk_on m e [] f b w none =
    let empty : m ≡ [] = (same_from_push m [] 0 0 w).0 in
    (0 ∷ [], subst (λ (x : List ℕ). IsFrame (x ++ e) f (0 ∷ [])) (sym empty) b, refl)
walk_on m e (g ∷ frames) f b w none =
    let rest = last_of_walk w.0 frames w.2 in
    let here : IsFrame (m ++ 0 ∷ []) g (rest.0 ++ 0 ∷ []) = subst (λ (x : List ℕ). IsFrame (m ++ 0 ∷ []) g x) rest.1 w.1 in
    let behind : IsWalk (rest.0 ++ 0 ∷ []) frames Done = subst (λ (x : List ℕ). IsWalk x frames Done) rest.1 w.2 in
    let others : ¬ EndsInShortScope frames = λ short. none (g ∷ short.0, short.1, ap (λ x. g ∷ x) short.2, short.3) in
    (rest.0 ++ e, frame_on m rest.0 e g frames here behind none, walk_on rest.0 e frames f b behind others)

-- the append

-- what follows the length of a document is its inside and a 0
inside_and_end : (b : List ℕ) → IsEnvelope b → drop 4 b ≡ inside_of b ++ 0 ∷ []
inside_and_end b envelope = ap (drop 4) (document_framed b envelope)

-- the final 0 follows the new element
stands_last : (f : Frame) → StandsAnywhere f → IsFrame (frame_bytes f ++ 0 ∷ []) f (0 ∷ [])
stands_last f stands = subst (λ (x : List ℕ). IsFrame (tag_of f.kind ∷ x) f (0 ∷ [])) (sym (append_assoc f.key (0 ∷ f.payload) (0 ∷ []))) (stands (0 ∷ []))

-- the walk of the old content continues with the new element
pub keeps_walk : (b : List ℕ) (f : Frame) → IsEnvelope b → StandsAnywhere f → KeepsWalk b f (appended_bytes b f)
keeps_walk b f envelope stands frames w none =
    let old : IsWalk (inside_of b ++ 0 ∷ []) frames Done = subst (λ (x : List ℕ). IsWalk x frames Done) (inside_and_end b envelope) w in
    let after : inside_of b ++ (frame_bytes f ++ 0 ∷ []) ≡ drop 4 (appended_bytes b f) = sym (append_assoc (inside_of b) (frame_bytes f) (0 ∷ [])) in
    let on : IsWalk (drop 4 (appended_bytes b f)) (frames ++ f ∷ []) Done =
    subst (λ (x : List ℕ). IsWalk x (frames ++ f ∷ []) Done) after
    (walk_on (inside_of b) (frame_bytes f ++ 0 ∷ []) frames f (stands_last f stands) old none) in
    the_walk (drop 4 (appended_bytes b f)) (frames ++ f ∷ []) Done on
