-- The element that an iterator is at, and the parts of its value in the caller's bytes.
use Rattle.std.proofs.Common.{◌≡◌, ◌<◌, ◌+◌, ◌-◌, ◌^◌, ℕ, List, [], ◌∷◌, length, drop, ap, sym, ◌∙◌, refl, arith, Option, subst}
use Rattle.raw_bson.specs.ErrorKind.{ErrorKind}
use Rattle.raw_bson.specs.ErrorKind.TheVariants as kind
use Rattle.raw_bson.specs.Frame.{Frame, IsFrame, Malformed, Utf8}
use Rattle.raw_bson.specs.Kind.{tag_of}
use Rattle.raw_view.proofs.Face.{no_frame_at_final, no_frame_at_stop}
use Rattle.raw_view.specs.Frame.Front.{StopsWith}
use Rattle.bsonraw_c.specs.Iters.{GoesThrough}
use Rattle.bsonraw_c.specs.Places.{StandsAt}
use Rattle.bsonraw_c.specs.Values.{HasPart, HasParts, IsOn}
use Rattle.bsonraw_c.specs.declared.iter.Iter.{Iter}
use Rattle.bsonraw_c.specs.declared.value.Value.{Value}
use Rattle.bsonraw_c.proofs.Iterating.{few, placed, stands_same}

-- one list alone is left
pub one_left : (b d s e t : List ℕ) (it : Iter) → GoesThrough b it d s → GoesThrough b it e t → s ≡ t
one_left b d s e t it g h = g.left ∙ (ap (drop (it.next - it.document_at)) (stands_same b d e it.document_at it.document_len g.stands h.stands) ∙ sym h.left)

-- the iterator is on no frame, where the document ends, or stops
pub on_none : (b d s : List ℕ) (it : Iter) → GoesThrough b (record it { next = it.key_at - 1 }) d s → s ≡ 0 ∷ [] → (f : Frame) → ¬ IsOn b it f
on_none b d s it g final f on = no_frame_at_final s final f on.r (subst (λ (x : List ℕ). IsFrame x f on.r) (one_left b on.d on.s d s (record it { next = it.key_at - 1 }) on.there g) on.stands)

no_frame : (s : List ℕ) (k : ErrorKind) (key : Option (List ℕ)) (f : Frame) (r : List ℕ) → StopsWith k key s → ¬ IsFrame s f r
no_frame s (kind.MalformedValue x) key f r stops frame = no_frame_at_stop s (Malformed x) key stops f r frame
no_frame s (kind.Utf8EncodingError x) key f r stops frame = no_frame_at_stop s Utf8 key stops f r frame
no_frame s kind.OutOfMemory key f r stops frame = stops

pub on_stop : (b d s : List ℕ) (it : Iter) → GoesThrough b (record it { next = it.key_at - 1 }) d s → (k : ErrorKind) (key : Option (List ℕ)) → StopsWith k key s → (f : Frame) → ¬ IsOn b it f
on_stop b d s it g k key stops f on = no_frame s k key f on.r stops (subst (λ (x : List ℕ). IsFrame x f on.r) (one_left b on.d on.s d s (record it { next = it.key_at - 1 }) on.there g) on.stands)

-- the payload of the frame that the iterator is on
module _ (b : List ℕ) (it : Iter) (f : Frame) (on : IsOn b it f) where
  abbrev here : Iter
  here = record it { next = it.key_at - 1 }

  -- it ends below 2 ^ 32
  pub on_few : it.key_at + (1 + (length f.key + length f.payload)) < 2 ^ 32
  on_few = omega (arith, on.begun, few b on.d on.s here on.there f on.r on.stands)

  -- it is there
  pub on_payload : (at : ℕ) → at ≡ it.key_at + length f.key + 1 → StandsAt b at (length f.payload) f.payload
  on_payload at is =
      let there : Iter = record it {
        tag = tag_of f.kind;
        key_at = it.key_at - 1 + 1;
        key_len = length f.key;
        payload_at = at;
        payload_len = length f.payload;
        next = it.key_at - 1 + (2 + (length f.key + length f.payload));
      } in
      (placed b on.d on.s here on.there f on.r there on.stands
      (record { tag = refl; key_at = refl; key_len = refl; payload_at = omega (arith, is, on.begun); payload_len = refl; next = refl })).payload

-- a part of a value, at a place that is worked out
pub record IsPartAt (b text : List ℕ) (at place size : ℕ) : Type 0 where
  pub there : StandsAt b at (length text) text
  pub place_is : place ≡ at
  pub size_is : size ≡ length text

-- a value with one part, and with two
module _ {b : List ℕ} {none old : Value} (x : Value) (kept : old ≡ none) {text : List ℕ} {at place size : ℕ} (part : IsPartAt b text at place size) where
  at_place : (y : Value) → y ≡ record old { text_at = place; text_len = size } → y ≡ record none { text_at = at; text_len = length text }
  at_place y is = is ∙ (ap (λ (n : Value). record n { text_at = place; text_len = size }) kept
      ∙ (ap (λ (n : ℕ). record none { text_at = n; text_len = size }) part.place_is ∙ ap (λ (n : ℕ). record none { text_at = at; text_len = n }) part.size_is))

  pub says_part : x ≡ record old { text_at = place; text_len = size } → HasPart b none at text x
  says_part is = (part.there, at_place x is)

  pub says_binary : (middle : Value) (byte used : ℕ) → used ≡ byte → middle ≡ record old { text_at = place; text_len = size }
      → x ≡ record middle { subtype = used } → HasPart b (record none { subtype = byte }) at text x
  says_binary middle byte used same first is = (
    part.there,
    is ∙ (ap (λ (n : Value). record n { subtype = used }) (at_place middle first)
        ∙ ap (λ (m : ℕ). record none { subtype = m; text_at = at; text_len = length text }) same),
  )

  pub says_parts : (middle : Value) {more : List ℕ} {behind begin room : ℕ} → IsPartAt b more behind begin room
      → middle ≡ record old { text_at = place; text_len = size } → x ≡ record middle { more_at = begin; more_len = room }
      → HasParts b none at text behind more x
  says_parts middle {more} {behind} {begin} {room} also first is = (
    part.there,
    also.there,
    is ∙ (ap (λ (n : Value). record n { more_at = begin; more_len = room }) (at_place middle first)
        ∙ (ap (λ (n : ℕ). record none { text_at = at; text_len = length text; more_at = n; more_len = room }) also.place_is
        ∙ ap (λ (n : ℕ). record none { text_at = at; text_len = length text; more_at = behind; more_len = n }) also.size_is)),
  )
