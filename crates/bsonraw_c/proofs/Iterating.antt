-- Where an element is in the caller's bytes, from what is left of its document.
use Rattle.std.proofs.Common.{◌≡◌, ◌≢◌, ◌<◌, ◌≤◌, ◌+◌, ◌-◌, ◌^◌, ℕ, ℤ, pos, List, [], ◌∷◌, ◌++◌, length, take, drop, ap, sym, ◌∙◌, refl, arith, append_assoc, length-append, Option, None, Some, subst, w32, of_z, to_z}
use Rattle.std.proofs.lemmas.List.{length-drop, take_at, drop_at}
use Rattle.std.proofs.lemmas.Int.{to_z-of_z}
use Rattle.std.specs.Int.Signed.{mag}
use Rattle.std.specs.Option.{option_copied}
use Rattle.raw_bson.specs.Envelope.{IsEnvelope}
use Rattle.raw_bson.specs.ErrorKind.{ErrorKind}
use Rattle.raw_bson.specs.ErrorKind.TheVariants as kind
use Rattle.raw_bson.specs.Frame.{Frame, IsFrame, Fault, Malformed, Utf8, IsStop, HasKey}
use Rattle.raw_bson.specs.Kind.{tag_of}
use Rattle.raw_view.specs.Frame.Front.{StopsWith}
use Rattle.raw_view.specs.declared.error.BorrowedError.{BorrowedError}
use Rattle.bsonraw_c.specs.Codes.{SaysKind}
use Rattle.bsonraw_c.specs.Iters.{GoesThrough, IsAstray, IsAtFrame, IsAtStop, IsKeyAt, IsShortKey, IsWorkedOut, StopsAtFault, place_of_none}
use Rattle.bsonraw_c.specs.Places.{StandsAt}
use Rattle.bsonraw_c.specs.declared.iter.Iter.{Iter}
use Rattle.raw_view.proofs.Face.{stop_key}
use Rattle.bsonraw_c.proofs.Placing.{frame_within, left_behind, stands_behind, stop_told}

-- a number, as it crosses to C
pub crossed : (z w : ℤ) → z ≡ w → to_z w32 (of_z w32 z) ≡ to_z w32 (of_z w32 w)
crossed z w e = ap (λ (x : ℤ). to_z w32 (of_z w32 x)) e

-- and back
pub crosses : (z : ℤ) → mag z < 2147483648 → to_z w32 (of_z w32 z) ≡ z
crosses z small = to_z-of_z w32 z (record { sfits = small })

-- a number that is 0 as it crosses, or isn't
pub is_zero : (z : ℤ) → mag z < 2147483648 → of_z w32 z ≡ 0 → z ≡ pos 0
is_zero z small e = sym (crosses z small) ∙ ap (to_z w32) e

pub is_not_zero : (z : ℤ) → mag z < 2147483648 → (of_z w32 z ≡ 0 → ⊥) → to_z w32 (of_z w32 z) ≢ pos 0
is_not_zero z small other e = other (ap (of_z w32) (sym (crosses z small) ∙ e))

-- what is in a part of the bytes is in them
pub stands_inside : (b d x : List ℕ) (at len offset size : ℕ) → StandsAt b at len d → StandsAt d offset size x → StandsAt b (at + offset) size x
stands_inside b d x at len offset size s t = record {
  before = s.before ++ t.before;
  behind = t.behind ++ s.behind;
  whole = s.whole ∙ (ap (λ (y : List ℕ). s.before ++ (y ++ s.behind)) t.whole
      ∙ (ap (λ (y : List ℕ). s.before ++ y) (append_assoc t.before (x ++ t.behind) s.behind
      ∙ ap (λ (y : List ℕ). t.before ++ y) (append_assoc x t.behind s.behind)) ∙ sym (append_assoc s.before t.before (x ++ (t.behind ++ s.behind)))));
  offset_is = omega (arith, s.offset_is, t.offset_is, length-append s.before t.before);
  len_is = t.len_is;
}

-- and by a place that is worked out
stands_there : (b d x : List ℕ) (at len offset size place : ℕ) → StandsAt b at len d → StandsAt d offset size x → place ≡ at + offset → StandsAt b place size x
stands_there b d x at len offset size place s t is = subst (λ (n : ℕ). StandsAt b n size x) (sym is) (stands_inside b d x at len offset size s t)

-- the rest of a document at an offset of the bytes
module _ {b d : List ℕ} {at len offset : ℕ} (stands : StandsAt b at len d) (begun : at ≤ offset) (within : offset ≤ at + len) where
  private_within : offset - at ≤ length d
  private_within = omega (arith, begun, within, stands.len_is)

  -- the iterator is at the frame that is there
  pub placed_in : (f : Frame) (r : List ℕ) (it : Iter) → IsFrame (drop (offset - at) d) f r → IsWorkedOut offset f it → IsAtFrame b offset f it
  placed_in f r it frame out = record {
    tag = out.tag;
    key = stands_there b d f.key at len (offset - at + 1) it.key_len it.key_at stands
        (stands_behind d (offset - at) (offset - at + 1) it.key_len (tag_of f.kind ∷ []) f.key (0 ∷ (f.payload ++ r)) private_within frame.spelled refl out.key_len)
        (omega (arith, out.key_at, begun));
    payload = stands_there b d f.payload at len (offset - at + (2 + length f.key)) it.payload_len it.payload_at stands
        (stands_behind d (offset - at) (offset - at + (2 + length f.key)) it.payload_len (tag_of f.kind ∷ (f.key ++ 0 ∷ [])) f.payload r private_within
        (frame.spelled ∙ ap (λ (x : List ℕ). tag_of f.kind ∷ x) (sym (append_assoc f.key (0 ∷ []) (f.payload ++ r))))
        (omega (arith, length-append f.key (0 ∷ []))) out.payload_len)
        (omega (arith, out.payload_at, begun));
    key_begins = out.key_at;
    payload_begins = omega (arith, out.payload_at, out.key_at, out.key_len);
    ends = omega (arith, out.next, out.payload_at, out.payload_len);
  }

  -- the frame ends where its document ends, or before
  pub ends_within : (f : Frame) (r : List ℕ) → IsFrame (drop (offset - at) d) f r → offset + (2 + (length f.key + length f.payload)) ≤ at + len
  ends_within f r frame = omega (arith, begun, stands.len_is, frame_within d (offset - at) f r private_within frame)

  -- and after it is left what is left after the frame
  pub left_in : (f : Frame) (r : List ℕ) (next : ℕ) → IsFrame (drop (offset - at) d) f r → next ≡ offset + (2 + (length f.key + length f.payload)) → drop (next - at) d ≡ r
  left_in f r next frame is = left_behind d (offset - at) (next - at) f r private_within frame (omega (arith, is, begun))

  key_ends : (key : List ℕ) → HasKey (drop (offset - at) d) key → offset + (1 + length key) ≤ at + len
  key_ends key k = omega (arith, begun, within, stands.len_is, ap length k.spelled, length-append key (0 ∷ k.behind), length-drop (offset - at) d)

  -- the key of a stop ends there, too
  pub key_within : (fault : Fault) (key : Option (List ℕ)) → at + len < 2 ^ 32 → IsStop (drop (offset - at) d) fault key → IsShortKey offset key
  key_within fault None small stop = tt
  key_within fault (Some key) small stop = omega (arith, small, key_ends key (stop_key (drop (offset - at) d) fault key stop))

  key_in : (key : List ℕ) (it : Iter) → HasKey (drop (offset - at) d) key → it.key_at ≡ offset + 1 → it.key_len ≡ length key → StandsAt b it.key_at it.key_len key
  key_in key it k at_is len_is = stands_there b d key at len (offset - at + 1) it.key_len it.key_at stands
      (stands_behind d (offset - at) (offset - at + 1) it.key_len (k.tag ∷ []) key (0 ∷ k.behind) private_within k.spelled refl len_is)
      (omega (arith, at_is, begun))

  -- the iterator says where the key of the stop is
  pub stopped_in : (fault : Fault) (key : Option (List ℕ)) (it : Iter) → IsStop (drop (offset - at) d) fault key → IsKeyAt (place_of_none b) offset key it → IsAtStop b offset key it
  stopped_in fault None it stop out = out
  stopped_in fault (Some key) it stop out = (out.0, out.1, key_in key it (stop_key (drop (offset - at) d) fault key stop) out.1 out.2, out.3, out.4)

  -- what a stop says
  pub fault_in : (stop : BorrowedError) (it : Iter) → StopsWith stop.kind (option_copied stop.key) (drop (offset - at) d)
      → IsKeyAt (place_of_none b) offset (option_copied stop.key) it → it.next ≡ offset → SaysKind stop.kind it.fault.why → it.fault.offset ≡ offset
      → StopsAtFault b (drop (offset - at) d) offset it
  fault_in stop it stops out next why offset_is =
      let told = stop_told stop.kind (option_copied stop.key) (drop (offset - at) d) it.fault.why stop.reading stops why in
      (told.0, option_copied stop.key, told.1, stopped_in told.0 (option_copied stop.key) it told.1 out, next, told.2, offset_is)

  stop_short : (k : ErrorKind) (key : Option (List ℕ)) → at + len < 2 ^ 32 → StopsWith k key (drop (offset - at) d) → IsShortKey offset key
  stop_short (kind.MalformedValue r) key small stops = key_within (Malformed r) key small stops
  stop_short (kind.Utf8EncodingError u) key small stops = key_within Utf8 key small stops
  stop_short kind.OutOfMemory key small stops = absurd stops

  pub short_stop : (stop : BorrowedError) → at + len < 2 ^ 32 → StopsWith stop.kind (option_copied stop.key) (drop (offset - at) d) → IsShortKey offset (option_copied stop.key)
  short_stop stop small stops = stop_short stop.kind (option_copied stop.key) small stops

-- what is left of the document that an iterator goes through
module _ (b d s : List ℕ) (it : Iter) (g : GoesThrough b it d s) where
  behind_begin : it.document_at ≤ it.next
  behind_begin = omega (arith, g.begun)

  frame_left : (f : Frame) (r : List ℕ) → IsFrame s f r → IsFrame (drop (it.next - it.document_at) d) f r
  frame_left f r frame = subst (λ (x : List ℕ). IsFrame x f r) g.left frame

  -- the frame there
  pub placed : (f : Frame) (r : List ℕ) (new : Iter) → IsFrame s f r → IsWorkedOut it.next f new → IsAtFrame b it.next f new
  placed f r new frame out = placed_in g.stands behind_begin g.within f r new (frame_left f r frame) out

  ends : (f : Frame) (r : List ℕ) → IsFrame s f r → it.next + (2 + (length f.key + length f.payload)) ≤ it.document_at + it.document_len
  ends f r frame = ends_within g.stands behind_begin g.within f r (frame_left f r frame)

  -- it ends below 2 ^ 32
  pub few : (f : Frame) (r : List ℕ) → IsFrame s f r → it.next + (2 + (length f.key + length f.payload)) < 2 ^ 32
  few f r frame = omega (arith, g.small, ends f r frame)

  -- after it is left what is left
  pub goes_on : (f : Frame) (r : List ℕ) (next : ℕ) → IsFrame s f r → next ≡ it.next + (2 + (length f.key + length f.payload)) → GoesThrough b (record it { next = next }) d r
  goes_on f r next frame is = record {
    small = g.small;
    stands = g.stands;
    envelope = g.envelope;
    begun = omega (arith, g.begun, is);
    within = omega (arith, is, ends f r frame);
    left = sym (left_in g.stands behind_begin g.within f r next (frame_left f r frame) is);
  }

  stop_left : (k : ErrorKind) (key : Option (List ℕ)) → StopsWith k key s → StopsWith k key (drop (it.next - it.document_at) d)
  stop_left k key stops = subst (λ (x : List ℕ). StopsWith k key x) g.left stops

  -- the key of the stop there
  pub short : (stop : BorrowedError) → StopsWith stop.kind (option_copied stop.key) s → IsShortKey it.next (option_copied stop.key)
  short stop stops = short_stop g.stands behind_begin g.within stop g.small (stop_left stop.kind (option_copied stop.key) stops)

  -- the stop there
  pub faulted : (stop : BorrowedError) (new : Iter) → StopsWith stop.kind (option_copied stop.key) s
      → IsKeyAt (place_of_none b) it.next (option_copied stop.key) new → new.next ≡ it.next → SaysKind stop.kind new.fault.why → new.fault.offset ≡ it.next
      → StopsAtFault b s it.next new
  faulted stop new stops out next why offset_is = subst (λ (x : List ℕ). StopsAtFault b x it.next new) (sym g.left)
      (fault_in g.stands behind_begin g.within stop new
      (stop_left stop.kind (option_copied stop.key) stops) out next why offset_is)

-- lists with fronts of one length have one front and one rest
same_front : (p q r t : List ℕ) → length p ≡ length q → p ++ r ≡ q ++ t → (p ≡ q) × (r ≡ t)
same_front p q r t n e = (
  sym (take_at p r (length q) n) ∙ ap (take (length q)) e ∙ take_at q t (length q) refl,
  sym (drop_at p r (length q) n) ∙ ap (drop (length q)) e ∙ drop_at q t (length q) refl,
)

-- the `len` bytes at an offset are one list alone
pub stands_same : (b d e : List ℕ) (at len : ℕ) → StandsAt b at len d → StandsAt b at len e → d ≡ e
stands_same b d e at len s t =
    let seam : s.before ++ (d ++ s.behind) ≡ t.before ++ (e ++ t.behind) = sym s.whole ∙ t.whole in
    let fronts : length s.before ≡ length t.before = sym s.offset_is ∙ t.offset_is in
    let rests : d ++ s.behind ≡ e ++ t.behind = (same_front s.before t.before (d ++ s.behind) (e ++ t.behind) fronts seam).1 in
    (same_front d e s.behind t.behind (sym s.len_is ∙ t.len_is) rests).0

-- an iterator is astray where no document is
pub no_document : (b : List ℕ) (it : Iter) → ((d : List ℕ) → StandsAt b it.document_at it.document_len d → ¬ IsEnvelope d) → IsAstray b it
no_document b it none d s g = none d g.stands g.envelope
