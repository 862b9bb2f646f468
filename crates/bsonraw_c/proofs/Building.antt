-- What the calls of a builder leave, where it held elements.
use Rattle.std.proofs.Common.{◌≡◌, ◌≤◌, ◌+◌, ◌-◌, inl, inr, ℕ, ℤ, pos, Some, List, [], ◌∷◌, ◌++◌, length, take, drop, ap, sym, ◌∙◌, refl, subst, arith, append_assoc, length-append}
use Rattle.std.proofs.lemmas.List.{append-nil, drop_at, drop-take, length-take-le, take_at, take-take}
use Rattle.std.proofs.Math.Seq.{take-append-add}
use Rattle.std.specs.Int.Signed.{mag}
use Rattle.raw_bson.specs.Append.{frame_bytes}
use Rattle.raw_bson.specs.Bytes.{AreBytes}
use Rattle.raw_bson.specs.ElementType.{ElementType}
use Rattle.raw_bson.specs.Format.{framed}
use Rattle.raw_bson.specs.Frame.{Frame}
use Rattle.raw_bson.specs.Kind.{tag_of}
use Rattle.raw_bson.specs.Envelope.{IsEnvelope}
use Rattle.raw_bson.specs.Number.{le32, max_length}
use Rattle.raw_view.proofs.Face.{framed_is_envelope}
use Rattle.bsonraw_c.specs.Build.{Adds, Appends, AppendsElement, AreParts, ClosesLevel, Declines, EndsLevel, HoldsElements, HoldsEnded, HoldsLevel, HoldsMore, IsCText, IsElement, IsElementOf, IsOpen, IsReadElement, OpensLevel, RefusesElement, RefusesParts, elements, ended, head_of, key_in, laid_out, layout_of, level_of, opened, put_bytes}
use Rattle.bsonraw_c.specs.BuildParts.{AddsUnder}
use Rattle.bsonraw_c.specs.Codes.{status_code}
use Rattle.bsonraw_c.specs.Numbers.{AppendsNumber, IsReadNumber, lowest, number_size}
use Rattle.bsonraw_c.specs.Values.{IsOn}
use Rattle.bsonraw_c.specs.declared.build.Builder.{Builder}
use Rattle.bsonraw_c.specs.declared.build_parts.Layout.{Layout}
use Rattle.bsonraw_c.specs.declared.build_parts.Layout.TheVariants as layout
use Rattle.bsonraw_c.specs.declared.codes.Status.{Status}
use Rattle.bsonraw_c.specs.declared.codes.Status.TheVariants as status
use Rattle.bsonraw_c.specs.declared.iter.Iter.{Iter}
use Rattle.bsonraw_c.proofs.BuildReads.{back_bytes, cases_le, copy_read, element_read, level_read, take_bytes}
use Rattle.bsonraw_c.proofs.Putting.{length-put_bytes, opened as put_opened, take-put_bytes}

-- a builder that says a status isn't well
pub isnt_well : (n : ℕ) (new b : Builder) → new ≡ record b { status = pos n } → new.status ≡ pos 0 → n ≡ 0
isnt_well n new b e ok = ap (λ (z : ℤ). mag z) (sym (ap (λ (x : Builder). x.status) e) ∙ ok)

-- nor is one that declines
declines_none : (old new : Builder) (before after : List ℕ) → Declines old new before after → old.status ≡ pos 0 → new.status ≡ pos 0 → ⊥
declines_none old new before after (inl sticks) well ok = sticks.0 (inl well)
declines_none old new before after (inr bad) well ok = omega (arith, isnt_well 9 new old bad.2.1 ok)

-- one element more
pub elements_more : (fs : List Frame) (f : Frame) → elements (fs ++ f ∷ []) ≡ elements fs ++ frame_bytes f
elements_more [] f = append-nil (frame_bytes f)
elements_more (g ∷ fs) f = ap (λ (x : List ℕ). frame_bytes g ++ x) (elements_more fs f) ∙ sym (append_assoc (frame_bytes g) (elements fs) (frame_bytes f))

-- a level that takes an element, as an equation of what the room begins with
pub holds_next : (f : Frame) {old : Builder} (new : Builder) {before : List ℕ} (after : List ℕ) {front : List ℕ} {fs : List Frame} → HoldsElements old before front fs → new.status ≡ pos 0
    → new.begins ≡ old.begins → new.count ≡ old.count + 1 → new.len ≡ old.len + length (frame_bytes f)
    → take new.len after ≡ (front ++ elements fs) ++ frame_bytes f → HoldsElements new after front (fs ++ f ∷ [])
holds_next f {old} new after {front} {fs} h ok begins count len taken =
    let more = elements_more fs f in
    record {
      well = ok;
      begins = omega (arith, h.begins, begins);
      len = omega (arith, len, h.len, ap length more, length-append (elements fs) (frame_bytes f));
      count = omega (arith, count, h.count, length-append fs (f ∷ []));
      taken = taken ∙ append_assoc front (elements fs) (frame_bytes f) ∙ ap (λ (x : List ℕ). front ++ x) (sym more);
    }

-- an element that was put is held
pub holds_more : (f : Frame) (old new : Builder) (before after front : List ℕ) (fs : List Frame) → HoldsElements old before front fs → Adds f old new before after
    → new.status ≡ pos 0 → HoldsElements new after front (fs ++ f ∷ [])
holds_more f old new before after front fs h (inl long) ok = absurd (omega (arith, isnt_well 7 new old long.1.1 ok))
holds_more f old new before after front fs h (inr (inl small)) ok = absurd (omega (arith, isnt_well 8 new (record old { len = old.len + length (frame_bytes f); count = old.count + 1 }) small.2.1 ok))
holds_more f old new before after front fs h (inr (inr put)) ok =
    let len : new.len ≡ old.len + length (frame_bytes f) = ap (λ (b : Builder). b.len) put.3 in
    holds_next f new after h ok (ap (λ (b : Builder). b.begins) put.3) (ap (λ (b : Builder). b.count) put.3) len
    (ap (λ (r : List ℕ). take new.len r) put.2
    ∙ take-put_bytes old.len new.len (frame_bytes f) before len put.1
    ∙ ap (λ (x : List ℕ). x ++ frame_bytes f) h.taken)

-- a level that was begun is held, without elements
pub holds_level : (k : ElementType) (key : List ℕ) (tag : ℕ) {old : Builder} (one new : Builder) {before : List ℕ} (after : List ℕ) {front : List ℕ} {fs : List Frame}
    → HoldsElements old before front fs → Adds (head_of k key) old one before after → new ≡ opened tag one → new.status ≡ pos 0
    → HoldsElements new after ((front ++ elements fs) ++ frame_bytes (head_of k key)) []
holds_level k key tag {old} one new {before} after {front} {fs} h adds is ok =
    let head = head_of k key in
    let well : one.status ≡ pos 0 = sym (ap (λ (b : Builder). b.status) is) ∙ ok in
    let held = holds_more head old one before after front fs h adds well in
    let more = elements_more fs head in
    let whole : front ++ elements (fs ++ head ∷ []) ≡ (front ++ elements fs) ++ frame_bytes head = ap (λ (x : List ℕ). front ++ x) more ∙ sym (append_assoc front (elements fs) (frame_bytes head)) in
    let len : new.len ≡ one.len = ap (λ (b : Builder). b.len) is in
    let size : length ((front ++ elements fs) ++ frame_bytes head) ≡ one.len = omega (arith, held.len, ap length whole, length-append front (elements (fs ++ head ∷ []))) in
    let big : 4 ≤ length (frame_bytes head) = omega (arith, length-append key (0 ∷ 0 ∷ 0 ∷ 0 ∷ 0 ∷ [])) in
    record {
      well = ok;
      begins = omega (arith, size, big, ap (λ (b : Builder). b.begins) is, length-append (front ++ elements fs) (frame_bytes head));
      len = omega (arith, size, len);
      count = ap (λ (b : Builder). b.count) is;
      taken = ap (λ (n : ℕ). take n after) len ∙ held.taken ∙ whole ∙ sym (append-nil ((front ++ elements fs) ++ frame_bytes head));
    }

-- and is no longer than a document
adds_few : (f : Frame) (old new : Builder) (before after : List ℕ) → Adds f old new before after → new.status ≡ pos 0 → length (frame_bytes f) ≤ max_length
adds_few f old new before after (inl long) ok = absurd (omega (arith, isnt_well 7 new old long.1.1 ok))
adds_few f old new before after (inr (inl small)) ok = cases_le (length (frame_bytes f)) max_length (λ far. small.0 (inl (omega (arith, far))))
adds_few f old new before after (inr (inr put)) ok = cases_le (length (frame_bytes f)) max_length (λ far. put.0 (inl (omega (arith, far))))

-- the arguments of an append

-- the element that the arguments are
made : (k : ElementType) (key one two payload : List ℕ) (b : Builder) → AreParts (layout_of k) one two → payload ≡ laid_out (layout_of k) one two → IsCText (key_in b key)
    → IsElement b (tag_of k) key one two (record { kind = k; key = key_in b key; payload = payload })
made k key one two payload b good laid text = record { tag_is = refl; parts = good; key_is = refl; c_text = text; payload_is = laid }

-- parts that are good, as a kind with this layout wants them
pub appended : (k : ElementType) (l : Layout) (key one two : List ℕ) (old new : Builder) {before after : List ℕ} → IsOpen old → layout_of k ≡ l → AreParts l one two
    → AddsUnder key k (laid_out l one two) old new before after → Appends (tag_of k) key one two old new before after
appended k l key one two old new goes is good (inl bad) =
    inr (inl (goes, (status.Fault, inr (inr (k, refl, subst (λ (x : Layout). AreParts x one two) (sym is) good, bad.0, bad.1, refl)), bad.2)))
appended k l key one two old new goes is good (inr adds) =
    inr (inr (
      goes,
      (
        record { kind = k; key = key_in old key; payload = laid_out l one two },
        made k key one two (laid_out l one two) old (subst (λ (x : Layout). AreParts x one two) (sym is) good) (ap (λ (x : Layout). laid_out x one two) (sym is)) adds.0,
        adds.1,
      ),
    ))

-- parts that aren't
pub declined : (k : ElementType) (l : Layout) (key one two : List ℕ) (s : Status) (old new : Builder) {room : List ℕ} → IsOpen old → layout_of k ≡ l → RefusesParts l one two s
    → new ≡ record old { status = pos (status_code s) } → Appends (tag_of k) key one two old new room room
declined k l key one two s old new goes is bad e = inr (inl (goes, (s, inr (inl (k, refl, subst (λ (x : Layout). RefusesParts x one two s) (sym is) bad)), (refl, e))))

-- no refusal is a builder that is well
isnt_done : (s t : Status) → s ≡ t → status_code s ≡ 0 → status_code t ≡ 0
isnt_done s t e z = sym (ap status_code e) ∙ z

parts_not_done : (l : Layout) (one two : List ℕ) (s : Status) → RefusesParts l one two s → status_code s ≡ 0 → ⊥
parts_not_done (layout.Fixed n) one two s bad z = omega (arith, isnt_done s status.OtherKind bad.1 z)
parts_not_done layout.Flag one two s bad z = omega (arith, isnt_done s status.OtherKind bad.2 z)
parts_not_done layout.Text one two s bad z = omega (arith, isnt_done s status.Fault bad.1 z)
parts_not_done layout.Nested one two s bad z = omega (arith, isnt_done s status.NoDocument bad.1 z)
parts_not_done layout.Binary one two s bad z = omega (arith, isnt_done s status.OtherKind bad.1 z)
parts_not_done layout.Regex one two s bad z = omega (arith, isnt_done s status.Fault bad.1 z)
parts_not_done layout.Pointer one two s (inl bad) z = omega (arith, isnt_done s status.OtherKind bad.1 z)
parts_not_done layout.Pointer one two s (inr bad) z = omega (arith, isnt_done s status.Fault bad.2 z)
parts_not_done layout.Scoped one two s (inl bad) z = omega (arith, isnt_done s status.Fault bad.1 z)
parts_not_done layout.Scoped one two s (inr bad) z = omega (arith, isnt_done s status.NoDocument bad.2 z)

not_done : (b : Builder) (tag : ℕ) (key one two : List ℕ) (s : Status) → RefusesElement b tag key one two s → status_code s ≡ 0 → ⊥
not_done b tag key one two s (inl bad) z = omega (arith, isnt_done s status.OtherKind bad.1 z)
not_done b tag key one two s (inr (inl bad)) z = parts_not_done (layout_of bad.0) one two s bad.2 z
not_done b tag key one two s (inr (inr bad)) z = omega (arith, isnt_done s status.Fault bad.5 z)

pub holds_appended : (tag : ℕ) (key one two : List ℕ) (old new : Builder) (before after : List ℕ) → Appends tag key one two old new before after
    → HoldsMore (IsReadElement old tag key one two) old new before after
holds_appended tag key one two old new before after (inl declines) front fs h ok = absurd (declines_none old new before after declines h.well ok)
holds_appended tag key one two old new before after (inr (inl bad)) front fs h ok = absurd (not_done old tag key one two bad.1.0 bad.1.1 (isnt_well (status_code bad.1.0) new old bad.1.2.1 ok))
holds_appended tag key one two old new before after (inr (inr put)) front fs h ok = (
  put.1.0,
  (put.1.1, element_read put.1.0 old tag key one two put.1.1 (adds_few put.1.0 old new before after put.1.2 ok)),
  holds_more put.1.0 old new before after front fs h put.1.2 ok,
)

-- a payload that is one part, as it is
pub as_it_is : (l : Layout) (n : ℕ) (one two : List ℕ) → number_size l ≡ Some n → laid_out l one two ≡ one
as_it_is (layout.Fixed m) n one two e = refl
as_it_is layout.Flag n one two e = refl
as_it_is layout.Text n one two e = absurd (cc)
as_it_is layout.Nested n one two e = refl
as_it_is layout.Binary n one two e = absurd (cc)
as_it_is layout.Regex n one two e = absurd (cc)
as_it_is layout.Pointer n one two e = absurd (cc)
as_it_is layout.Scoped n one two e = absurd (cc)

-- an element with the lowest bytes of a number
pub number_appended : (tag : ℕ) (key payload : List ℕ) (number n : ℕ) (k : ElementType) (old new : Builder) {before after : List ℕ} → tag ≡ tag_of k
    → number_size (layout_of k) ≡ Some n → payload ≡ lowest n number → Appends (tag_of k) key payload [] old new before after
    → AppendsNumber tag key number old new before after
number_appended tag key payload number n k old new {before} {after} is size lowest_is appends =
    let as_tag = subst (λ (t : ℕ). Appends t key payload [] old new before after) (sym is) appends in
    inr (inr (n, (k, is, size), subst (λ (x : List ℕ). Appends tag key x [] old new before after) lowest_is as_tag))

pub holds_number : (tag : ℕ) (key : List ℕ) (number : ℕ) (old new : Builder) (before after : List ℕ) → AppendsNumber tag key number old new before after
    → HoldsMore (IsReadNumber old tag key number) old new before after
holds_number tag key number old new before after (inl declines) front fs h ok = absurd (declines_none old new before after declines h.well ok)
holds_number tag key number old new before after (inr (inl bad)) front fs h ok = absurd (omega (arith, isnt_well 11 new old bad.2.1 ok))
holds_number tag key number old new before after (inr (inr (n, is, appends))) front fs h ok =
    let held = holds_appended tag key (lowest n number) [] old new before after appends front fs h ok in
    (held.0, (n, is, held.1), held.2)

-- an element as it stands

pub appended_iter : {bytes : List ℕ} {it : Iter} {f : Frame} (key : List ℕ) (k : ElementType) (payload : List ℕ) (old new : Builder) {before after : List ℕ} → IsOpen old
    → IsOn bytes it f → key ≡ f.key → k ≡ f.kind → payload ≡ f.payload → AddsUnder key k payload old new before after → AppendsElement bytes it old new before after
appended_iter key k payload old new goes on is kind_is payload_is (inl bad) = absurd (bad.1 (subst IsCText (sym is) (on.stands.key_nul_free, on.stands.key_utf8)))
appended_iter {f = f} key k payload old new {before} {after} goes on is kind_is payload_is (inr adds) =
    let text = subst (λ (x : List ℕ). IsCText (key_in old x)) is adds.0 in
    let g : Frame = record f { key = key_in old f.key } in
    let kinds = ap (λ (x : ElementType). let y : Frame = record { kind = x; key = key_in old key; payload = payload } in y) kind_is in
    let payloads = ap (λ (x : List ℕ). let y : Frame = record { kind = f.kind; key = key_in old key; payload = x } in y) payload_is in
    let keys = ap (λ (x : List ℕ). let y : Frame = record f { key = key_in old x } in y) is in
    inr (inr (
      goes,
      ((g, (f, on, refl, copy_read f on.s on.r (key_in old f.key) on.stands text), subst (λ (y : Frame). Adds y old new before after) (kinds ∙ payloads ∙ keys) adds.1)),
    ))

pub holds_iter : (bytes : List ℕ) (it : Iter) (old new : Builder) (before after : List ℕ) → AppendsElement bytes it old new before after → HoldsMore (IsElementOf old bytes it) old new before after
holds_iter bytes it old new before after (inl declines) front fs h ok = absurd (declines_none old new before after declines h.well ok)
holds_iter bytes it old new before after (inr (inl bad)) front fs h ok = absurd (omega (arith, isnt_well 9 new old bad.2.1 ok))
holds_iter bytes it old new before after (inr (inr put)) front fs h ok = (put.1.0, put.1.1, holds_more put.1.0 old new before after front fs h put.1.2 ok)

-- levels

pub holds_opened : (tag : ℕ) (key : List ℕ) (old new : Builder) (before after : List ℕ) → OpensLevel tag key old new before after → HoldsLevel tag key old new before after
holds_opened tag key old new before after (inl declines) front fs h ok = absurd (declines_none old new before after declines h.well ok)
holds_opened tag key old new before after (inr (inl bad)) front fs h ok = absurd (omega (arith, isnt_well 11 new old bad.3.1 ok))
holds_opened tag key old new before after (inr (inr (inl bad))) front fs h ok = absurd (omega (arith, isnt_well 2 new old bad.5.1 ok))
holds_opened tag key old new before after (inr (inr (inr (k, one, level, goes, text, adds, inl bad)))) front fs h ok = absurd (bad.0 (inl (sym (ap (λ (b : Builder). b.status) bad.1) ∙ ok)))
holds_opened tag key old new before after (inr (inr (inr (k, one, level, goes, text, adds, inr is)))) front fs h ok =
    (k, level, text, holds_level k (key_in old key) tag one new after h adds is.1 ok)

-- bytes that are put before the end of what a room begins with
take_beyond : (n offset : ℕ) (bytes room : List ℕ) → offset + length bytes ≤ n → n ≤ length room → take n (put_bytes offset bytes room) ≡ put_bytes offset bytes (take n room)
take_beyond n offset bytes room far within =
    let k = offset + length bytes in
    let m = n - k in
    let front = take offset room ++ bytes in
    let e : n ≡ k + m = omega arith in
    let size : length front ≡ k = omega (arith, length-append (take offset room) bytes, length-take-le offset room (omega arith)) in
    let whole : put_bytes offset bytes room ≡ front ++ drop k room = put_opened offset bytes room ∙ sym (append_assoc (take offset room) bytes (drop k room)) in
    ap (λ (r : List ℕ). take n r) whole
    ∙ ap (λ (j : ℕ). take j (front ++ drop k room)) (e ∙ ap (λ (j : ℕ). j + m) (sym size))
    ∙ take-append-add front (drop k room) m
    ∙ ap (λ (x : List ℕ). front ++ x) (sym (drop-take k m room) ∙ ap (λ (j : ℕ). drop k (take j room)) (sym e))
    ∙ ap (λ (x : List ℕ). (x ++ bytes) ++ drop k (take n room)) (sym (take-take offset n room (omega arith)))
    ∙ append_assoc (take offset (take n room)) bytes (drop k (take n room))
    ∙ sym (put_opened offset bytes (take n room))

-- four bytes that are put in place of four
put_over : (offset : ℕ) (bytes outer unset inner : List ℕ) → length bytes ≡ 4 → length unset ≡ 4 → offset ≡ length outer
    → put_bytes offset bytes ((outer ++ unset) ++ inner) ≡ outer ++ (bytes ++ inner)
put_over offset bytes outer unset inner four size is =
    let room = (outer ++ unset) ++ inner in
    let front : take offset room ≡ outer = ap (λ (x : List ℕ). take offset x) (append_assoc outer unset inner) ∙ take_at outer (unset ++ inner) offset (sym is) in
    let back : drop (offset + length bytes) room ≡ inner = drop_at (outer ++ unset) inner (offset + length bytes) (omega (arith, four, size, is, length-append outer unset)) in
    put_opened offset bytes room ∙ ap (λ (x : List ℕ). x ++ (bytes ++ drop (offset + length bytes) room)) front ∙ ap (λ (x : List ℕ). outer ++ (bytes ++ x)) back

-- a level that was closed is a document
pub closed_there : (old new : Builder) (before after outer unset : List ℕ) (fs : List Frame) → length unset ≡ 4 → HoldsElements old before (outer ++ unset) fs
    → ClosesLevel old new before after → new.status ≡ pos 0
    → (take new.len after ≡ outer ++ framed (elements fs)) × (new.len ≡ length (outer ++ framed (elements fs))) × (new.len ≤ max_length)
closed_there old new before after outer unset fs four h (inl declines) ok = absurd (declines_none old new before after declines h.well ok)
closed_there old new before after outer unset fs four h (inr (inl bad)) ok = absurd (omega (arith, isnt_well 7 new old bad.2.1 ok))
closed_there old new before after outer unset fs four h (inr (inr (inl bad))) ok = absurd (omega (arith, isnt_well 8 new (ended old) bad.3.1 ok))
closed_there old new before after outer unset fs four h (inr (inr (inr put))) ok =
    let inner = elements fs ++ 0 ∷ [] in
    let begins : old.begins ≡ length outer = omega (arith, h.begins, four, length-append outer unset) in
    let len : new.len ≡ old.len + 1 = ap (λ (b : Builder). b.len) put.4 in
    let size : old.len + 1 - old.begins ≡ 4 + length inner = omega (arith, h.len, begins, four, length-append outer unset, length-append (elements fs) (0 ∷ [])) in
    let last = put_bytes old.len (0 ∷ []) before in
    let header = le32 (pos (old.len + 1 - old.begins)) in
    let taken : take new.len last ≡ (outer ++ unset) ++ inner =
    take-put_bytes old.len new.len (0 ∷ []) before len (omega (arith, put.2)) ∙ ap (λ (x : List ℕ). x ++ 0 ∷ []) h.taken
    ∙ append_assoc (outer ++ unset) (elements fs) (0 ∷ []) in (
      ap (λ (r : List ℕ). take new.len r) put.3
          ∙ take_beyond new.len old.begins header last (omega (arith, len, put.0.1)) (omega (arith, len, put.2, length-put_bytes old.len (0 ∷ []) before (omega (arith, put.2))))
          ∙ ap (λ (r : List ℕ). put_bytes old.begins header r) taken
          ∙ put_over old.begins header outer unset inner refl four begins
          ∙ ap (λ (n : ℕ). outer ++ (le32 (pos n) ++ inner)) size,
      omega (arith, len, h.len, four, length-append outer unset, length-append outer (framed (elements fs)), length-append (elements fs) (0 ∷ [])),
      omega (arith, len, put.1),
    )

-- whose envelope is sound
pub closed_sound : (old new : Builder) (before after outer unset : List ℕ) (fs : List Frame) → length unset ≡ 4 → HoldsElements old before (outer ++ unset) fs
    → ClosesLevel old new before after → new.status ≡ pos 0 → AreBytes after → IsEnvelope (framed (elements fs))
closed_sound old new before after outer unset fs four h closes ok bytes =
    let there = closed_there old new before after outer unset fs four h closes ok in
    framed_is_envelope (elements fs) (back_bytes outer (framed (elements fs)) (take new.len after) there.0 (take_bytes new.len after bytes))
    (omega (arith, there.1, there.2, length-append outer (framed (elements fs)), length-append (elements fs) (0 ∷ [])))

-- and is an element of the level around it
pub holds_ended : (level old new : Builder) (before after : List ℕ) → AreBytes after → EndsLevel level old new before after → HoldsEnded level old new before after
holds_ended level old new before after bytes (inl declines) room front key k fs inner h held ok = absurd (declines_none old new before after declines h.well ok)
holds_ended level old new before after bytes (inr (inl bad)) room front key k fs inner h held ok = absurd (omega (arith, isnt_well 7 new old bad.2.1 ok))
holds_ended level old new before after bytes (inr (inr (goes, few, (closed, closes, inr (inl small))))) room front key k fs inner h held ok =
    absurd (omega (arith, isnt_well 8 new (record old { len = closed.len; count = old.count + 1 }) small.1 ok))
holds_ended level old new before after bytes (inr (inr (goes, few, (closed, closes, inr (inr bad))))) room front key k fs inner h held ok =
    absurd (bad.0 (inl (sym (ap (λ (b : Builder). b.status) bad.1) ∙ ok)))
holds_ended level old new before after bytes (inr (inr (goes, few, (closed, closes, inl well)))) room front key k fs inner h held ok =
    let outer = (front ++ elements fs) ++ (tag_of k ∷ (key ++ 0 ∷ [])) in
    let unset = 0 ∷ 0 ∷ 0 ∷ 0 ∷ [] in
    let parted : (payload : List ℕ) → (front ++ elements fs) ++ (tag_of k ∷ (key ++ 0 ∷ payload)) ≡ outer ++ payload =
    λ payload. ap (λ (x : List ℕ). (front ++ elements fs) ++ (tag_of k ∷ x)) (sym (append_assoc key (0 ∷ []) payload))
    ∙ sym (append_assoc (front ++ elements fs) (tag_of k ∷ (key ++ 0 ∷ [])) payload) in
    let within = subst (λ (x : List ℕ). HoldsElements level before x inner) (parted unset) held in
    let there = closed_there level closed before after outer unset inner refl within closes well.0 in
    let f = level_of k key inner in
    let sound = closed_sound level closed before after outer unset inner refl within closes well.0 bytes in
    let len : new.len ≡ closed.len = ap (λ (b : Builder). b.len) well.1 in
    let whole : outer ++ framed (elements inner) ≡ (front ++ elements fs) ++ frame_bytes f = sym (parted (framed (elements inner))) in (
      holds_next f new after h ok (ap (λ (b : Builder). b.begins) well.1) (ap (λ (b : Builder). b.count) well.1)
          (omega (arith, len, there.1, ap length whole, h.len, length-append front (elements fs), length-append (front ++ elements fs) (frame_bytes f)))
          (ap (λ (n : ℕ). take n after) len ∙ there.0 ∙ whole),
      sound,
      λ nested text. level_read k key (framed (elements inner)) nested text sound,
    )
