-- Elements in the caller's room, along the elements of an iterator.
use Rattle.std.proofs.Common.{◌≡◌, ◌<◌, ◌≤◌, ◌+◌, ◌^◌, ℕ, ℤ, suc, List, [], ◌∷◌, ◌++◌, length, take, drop, ap, sym, ◌∙◌, refl, arith, append_assoc, length-append, Option, None, Some, Result, Ok, Err, inl, inr, subst}
use Rattle.std.proofs.lemmas.List.{drop-drop, drop_at, set_split, take_at}
use Rattle.std.proofs.Math.ListN.{set}
use Rattle.std.specs.Option.{option_copied}
use Rattle.raw_bson.proofs.Face.{LeadsTo-more}
use Rattle.raw_bson.specs.ElementSteps.{frame_of}
use Rattle.raw_bson.specs.Frame.{Frame, IsFrame, LeadsTo}
use Rattle.raw_bson.specs.RawElement.{RawElement}
use Rattle.raw_view.specs.Frame.Front.{StepsFront}
use Rattle.raw_view.specs.declared.error.BorrowedError.{BorrowedError}
use Rattle.bsonraw_c.specs.Entries.{AreEntries, GoesFrom, GoesOver, IsEntry, IsEntryWorkedOut}
use Rattle.bsonraw_c.specs.Codes.{SaysKind}
use Rattle.bsonraw_c.specs.Iters.{GoesThrough, HasNoElement, HasSameDocument, IsKeyAt, IsShortKey, Returns, StopsAtFault, place_of_none}
use Rattle.bsonraw_c.specs.Places.{StandsAt}
use Rattle.bsonraw_c.specs.declared.codes.Status.TheVariants as status
use Rattle.bsonraw_c.specs.declared.iter.Iter.{Iter}
use Rattle.bsonraw_c.specs.declared.many.Entry.{Entry}
use Rattle.bsonraw_c.proofs.Iterating.{faulted, few, goes_on, placed, short}

-- The iterator has gone over frames from s on, up to this offset, where rest is left, and put them into the room.
pub record HasFilled (b : List ℕ) (it : Iter) (next : ℕ) (before room : List Entry) (index : ℕ) (left : Option (List ℕ)) : Type 0 where
  pub d : List ℕ
  pub s : List ℕ
  pub rest : List ℕ
  pub passed : List Frame
  pub entries : List Entry
  pub begins : GoesThrough b it d s
  pub goes : GoesThrough b (record it { next = next }) d rest
  pub leads : LeadsTo s passed rest
  pub are : AreEntries b it.next passed entries next
  pub number : length entries ≡ index
  pub filled : room ≡ entries ++ drop index before
  pub left_is : left ≡ Some rest

-- one more entry
AreEntries-more : (b : List ℕ) (offset : ℕ) (fs : List Frame) (es : List Entry) (end : ℕ) (f : Frame) (e : Entry) → AreEntries b offset fs es end
    → IsEntry b end f e → AreEntries b offset (fs ++ f ∷ []) (es ++ e ∷ []) (e.payload_at + e.payload_len)
AreEntries-more b offset [] [] end f e are one = (subst (λ (n : ℕ). IsEntry b n f e) are one, refl)
AreEntries-more b offset [] (x ∷ es) end f e are one = absurd are
AreEntries-more b offset (g ∷ fs) [] end f e are one = absurd are
AreEntries-more b offset (g ∷ fs) (x ∷ es) end f e are one = (are.0, AreEntries-more b (x.payload_at + x.payload_len) fs es end f e are.1 one)

-- an entry that is worked out says where the frame is
entry_there : (b d rest : List ℕ) (it : Iter) → GoesThrough b it d rest → (f : Frame) (r : List ℕ) (e : Entry) → IsFrame rest f r → IsEntryWorkedOut it.next f e → IsEntry b it.next f e
entry_there b d rest it g f r e frame out =
    let at : Iter = record it {
      tag = e.tag;
      key_at = e.key_at;
      key_len = e.key_len;
      payload_at = e.payload_at;
      payload_len = e.payload_len;
      next = it.next + (2 + (length f.key + length f.payload));
    } in
    let p = placed b d rest it g f r at frame (record { tag = out.tag; key_at = out.key_at; key_len = out.key_len; payload_at = out.payload_at; payload_len = out.payload_len; next = refl }) in
    record { tag = p.tag; key = p.key; payload = p.payload; key_begins = p.key_begins; payload_begins = p.payload_begins }

-- the room with one entry more
room_with : (entries before room : List Entry) (index : ℕ) (e : Entry) → length entries ≡ index → index < length room → room ≡ entries ++ drop index before
    → set room index e ≡ (entries ++ e ∷ []) ++ drop (index + 1) before
room_with entries before room index e number within filled =
    let front : take index room ≡ entries = ap (take index) filled ∙ take_at entries (drop index before) index number in
    let one : suc index ≡ index + 1 = omega arith in
    let back : drop (index + 1) room ≡ drop (index + 1) before =
    sym (drop-drop 1 index room) ∙ (ap (λ (x : List Entry). drop 1 (drop index x)) filled
    ∙ (ap (drop 1) (drop_at entries (drop index before) index number) ∙ drop-drop 1 index before)) in
    let split : set room index e ≡ take index room ++ e ∷ drop (index + 1) room = subst (λ (n : ℕ). set room index e ≡ take index room ++ e ∷ drop n room) one (set_split room index e within) in
    split ∙ (ap (λ (x : List Entry). x ++ e ∷ drop (index + 1) room) front ∙ (ap (λ (x : List Entry). entries ++ e ∷ x) back ∙ sym (append_assoc entries (e ∷ []) (drop (index + 1) before))))

-- an iterator that is elsewhere in the same document
through : (b d t : List ℕ) (it other : Iter) (next : ℕ) → GoesThrough b (record it { next = next }) d t → HasSameDocument it other → other.next ≡ next → GoesThrough b other d t
through b d t it other next g same is = record {
  small = omega (arith, g.small, same.0, same.1);
  stands = subst (λ (n : ℕ). StandsAt b n other.document_len d) (sym same.0) (subst (λ (n : ℕ). StandsAt b it.document_at n d) (sym same.1) g.stands);
  envelope = g.envelope;
  begun = omega (arith, g.begun, same.0, is);
  within = omega (arith, g.within, same.0, same.1, is);
  left = g.left ∙ ap (λ (n : ℕ). drop n d) (omega (arith, same.0, is));
}

-- at first nothing is in the room
pub filled_none : (b : List ℕ) (it : Iter) (d s : List ℕ) (before : List Entry) (left : Option (List ℕ)) → GoesThrough b it d s → left ≡ Some s → HasFilled b it it.next before before 0 left
filled_none b it d s before left g is = record { d = d; s = s; rest = s; passed = []; entries = []; begins = g; goes = g; leads = refl; are = refl; number = refl; filled = refl; left_is = is }

-- the frames of what is in the room
pub gone_over : {b : List ℕ} {it : Iter} (new : Iter) {next : ℕ} {before room : List Entry} {index : ℕ} (count : ℕ) {left : Option (List ℕ)}
    (h : HasFilled b it next before room index left) → HasSameDocument it new → new.next ≡ next → index ≤ length before → count ≡ index
    → GoesOver b h.s h.rest h.passed it new before room count
gone_over {b} {it} new {next} {before} {room} {index} count {left} h same is fit counted = record {
  d = h.d;
  entries = h.entries;
  leads = h.leads;
  left = through b h.d h.rest it new next h.goes same is;
  are = subst (λ (n : ℕ). AreEntries b it.next h.passed h.entries n) (sym is) h.are;
  count_is = counted ∙ sym h.number;
  fit = omega (arith, counted, fit);
  filled = h.filled ∙ ap (λ (n : ℕ). h.entries ++ drop n before) (sym counted);
}

module _ {b : List ℕ} {it : Iter} {next : ℕ} {before room : List Entry} {index : ℕ} {old : Option (List ℕ)} (new : Option (List ℕ))
    {result : Option (Result RawElement BorrowedError)} (h : HasFilled b it next before room index old) (steps : StepsFront old result new) where
  stepped : (item : Option (Result RawElement BorrowedError)) → result ≡ item → StepsFront (Some h.rest) item new
  stepped item is = subst (λ (x : Option (List ℕ)). StepsFront x item new) h.left_is (subst (λ (x : Option (Result RawElement BorrowedError)). StepsFront old x new) is steps)

  -- an element ends below 2 ^ 32
  pub short_element : (e : RawElement) → result ≡ Some (Ok e) → next + (2 + (length (frame_of e).key + length (frame_of e).payload)) < 2 ^ 32
  short_element e is = let st = stepped (Some (Ok e)) is in few b h.d h.rest (record it { next = next }) h.goes (frame_of e) st.0 st.1

  -- and so does the key of a stop
  pub short_key : (stop : BorrowedError) → result ≡ Some (Err stop) → IsShortKey next (option_copied stop.key)
  short_key stop is = let st = stepped (Some (Err stop)) is in short b h.d h.rest (record it { next = next }) h.goes stop st.0

  -- one element more
  pub filled_more : (e : RawElement) (entry : Entry) (after : ℕ) → result ≡ Some (Ok e) → index < length room → IsEntryWorkedOut next (frame_of e) entry
      → after ≡ next + (2 + (length (frame_of e).key + length (frame_of e).payload)) → HasFilled b it after before (set room index entry) (index + 1) new
  filled_more e entry after is within out next_is =
      let st = stepped (Some (Ok e)) is in
      let one = entry_there b h.d h.rest (record it { next = next }) h.goes (frame_of e) st.0 entry st.1 out in
      let ended : entry.payload_at + entry.payload_len ≡ after = omega (arith, out.payload_at, out.payload_len, next_is) in
      record {
        d = h.d;
        s = h.s;
        rest = st.0;
        passed = h.passed ++ frame_of e ∷ [];
        entries = h.entries ++ entry ∷ [];
        begins = h.begins;
        goes = goes_on b h.d h.rest (record it { next = next }) h.goes (frame_of e) st.0 after st.1 next_is;
        leads = LeadsTo-more h.s h.passed h.rest (frame_of e) st.0 h.leads st.1;
        are = subst (λ (n : ℕ). AreEntries b it.next (h.passed ++ frame_of e ∷ []) (h.entries ++ entry ∷ []) n) ended (AreEntries-more b it.next h.passed h.entries next (frame_of e) entry h.are one);
        number = omega (arith, h.number, length-append h.entries (entry ∷ []));
        filled = room_with h.entries before room index entry h.number within h.filled;
        left_is = st.2;
      }

  -- the end before the room is full
  pub fills_end : (after : Iter) (code : ℤ) → result ≡ None → HasSameDocument it after → after.next ≡ next → index < length before
      → HasNoElement (place_of_none b) after → Returns status.Nothing code → GoesFrom b h.s it after before room index code
  fills_end after code is same next_is within none done =
      let st = stepped None is in
      (h.rest, h.passed, gone_over after index h same next_is (omega arith) refl, inr (inl (omega arith, (st.0, none, refl), done)))

  -- the stop before the room is full
  pub fills_fault : (stop : BorrowedError) {after : Iter} {code : ℤ} → result ≡ Some (Err stop) → HasSameDocument it after → after.next ≡ next
      → index < length before → IsKeyAt (place_of_none b) next (option_copied stop.key) after → SaysKind stop.kind after.fault.why
      → after.fault.offset ≡ next → Returns status.Fault code → GoesFrom b h.s it after before room index code
  fills_fault stop {after} is same next_is within out why offset_is done =
      let st = stepped (Some (Err stop)) is in
      let fault = faulted b h.d h.rest (record it { next = next }) h.goes stop after st.0 out next_is why offset_is in (
        h.rest,
        h.passed,
        gone_over after index h same next_is (omega arith) refl,
        inr (inr (omega arith, subst (λ (n : ℕ). StopsAtFault b h.rest n after) (sym next_is) fault, done)),
      )

-- the room is full
pub fills_all : {b : List ℕ} {it : Iter} (after : Iter) {next : ℕ} {before room : List Entry} {index : ℕ} (count : ℕ) {left : Option (List ℕ)}
    (h : HasFilled b it next before room index left) (code : ℤ) → HasSameDocument it after → after.next ≡ next → index ≡ length before → count ≡ index
    → HasNoElement (place_of_none b) after → Returns status.Done code → GoesFrom b h.s it after before room count code
fills_all after count h code same is full counted none done =
    (h.rest, h.passed, gone_over after count h same is (omega (arith, full)) counted, inl (counted ∙ full, none, done))
