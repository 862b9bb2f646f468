-- Texts that are put into a room part by part.
use Rattle.std.proofs.Common.{◌≡◌, ◌⊎◌, ◌<◌, ◌≤◌, ◌+◌, ◌-◌, ℕ, suc, List, [], ◌∷◌, ◌++◌, length, take, drop, min, ap, sym, ◌∙◌, refl, arith, append_assoc, append-nil, length-append, subst, inl, inr}
use Rattle.std.proofs.lemmas.Bool.{cases_lt}
use Rattle.std.proofs.lemmas.List.{drop-drop, drop_all, drop_at, drop_min, length-drop, length-take, nil_from_length, take-append-drop, take-append-le, take-take, take_all, take_at, take_min}
use Rattle.bsonraw_c.specs.Overwriting.{overwritten}
use Rattle.bsonraw_c.specs.Texts.{HasText}
use Rattle.bsonraw_c.specs.TextRooms.{Ends, Grows, HasFront, HoldsText, PutsFront, laid, most}

-- two parts, one after the other
pub grows_both : {x y old mid new : List ℕ} {a b c : ℕ} → Grows x old a mid b → Grows y mid b new c → Grows (x ++ y) old a new c
grows_both {x} {y} {new = new} {c = c} p q = record {
  holds = λ before text h. subst (λ (t : List ℕ). HoldsText before t new c) (append_assoc text x y) (q.holds before (text ++ x) (p.holds before text h));
}

-- no part
pub grows_none : (old : List ℕ) (a : ℕ) → Grows [] old a old a
grows_none old a = record { holds = λ before text h. subst (λ (t : List ℕ). HoldsText before t old a) (sym (append-nil text)) h }

-- of bytes that don't fit none is laid
pub laid_none : (room bytes : List ℕ) (at : ℕ) → length room ≤ at → laid room at bytes ≡ room
laid_none room bytes at past =
    let none : length room - at ≡ 0 = omega (arith, past) in
    ap (λ (n : ℕ). overwritten room at (take n bytes)) none ∙ take-append-drop at room

take_over : (t part : List ℕ) (n : ℕ) → take (length t + n) (t ++ part) ≡ t ++ take n part
take_over [] part n = let same : 0 + n ≡ n = omega arith in ap (λ (k : ℕ). take k part) same
take_over (x ∷ t) part n =
    let more : suc (length t) + n ≡ suc (length t + n) = omega arith in
    ap (λ (k : ℕ). take k (x ∷ (t ++ part))) more ∙ ap (λ (l : List ℕ). x ∷ l) (take_over t part n)

-- after the text that is there
laid_after : (t rest part room : List ℕ) (count k : ℕ) → room ≡ t ++ rest → count ≡ length t → k ≡ length rest
    → overwritten room count (take k part) ≡ (t ++ take k part) ++ drop (length part) rest
laid_after t rest part room count k is at few =
    let front : take count room ≡ t = ap (take count) is ∙ take_at t rest count (sym at) in
    let behind : drop count room ≡ rest = ap (drop count) is ∙ drop_at t rest count (sym at) in
    let size : length (take k part) ≡ min (length part) (length rest) = omega (arith, length-take k part, few) in
    let left : drop (length (take k part)) rest ≡ drop (length part) rest = ap (λ (n : ℕ). drop n rest) size ∙ drop_min (length part) rest in
    ap (λ (l : List ℕ). l ++ (take k part ++ drop (length (take k part)) (drop count room))) front
    ∙ ap (λ (l : List ℕ). t ++ (take k part ++ drop (length (take k part)) l)) behind
    ∙ ap (λ (l : List ℕ). t ++ (take k part ++ l)) left
    ∙ sym (append_assoc t (take k part) (drop (length part) rest))

module _ {before text room : List ℕ} {count : ℕ} (few : length room ≤ most) (h : HoldsText before text room count) where
  -- the room is as long as it was
  same_room : length room ≡ length before
  same_room =
      omega (arith, ap length h.room_is, length-append (take (length before) text) (drop (length text) before), length-take (length before) text, length-drop (length text) before)

  -- a text that fits
  room_after : length text < length before → room ≡ text ++ drop (length text) before
  room_after fits = h.room_is ∙ ap (λ (l : List ℕ). l ++ drop (length text) before) (take_all (length before) text (omega (arith, fits)))

  count_after : length text < length before → count ≡ length text
  count_after fits = omega (arith, fits, few, same_room, h.count_is)

  grown_within : (part : List ℕ) → length text < length before
      → laid room count part ≡ take (length before) (text ++ part) ++ drop (length (text ++ part)) before
  grown_within part fits =
      let k = length room - count in
      let size : length before ≡ length text + k = omega (arith, fits, same_room, count_after fits) in
      let rest : k ≡ length (drop (length text) before) = omega (arith, fits, same_room, count_after fits, length-drop (length text) before) in
      let front : take (length before) (text ++ part) ≡ text ++ take k part = ap (λ (n : ℕ). take n (text ++ part)) size ∙ take_over text part k in
      let behind : drop (length part) (drop (length text) before) ≡ drop (length (text ++ part)) before =
      drop-drop (length part) (length text) before ∙ ap (λ (n : ℕ). drop n before) (sym (length-append text part)) in
      laid_after text (drop (length text) before) part room count k (room_after fits) (count_after fits) rest
      ∙ ap (λ (l : List ℕ). (text ++ take k part) ++ l) behind ∙ ap (λ (l : List ℕ). l ++ drop (length (text ++ part)) before) (sym front)

  grown_past : (part : List ℕ) → length before ≤ length text
      → laid room count part ≡ take (length before) (text ++ part) ++ drop (length (text ++ part)) before
  grown_past part full =
      let past : length room ≤ count = omega (arith, full, few, same_room, h.count_is) in
      let none : drop (length text) before ≡ drop (length (text ++ part)) before =
      drop_all (length text) before full ∙ sym (drop_all (length (text ++ part)) before (omega (arith, full, length-append text part))) in
      laid_none room part count past ∙ h.room_is ∙ ap (λ (l : List ℕ). take (length before) text ++ l) none
      ∙ ap (λ (l : List ℕ). l ++ drop (length (text ++ part)) before) (sym (take-append-le (length before) text part full))

  grown_by : (part : List ℕ) → (length text < length before) ⊎ (length before ≤ length text)
      → laid room count part ≡ take (length before) (text ++ part) ++ drop (length (text ++ part)) before
  grown_by part (inl fits) = grown_within part fits
  grown_by part (inr full) = grown_past part full

  -- the next part
  grown : (part : List ℕ) (more : ℕ) → more ≡ min (count + length part) most → HoldsText before (text ++ part) (laid room count part) more
  grown part more is = record {
    room_is = grown_by part (cases_lt (length text) (length before));
    count_is = omega (arith, is, h.count_is, length-append text part);
  }

  -- what comes after a 0 after the text, or in the last place
  behind_end : (m : ℕ) → m ≡ min (length text) (length before - 1) + 1 → 0 < length before → (length text < length before) ⊎ (length before ≤ length text)
      → drop m room ≡ drop m before
  behind_end m is some (inl fits) =
      let next : m ≡ length text + 1 = omega (arith, is, fits) in
      ap (λ (n : ℕ). drop n room) next ∙ sym (drop-drop 1 (length text) room)
      ∙ ap (drop 1) (ap (drop (length text)) (room_after fits) ∙ drop_at text (drop (length text) before) (length text) refl)
      ∙ drop-drop 1 (length text) before ∙ ap (λ (n : ℕ). drop n before) (sym next)
  behind_end m is some (inr full) =
      drop_all m room (omega (arith, is, full, some, same_room)) ∙ sym (drop_all m before (omega (arith, is, full, some)))

  module _ (place : ℕ) (is : place ≡ min count (length room - 1)) (some : 0 < length before) where
    place_is : place ≡ min (length before - 1) (length text)
    place_is = omega (arith, is, few, some, same_room, h.count_is)

    front_end : take place room ≡ take (length before - 1) text
    front_end =
        let short : place ≤ length (take (length before) text) = omega (arith, place_is, length-take (length before) text) in
        let within : place ≤ length before = omega (arith, place_is) in
        ap (take place) h.room_is ∙ take-append-le place (take (length before) text) (drop (length text) before) short ∙ take-take place (length before) text within
        ∙ ap (λ (n : ℕ). take n text) place_is ∙ take_min (length before - 1) text

    -- a 0 at its place
    ended_some : HasText (take (length before - 1) text) before (laid room place (0 ∷ []))
    ended_some =
        let t = take (length before - 1) text in
        let one : List ℕ = 0 ∷ [] in
        let whole : take (length room - place) one ≡ one = take_all (length room - place) one (omega (arith, place_is, some, same_room)) in
        let size : suc (length t) ≡ place + 1 = omega (arith, place_is, length-take (length before - 1) text) in
        let next : place + 1 ≡ min (length text) (length before - 1) + 1 = omega (arith, place_is) in
        let behind : drop 1 (drop place room) ≡ drop (suc (length t)) before =
        drop-drop 1 place room ∙ behind_end (place + 1) next some (cases_lt (length text) (length before)) ∙ ap (λ (n : ℕ). drop n before) (sym size) in
        ap (λ (l : List ℕ). overwritten room place l) whole ∙ ap (λ (l : List ℕ). l ++ (0 ∷ drop 1 (drop place room))) front_end
        ∙ ap (λ (l : List ℕ). t ++ (0 ∷ l)) behind ∙ sym (append_assoc t (0 ∷ []) (drop (suc (length t)) before))

  ended_by : (place : ℕ) → place ≡ min count (length room - 1) → (0 < length before) ⊎ (length before ≤ 0) → HasFront text before (laid room place (0 ∷ []))
  ended_by place is (inl some) = inl (some, ended_some place is some)
  ended_by place is (inr none) =
      let empty : length room ≤ place = omega (arith, none, same_room) in
      inr (nil_from_length before (omega (arith, none)), laid_none room (0 ∷ []) place empty ∙ nil_from_length room (omega (arith, none, same_room)))

-- a part is put
pub part_grows : {part old new : List ℕ} {count more : ℕ} → new ≡ laid old count part → length old ≤ most → more ≡ min (count + length part) most → Grows part old count new more
part_grows {part} {old} {new} {count} {more} is few next = record {
  holds = λ before text h. subst (λ (r : List ℕ). HoldsText before (text ++ part) r more) (sym is) (grown few h part more next);
}

-- the text is ended
pub text_ends : (old new : List ℕ) (count place : ℕ) → new ≡ laid old place (0 ∷ []) → length old ≤ most → place ≡ min count (length old - 1) → Ends old count new
text_ends old new count place is few at = record {
  ended = λ before text h. subst (λ (r : List ℕ). HasFront text before r) (sym is) (ended_by few h place at (cases_lt 0 (length before)));
}

-- a whole text
pub puts_front : {text before mid after : List ℕ} {count : ℕ} → Grows text before 0 mid count → Ends mid count after → PutsFront text before after count
puts_front {text} {before} {mid} {after} {count} grows ends =
    let begun : HoldsText before [] before 0 = record {
      room_is = sym (ap (λ (l : List ℕ). l ++ before) (take_all (length before) [] (omega arith)));
      count_is = refl;
    } in
    let held : HoldsText before text mid count = grows.holds before [] begun in
    (ends.ended before text held, held.count_is)
