-- The tokens of visits, and what the loop of flattening preserves.
use Rattle.std.proofs.Common.{◌-◌, ◌≡◌, ◌∙◌, ◌≤◌, ◌<◌, ◌+◌, ◌++◌, ◌∷◌, [], ℕ, suc, List, Ok, fold, length, arith, ap, refl, length-append, append_assoc, append-nil, zero, sym}
use Rattle.std.proofs.lemmas.Grind.{fold-append}
use Rattle.raw_form.proofs.canonical.Common.{AreInside, AreTokens, AreTokensOf, Frame, HasTokens, IsTokenOf, Means, NestedUpTo, RawValue, same_from_push, size_of, tag_of, value, Limits, ReadsUpTo, Tree, as_document, filled_from, read_within}
use Rattle.raw_form.specs.Tokens.{Flattens}
use Rattle.raw_form.specs.Flattening.{with_inside}
use Rattle.raw_form.specs.declared.token.Token.{Token}
use Rattle.raw_view.specs.Meaning as raw
use Rattle.raw_tree.specs.Visits.{HasVisits, Visit, VisitsEach, VisitsLevel, VisitsValue, enter, leave, whole}
use Rattle.raw_tree.proofs.Face.{filled_more}

-- the token of a frame at this offset, in a level inside `depth` others, with `inside` tokens inside
abbrev pub token_of : (inside depth offset : ℕ) → Frame → Token
token_of inside depth offset f =
    record { tag = tag_of f.kind; depth = depth; key_at = offset + 1; key_len = length f.key; payload_at = offset + (2 + length f.key); payload_len = length f.payload; inside = inside }

one_token : {inside depth offset : ℕ} {f : Frame} {t : Token} → IsTokenOf depth offset f inside t → t ≡ token_of inside depth offset f
one_token is i = record { tag = is.tag i; depth = is.depth_is i; key_at = is.key_at i; key_len = is.key_len i; payload_at = is.payload_at i; payload_len = is.payload_len i; inside = is.inside_is i }

-- Visits have come to a level, which has these tokens. Around it are others, the innermost first, each with its tokens and the token of the
-- element that holds the next level. That token doesn't have its number of inner tokens yet.
pub record Flat : Type 0 where
  pub tokens : List Token
  pub around : List (List Token × Token)

-- the level has ended
abbrev pub flat_left : List Token → List (List Token × Token) → Flat
flat_left ts [] = record { tokens = ts; around = [] }
flat_left ts ((front, t) ∷ around) = record { tokens = front ++ record t { inside = length ts } ∷ ts; around = around }

-- one more visit
abbrev pub flat_with : Flat → Visit → Flat
flat_with m (whole offset f v) = record { tokens = m.tokens ++ token_of 0 (length m.around) offset f ∷ []; around = m.around }
flat_with m (enter offset f v) = record { tokens = []; around = (m.tokens, token_of 0 (length m.around) offset f) ∷ m.around }
flat_with m leave = flat_left m.tokens m.around

abbrev pub flat_of : List Visit → Flat
flat_of vs = fold flat_with (record { tokens = []; around = [] }) vs

pub flat_more : (vs : List Visit) (x : Visit) → flat_of (vs ++ x ∷ []) ≡ flat_with (flat_of vs) x
flat_more vs x = fold-append flat_with (record { tokens = []; around = [] }) vs (x ∷ [])

-- the visits of nested bytes have their tokens

-- visits append such tokens to those of the level
abbrev Puts : (List Token → Type 0) → Flat → List Visit → Type 0
Puts Are m vs = (ts : List Token) × Are ts × (fold flat_with m vs ≡ record { tokens = m.tokens ++ ts; around = m.around })

module _ (n : ℕ) (inner_flat : (start : ℕ) (d : List ℕ) (vs : List Visit) (m : Flat) → HasVisits n start d vs → Puts (HasTokens n (length m.around) start d) m vs) where
  abbrev Inner : Flat → ℕ → List ℕ → List Token → Type 0
  Inner m = HasTokens n (suc (length m.around))

  level_flat : (offset : ℕ) (f : Frame) (v : RawValue) (d : List ℕ) (vs : List Visit) (m : Flat) → Means f (value v)
      → ((ts : List Token) → NestedUpTo (Inner m) (offset + size_of f) d ts → AreInside (Inner m) v (offset + size_of f) ts)
      → VisitsLevel (HasVisits n) offset f v d vs → Puts (AreTokensOf (Inner m) (length m.around) offset f) m vs
  level_flat offset f v d vs m means inside (start, within, ends, nested, is) =
      let entered = flat_with m (enter offset f v) in
      let (ts, has, same) = inner_flat start d within entered nested in (
        token_of (length ts) (length m.around) offset f ∷ ts,
        (v, _, ts, means, inside ts (start, ends, has), search, refl),
        ap (fold flat_with m) is ∙ fold-append flat_with entered within (leave ∷ []) ∙ ap (λ (x : Flat). flat_with x leave) same,
      )

  value_flat : (offset : ℕ) (f : Frame) (v : RawValue) (vs : List Visit) (m : Flat) → Means f (value v) → VisitsValue (HasVisits n) offset f v vs
      → Puts (AreTokensOf (Inner m) (length m.around) offset f) m vs
  value_flat offset f (raw.single l) vs m means is = (_, (raw.single l, _, [], means, refl, search, refl), ap (fold flat_with m) is)
  value_flat offset f (raw.document d) vs m means is = level_flat offset f (raw.document d) d vs m means (λ ts nested. nested) is
  value_flat offset f (raw.array d) vs m means is = level_flat offset f (raw.array d) d vs m means (λ ts nested. nested) is
  value_flat offset f (raw.scoped code d) vs m means is = level_flat offset f (raw.scoped code d) d vs m means (λ ts nested. nested) is

  each_flat : (offset : ℕ) (fs : List Frame) (vs : List Visit) (m : Flat) → VisitsEach (HasVisits n) offset fs vs → Puts (AreTokens (Inner m) (length m.around) offset fs) m vs
  each_flat offset [] vs m is = ([], refl, ap (fold flat_with m) is ∙ (λ i. record { tokens = sym (append-nil m.tokens) i; around = m.around }))
  each_flat offset (f ∷ fs) vs m (v, first, rest, means, one, each, is) =
      let (ts, are, same) = value_flat offset f v first m means one in
      let (us, more, last) = each_flat (offset + size_of f) fs rest (record { tokens = m.tokens ++ ts; around = m.around }) each in (
        ts ++ us,
        (ts, us, are, more, refl),
        rw (is, fold-append flat_with m first rest, same, last, append_assoc m.tokens ts us) refl,
      )

visits_flat : (n start : ℕ) (d : List ℕ) (vs : List Visit) (m : Flat) → HasVisits n start d vs → Puts (HasTokens n (length m.around) start d) m vs
visits_flat zero start d vs m none = absurd none
visits_flat (suc n) start d vs m (frames, walk, each) =
    let (ts, are, same) = each_flat n (visits_flat n) (start + 4) frames vs m each in
    (ts, (frames, walk, are), same)

-- what the loop of flattening preserves

-- the token at a place in a room gets the number of tokens inside
filled_inside : (size : ℕ) (front rest : List Token) (t : Token) (room : List Token)
    → with_inside (length front) size (filled_from 0 room (front ++ t ∷ rest)) ≡ filled_from 0 room (front ++ record t { inside = size } ∷ rest)
filled_inside size front rest t [] = refl
filled_inside size [] rest t (x ∷ room) = refl
filled_inside size (u ∷ front) rest t (x ∷ room) = ap (λ (ts : List Token). u ∷ ts) (filled_inside size front rest t room)

-- the tokens of a level and of those around it are these in all; the list has the places of those whose elements hold levels
abbrev pub AreAll : List Token → List (List Token × Token) → List Token → List ℕ → Type 0
AreAll ts [] all list = (all ≡ ts) × (list ≡ [])
AreAll ts ((front, t) ∷ around) all list = (before : List Token) × (outer : List ℕ) × (all ≡ before ++ t ∷ ts) × (list ≡ outer ++ length before ∷ []) × AreAll front around before outer

all_more : (ts us : List Token) (around : List (List Token × Token)) (all : List Token) (list : List ℕ) → AreAll ts around all list → AreAll (ts ++ us) around (all ++ us) list
all_more ts us [] all list (same, none) = grind (arith, same, none)
all_more ts us ((front, t) ∷ around) all list (before, outer, same, is, are) = (before, outer, grind (arith, same, append_assoc), is, are)

pub many_around : (ts : List Token) (around : List (List Token × Token)) (all : List Token) (list : List ℕ) → AreAll ts around all list
    → (length list ≡ length around) × (length list ≤ length all)
many_around ts [] all list (same, none) = grind (arith, none)
many_around ts ((front, t) ∷ around) all list (before, outer, same, is, are) =
    grind (arith, many_around front around before outer are, ap length is, ap length same, length-append outer (length before ∷ []), length-append before (t ∷ ts))

-- The front of the room has the tokens so far, as many as fit. The list has the places of those whose levels are open. What is next begins
-- at this offset.
pub record IsFlattening (room : List Token) (m : Flat) (list : List ℕ) (count : ℕ) (now : List Token) (waiting offset : ℕ) : Type 0 where
  pub all : List Token
  pub are : AreAll m.tokens m.around all list
  pub count_is : count ≡ length all
  pub filled : now ≡ filled_from 0 room all
  pub as_many : length list ≡ waiting
  pub few : count ≤ offset

module _ (seen : List Visit) {room : List Token} {list : List ℕ} {count : ℕ} {now : List Token} {waiting offset : ℕ}
    (is : IsFlattening room (flat_of seen) list count now waiting offset) {depth behind : ℕ} {f : Frame} {t : Token} (v : RawValue) (deep : depth ≡ length list)
    (token : IsTokenOf depth offset f 0 t) (further : offset < behind) where
  abbrev own : Token
  own = token_of 0 (length (flat_of seen).around) offset f

  one_more : (x : Visit) (new : List ℕ) (wait : ℕ) → AreAll (flat_with (flat_of seen) x).tokens (flat_with (flat_of seen) x).around (is.all ++ own ∷ []) new → length new ≡ wait
      → IsFlattening room (flat_of (seen ++ x ∷ [])) new (count + 1) (filled_from count now (t ∷ [])) wait behind
  one_more x new wait are as_many =
      let same : t ≡ own = one_token token ∙ ap (λ (n : ℕ). token_of 0 n offset f) (deep ∙ (many_around (flat_of seen).tokens (flat_of seen).around is.all list is.are).0) in
      rw (flat_more seen x) (record {
        all = is.all ++ own ∷ [];
        are = are;
        count_is = omega (arith, is.count_is, length-append is.all (own ∷ []));
        filled = rw (same, is.filled) (filled_more 0 count room is.all (own ∷ []) (omega (arith, is.count_is)));
        as_many = as_many;
        few = omega (arith, is.few, further);
      })

  pub flattens_whole : IsFlattening room (flat_of (seen ++ whole offset f v ∷ [])) list (count + 1) (filled_from count now (t ∷ [])) waiting behind
  flattens_whole = one_more (whole offset f v) list waiting (all_more (flat_of seen).tokens (own ∷ []) (flat_of seen).around is.all list is.are) is.as_many

  pub flattens_enter : IsFlattening room (flat_of (seen ++ enter offset f v ∷ [])) (list ++ count ∷ []) (count + 1) (filled_from count now (t ∷ [])) (suc waiting) behind
  flattens_enter =
      one_more (enter offset f v) (list ++ count ∷ []) (suc waiting) (is.all, list, refl, ap (λ (n : ℕ). list ++ n ∷ []) is.count_is, is.are)
      (omega (arith, is.as_many, length-append list (count ∷ [])))

pub flattens_leave : {room now : List Token} {list : List ℕ} {count waiting offset : ℕ} (ts : List Token) (around : List (List Token × Token)) (shorter : List ℕ) (place : ℕ)
    → IsFlattening room (record { tokens = ts; around = around }) list count now waiting offset → list ≡ shorter ++ place ∷ []
    → (place < count) × ((left behind : ℕ) → waiting ≡ suc left → offset < behind
    → IsFlattening room (flat_left ts around) shorter count (with_inside place (count - (place + 1)) now) left behind)
flattens_leave ts [] shorter place is popped = absurd (omega (arith, ap length is.are.1, ap length popped, length-append shorter (place ∷ [])))
flattens_leave {room} {list = list} {count} ts ((front, t) ∷ around) shorter place is popped =
    let (before, outer, same, listed, are) = is.are in
    let (rest, last) = same_from_push outer shorter (length before) place (sym listed ∙ popped) in
    let own : Token = record t { inside = length ts } in
    let many : count ≡ length before + suc (length ts) = is.count_is ∙ ap length same ∙ length-append before (t ∷ ts) in
    let size : count - (length before + 1) ≡ length ts = omega (arith, many) in (
      omega (arith, many, last),
      λ left behind one further. record {
        all = before ++ own ∷ ts;
        are = rw rest at (all_more front (own ∷ ts) around before outer are);
        count_is = grind (arith, many, length-append);
        filled = rw (← last, size, is.filled, same) (filled_inside (length ts) before ts t room);
        as_many = omega (arith, is.as_many, one, ap length popped, length-append shorter (place ∷ []));
        few = omega (arith, is.few, further);
      },
    )

-- the end of the document b
pub flattens_end : {room now : List Token} {list : List ℕ} {count waiting offset : ℕ} (limits : Limits) (b : List ℕ) (seen : List Visit)
    → IsFlattening room (flat_of seen) list count now waiting offset → length b ≤ limits.bytes → HasVisits limits.depth 0 b seen
    → (t : Tree) × ReadsUpTo limits.depth as_document b t → Flattens limits b room now (Ok count)
flattens_end {room} limits b seen is few visits (t, read) =
    let (ts, has, same) = visits_flat limits.depth 0 b seen (record { tokens = []; around = [] }) visits in
    let (all_is, none) = rw same at is.are in
    (ts, t, read_within limits b t few read, has, is.count_is ∙ ap length all_is, is.filled ∙ ap (filled_from 0 room) all_is)
