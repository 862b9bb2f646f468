-- Lists of visits: one more is appended to the list so far; a document has at most one list; and a document that is read has one.
use Rattle.std.proofs.Common.{◌≡◌, ◌∙◌, ◌+◌, ◌-◌, ◌++◌, ◌∷◌, [], ℕ, zero, suc, List, drop, length, arith, ap, refl, sym, subst, append_assoc, append-nil}
use Rattle.raw_tree.proofs.Common.{Done, Frame, Holds, IsFrame, IsSingle, IsWalk, LeadsTo, Means, RawValue, ReadsUpTo, Sort, StandForEach, StandsFor, Tree, as_array, as_document, code_with_scope, leaf, leaf_in_order, tree_of_pairs, value}
use Rattle.raw_tree.proofs.walk.Common.{AreHeld, HasSeen, HasVisits, IsEntered, IsHeld, Span, Visit, VisitsEach, VisitsLevel, VisitsValue, Wait, end_of, enter, leave, offset_in, size_of, whole}
use Rattle.raw_view.specs.Meaning as raw
use Rattle.raw_view.proofs.Face.{LeadsTo-walk, no_frame_at_final}
use Rattle.raw_tree.proofs.reader.Loops.{document_read, nested_beside}
use Rattle.raw_tree.proofs.reader.OneTree.{one_value_of}
use Rattle.raw_tree.proofs.walk.Frames.{frame_size, walk_over, walk_step}
use Rattle.raw_tree.proofs.walk.OneEnd.{walk_leads}

module _ (Nested : ℕ → List ℕ → List Visit → Type 0) where
  -- the visits of a value

  single_visits : (at : ℕ) (f : Frame) (v : RawValue) → IsSingle v → VisitsValue Nested at f v (whole at f v ∷ [])
  single_visits at f v single = grind arith

  held_visits : (at : ℕ) (f : Frame) (v : RawValue) (d : List ℕ) (vs : List Visit) → Holds v d → VisitsLevel Nested at f v d vs → VisitsValue Nested at f v vs
  held_visits at f v d vs holds h = grind arith

  visits_held : (at : ℕ) (f : Frame) (v : RawValue) (d : List ℕ) (vs : List Visit) → Holds v d → VisitsValue Nested at f v vs → VisitsLevel Nested at f v d vs
  visits_held at f v d vs holds h = grind arith

  -- one more frame
  each_more : (at : ℕ) (fs : List Frame) (vs : List Visit) (f : Frame) (v : RawValue) (us : List Visit) → VisitsEach Nested at fs vs → Means f (value v)
      → VisitsValue Nested (end_of at fs) f v us → VisitsEach Nested at (fs ++ f ∷ []) (vs ++ us)
  each_more at [] vs f v us none m one = (v, us, [], m, one, refl, ap (λ (x : List Visit). x ++ us) none ∙ sym (append-nil us))
  each_more at (g ∷ fs) vs f v us (w, first, rest, means, its, are, is) m one =
      (w, first, rest ++ us, means, its, each_more (at + size_of g) fs rest f v us are m one, ap (λ (x : List Visit). x ++ us) is ∙ append_assoc first rest us)

-- one more frame of a level
pub seen_more : {seen : List Visit} {inside : ℕ} {i : Span (List Visit)} {frames : List Frame} → HasSeen seen inside i frames → (f : Frame) (v : RawValue) (us : List Visit) → Means f (value v)
    → VisitsValue (HasVisits inside) (offset_in i frames) f v us → HasSeen (seen ++ us) inside i (frames ++ f ∷ [])
seen_more {inside = inside} {i = i} {frames = frames} is f v us means one = record {
  visits = is.visits ++ us;
  each = each_more (HasVisits inside) (i.start + 4) frames is.visits f v us is.each means one;
  seen_is = ap (λ (vs : List Visit). vs ++ us) is.seen_is ∙ append_assoc i.known is.visits us;
}

-- whose value holds no level
pub seen_single : {seen : List Visit} {inside offset : ℕ} {i : Span (List Visit)} {frames : List Frame} → HasSeen seen inside i frames → (f : Frame) (v : RawValue) → Means f (value v) → IsSingle v
    → offset ≡ offset_in i frames → HasSeen (seen ++ whole offset f v ∷ []) inside i (frames ++ f ∷ [])
seen_single {inside = inside} {i = i} {frames = frames} is f v means single there =
    rw there (seen_more is f v (whole (offset_in i frames) f v ∷ []) means (single_visits (HasVisits inside) (offset_in i frames) f v single))

-- those of a whole level
pub seen_whole : {seen : List Visit} {inside : ℕ} {i : Span (List Visit)} {frames : List Frame} {s : List ℕ} (is : HasSeen seen inside i frames) → LeadsTo (drop 4 i.bytes) frames s → s ≡ 0 ∷ []
    → HasVisits (suc inside) i.start i.bytes is.visits
seen_whole {i = i} {frames = frames} {s = s} is l final = (frames, LeadsTo-walk (drop 4 i.bytes) frames s Done l final, is.each)

-- after them the waiting level continues
pub seen_outside : {b s : List ℕ} {n : ℕ} {seen : List Visit} {i : Span (List Visit)} {frames : List Frame} {w : Wait (List Visit)} → IsHeld IsEntered b (suc n) w i → HasSeen seen n i frames
    → LeadsTo (drop 4 i.bytes) frames s → s ≡ 0 ∷ [] → HasSeen (seen ++ leave ∷ []) (suc n) w.level (w.frames ++ w.f ∷ [])
seen_outside {n = n} {seen} {i} {frames} {w} held is l final =
    let at = offset_in w.level w.frames in
    let level : List Visit = enter at w.f w.v ∷ (is.visits ++ leave ∷ []) in
    let one = held_visits (HasVisits (suc n)) at w.f w.v i.bytes level held.holds (i.start, is.visits, held.ends, seen_whole is l final, refl) in
    let same : seen ++ leave ∷ [] ≡ held.knows.before ++ level = rw (is.seen_is, held.knows.known_is) (simp append_assoc) in
    rw same (seen_more held.knows.seen w.f w.v level held.means one)

-- one list at most

-- the visits of a level of which b is left, if it begins at this offset
abbrev pub VisitsRest : (ℕ → List ℕ → List Visit → Type 0) → ℕ → List ℕ → List Visit → Type 0
VisitsRest N at b vs = (frames : List Frame) × IsWalk b frames Done × VisitsEach N at frames vs

-- those of the frame at the front, and those after it
rest_step : (N : ℕ → List ℕ → List Visit → Type 0) (at : ℕ) (b : List ℕ) (f : Frame) (r : List ℕ) (v : RawValue) (vs : List Visit) → IsFrame b f r → Means f (value v) → VisitsRest N at b vs
    → (first rest : List Visit) × VisitsValue N at f v first × VisitsRest N (at + size_of f) r rest × (vs ≡ first ++ rest)
rest_step N at b f r v vs frame m (gs, w, each) =
    let (fs, is, walk) = walk_step b gs f r w frame in
    let (u, first, rest, means, its, behind, same) = subst (λ (x : List Frame). VisitsEach N at x vs) is each in
    (first, rest, rw (one_value_of f u v means m) at its, (fs, walk, behind), same)

in_front : {other others vs : List Visit} (first rest left : List Visit) → vs ≡ other ++ others → other ≡ first → others ≡ rest ++ left → vs ≡ (first ++ rest) ++ left
in_front first rest left same first_is rest_is = rw (same, first_is, rest_is) (sym (append_assoc first rest left))

module _ (N : ℕ → List ℕ → List Visit → Type 0) (one : (start : ℕ) (d : List ℕ) (us vs : List Visit) → N start d us → N start d vs → vs ≡ us) where
  level_same : (at : ℕ) (f : Frame) (v : RawValue) (d : List ℕ) (us vs : List Visit) → VisitsLevel N at f v d us → VisitsLevel N at f v d vs → vs ≡ us
  level_same at f v d us vs (start, inner, ends, has, is) (begin, other, far, also, same) =
      let there : begin ≡ start = omega (arith, ends, far) in
      let inside : other ≡ inner = one start d inner other has (rw there at also) in
      same ∙ ap (λ (x : List Visit). enter at f v ∷ (x ++ leave ∷ [])) inside ∙ sym is

  value_same : (at : ℕ) (f : Frame) (v : RawValue) (us vs : List Visit) → VisitsValue N at f v us → VisitsValue N at f v vs → vs ≡ us
  value_same at f v us vs h k = grind (arith, level_same)

  -- passed frames are the first of a walk, and their visits the first of its visits
  each_front : (at : ℕ) (b : List ℕ) (fs : List Frame) (s : List ℕ) (us vs : List Visit) → LeadsTo b fs s → VisitsEach N at fs us → VisitsRest N at b vs
      → (rest : List Visit) × VisitsRest N (end_of at fs) s rest × (vs ≡ us ++ rest)
  each_front at b [] s us vs l none h = (vs, rw l at h, sym (ap (λ (x : List Visit). x ++ vs) none))
  each_front at b (f ∷ fs) s us vs (r, frame, more) (v, first, rest, m, its, are, is) h =
      let (other, others, also, behind, same) = rest_step N at b f r v vs frame m h in
      let first_is : other ≡ first = value_same at f v first other its also in
      let (left, ahead, rest_is) = each_front (at + size_of f) r fs s rest others more are behind in
      (left, ahead, in_front first rest left same first_is rest_is ∙ sym (ap (λ (x : List Visit). x ++ left) is))

-- after the whole walk there are none
none_behind : (N : ℕ → List ℕ → List Visit → Type 0) (at : ℕ) (rest : List Visit) → VisitsRest N at (0 ∷ []) rest → rest ≡ []
none_behind N at rest (hs, w, each) = rw (walk_over (0 ∷ []) hs w (no_frame_at_final (0 ∷ []) refl)) at each

one_visits : (n start : ℕ) (b : List ℕ) (us vs : List Visit) → HasVisits n start b us → HasVisits n start b vs → vs ≡ us
one_visits zero start b us vs h k = absurd h
one_visits (suc n) start b us vs (fs, w, each) k =
    let (rest, behind, same) = each_front (HasVisits n) (one_visits n) (start + 4) (drop 4 b) fs (0 ∷ []) us vs (walk_leads (drop 4 b) fs w) each k in
    same ∙ ap (λ (x : List Visit). us ++ x) (none_behind (HasVisits n) (end_of (start + 4) fs) rest behind) ∙ append-nil us

-- those so far are the first of all

pub seen_there : {seen : List Visit} {inside : ℕ} {i : Span (List Visit)} {frames : List Frame} (s : List ℕ) (vs : List Visit) → HasSeen seen inside i frames → LeadsTo (drop 4 i.bytes) frames s
    → HasVisits (suc inside) i.start i.bytes vs → (rest : List Visit) × VisitsRest (HasVisits inside) (offset_in i frames) s rest × (i.known ++ vs ≡ seen ++ rest)
seen_there {inside = inside} {i = i} {frames = frames} s vs is l has =
    let (rest, behind, same) = each_front (HasVisits inside) (one_visits inside) (i.start + 4) (drop 4 i.bytes) frames s is.visits vs l is.each has in
    (rest, behind, ap (λ (x : List Visit). i.known ++ x) same ∙ sym (append_assoc i.known is.visits rest) ∙ ap (λ (x : List Visit). x ++ rest) (sym is.seen_is))

-- the visits up to the entry into a level, those in it, and those after it
in_parts : {rest first : List Visit} (x : Visit) (before known all left others seen : List Visit) → rest ≡ first ++ others → first ≡ x ∷ (all ++ leave ∷ [])
    → known ≡ before ++ x ∷ [] → known ++ all ≡ seen ++ left → before ++ rest ≡ seen ++ (left ++ leave ∷ others)
in_parts {rest} {first} x before known all left others seen rest_is first_is known_is same =
    let parts : before ++ rest ≡ (known ++ all) ++ leave ∷ others = rw (rest_is, first_is, known_is) (simp append_assoc) in
    rw (parts, same) (append_assoc seen left (leave ∷ others))

-- with these more they are those of the level, which has some already
abbrev IsFront : List Visit → (known : List Visit) → List Visit → Type 0
IsFront seen known vs = (rest : List Visit) × (known ++ vs ≡ seen ++ rest)

front_outside : {b : List ℕ} {n : ℕ} {w : Wait (List Visit)} {i : Span (List Visit)} (seen : List Visit) → IsHeld IsEntered b n w i
    → ((vs : List Visit) → HasVisits n i.start i.bytes vs → IsFront seen i.known vs) → (vs : List Visit) → HasVisits (suc n) w.level.start w.level.bytes vs → IsFront seen w.level.known vs
front_outside {n = n} {w} {i} seen held front vs has =
    let at = offset_in w.level w.frames in
    let (rest, behind, same) = seen_there held.s vs held.knows.seen held.reaches has in
    let (first, others, its, far, rest_is) = rest_step (HasVisits n) at held.s w.f held.r w.v rest held.frame held.means behind in
    let (begin, all, ends, inner, first_is) = visits_held (HasVisits n) at w.f w.v i.bytes first held.holds its in
    let there : begin ≡ i.start = omega (arith, ends, held.ends) in
    let (left, all_is) = front all (rw there at inner) in
    (left ++ leave ∷ others, same ∙ in_parts (enter at w.f w.v) held.knows.before i.known all left others seen rest_is first_is held.knows.known_is all_is)

pub seen_front : (document : Span (List Visit)) (seen : List Visit) (inside depth : ℕ) (ws : List (Wait (List Visit))) (i : Span (List Visit)) → suc (length ws + inside) ≡ depth
    → AreHeld IsEntered document inside ws i → ((vs : List Visit) → HasVisits (suc inside) i.start i.bytes vs → IsFront seen i.known vs)
    → (vs : List Visit) → HasVisits depth document.start document.bytes vs → IsFront seen document.known vs
seen_front document seen inside depth [] i many same front vs has =
    let all : depth ≡ suc inside = omega (arith, many) in
    let own : HasVisits (suc inside) document.start document.bytes vs = subst (λ (n : ℕ). HasVisits n document.start document.bytes vs) all has in
    rw (← same) (front vs (rw same own))
seen_front document seen inside depth (w ∷ ws) i many (held, more) front vs has =
    seen_front document seen (suc inside) depth ws w.level (omega (arith, many)) more (front_outside seen held front) vs has

-- what has visits is read

module _ (n : ℕ) (nested : (start : ℕ) (sort : Sort) (d : List ℕ) (vs : List Visit) → HasVisits n start d vs → (t : Tree) × ReadsUpTo n sort d t) where
  value_stands : (at : ℕ) (f : Frame) (v : RawValue) (vs : List Visit) → VisitsValue (HasVisits n) at f v vs → (t : Tree) × StandsFor (ReadsUpTo n) v t
  value_stands at f (raw.single l) vs h = (leaf (leaf_in_order l), refl)
  value_stands at f (raw.document d) vs (start, inner, ends, has, is) = nested start as_document d inner has
  value_stands at f (raw.array d) vs (start, inner, ends, has, is) = nested start as_array d inner has
  value_stands at f (raw.scoped code d) vs (start, inner, ends, has, is) =
      let (t, read) = nested start as_document d inner has in
      let (es, same) = document_read d t (n, read) in
      (code_with_scope code es, (es, rw same at read, refl))

  stand_each : (at : ℕ) (fs : List Frame) (vs : List Visit) → VisitsEach (HasVisits n) at fs vs → (pairs : List (List ℕ × Tree)) × StandForEach (ReadsUpTo n) fs pairs
  stand_each at [] vs none = ([], refl)
  stand_each at (f ∷ fs) vs (v, first, rest, m, its, are, is) =
      let (t, stands) = value_stands at f v first its in
      let (pairs, each) = stand_each (at + size_of f) fs rest are in
      ((f.key, t) ∷ pairs, (v, t, pairs, m, stands, refl, each))

pub visits_read : (n start : ℕ) (sort : Sort) (b : List ℕ) (vs : List Visit) → HasVisits n start b vs → (t : Tree) × ReadsUpTo n sort b t
visits_read zero start sort b vs h = absurd h
visits_read (suc n) start sort b vs (frames, w, each) =
    let (pairs, stand) = stand_each n (visits_read n) (start + 4) frames vs each in
    (tree_of_pairs sort pairs, (pairs, (frames, w, stand), refl))

-- so frames that have visits stand for trees
pub frames_stand : (n at : ℕ) (fs : List Frame) (vs : List Visit) → VisitsEach (HasVisits n) at fs vs → (pairs : List (List ℕ × Tree)) × StandForEach (ReadsUpTo n) fs pairs
frames_stand n at fs vs each = stand_each n (visits_read n) at fs vs each

-- documents that are read have visits

module _ (n : ℕ) (nested : (start : ℕ) (sort : Sort) (d : List ℕ) (t : Tree) → ReadsUpTo n sort d t → (vs : List Visit) × HasVisits n start d vs) where
  level_visits : (sort : Sort) {s : List ℕ} {f : Frame} {r : List ℕ} (d : List ℕ) (t : Tree) (v : RawValue) (at : ℕ) → IsFrame s f r → Means f (value v) → Holds v d → ReadsUpTo n sort d t
      → (vs : List Visit) × VisitsLevel (HasVisits n) at f v d vs
  level_visits sort {s} {f} {r} d t v at is m holds reads =
      let start : ℕ = at + size_of f - length d in
      let (inner, has) = nested start sort d t reads in
      let ends : start + length d ≡ at + size_of f = omega (arith, nested_beside s f r v d is m holds, frame_size s f r is) in
      (enter at f v ∷ (inner ++ leave ∷ []), (start, inner, ends, has, refl))

  value_visits : {s : List ℕ} {f : Frame} {r : List ℕ} (v : RawValue) (t : Tree) (at : ℕ) → IsFrame s f r → Means f (value v) → StandsFor (ReadsUpTo n) v t
      → (vs : List Visit) × VisitsValue (HasVisits n) at f v vs
  value_visits {f = f} (raw.single l) t at is m stands = (whole at f (raw.single l) ∷ [], refl)
  value_visits (raw.document d) t at is m stands = level_visits as_document d t (raw.document d) at is m refl stands
  value_visits (raw.array d) t at is m stands = level_visits as_array d t (raw.array d) at is m refl stands
  value_visits (raw.scoped code d) t at is m (es, reads, same) = level_visits as_document d _ (raw.scoped code d) at is m refl reads

  visit_each : (s : List ℕ) (fs : List Frame) (q : List ℕ) (pairs : List (List ℕ × Tree)) (at : ℕ) → LeadsTo s fs q → StandForEach (ReadsUpTo n) fs pairs
      → (vs : List Visit) × VisitsEach (HasVisits n) at fs vs
  visit_each s [] q pairs at l each = ([], refl)
  visit_each s (f ∷ fs) q pairs at (r, is, l) (v, t, others, m, stands, same, each) =
      let (first, visits) = value_visits v t at is m stands in
      let (rest, more) = visit_each r fs q others (at + size_of f) l each in
      (first ++ rest, (v, first, rest, m, visits, more, refl))

pub reads_visits : (n start : ℕ) (sort : Sort) (b : List ℕ) (t : Tree) → ReadsUpTo n sort b t → (vs : List Visit) × HasVisits n start b vs
reads_visits zero start sort b t h = absurd h
reads_visits (suc n) start sort b t (pairs, (frames, w, each), same) =
    let (vs, visits) = visit_each n (reads_visits n) (drop 4 b) frames (0 ∷ []) pairs (start + 4) (walk_leads (drop 4 b) frames w) each in
    (vs, (frames, w, visits))

-- and frames that stand for trees have visits
pub frames_visited : (n at : ℕ) (s : List ℕ) (fs : List Frame) (q : List ℕ) (pairs : List (List ℕ × Tree)) → LeadsTo s fs q → StandForEach (ReadsUpTo n) fs pairs
    → (vs : List Visit) × VisitsEach (HasVisits n) at fs vs
frames_visited n at s fs q pairs l each = visit_each n (reads_visits n) s fs q pairs at l each
