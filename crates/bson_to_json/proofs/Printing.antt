-- The text of the events of a walk over all levels of a document.
use Rattle.bson_to_json.proofs.Common.{AreMembersJson, Frame, HasVisits, IsJson, IsJsonUpTo, IsSingleJson, IsValueJson, RawValue, Style, Visit, VisitsEach, VisitsLevel, VisitsValue, after, before_scope, end_of, end_text, head_of, head_text, level_sort, opening, opening_text, size_of, sort_of}
use Rattle.std.proofs.Common.{◌≡◌, ◌+◌, ℕ, zero, suc, Bool, true, false, List, [], ◌∷◌, ◌++◌, codes, length, length-append, refl, sym, ap, ◌∙◌, subst, arith, append_assoc, append-nil}
use Rattle.raw_view.specs.Meaning as raw
use Rattle.raw_tree.specs.Reading as reading
use Rattle.raw_tree.specs.Visits.{whole, enter, leave}
use Rattle.bson_to_json.specs.declared.level.Sort.{Sort}
use Rattle.bson_to_json.specs.declared.level.Sort.TheVariants as sort
use Rattle.bson_to_json.proofs.Texts.{leaf_has}
use Rattle.bson_to_json.specs.declared.style.Format.{Format}

-- each value that holds no others has a text
single_has : (format : Format) (v : RawValue) → (text : List ℕ) × IsSingleJson format v text
single_has format (raw.single l) = leaf_has format l
single_has format (raw.document d) = ([], refl)
single_has format (raw.array d) = ([], refl)
single_has format (raw.scoped code d) = ([], refl)

-- A place in a text: the sorts of the waiting levels, the outermost first; the sort of the innermost; and whether nothing of it was printed yet.
pub record Place : Type 0 where
  pub waits : List Sort
  pub sort : Sort
  pub first : Bool

abbrev pub place : List Sort → Sort → Bool → Place
place os o first = record { waits = os; sort = o; first = first }

-- the place after a level of this sort: in the last waiting level, or still in this one if none waits
abbrev pub around : List Sort → Sort → Place
around [] o = place [] o false
around (p ∷ []) o = place [] p false
around (p ∷ q ∷ os) o = let outer = around (q ∷ os) o in place (p ∷ outer.waits) outer.sort false

pub around_last : (os : List Sort) (p o : Sort) → around (os ++ p ∷ []) o ≡ place os p false
around_last [] p o = refl
around_last (q ∷ []) p o = refl
around_last (q ∷ r ∷ os) p o = ap (λ (s : Place). place (q ∷ s.waits) s.sort false) (around_last (r ∷ os) p o)

abbrev pub behind : Place → Visit → Place
behind s (whole at f v) = place s.waits s.sort false
behind s (enter at f v) = place (s.waits ++ s.sort ∷ []) (sort_of v) true
behind s leave = around s.waits s.sort

-- before anything of a document but its bracket
abbrev pub begun : Place
begun = place [] sort.Document true

enclosed : (a b c d e f : List ℕ) {text opened others closing closed : List ℕ} → text ≡ opened ++ others → opened ≡ a ++ b → others ≡ c ++ closing → closing ≡ closed ++ f → closed ≡ d ++ e
    → text ≡ (a ++ (b ++ ((c ++ d) ++ e))) ++ f
enclosed a b c d e f all first second third fourth =
    all ∙ (λ i. first i ++ (second ∙ ap (λ (t : List ℕ). c ++ t) (third ∙ ap (λ (t : List ℕ). t ++ f) fourth)) i) ∙ simp append_assoc refl

continued : (a b c : List ℕ) {text others : List ℕ} → text ≡ a ++ others → others ≡ b ++ c → text ≡ (a ++ b) ++ c
continued a b c all more = all ∙ ap (λ (t : List ℕ). a ++ t) more ∙ sym (append_assoc a b c)

joined : (a b c d : List ℕ) {first : List ℕ} → first ≡ a ++ b → (first ++ c) ++ d ≡ a ++ (b ++ (c ++ d))
joined a b c d {first} is = append_assoc first c d ∙ ap (λ (t : List ℕ). t ++ (c ++ d)) is ∙ append_assoc a b (c ++ d)

module _ (style : Style) where
  -- what a visit adds to the text
  abbrev pub IsPiece : Place → Visit → List ℕ → Type 0
  IsPiece s (whole at f v) piece = (shown : List ℕ) × IsSingleJson style.format v shown × (piece ≡ head_of style s.first s.waits s.sort f.key ++ shown)
  IsPiece s (enter at f v) piece = piece ≡ head_of style s.first s.waits s.sort f.key ++ opening_text v
  IsPiece s leave piece = piece ≡ end_of style s.first s.waits s.sort

  -- these visits have this text, from one place to the other
  abbrev pub AreWritten : Place → List Visit → List ℕ → Place → Type 0
  AreWritten s [] text to = (text ≡ []) × (to ≡ s)
  AreWritten s (x ∷ xs) text to = (piece others : List ℕ) × IsPiece s x piece × AreWritten (behind s x) xs others to × (text ≡ piece ++ others)

  pub written_on : (s m to : Place) (xs ys : List Visit) (a b : List ℕ) → AreWritten s xs a m → AreWritten m ys b to → AreWritten s (xs ++ ys) (a ++ b) to
  written_on s m to [] ys a b (none, same) more = rw (none, sym same) more
  written_on s m to (x ∷ xs) ys a b (piece, others, is, are, all) more =
      (piece, others ++ b, is, written_on (behind s x) m to xs ys others b are more, ap (λ (t : List ℕ). t ++ b) all ∙ append_assoc piece others b)

  -- each list of visits has a text
  piece_has : (s : Place) (x : Visit) → (piece : List ℕ) × IsPiece s x piece
  piece_has s (whole at f v) = let (shown, json) = single_has style.format v in (head_of style s.first s.waits s.sort f.key ++ shown, (shown, json, refl))
  piece_has s (enter at f v) = (head_of style s.first s.waits s.sort f.key ++ opening_text v, refl)
  piece_has s leave = (end_of style s.first s.waits s.sort, refl)

  written_has : (s : Place) (xs : List Visit) → (text : List ℕ) × (to : Place) × AreWritten s xs text to
  written_has s [] = ([], s, (refl, refl))
  written_has s (x ∷ xs) =
      let (piece, is) = piece_has s x in
      let (others, to, are) = written_has (behind s x) xs in (piece ++ others, to, (piece, others, is, are, refl))

  -- a text that begins with that of these visits, from this place, begins with one of which P holds, and then is in the same level
  abbrev Tell : Place → List Visit → (P : (last : Bool) → List ℕ → Type 0) → Type 0
  Tell s vs P =
      (zs : List Visit) (text : List ℕ) (to : Place) → AreWritten s (vs ++ zs) text to
      → (last : Bool) × (front others : List ℕ) × P last front × AreWritten (place s.waits s.sort last) zs others to × (text ≡ front ++ others)

  abbrev end_in : Place → (last : Bool) → List ℕ
  end_in s last = end_text style.layout (length s.waits) (level_sort s.sort) last

  -- a text followed by its brackets is that of the bytes d, whose level this is
  abbrev IsLevelText : ℕ → Place → List ℕ → (last : Bool) → List ℕ → Type 0
  IsLevelText n s d last text = IsJsonUpTo style n (length s.waits) (level_sort s.sort) d (opening (level_sort s.sort) ∷ (text ++ end_in s last))

  -- this holds of the visits of all bytes with at most n levels
  abbrev AreLevelTexts : ℕ → Type 0
  AreLevelTexts n = (start : ℕ) (os : List Sort) (o : Sort) (d : List ℕ) (vs : List Visit) → HasVisits n start d vs → Tell (place os o true) vs (IsLevelText n (place os o true) d)

  module _ (n : ℕ) (nested : AreLevelTexts n) where
    abbrev Nested : Place → reading.Sort → List ℕ → List ℕ → Type 0
    Nested s = IsJsonUpTo style n (suc (length s.waits))

    -- a value after its head
    abbrev IsHeaded : Place → Frame → RawValue → (last : Bool) → List ℕ → Type 0
    IsHeaded s f v last text =
        (shown : List ℕ) × (last ≡ false) × IsValueJson style (length s.waits) (Nested s) v shown × (text ≡ head_of style s.first s.waits s.sort f.key ++ shown)

    -- a value that holds the level d, whatever the members of that are
    held_text : (at : ℕ) (s : Place) (f : Frame) (v : RawValue) (d : List ℕ) (vs : List Visit)
        → ((members : List ℕ) → Nested s (level_sort (sort_of v)) d (opening (level_sort (sort_of v)) ∷ members)
        → IsValueJson style (length s.waits) (Nested s) v (opening_text v ++ (members ++ after (sort_of v)))) → VisitsLevel (HasVisits n) at f v d vs → Tell s vs (IsHeaded s f v)
    held_text at s f v d vs around_is (start, inner, ends, has, all) zs text to are =
        let os = s.waits ++ s.sort ∷ [] in
        let p = sort_of v in
        let (opened, others, opened_is, are_others, text_is) = subst (λ (xs : List Visit). AreWritten s (xs ++ zs) text to) all are in
        let (last, front, closing, json, (closed, more, closed_is, goes_on, closing_is), others_is) = nested start os p d inner has (leave ∷ zs) others to
        (subst (λ (xs : List Visit). AreWritten (place os p true) xs others to) (append_assoc inner (leave ∷ []) zs) are_others) in
        let deeper : length os ≡ suc (length s.waits) = length-append s.waits (s.sort ∷ []) ∙ omega arith in
        let members = front ++ end_in (place os p true) last in
        let shown = opening_text v ++ (members ++ after p) in
        let head = head_of style s.first s.waits s.sort f.key in (
          false,
          head ++ shown,
          more,
          (shown, refl, around_is members (subst (λ (k : ℕ). IsJsonUpTo style n k (level_sort p) d (opening (level_sort p) ∷ members)) deeper json), refl),
          subst (λ (x : Place). AreWritten x zs more to) (around_last s.waits s.sort p) goes_on,
          enclosed head (opening_text v) front (end_in (place os p true) last) (after p) more text_is opened_is others_is closing_is closed_is,
        )

    value_text : (at : ℕ) (s : Place) (f : Frame) (v : RawValue) (vs : List Visit) → VisitsValue (HasVisits n) at f v vs → Tell s vs (IsHeaded s f v)
    value_text at s f (raw.single l) vs is zs text to are =
        let (piece, others, (shown, json, piece_is), goes_on, all) = subst (λ (xs : List Visit). AreWritten s (xs ++ zs) text to) is are in
        (false, piece, others, (shown, refl, json, piece_is), goes_on, all)
    value_text at s f (raw.document d) vs is zs text to are = held_text at s f (raw.document d) d vs (λ members json. rw (append-nil members) json) is zs text to are
    value_text at s f (raw.array d) vs is zs text to are = held_text at s f (raw.array d) d vs (λ members json. rw (append-nil members) json) is zs text to are
    value_text at s f (raw.scoped code d) vs is zs text to are =
        held_text at s f (raw.scoped code d) d vs (λ members json. (123 ∷ members, json, append_assoc (before_scope code) (codes "{") (members ++ codes "}"))) is zs text to are

    -- members, with the end of their level
    each_text : (at : ℕ) (s : Place) (fs : List Frame) (vs : List Visit) → VisitsEach (HasVisits n) at fs vs
        → Tell s vs (λ last text. AreMembersJson style (length s.waits) (Nested s) (level_sort s.sort) s.first fs (text ++ end_in s last))
    each_text at s [] vs none zs text to are = (s.first, [], text, refl, subst (λ (xs : List Visit). AreWritten s (xs ++ zs) text to) none are, refl)
    each_text at s (f ∷ fs) vs (v, xs, ys, means, value, each, all) zs text to are =
        let (one_last, one, others, (shown, behind_one, json, one_is), goes_on, text_is) = value_text at s f v xs value (ys ++ zs) text to
        (subst (λ (us : List Visit). AreWritten s us text to) (ap (λ (us : List Visit). us ++ zs) all ∙ append_assoc xs ys zs) are) in
        let (last, front, rest, members, goes_further, others_is) = each_text (at + size_of f) (place s.waits s.sort false) fs ys each zs others to
        (subst (λ (b : Bool). AreWritten (place s.waits s.sort b) (ys ++ zs) others to) behind_one goes_on) in
        let head = head_text style.layout (suc (length s.waits)) (level_sort s.sort) s.first f.key in
        let deeper : length s.waits + 1 ≡ suc (length s.waits) = omega arith in
        let one_headed = one_is ∙ ap (λ (k : ℕ). head_text style.layout k (level_sort s.sort) s.first f.key ++ shown) deeper in (
          last,
          one ++ front,
          rest,
          (v, shown, front ++ end_in s last, means, json, members, joined head shown front (end_in s last) one_headed),
          goes_further,
          continued one front rest text_is others_is,
        )

  level_text : (n : ℕ) → AreLevelTexts n
  level_text zero start os o d vs has zs text to are = absurd has
  level_text (suc n) start os o d vs (frames, walk, each) zs text to are =
      let (last, front, others, members, goes_on, text_is) = each_text n (level_text n) (start + 4) (place os o true) frames vs each zs text to are in
      (last, front, others, (frames, front ++ end_in (place os o true) last, walk, members, refl), goes_on, text_is)

  -- the visits of a document have its text, without its brackets
  pub document_text : (n : ℕ) (b : List ℕ) (vs : List Visit) (text : List ℕ) (to : Place) → HasVisits n 0 b vs → AreWritten begun vs text to
      → (last : Bool) × (to ≡ place [] sort.Document last) × IsJson style b (123 ∷ (text ++ end_of style last [] sort.Document))
  document_text n b vs text to has are =
      let (last, front, others, json, (none, there), text_is) =
      level_text n 0 [] sort.Document b vs has [] text to (subst (λ (xs : List Visit). AreWritten begun xs text to) (sym (append-nil vs)) are) in
      let all : front ++ end_text style.layout 0 reading.as_document last ≡ text ++ end_of style last [] sort.Document =
      (λ i. (sym (append-nil front) ∙ ap (λ (t : List ℕ). front ++ t) (sym none) ∙ sym text_is) i ++ sym (append-nil (end_text style.layout 0 reading.as_document last)) i) in
      (last, there, (n, subst (λ (t : List ℕ). IsJsonUpTo style n 0 reading.as_document b (123 ∷ t)) all json))

  -- the text of the first visits of a document is a prefix of one of the document
  pub front_text : (n : ℕ) (b : List ℕ) (vs seen rest : List Visit) (told : List ℕ) (here : Place) → HasVisits n 0 b vs → vs ≡ seen ++ rest → AreWritten begun seen told here
      → (more : List ℕ) × IsJson style b (123 ∷ (told ++ more))
  front_text n b vs seen rest told here has all are =
      let (more, to, others) = written_has here rest in
      let (last, there, json) = document_text n b (seen ++ rest) (told ++ more) to (subst (HasVisits n 0 b) all has) (written_on begun here to seen rest told more are others) in
      (more ++ end_of style last [] sort.Document, subst (λ (t : List ℕ). IsJson style b (123 ∷ t)) (append_assoc told more (end_of style last [] sort.Document)) json)
