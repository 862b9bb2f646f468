-- A walk over a document whose levels are printed.
use Rattle.bson_to_json.proofs.Common.{Comes, ComesTo, HasCome, IsJson, Limits, PutsEvent, RawDocument, ReadsUpTo, ReadsWithin, Style, Suits, Tree, Visit, Walk, bytes_of, end_of, frame_of, head_of, ne_eqb, opening_text, value_of}
use Rattle.std.proofs.Common.{◌≡◌, ◌≤◌, ◌<◌, ◌-◌, ℕ, suc, Bool, true, false, nat_eq, List, [], ◌∷◌, ◌++◌, Ok, length, length-append, refl, sym, ap, ◌∙◌, subst, arith, append_assoc, append-nil}
use Rattle.raw_view.specs.Meaning.Value.{held_value}
use Rattle.raw_tree.specs.declared.walk.level.Level as walk
use Rattle.raw_tree.specs.declared.walk.Event.{Event}
use Rattle.raw_tree.specs.declared.walk.Event.TheVariants as event
use Rattle.raw_tree.specs.Reading.{as_document}
use Rattle.raw_tree.proofs.Face.{come_front, read_within, reads_visits, to_depth}
use Rattle.raw_tree.specs.Visits.{whole, enter, leave}
use Rattle.bson_to_json.specs.declared.level.Sort.{Sort}
use Rattle.bson_to_json.proofs.Blocks.{IsFrontOf}
use Rattle.bson_to_json.proofs.Printing.{AreWritten, IsPiece, Place, around, around_last, begun, behind, document_text, front_text, place, written_on}

-- The walk has come to some visits, whose text with the first bracket is `told`. These are the sorts of the waiting levels.
pub record IsGoing (style : Style) (limits : Limits) (document : RawDocument) (w : Walk) (l : walk.Level) (sorts : List Sort) (o : Sort) (told : List ℕ) : Type 0 where
  pub few : length (bytes_of document) ≤ limits.bytes
  pub most : ℕ
  pub levels : suc most ≡ limits.depth
  pub seen : List Visit
  pub come : HasCome document most w l seen
  pub as_many : length sorts ≡ length w.waiting.items
  pub text : AreWritten style begun seen told (place sorts o (nat_eq l.number 0))

some_number : (n : ℕ) → 0 < n → nat_eq n 0 ≡ false
some_number n more = ne_eqb n 0 (λ none. omega (arith, more, none))

module _ {style : Style} {limits : Limits} {document : RawDocument} {w : Walk} {l : walk.Level} {sorts : List Sort} {o : Sort} {told : List ℕ}
    (is : IsGoing style limits document w l sorts o told) where
  abbrev b : List ℕ
  b = bytes_of document

  abbrev here : Place
  here = place sorts o (nat_eq l.number 0)

  -- a document that is read continues with the remaining visits, which have a text
  pub going_is_front : IsFrontOf style limits b (123 ∷ told)
  going_is_front t within =
      let (vs, visits) = reads_visits (suc is.most) 0 as_document b t (subst (λ (n : ℕ). ReadsUpTo n as_document b t) (sym is.levels) (to_depth limits b t within)) in
      let (rest, all) = come_front is.come vs visits in
      front_text style (suc is.most) b vs is.seen rest told here visits all is.text

  -- After an event one more piece is written and the walk is further on; or the text is complete.
  abbrev pub Adds : Walk → walk.Level → List Sort → Sort → (ended : Bool) → List ℕ → Type 0
  Adds new to ps p false piece = IsGoing style limits document new to ps p (told ++ piece) × (length b - to.offset < length b - l.offset)
  Adds new to ps p true piece = IsJson style b (123 ∷ (told ++ piece)) × (t : Tree) × ReadsWithin limits b t

  going_behind : {new : Walk} {to : walk.Level} (x : Visit) (piece : List ℕ) (ps : List Sort) (p : Sort) → ComesTo document is.most l is.seen new to x → IsPiece style here x piece
      → place ps p (nat_eq to.number 0) ≡ behind here x → length ps ≡ length new.waiting.items → Adds new to ps p false piece
  going_behind {new} {to} x piece ps p comes adds there as_many = (
    record {
      few = is.few;
      most = is.most;
      levels = is.levels;
      seen = is.seen ++ x ∷ [];
      come = comes.come;
      as_many = as_many;
      text = written_on style begun here (place ps p (nat_eq to.number 0)) is.seen (x ∷ []) told piece is.text (piece, [], adds, (refl, there), sym (append-nil piece));
    },
    omega (arith, comes.further, comes.within),
  )

  pub going_on : (new : Walk) (to : walk.Level) (ps : List Sort) (p : Sort) (block more : List ℕ) (ended : Bool) (e : Event) → Comes document is.most is.seen w l new to (Ok e)
      → PutsEvent style (nat_eq l.number 0) e sorts o block ps p more ended → (piece : List ℕ) × (more ≡ block ++ piece) × Adds new to ps p ended piece
  going_on new to ps p block more ended (event.Whole e v) came (going, ps_are, p_is, (shown, json, put)) =
      let head = head_of style (nat_eq l.number 0) sorts o (frame_of e).key in
      let some = some_number to.number (omega (arith, came.2)) in
      let adds = going_behind (whole l.offset (frame_of e) (value_of v)) (head ++ shown) sorts o came.0 (shown, json, refl) (λ i. place sorts o (some i)) (is.as_many ∙ sym came.3) in
      rw (going, ps_are, p_is) (head ++ shown, put ∙ append_assoc block head shown, adds)
  going_on new to ps p block more ended (event.Enter e inner) came (going, ps_are, (p_is, put)) =
      let head = head_of style (nat_eq l.number 0) sorts o (frame_of e).key in
      let piece = head ++ opening_text (held_value inner) in
      let adds = going_behind (enter l.offset (frame_of e) (held_value inner)) piece ps p came.0 refl (λ i. place (ps_are i) (p_is i) (nat_eq (came.1 i) 0))
      (omega (arith, ap length ps_are, length-append sorts (o ∷ []), is.as_many, came.2)) in
      rw going (piece, put ∙ append_assoc block head (opening_text (held_value inner)), adds)
  going_on new to ps p block more ended event.Leave (comes, number, waits) (going, sorts_are, put) =
      let there = (λ i. place ps p (some_number to.number number i)) ∙ sym (ap (λ (os : List Sort). around os o) sorts_are ∙ around_last ps p o) in
      rw going (_, put, going_behind leave _ ps p comes refl there (omega (arith, ap length sorts_are, length-append ps (p ∷ []), is.as_many, waits)))
  going_on new to ps p block more ended event.End (visits, (t, reads), none) (going, put) =
      let (last, there, json) = document_text style (suc is.most) b is.seen told here visits is.text in
      let whole_text = subst (λ (s : Place). IsJson style b (123 ∷ (told ++ end_of style s.first s.waits s.sort))) (sym there) json in
      rw going (_, put, (whole_text, t, read_within limits b t is.few (subst (λ (n : ℕ). ReadsUpTo n as_document b t) is.levels reads)))

  -- what the walk comes to fits the levels
  pub going_suits : (new : Walk) (to : walk.Level) (e : Event) → Comes document is.most is.seen w l new to (Ok e) → Suits e sorts
  going_suits new to e comes leaves none =
      let left = subst (λ (x : Event). Comes document is.most is.seen w l new to (Ok x)) leaves comes in omega (arith, ap length none, is.as_many, left.2)
