-- What the loop that replaces texts preserves, and what follows at its end.
use Rattle.std.proofs.Common.{◌≡◌, ◌≢◌, ◌∙◌, ◌≤◌, ◌+◌, ◌++◌, ◌∷◌, [], inl, inr, ℕ, zero, suc, List, Option, None, Some, Result, Ok, Err, IsErrAnd, IfErr, length, drop, reverse, ap, arith, refl, sym, subst, length-append}
use Rattle.std.proofs.lemmas.List.{reverse-append}
use Rattle.bson_model.specs.Leaf.{Leaf}
use Rattle.raw_view.specs.Frame.Front.{StopsWith}
use Rattle.raw_view.specs.Meaning.{single}
use Rattle.raw_view.specs.declared.error.BorrowedError.{BorrowedError}
use Rattle.raw_view.specs.declared.level.Holder.TheVariants as holder
use Rattle.raw_form.specs.Replacing.{Becomes, BecomesUpTo, MeansKept}
use Rattle.raw_tree.specs.Payload.{element_bytes}
use Rattle.raw_form.specs.ReplacingSteps.{AreOpen, Completes, ExceedsAll, ExceedsFor, Opens, TellsMade, ended_level}
use Rattle.raw_form.specs.declared.replaced.Open.{Open}
use Rattle.raw_form.proofs.canonical.Common.{Error, FailsFor, Frame, Holder, IsFrame, RawValue, held_opening, holding}
use Rattle.raw_form.proofs.replaced.Kept.{one_kept}
use Rattle.raw_form.proofs.replacing.Chain.{Passes, closed_first, ended_then, ends, entered, enters, length-completes, length-ended, opens_longer, opens_within, passes, returned, stopped, too_deep}

-- an open level has more bytes, so the others are still open
begun_more : (levels : List Open) (n m : ℕ) → n ≤ m → AreOpen levels n → AreOpen levels m
begun_more [] n m l begun = tt
begun_more (level ∷ levels) n m l begun = (begun.0, omega (arith, l, begun.1), begun_more levels n m l begun.2)

-- a number that isn't 0
pub suc_of : (n : ℕ) → n ≢ zero → (m : ℕ) × (n ≡ suc m)
suc_of zero some = absurd (some refl)
suc_of (suc m) some = (m, refl)

-- The document b, which may have this many levels, becomes a if and only if the open levels become it.
pub record IsReplacing (levels : ℕ) (b : List ℕ) (waiting : List Open) (level : Open) (out : List ℕ) : Type 0 where
  pub inside : ℕ
  pub depth_is : suc inside + length waiting ≡ levels
  pub begun : AreOpen (level ∷ reverse waiting) (length out)
  pub forth : (a : List ℕ) → Completes inside (level ∷ reverse waiting) out a → BecomesUpTo levels b a
  pub back : (a : List ℕ) → BecomesUpTo levels b a → Completes inside (level ∷ reverse waiting) out a

-- at the start
pub replacing_begins : (n : ℕ) (b : List ℕ) (level : Open) (out : List ℕ) → level.elements ≡ Some (drop 4 b) → level.start ≡ 0 → level.code_len ≡ None → out ≡ held_opening holder.Document
    → IsReplacing (suc n) b [] level out
replacing_begins n b level out elements start code out_is = record {
  inside = n;
  depth_is = omega arith;
  begun = ((drop 4 b, elements), rw (start, code, out_is) (omega arith), tt);
  forth = λ a whole. (whole.0, rw elements at whole.1, whole.2 ∙ closed_first level out whole.0 start code out_is);
  back = λ a becomes. (becomes.0, rw elements becomes.1, becomes.2 ∙ sym (closed_first level out becomes.0 start code out_is));
}

module _ {levels : ℕ} {b : List ℕ} {waiting : List Open} {level : Open} {out : List ℕ} (is : IsReplacing levels b waiting level out) where
  -- the level stops
  pub replaces_none : (s : List ℕ) (e : BorrowedError) (key : Option (List ℕ)) → level.elements ≡ Some s → StopsWith e.kind key s → (a : List ℕ) → ¬ BecomesUpTo levels b a
  replaces_none s e key elements stops a becomes = stopped is.inside level (reverse waiting) out s e key elements stops a (is.back a becomes)

  -- the level is over
  module _ {s : List ℕ} (elements : level.elements ≡ Some s) (final : s ≡ 0 ∷ []) where
    pub end_exceeds : {A : Type 0} (r : Result A Error) (e : Error) → IsErrAnd r (λ x. x ≡ e) → (m : ℕ) → m ≡ length out → FailsFor (m + 1) e → IfErr r (ExceedsAll levels b)
    end_exceeds (Ok x) e same m len fails = tt
    end_exceeds (Err x) e same m len (inl memory) = rw same (inl memory)
    end_exceeds (Err x) e same m len (inr long) = inr (λ a becomes.
        let rest = ended_then is.inside level (reverse waiting) out elements final a (is.back a becomes) in
        omega (arith, len, long.0, length-ended level out, length-completes (suc is.inside) (reverse waiting) (ended_level level out) a rest))

    -- it was the document
    pub replacing_done : waiting ≡ [] → (made : List ℕ) → made ≡ ended_level level out → TellsMade levels b (Some made)
    replacing_done none made made_is =
        let waits_none : reverse waiting ≡ [] = rw none refl in
        let whole : Completes (suc is.inside) (reverse waiting) (ended_level level out) made = rw waits_none made_is in (
          is.forth made (ends is.inside level (reverse waiting) out elements final made whole),
          λ a becomes.
              let rest : Completes (suc is.inside) [] (ended_level level out) a = rw waits_none at (ended_then is.inside level (reverse waiting) out elements final a (is.back a becomes)) in
              rest ∙ sym made_is,
        )

    pub replacing_ends : (less : List Open) (outer : Open) → waiting ≡ less ++ outer ∷ [] → (more : List ℕ) → more ≡ ended_level level out → IsReplacing levels b less outer more
    replacing_ends less outer waiting_is more more_is =
        let same : reverse waiting ≡ outer ∷ reverse less = ap reverse waiting_is ∙ reverse-append less (outer ∷ []) in
        let count : length waiting ≡ suc (length less) = ap length waiting_is ∙ length-append less (outer ∷ []) ∙ (omega arith) in
        record {
          inside = suc is.inside;
          depth_is = omega (arith, is.depth_is, count);
          begun = begun_more (outer ∷ reverse less) (length out) (length more) (omega (arith, ap length more_is, length-ended level out)) (rw same at is.begun.2);
          forth = λ a rest. is.forth a (ends is.inside level (reverse waiting) out elements final a (rw (same, ← more_is) rest));
          back = λ a becomes. rw (same, ← more_is) at (ended_then is.inside level (reverse waiting) out elements final a (is.back a becomes));
        }

  -- a frame is at the front
  module _ {new : Open} {s r : List ℕ} {f : Frame} (step : Passes level new s f r) where
    open step use {new_is, start_is, code_is}

    pub put_exceeds : {A : Type 0} (r : Result A Error) (e : Error) → IsErrAnd r (λ x. x ≡ e) → (m : ℕ) → m ≡ length out → ExceedsFor f m e → IfErr r (ExceedsAll levels b)
    put_exceeds (Ok x) e same m len fails = tt
    put_exceeds (Err x) e same m len (inl memory) = rw same (inl memory)
    put_exceeds (Err x) e same m len (inr long) = inr (λ a becomes.
        let (v, w, means, is_w, rest) = returned is.inside (reverse waiting) out step a (is.back a becomes) in
        let whole = length-completes is.inside (new ∷ reverse waiting) (out ++ element_bytes f.key w) a rest in
        omega (arith, len, long is.inside v w means is_w, whole, length-append out (element_bytes f.key w)))

    pub put_none : ((v : RawValue) → ¬ MeansKept f v) → (a : List ℕ) → ¬ BecomesUpTo levels b a
    put_none fault a becomes =
        let (v, w, means, is_w, rest) = returned is.inside (reverse waiting) out step a (is.back a becomes) in
        fault v means

    still_begun : AreOpen (new ∷ reverse waiting) (length out)
    still_begun = ((r, new_is), rw (start_is, code_is) is.begun.1, is.begun.2)

    -- its element is put
    pub replacing_put : (more : List ℕ) (l : Leaf) → MeansKept f (single l) → more ≡ out ++ element_bytes f.key (single l) → IsReplacing levels b waiting new more
    replacing_put more l means more_is = record {
      inside = is.inside;
      depth_is = is.depth_is;
      begun = begun_more (new ∷ reverse waiting) (length out) (length more) (omega (arith, ap length more_is, length-append out (element_bytes f.key (single l)))) still_begun;
      forth = λ a rest. is.forth a (passes is.inside (reverse waiting) out step (single l) (single l) means refl a (rw (← more_is) rest));
      back = λ a becomes.
          let (v, w, also, is_w, rest) = returned is.inside (reverse waiting) out step a (is.back a becomes) in
          let it : v ≡ single l = one_kept f v (single l) also means in
          let w_is : w ≡ single l = subst (λ (x : RawValue). Becomes (BecomesUpTo is.inside) x w) it is_w in
          rw more_is (rw w_is at rest);
    }

    -- its level is entered
    module _ (h : Holder) (d : List ℕ) (means : MeansKept f (holding h d)) where
      pub replacing_deep : length waiting + 1 ≡ levels → (a : List ℕ) → ¬ BecomesUpTo levels b a
      replacing_deep deep a becomes =
          let none : is.inside ≡ zero = omega (arith, deep, is.depth_is) in
          let whole : Completes zero (level ∷ reverse waiting) out a = subst (λ (n : ℕ). Completes n (level ∷ reverse waiting) out a) none (is.back a becomes) in
          too_deep (reverse waiting) out d h step means a whole

      pub replacing_inside : (inner : Open) (more : List ℕ) → Opens f.key h d out more inner → length waiting + 1 ≢ levels → IsReplacing levels b (waiting ++ new ∷ []) inner more
      replacing_inside inner more opens room =
          let (n, some) = suc_of is.inside (λ none. room (omega (arith, none, is.depth_is))) in
          let same : reverse (waiting ++ new ∷ []) ≡ new ∷ reverse waiting = reverse-append waiting (new ∷ []) in
          let longer : length out ≤ length more = omega (arith, opens_longer f.key d out more h inner opens) in
          record {
            inside = n;
            depth_is = omega (arith, some, is.depth_is, length-append waiting (new ∷ []));
            begun = rw same ((drop 4 d, opens.elements), opens_within f.key d out more h inner opens, begun_more (new ∷ reverse waiting) (length out) (length more) longer still_begun);
            forth = λ a rest. is.forth a (rw some (enters n (reverse waiting) step means opens a (rw same at rest)));
            back = λ a becomes. rw same (entered n (reverse waiting) step means opens a (rw some at (is.back a becomes)));
          }
