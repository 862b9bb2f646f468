-- A text that is written block by block, of a document that may have a barrier.
use Rattle.bson_to_json.proofs.Common.{Grows, GrowsFront, Guards, IsJson, Limits, Moves, PrintError, ReadsWithin, Style, TellsBarrier, TellsError, TellsPassError, TellsPrintError, Tree, WroteBefore, WroteWithin, error_of}
use Rattle.std.proofs.Common.{◌≡◌, ◌≤◌, ◌++◌, [], inl, inr, Bool, true, false, ℕ, suc, List, Some, Result, Ok, Err, IfErr, IsErrAnd, length, refl, sym, ap, ◌∙◌, subst, append_assoc, append-nil}
use Rattle.raw_tree.specs.Barriers.{TellsBarrierWithin}
use Rattle.raw_tree.specs.declared.walk.barrier.Barrier.{Barrier}
use Rattle.raw_tree.specs.declared.walk.WalkError.{WalkError}
use Rattle.raw_tree.specs.declared.walk.WalkError.TheVariants as error
use Rattle.raw_tree.proofs.Face.{barrier_told}
use Rattle.bson_to_json.specs.declared.sink.Failure.{Failure}
use Rattle.bson_to_json.specs.declared.sink.Failure.TheVariants as failure
use Rattle.bson_to_json.specs.declared.print.PrintError.TheVariants as print

-- what `?` returns says the same as what it was made of
pub told_as : {T : Type 0} (P : PrintError → Type 0) (r : Result T PrintError) (e : PrintError) → IsErrAnd r (λ y. y ≡ e) → P e → IfErr r P
told_as P (Ok x) e is told = absurd is
told_as P (Err y) e is told = subst P (sym is) told

module _ {S : Type 0} (has : S → ℕ → List ℕ → Type 0) where
  grows_trans : (old now new : S) (bs cs : List ℕ) → Grows has old now bs → Grows has now new cs → Grows has old new (bs ++ cs)
  grows_trans old now new bs cs f g most text h = subst (λ (x : List ℕ). has new most x) (append_assoc text bs cs) (g most (text ++ bs) (f most text h))

  -- what was written, followed by the block, which wasn't written yet, is this text
  pub record IsHeld (old now : S) (block text : List ℕ) : Type 0 where
    pub passed : List ℕ
    pub put : Grows has old now passed
    pub whole : passed ++ block ≡ text

module _ {S : Type 0} {has : S → ℕ → List ℕ → Type 0} {old now : S} {block text : List ℕ} (held : IsHeld has old now block text) where
  pub held_moves : (new : S) (left : List ℕ) → Moves has now new block left → IsHeld has old new left text
  held_moves new left moves = record {
    passed = held.passed ++ moves.moved;
    put = grows_trans has old now new held.passed moves.moved held.put moves.put;
    whole = append_assoc held.passed moves.moved left ∙ ap (λ (x : List ℕ). held.passed ++ x) (sym moves.whole) ∙ held.whole;
  }

  pub held_more : (piece more : List ℕ) → more ≡ block ++ piece → IsHeld has old now more (text ++ piece)
  held_more piece more put = record {
    passed = held.passed;
    put = held.put;
    whole = ap (λ (x : List ℕ). held.passed ++ x) put ∙ sym (append_assoc held.passed block piece) ∙ ap (λ (x : List ℕ). x ++ piece) held.whole;
  }

  pub held_whole : (new : S) → Grows has now new block → Grows has old new text
  held_whole new put = subst (Grows has old new) held.whole (grows_trans has old now new held.passed block held.put put)

-- the text is a prefix of one of the document b, if b is read
abbrev pub IsFrontOf : Style → Limits → (b text : List ℕ) → Type 0
IsFrontOf style limits b text = (t : Tree) → ReadsWithin limits b t → (more : List ℕ) × IsJson style b (text ++ more)

module _ {S : Type 0} {has : S → ℕ → List ℕ → Type 0} (style : Style) {limits : Limits} {b : List ℕ} {old now : S} {block text : List ℕ}
    (held : IsHeld has old now block text) (is : IsFrontOf style limits b text) where
  wrote_within : (new : S) (t : Tree) → ReadsWithin limits b t → GrowsFront has now new block → WroteWithin has style limits b old new
  wrote_within new t within f =
      let (more, json) = is t within in
      let front : GrowsFront has old new (text ++ more) = record {
        front = held.passed ++ f.front;
        behind = f.behind ++ more;
        whole = ap (λ (x : List ℕ). x ++ more) (sym held.whole ∙ ap (λ (x : List ℕ). held.passed ++ x) f.whole) ∙ simp append_assoc refl;
        put = grows_trans has old now new held.passed f.front held.put f.put;
      } in
      (t, within, (text ++ more, json, front))

  wrote_before : (unseen : Bool) → Guards limits b unseen old now → WroteBefore has style limits b old now (print.Failure failure.OutOfMemory)
  wrote_before true guard = inl guard
  wrote_before false guard =
      let nothing : GrowsFront has now now block = record { front = []; behind = block; whole = refl; put = λ most taken h. subst (has now most) (sym (append-nil taken)) h } in
      inr (wrote_within now guard.t guard.within nothing)

  wrote_none : (unseen : Bool) (answer : Barrier) → Guards limits b unseen old now → TellsBarrier limits b (Some answer) → now ≡ old
  wrote_none true answer guard told = guard
  wrote_none false answer guard told = absurd (guard.none answer told)

  module _ (few : length b ≤ limits.bytes) (careful unseen : Bool) (guard : careful ≡ true → Guards limits b unseen old now) where
    -- a block isn't passed on
    pub print_stops : (new : S) (e : PrintError) → TellsPassError has limits b unseen now new block e → TellsPrintError has style limits b careful old new e
    print_stops new (print.Barrier answer) told = (told.0, λ safe. told.1 old (guard safe))
    print_stops new (print.Failure failure.OutOfMemory) told =
        (few, λ safe. elim (told old (guard safe)) [ inl same ↦ inl same | inr (seen, f) ↦ inr (wrote_within new seen.t seen.within f) ])
    print_stops new (print.Failure (failure.Writing e)) told = (few, λ safe. let (seen, f) = told old (guard safe) in wrote_within new seen.t seen.within f)

    -- memory ran out
    pub print_fails : TellsPrintError has style limits b careful old now (print.Failure failure.OutOfMemory)
    print_fails = (few, λ safe. wrote_before unseen (guard safe))

    -- the walk can't continue
    pub print_barred : (most : ℕ) (e : WalkError) → suc most ≡ limits.depth → TellsError most b e → TellsPrintError has style limits b careful old now (error_of e)
    print_barred most (error.Barrier answer) levels told =
        let first = barrier_told limits b (Ok (Some answer)) few (subst (λ (n : ℕ). TellsBarrierWithin n b (Some answer)) levels told) in
        (first, λ safe. wrote_none unseen answer (guard safe) first)
    print_barred most error.OutOfMemory levels told = print_fails

-- the document is read, and the last block isn't taken whole
pub print_ends_early : {S : Type 0} {has : S → ℕ → List ℕ → Type 0} {limits : Limits} {b : List ℕ} {old now : S} {block text : List ℕ} (style : Style) (careful : Bool) (new : S) (f : Failure)
    → IsHeld has old now block text → IsJson style b text → ((t : Tree) × ReadsWithin limits b t) → GrowsFront has now new block
    → TellsPrintError has style limits b careful old new (print.Failure f)
print_ends_early {has = has} {limits = limits} {b = b} {old = old} {text = text} style careful new f held json (t, within) taken =
    tells f (wrote_within style held (λ _ _. ([], subst (IsJson style b) (sym (append-nil text)) json)) new t within taken)
  where
    tells : (f : Failure) → WroteWithin has style limits b old new → TellsPrintError has style limits b careful old new (print.Failure f)
    tells failure.OutOfMemory wrote = (within.few_bytes, λ _. inr wrote)
    tells (failure.Writing e) wrote = (within.few_bytes, λ _. wrote)
