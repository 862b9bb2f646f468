-- Which paths lead to an element in a document, one path and one element after the other.
use Rattle.std.proofs.Common.{◌≡◌, ◌∙◌, ℕ, suc, Bool, true, false, cond, List, [], ◌∷◌, ◌++◌, Option, None, Some, Result, Ok, ap, append_assoc, drop, refl, subst, sym}
use Rattle.raw_view.specs.Frame.{Done, Frame, IsFrame, IsWalk}
use Rattle.raw_view.specs.Frame.ElementSteps.{frame_of}
use Rattle.raw_view.specs.Frame.Front.{StepsFront}
use Rattle.raw_view.specs.declared.element.RawElement.{RawElement}
use Rattle.raw_view.specs.declared.error.BorrowedError.{BorrowedError}
use Rattle.dump_commands.specs.elements.Cut.{Fate, fate_of}
use Rattle.dump_commands.specs.elements.Having.{AreHad, Has, HasEach, HasNamed, IsHad}
use Rattle.dump_commands.specs.elements.Pick.{comma, parts}
use Rattle.dump_commands.specs.declared.picking.Choice.{Choice}
use Rattle.dump_commands.proofs.elements.Picked.{LacksByte, parts_at, parts_last}

-- what was found of the paths before, and what is found of those of the rest, is what is found of all
abbrev pub HadOn : Choice → (b text : List ℕ) → (done : List Bool) → (rest : List ℕ) → Type 0
HadOn c b text done rest = (flags : List Bool) → HasEach c b (parts comma rest) flags → HasEach c b (parts comma text) (done ++ flags)

pub had_begins : (c : Choice) (b text : List ℕ) (done : List Bool) → done ≡ [] → HadOn c b text done text
had_begins c b text done none flags has = subst (λ (x : List Bool). HasEach c b (parts comma text) (x ++ flags)) (sym none) has

pub had_more : (c : Choice) (b text : List ℕ) (done : List Bool) (rest path more : List ℕ) (had : Bool) → HadOn c b text done rest → rest ≡ path ++ comma ∷ more
    → LacksByte comma path → Has c b path had → HadOn c b text (done ++ had ∷ []) more
had_more c b text done rest path more had on split lacks has flags others =
    let cut : parts comma rest ≡ path ∷ parts comma more = ap (parts comma) split ∙ parts_at comma path more lacks in
    let whole = on (had ∷ flags) (subst (λ (xs : List (List ℕ)). HasEach c b xs (had ∷ flags)) (sym cut) (had, flags, has, others, refl)) in
    subst (HasEach c b (parts comma text)) (sym (append_assoc done (had ∷ []) flags)) whole

pub had_same : (c : Choice) (b text : List ℕ) (done done' : List Bool) (rest : List ℕ) → done' ≡ done → HadOn c b text done rest → HadOn c b text done' rest
had_same c b text done done' rest same on = subst (λ (x : List Bool). HadOn c b text x rest) (sym same) on

pub had_last : (c : Choice) (b text : List ℕ) (done done' : List Bool) (rest : List ℕ) (had : Bool) → HadOn c b text done rest → LacksByte comma rest → Has c b rest had
    → done' ≡ done ++ had ∷ [] → HasEach c b (parts comma text) done'
had_last c b text done done' rest had on lacks has is =
    subst (HasEach c b (parts comma text)) (sym is)
    (on (had ∷ []) (subst (λ (xs : List (List ℕ)). HasEach c b xs (had ∷ [])) (sym (parts_last comma rest lacks)) (had, [], has, refl, refl)))

pub or_false : (had : Bool) → had ≡ cond had true false
or_false true = refl
or_false false = refl

pub or_true : (had : Bool) → true ≡ cond had true true
or_true true = refl
or_true false = refl

or_assoc : (done here others : Bool) → cond (cond done true here) true others ≡ cond done true (cond here true others)
or_assoc true here others = refl
or_assoc false here others = refl

-- a level: its bytes, whether it is an array, and the paths that lead on from it, over how many levels at most
pub record Level : Type 0 where
  pub levels : ℕ
  pub in_array : Bool
  pub paths : List (List ℕ)
  pub bytes : List ℕ

-- whether it has an element that they name
abbrev pub IsHadIn : Level → Bool → Type 0
IsHadIn v had = HasNamed v.levels v.in_array v.paths v.bytes had

-- the same with a level more
abbrev pub IsHadFully : Level → Bool → Type 0
IsHadFully v had = HasNamed (suc v.levels) v.in_array v.paths v.bytes had

pub named_same : (v w : Level) (had : Bool) → v ≡ w → IsHadIn v had → IsHadIn w had
named_same v w had e is = subst (λ (x : Level). IsHadIn x had) e is

-- what was found of the elements before, and what is found of the remaining ones, is what is found of the level
abbrev pub NamesOn : Level → (done : Bool) → (left : Option (List ℕ)) → Type 0
NamesOn v done None = ⊥
NamesOn v done (Some s) =
    (frames : List Frame) (others : Bool) → IsWalk s frames Done → AreHad (HasNamed v.levels) v.in_array v.paths frames others → IsHadFully v (cond done true others)

pub names_begin : (v : Level) (left : Option (List ℕ)) → left ≡ Some (drop 4 v.bytes) → NamesOn v false left
names_begin v left begins = subst (λ (x : Option (List ℕ)). NamesOn v false x) (sym begins) (λ frames others walk had. (frames, walk, had))

-- what comes of an element after this: its fate, and whether it or one inside it is named
pub record Joins (v : Level) (done done' : Bool) (f : Frame) : Type 0 where
  pub fate : Fate
  pub here : Bool
  pub same : fate ≡ fate_of true v.in_array v.paths f
  pub had : IsHad (HasNamed v.levels) fate f here
  pub joins : done' ≡ cond done true here

-- an element more
names_more : (v : Level) (done done' : Bool) (s r : List ℕ) (f : Frame) → NamesOn v done (Some s) → IsFrame s f r → Joins v done done' f → NamesOn v done' (Some r)
names_more v done done' s r f on frame join frames others walk rest =
    let whole = on (f ∷ frames) (cond join.here true others) (r, frame, walk)
    (join.here, others, subst (λ (x : Fate). IsHad (HasNamed v.levels) x f join.here) join.same join.had, rest, refl) in
    subst (IsHadFully v) (sym (or_assoc done join.here others) ∙ ap (λ (x : Bool). cond x true others) (sym join.joins)) whole

pub names_step : (v : Level) (done done' : Bool) (old new : Option (List ℕ)) (e : RawElement) → StepsFront old (Some (Ok e)) new → NamesOn v done old
    → Joins v done done' (frame_of e) → NamesOn v done' new
names_step v done done' None new e steps on join = absurd on
names_step v done done' (Some s) new e (r, frame, now) on join =
    subst (λ (x : Option (List ℕ)). NamesOn v done' x) (sym now) (names_more v done done' s r (frame_of e) on frame join)

-- no element is left
pub names_done : (v : Level) (done : Bool) (old new : Option (List ℕ)) (item : Option (Result RawElement BorrowedError)) → StepsFront old item new → item ≡ None
    → NamesOn v done old → IsHadFully v done
names_done v done None new item steps is on = absurd on
names_done v done (Some s) new item steps is on =
    let (ends, now) = subst (λ (x : Option (Result RawElement BorrowedError)). StepsFront (Some s) x new) is steps in
    subst (IsHadFully v) (sym (or_false done)) (on [] false ends refl)
