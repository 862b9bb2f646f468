-- What a document becomes without some of its elements, one element after the other.
use Rattle.std.proofs.Common.{◌≡◌, ◌∙◌, ℕ, suc, Bool, List, [], ◌∷◌, ◌++◌, Option, None, Some, Result, Ok, ap, append_assoc, append-nil, drop, refl, subst, sym}
use Rattle.raw_view.specs.Frame.{Done, Frame, IsFrame, IsWalk}
use Rattle.raw_view.specs.Frame.ElementSteps.{frame_of}
use Rattle.raw_view.specs.Frame.Format.{framed}
use Rattle.raw_view.specs.Frame.Front.{StepsFront}
use Rattle.raw_view.specs.declared.element.RawElement.{RawElement}
use Rattle.raw_view.specs.declared.error.BorrowedError.{BorrowedError}
use Rattle.dump_commands.specs.elements.Cut.{AreCut, Fate, IsCut, IsCutElement, fate_of, key_at, number_behind}
use Rattle.dump_commands.specs.elements.Pick.{comma, parts}
use Rattle.dump_commands.proofs.elements.Picked.{LacksByte, parts_at, parts_last}

-- a path more of a text, and the last one
pub split_more : (each each' : List (List ℕ)) (text rest path more : List ℕ) → each ++ parts comma rest ≡ parts comma text → rest ≡ path ++ comma ∷ more → LacksByte comma path
    → each' ≡ each ++ path ∷ [] → each' ++ parts comma more ≡ parts comma text
split_more each each' text rest path more all split lacks is =
    ap (λ (x : List (List ℕ)). x ++ parts comma more) is ∙ append_assoc each (path ∷ []) (parts comma more)
    ∙ ap (λ (x : List (List ℕ)). each ++ x) (sym (ap (parts comma) split ∙ parts_at comma path more lacks)) ∙ all

pub split_last : (each each' : List (List ℕ)) (text rest : List ℕ) → each ++ parts comma rest ≡ parts comma text → LacksByte comma rest → each' ≡ each ++ rest ∷ []
    → each' ≡ parts comma text
split_last each each' text rest all lacks is = is ∙ ap (λ (x : List (List ℕ)). each ++ x) (sym (parts_last comma rest lacks)) ∙ all

-- a level: its bytes, whether it is an array, the paths that lead on from it, over how many levels at most, and whether others stay
pub record Level : Type 0 where
  pub others : Bool
  pub levels : ℕ
  pub in_array : Bool
  pub paths : List (List ℕ)
  pub bytes : List ℕ

-- what its bytes become
abbrev pub IsCutTo : Level → List ℕ → Type 0
IsCutTo v cut = IsCut v.others v.levels v.in_array v.paths v.bytes cut

-- the same with a level more
abbrev pub IsCutFully : Level → List ℕ → Type 0
IsCutFully v cut = IsCut v.others (suc v.levels) v.in_array v.paths v.bytes cut

pub cut_same : (v w : Level) (cut cut' : List ℕ) → v ≡ w → cut ≡ cut' → IsCutTo v cut → IsCutTo w cut'
cut_same v w cut cut' e is made = subst (λ (x : Level). IsCutTo x cut') e (subst (IsCutTo v) is made)

-- the remaining elements, the first of which has this number if it stays, are written so
abbrev AreLeft : Level → ℕ → List Frame → List ℕ → Type 0
AreLeft v number frames elements = AreCut (IsCut v.others v.levels) v.others v.in_array v.paths number frames elements

-- what was written, and what is written of the remaining elements, is what is written of the level
abbrev pub CutsOn : Level → (done : List ℕ) → (number : ℕ) → (left : Option (List ℕ)) → Type 0
CutsOn v done number None = ⊥
CutsOn v done number (Some s) =
    (frames : List Frame) (elements : List ℕ) → IsWalk s frames Done → AreLeft v number frames elements → IsCutFully v (framed (done ++ elements))

pub cuts_begin : (v : Level) (done : List ℕ) (left : Option (List ℕ)) → done ≡ [] → left ≡ Some (drop 4 v.bytes) → CutsOn v done 0 left
cuts_begin v done left none begins =
    subst (λ (x : Option (List ℕ)). CutsOn v done 0 x) (sym begins)
    (subst (λ (x : List ℕ). CutsOn v x 0 (Some (drop 4 v.bytes))) (sym none) (λ frames elements walk cut. (frames, elements, walk, cut, refl)))

-- what comes of an element after these: its fate, and what is written of it
pub record Puts (v : Level) (done done' : List ℕ) (number number' : ℕ) (f : Frame) : Type 0 where
  pub fate : Fate
  pub first : List ℕ
  pub same : fate ≡ fate_of v.others v.in_array v.paths f
  pub cut : IsCutElement (IsCut v.others v.levels) fate (key_at v.in_array number f.key) f first
  pub puts : done' ≡ done ++ first
  pub next : number' ≡ number_behind fate number

-- an element more
cuts_more : (v : Level) (done done' s r : List ℕ) (number number' : ℕ) (f : Frame) → CutsOn v done number (Some s) → IsFrame s f r → Puts v done done' number number' f
    → CutsOn v done' number' (Some r)
cuts_more v done done' s r number number' f on frame put frames elements walk others =
    let whole = on (f ∷ frames) (put.first ++ elements) (r, frame, walk) (
      put.first,
      elements,
      subst (λ (x : Fate). IsCutElement (IsCut v.others v.levels) x (key_at v.in_array number f.key) f put.first) put.same put.cut,
      subst (λ (x : ℕ). AreLeft v x frames elements) (put.next ∙ ap (λ (x : Fate). number_behind x number) put.same) others,
      refl,
    ) in
    subst (λ (x : List ℕ). IsCutFully v (framed x)) (sym (append_assoc done put.first elements) ∙ ap (λ (x : List ℕ). x ++ elements) (sym put.puts)) whole

-- what a step over the elements gives, where it gives an element
pub stepped : (old new : Option (List ℕ)) (item : Option (Result RawElement BorrowedError)) (e : RawElement) → StepsFront old item new → item ≡ Some (Ok e)
    → StepsFront old (Some (Ok e)) new
stepped old new item e steps is = subst (λ (x : Option (Result RawElement BorrowedError)). StepsFront old x new) is steps

pub cuts_step : (v : Level) (done done' : List ℕ) (number number' : ℕ) (old new : Option (List ℕ)) (e : RawElement) → StepsFront old (Some (Ok e)) new
    → CutsOn v done number old → Puts v done done' number number' (frame_of e) → CutsOn v done' number' new
cuts_step v done done' number number' None new e steps on put = absurd on
cuts_step v done done' number number' (Some s) new e (r, frame, now) on put =
    subst (λ (x : Option (List ℕ)). CutsOn v done' number' x) (sym now) (cuts_more v done done' s r number number' (frame_of e) on frame put)

-- no element is left
cuts_end : (v : Level) (done s : List ℕ) (number : ℕ) → CutsOn v done number (Some s) → s ≡ 0 ∷ [] → IsCutFully v (framed done)
cuts_end v done s number on ends = subst (λ (x : List ℕ). IsCutFully v (framed x)) (append-nil done) (on [] [] ends refl)

pub cuts_done : (v : Level) (done : List ℕ) (number : ℕ) (old new : Option (List ℕ)) (item : Option (Result RawElement BorrowedError)) → StepsFront old item new → item ≡ None
    → CutsOn v done number old → IsCutFully v (framed done)
cuts_done v done number None new item steps is on = absurd on
cuts_done v done number (Some s) new item steps is on =
    let (ends, now) = subst (λ (x : Option (Result RawElement BorrowedError)). StepsFront (Some s) x new) is steps in cuts_end v done s number on ends
