-- A look-up by key along a walk.
use Rattle.std.proofs.Common.{◌≡◌, ◌≢◌, ℕ, List, [], ◌∷◌, ◌++◌, refl, Option, Some, None, Ok, Err, sym, ap, drop}
use Rattle.raw_view.specs.declared.element.RawElement.{RawElement}
use Rattle.raw_view.specs.declared.bson_ref.RawBsonRef.{RawBsonRef}
use Rattle.raw_view.specs.declared.error.Error.{Error}
use Rattle.raw_view.specs.Frame.{Frame, Done, Stopped}
use Rattle.raw_view.specs.Meaning.{Meaning, value, faulty, Means}
use Rattle.raw_view.specs.Frame.ElementSteps.{StepsElement, HasRead, frame_of}
use Rattle.raw_view.specs.LookUp.{HasNoKey, LooksUp, found, missing, KeyAnswer, present, absent, FindsKey}
use Rattle.raw_view.specs.Errors.Answers.{TellsMeaning, TellsFound, TellsKey}
use Rattle.raw_view.proofs.Frames.Loops.{HasRead-end, HasRead-stop}

pub HasNoKey-more : (key : List ℕ) (fs : List Frame) (f : Frame) → HasNoKey key fs → f.key ≢ key → HasNoKey key (fs ++ f ∷ [])
HasNoKey-more key [] f h n = (n, tt)
HasNoKey-more key (g ∷ fs) f h n = (h.0, HasNoKey-more key fs f h.1 n)

-- at the frame with the key
pub found_frame : (b key : List ℕ) (passed : List Frame) (old new : Option (List ℕ)) (e : RawElement) → HasRead (drop 4 b) passed old → HasNoKey key passed
    → StepsElement old (Some (Ok e)) new → (frame_of e).key ≡ key → (m : Meaning) → Means (frame_of e) m → LooksUp b key (Some m)
found_frame b key passed None new e read none st k m means = absurd read
found_frame b key passed (Some s) new e read none st k m means = record { element = found (frame_of e); finds = (passed, s, st.0, read, none, st.1, k); means = (m, means, refl) }

-- at the stop
pub found_stop : (b key : List ℕ) (passed : List Frame) (old new : Option (List ℕ)) (e : Error) → HasRead (drop 4 b) passed old → HasNoKey key passed
    → StepsElement old (Some (Err e)) new → (answer : Option Meaning) × LooksUp b key answer × TellsFound (Err e) answer
found_stop b key passed old new e read none st =
    let w = HasRead-stop (drop 4 b) passed old new e read st in
    (Some (faulty (record { fault = w.0; key = w.1 })), record { element = missing (Stopped w.0 w.1); finds = (passed, w.2, none); means = refl }, w.3)

-- at the final 0
pub found_none : (b key : List ℕ) (passed : List Frame) (old new : Option (List ℕ)) → HasRead (drop 4 b) passed old → HasNoKey key passed → StepsElement old None new → LooksUp b key None
found_none b key passed old new read none st = record { element = missing Done; finds = (passed, HasRead-end (drop 4 b) passed old new read st, none); means = refl }

-- a value or a fault that is meant is what is found
pub found_value : (v : RawBsonRef) (m : Meaning) → TellsMeaning (Ok v) m → TellsFound (Ok (Some v)) (Some m)
found_value v (value w) h = ap (λ x. Some (value x)) (sym h)
found_value v (faulty fault) h = absurd h

pub found_fault : (e : Error) (m : Meaning) → TellsMeaning (Err e) m → TellsFound (Err e) (Some m)
found_fault e (value w) h = absurd h
found_fault e (faulty fault) h = h

-- whether a key is there

-- at a frame with the key
pub key_present : (b key : List ℕ) (passed : List Frame) (old new : Option (List ℕ)) (e : RawElement) → HasRead (drop 4 b) passed old
    → StepsElement old (Some (Ok e)) new → (frame_of e).key ≡ key → FindsKey b key present
key_present b key passed None new e read st k = absurd read
key_present b key passed (Some s) new e read st k = (passed, s, frame_of e, st.0, read, st.1, k)

-- at the stop
pub key_stop : (b key : List ℕ) (passed : List Frame) (old new : Option (List ℕ)) (e : Error) → HasRead (drop 4 b) passed old → HasNoKey key passed
    → StepsElement old (Some (Err e)) new → (answer : KeyAnswer) × FindsKey b key answer × TellsKey (Err e) answer
key_stop b key passed old new e read none st =
    let w = HasRead-stop (drop 4 b) passed old new e read st in
    (absent (Stopped w.0 w.1), (passed, w.2, none), w.3)

-- at the final 0
pub key_absent : (b key : List ℕ) (passed : List Frame) (old new : Option (List ℕ)) → HasRead (drop 4 b) passed old → HasNoKey key passed → StepsElement old None new → FindsKey b key (absent Done)
key_absent b key passed old new read none st = (passed, HasRead-end (drop 4 b) passed old new read st, none)
