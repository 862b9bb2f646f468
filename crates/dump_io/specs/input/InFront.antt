-- What is before the documents that are asked for: bytes up to an offset (`at`), and after it a number of documents (`skip`).
use Rattle.std.specs.Prelude.{◌≡◌, ◌<◌, ◌≤◌, ◌+◌, ◌++◌, ℕ, List, [], Option, IfSome, drop, length}
use Rattle.std.specs.List.{AllByRecursion}
use Rattle.std.specs.Io.KnownBytes.{Consumes, IsAtEnd}
use Rattle.dump_io.specs.lines.Fronts.{HasFront, joined}
use Rattle.dump_io.specs.input.Cut.{IsPiece}
use Rattle.dump_io.specs.input.Reading.{GoesAhead, IsNextPiece, IsWindow, ahead_of, offset_of}
use Rattle.dump_io.specs.declared.input.portion.Portion.{Portion}
use Rattle.dump_io.specs.declared.input.window.Next.{Next}
use Rattle.dump_io.specs.declared.input.window.Next.TheVariants as next
use Rattle.dump_io.specs.declared.input.window.Window.{Window}

-- A front of an input: at most the bytes up to the offset; and after it at most as many documents as are to be skipped, at their lengths.
pub record IsInFront (p : Portion) (most : ℕ) (input : Option (List ℕ)) (front : List ℕ) : Type 0 where
  pub bytes : List ℕ
  pub documents : List (List ℕ)
  pub are : front ≡ bytes ++ joined documents
  pub up_to : length bytes ≤ p.at
  pub behind_offset : IfSome input (λ s. length bytes < p.at → documents ≡ [])
  pub pieces : AllByRecursion (IsPiece most) documents
  pub few : length documents ≤ p.skip

-- no document is at the front of s
abbrev pub BeginsNone : (most : ℕ) → List ℕ → Type 0
BeginsNone most s = (x : List ℕ) → IsPiece most x → ¬ HasFront s x

-- It is all that is before the documents that are asked for. The input may end before the offset. After the offset come as many documents as
-- are to be skipped, or fewer, up to the first place where none begins.
pub record IsAllInFront (p : Portion) (most : ℕ) (input : Option (List ℕ)) (front : List ℕ) : Type 0 where
  pub front_of : IsInFront p most input front
  pub to_offset : IfSome input (λ s. length front_of.bytes < p.at → s ≡ front)
  pub to_document : IfSome input (λ s. length front_of.documents < p.skip → BeginsNone most (drop (length front) s))

-- What the code tells of what it passes. No contract of a command cites what follows.

-- at most `most` bytes were passed
abbrev pub GoesUpTo : (most : ℕ) → (old new : Option (List ℕ)) → (window_old window_new : Window) → Type 0
GoesUpTo most old new window_old window_new = (goes : GoesAhead old new window_old window_new) × (goes.count ≤ most)

-- at most `most` bytes were passed; if fewer were, the input is at its end
abbrev pub PassesBytes : (most : ℕ) → (old new : Option (List ℕ)) → (window_old window_new : Window) → Type 0
PassesBytes most old new window_old window_new =
    (goes : GoesAhead old new window_old window_new) × (goes.count ≤ most) × (goes.count < most → (ahead_of window_new ≡ []) × IsAtEnd new)

-- at most `count` documents were passed, at their lengths
pub record PassesDocuments (most count : ℕ) (old new : Option (List ℕ)) (window_old window_new : Window) : Type 0 where
  pub window : IsWindow window_new
  pub documents : List (List ℕ)
  pub pieces : AllByRecursion (IsPiece most) documents
  pub few : length documents ≤ count
  pub offset : offset_of window_new ≡ offset_of window_old + length (joined documents)
  pub is_read : (before : Option (List ℕ)) → Consumes before old (ahead_of window_old) → Consumes before new (joined documents ++ ahead_of window_new)

-- no document is next
abbrev pub IsOther : Next → Type 0
IsOther (next.Document len) = ⊥
IsOther _ = Unit {0}

-- at most `count` documents were passed; if fewer were, none is next
abbrev pub PassesAllDocuments : (most count : ℕ) → (old new : Option (List ℕ)) → (window_old window_new : Window) → Type 0
PassesAllDocuments most count old new window_old window_new =
    (passes : PassesDocuments most count old new window_old window_new)
    × (length passes.documents < count → (told : Next) × IsOther told × IsNextPiece most new (ahead_of window_new) told)

-- these bytes were passed, from the first one of the input on
pub record HasPassedFront (front : List ℕ) (read_old read_new : Option (List ℕ)) (window_new : Window) : Type 0 where
  pub window : IsWindow window_new
  pub offset : offset_of window_new ≡ length front
  pub is_read : Consumes read_old read_new (front ++ ahead_of window_new)
