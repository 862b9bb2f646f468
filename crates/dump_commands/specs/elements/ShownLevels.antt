-- What is left to show of the levels of a document, of which some wait. No public contract cites this file.
use Rattle.std.specs.Prelude.{◌≡◌, ◌⊎◌, ◌+◌, ◌-◌, ◌<◌, ℕ, suc, zero, List, [], ◌∷◌, ◌++◌, Bool, true, false, Option, length, map, sum_by}
use Rattle.dump_io.specs.lines.Fronts.{HasFront}
use Rattle.dump_commands.specs.declared.elements.level.Level.{Level}
use Rattle.dump_commands.specs.elements.Runs.{Run, Sheet, document_lines, rest_line, sheet_of, shown_end, shown_lines}
use Rattle.dump_commands.specs.elements.Showing.{Extent, Whole, Begun, HasLeftRuns, HasRuns, IsEnough, left_in}
use Rattle.dump_commands.specs.declared.elements.page.Page.{Page}
use Rattle.std.specs.Io.KnownBytes.{Appends}

-- The runs of what is left of these levels, the outermost first, of which at most this number is shown; those of the innermost come first.
-- The first runs end in a level, after all of those inside it.
abbrev pub HaveLevelsRuns : Extent → ℕ → ℕ → List (List ℕ) → List Run → Type 0
HaveLevelsRuns Whole n depth [] runs = runs ≡ []
HaveLevelsRuns Begun n depth [] runs = ⊥
HaveLevelsRuns e zero depth (w ∷ ws) runs = ⊥
HaveLevelsRuns Whole (suc n) depth (w ∷ ws) runs =
    (inner rest : List Run) × HaveLevelsRuns Whole n (depth + 1) ws inner × HasLeftRuns (HasRuns n (depth + 1)) Whole depth w rest × (runs ≡ inner ++ rest)
HaveLevelsRuns Begun (suc n) depth (w ∷ ws) runs =
    HaveLevelsRuns Begun n (depth + 1) ws runs
    ⊎ ((inner rest : List Run) × HaveLevelsRuns Whole n (depth + 1) ws inner × HasLeftRuns (HasRuns n (depth + 1)) Begun depth w rest × (runs ≡ inner ++ rest))

-- how much is left of levels
abbrev pub size_left : List (List ℕ) → ℕ
size_left levels = sum_by (λ s. length s + 2) levels

-- after these runs, what shows the new levels shows the old ones, of which more is left
pub record GoesOn (old new : List (List ℕ)) (runs : List Run) : Type 0 where
  pub continues : (e : Extent) (rest : List Run) → HaveLevelsRuns e 500 0 new rest → HaveLevelsRuns e 500 0 old (runs ++ rest)
  pub less : size_left new < size_left old

-- the levels, of which the last is the innermost
abbrev pub levels_of : List Level → Level → List (List ℕ)
levels_of waiting level = map left_in (waiting ++ level ∷ [])

-- the same; none after the end of the outermost
abbrev pub levels_after : (is_over : Bool) → List Level → Level → List (List ℕ)
levels_after true waiting level = []
levels_after false waiting level = levels_of waiting level

-- all runs of a document, or enough of them, are written or on the page
pub record IsShown (d : List ℕ) (page : Page) (old out : Option (List ℕ)) (first : Page) : Type 0 where
  pub extent : Extent
  pub runs : List Run
  pub has : HasRuns 500 0 extent d runs
  pub enough : IsEnough (sheet_of first) extent runs
  pub written : List ℕ
  pub put : Appends old out written
  pub lines : written ++ page.text.items ≡ shown_lines (sheet_of first) 0 runs
  pub at : page.at ≡ shown_end (sheet_of first) 0 runs
  pub same : sheet_of page ≡ sheet_of first

-- a front of their lines is written
abbrev pub IsShownFront : List ℕ → Page → (old out : Option (List ℕ)) → Type 0
IsShownFront d first old out =
    (text : List ℕ) × Appends old out text
    × ((extent : Extent) × (runs : List Run) × HasRuns 500 0 extent d runs × HasFront (shown_lines (sheet_of first) 0 runs) text)

-- what is on a page, and after that how many bytes aren't shown
abbrev pub page_text : Page → List ℕ
page_text page = page.text.items ++ rest_line (page.base + page.at) (page.size - page.at)

-- the lines of a document are written
abbrev pub IsWritten : List ℕ → Sheet → (old out : Option (List ℕ)) → Type 0
IsWritten d sheet old out =
    (extent : Extent) × (runs : List Run) × HasRuns 500 0 extent d runs × IsEnough sheet extent runs × Appends old out (document_lines sheet runs)

-- a front of them is
abbrev pub IsPartly : List ℕ → Sheet → (old out : Option (List ℕ)) → Type 0
IsPartly d sheet old out =
    (text : List ℕ) × Appends old out text
    × ((extent : Extent) × (runs : List Run) × HasRuns 500 0 extent d runs
    × (HasFront (shown_lines sheet 0 runs) text ⊎ (IsEnough sheet extent runs × HasFront (document_lines sheet runs) text)))
