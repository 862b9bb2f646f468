-- The lines of paths that no document has, one after the other.
use Rattle.std.proofs.Common.{◌≡◌, ◌∙◌, ℕ, Bool, true, cond, List, [], ◌∷◌, ◌++◌, ap, append_assoc, append-nil, drop, get_or, refl, sym}
use Rattle.dump_io.specs.declared.lines.style.Style.{Style}
use Rattle.dump_commands.specs.elements.Pick.{comma, parts}
use Rattle.dump_commands.specs.state.Seen.{missing_line, missing_lines}
use Rattle.dump_commands.proofs.elements.Picked.{LacksByte, parts_at, parts_last}

-- the line of the first path, and those of the others
abbrev pub first_line : Style → (path : List ℕ) → (seen : List Bool) → List ℕ
first_line style path seen = cond (get_or seen 0 true) [] (missing_line style path)

lines_of_first : (style : Style) (path : List ℕ) (paths : List (List ℕ)) (seen : List Bool)
    → missing_lines style (path ∷ paths) seen ≡ first_line style path seen ++ missing_lines style paths (drop 1 seen)
unfolding missing_lines
lines_of_first style path paths seen = refl

lines_of_one : (style : Style) (path : List ℕ) (seen : List Bool) → missing_lines style (path ∷ []) seen ≡ first_line style path seen ++ []
unfolding missing_lines
lines_of_one style path seen = refl

pub missing_more : (style : Style) (done text rest path more : List ℕ) (seen left : List Bool)
    → done ++ missing_lines style (parts comma rest) left ≡ missing_lines style (parts comma text) seen → rest ≡ path ++ comma ∷ more → LacksByte comma path
    → (done ++ first_line style path left) ++ missing_lines style (parts comma more) (drop 1 left) ≡ missing_lines style (parts comma text) seen
missing_more style done text rest path more seen left all split lacks =
    let others = missing_lines style (parts comma more) (drop 1 left) in
    let cut : parts comma rest ≡ path ∷ parts comma more = ap (parts comma) split ∙ parts_at comma path more lacks in
    let lines : missing_lines style (parts comma rest) left ≡ first_line style path left ++ others =
    ap (λ (xs : List (List ℕ)). missing_lines style xs left) cut ∙ lines_of_first style path (parts comma more) left in
    append_assoc done (first_line style path left) others ∙ ap (λ (x : List ℕ). done ++ x) (sym lines) ∙ all

pub missing_last : (style : Style) (done done' text rest : List ℕ) (seen left : List Bool)
    → done ++ missing_lines style (parts comma rest) left ≡ missing_lines style (parts comma text) seen → LacksByte comma rest → done' ≡ done ++ first_line style rest left
    → done' ≡ missing_lines style (parts comma text) seen
missing_last style done done' text rest seen left all lacks is =
    let lines : missing_lines style (parts comma rest) left ≡ first_line style rest left =
    ap (λ (xs : List (List ℕ)). missing_lines style xs left) (parts_last comma rest lacks) ∙ lines_of_one style rest left ∙ append-nil (first_line style rest left) in
    is ∙ ap (λ (x : List ℕ). done ++ x) (sym lines) ∙ all
