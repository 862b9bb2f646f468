-- Which paths lead to an element in some document, and how it is told of the others.
use Rattle.std.specs.Prelude.{ℕ, List, [], ◌∷◌, ◌++◌, Bool, true, false, codes, cond, drop, get_or}
use Rattle.dump_io.specs.lines.Quoting.{quoted}
use Rattle.dump_io.specs.lines.Told.{object_line}
use Rattle.dump_io.specs.declared.lines.style.Style.{Style}
use Rattle.dump_io.specs.declared.lines.style.Style.TheVariants as style
use Rattle.json.specs.Token.{Token, key, string}

-- of each path whether a document has it, or one before does
abbrev pub either : (flags seen : List Bool) → List Bool
either [] seen = []
either (flag ∷ flags) seen = cond flag true (get_or seen 0 false) ∷ either flags (drop 1 seen)

-- what says so of a path that no document has, as members of an object
abbrev pub missing_members : (path : List ℕ) → List Token
missing_members path = key (codes "path") ∷ string path ∷ key (codes "finding") ∷ string (codes "no document has it") ∷ []

-- the line that says so
abbrev pub missing_line : Style → (path : List ℕ) → List ℕ
missing_line style.Words path = codes "no document has " ++ quoted path ++ codes "\n"
missing_line style.Json path = object_line (missing_members path)
missing_line style.Quiet path = []

-- the lines of those of these paths that no document has; if there was no document, none
unfoldable pub missing_lines : Style → (paths : List (List ℕ)) → (seen : List Bool) → List ℕ
missing_lines style [] seen = []
missing_lines style (path ∷ paths) seen = cond (get_or seen 0 true) [] (missing_line style path) ++ missing_lines style paths (drop 1 seen)
