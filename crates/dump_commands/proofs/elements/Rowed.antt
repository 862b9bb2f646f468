-- The row of paths, one path after the other.
use Rattle.std.proofs.Common.{◌≡◌, ◌∙◌, ℕ, List, [], ◌∷◌, ◌++◌, ap, append_assoc, refl, subst, sym}
use Rattle.dump_commands.specs.elements.Pick.{comma, parts}
use Rattle.dump_commands.specs.elements.Row.{AreCells, IsCellAt, IsRow, cells, filled, row_of, separator_byte, written}
use Rattle.dump_commands.specs.declared.picking.Separator.{Separator}
use Rattle.dump_commands.proofs.elements.Picked.{LacksByte, has_parts, parts_at, parts_last}

-- what was written, and the cells of the rest, are the cells of all
abbrev pub RowOn : Separator → (b text done rest : List ℕ) → Type 0
RowOn s b text done rest =
    (texts : List (List ℕ)) → AreCells b (parts comma rest) texts → (all : List (List ℕ)) × AreCells b (parts comma text) all × (cells s all ≡ done ++ cells s texts)

-- what was written, with a cell more, and the byte after it
abbrev pub with_cell : Separator → (done cell : List ℕ) → List ℕ
with_cell s done cell = (done ++ written s cell) ++ separator_byte s ∷ []

-- the cell, what is after it, and the others
put_on : (s : Separator) (done cell rest : List ℕ) → done ++ (written s cell ++ separator_byte s ∷ rest) ≡ with_cell s done cell ++ rest
put_on s done cell rest = sym (append_assoc done (written s cell) (separator_byte s ∷ rest)) ∙ sym (append_assoc (done ++ written s cell) (separator_byte s ∷ []) rest)

-- a cell, and those of one path or more
before_others : (s : Separator) (b cell next : List ℕ) (ends texts : List (List ℕ)) → AreCells b (next ∷ ends) texts
    → cells s (cell ∷ texts) ≡ written s cell ++ separator_byte s ∷ cells s texts
before_others s b cell next ends [] are = absurd are
before_others s b cell next ends (text ∷ texts) are = refl

pub row_more : (s : Separator) (b text done rest path more cell : List ℕ) → RowOn s b text done rest → rest ≡ path ++ comma ∷ more → LacksByte comma path
    → IsCellAt b path cell → RowOn s b text (with_cell s done cell) more
row_more s b text done rest path more cell on split lacks is texts others =
    let (next, ends, shape) = has_parts comma more in
    let cut : parts comma rest ≡ path ∷ next ∷ ends = ap (parts comma) split ∙ parts_at comma path more lacks ∙ ap (λ (xs : List (List ℕ)). path ∷ xs) shape in
    let are : AreCells b (next ∷ ends) texts = subst (λ (xs : List (List ℕ)). AreCells b xs texts) shape others in
    let (all, whole, same) = on (cell ∷ texts) (subst (λ (xs : List (List ℕ)). AreCells b xs (cell ∷ texts)) (sym cut) (is, are)) in (
      all,
      whole,
      same ∙ ap (λ (x : List ℕ). done ++ x) (before_others s b cell next ends texts are) ∙ put_on s done cell (cells s texts),
    )

pub row_same : (s : Separator) (b text done done' rest : List ℕ) → done' ≡ done → RowOn s b text done rest → RowOn s b text done' rest
row_same s b text done done' rest same on = subst (λ (x : List ℕ). RowOn s b text x rest) (sym same) on

-- the row with its last cell
abbrev pub with_last : Separator → (done cell : List ℕ) → List ℕ
with_last s done cell = filled s (done ++ written s cell) ++ 10 ∷ []

pub row_last : (s : Separator) (b text done rest cell : List ℕ) → RowOn s b text done rest → LacksByte comma rest → IsCellAt b rest cell
    → IsRow s b (parts comma text) (with_last s done cell)
row_last s b text done rest cell on lacks is =
    let (all, whole, same) = on (cell ∷ []) (subst (λ (xs : List (List ℕ)). AreCells b xs (cell ∷ [])) (sym (parts_last comma rest lacks)) (is, tt)) in
    (all, whole, ap (λ (x : List ℕ). filled s x ++ 10 ∷ []) (sym same))

pub header_more : (s : Separator) (text done rest path more : List ℕ) → done ++ cells s (parts comma rest) ≡ cells s (parts comma text)
    → rest ≡ path ++ comma ∷ more → LacksByte comma path → with_cell s done path ++ cells s (parts comma more) ≡ cells s (parts comma text)
header_more s text done rest path more all split lacks =
    let (next, ends, shape) = has_parts comma more in
    let cut : parts comma rest ≡ path ∷ next ∷ ends = ap (parts comma) split ∙ parts_at comma path more lacks ∙ ap (λ (xs : List (List ℕ)). path ∷ xs) shape in
    ap (λ (xs : List (List ℕ)). with_cell s done path ++ cells s xs) shape
    ∙ sym (put_on s done path (cells s (next ∷ ends))) ∙ ap (λ (xs : List (List ℕ)). done ++ cells s xs) (sym cut) ∙ all

pub header_last : (s : Separator) (text done rest : List ℕ) → done ++ cells s (parts comma rest) ≡ cells s (parts comma text) → LacksByte comma rest
    → with_last s done rest ≡ row_of s (parts comma text)
header_last s text done rest all lacks =
    ap (λ (x : List ℕ). filled s x ++ 10 ∷ []) (ap (λ (xs : List (List ℕ)). done ++ cells s xs) (sym (parts_last comma rest lacks)) ∙ all)

-- the same of what the code wrote
pub put_cell : (s : Separator) (done done' done'' cell cell' : List ℕ) (byte : ℕ) → done' ≡ done ++ written s cell' → cell' ≡ cell → done'' ≡ done' ++ byte ∷ []
    → byte ≡ separator_byte s → done'' ≡ with_cell s done cell
put_cell s done done' done'' cell cell' byte first same second is =
    second ∙ ap (λ (x : List ℕ). x ++ byte ∷ []) (first ∙ ap (λ (x : List ℕ). done ++ written s x) same)
    ∙ ap (λ (x : ℕ). (done ++ written s cell) ++ x ∷ []) is

-- the same of the last cell
pub put_last : (s : Separator) (done done' row cell cell' : List ℕ) → done' ≡ done ++ written s cell' → cell' ≡ cell → row ≡ filled s done' ++ 10 ∷ []
    → row ≡ with_last s done cell
put_last s done done' row cell cell' put same ended = ended ∙ ap (λ (x : List ℕ). filled s x ++ 10 ∷ []) (put ∙ ap (λ (x : List ℕ). done ++ written s x) same)
