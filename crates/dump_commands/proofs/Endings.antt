-- What a command makes of a canonical document ends with a 0, or with the end of a line.
use Rattle.std.proofs.Common.{◌≡◌, ℕ, pos, suc, ◌+◌, ◌⊎◌, List, [], ◌∷◌, ◌++◌, Bool, false, MatchBool, inl, inr, ap, append_assoc, arith, drop, get_or, length, length-append, refl, subst, sym, ◌∙◌}
use Rattle.std.proofs.lemmas.Bool.{false≢true}
use Rattle.raw_view.specs.Frame.Envelope.{IsEnvelope}
use Rattle.raw_view.specs.Frame.Format.{framed, inside_of}
use Rattle.raw_view.specs.Frame.Number.{le32}
use Rattle.raw_view.proofs.Face.{document_framed}
use Rattle.dump_commands.specs.Binary.{MakesBson, MakesNoBson}
use Rattle.dump_commands.specs.elements.Chosen.{IsChosen}
use Rattle.dump_commands.specs.elements.Pick.{comma, parts}
use Rattle.dump_commands.specs.elements.Row.{IsRow, cells, filled}
use Rattle.dump_commands.specs.Making.{is_bson}
use Rattle.dump_commands.specs.Picking.{IsPickedAs, IsPickedIn, is_dump}
use Rattle.dump_commands.specs.declared.picking.Form.{Form}
use Rattle.dump_commands.specs.declared.picking.Form.TheVariants as form
use Rattle.dump_commands.specs.declared.picking.Separator.{Separator}
use Rattle.dump_commands.specs.state.Forms.{Made, made_as, plain}
use Rattle.dump_commands.specs.declared.command.Command.{Command}
use Rattle.dump_commands.specs.declared.command.Command.TheVariants as command
use Rattle.dump_commands.specs.declared.picking.Choice.{Choice}
use Rattle.dump_commands.specs.declared.picking.Choice.TheVariants as choice
use Rattle.dump_commands.specs.declared.gathering.Gathering.{Gathering}
use Rattle.dump_commands.specs.declared.making.Making.{Making}
use Rattle.dump_commands.specs.declared.making.Making.TheVariants as making
use Rattle.dump_commands.specs.declared.reporting.Report.{Report}
use Rattle.dump_commands.specs.declared.picking.Picking.{Picking}

-- no bytes end both ways
both_ends : (x y : List ℕ) → x ++ 10 ∷ [] ≡ y ++ 0 ∷ [] → ⊥
both_ends [] [] e = let ten : 10 ≡ 0 = ap (λ l. get_or l 0 0) e in omega (arith, ten)
both_ends [] (b ∷ y) e = let n : 1 ≡ suc (length (y ++ 0 ∷ [])) = ap length e in omega (arith, n, length-append y (0 ∷ []))
both_ends (a ∷ x) [] e = let n : suc (length (x ++ 10 ∷ [])) ≡ 1 = ap length e in omega (arith, n, length-append x (10 ∷ []))
both_ends (a ∷ x) (b ∷ y) e = both_ends x y (ap (drop 1) e)

framed_ends : (x : List ℕ) → framed x ≡ (le32 (pos (4 + length (x ++ 0 ∷ []))) ++ x) ++ 0 ∷ []
framed_ends x = sym (append_assoc (le32 (pos (4 + length (x ++ 0 ∷ [])))) x (0 ∷ []))

abbrev front_of_framed : List ℕ → List ℕ
front_of_framed x = le32 (pos (4 + length (x ++ 0 ∷ []))) ++ x

abbrev one : List ℕ → List Made
one x = plain x ∷ []

abbrev bytes_first : List Made → List ℕ
bytes_first made = (get_or made 0 (plain [])).bytes

keeps_bson : (made : List Made) (b : List ℕ) → IsEnvelope b → made ≡ plain b ∷ [] → (d : List ℕ) × (made ≡ plain (d ++ 0 ∷ []) ∷ [])
keeps_bson made b is same = (front_of_framed (inside_of b), same ∙ ap one (document_framed b is ∙ framed_ends (inside_of b)))

-- what is picked is a document
chosen_framed : (choice : Choice) (b text document : List ℕ) → IsChosen choice b text document → (elements : List ℕ) × (document ≡ framed elements)
chosen_framed choice.Named b text document (elements, each, is) = (elements, is)
chosen_framed choice.InPlace b text document (frames, elements, walk, cut, is) = (elements, is)
chosen_framed choice.Others b text document (frames, elements, walk, cut, is) = (elements, is)

-- as a dump it ends with a 0
dump_ends : (choice : Choice) (b text made : List ℕ) → IsPickedIn form.Dump choice b text made → (d : List ℕ) × (made ≡ d ++ 0 ∷ [])
dump_ends choice b text made is = let (elements, framed_is) = chosen_framed choice b text made is in (front_of_framed elements, framed_is ∙ framed_ends elements)

-- a row ends with a line feed
row_ends : (s : Separator) (b : List ℕ) (paths : List (List ℕ)) (row : List ℕ) → IsRow s b paths row → (x : List ℕ) × (row ≡ x ++ 10 ∷ [])
row_ends s b paths row (texts, are, is) = (filled s (cells s texts), is)

-- what isn't a dump doesn't end with a 0
no_dump_ends : (f : Form) (choice : Choice) (b text made d : List ℕ) → is_dump f ≡ false → IsPickedIn f choice b text made → ¬ (made ≡ d ++ 0 ∷ [])
no_dump_ends form.Dump choice b text made d other is same = absurd (false≢true (sym other))
no_dump_ends (form.Json style) choice b text made d other (document, json, is, tells, printed) same = both_ends json d (sym printed ∙ same)
no_dump_ends (form.Row s) choice b text made d other is same = let (x, ends) = row_ends s b (parts comma text) made is in both_ends x d (sym ends ∙ same)

-- what is written in this form
in_form : (picking : Picking) (f : Form) (b made : List ℕ) → picking.form ≡ f → IsPickedAs picking b made → IsPickedIn f picking.choice b picking.paths.now made
in_form picking f b made e is = subst (λ (x : Form). IsPickedIn x picking.choice b picking.paths.now made) e is

-- of an element that is picked as a dump what is made ends with a 0, and else never
pick_ends : (picking : Picking) (f : Form) → picking.form ≡ f → MatchBool (is_dump f) (MakesBson (command.Writes (making.Pick picking))) (MakesNoBson (command.Writes (making.Pick picking)))
pick_ends picking form.Dump e = λ b made env h.
    let (d, ends) = dump_ends picking.choice b picking.paths.now h.0 (in_form picking form.Dump b h.0 e h.1) in (d, h.2 ∙ ap one ends)
pick_ends picking (form.Json style) e = λ b d known h.
    no_dump_ends (form.Json style) picking.choice b picking.paths.now h.0 d refl (in_form picking (form.Json style) b h.0 e h.1) (sym (ap bytes_first h.2))
pick_ends picking (form.Row s) e = λ b d known h.
    no_dump_ends (form.Row s) picking.choice b picking.paths.now h.0 d refl (in_form picking (form.Row s) b h.0 e h.1) (sym (ap bytes_first h.2))

making_ends : (m : Making) → MatchBool (is_bson m) (MakesBson (command.Writes m)) (MakesNoBson (command.Writes m))
making_ends making.Canon = λ b made is makes. keeps_bson made b is makes
making_ends (making.Sound t) = λ b made is makes. keeps_bson made b is makes
making_ends (making.Unique s) = λ b made is makes. keeps_bson made b is makes
making_ends (making.Json style) = λ b d known h. both_ends h.1.0 d (sym (ap bytes_first h.2 ∙ h.1.2))
making_ends (making.Pick picking) = pick_ends picking picking.form refl

pub making_made : (c : Command) (m : Making) (r : Bool) → c ≡ command.Writes m → r ≡ is_bson m → MatchBool r (MakesBson c) (MakesNoBson c)
making_made c m r e is = rw (e, is) (making_ends m)

not_one : (m : Made) → m ∷ [] ≡ [] → ⊥
not_one m e = let n : 1 ≡ 0 = ap length e in omega (arith, n)

pub nothing_made : (c : Command) → ((r : Report) × (c ≡ command.Prints r)) ⊎ ((g : Gathering) × (c ≡ command.Gathers g)) → MakesNoBson c
nothing_made c (inl (r, e)) = rw e (λ b d known made. not_one (made_as (d ++ 0 ∷ []) known) made)
nothing_made c (inr (g, e)) = rw e (λ b d known made. not_one (made_as (d ++ 0 ∷ []) known) made)
