-- The elements of a document that paths name, and the document of them.
use Rattle.std.specs.Prelude.{◌≡◌, ◌⊎◌, ℕ, List, [], ◌∷◌, ◌++◌, Option, None, Some, cond, nat_eq}
use Rattle.raw_view.specs.Frame.{End, Frame}
use Rattle.raw_view.specs.Frame.Format.{element_of, framed}
use Rattle.raw_view.specs.LookUp.{FindsElement, found, missing}
use Rattle.raw_view.specs.declared.element_type.ElementType.{ElementType}
use Rattle.raw_view.specs.declared.element_type.ElementType.TheVariants as kind

-- the same parts, with a byte more at the front of the first one
abbrev pub with_byte : ℕ → List (List ℕ) → List (List ℕ)
with_byte byte [] = []
with_byte byte (x ∷ xs) = (byte ∷ x) ∷ xs

-- the parts of a text that have a separator between them: one more than there are separators
unfoldable pub parts : (separator : ℕ) → List ℕ → List (List ℕ)
parts separator [] = [] ∷ []
parts separator (byte ∷ text) = cond (nat_eq byte separator) ([] ∷ parts separator text) (with_byte byte (parts separator text))

-- the separator of paths, a comma, and that of the steps of a path, a dot
abbrev pub comma : ℕ
comma = 44

abbrev pub dot : ℕ
dot = 46

-- the first element of the document b that has this key; or there is none
abbrev pub FindsFirst : List ℕ → List ℕ → Option Frame → Type 0
FindsFirst b key (Some f) = FindsElement b key (found f)
FindsFirst b key None = (end : End) × FindsElement b key (missing end)

-- the values of this kind have elements of their own
abbrev pub HasElements : ElementType → Type 0
HasElements k = (k ≡ kind.EmbeddedDocument) ⊎ (k ≡ kind.Array)

-- the value of that first element, which has elements of its own; or there is no such element, or it has none of its own
abbrev pub FindsInner : List ℕ → List ℕ → Option (List ℕ) → Type 0
FindsInner b key (Some inner) = (f : Frame) × FindsFirst b key (Some f) × HasElements f.kind × (f.payload ≡ inner)
FindsInner b key None = FindsFirst b key None ⊎ ((f : Frame) × FindsFirst b key (Some f) × ¬ HasElements f.kind)

-- Where steps lead in the document b: the last one to the first element that has it as its key, and each before it into the value in which the
-- next one leads on. They lead to nothing where a step finds no such element, or no such value.
abbrev pub LeadsTo : List ℕ → List (List ℕ) → Option Frame → Type 0
LeadsTo b [] goal = goal ≡ None
LeadsTo b (s ∷ []) goal = FindsFirst b s goal
LeadsTo b (s ∷ t ∷ ss) goal = ((inner : List ℕ) × FindsInner b s (Some inner) × LeadsTo inner (t ∷ ss) goal) ⊎ (FindsInner b s None × (goal ≡ None))

-- the element with this key in place of its own; no bytes where there is none
abbrev pub renamed : List ℕ → Option Frame → List ℕ
renamed key None = []
renamed key (Some f) = element_of f.kind key f.payload

-- the elements to which these paths lead in the document b, in the order of the paths, each with its path as its key
abbrev pub PicksEach : List ℕ → List (List ℕ) → List ℕ → Type 0
PicksEach b [] elements = elements ≡ []
PicksEach b (path ∷ paths) elements = (goal : Option Frame) × (rest : List ℕ) × LeadsTo b (parts dot path) goal × PicksEach b paths rest × (elements ≡ renamed path goal ++ rest)

-- the document of the elements that the paths of this text name in the document b
abbrev pub IsPicked : List ℕ → List ℕ → List ℕ → Type 0
IsPicked b text document = (elements : List ℕ) × PicksEach b (parts comma text) elements × (document ≡ framed elements)
