-- What paths lead to, and what is picked.
use Rattle.std.proofs.Common.{◌≡◌, ◌≢◌, ◌<◌, ◌∙◌, ℕ, suc, Bool, true, false, cond, nat_eq, List, [], ◌∷◌, ◌++◌, Option, None, Some, Ok, Err, ap, append_assoc, append-nil, arith, get_or, inl, inr, length, option_map, refl, subst, sym}
use Rattle.std.proofs.lemmas.Bool.{eq-eqb, ne_eqb}
use Rattle.raw_view.specs.Frame.{Frame}
use Rattle.raw_view.specs.Frame.ElementSteps.{frame_of}
use Rattle.raw_view.specs.LookUp.{FindsElement, FoundElement, found, missing}
use Rattle.raw_view.specs.LookUp.ElementLookUp.{TellsElement}
use Rattle.raw_view.specs.declared.element.RawElement.{RawElement}
use Rattle.raw_view.specs.declared.error.BorrowedError.{BorrowedError}
use Rattle.dump_commands.specs.elements.Pick.{FindsFirst, FindsInner, LeadsTo, PicksEach, comma, dot, parts, renamed, with_byte}

-- the byte isn't in the text
abbrev pub LacksByte : ℕ → List ℕ → Type 0
LacksByte byte text = (i : ℕ) → i < length text → get_or text i 0 ≢ byte

-- the part in front of a separator, and those after it
pub parts_at : (separator : ℕ) (x more : List ℕ) → LacksByte separator x → parts separator (x ++ separator ∷ more) ≡ x ∷ parts separator more
unfolding parts
parts_at separator [] more lacks = rw (eq-eqb separator separator refl)
parts_at separator (byte ∷ x) more lacks =
    rw (ne_eqb byte separator (lacks 0 (omega arith))) (ap (with_byte byte) (parts_at separator x more (λ i less. lacks (suc i) (omega (arith, less)))))

-- the only part
pub parts_last : (separator : ℕ) (x : List ℕ) → LacksByte separator x → parts separator x ≡ x ∷ []
unfolding parts
parts_last separator [] lacks = refl
parts_last separator (byte ∷ x) lacks =
    rw (ne_eqb byte separator (lacks 0 (omega arith))) (ap (with_byte byte) (parts_last separator x (λ i less. lacks (suc i) (omega (arith, less)))))

-- there is one or more
abbrev pub HasFirst : List (List ℕ) → Type 0
HasFirst xs = (first : List ℕ) × (rest : List (List ℕ)) × (xs ≡ first ∷ rest)

some_parts : (separator byte : ℕ) (xs : List (List ℕ)) (t : Bool) → HasFirst xs → HasFirst (cond t ([] ∷ xs) (with_byte byte xs))
some_parts separator byte xs true some = ([], xs, refl)
some_parts separator byte xs false (first, rest, is) = (byte ∷ first, rest, ap (with_byte byte) is)

pub has_parts : (separator : ℕ) (text : List ℕ) → HasFirst (parts separator text)
unfolding parts
has_parts separator [] = ([], [], refl)
has_parts separator (byte ∷ text) = some_parts separator byte (parts separator text) (nat_eq byte separator) (has_parts separator text)

-- a look-up of the first element with a key tells it, or that there is none
pub first_told : (b key : List ℕ) (e : Option RawElement) → (x : FoundElement) × FindsElement b key x × TellsElement (Ok e) x → FindsFirst b key (option_map frame_of e)
first_told b key (Some e) (x, finds, tells) = subst (FindsElement b key) tells finds
first_told b key None (found f, finds, tells) = absurd tells
first_told b key None (missing end, finds, tells) = (end, finds)

pub fault_told : (b key : List ℕ) (e : BorrowedError) → (x : FoundElement) × FindsElement b key x × TellsElement (Err e) x → FindsFirst b key None
fault_told b key e (found f, finds, tells) = absurd tells
fault_told b key e (missing end, finds, tells) = (end, finds)

-- what the rest of a path leads to in this value is what the whole path leads to
abbrev pub LeadsOn : (b path inner rest : List ℕ) → Type 0
LeadsOn b path inner rest = (goal : Option Frame) → LeadsTo inner (parts dot rest) goal → LeadsTo b (parts dot path) goal

-- a step more
pub leads_more : (b path level rest step more inner : List ℕ) → LeadsOn b path level rest → rest ≡ step ++ dot ∷ more → LacksByte dot step → FindsInner level step (Some inner)
    → LeadsOn b path inner more
leads_more b path level rest step more inner on split lacks finds goal leads =
    let (first, others, is) = has_parts dot more in
    let cut : parts dot rest ≡ step ∷ first ∷ others = ap (parts dot) split ∙ parts_at dot step more lacks ∙ ap (λ (xs : List (List ℕ)). step ∷ xs) is in
    let further : LeadsTo inner (first ∷ others) goal = subst (λ (xs : List (List ℕ)). LeadsTo inner xs goal) is leads in
    on goal (subst (λ (xs : List (List ℕ)). LeadsTo level xs goal) (sym cut) (inl (inner, finds, further)))

-- a step that leads into nothing
pub leads_out : (b path level rest step more : List ℕ) → LeadsOn b path level rest → rest ≡ step ++ dot ∷ more → LacksByte dot step → FindsInner level step None
    → LeadsTo b (parts dot path) None
leads_out b path level rest step more on split lacks finds =
    let (first, others, is) = has_parts dot more in
    let cut : parts dot rest ≡ step ∷ first ∷ others = ap (parts dot) split ∙ parts_at dot step more lacks ∙ ap (λ (xs : List (List ℕ)). step ∷ xs) is in
    on None (subst (λ (xs : List (List ℕ)). LeadsTo level xs None) (sym cut) (inr (finds, refl)))

-- the last step
pub leads_last : (b path level rest : List ℕ) (goal : Option Frame) → LeadsOn b path level rest → LacksByte dot rest → FindsFirst level rest goal → LeadsTo b (parts dot path) goal
leads_last b path level rest goal on lacks finds = on goal (subst (λ (xs : List (List ℕ)). LeadsTo level xs goal) (sym (parts_last dot rest lacks)) finds)

-- what was picked, and after it what the rest of the text picks, is what the whole text picks
abbrev pub PicksOn : (b text done rest : List ℕ) → Type 0
PicksOn b text done rest = (elements : List ℕ) → PicksEach b (parts comma rest) elements → PicksEach b (parts comma text) (done ++ elements)

-- a path more
pub picks_more : (b text done rest path more : List ℕ) (goal : Option Frame) → PicksOn b text done rest → rest ≡ path ++ comma ∷ more → LacksByte comma path
    → LeadsTo b (parts dot path) goal → PicksOn b text (done ++ renamed path goal) more
picks_more b text done rest path more goal on split lacks leads elements picks =
    let cut : parts comma rest ≡ path ∷ parts comma more = ap (parts comma) split ∙ parts_at comma path more lacks in
    let both = on (renamed path goal ++ elements) (subst (λ (xs : List (List ℕ)). PicksEach b xs (renamed path goal ++ elements)) (sym cut) (goal, elements, leads, picks, refl)) in
    subst (PicksEach b (parts comma text)) (sym (append_assoc done (renamed path goal) elements)) both

-- the last path
pub picks_last : (b text done rest : List ℕ) (goal : Option Frame) → PicksOn b text done rest → LacksByte comma rest → LeadsTo b (parts dot rest) goal
    → PicksEach b (parts comma text) (done ++ renamed rest goal)
picks_last b text done rest goal on lacks leads =
    let one : PicksEach b (rest ∷ []) (renamed rest goal) = (goal, [], leads, refl, sym (append-nil (renamed rest goal))) in
    on (renamed rest goal) (subst (λ (xs : List (List ℕ)). PicksEach b xs (renamed rest goal)) (sym (parts_last comma rest lacks)) one)
