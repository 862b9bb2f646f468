-- The steps of a path, as an iterator takes them.
use Rattle.std.proofs.Common.{◌≡◌, ◌≢◌, ◌⊎◌, ℕ, ℤ, Bool, true, false, nat_eq, List, [], ◌∷◌, ◌++◌, ap, refl, arith, inl, inr}
use Rattle.std.proofs.lemmas.List.Elements.{All-cons, All-nil}
use Rattle.bsonraw_c.specs.Iters.{Descends, Returns}
use Rattle.bsonraw_c.specs.Paths.{FindsStep, HasNone, HasSteps, is_array}
use Rattle.bsonraw_c.specs.declared.codes.Status.TheVariants as status
use Rattle.bsonraw_c.specs.declared.iter.Iter.{Iter}

-- what these steps go to: each but the last one to a document or an array, in which the next one begins; or why one doesn't
abbrev pub WalksPath : List ℕ → Bool → List (List ℕ) → Iter → Iter → ℤ → Type 0
WalksPath b in_array [] old new code = ⊥
WalksPath b in_array (s ∷ []) old new code = FindsStep b in_array s old new code
WalksPath b in_array (s ∷ t ∷ ss) old new code =
    ((¬ Returns status.Done code) × FindsStep b in_array s old new code)
    ⊎ ((parent : Iter) × (code_of : ℤ) × FindsStep b in_array s old parent code_of × Returns status.Done code_of
    × (((¬ Returns status.Done code) × Descends b parent new code)
    ⊎ ((child : Iter) × (begun : ℤ) × Descends b parent child begun × Returns status.Done begun × WalksPath b (is_array parent.tag) (t ∷ ss) child new code)))

-- a path with this separator
abbrev pub WalksPathOf : List ℕ → List ℕ → ℕ → Iter → Iter → ℤ → Type 0
WalksPathOf b path separator old new code = (steps : List (List ℕ)) × HasSteps separator path steps × WalksPath b false steps old new code

-- What is found from here on by the steps of this path is what the whole path finds.
pub record GoesOnWith (b whole : List ℕ) (separator : ℕ) (first : Iter) (path : List ℕ) (in_array : Bool) (now : Iter) : Type 0 where
  pub finds : (new : Iter) (code : ℤ) (steps : List (List ℕ)) → HasSteps separator path steps → WalksPath b in_array steps now new code → WalksPathOf b whole separator first new code

-- at first
pub begun : (b whole : List ℕ) (separator : ℕ) (first : Iter) → GoesOnWith b whole separator first whole false first
begun b whole separator first = record { finds = λ new code steps has finds. (steps, has, finds) }

-- the last step
pub last_step : {b whole : List ℕ} {separator : ℕ} {first : Iter} {path : List ℕ} {in_array : Bool} {now : Iter}
    → GoesOnWith b whole separator first path in_array now → (step : List ℕ) → path ≡ step → HasNone separator step → (new : Iter) (code : ℤ)
    → FindsStep b in_array step now new code → WalksPathOf b whole separator first new code
last_step goes step is none new code finds = goes.finds new code (step ∷ []) (is, none) finds

-- every path has steps
front_step : (separator byte : ℕ) (bytes : List ℕ) → byte ≢ separator → (steps : List (List ℕ)) → HasSteps separator bytes steps → (more : List (List ℕ)) × HasSteps separator (byte ∷ bytes) more
front_step separator byte bytes other [] has = absurd has
front_step separator byte bytes other (s ∷ []) has = ((byte ∷ s) ∷ [], (ap (λ (x : List ℕ). byte ∷ x) has.0, All-cons (λ b. b ≢ separator) byte s other has.1))
front_step separator byte bytes other (s ∷ t ∷ ss) has = ((byte ∷ s) ∷ t ∷ ss, (has.0, ap (λ (x : List ℕ). byte ∷ x) has.1, All-cons (λ b. b ≢ separator) byte s other has.2, has.3))

cut_step : (separator byte : ℕ) (bytes : List ℕ) → byte ≡ separator → (steps : List (List ℕ)) → HasSteps separator bytes steps → (more : List (List ℕ)) × HasSteps separator (byte ∷ bytes) more
cut_step separator byte bytes same [] has = absurd has
cut_step separator byte bytes same (s ∷ ss) has = ([] ∷ s ∷ ss, (bytes, ap (λ (x : ℕ). x ∷ bytes) same, All-nil (λ b. b ≢ separator), has))

some_steps : (separator byte : ℕ) (bytes : List ℕ) (steps : List (List ℕ)) → HasSteps separator bytes steps → (t : Bool) → nat_eq byte separator ≡ t
    → (more : List (List ℕ)) × HasSteps separator (byte ∷ bytes) more
some_steps separator byte bytes steps has true e = cut_step separator byte bytes (grind arith) steps has
some_steps separator byte bytes steps has false e = front_step separator byte bytes (grind arith) steps has

pub has_steps : (separator : ℕ) (path : List ℕ) → (steps : List (List ℕ)) × HasSteps separator path steps
has_steps separator [] = ([] ∷ [], (refl, All-nil (λ b. b ≢ separator)))
has_steps separator (byte ∷ bytes) = let h = has_steps separator bytes in some_steps separator byte bytes h.0 h.1 (nat_eq byte separator) refl

-- a step that isn't the last one
more_steps : (separator : ℕ) (path step rest : List ℕ) → path ≡ step ++ separator ∷ rest → HasNone separator step → (steps : List (List ℕ))
    → HasSteps separator rest steps → HasSteps separator path (step ∷ steps)
more_steps separator path step rest is none [] has = absurd has
more_steps separator path step rest is none (t ∷ ss) has = (rest, is, none, has)

-- a step that others come after
pub record IsBefore (separator : ℕ) (path step rest : List ℕ) : Type 0 where
  pub is : path ≡ step ++ separator ∷ rest
  pub none : HasNone separator step

module _ {b whole : List ℕ} {separator : ℕ} {first : Iter} {path : List ℕ} {in_array : Bool} {now : Iter} (goes : GoesOnWith b whole separator first path in_array now)
    {step rest : List ℕ} (s : IsBefore separator path step rest) where
  -- what it finds
  abbrev IsFound : Iter → ℤ → Type 0
  IsFound parent found = FindsStep b in_array step now parent found × Returns status.Done found

  stops_with : (steps : List (List ℕ)) → HasSteps separator rest steps → (new : Iter) (code : ℤ) → ¬ Returns status.Done code
      → FindsStep b in_array step now new code → WalksPathOf b whole separator first new code
  stops_with [] has new code other finds = absurd has
  stops_with (t ∷ ss) has new code other finds = goes.finds new code (step ∷ t ∷ ss) (more_steps separator path step rest s.is s.none (t ∷ ss) has) (inl (other, finds))

  -- it isn't found
  pub stops_at : (new : Iter) (code : ℤ) → ¬ Returns status.Done code → FindsStep b in_array step now new code → WalksPathOf b whole separator first new code
  stops_at new code other finds = let h = has_steps separator rest in stops_with h.0 h.1 new code other finds

  bars_with : (parent : Iter) (found : ℤ) (steps : List (List ℕ)) → HasSteps separator rest steps → IsFound parent found → (new : Iter) (code : ℤ)
      → ¬ Returns status.Done code → Descends b parent new code → WalksPathOf b whole separator first new code
  bars_with parent found [] has is_found new code other down = absurd has
  bars_with parent found (t ∷ ss) has is_found new code other down =
      goes.finds new code (step ∷ t ∷ ss) (more_steps separator path step rest s.is s.none (t ∷ ss) has) (inr (parent, found, is_found.0, is_found.1, inl (other, down)))

  -- it is found, and nothing is inside
  pub bars_at : (parent : Iter) (found : ℤ) → FindsStep b in_array step now parent found → Returns status.Done found → (new : Iter) (code : ℤ)
      → ¬ Returns status.Done code → Descends b parent new code → WalksPathOf b whole separator first new code
  bars_at parent found finds done new code other down = let h = has_steps separator rest in bars_with parent found h.0 h.1 (finds, done) new code other down

  -- it is found, and gone into
  pub goes_in : (parent : Iter) (found : ℤ) → FindsStep b in_array step now parent found → Returns status.Done found → (child : Iter) (begins : ℤ)
      → Descends b parent child begins → Returns status.Done begins → GoesOnWith b whole separator first rest (is_array parent.tag) child
  goes_in parent found finds done child begins down also = record {
    finds = λ new code steps has onward. goes_on_in steps has new code onward;
  }
    where
      goes_on_in : (steps : List (List ℕ)) → HasSteps separator rest steps → (new : Iter) (code : ℤ) → WalksPath b (is_array parent.tag) steps child new code
          → WalksPathOf b whole separator first new code
      goes_on_in [] has new code onward = absurd has
      goes_on_in (t ∷ ss) has new code onward =
          goes.finds new code (step ∷ t ∷ ss) (more_steps separator path step rest s.is s.none (t ∷ ss) has)
          (inr (parent, found, finds, done, inr (child, begins, down, also, onward)))
