-- Paths: steps with a separator between them, by which an element of an inner level is found. The bytes b are the caller's.
use Rattle.std.specs.Prelude.{◌≡◌, ◌≢◌, ◌⊎◌, ◌<◌, ◌+◌, ℕ, ℤ, Bool, true, false, nat_eq, All, List, [], ◌∷◌, ◌++◌, length, drop, decimal}
use Rattle.raw_bson.specs.Frame.{Done, End, Frame, IsFrame, IsWalk, LeadsTo, Stopped}
use Rattle.raw_bson.specs.Kind.{tag_of}
use Rattle.raw_bson.specs.LookUp.{HasNoKey}
use Rattle.bsonraw_c.specs.Build.{IsNested, elements}
use Rattle.bsonraw_c.specs.Codes.{TellsFaultCode}
use Rattle.bsonraw_c.specs.Iters.{FindsOn, GoesThrough, HasNoElement, HasSameDocument, IsAtFrame, IsAtStop, IsKept, IsShut, Returns, StaysAstray, StopsAt, place_of_none}
use Rattle.bsonraw_c.specs.Values.{no_fault}
use Rattle.bsonraw_c.specs.declared.codes.Status.TheVariants as status
use Rattle.bsonraw_c.specs.declared.fault.Fault.{Fault}
use Rattle.bsonraw_c.specs.declared.iter.Iter.{Iter}

-- none of these bytes is this one
abbrev pub HasNone : ℕ → List ℕ → Type 0
HasNone byte bytes = All (λ b. b ≢ byte) bytes

-- the path has these steps: one, and there is no separator; or a first one, a separator, and the others after it
abbrev pub HasSteps : ℕ → List ℕ → List (List ℕ) → Type 0
HasSteps separator path [] = ⊥
HasSteps separator path (s ∷ []) = (path ≡ s) × HasNone separator s
HasSteps separator path (s ∷ t ∷ ss) = (rest : List ℕ) × (path ≡ s ++ separator ∷ rest) × HasNone separator s × HasSteps separator rest (t ∷ ss)

-- A level: where its document is; what is left of that from an offset on; whether it is an array; and the last fault before.
pub record Level : Type 0 where
  pub document_at : ℕ
  pub document_len : ℕ
  pub offset : ℕ
  pub left : List ℕ
  pub in_array : Bool
  pub fault : Fault

-- whether a tag is that of an array
abbrev pub is_array : ℕ → Bool
is_array tag = nat_eq tag 4

-- the level that an iterator goes through, from its next offset on: a step in it is a key
abbrev pub level_from : Iter → List ℕ → Level
level_from it s = record { document_at = it.document_at; document_len = it.document_len; offset = it.next; left = s; in_array = false; fault = it.fault }

-- the level that is the payload of this frame, whose tag is at this offset
abbrev pub level_in : ℕ → Frame → Level
level_in offset f = record {
  document_at = offset + (2 + length f.key);
  document_len = length f.payload;
  offset = offset + (6 + length f.key);
  left = drop 4 f.payload;
  in_array = is_array (tag_of f.kind);
  fault = no_fault;
}

-- these elements aren't the step's: in a document they have other keys; in an array their numbers, from 0, are others
abbrev pub AreNoStep : Bool → List ℕ → List Frame → Type 0
AreNoStep false step passed = HasNoKey step passed
AreNoStep true step passed = (n : ℕ) → n < length passed → decimal n ≢ step

-- and after them comes this one: it has this key, or this number
abbrev pub IsStep : Bool → List ℕ → List Frame → Frame → Type 0
IsStep false step passed f = f.key ≡ step
IsStep true step passed f = decimal (length passed) ≡ step

-- the first element of the level that is the step's is this frame, whose tag is at this offset
abbrev pub StepFinds : Level → List ℕ → ℕ → Frame → Type 0
StepFinds l step offset f =
    (passed : List Frame) × (s r : List ℕ) × LeadsTo l.left passed s × IsFrame s f r × AreNoStep l.in_array step passed × IsStep l.in_array step passed f
    × (offset ≡ l.offset + length (elements passed))

-- no element of the level is the step's, and the level ends so, at this offset
abbrev pub StepMisses : Level → List ℕ → ℕ → End → Type 0
StepMisses l step offset end =
    (frames : List Frame) × IsWalk l.left frames end × AreNoStep l.in_array step frames × (offset ≡ l.offset + length (elements frames))

-- Where a path goes: to an element; or to none, as the level of the step that finds none ends; or to an element without a level,
-- though more steps are left.
pub data Goal : Type 0 where
  found : Frame → Goal
  missed : End → Goal
  barred : Goal

-- where a last step goes
abbrev pub StepGoesTo : Level → List ℕ → ℕ → Goal → Type 0
StepGoesTo l step offset (found f) = StepFinds l step offset f
StepGoesTo l step offset (missed end) = StepMisses l step offset end
StepGoesTo l step offset barred = ⊥

-- Where these steps go from this level on: the first one finds none; or an element that is neither a document nor an array; or
-- one that is, and the other steps go on in it. The goal is in the last level, at this offset.
abbrev pub GoesTo : Level → List (List ℕ) → Level → ℕ → Goal → Type 0
GoesTo l [] last offset goal = ⊥
GoesTo l (s ∷ []) last offset goal = (last ≡ l) × StepGoesTo l s offset goal
GoesTo l (s ∷ t ∷ ss) last offset goal =
    ((end : End) × StepMisses l s offset end × (last ≡ l) × (goal ≡ missed end))
    ⊎ ((f : Frame) × StepFinds l s offset f × (¬ IsNested f.kind) × (last ≡ l) × (goal ≡ barred))
    ⊎ ((at : ℕ) × (f : Frame) × StepFinds l s at f × IsNested f.kind × GoesTo (level_in at f) (t ∷ ss) last offset goal)

-- the iterator goes through this level
abbrev pub IsIn : Level → Iter → Type 0
IsIn l it = (it.document_at ≡ l.document_at) × (it.document_len ≡ l.document_len)

-- what the iterator says of a goal in this level, at this offset, and what is returned
abbrev pub SaysGoal : List ℕ → Level → ℕ → Goal → Iter → ℤ → Type 0
SaysGoal b l offset (found f) it code = IsIn l it × IsAtFrame b offset f it × (it.fault ≡ l.fault) × Returns status.Done code
SaysGoal b l offset (missed Done) it code = IsIn l it × HasNoElement (place_of_none b) it × (it.next ≡ offset) × (it.fault ≡ l.fault) × Returns status.Nothing code
SaysGoal b l offset (missed (Stopped fault key)) it code =
    IsIn l it × IsAtStop b offset key it × (it.next ≡ offset) × TellsFaultCode fault it.fault.why × (it.fault.offset ≡ offset) × Returns status.Fault code
SaysGoal b l offset barred it code = IsShut b it × (it.fault ≡ no_fault) × Returns status.OtherKind code

-- an iterator that is astray finds nothing
abbrev pub FindsAstray : List ℕ → Iter → Iter → ℤ → Type 0
FindsAstray b old new code = StaysAstray b old new code × HasSameDocument old new × (new.fault ≡ old.fault)

-- what a path with this separator finds, by an iterator with any fields
abbrev pub FindsPathOf : List ℕ → List ℕ → ℕ → Iter → Iter → ℤ → Type 0
FindsPathOf b path separator old new code =
    ((d s : List ℕ) × (steps : List (List ℕ)) × (last : Level) × (offset : ℕ) × (goal : Goal)
    × GoesThrough b old d s × HasSteps separator path steps × GoesTo (level_from old s) steps last offset goal
    × SaysGoal b last offset goal new code)
    ⊎ FindsAstray b old new code

-- one step as it is worked out

-- the iterator goes on from s over frames, and stops at the frame after them, whose number is the step; or where the walk ends,
-- or stops, before it
abbrev pub FindsNumberFrom : List ℕ → List ℕ → List ℕ → Iter → Iter → ℤ → Type 0
FindsNumberFrom b step s old new code =
    (d t : List ℕ) × (offset : ℕ) × (passed : List Frame) × GoesThrough b (record old { next = offset }) d t
    × LeadsTo s passed t × ((n : ℕ) → n < length passed → decimal n ≢ step)
    × StopsAt (λ _. decimal (length passed) ≡ step) b t offset new code

abbrev pub FindsNumber : List ℕ → List ℕ → Iter → Iter → ℤ → Type 0
FindsNumber b step old new code =
    IsKept old new code
    × (((d s : List ℕ) × GoesThrough b old d s × FindsNumberFrom b step s old new code)
    ⊎ StaysAstray b old new code)

-- what a step goes to: in a document the next element with this key; in an array the element of this number
abbrev pub FindsStep : List ℕ → Bool → List ℕ → Iter → Iter → ℤ → Type 0
FindsStep b false step old new code = FindsOn b step old new code
FindsStep b true step old new code = FindsNumber b step old new code
