-- What an iterator's steps of a path go to, on whole lists.
use Rattle.std.proofs.Common.{◌≡◌, ◌≢◌, ◌⊎◌, inl, inr, ◌<◌, ◌+◌, ◌-◌, ◌^◌, ℕ, ℤ, pos, Bool, true, false, List, [], ◌∷◌, ◌++◌, length, drop, ap, sym, ◌∙◌, refl, arith, length-append, subst, decimal}
use Rattle.std.proofs.lemmas.List.{length-drop}
use Rattle.std.specs.Int.Signed.{mag}
use Rattle.raw_bson.proofs.Face.{LeadsTo-walk}
use Rattle.raw_bson.specs.Append.{frame_bytes}
use Rattle.raw_bson.specs.ElementType.{ElementType}
use Rattle.raw_bson.specs.ElementType.TheVariants as kind
use Rattle.raw_bson.specs.Envelope.{IsEnvelope, Refuses}
use Rattle.raw_bson.specs.Frame.{Done, Frame, HasShape, IsFrame, LeadsTo, Stopped}
use Rattle.raw_bson.specs.Kind.{tag_of}
use Rattle.raw_bson.specs.LookUp.{HasThisKey}
use Rattle.raw_bson.specs.Reason.{Reason}
use Rattle.raw_bson.specs.Reason.TheVariants as reason
use Rattle.bsonraw_c.specs.Build.{IsNested, elements}
use Rattle.bsonraw_c.specs.Codes.{IsNoFault}
use Rattle.bsonraw_c.specs.Iters.{Begins, BeginsAt, Descends, GoesThrough, IsAtFrame, IsKept, Returns, StopsAt}
use Rattle.bsonraw_c.specs.Paths.{FindsAstray, FindsPathOf, FindsStep, Goal, GoesTo, HasSteps, IsStep, Level, AreNoStep, SaysGoal, StepFinds, StepGoesTo, barred, found, is_array, level_from, level_in, missed}
use Rattle.bsonraw_c.specs.Values.{no_fault}
use Rattle.bsonraw_c.specs.declared.codes.Status.TheVariants as status
use Rattle.bsonraw_c.specs.declared.fault.Fault.{Fault}
use Rattle.bsonraw_c.specs.declared.iter.Iter.{Iter}
use Rattle.bsonraw_c.proofs.Iterating.{few, stands_same}
use Rattle.bsonraw_c.proofs.Stepping.{WalksPath, WalksPathOf}
use Rattle.bsonraw_c.proofs.Valuing.{one_left}

-- how long the elements are that lead somewhere
leads_length : (s : List ℕ) (fs : List Frame) (t : List ℕ) → LeadsTo s fs t → length s ≡ length (elements fs) + length t
leads_length s [] t l = omega (arith, ap length l)
leads_length s (f ∷ fs) t l = omega (
  arith,
  ap length l.1.spelled,
  length-append f.key (0 ∷ (f.payload ++ l.0)),
  length-append f.payload l.0,
  leads_length l.0 fs t l.2,
  length-append (frame_bytes f) (elements fs),
  length-append f.key (0 ∷ f.payload),
)

-- where they end
offset_there : (b d e s t : List ℕ) (it : Iter) (offset : ℕ) (fs : List Frame) → GoesThrough b it d s → GoesThrough b (record it { next = offset }) e t
    → LeadsTo s fs t → offset ≡ it.next + length (elements fs)
offset_there b d e s t it offset fs g h leads = omega (
  arith,
  leads_length s fs t leads,
  ap length g.left,
  ap length h.left,
  length-drop (it.next - it.document_at) d,
  length-drop (offset - it.document_at) e,
  g.stands.len_is,
  h.stands.len_is,
  g.begun,
  h.begun,
  g.within,
  h.within,
)

-- one number alone is returned
one_code : (code : ℤ) (n m : ℕ) → code ≡ pos n → code ≡ pos m → n ≡ m
one_code code n m is same = ap mag (sym is ∙ same)

no_fault_code : (code : ℤ) (n : ℕ) → code ≡ pos n → n ≢ 2 → ¬ Returns status.Fault code
no_fault_code code n is other same = other (one_code code n 2 is same)

-- one step

abbrev level_at : Bool → Iter → List ℕ → Level
level_at in_array it s = record (level_from it s) { in_array = in_array }

-- an element that was found ends below 2 ^ 32
abbrev EndsLow : ℕ → Goal → Type 0
EndsLow offset (found f) = offset + (2 + (length f.key + length f.payload)) < 2 ^ 32
EndsLow offset _ = Unit {0}

abbrev StepSays : List ℕ → Bool → List ℕ → Iter → Iter → ℤ → Type 0
StepSays b in_array step old new code =
    ((d s : List ℕ) × (offset : ℕ) × (goal : Goal) × GoesThrough b old d s × StepGoesTo (level_at in_array old s) step offset goal
    × SaysGoal b (level_at in_array old s) offset goal new code × EndsLow offset goal)
    ⊎ FindsAstray b old new code

-- frames that the step isn't were gone over
record HasReached (in_array : Bool) (step s : List ℕ) (passed : List Frame) (t : List ℕ) : Type 0 where
  pub leads : LeadsTo s passed t
  pub passes : AreNoStep in_array step passed

module _ {b : List ℕ} {in_array : Bool} {step : List ℕ} {old : Iter} (new : Iter) (code : ℤ) (kept : IsKept old new code) {d s : List ℕ} (g : GoesThrough b old d s)
    {e t : List ℕ} {offset : ℕ} {passed : List Frame} (h : GoesThrough b (record old { next = offset }) e t) (reached : HasReached in_array step s passed t)
    (IsWanted : Frame → Type 0) (wanted : (f : Frame) → IsWanted f → IsStep in_array step passed f) where
  there : offset ≡ old.next + length (elements passed)
  there = offset_there b d e s t old offset passed g h reached.leads

  stopped_says : StopsAt IsWanted b t offset new code → StepSays b in_array step old new code
  stopped_says (inl ((f, r, frame, is, at), done)) =
      inl (
        d,
        s,
        offset,
        found f,
        g,
        (passed, t, r, reached.leads, frame, reached.passes, wanted f is, there),
        (kept.0, at, kept.1 (no_fault_code code 0 done (λ two. omega (arith, two))), done),
        few b e t (record old { next = offset }) h f r frame,
      )
  stopped_says (inr (inl ((final, none, next), done))) =
      inl (
        d,
        s,
        offset,
        missed Done,
        g,
        (passed, LeadsTo-walk s passed t Done reached.leads final, reached.passes, there),
        (kept.0, none, next, kept.1 (no_fault_code code 1 done (λ two. omega (arith, two))), done),
        tt,
      )
  stopped_says (inr (inr ((fault, key, stop, at, next, tells, offset_is), done))) =
      inl (d, s, offset, missed (Stopped fault key), g, (passed, LeadsTo-walk s passed t (Stopped fault key) reached.leads stop, reached.passes, there), (kept.0, at, next, tells, offset_is, done), tt)

step_says : (b : List ℕ) (in_array : Bool) (step : List ℕ) (old new : Iter) (code : ℤ) → FindsStep b in_array step old new code → StepSays b in_array step old new code
step_says b false step old new code (kept, inl (d, s, g, (e, t, offset, passed, h, leads, others, stops))) =
    let reached : HasReached false step s passed t = record { leads = leads; passes = others } in
    stopped_says new code kept g h reached (HasThisKey step) (λ f is. is) stops
step_says b false step old new code (kept, inr astray) = inr (astray, kept.0, kept.1 (no_fault_code code 9 astray.3 (λ two. omega (arith, two))))
step_says b true step old new code (kept, inl (d, s, g, (e, t, offset, passed, h, leads, others, stops))) =
    let reached : HasReached true step s passed t = record { leads = leads; passes = others } in
    stopped_says new code kept g h reached (λ _. decimal (length passed) ≡ step) (λ f is. is) stops
step_says b true step old new code (kept, inr astray) = inr (astray, kept.0, kept.1 (no_fault_code code 9 astray.3 (λ two. omega (arith, two))))

-- an element that a step found
pub record StepFound (b : List ℕ) (in_array : Bool) (step : List ℕ) (old parent : Iter) : Type 0 where
  pub d : List ℕ
  pub s : List ℕ
  pub offset : ℕ
  pub f : Frame
  pub goes : GoesThrough b old d s
  pub finds : StepFinds (level_at in_array old s) step offset f
  pub at : IsAtFrame b offset f parent
  pub low : offset + (2 + (length f.key + length f.payload)) < 2 ^ 32

step_found : (b : List ℕ) (in_array : Bool) (step : List ℕ) (old parent : Iter) (code : ℤ) → StepSays b in_array step old parent code → Returns status.Done code → StepFound b in_array step old parent
step_found b in_array step old parent code (inl (d, s, offset, found f, g, goes, says, low)) done = record { d = d; s = s; offset = offset; f = f; goes = g; finds = goes; at = says.1; low = low }
step_found b in_array step old parent code (inl (d, s, offset, missed Done, g, goes, says, low)) done = absurd (omega (arith, one_code code 1 0 says.4 done))
step_found b in_array step old parent code (inl (d, s, offset, missed (Stopped fault key), g, goes, says, low)) done = absurd (omega (arith, one_code code 2 0 says.5 done))
step_found b in_array step old parent code (inl (d, s, offset, barred, g, goes, says, low)) done = absurd goes
step_found b in_array step old parent code (inr astray) done = absurd (omega (arith, one_code code 9 0 astray.0.3 done))

-- the level in an element

refuses_none : (b : List ℕ) (r : Reason) → Refuses b r → ¬ IsEnvelope b
refuses_none b reason.TooShort bad env = omega (arith, bad, env.enough)
refuses_none b reason.LengthIncorrect bad env = bad.1 env.header
refuses_none b reason.NotTerminated bad env = bad.2 env.ended
refuses_none b _ bad env = bad

nested_envelope : (k : ElementType) (p r : List ℕ) → IsNested k → HasShape k p r → IsEnvelope p
nested_envelope k p r (inl is) shape = subst (λ (x : ElementType). HasShape x p r) is shape
nested_envelope k p r (inr is) shape = subst (λ (x : ElementType). HasShape x p r) is shape

other_tag : (n : ℕ) → n ≢ 3 → n ≢ 4 → ¬ ((n ≡ 3) ⊎ (n ≡ 4))
other_tag n three four (inl is) = three is
other_tag n three four (inr is) = four is

nested_kind : (k : ElementType) → (tag_of k ≡ 3) ⊎ (tag_of k ≡ 4) → IsNested k
nested_kind kind.Double is = absurd (other_tag _ (λ e. omega (arith, e)) (λ e. omega (arith, e)) is)
nested_kind kind.String is = absurd (other_tag _ (λ e. omega (arith, e)) (λ e. omega (arith, e)) is)
nested_kind kind.EmbeddedDocument is = inl refl
nested_kind kind.Array is = inr refl
nested_kind kind.Binary is = absurd (other_tag _ (λ e. omega (arith, e)) (λ e. omega (arith, e)) is)
nested_kind kind.Undefined is = absurd (other_tag _ (λ e. omega (arith, e)) (λ e. omega (arith, e)) is)
nested_kind kind.ObjectId is = absurd (other_tag _ (λ e. omega (arith, e)) (λ e. omega (arith, e)) is)
nested_kind kind.Boolean is = absurd (other_tag _ (λ e. omega (arith, e)) (λ e. omega (arith, e)) is)
nested_kind kind.DateTime is = absurd (other_tag _ (λ e. omega (arith, e)) (λ e. omega (arith, e)) is)
nested_kind kind.Null is = absurd (other_tag _ (λ e. omega (arith, e)) (λ e. omega (arith, e)) is)
nested_kind kind.RegularExpression is = absurd (other_tag _ (λ e. omega (arith, e)) (λ e. omega (arith, e)) is)
nested_kind kind.DbPointer is = absurd (other_tag _ (λ e. omega (arith, e)) (λ e. omega (arith, e)) is)
nested_kind kind.JavaScriptCode is = absurd (other_tag _ (λ e. omega (arith, e)) (λ e. omega (arith, e)) is)
nested_kind kind.Symbol is = absurd (other_tag _ (λ e. omega (arith, e)) (λ e. omega (arith, e)) is)
nested_kind kind.JavaScriptCodeWithScope is = absurd (other_tag _ (λ e. omega (arith, e)) (λ e. omega (arith, e)) is)
nested_kind kind.Int32 is = absurd (other_tag _ (λ e. omega (arith, e)) (λ e. omega (arith, e)) is)
nested_kind kind.Timestamp is = absurd (other_tag _ (λ e. omega (arith, e)) (λ e. omega (arith, e)) is)
nested_kind kind.Int64 is = absurd (other_tag _ (λ e. omega (arith, e)) (λ e. omega (arith, e)) is)
nested_kind kind.Decimal128 is = absurd (other_tag _ (λ e. omega (arith, e)) (λ e. omega (arith, e)) is)
nested_kind kind.MaxKey is = absurd (other_tag _ (λ e. omega (arith, e)) (λ e. omega (arith, e)) is)
nested_kind kind.MinKey is = absurd (other_tag _ (λ e. omega (arith, e)) (λ e. omega (arith, e)) is)

fault_none : (fault : Fault) → IsNoFault fault.why → fault.offset ≡ 0 → fault ≡ no_fault
fault_none fault why offset = λ i. record { why = record { kind = why.0 i; reason = why.1.0 i; number = why.1.1 i; left = why.1.2 i }; offset = offset i }

-- the element of a frame, whose tag is at this offset
module _ {b : List ℕ} {offset : ℕ} {f : Frame} {t r : List ℕ} (frame : IsFrame t f r) (low : offset + (2 + (length f.key + length f.payload)) < 2 ^ 32)
    {parent : Iter} (at : IsAtFrame b offset f parent) where
  nested_tag : (parent.tag ≡ 3) ⊎ (parent.tag ≡ 4) → IsNested f.kind
  nested_tag (inl is) = nested_kind f.kind (inl (sym at.tag ∙ is))
  nested_tag (inr is) = nested_kind f.kind (inr (sym at.tag ∙ is))

  not_nested : parent.tag ≢ 3 → parent.tag ≢ 4 → ¬ IsNested f.kind
  not_nested three four (inl is) = three (at.tag ∙ ap tag_of is)
  not_nested three four (inr is) = four (at.tag ∙ ap tag_of is)

  -- a level begins in it
  begins_inside : IsNested f.kind → (it : Iter) (code : ℤ) → BeginsAt b parent.payload_at parent.payload_len it code → Begins b parent.payload_at parent.payload_len it × Returns status.Done code
  begins_inside nested it code (inl (_, d, _, _, begins, done)) = (begins, done)
  begins_inside nested it code (inr (inl (_, d, why, stands, refused, _, _, _, _))) =
      absurd (refuses_none f.payload why (subst (λ (x : List ℕ). Refuses x why)
      (stands_same b d f.payload parent.payload_at parent.payload_len stands at.payload) refused)
      (nested_envelope f.kind f.payload r nested frame.payload_is))
  begins_inside nested it code (inr (inr (inl short, _, _, _, _))) =
      absurd (omega (
        arith,
        short,
        at.payload.offset_is,
        at.payload.len_is,
        ap length at.payload.whole,
        length-append at.payload.before (f.payload ++ at.payload.behind),
        length-append f.payload at.payload.behind,
      ))
  begins_inside nested it code (inr (inr (inr far, _, _, _, _))) = absurd (omega (arith, far, low, at.payload_begins, at.key_begins, at.key.len_is, at.payload.len_is))

  module _ (nested : IsNested f.kind) (child : Iter) (begins : Begins b parent.payload_at parent.payload_len child) where
    inside : GoesThrough b child f.payload (drop 4 f.payload)
    inside = record {
      small = omega (arith, begins.document_at, begins.document_len, low, at.payload_begins, at.key_begins, at.key.len_is, at.payload.len_is);
      stands = record {
        before = at.payload.before;
        behind = at.payload.behind;
        whole = at.payload.whole;
        offset_is = begins.document_at ∙ at.payload.offset_is;
        len_is = begins.document_len ∙ at.payload.len_is;
      };
      envelope = nested_envelope f.kind f.payload r nested frame.payload_is;
      begun = omega (arith, begins.document_at, begins.next);
      within = omega (arith, begins.document_at, begins.document_len, begins.next, at.payload.len_is, (nested_envelope f.kind f.payload r nested frame.payload_is).enough);
      left = ap (λ (n : ℕ). drop n f.payload) (let four : 4 ≡ child.next - child.document_at = omega (arith, begins.document_at, begins.next) in four);
    }

    same_level : (d s : List ℕ) → GoesThrough b child d s → level_at (is_array parent.tag) child s ≡ level_in offset f
    same_level d s g =
        let where_is : child.document_at ≡ offset + (2 + length f.key) = omega (arith, begins.document_at, at.payload_begins, at.key_begins, at.key.len_is) in
        let len : child.document_len ≡ length f.payload = begins.document_len ∙ at.payload.len_is in
        let next : child.next ≡ offset + (6 + length f.key) = omega (arith, begins.next, at.payload_begins, at.key_begins, at.key.len_is) in
        let left : s ≡ drop 4 f.payload = one_left b d s f.payload (drop 4 f.payload) child g inside in
        let array = ap is_array at.tag in
        let fault = fault_none child.fault begins.no_fault begins.no_offset in
        λ i. record { document_at = where_is i; document_len = len i; offset = next i; left = left i; in_array = array i; fault = fault i }

-- whole paths

abbrev PathSays : List ℕ → Bool → List (List ℕ) → Iter → Iter → ℤ → Type 0
PathSays b in_array steps old new code =
    ((d s : List ℕ) × (last : Level) × (offset : ℕ) × (goal : Goal) × GoesThrough b old d s × GoesTo (level_at in_array old s) steps last offset goal × SaysGoal b last offset goal new code)
    ⊎ FindsAstray b old new code

last_says : (b : List ℕ) (in_array : Bool) (step : List ℕ) (old new : Iter) (code : ℤ) → StepSays b in_array step old new code → PathSays b in_array (step ∷ []) old new code
last_says b in_array step old new code (inl (d, s, offset, goal, g, goes, says, low)) = inl (d, s, level_at in_array old s, offset, goal, g, (refl, goes), says)
last_says b in_array step old new code (inr astray) = inr astray

-- the first step finds none
none_says : (b : List ℕ) (in_array : Bool) (step next : List ℕ) (more : List (List ℕ)) (old new : Iter) (code : ℤ) → ¬ Returns status.Done code → StepSays b in_array step old new code
    → PathSays b in_array (step ∷ next ∷ more) old new code
none_says b in_array step next more old new code other (inl (d, s, offset, found f, g, goes, says, low)) = absurd (other says.3)
none_says b in_array step next more old new code other (inl (d, s, offset, missed end, g, goes, says, low)) =
    inl (d, s, level_at in_array old s, offset, missed end, g, inl (end, goes, refl, refl), says)
none_says b in_array step next more old new code other (inl (d, s, offset, barred, g, goes, says, low)) = absurd goes
none_says b in_array step next more old new code other (inr astray) = inr astray

module _ {b : List ℕ} {in_array : Bool} {step : List ℕ} {old parent : Iter} (h : StepFound b in_array step old parent) (next : List ℕ) (more : List (List ℕ)) (new : Iter) (code : ℤ) where
  -- it finds an element without a level
  barred_says : ¬ Returns status.Done code → Descends b parent new code → PathSays b in_array (step ∷ next ∷ more) old new code
  barred_says other (inl (tag, begins)) =
      absurd (other (begins_inside h.finds.4 h.low h.at (nested_tag h.finds.4 h.low h.at tag) new code begins).1)
  barred_says other (inr (three, four, shut, why, offset, done)) =
      inl (
        h.d,
        h.s,
        level_at in_array old h.s,
        h.offset,
        barred,
        h.goes,
        inr (inl (h.f, h.finds, not_nested h.finds.4 h.low h.at three four, refl, refl)),
        (shut, fault_none new.fault why offset, done),
      )

  -- it finds one with a level, in which the others go on
  module _ (child : Iter) (begun : ℤ) (also : Returns status.Done begun) where
    onward : IsNested h.f.kind → Begins b parent.payload_at parent.payload_len child → PathSays b (is_array parent.tag) (next ∷ more) child new code
        → PathSays b in_array (step ∷ next ∷ more) old new code
    onward nested begins (inl (d, s, last, offset, goal, g, goes, says)) =
        let same = same_level h.finds.4 h.low h.at nested child begins d s g in
        inl (h.d, h.s, last, offset, goal, h.goes, inr (inr (h.offset, h.f, h.finds, nested, subst (λ (l : Level). GoesTo l (next ∷ more) last offset goal) same goes)), says)
    onward nested begins (inr astray) = absurd (astray.0.0 h.f.payload (drop 4 h.f.payload) (inside h.finds.4 h.low h.at nested child begins))

    inside_says : Descends b parent child begun → PathSays b (is_array parent.tag) (next ∷ more) child new code → PathSays b in_array (step ∷ next ∷ more) old new code
    inside_says (inl (tag, begins)) rest =
        let nested = nested_tag h.finds.4 h.low h.at tag in
        onward nested (begins_inside h.finds.4 h.low h.at nested child begun begins).0 rest
    inside_says (inr (three, four, shut, why, offset, done)) rest = absurd (omega (arith, one_code begun 11 0 done also))

path_says : (b : List ℕ) (in_array : Bool) (steps : List (List ℕ)) (old new : Iter) (code : ℤ) → WalksPath b in_array steps old new code → PathSays b in_array steps old new code
path_says b in_array [] old new code walks = absurd walks
path_says b in_array (s ∷ []) old new code walks = last_says b in_array s old new code (step_says b in_array s old new code walks)
path_says b in_array (s ∷ t ∷ ss) old new code (inl (other, finds)) = none_says b in_array s t ss old new code other (step_says b in_array s old new code finds)
path_says b in_array (s ∷ t ∷ ss) old new code (inr (parent, first, finds, done, inl (other, down))) =
    barred_says (step_found b in_array s old parent first (step_says b in_array s old parent first finds) done) t ss new code other down
path_says b in_array (s ∷ t ∷ ss) old new code (inr (parent, first, finds, done, inr (child, begun, down, also, rest))) =
    inside_says (step_found b in_array s old parent first (step_says b in_array s old parent first finds) done) t ss new code child
    begun also down (path_says b (is_array parent.tag) (t ∷ ss) child new code rest)

-- what the whole path finds
found_by : (b path : List ℕ) (separator : ℕ) (old new : Iter) (code : ℤ) (steps : List (List ℕ)) → HasSteps separator path steps
    → PathSays b false steps old new code → FindsPathOf b path separator old new code
found_by b path separator old new code steps has (inl (d, s, last, offset, goal, g, goes, says)) = inl (d, s, steps, last, offset, goal, g, has, goes, says)
found_by b path separator old new code steps has (inr astray) = inr astray

pub path_found : (b path : List ℕ) (separator : ℕ) (old new : Iter) (code : ℤ) → WalksPathOf b path separator old new code → FindsPathOf b path separator old new code
path_found b path separator old new code (steps, has, walks) = found_by b path separator old new code steps has (path_says b false steps old new code walks)
