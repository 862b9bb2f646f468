-- What is printed of a document without a canonical form.
use Rattle.std.proofs.Common.{◌≡◌, inl, inr, List, ℕ, Option, None, Some, Result, Ok, Err, IfOk, IfErr, codes, refl, sym, ◌∙◌, subst, ap}
use Rattle.std.proofs.lemmas.Option.{none-some}
use Rattle.raw_bson.specs.Encoding.{IsEncoded, IsRefused, RefusesTree}
use Rattle.raw_bson.specs.Envelope.{IsEnvelope}
use Rattle.raw_bson.specs.Error.{Error}
use Rattle.raw_bson.specs.ErrorKind.{ErrorKind}
use Rattle.raw_bson.specs.ErrorKind.TheVariants as kind
use Rattle.raw_bson.specs.Errors.{TellsFault, IsReadingKind, IsReadingReason}
use Rattle.raw_bson.specs.Frame.{Fault}
use Rattle.raw_bson.specs.Limits.{Limits}
use Rattle.raw_bson.specs.Proper.{IsProper}
use Rattle.raw_bson.specs.Reason.{Reason}
use Rattle.raw_bson.specs.Reason.TheVariants as reason
use Rattle.raw_bson.specs.Tree.{Tree}
use Rattle.raw_bson.specs.WithinLimits.{Barrier, too_many_bytes, too_deep, fault_of, ReadsWithin, SaysBarrier, TellsFirstBarrier}
use Rattle.bsonraw.specs.Form.{HasForm, LacksForm, limit_text}
use Rattle.std.specs.String.{string_bytes}
use Rattle.bsonraw.specs.Print.{form_limits, PrintsForm, PrintsBytes, barrier_line}
use Rattle.bsonraw.specs.Status.{code_of}
use Rattle.bsonraw.specs.declared.command.Command.{Command}
use Rattle.bsonraw.specs.declared.command.Command.TheVariants as command
use Rattle.bsonraw.specs.declared.printed.Printed.{Printed}
use Rattle.bsonraw.specs.declared.status.Status.{Status}
use Rattle.bsonraw.specs.declared.status.Status.TheVariants as status

-- a tree that was read fails for its length, or memory runs out
refused_kind : (b : List ℕ) (t : Tree) (e : Error) (k : ErrorKind) → e.kind ≡ k → ReadsWithin form_limits b t → IsProper t → IsRefused t e → RefusesTree t k → LacksForm b e
refused_kind b t e (kind.MalformedValue reason.InteriorNul) same read proper r refusal = absurd (refusal proper.nul_free)
refused_kind b t e (kind.MalformedValue reason.TooLong) same read proper r refusal = inr (t, read, (refusal.1, same, r.1))
refused_kind b t e kind.OutOfMemory same read proper r refusal = inl (inl (read.few_bytes, record { kind_is = same; no_key = r.1 }))
refused_kind b t e _ same read proper r refusal = absurd refusal

pub refused_form : (b : List ℕ) (t : Tree) (e : Error) → ReadsWithin form_limits b t → IsProper t → IsRefused t e → LacksForm b e
refused_form b t e read proper r = refused_kind b t e e.kind refl read proper r r.0

-- a reason that reading has says no limit
reading_text : (r : Reason) → IsReadingReason r → limit_text (kind.MalformedValue r) ≡ None
reading_text reason.TooLong h = absurd (h.1 refl)
reading_text reason.TooManyBytes h = absurd (h.2 refl)
reading_text reason.TooDeep h = absurd (h.3 refl)
reading_text _ h = refl

reading_kind_text : (k : ErrorKind) → IsReadingKind k → limit_text k ≡ None
reading_kind_text (kind.MalformedValue r) h = reading_text r (h r refl)
reading_kind_text (kind.Utf8EncodingError x) h = refl
reading_kind_text kind.OutOfMemory h = refl

-- an error that says a fault says no limit
fault_says_no_limit : (e : Error) (fault : Fault) (key : Option (List ℕ)) → TellsFault e fault key → limit_text e.kind ≡ None
fault_says_no_limit e fault None h = reading_kind_text e.kind h.0.1
fault_says_no_limit e fault (Some key) h = elim h as (λ _. limit_text e.kind ≡ None) [
  | inl a ↦ reading_kind_text e.kind a.0.1
  | inr a ↦ ap limit_text a.kind_is
]

-- an error that says a barrier has the line of the barrier, if it has the line of a limit
limit_of_barrier : (e : Error) (x : Barrier) (line : List ℕ) → SaysBarrier e x → limit_text e.kind ≡ Some line → line ≡ barrier_line x
limit_of_barrier e too_many_bytes line says is = let same : Some (codes "refused 6\n") ≡ Some line = sym (ap limit_text says.0) ∙ is in cc
limit_of_barrier e too_deep line says is = let same : Some (codes "refused 7\n") ≡ Some line = sym (ap limit_text says.0) ∙ is in cc
limit_of_barrier e (fault_of fault) line says is = absurd (none-some line (sym (fault_says_no_limit e fault.fault fault.key says) ∙ is))

pub limit_form : (b : List ℕ) (e : Error) (line : List ℕ) → LacksForm b e → limit_text e.kind ≡ Some line → PrintsForm b 1 line
limit_form b e line (inl (inl memory)) is = absurd (none-some line (sym (ap limit_text memory.1.kind_is) ∙ is))
limit_form b e line (inl (inr told)) is = inr (inr (told.0, told.1, refl, limit_of_barrier e told.0 line told.2 is))
limit_form b e line (inr long) is =
    let same : Some (codes "refused 5\n") ≡ Some line = sym (ap limit_text long.2.1) ∙ is in
    let text : line ≡ codes "refused 5\n" = cc in
    inr (inl (long.0, long.1, long.2.0, refl, text))

-- the bytes that were written of the tree are the document's form

pub written_forms : (b : List ℕ) (t : Tree) (result : Result (List ℕ) Error) → ReadsWithin form_limits b t → IfOk result (IsEncoded t) → IfOk result (HasForm b)
written_forms b t (Ok form) read is = (t, read, is.1, is.2)
written_forms b t (Err e) read is = tt

pub refused_forms : {X : Type 0} (b : List ℕ) (t : Tree) (result : Result X Error) → ReadsWithin form_limits b t → IsProper t → IfErr result (IsRefused t) → IfErr result (LacksForm b)
refused_forms b t (Ok x) read proper refused = tt
refused_forms b t (Err e) read proper refused = refused_form b t e read proper refused

pub refused_first : {X : Type 0} (b : List ℕ) (limits : Limits) (e was : Error) (result : Result X Error) → limits ≡ form_limits → result ≡ Err e → e ≡ was
    → TellsFirstBarrier limits b was → IfErr result (LacksForm b)
refused_first {X} b limits e was result own is same told =
    let within : TellsFirstBarrier form_limits b was = subst (λ (l : Limits). TellsFirstBarrier l b was) own told in
    let here : TellsFirstBarrier form_limits b e = subst (λ (x : Error). TellsFirstBarrier form_limits b x) (sym same) within in
    subst (λ (r : Result X Error). IfErr r (LacksForm b)) (sym is) (inl here)

pub limit_printed : {E : Type 0} (b : List ℕ) (e : Error) (line : List ℕ) (result : Result Printed E) → LacksForm b e → limit_text e.kind ≡ Some line
    → IfOk result (λ p. (p.status ≡ status.Fault) × (string_bytes p.output ≡ line)) → IfOk result (λ p. PrintsForm b (code_of p.status) (string_bytes p.output))
limit_printed b e line (Err x) lacks is said = tt
limit_printed b e line (Ok p) lacks is said =
    let printed : PrintsForm b (code_of status.Fault) (string_bytes p.output) = subst (λ (output : List ℕ). PrintsForm b 1 output) (sym said.1) (limit_form b e line lacks is) in
    subst (λ (s : Status). PrintsForm b (code_of s) (string_bytes p.output)) (sym said.0) printed

pub canon_bytes : {E : Type 0} (c : Command) (d b : List ℕ) (result : Result Printed E) → c ≡ command.Canon → IsEnvelope d → d ≡ b
    → IfOk result (λ p. PrintsForm d (code_of p.status) (string_bytes p.output)) → IfOk result (λ p. PrintsBytes c b (code_of p.status) (string_bytes p.output))
canon_bytes c d b (Err x) is env same printed = tt
canon_bytes c d b (Ok p) is env same printed =
    let whole : PrintsBytes command.Canon d (code_of p.status) (string_bytes p.output) = inl (env, printed) in
    let here : PrintsBytes command.Canon b (code_of p.status) (string_bytes p.output) = subst (λ (x : List ℕ). PrintsBytes command.Canon x (code_of p.status) (string_bytes p.output)) same whole in
    subst (λ (x : Command). PrintsBytes x b (code_of p.status) (string_bytes p.output)) (sym is) here
