use Rattle.std.proofs.Common.{◌≡◌, ◌≤◌, ℕ, List, arith, inl, inr, subst, sym}
use Rattle.std.proofs.lemmas.Result.{err_from_is_err_and}
use Rattle.raw_bson.specs.CanonicalForm.{IsCanonicalForm}
use Rattle.raw_bson.specs.Conversion.{RefusesForm}
use Rattle.raw_bson.specs.Error.{Error}
use Rattle.raw_bson.specs.Reading.{AreReadOneWay, as_document}
use Rattle.raw_bson.specs.Errors.{TellsRefusal}
use Rattle.raw_bson.specs.Envelope.{IsEnvelope}
use Rattle.bson_uses.proofs.compare.normalised_twice.Goals as goal

-- bytes with an envelope aren't refused for having none
has_envelope : (b : List ℕ) (e : Error) → IsEnvelope b → TellsRefusal b e → ⊥
has_envelope b e env told = grind (arith, told.reason, env.enough, env.header, env.ended)

-- what refuses a canonical form is that memory ran out, which refuses the document itself, too
refused_again : (b a : List ℕ) (e : Error) → IsCanonicalForm b a → AreReadOneWay as_document a → RefusesForm a e → RefusesForm b e
refused_again b a e form one (inl told) = absurd (has_envelope a e form.form_envelope told)
refused_again b a e form one (inr (env, inl (inl memory))) = inr (form.envelope, inl (inl memory))
refused_again b a e form one (inr (env, inl (inr (fault, first, says)))) = absurd (one.not_both form.tree fault form.reads_back first)
refused_again b a e form one (inr (env, inr (t, reads, long))) =
    let same : t ≡ form.tree = one.one_tree form.tree t form.reads_back reads in
    let short : ⊥ = omega (arith, rw same at long.0, form.spelled.0) in absurd short

pub returns-in_err-twice-clause-refused : goal.returns-in_err-twice-clause-refused
returns-in_err-twice-clause-refused c =
    let e = err_from_is_err_and c.from_residual-in_err-twice.result c.from_residual-in_err-twice.ensures.1 in
    let form = subst (IsCanonicalForm c.args.bytes.now) (sym c.deref.ensures.value) c.in_ok-once.ensures.form in
    let again = refused_again c.args.bytes.now c.deref.result.now c.in_err-twice.field-0.0 form (c.canonical_bytes-2.ensures.one_reading form.form_envelope) c.in_err-twice.ensures.refused in
    rw e.1 (subst (RefusesForm c.args.bytes.now) (sym e.2) again)
