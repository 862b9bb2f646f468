use Rattle.std.proofs.Common.{◌+ℤ◌, FitsSigned, inl, inr, subst, sym, w64}
use Rattle.std.proofs.Math.Facts.{to_z-of_z}
use Rattle.std.proofs.lemmas.Result.{err_from_is_err_and}
use Rattle.raw_bson.specs.Document.{bytes_of}
use Rattle.bson_uses.specs.Tallies.{PlusOne, TellsNumber}
use Rattle.bson_uses.proofs.tally.with_document.Goals as goal

pub returns-in_err-number : goal.returns-in_err-number
returns-in_err-number c =
    let e = err_from_is_err_and c.from_residual-in_err-number.result c.from_residual-in_err-number.ensures.1 in
    rw (e.1, e.2) (inr (inl (subst (TellsNumber (bytes_of c.args.document) c.args.key.now) c.in_err-number.was c.number_under.ensures.told)))

pub returns-in_err-more : goal.returns-in_err-more
returns-in_err-more c =
    let e = err_from_is_err_and c.from_residual-in_err-more.result c.from_residual-in_err-more.ensures.1 in
    let why = c.in_err-more.ensures.over in
    let told = subst (TellsNumber (bytes_of c.args.document) c.args.key.now) c.in_ok-number.was c.number_under.ensures.told in
    rw (e.1, e.2) (inr (inr (
      c.in_ok-number.number,
      told,
      (
        why.0,
        λ fits. why.1 (subst (λ z. FitsSigned w64 (c.args.tally.sum +ℤ z)) (sym (to_z-of_z {w = w64} c.in_ok-number.ensures.fits)) fits),
      ),
    )))

pub returns : goal.returns
returns c =
    let told = subst (TellsNumber (bytes_of c.args.document) c.args.key.now) c.in_ok-number.was c.number_under.ensures.told in
    let more = subst (λ z. PlusOne c.args.tally c.in_ok-canonical.canonical z c.in_ok-more.more) (to_z-of_z {w = w64} c.in_ok-number.ensures.fits) c.in_ok-more.ensures.more in
    (c.in_ok-canonical.canonical, c.in_ok-canonical.ensures.told, c.in_ok-number.number, told, more)
