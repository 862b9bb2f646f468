use Rattle.std.proofs.Common.{rules, ◌∙◌, sym}
use Rattle.std.proofs.lemmas.Result.{err_from_is_err_and}
use Rattle.dump_runs.proofs.texts.Advancing.{finds_fails, finds_text}
use Rattle.dump_runs.proofs.texts.cursor.Cursor.find_text.Goals as goal

pub returns-in_ok-scan-in-Some-eq123-clause-found : goal.returns-in_ok-scan-in-Some-eq123-clause-found
returns-in_ok-scan-in-Some-eq123-clause-found g c =
    finds_text c.in_ok-scan-in-Some-eq123.field-0 c.in_ok-pass_between.ensures.passed (search rules) c.in_ok-scan-in-Some-eq123.ensures.found
    (sym c.may_begin.ensures ∙ c.if-may_begin.true)

pub returns-in_err-scan-in-Some-eq123-clause-fails : goal.returns-in_err-scan-in-Some-eq123-clause-fails
returns-in_err-scan-in-Some-eq123-clause-fails g c =
    let r = g.R.Read.remaining in
    let e = err_from_is_err_and c.from_residual-in_err-scan-in-Some-eq123.result c.from_residual-in_err-scan-in-Some-eq123.ensures.1 in
    rw (e.1, e.2) (λ reading.
    finds_fails (r c.args.reader.now) (r c.pass_between.new.reader) (r c.scan.new.reader) c.args.self.now c.pass_between.new.self c.scan.new.self _
    c.in_ok-pass_between.ensures.passed (c.in_err-scan-in-Some-eq123.ensures.fails reading))
