use Rattle.std.proofs.Common.{subst}
use Rattle.std.proofs.lemmas.Result.{err_from_is_err_and}
use Rattle.dump_io.specs.lines.Failing.{IsReading}
use Rattle.dump_io.proofs.lines.Cases.{on_ok}
use Rattle.dump_io.proofs.input.Portioning.{all_in_front, bytes_passed, fails_on, in_front_of, passed_front_of}
use Rattle.dump_io.proofs.input.portion.Portion.pass_front.Goals as goal

pub pass_documents-requires : goal.pass_documents-requires
pass_documents-requires g c = c.in_ok-pass_bytes.ensures.passed.0.window

pub returns-in_err-pass_bytes-clause-fails : goal.returns-in_err-pass_bytes-clause-fails
returns-in_err-pass_bytes-clause-fails g c =
    let p = err_from_is_err_and c.from_residual.result c.from_residual.ensures.1 in
    rw p.1 (λ reading.
    let (goes, few) = c.in_err-pass_bytes.ensures.fails (subst IsReading p.2 reading) in
    bytes_passed c.args.self c.args.most goes few c.requires.1 c.requires.2)

pub returns-clause-passed : goal.returns-clause-passed
returns-clause-passed g c =
    let b = c.in_ok-pass_bytes.ensures.passed in
    on_ok c.pass_documents.result _ _ (λ all.
    let (d, stops) = all in
    let passed = passed_front_of c.args.self c.args.most b d c.requires.1 c.requires.2 in
    (_, passed, all_in_front c.args.self c.args.most b d stops c.requires.1 passed)) c.pass_documents.ensures.passed

pub returns-clause-fails : goal.returns-clause-fails
returns-clause-fails g c =
    let b = c.in_ok-pass_bytes.ensures.passed in
    fails_on c.pass_documents.result _ _ (λ d.
    (_, passed_front_of c.args.self c.args.most b d c.requires.1 c.requires.2, in_front_of c.args.self c.args.most b d c.requires.1)) c.pass_documents.ensures.fails
