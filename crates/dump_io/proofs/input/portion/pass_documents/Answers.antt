use Rattle.std.proofs.Common.{arith, subst}
use Rattle.dump_io.specs.input.Reading.{TellsNext}
use Rattle.dump_io.proofs.lines.Cases.{if_err_reading}
use Rattle.dump_io.proofs.input.Portioning.{documents_none, documents_on, documents_past, other_next}
use Rattle.dump_io.proofs.input.portion.pass_documents.Goals as goal

pub documents-init : goal.documents-init
documents-init g c = documents_none c.args.most c.args.count (g.R.Read.remaining c.args.reader.now) c.args.window.now c.requires

pub look_ahead-requires : goal.look_ahead-requires
look_ahead-requires g c = (c.documents.invariant.0.window, omega arith, omega arith)

pub returns-in_err-len-clause-fails : goal.returns-in_err-len-clause-fails
returns-in_err-len-clause-fails g c =
    let stays = c.in_err-len.ensures.fails in
    let (on, same) = documents_on c.look_ahead.new.window c.documents.invariant.0 stays.looks stays.window stays.offset in
    if_err_reading c.from_residual.result _ on

pub pass-requires : goal.pass-requires
pass-requires g c =
    let r = g.R.Read.remaining in
    let told = subst (TellsNext c.args.most (r c.documents.reader) (r c.look_ahead.new.reader) c.documents.window c.look_ahead.new.window 0) c.in-Document.is c.in_ok-len.ensures.told in
    (told.window, told.is.0)

pub documents-preserved : goal.documents-preserved
documents-preserved g c =
    let r = g.R.Read.remaining in
    let told = subst (TellsNext c.args.most (r c.documents.reader) (r c.look_ahead.new.reader) c.documents.window c.look_ahead.new.window 0) c.in-Document.is c.in_ok-len.ensures.told in
    let passed = c.in_ok-pass.ensures.passed in
    let (d, count) = c.documents.invariant in
    let (on, same) = documents_on c.look_ahead.new.window d told.looks told.window told.offset in
    let (past, more) = documents_past c.pass.new.self on c.in-Document.len told.is (omega (arith, same, count, c.documents-test.true)) passed.0 passed.1 passed.2 in
    (past, omega (arith, more, same, count))

pub returns-clause-passed : goal.returns-clause-passed
returns-clause-passed g c =
    let (d, count) = c.documents.invariant in
    (d, λ less. absurd (omega (arith, count, less, c.documents-test.false)))

pub returns-in_default : goal.returns-in_default
returns-in_default g c =
    let told = c.in_ok-len.ensures.told in
    let (d, count) = c.documents.invariant in
    let (on, same) = documents_on c.look_ahead.new.window d told.looks told.window told.offset in
    record { passed = (on, λ less. (_, other_next _ c.in_default.not-Document, told.is)); fails = tt }
