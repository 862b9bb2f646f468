use Rattle.std.proofs.Common.{None, subst, sym}
use Rattle.dump_io.specs.input.Cut.{EndsWith}
use Rattle.dump_io.specs.input.Reading.{IsReadBehind, ReadsRest, ahead_of}
use Rattle.dump_runs.specs.dumps.Steps.{IsLeft}
use Rattle.dump_io.proofs.Face.{if_ok}
use Rattle.dump_runs.proofs.dumps.Lines.{left_cut, left_unsound}
use Rattle.dump_runs.proofs.dumps.source.rest_of.Goals as goal

pub returns-in-CutOff-clause-left : goal.returns-in-CutOff-clause-left
returns-in-CutOff-clause-left g c most all =
    let r = g.R.Read.remaining c.args.reader.now in
    let x = ahead_of c.args.window.now in
    let count = c.in-CutOff.count in
    let ends = subst (λ e. EndsWith most e x) c.in-CutOff.is all in
    let behind = subst (λ e. IsReadBehind e r) c.in-CutOff.is c.requires.2 in
    subst (λ e. IsLeft most e r r x (record { count = count; failure = None })) (sym c.in-CutOff.is) (left_cut r x count ends behind)

pub returns-in-Unsound : goal.returns-in-Unsound
returns-in-Unsound g c =
    let r = g.R.Read.remaining c.args.reader.now in
    let r' = g.R.Read.remaining c.drain.new.reader in
    let x = ahead_of c.args.window.now in
    let len = c.in-Unsound.field-0 in
    record {
      left = if_ok c.drain.result (ReadsRest r r' x) _ (λ d l most all.
          let ends = subst (λ e. EndsWith most e x) c.in-Unsound.is all in
          subst (λ e. IsLeft most e r r' x d) (sym c.in-Unsound.is) (left_unsound r r' x len d ends l)) c.drain.ensures.drained;
      failed = c.drain.ensures.failed;
    }

pub unreachable-requires : goal.unreachable-requires
unreachable-requires g c =
    let none = subst (λ e. EndsWith c.requires.1.0 e (ahead_of c.args.window.now)) c.in-WrongLength.is c.requires.1.1 in
    absurd none
