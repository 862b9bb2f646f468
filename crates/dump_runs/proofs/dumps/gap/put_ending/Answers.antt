use Rattle.dump_io.proofs.Face.{front_none, on_any}
use Rattle.dump_runs.proofs.dumps.gap.put_ending.Goals as goal

pub returns-in_err-text-clause-front : goal.returns-in_err-text-clause-front
returns-in_err-text-clause-front g c = on_any _ _ (front_none _ _)
