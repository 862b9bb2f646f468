use Rattle.std.proofs.Common.{map, take}
use Rattle.raw_tree.specs.Barriers.{step_of}
use Rattle.dump_io.specs.lines.Told.{Grows, key_token}
use Rattle.dump_io.proofs.lines.object.push_keys.Given as goal

-- each step so far is put
abbrev pub invariant-loop-step : goal.invariant-loop-step
invariant-loop-step l = Grows l.initial.object l.object (map key_token (map step_of (take l.step-index l.path)))
