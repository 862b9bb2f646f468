use Rattle.std.proofs.Common.{◌≡◌, ◌++◌, flat_map, map, take}
use Rattle.raw_tree.specs.Barriers.{step_of}
use Rattle.dump_io.specs.lines.Told.{step_text}
use Rattle.dump_io.proofs.lines.text.push_steps.Given as goal

-- each step so far is after the text
abbrev pub invariant-loop-step : goal.invariant-loop-step
invariant-loop-step l = l.text.items ≡ l.initial.text.items ++ flat_map step_text (map step_of (take l.step-index l.path))
