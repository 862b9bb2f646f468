-- How many findings are printed, where there is a most.
use Rattle.std.specs.Prelude.{ℕ, ◌-◌, Option, None, Some}
use Rattle.std.specs.Option.{option_map}
use Rattle.dump_io.specs.lines.Told.{with_left}
use Rattle.dump_io.specs.declared.lines.style.Style.{Style}
use Rattle.dump_commands.specs.declared.counts.Counts.{Counts}

-- how findings are printed after these counts: not at all after as many as are asked for
abbrev pub style_at : Style → Option ℕ → Counts → Style
style_at shown None n = shown
style_at shown (Some most) n = with_left shown (most - n.findings)

-- how many findings of an input are printed at most, where this was counted before it
abbrev pub left_limit : Option ℕ → (before : Counts) → Option ℕ
left_limit limit before = option_map (λ most. most - before.findings) limit
