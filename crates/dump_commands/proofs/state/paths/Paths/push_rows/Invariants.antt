use Rattle.std.proofs.Common.{◌≡◌, ◌++◌, drop}
use Rattle.dump_commands.specs.state.Fields.{rows_text, table_of}
use Rattle.dump_commands.proofs.state.paths.Paths.push_rows.Given as goal

-- the lines of the rows that are left come after the text
abbrev pub invariant-loop-number : goal.invariant-loop-number
invariant-loop-number l =
    l.initial.text.items ++ rows_text (table_of l.self).paths (table_of l.self).firsts (table_of l.self).rows
    ≡ l.text.items ++ rows_text (drop l.number (table_of l.self).paths) (drop l.number (table_of l.self).firsts) (drop l.number (table_of l.self).rows)
