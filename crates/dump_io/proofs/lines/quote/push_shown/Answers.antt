use Rattle.std.proofs.Common.{rules}
use Rattle.dump_io.proofs.lines.Quoted.{plain_text}
use Rattle.dump_io.proofs.lines.quote.push_shown.Goals as goal

pub returns-then-are_plain : goal.returns-then-are_plain
returns-then-are_plain c = search (rules, plain_text)
