use Rattle.dump_io.proofs.Face.{on_ok}
use Rattle.dump_commands.proofs.state.Tabled.{numbers_told}
use Rattle.dump_commands.proofs.state.path_lines.push_numbers.Goals as goal

pub returns : goal.returns
returns c =
    on_ok c.push_number-2.result _ _
    (λ put. numbers_told c.args.row.now c.args.text.now.items c.push_words.new.text.items c.push_number.new.text.items c.push_words-2.new.text.items c.push_number-2.new.text.items
    c.in_ok-push_words.ensures c.in_ok-push_number.ensures c.in_ok-push_words-2.ensures put) c.push_number-2.ensures
