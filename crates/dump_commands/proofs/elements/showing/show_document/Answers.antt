use Rattle.dump_io.proofs.Face.{on_any}
use Rattle.raw_view.specs.Document.{bytes_of}
use Rattle.dump_commands.proofs.elements.Steps.{all_written, partly_shown, partly_written}
use Rattle.dump_commands.proofs.elements.showing.show_document.Goals as goal

pub returns-clause-shown : goal.returns-clause-shown
returns-clause-shown g c = all_written c.in_ok-show_levels.ensures.shown (g.W.Write.contents c.put_page.new.out) c.in_ok-put_page.ensures.written

pub returns-in_err-show_levels-clause-front : goal.returns-in_err-show_levels-clause-front
returns-in_err-show_levels-clause-front g c =
    on_any _ _ (partly_shown (bytes_of c.args.document) c.args.page.now (g.W.Write.contents c.args.out.now) (g.W.Write.contents c.show_levels.new.out) c.in_err-show_levels.ensures.front)

pub returns-in_err-put_page-clause-front : goal.returns-in_err-put_page-clause-front
returns-in_err-put_page-clause-front g c =
    on_any _ _ (partly_written c.in_ok-show_levels.ensures.shown (g.W.Write.contents c.put_page.new.out) c.in_err-put_page.ensures.front)
