use Rattle.dump_io.proofs.Face.{front_none, on_any}
use Rattle.dump_commands.specs.elements.ShownLevels.{page_text}
use Rattle.dump_commands.proofs.elements.showing.put_page.Goals as goal

pub returns-in_err-push_rest-clause-front : goal.returns-in_err-push_rest-clause-front
returns-in_err-push_rest-clause-front g c = on_any _ _ (front_none (g.W.Write.contents c.args.out.now) (page_text c.args.page.now))
