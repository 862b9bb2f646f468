use Rattle.std.proofs.Common.{List, subst}
use Rattle.std.specs.Io.KnownBytes.{Appends}
use Rattle.dump_io.proofs.Face.{front_none, on_any}
use Rattle.dump_io.specs.lines.Fronts.{AppendsFront}
use Rattle.dump_commands.proofs.elements.Steps.{refused_text}
use Rattle.dump_commands.proofs.elements.showing.show_refused.Goals as goal

pub returns-clause-shown : goal.returns-clause-shown
returns-clause-shown g c = λ why is.
    let old = g.W.Write.contents c.args.out.now in
    let new = g.W.Write.contents c.put_page.new.out in
    let text = refused_text c.args.page.now c.push_refused.new.page _ (c.in_ok-push_refused.ensures.put why is) c.requires.0 c.requires.1 in
    subst (λ (x : List _). Appends old new x) text c.in_ok-put_page.ensures.written

pub returns-in_err-push_refused-clause-front : goal.returns-in_err-push_refused-clause-front
returns-in_err-push_refused-clause-front g c = λ why is. on_any _ _ (front_none (g.W.Write.contents c.args.out.now) _)

pub returns-in_err-put_page-clause-front : goal.returns-in_err-put_page-clause-front
returns-in_err-put_page-clause-front g c = λ why is.
    let old = g.W.Write.contents c.args.out.now in
    let new = g.W.Write.contents c.put_page.new.out in
    let text = refused_text c.args.page.now c.push_refused.new.page _ (c.in_ok-push_refused.ensures.put why is) c.requires.0 c.requires.1 in
    on_any _ _ (subst (λ (x : List _). AppendsFront old new x) text c.in_err-put_page.ensures.front)
