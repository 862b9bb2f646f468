use Rattle.std.proofs.Common.{rules, ◌≡◌, ◌+◌, length, refl, ap, sym, ◌∙◌}
use Rattle.dump_io.specs.input.Reading.{ahead_of}
use Rattle.dump_io.proofs.input.Ahead.{len_ahead}
use Rattle.dump_io.proofs.input.Filling.{rest_behind}
use Rattle.dump_io.proofs.input.window.Window.drain.Goals as goal

pub returns-clause-drained : goal.returns-clause-drained
returns-clause-drained g c =
    let more = c.in_ok-more.more in
    let ahead = ahead_of c.args.self.now in
    let w = c.args.self.now in
    let add : c.in_ok-in_range.field-0 ≡ more.count + w.len = search rules in
    let sum : c.in_ok-in_range.field-0 ≡ more.count + length ahead = add ∙ ap (λ k. more.count + k) (sym (len_ahead w c.requires.0)) in
    rest_behind (g.R.Read.remaining c.args.reader.now) (g.R.Read.remaining c.drain.new.reader) ahead more (record { count = c.in_ok-in_range.field-0; failure = more.failure })
    c.in_ok-more.ensures.drained sum refl
