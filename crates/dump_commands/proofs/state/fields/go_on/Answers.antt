use Rattle.std.proofs.Common.{◌≡◌, ◌+◌, ◌++◌, ◌∙◌, List, ap, sym, take, ℕ}
use Rattle.dump_commands.specs.state.Fields.{AreLevels, Around, levels_around, levels_of, path_of}
use Rattle.dump_io.proofs.Face.{on_ok}
use Rattle.dump_commands.proofs.state.Prefixes.{gone_on, innermost_left, last_of}
use Rattle.dump_commands.proofs.state.fields.go_on.Goals as goal

-- after the step these are the levels around the element, and their paths begin what its path is
gone : (c : goal.After-push_bytes) → c.push_bytes.new.text.items ≡ c.truncate-2.new.self.items ++ c.step.result.now
    → (levels_of c.push_bytes.new.text.items c.truncate.new.self.items ≡ levels_around (levels_of c.args.path.now.items c.args.levels.now.items) c.args.token)
    × AreLevels c.push_bytes.new.text.items c.truncate.new.self.items
gone c put =
    let few = c.truncate.new.self.items in
    let last : c.innermost-level.result ≡ last_of few = c.innermost-level.ensures ∙ ap last_of c.deref.ensures.value in
    gone_on c.args.path.now.items c.push_bytes.new.text.items c.truncate-2.new.self.items c.step.result.now c.args.levels.now.items few
    (c.args.token.depth + 1) c.requires c.truncate.ensures.items last c.truncate-2.ensures.items put

pub returns-clause-levels : goal.returns-clause-levels
returns-clause-levels c = on_ok c.push_bytes.result _ _ (λ put. (gone c put).0) c.push_bytes.ensures

pub returns-clause-kept : goal.returns-clause-kept
returns-clause-kept c = on_ok c.push_bytes.result _ _ (λ put. (gone c put).1) c.push_bytes.ensures

pub returns-clause-path : goal.returns-clause-path
returns-clause-path c =
    let few = c.truncate.new.self.items in
    let path = c.args.path.now.items in
    let levels = c.args.levels.now.items in
    let t = c.args.token in
    let level = c.innermost-level.result in
    let last : level ≡ last_of few = c.innermost-level.ensures ∙ ap last_of c.deref.ensures.value in
    let around = innermost_left path levels few level (t.depth + 1) c.truncate.ensures.items last in
    on_ok c.push_bytes.result _ _
    (λ put. put ∙ ap (λ (cut : List ℕ). cut ++ c.step.result.now) c.truncate-2.ensures.items ∙ ap (λ (s : List ℕ). take level.prefix path ++ s) c.step.ensures
    ∙ sym (ap (λ (a : Around). path_of c.args.bytes.now a t) around)) c.push_bytes.ensures
