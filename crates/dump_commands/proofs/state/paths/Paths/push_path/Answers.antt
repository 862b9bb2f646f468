use Rattle.std.proofs.Common.{◌≡◌, ◌++◌, ◌∷◌, ◌∙◌, [], Bool, Global, List, Vec, ap, bytes_eq, false, if◌then◌else◌, map, refl, ℕ}
use Rattle.std.proofs.lemmas.List.{map_push}
use Rattle.std.specs.List.{list_any}
use Rattle.dump_commands.specs.state.Fields.{table_of}
use Rattle.dump_io.specs.lines.Origins.{origin_of}
use Rattle.dump_commands.proofs.state.Tabled.{pushed}
use Rattle.dump_commands.proofs.state.paths.Paths.push_path.Goals as goal

pub returns : goal.returns
returns c =
    let xs = c.args.self.now.texts.keys in
    let x = c.in_ok-text.text in
    let none : list_any (λ (y : Vec ℕ Global). bytes_eq x.items y.items) xs ≡ false =
    ap (λ (p : List ℕ). list_any (λ (y : Vec ℕ Global). bytes_eq p y.items) xs) c.in_ok-text.ensures.items ∙ c.requires in
    let more : c.insert.new.self.keys ≡ xs ++ x ∷ [] = c.in_ok-insert.ensures.keys ∙ ap (λ (b : Bool). if b then xs else xs ++ x ∷ []) none in
    let firsts = ap (map origin_of) c.in_ok-push.ensures.items ∙ map_push origin_of c.args.self.now.firsts.items c.args.origin in
    pushed (λ (text : Vec ℕ Global). text.items) (origin_of c.args.origin) (table_of c.args.self.now) _ xs x c.args.row
    refl refl more c.in_ok-text.ensures.items (refl, refl, refl, firsts, c.in_ok-push-2.ensures.items)
