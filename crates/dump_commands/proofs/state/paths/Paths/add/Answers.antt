use Rattle.std.proofs.Common.{rules, ◌≡◌, ◌≤◌, ◌∙◌, Global, List, None, Some, Vec, ap, bytes_eq, length, position, sym, ℕ}
use Rattle.dump_commands.specs.state.Fields.{Field, Table, table_of}
use Rattle.dump_io.specs.lines.Origins.{origin_of}
use Rattle.dump_commands.specs.declared.state.rows.Row.{Row}
use Rattle.dump_io.proofs.Face.{on_ok}
use Rattle.dump_commands.proofs.state.Tabled.{position_map, with_short}
use Rattle.dump_commands.proofs.state.paths.Paths.add.Goals as goal

pub returns-in-Some-clause-added : goal.returns-in-Some-clause-added
returns-in-Some-clause-added c =
    let t : Table = table_of c.args.self.now in
    let f : Field = record { path = c.args.path.now; tag = c.args.tag; size = c.args.size } in
    let short : length f.path ≤ 4096 = search rules in
    let found : position (bytes_eq f.path) t.paths ≡ Some c.in-Some.number =
    position_map (λ (text : Vec ℕ Global). text.items) (bytes_eq f.path) c.args.self.now.texts.keys ∙ sym c.find.ensures.number ∙ c.in-Some.is in
    on_ok c.count_at.result _ _
    (λ counted. ap (λ (rows : List Row). record t { rows = rows }) counted ∙ sym (with_short (origin_of c.args.origin) t f (Some c.in-Some.number) short found)) c.count_at.ensures.counted

pub returns-in-None-clause-added : goal.returns-in-None-clause-added
returns-in-None-clause-added c =
    let t : Table = table_of c.args.self.now in
    let f : Field = record { path = c.args.path.now; tag = c.args.tag; size = c.args.size } in
    let short : length f.path ≤ 4096 = search rules in
    let found : position (bytes_eq f.path) t.paths ≡ None =
    position_map (λ (text : Vec ℕ Global). text.items) (bytes_eq f.path) c.args.self.now.texts.keys ∙ sym c.find.ensures.number ∙ c.in-None.is in
    on_ok c.add_path.result _ _ (λ added. added ∙ sym (with_short (origin_of c.args.origin) t f None short found)) c.add_path.ensures.added
