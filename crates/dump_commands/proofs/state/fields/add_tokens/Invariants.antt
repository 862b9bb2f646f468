use Rattle.std.proofs.Common.{◌≡◌, [], ◌∷◌, drop, fold}
use Rattle.dump_commands.specs.state.Fields.{AreLevels, fields_of, levels_of, outermost, table_of, with_field}
use Rattle.dump_io.specs.lines.Origins.{origin_of}
use Rattle.dump_commands.proofs.state.fields.add_tokens.Given as goal

-- of the tokens that are left comes what is to be counted
abbrev pub invariant-loop-token : goal.invariant-loop-token
invariant-loop-token l =
    (fold (with_field (origin_of l.origin)) (table_of l.initial.paths) (fields_of l.bytes (outermost ∷ []) l.tokens)
    ≡ fold (with_field (origin_of l.origin)) (table_of l.paths) (fields_of l.bytes (levels_of l.path.items l.levels.items) (drop l.token-index l.tokens)))
    × AreLevels l.path.items l.levels.items
