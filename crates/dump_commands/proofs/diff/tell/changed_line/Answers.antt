use Rattle.std.proofs.Common.{List, Option, option_map, subst, ℕ}
use Rattle.std.specs.String.{string_bytes}
use Rattle.dump_commands.specs.diff.Again.{ShowsKey}
use Rattle.dump_commands.specs.elements.Changes.{listing_by}
use Rattle.dump_commands.proofs.diff.tell.changed_line.Goals as goal

pub returns-clause-line : goal.returns-clause-line
returns-clause-line g c =
    let json = option_map string_bytes c.in_ok-json.json in (
      option_map (λ form. form.items) c.in_ok-before.before,
      option_map (λ form. form.items) c.in_ok-after.after,
      record { json = json; paths = option_map listing_by c.in_ok-paths.paths },
      c.in_ok-before.ensures,
      c.in_ok-after.ensures,
      subst (λ (form : Option (List ℕ)). ShowsKey c.args.telling.comparing.by.now form json) c.first_known-form.ensures c.in_ok-json.ensures,
      c.in_ok-paths.ensures.paths,
      c.in_ok-change_line.ensures,
    )
