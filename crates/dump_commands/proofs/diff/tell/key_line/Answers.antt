use Rattle.std.proofs.Common.{option_map}
use Rattle.std.specs.String.{string_bytes}
use Rattle.dump_io.proofs.Face.{if_ok}
use Rattle.dump_commands.proofs.diff.tell.key_line.Goals as goal

pub returns : goal.returns
returns g c =
    if_ok c.change_line.result _ _
    (λ line is. (option_map (λ form. form.items) c.in_ok-form.form, option_map string_bytes c.in_ok-json.json, c.in_ok-form.ensures, c.in_ok-json.ensures, is)) c.change_line.ensures
