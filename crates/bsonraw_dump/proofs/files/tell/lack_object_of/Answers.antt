use Rattle.std.proofs.Common.{rules, ◌≡◌, ◌++◌, IfOk, None, codes, subst}
use Rattle.dump_io.specs.lines.Told.{error_members, object_line}
use Rattle.bsonraw_dump.specs.files.Errors.{input_name, lack_words}
use Rattle.bsonraw_dump.proofs.files.tell.lack_object_of.Goals as goal

pub returns : goal.returns
returns c =
    let says : c.as_str.result.now ≡ codes "not written: " ++ input_name c.args.lack.now ++ lack_words c.args.way_on.now c.args.lack.now = first_of (cc, search rules) in
    subst (λ t. IfOk c.error_object.result (λ line. line.items ≡ object_line (error_members c.args.name.now None t))) says c.error_object.ensures
