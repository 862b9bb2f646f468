use Rattle.std.proofs.Common.{[], ◌∷◌, ◌++◌, codes}
use Rattle.json.specs.Token.{begin_object, key, string}
use Rattle.dump_io.specs.lines.Told.{number_member}
use Rattle.dump_io.proofs.lines.Objects.{has_more}
use Rattle.dump_io.proofs.lines.object.error_object.Goals as goal

pub returns : goal.returns
returns c =
    let file = key (codes "file") ∷ string c.args.name.now ∷ [] in
    let offset = number_member (codes "offset") c.args.at in
    let error = key (codes "error") ∷ string c.args.text.now ∷ [] in
    let first = has_more c.in_ok-object.object c.put_text.new.object (begin_object ∷ []) file c.in_ok-object.ensures c.in_ok-put_text.ensures in
    let second = has_more c.put_text.new.object c.put_some.new.object _ offset first c.in_ok-put_some.ensures in
    let third = has_more c.put_some.new.object c.put_text-2.new.object _ error second c.in_ok-put_text-2.ensures in
    c.ended.ensures (file ++ offset ++ error) third.0 third.1
