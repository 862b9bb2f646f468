use Rattle.bson_to_json.proofs.Common.{IsJson, IsUtf8, bytes_of}
use Rattle.std.proofs.Common.{◌∙◌, [], sym, subst}
use Rattle.bson_to_json.proofs.DocumentUtf8.{json_utf8}
use Rattle.bson_to_json.proofs.document.to_json.Goals as goal

pub string_of-requires : goal.string_of-requires
string_of-requires c =
    let (text, is, grows) = c.in-Ok.ensures.text in
    subst IsUtf8 (sym (grows 0 [] c.new-text.ensures.items)) (json_utf8 c.args.style (bytes_of c.args.document) text is)

pub returns-in-Ok-clause-text : goal.returns-in-Ok-clause-text
returns-in-Ok-clause-text c =
    let (text, is, grows) = c.in-Ok.ensures.text in
    subst (IsJson c.args.style (bytes_of c.args.document)) (sym (c.string_of.ensures ∙ grows 0 [] c.new-text.ensures.items)) is

pub returns-clause-err : goal.returns-clause-err
returns-clause-err c = c.json_error.ensures c.args.limits (bytes_of c.args.document) c.in-Err.ensures.told.0
