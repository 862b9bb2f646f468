use Rattle.bson_to_json.proofs.Common.{IsUtf8, bytes_of}
use Rattle.std.proofs.Common.{◌≤◌, ◌∙◌, [], arith, length, rules, subst, sym}
use Rattle.bson_to_json.proofs.DocumentUtf8.{json_utf8}
use Rattle.bson_to_json.proofs.document.measured_json.Goals as goal

pub string_of-requires : goal.string_of-requires
string_of-requires c =
    let (text, json, grows) = c.in_default.ensures.text in
    let (most, len, kept) = grows c.args.most [] (c.new-counted.ensures.most, c.new-counted.ensures.len, λ _. c.new-counted.ensures.text) in
    subst IsUtf8 (sym (kept (search rules))) (json_utf8 c.args.style (bytes_of c.args.document) text json)

pub returns-then-most-len-clause-text : goal.returns-then-most-len-clause-text
returns-then-most-len-clause-text c =
    let (text, json, grows) = c.in_default.ensures.text in
    let (most, len, kept) = grows c.args.most [] (c.new-counted.ensures.most, c.new-counted.ensures.len, λ _. c.new-counted.ensures.text) in
    (text, json, record { len_is = len; kept = tt; left_out = omega (arith, len, c.if-most-len.true) })

pub returns-clause-text : goal.returns-clause-text
returns-clause-text c =
    let (text, json, grows) = c.in_default.ensures.text in
    let (most, len, kept) = grows c.args.most [] (c.new-counted.ensures.most, c.new-counted.ensures.len, λ _. c.new-counted.ensures.text) in
    let fits : length text ≤ c.args.most = search rules in
    (text, json, record { len_is = len; kept = (c.string_of.ensures ∙ kept fits, fits); left_out = tt })

pub returns-in-Err-clause-err : goal.returns-in-Err-clause-err
returns-in-Err-clause-err c = c.json_error.ensures c.args.limits (bytes_of c.args.document) c.in-Err.ensures.told.0
