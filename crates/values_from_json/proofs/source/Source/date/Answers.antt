use Rattle.std.proofs.Common.{refl, rules}
use Rattle.json.specs.Token.{Token}
use Rattle.values_from_json.specs.Taken.{TakesToken}
use Rattle.values_from_json.proofs.Lacks.{no_time}
use Rattle.values_from_json.proofs.Takes.{long_taken, millis_taken, time_taken}
use Rattle.values_from_json.proofs.source.Source.date.Goals as goal

pub returns-in-Some-clause-some : goal.returns-in-Some-clause-some
returns-in-Some-clause-some c =
    let taken : TakesToken c.args.self.now.tokens c.token.new.self.tokens (Token.string c.in-String.text.now) = search rules in
    time_taken taken (search rules)

pub returns-in_ok-end-in-BeginObject-clause-some : goal.returns-in_ok-end-in-BeginObject-clause-some
returns-in_ok-end-in-BeginObject-clause-some c =
    let taken : TakesToken c.args.self.now.tokens c.token.new.self.tokens Token.begin_object = search rules in
    long_taken taken c.in_ok-named-in-BeginObject.ensures.some c.in_ok-millis-in-BeginObject.ensures.some.1 c.in_ok-end-in-BeginObject.ensures.some (search rules) (search rules)

pub returns-in-None-clause-none : goal.returns-in-None-clause-none
returns-in-None-clause-none c =
    let taken : TakesToken c.args.self.now.tokens c.token.new.self.tokens (Token.string c.in-String.text.now) = search rules in
    no_time taken c.as_bytes.ensures.value (c.in-None.ensures.none refl)

pub returns-in-Some-integer_of-clause-some : goal.returns-in-Some-integer_of-clause-some
returns-in-Some-integer_of-clause-some c =
    let taken : TakesToken c.args.self.now.tokens c.token.new.self.tokens (Token.number c.in-Number.text.now) = search rules in
    millis_taken taken (search rules) (search rules)
