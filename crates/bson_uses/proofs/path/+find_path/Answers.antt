use Rattle.std.proofs.Common.{◌≡◌, None, Option, Ok, sym, refl, subst}
use Rattle.raw_bson.specs.Answers.{TellsFound}
use Rattle.raw_bson.specs.Meaning.{Meaning}
use Rattle.raw_bson.specs.RawBsonRef.{RawBsonRef}
use Rattle.raw_bson.specs.Value.{value_of}
use Rattle.bson_uses.specs.Path.{GoesDown, LooksBelow, keys_of}
use Rattle.bson_uses.proofs.path.+find_path.Goals as goal

pub returns-in-None : goal.returns-in-None
returns-in-None t c =
    let f = c.in_ok-below.ensures.found in
    let none : f.0 ≡ None = subst (λ (x : Option RawBsonRef). TellsFound (Ok x) f.0) c.in-None.is f.2 in
    let on : LooksBelow (λ v. GoesDown v (keys_of c.in-Some.keys.now)) f.0 None =
    subst (λ (next : Option Meaning). LooksBelow (λ v. GoesDown v (keys_of c.in-Some.keys.now)) next None) (sym none) refl in
    let down : GoesDown (value_of c.args.here) (keys_of c.args.path.now) None = rw (c.in-Document.is, c.in-Some.ensures.cases.0) (f.0, f.1, on) in
    (None, down, refl)
