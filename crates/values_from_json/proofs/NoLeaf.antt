-- When no value of a wrapper is next, in terms of the tokens.
use Rattle.std.proofs.Common.{◌≡◌, ◌++◌, ◌∙◌, ℕ, List, Bool, Ok, ap, codes}
use Rattle.hex.specs.Hex.{decode_sized}
use Rattle.json.specs.Json.{Json}
use Rattle.json.specs.Json as json
use Rattle.json.specs.Token.{Token}
use Rattle.json.specs.Tree.{json_tokens}
use Rattle.bson_model.specs.Bytes.{NulFree}
use Rattle.bson_model.specs.Leaf.{symbol}
use Rattle.values_from_json.specs.Taken.{LacksLeaf}
use Rattle.values_from_json.specs.Taken.{LacksToken, TakesNone, TakesNoTwo}
use Rattle.values_from_json.specs.Wrapped.{InString, IsOid, IsRegex}
use Rattle.values_from_json.specs.declared.wrapper.Wrapper.TheVariants as wrapper
use Rattle.values_from_json.proofs.Wrappers.{none_wrapped}

oid : (ts : List Token) → ((s id : List ℕ) → decode_sized s 12 ≡ Ok id → LacksToken ts (Token.string s)) → TakesNone IsOid ts
oid ts none json.null l is rest e = is
oid ts none (json.boolean b) l is rest e = is
oid ts none (json.number s) l is rest e = is
oid ts none (json.string s) l (id, decoded, says) rest e = none s id decoded rest e
oid ts none (json.array js) l is rest e = is
oid ts none (json.object ms) l is rest e = is

pub no_oid : {ts : List Token} → ((s id : List ℕ) → decode_sized s 12 ≡ Ok id → LacksToken ts (Token.string s)) → LacksLeaf (codes "$oid") ts
no_oid {ts} none = none_wrapped wrapper.Oid ts (oid ts none)

any_symbol : (ts : List Token) → ((s : List ℕ) → LacksToken ts (Token.string s)) → TakesNone (InString (λ s l. l ≡ symbol s)) ts
any_symbol ts none json.null l is rest e = is
any_symbol ts none (json.boolean b) l is rest e = is
any_symbol ts none (json.number s) l is rest e = is
any_symbol ts none (json.string s) l is rest e = none s rest e
any_symbol ts none (json.array js) l is rest e = is
any_symbol ts none (json.object ms) l is rest e = is

pub no_symbol : {ts : List Token} → ((s : List ℕ) → LacksToken ts (Token.string s)) → LacksLeaf (codes "$symbol") ts
no_symbol {ts} none = none_wrapped wrapper.Symbol ts (any_symbol ts none)

pub no_undefined : {ts : List Token} → ((b : Bool) → LacksToken ts (Token.boolean b)) → LacksLeaf (codes "$undefined") ts
no_undefined {ts} none = none_wrapped wrapper.Undefined ts (λ j l is rest e. none is.0 rest (e ∙ ap (λ (x : Json). json_tokens x ++ rest) is.1))

pub no_min_key : {ts : List Token} → LacksToken ts (Token.number (codes "1")) → LacksLeaf (codes "$minKey") ts
no_min_key {ts} none = none_wrapped wrapper.MinKey ts (λ j l is rest e. none rest (e ∙ ap (λ (x : Json). json_tokens x ++ rest) is.0))

pub no_max_key : {ts : List Token} → LacksToken ts (Token.number (codes "1")) → LacksLeaf (codes "$maxKey") ts
no_max_key {ts} none = none_wrapped wrapper.MaxKey ts (λ j l is rest e. none rest (e ∙ ap (λ (x : Json). json_tokens x ++ rest) is.0))

any_regex : (ts : List Token)
    → ((pattern options : List ℕ) → NulFree pattern → NulFree options → TakesNoTwo ts (codes "pattern") (json.string pattern) (codes "options") (json.string options))
    → TakesNone IsRegex ts
any_regex ts none json.null l is rest e = is
any_regex ts none (json.boolean b) l is rest e = is
any_regex ts none (json.number s) l is rest e = is
any_regex ts none (json.string s) l is rest e = is
any_regex ts none (json.array js) l is rest e = is
any_regex ts none (json.object ms) l (pattern, options, two, p, o, says) rest e = none pattern options p o ms two rest e

pub no_regex : {ts : List Token}
    → ((pattern options : List ℕ) → NulFree pattern → NulFree options → TakesNoTwo ts (codes "pattern") (json.string pattern) (codes "options") (json.string options))
    → LacksLeaf (codes "$regularExpression") ts
no_regex {ts} none = none_wrapped wrapper.RegularExpression ts (any_regex ts none)
