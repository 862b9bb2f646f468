use Rattle.std.proofs.Common.{◌≡◌, ◌∙◌, [], refl, rules}
use Rattle.bson_from_json.proofs.Keeps.{each_err, have_length, lacks_on, may_end_begun, may_end_on, no_start, none_on, read_whole, stops_at_end, whole_lacks, whole_refused}
use Rattle.bson_from_json.proofs.Moments.{on_ok, reading_begun, reading_goes_on}
use Rattle.std.proofs.lemmas.Result.{err_from_is_err_and}
use Rattle.bson_from_json.proofs.reading.Reader.read.Goals as goal

pub members-init : goal.members-init
members-init c = (
  reading_begun _ _ c.requires.levels c.requires.bytes c.in_ok-open.ensures.level c.in_ok-open.ensures.bytes (search rules),
  may_end_begun _ _ _ c.requires.levels c.requires.bytes c.open.ensures.limits c.in_ok-open.ensures.level c.in_ok-open.ensures.bytes (search rules),
)

pub members-preserved : goal.members-preserved
members-preserved c = (
  reading_goes_on _ c.members.self c.in-Some.level c.in-Some.ensures.level c.in-Some.ensures.bytes refl c.members.invariant.0 c.in_ok-on_with.ensures.rest,
  may_end_on _ c.members.self c.in-Some.level c.in-Some.ensures.level c.in-Some.ensures.bytes c.in-Some.ensures.limits refl c.members.invariant.1 c.in_ok-on_with.ensures.keeps,
)

pub returns-in_err-token-clause-stops : goal.returns-in_err-token-clause-stops
returns-in_err-token-clause-stops c = each_err c.from_residual.result (λ r. whole_lacks _ r (no_start c.in_err-token.ensures.none))

pub returns-in_err-open-clause-stops : goal.returns-in_err-open-clause-stops
returns-in_err-open-clause-stops c =
    let e = err_from_is_err_and c.from_residual-in_err-open.result c.from_residual-in_err-open.ensures.1 in
    rw (e.1, e.2) (whole_refused _ _ c.args.self.now.document refl c.requires.levels c.requires.bytes c.in_err-open.ensures.refused)

pub returns-in_err-on_with-clause-stops : goal.returns-in_err-on_with-clause-stops
returns-in_err-on_with-clause-stops c =
    let e = err_from_is_err_and c.from_residual-in_err-on_with.result c.from_residual-in_err-on_with.ensures.1 in
    rw (e.1, e.2)
    (none_on _ c.members.self c.in-Some.level c.in-Some.ensures.level c.in-Some.ensures.bytes c.in-Some.ensures.limits refl c.members.invariant.1 c.in_err-on_with.ensures.stops)

pub returns-clause-some : goal.returns-clause-some
returns-clause-some c =
    let empty : c.members.self.document.levels.items ≡ [] = search rules in
    on_ok c.end_of_text.result (λ none. read_whole _ c.members.self _ empty c.pop.ensures.bytes none c.members.invariant.0) c.end_of_text.ensures.some

pub returns-clause-length : goal.returns-clause-length
returns-clause-length c =
    let empty : c.members.self.document.levels.items ≡ [] = search rules in
    on_ok c.end_of_text.result (λ none. have_length _ c.members.self empty c.pop.ensures.bytes c.members.invariant.1) c.end_of_text.ensures.some

pub returns-clause-stops : goal.returns-clause-stops
returns-clause-stops c =
    let empty : c.members.self.document.levels.items ≡ [] = search rules in
    lacks_on c.end_of_text.result (λ r none. stops_at_end _ r c.members.self empty c.members.invariant.1 none) c.end_of_text.ensures.none

pub returns-clause-limits : goal.returns-clause-limits
returns-clause-limits c = on_ok c.end_of_text.result (λ none. c.pop.ensures.limits ∙ c.members.invariant.1.limits_are) c.end_of_text.ensures.some
