use Rattle.values_from_json.proofs.Takes.{first_key, i_then_t, second_key, t_then_i}
use Rattle.values_from_json.proofs.source.Source.timestamp.Goals as goal

pub returns-in_ok-end-clause-some : goal.returns-in_ok-end-clause-some
returns-in_ok-end-clause-some c =
    let key = second_key _ c.if-is_swapped.true c.in_ok-is_swapped.ensures.some in
    i_then_t c.in_ok-begin.ensures.some key c.in_ok-increment.ensures.some.1 c.in_ok-named.ensures.some c.in_ok-time.ensures.some.1 c.in_ok-end.ensures.some
    (c.in_ok-time.ensures.some.2, c.in_ok-increment.ensures.some.2)

pub returns-in_ok-end-2-clause-some : goal.returns-in_ok-end-2-clause-some
returns-in_ok-end-2-clause-some c =
    let key = first_key _ c.if-is_swapped.false c.in_ok-is_swapped.ensures.some in
    t_then_i c.in_ok-begin.ensures.some key c.in_ok-time-2.ensures.some.1 c.in_ok-named-2.ensures.some c.in_ok-increment-2.ensures.some.1 c.in_ok-end-2.ensures.some
    (c.in_ok-time-2.ensures.some.2, c.in_ok-increment-2.ensures.some.2)
