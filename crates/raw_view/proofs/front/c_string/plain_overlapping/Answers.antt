use Rattle.std.proofs.Common.{◌≡◌, ◌-◌, length, drop, subst, rules, arith}
use Rattle.std.proofs.lemmas.Grind.{common_steps}
use Rattle.raw_view.proofs.Bytes.PlainLanes.{IsPlain, plain_over}
use Rattle.raw_view.proofs.front.c_string.plain_overlapping.Goals as goal

pub returns-clause-nul_free : goal.returns-clause-nul_free
returns-clause-nul_free g c =
    let bytes = c.args.bytes.now in
    let front = c.plain_lanes-front.ensures in
    let behind = c.plain_lanes.ensures in
    let last : c.split_at.result.1.now ≡ drop (length bytes - g.row.N) bytes = search (rules, common_steps) in
    (plain_over c.plain_lanes-front.result (length bytes - g.row.N) c.plain_lanes.result bytes (omega (arith, c.if-front.false, c.requires.short))
    (front.nul_free, front.ascii) (subst (IsPlain c.plain_lanes.result) last (behind.nul_free, behind.ascii))).0

pub returns-clause-ascii : goal.returns-clause-ascii
returns-clause-ascii g c =
    let bytes = c.args.bytes.now in
    let front = c.plain_lanes-front.ensures in
    let behind = c.plain_lanes.ensures in
    let last : c.split_at.result.1.now ≡ drop (length bytes - g.row.N) bytes = search (rules, common_steps) in
    (plain_over c.plain_lanes-front.result (length bytes - g.row.N) c.plain_lanes.result bytes (omega (arith, c.if-front.false, c.requires.short))
    (front.nul_free, front.ascii) (subst (IsPlain c.plain_lanes.result) last (behind.nul_free, behind.ascii))).1
