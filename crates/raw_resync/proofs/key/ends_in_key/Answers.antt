use Rattle.std.proofs.Common.{◌<◌, ◌≤◌, ◌-◌, ◌∷◌, [], ◌++◌, ◌∙◌, ap, arith, get_or, length, refl}
use Rattle.raw_resync.proofs.Keys.{found_key, none_near, plain_more}
use Rattle.raw_resync.proofs.key.ends_in_key.Goals as goal

pub bytes-init : goal.bytes-init
bytes-init c = (omega arith, λ k low high. absurd (omega (arith, low, high)))

pub overflow_sub-text : goal.overflow_sub-text
overflow_sub-text c = c.bytes.invariant.0

pub bounds-text-start : goal.bounds-text-start
bounds-text-start c = omega (arith, c.bytes.invariant.0, c.bytes-test.true)

pub bounds-text-start-then-text-start-lt-SPACE : goal.bounds-text-start-then-text-start-lt-SPACE
bounds-text-start-then-text-start-lt-SPACE c = omega (arith, c.bytes.invariant.0, c.bytes-test.true)

pub split_at-requires : goal.split_at-requires
split_at-requires c = c.bytes.invariant.0

pub returns-then-text-start-lt-SPACE : goal.returns-then-text-start-lt-SPACE
returns-then-text-start-lt-SPACE c =
    let is = c.in-Some.ensures.cases.0 ∙ ap (λ n. c.in-Some.text.now ++ n ∷ []) c.if-last-ne0.false in
    let near : (0 < c.bytes.start) × (c.bytes.start ≤ length c.in-Some.text.now) × (length c.in-Some.text.now - c.bytes.start ≤ 64) =
    (c.bytes-test.true, c.bytes.invariant.0, c.if-text-start-le-LONGEST_KEY.true) in
    found_key c.in-Some.text.now c.bytes.start _ _ c.is_key_after.result is near c.bytes.invariant.1 refl c.if-text-start-lt-SPACE.true c.split_at.ensures.back c.is_key_after.ensures

pub bytes-preserved : goal.bytes-preserved
bytes-preserved c =
    let here : 32 ≤ get_or c.in-Some.text.now (c.bytes.start - 1) 0 = omega (arith, c.if-text-start-lt-SPACE.false) in
    (omega (arith, c.bytes.invariant.0), plain_more c.in-Some.text.now c.bytes.start c.bytes-test.true here c.bytes.invariant.1)

pub returns-else-text-start-le-LONGEST_KEY : goal.returns-else-text-start-le-LONGEST_KEY
returns-else-text-start-le-LONGEST_KEY c =
    none_near c.args.bytes.now c.in-Some.text.now c.in-Some.last.now c.bytes.start c.in-Some.ensures.cases.0 c.if-last-ne0.false c.bytes.invariant.1
    (λ near. omega (arith, near.1, c.if-text-start-le-LONGEST_KEY.false))

pub returns-after-bytes : goal.returns-after-bytes
returns-after-bytes c =
    none_near c.args.bytes.now c.in-Some.text.now c.in-Some.last.now c.bytes.start c.in-Some.ensures.cases.0 c.if-last-ne0.false c.bytes.invariant.1
    (λ near. omega (arith, near.0, c.bytes-test.false))
