use Rattle.std.proofs.Common.{ap, ◌∙◌, ◌-◌, arith}
use Rattle.crossbeam_queue.specs.Passes.{view}
use Rattle.sd_ruled.specs.Passes.{PassView}
use Rattle.sd_ruled.proofs.Counts.{found_at_rest, lifted_lane, lifted_count, one_back, went_round}
use Rattle.sd_ruled.proofs.Steps.{lifts, learns}
use Rattle.sd_ruled.proofs.split.count_held.Goals as goal

pub len_as-count-requires-clause-rule : goal.len_as-count-requires-clause-rule
len_as-count-requires-clause-rule g c = learns _ _

pub pop_as-requires-clause-rule : goal.pop_as-requires-clause-rule
pop_as-requires-clause-rule g c =
    let same = c.len_as-count.ensures.queue.1 in (
      lifts _ _ (ap (λ (v : PassView). v.takes) same ∙ c.requires.1) (ap (λ (v : PassView). v.away) same ∙ c.requires.2),
      learns _ _,
    )

pub another-requires-clause-rule : goal.another-requires-clause-rule
another-requires-clause-rule g c =
    let same = c.len_as-count.ensures.queue.1 in
    let r = c.in-None.ensures.rule in
    found_at_rest _ _ _ r.0 (ap (λ (v : PassView). v.takes) same ∙ c.requires.1) (ap (λ (v : PassView). v.away) same ∙ c.requires.2) r.1

pub put_back-requires-clause-room : goal.put_back-requires-clause-room
put_back-requires-clause-room g c =
    let l = c.len_as-count.ensures in
    let n = lifted_count _ _ _ _ _ l.queue.1 c.requires.1 c.requires.2 l.rule.1 c.in-Some.ensures.rule in
    omega (arith, n, l.rule.0)

pub put_back-requires-clause-lane : goal.put_back-requires-clause-lane
put_back-requires-clause-lane g c = lifted_lane _ _ _ c.in-Some.ensures.rule

pub overflow_sub-count : goal.overflow_sub-count
overflow_sub-count g c =
    let l = c.len_as-count.ensures in
    let n = lifted_count _ _ _ _ _ l.queue.1 c.requires.1 c.requires.2 l.rule.1 c.in-Some.ensures.rule in
    omega (arith, n)

pub turn_round-requires-clause-room : goal.turn_round-requires-clause-room
turn_round-requires-clause-room g c =
    let l = c.len_as-count.ensures in
    let n = lifted_count _ _ _ _ _ l.queue.1 c.requires.1 c.requires.2 l.rule.1 c.in-Some.ensures.rule in
    let m = one_back _ _ _ _ _ c.put_back.ensures.1 in (omega (arith, n, m), omega (arith, n, m, l.rule.0))

pub returns-in-Some-clause-count : goal.returns-in-Some-clause-count
returns-in-Some-clause-count g c =
    let l = c.len_as-count.ensures in
    let n = lifted_count _ _ _ _ _ l.queue.1 c.requires.1 c.requires.2 l.rule.1 c.in-Some.ensures.rule in
    let r = went_round (view c.args.pass.now) (view c.len_as-count.new.pass) (view c.pop_as.new.pass) (view c.put_back.new.pass) (view c.turn_round.new.pass) c.in-Some.first (c.len_as-count.result - 1) c.len_as-count.result l.queue.1 c.in-Some.ensures.rule c.put_back.ensures.1 (omega (arith, n)) (omega (arith, n)) c.turn_round.ensures.1 in
    (r.count, l.rule.0)

pub returns-in-Some-clause-total : goal.returns-in-Some-clause-total
returns-in-Some-clause-total g c =
    let l = c.len_as-count.ensures in
    let n = lifted_count _ _ _ _ _ l.queue.1 c.requires.1 c.requires.2 l.rule.1 c.in-Some.ensures.rule in
    let r = went_round (view c.args.pass.now) (view c.len_as-count.new.pass) (view c.pop_as.new.pass) (view c.put_back.new.pass) (view c.turn_round.new.pass) c.in-Some.first (c.len_as-count.result - 1) c.len_as-count.result l.queue.1 c.in-Some.ensures.rule c.put_back.ensures.1 (omega (arith, n)) (omega (arith, n)) c.turn_round.ensures.1 in
    r.total

pub returns-in-Some-clause-of_lanes : goal.returns-in-Some-clause-of_lanes
returns-in-Some-clause-of_lanes g c =
    let l = c.len_as-count.ensures in
    let n = lifted_count _ _ _ _ _ l.queue.1 c.requires.1 c.requires.2 l.rule.1 c.in-Some.ensures.rule in
    let r = went_round (view c.args.pass.now) (view c.len_as-count.new.pass) (view c.pop_as.new.pass) (view c.put_back.new.pass) (view c.turn_round.new.pass) c.in-Some.first (c.len_as-count.result - 1) c.len_as-count.result l.queue.1 c.in-Some.ensures.rule c.put_back.ensures.1 (omega (arith, n)) (omega (arith, n)) c.turn_round.ensures.1 in
    r.of_lanes
