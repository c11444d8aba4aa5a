use Rattle.std.proofs.Common.{◌≡◌, ◌+◌, Some, slice_get, refl, sym, subst, arith}
use Rattle.std.proofs.lemmas.Option.{slice_get_read}
use Rattle.sd_reserve.specs.Reserve.{IsCandidate, Precedes}
use Rattle.sd_reserve.proofs.FirstLemmas.{BestBelow, best_stays, best_changes, best_all, best_within}
use Rattle.sd_reserve.proofs.OrderLemmas.{precedes_is_order}
use Rattle.sd_reserve.proofs.drive.first_candidate.Goals as goal
use Rattle.sd_reserve.proofs.drive.first_candidate.Goals.{then-is_candidate, else-is_candidate}

pub loop-place-init : goal.loop-place-init
loop-place-init c = λ place x below at is. absurd (omega arith)

pub better-requires-clause-best : goal.better-requires-clause-best
better-requires-clause-best c =
    best_within (IsCandidate c.args.pool.now c.args.media.now) (Precedes c.args.pool.now) _ _ _ (omega arith) c.loop-place.invariant

pub loop-place-preserved : goal.loop-place-preserved
loop-place-preserved c =
    let P = IsCandidate c.args.pool.now c.args.media.now in
    let R = Precedes c.args.pool.now in
    let xs = c.args.drives.now in
    let n = c.loop-place.place in
    let x = c.index-drives-place.result in
    let there : slice_get xs n ≡ Some x = slice_get_read _ _ _ _ refl c.loop-place-test.true c.index-drives-place.is in
    elim c.if-is_candidate.branch [
      | then-is_candidate w ↦
          (subst (BestBelow P R xs (n + 1)) (sym w.best-is)
          (best_changes P R xs n c.loop-place.best w.better.result x (precedes_is_order c.args.pool.now) c.loop-place.invariant there
          (c.is_candidate.ensures.0 w.if-is_candidate.true) w.better.ensures))
      | else-is_candidate w ↦
          (subst (BestBelow P R xs (n + 1)) (sym w.best-is)
          (best_stays P R xs n c.loop-place.best x c.loop-place.invariant there
          (λ is. let t = c.is_candidate.ensures.1 is in let f = w.if-is_candidate.false in cc)))
    ]

pub returns-clause-place : goal.returns-clause-place
returns-clause-place c =
    best_all (IsCandidate c.args.pool.now c.args.media.now) (Precedes c.args.pool.now) _ _ _ (omega arith) c.loop-place.invariant

pub returns-clause-within : goal.returns-clause-within
returns-clause-within c =
    best_within (IsCandidate c.args.pool.now c.args.media.now) (Precedes c.args.pool.now) _ _ _ (omega arith) c.loop-place.invariant
