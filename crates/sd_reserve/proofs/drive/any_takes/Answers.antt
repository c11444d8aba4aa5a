use Rattle.std.proofs.Common.{refl, arith}
use Rattle.std.proofs.lemmas.Option.{slice_get_read}
use Rattle.sd_reserve.specs.Reserve.{TakesMedia}
use Rattle.sd_base.proofs.ChoiceLemmas.{none_more, none_all}
use Rattle.sd_reserve.proofs.drive.any_takes.Goals as goal

pub loop-drive-init : goal.loop-drive-init
loop-drive-init c = λ place x below at is. absurd (omega arith)

pub returns-then-is_same : goal.returns-then-is_same
returns-then-is_same c = λ none. none c.loop-drive.drive-index c.drive-item.result
    (slice_get_read _ _ _ _ refl c.loop-drive-test.true c.drive-item.is) (c.is_same.ensures.0 c.if-is_same.true)

pub loop-drive-preserved : goal.loop-drive-preserved
loop-drive-preserved c = none_more (TakesMedia c.args.media.now) _ _ c.drive-item.result c.loop-drive.invariant
    (slice_get_read _ _ _ _ refl c.loop-drive-test.true c.drive-item.is)
    (λ takes. let t = c.is_same.ensures.1 takes in let f = c.if-is_same.false in cc)

pub returns : goal.returns
returns c = none_all (TakesMedia c.args.media.now) _ _ (omega arith) c.loop-drive.invariant
