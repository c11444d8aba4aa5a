use Rattle.std.proofs.Common.{◌≡◌, ◌+◌, length, take, drop, ap, sym, ◌∙◌, subst, Some}
use Rattle.std.specs.Prelude.{IsTrue}
use Rattle.std.proofs.lemmas.Result.{err_from_is_err_and}
use Rattle.sd_base.specs.Limits.{most_block}
use Rattle.sd_block.specs.Head.{IsHeadOf}
use Rattle.sd_block.specs.declared.head.Head.{Head}
use Rattle.sd_driver.specs.Shelf.{Held}
use Rattle.sd_volume.proofs.DeviceLemmas.{OnlyReads-trans, OnlyReads-as, err_or_ok}
use Rattle.sd_volume.proofs.BlockLemmas.{head_of_front, block_shown, no_block_shown}
use Rattle.sd_volume.proofs.block.next_block.Goals as goal

pub returns-in_default-clause-none : goal.returns-in_default-clause-none
returns-in_default-clause-none g c = λ honest shows held there key number body begins.
    let first = c.in_ok-fill.ensures in
    let volume = (g.D.Driver.meaning c.fill.new.driver).shelf.volume in
    let there_still : volume c.fill.new.self.name ≡ Some held = ap volume first.name ∙ (first.device.same honest _ ∙ there) in
    let bytes_are = c.shown.ensures.shown ∙ first.shown honest shows held there_still in
    let head : Head = record { key = key; number = number; size = 24 + length body } in
    err_or_ok (c.in_default.ensures.found head (subst (λ l. IsHeadOf most_block l head) (sym bytes_are) (head_of_front (drop c.args.at held.bytes) key number body begins)))

pub returns-in_err-fill-2-clause-device : goal.returns-in_err-fill-2-clause-device
returns-in_err-fill-2-clause-device g c =
    let p = err_from_is_err_and c.from_residual-in_err-fill-2.result c.from_residual-in_err-fill-2.ensures.1 in
    rw (p.1, p.2) (OnlyReads-trans _ _ _ _ _ (λ f. cc) c.in_ok-fill.ensures.device (OnlyReads-as _ _ _ _ (λ f. cc) (λ f. cc) c.in_err-fill-2.ensures.device))

pub returns-clause-device : goal.returns-clause-device
returns-clause-device g c =
    OnlyReads-trans _ _ _ _ _ (λ f. cc) c.in_ok-fill.ensures.device (OnlyReads-as _ _ _ _ (λ f. cc) (λ f. cc) c.in_ok-fill-2.ensures.device)

pub returns-clause-there : goal.returns-clause-there
returns-clause-there g c = λ honest shows.
    let first = c.in_ok-fill.ensures in
    let second = c.in_ok-fill-2.ensures in
    let honest_still = subst IsTrue (sym first.device.counted.honest) honest in
    block_shown c.block_of.result c.args.at c.in-Ok.head.size c.fill-2.new.self (g.D.Driver.meaning c.fill-2.new.driver).shelf c.shown-2.result.now c.shown-2.ensures.shown (second.shown honest_still (first.shows honest shows)) c.block_of.ensures.block

pub returns-clause-none : goal.returns-clause-none
returns-clause-none g c = λ honest shows.
    let first = c.in_ok-fill.ensures in
    let second = c.in_ok-fill-2.ensures in
    let honest_still = subst IsTrue (sym first.device.counted.honest) honest in
    let shelf = (g.D.Driver.meaning c.args.driver.now).shelf in
    let volume_1 = (g.D.Driver.meaning c.fill.new.driver).shelf.volume in
    let volume_2 = (g.D.Driver.meaning c.fill-2.new.driver).shelf.volume in
    let read : (held : Held) → shelf.volume c.args.reader.now.name ≡ Some held
    → IsHeadOf most_block (take 24 (drop c.args.at held.bytes)) c.in-Ok.head × (c.shown-2.result.now ≡ take c.in-Ok.head.size (drop c.args.at held.bytes)) =
    λ held there. (
    let there_1 : volume_1 c.fill.new.self.name ≡ Some held = ap volume_1 first.name ∙ (first.device.same honest _ ∙ there) in
    let there_2 : volume_2 c.fill-2.new.self.name ≡ Some held = ap volume_2 second.name ∙ (second.device.same honest_still _ ∙ there_1) in
    let front = c.shown.ensures.shown ∙ first.shown honest shows held there_1 in
    (subst (λ l. IsHeadOf most_block l c.in-Ok.head) front c.in-Ok.ensures.head, c.shown-2.ensures.shown ∙ second.shown honest_still (first.shows honest shows) held there_2)
    ) in
    no_block_shown c.block_of.result c.args.at c.args.reader.now.name shelf c.shown-2.result.now c.in-Ok.head read c.block_of.ensures.none

pub returns-in_err-fill-2-clause-shows : goal.returns-in_err-fill-2-clause-shows
returns-in_err-fill-2-clause-shows g c = λ honest shows.
    let first = c.in_ok-fill.ensures in
    c.in_err-fill-2.ensures.shows (subst IsTrue (sym first.device.counted.honest) honest) (first.shows honest shows)
