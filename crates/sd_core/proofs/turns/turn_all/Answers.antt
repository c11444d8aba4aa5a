use Rattle.std.proofs.Common.{◌≡◌, ◌+◌, ℕ, subst, arith}
use Rattle.sd_base.specs.Limits.{most_drives}
use Rattle.sd_core.specs.Rounds.{AreTurns, PlaysOn, online_flags}
use Rattle.sd_core.proofs.RoundParts.{online_below, online_one, turned_more, turned_none}
use Rattle.sd_core.proofs.turns.turn_all.Goals as goal

pub loop-number-init : goal.loop-number-init
loop-number-init g c = turned_none g.D.Driver.meaning _ _ c.new-turned.ensures

pub loop-number-preserved : goal.loop-number-preserved
loop-number-preserved g c =
    let M = g.D.Driver.meaning in
    let n = c.loop-number.number in
    let world = c.loop-number.world in
    let drive : c.unwrap.result ≡ n = rw c.unwrap.ensures at c.new.ensures.value in
    let Turn : ℕ → Type 0 = λ d. PlaysOn M (AreTurns (online_one (online_flags world) d)) world c.turn.result c.turn.new.world in
    turned_more M c.args.world.now world c.turn.new.world n c.loop-number.turned c.turn.result c.and-turned.result
    (omega arith) c.loop-number.invariant (subst Turn drive c.turn.ensures) c.and-turned.ensures.moved c.and-turned.ensures.placed

pub returns : goal.returns
returns g c =
    let M = g.D.Driver.meaning in
    let old = c.args.world.now in
    let all : c.loop-number.number ≡ most_drives + 1 = omega arith in
    let Turned : ℕ → Type 0 = λ n. PlaysOn M (AreTurns (online_below (online_flags old) n)) old c.loop-number.turned c.loop-number.world in
    subst Turned all c.loop-number.invariant.plays
