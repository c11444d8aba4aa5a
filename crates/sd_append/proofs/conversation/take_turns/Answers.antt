use Rattle.std.proofs.Common.{◌++◌, ◌∙◌, [], arith, length, refl}
use Rattle.sd_append.specs.Out.{out_view}
use Rattle.sd_append.specs.Standing.{around}
use Rattle.sd_append.proofs.StandingLemmas.{turns_ended}
use Rattle.sd_append.proofs.TalksLemmas.{turn_ended, turn_goes_on, within_all, within_before}
use Rattle.sd_append.proofs.conversation.take_turns.Goals as goal

pub loop-done-init : goal.loop-done-init
loop-done-init g c = (refl, refl, omega arith, λ start first. ([], first, omega arith, omega arith))

pub turn-turned-requires-clause-left : goal.turn-turned-requires-clause-left
turn-turned-requires-clause-left g c = omega (arith, c.left-done-end.ensures, c.loop-done.invariant.2)

pub loop-done-preserved : goal.loop-done-preserved
loop-done-preserved g c = (
  c.turn-turned.ensures.clock ∙ c.loop-done.invariant.0,
  c.turn-turned.ensures.same_reader ∙ c.loop-done.invariant.1,
  omega (arith, c.turn-turned.ensures.one_read, c.loop-done.invariant.2),
  λ start first.
      let b = c.loop-done.invariant.3 start first in
      turn_goes_on (g.P.SessionPort.clock c.args.port.now) c.turn-turned.result.end start (around (g.R.Read.remaining c.turn-turned.new.granted.reader.now) (g.P.SessionPort.asked c.turn-turned.new.port) (out_view g.W.Write.contents c.turn-turned.result.standing.outbox))
      c.turn-turned.result.standing.feeder c.turn-turned.result.standing.stage b.0 (length c.loop-done.input) c.loop-done._done
      c.in_default.is ((rw c.loop-done.invariant.0 at c.turn-turned.ensures.comes) start b.0 b.1) (omega arith) b.2 b.3,
)

pub returns-in-Some-clause-talks : goal.returns-in-Some-clause-talks
returns-in-Some-clause-talks g c start waiting well first =
    let b = c.loop-done.invariant.3 start first in
    let t = turn_ended (g.P.SessionPort.clock c.args.port.now) c.turn-turned.result.end c.in-Some.end start (around (g.R.Read.remaining c.turn-turned.new.granted.reader.now) (g.P.SessionPort.asked c.turn-turned.new.port) (out_view g.W.Write.contents c.turn-turned.result.standing.outbox))
    c.turn-turned.result.standing.feeder c.turn-turned.result.standing.stage b.0 (length c.loop-done.input) c.in-Some.is ((rw c.loop-done.invariant.0 at c.turn-turned.ensures.comes) start b.0 b.1) in (
      b.0 ++ t.0,
      (rw (c.turn-turned.ensures.clock ∙ c.loop-done.invariant.0) at c.finish.ensures.talks) start (g.R.Read.remaining c.turn-turned.new.granted.reader.now) (b.0 ++ t.0) waiting well t.3.0,
      within_before c.args.granted.now.left c.loop-done._done c.finish.result.end c.in-Some.end b.0 t.0 c.finish.ensures.end t.3.1 (omega (arith, c.left-done-end.ensures)) b.3 (omega arith),
    )

pub returns-clause-talks : goal.returns-clause-talks
returns-clause-talks g c start waiting well first =
    let b = c.loop-done.invariant.3 start first in (
      b.0,
      (rw c.loop-done.invariant.0 at c.finish-2.ensures.talks) start (g.R.Read.remaining c.loop-done.granted.reader.now) b.0 waiting well
          (turns_ended (g.P.SessionPort.clock c.args.port.now) start (g.R.Read.remaining c.loop-done.granted.reader.now) (g.P.SessionPort.asked c.loop-done.port) (out_view g.W.Write.contents c.loop-done.standing.outbox) c.loop-done.standing.feeder c.loop-done.standing.stage b.0 b.1),
      within_all c.args.granted.now.left c.loop-done._done c.finish-2.result.end b.0 (omega (arith, c.left-done-end.ensures)) (omega (arith, c.left-done-end.ensures)) b.2 b.3,
    )
