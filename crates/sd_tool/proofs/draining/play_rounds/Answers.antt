use Rattle.std.proofs.Common.{◌-◌, ◌^◌, None, inl, inr, refl, ap, arith}
use Rattle.std.proofs.lemmas.Bool.{not-true, not-false}
use Rattle.sd_machine.specs.declared.reply.Reply.TheVariants.{Nothing}
use Rattle.sd_port.specs.Port.{PortView}
use Rattle.sd_core.proofs.TryLemmas.{drained, moved_so_far, tried_more}
use Rattle.sd_tool.proofs.draining.play_rounds.Goals as goal

-- nothing is asked before a round, so the world stays until it
pub loop-played-preserved : goal.loop-played-preserved
loop-played-preserved g c =
    let world = c.loop-played.port.world in
    tried_more g.D.Driver.meaning None Nothing c.args.port.now.world world world c.round.new.self.world _ _ _ c.in-Ok.round
    c.loop-played.invariant refl refl c.in-Ok.ensures.plays (not-false _ c.if-not-round.false) c.saturating_add-placed.ensures

pub returns-in_default-clause-err : goal.returns-in_default-clause-err
returns-in_default-clause-err g c =
    moved_so_far g.D.Driver.meaning (2 ^ 64 - 1) c.args.port.now.world c.round.new.self.world (
      Nothing,
      c.loop-played.placed,
      record {
        count = c.loop-played._played;
        middle = c.loop-played.port.world;
        tried = c.loop-played.invariant;
        left = omega arith;
        asks = ap (λ (p : PortView g.row.D.Denot). p.world) c.in_default.ensures.err;
        due = refl;
      },
    )

pub returns-then-not-round-clause-drains : goal.returns-then-not-round-clause-drains
returns-then-not-round-clause-drains g c =
    let world = c.loop-played.port.world in
    drained g.D.Driver.meaning c.args.port.now.world c.round.new.self.world Nothing c.saturating_add-placed.result (inr (record {
      before = c.loop-played.placed;
      given = world;
      asked_last = record { count = c.loop-played._played; middle = world; tried = c.loop-played.invariant; left = omega arith; asks = refl; due = refl };
      round = c.in-Ok.round;
      plays = c.in-Ok.ensures.plays;
      still = not-true _ c.if-not-round.true;
      placed_is = c.saturating_add-placed.ensures;
    }))

pub returns-clause-drains : goal.returns-clause-drains
returns-clause-drains g c =
    let world = c.loop-played.port.world in
    drained g.D.Driver.meaning c.args.port.now.world world Nothing c.loop-played.placed
    (inl (record { count = c.loop-played._played; middle = world; tried = c.loop-played.invariant; few = omega arith; asks = refl; due = inr (omega arith) }))
