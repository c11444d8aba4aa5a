use Rattle.std.proofs.Common.{◌∙◌, sym, inl, inr, subst, arith, option_copied, option_map, rules}
use Rattle.std.proofs.lemmas.Bool.{not-true, not-false}
use Rattle.sd_core.specs.Again.{event_again}
use Rattle.sd_core.specs.Tries.{Asks, Lacks}
use Rattle.sd_core.proofs.TryLemmas.{tried_more, tried_none}
use Rattle.sd_core.proofs.tries.repeat.Goals as goal

pub loop-played-init : goal.loop-played-init
loop-played-init g c = tried_none g.D.Driver.meaning _ c.args.world.now _ c.new-all.ensures.placed

pub loop-played-preserved : goal.loop-played-preserved
loop-played-preserved g c =
    tried_more g.D.Driver.meaning _ c.give-answer.result c.args.world.now c.loop-played.world c.give-answer.new.world _ _ _ _ c.in_ok-played.played
    c.loop-played.invariant c.give-answer.ensures (sym c.is_due.ensures ∙ c.if-not-is_due.false) c.in_ok-played.ensures.plays (not-false _ c.if-not-played.false) c.and-all.ensures.placed

pub returns-then-not-is_due-clause-stops : goal.returns-then-not-is_due-clause-stops
returns-then-not-is_due-clause-stops g c = inl (record { count = c.loop-played._played; middle = c.loop-played.world; tried = c.loop-played.invariant; few = omega arith; asks = c.give-answer.ensures; due = inl (sym c.is_due.ensures ∙ c.if-not-is_due.true) })

pub returns-in_err-played-clause-err : goal.returns-in_err-played-clause-err
returns-in_err-played-clause-err g c =
    let asked = option_map event_again (option_copied c.args.asked) in
    let stays = subst (λ w. Asks g.D.Driver.meaning asked c.loop-played.world c.give-answer.result w) (sym c.in_err-played.ensures.err) c.give-answer.ensures in
    let lacks : Lacks g.D.Driver.meaning c.args.rounds asked c.args.world.now c.round.new.world =
    (c.give-answer.result, c.loop-played.all.placed, record { count = c.loop-played._played; middle = c.loop-played.world; tried = c.loop-played.invariant; left = omega arith; asks = stays; due = sym c.is_due.ensures ∙ c.if-not-is_due.false }) in
    search (rules, lacks)

pub returns-then-not-played-clause-stops : goal.returns-then-not-played-clause-stops
returns-then-not-played-clause-stops g c = inr (record {
  before = c.loop-played.all.placed;
  given = c.give-answer.new.world;
  asked_last = record { count = c.loop-played._played; middle = c.loop-played.world; tried = c.loop-played.invariant; left = omega arith; asks = c.give-answer.ensures; due = sym c.is_due.ensures ∙ c.if-not-is_due.false };
  round = c.in_ok-played.played;
  plays = c.in_ok-played.ensures.plays;
  still = not-true _ c.if-not-played.true;
  placed_is = c.and-all.ensures.placed;
})

pub returns-clause-stops : goal.returns-clause-stops
returns-clause-stops g c = inl (record { count = c.loop-played._played; middle = c.loop-played.world; tried = c.loop-played.invariant; few = omega arith; asks = c.give.ensures; due = inr (omega arith) })
