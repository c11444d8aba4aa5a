use Rattle.std.proofs.Common.{ap, ◌∙◌, ◌++◌, take, drop, refl, arith}
use Rattle.crossbeam_queue.specs.Passes.{view}
use Rattle.sd_ruled.specs.Passes.{PassView, of_owner}
use Rattle.sd_ruled.proofs.Turns.{one_more}
use Rattle.sd_ruled.proofs.split.turn_round.Goals as goal

pub loop-turned-preserved : goal.loop-turned-preserved
loop-turned-preserved g c =
    let t = c.turn_one.ensures in
    let i = c.loop-turned.invariant in
    let test = c.loop-turned-test.true in
    let v = view c.args.pass.now in
    record {
      here = t.0;
      is = t.1
          ∙ (ap (λ (u : PassView). of_owner u.lanes u.taken (drop 1 u.held ++ take 1 u.held)) i.is
          ∙ ap (of_owner v.lanes v.taken) (one_more c.loop-turned._turned v.held (drop c.loop-turned._turned v.held ++ take c.loop-turned._turned v.held) (omega (arith, test, i.most)) refl));
      most = i.most;
      room = i.room;
    }
