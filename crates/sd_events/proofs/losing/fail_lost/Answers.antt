use Rattle.std.proofs.Common.{ℕ, ◌&&◌, Option, refl, ap, subst}
use Rattle.sd_world.specs.World.{LaneView}
use Rattle.sd_world.specs.Drives.{FailExactly}
use Rattle.sd_events.specs.Losing.{is_holder, has_lost}
use Rattle.sd_world.proofs.Pairs.{numbers_fail}
use Rattle.sd_events.proofs.Lists.{none_fails}
use Rattle.sd_events.proofs.LosingLemmas.{lane_step, lane_last}
use Rattle.sd_events.proofs.losing.fail_lost.Goals as goal

pub loop-lane-init : goal.loop-lane-init
loop-lane-init g c = record { rise = c.requires.rise; fail = none_fails _ c.args.sessions.now.items (λ at e there. refl) }

pub loop-lane-preserved : goal.loop-lane-preserved
loop-lane-preserved g c =
    let journal = c.args.drive.now.journal in
    let before = c.loop-lane.invariant.rise in
    record {
      rise = (before.0, before.1, numbers_fail (λ e. is_holder c.lane.inside.holder e && has_lost journal e) before.0 1 before.1 _ _ c.fail_holder.ensures before.2);
      fail = lane_step journal c.args.lanes.now c.loop-lane.lane-index c.lane-item.result _ c.loop-lane.sessions.items _ c.lane-item.is c.loop-lane-test.true c.loop-lane.invariant.fail
          (subst (λ (h : Option ℕ). FailExactly (λ e. is_holder h e && has_lost journal e) c.loop-lane.sessions.items c.fail_holder.new.sessions.items) (ap (λ (l : LaneView). l.holder) c.lane.view_is) c.fail_holder.ensures);
    }

pub returns : goal.returns
returns g c = lane_last c.args.drive.now.journal c.args.lanes.now c.loop-lane.lane-index _ _ c.loop-lane-test.false c.loop-lane.invariant.fail
