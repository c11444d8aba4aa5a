use Rattle.std.proofs.Common.{ap, sym, suc, ◌∙◌, ◌++◌, ◌≡◌, subst}
use Rattle.crossbeam_queue.specs.Passes.{view}
use Rattle.sd_lane.specs.Queue.{pieces_of, AreOfLanes}
use Rattle.sd_ruled.specs.Passes.{PassView}
use Rattle.sd_ruled.specs.Seats.{DriveSeatIs}
use Rattle.sd_ruled.proofs.Joins.{joined}
use Rattle.sd_ruled.proofs.ruled.RuledLanes.join.Goals as goal

pub returns-clause-follows : goal.returns-clause-follows
returns-clause-follows g c =
    let met = c.gather.ensures in
    let held = c.count_held-count.ensures in
    let z = c.count_held-count.new.pass.me.0.client in
    let same : z.taken ≡ (view c.gather.new.pass).taken = ap (λ (v : PassView). v.taken) held.pass.1 in
    let lanes : (view c.gather.new.pass).lanes ≡ c.args.split.drive.lanes = met.view.0 ∙ (c.drive.invariant.lanes ∙ ap (λ (d : DriveSeatIs). d.lanes) c.drive.view_is) in
    joined c.args.split.queue.table (view c.gather.new.pass).lanes c.args.split.lanes.items z.taken z.held c.requires.seats (c.requires.count ∙ sym lanes)
    (subst (λ l. AreOfLanes (view c.gather.new.pass).lanes (l ++ z.held)) (sym same) held.of_lanes)
    (λ k s e. ap (λ l. pieces_of (suc k) (l ++ z.held)) same ∙ (held.total k ∙ met.theirs k s e))
