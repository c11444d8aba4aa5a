use Rattle.std.proofs.Common.{◌∙◌}
use Rattle.sd_events.proofs.Chosen.{some_lowest}
use Rattle.sd_events.proofs.choosing.choose_lane.Goals as goal

pub unwrap-requires : goal.unwrap-requires
unwrap-requires g c =
    some_lowest c.args.sessions.now c.args.drive.now.journal c.args.lanes.now c.as_slice.result.now _ _
    (c.as_slice.ensures.value ∙ c.free_lanes-frees.ensures) c.requires.free c.lowest_free_lane.ensures
