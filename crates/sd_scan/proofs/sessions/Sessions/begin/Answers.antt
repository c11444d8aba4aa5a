use Rattle.sd_scan.proofs.sessions.Sessions.begin.Goals as goal
use Rattle.std.proofs.Common.{[], ◌∙◌}

pub returns : goal.returns
returns c = (
  c.take.new.self,
  c.take.ensures.key ∙ c.new-session.ensures.key,
  c.in_ok-take.ensures.stands c.args.body.now [] [] c.new-session.ensures.stands,
  c.in_ok-push.ensures.items,
)
