use Rattle.std.proofs.Common.{◌≡◌, refl, inl, Some}
use Rattle.sd_lines.specs.Held.{last_of}
use Rattle.sd_lines.proofs.held.Held.close.Goals as goal

pub returns-clause-answers : goal.returns-clause-answers
returns-clause-answers g c =
    let old : last_of c.args.self.now ≡ Some c.in-Some.live = rw (← c.self.view_is, c.in-Some.is) refl in
    let id = c.if-not-is_of.ensures.0 refl in
    rw (c.leave_if_over.ensures.last) (inl (c.in-Some.live, c.close_live-reply.new.live, old, id, refl, c.close_live-reply.ensures.shuts))

pub returns-clause-shows : goal.returns-clause-shows
returns-clause-shows g c = rw (c.leave_if_over.ensures.last) c.close_live-reply.ensures.shows
