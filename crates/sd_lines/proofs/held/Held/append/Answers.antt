use Rattle.std.proofs.Common.{◌≡◌, refl, inl, Some}
use Rattle.sd_lines.specs.Held.{last_of}
use Rattle.sd_lines.proofs.held.Held.append.Goals.{in-Ok, in-Err}
use Rattle.sd_lines.proofs.held.Held.append.Goals as goal

pub returns : goal.returns
returns g c =
    let old : last_of c.args.self.now ≡ Some c.in-Some.live = rw (← c.self.view_is, c.in-Some.is) refl in
    let id = c.if-not-is_of.ensures.0 refl in
    elim c.match-add.branch [
      | in-Ok w ↦ rw (w.reply-is, c.leave_if_over.ensures.last) (inl (c.in-Some.live, c.add.new.self, old, id, refl, (w.in-Ok.ensures.ok, w.in-Ok.ensures.adds)))
      | in-Err w ↦ rw (w.reply-is, c.leave_if_over.ensures.last) (inl (c.in-Some.live, c.add.new.self, old, id, refl, (w.in-Err.ensures.err, w.in-Err.ensures.why)))
    ]
