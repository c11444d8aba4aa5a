use Rattle.std.proofs.Common.{◌≡◌, ℤ, refl, inl, rules, subst, to_z, of_z, w64, Some}
use Rattle.sd_session.specs.Session.{EndsSession}
use Rattle.sd_lines.specs.Held.{last_of}
use Rattle.sd_lines.proofs.held.Held.end.Goals.{in-Ok, in-Err}
use Rattle.sd_lines.proofs.held.Held.end.Goals as goal

pub returns : goal.returns
returns g c =
    let old : last_of c.args.self.now ≡ Some c.in-Some.live = rw (← c.self.view_is, c.in-Some.is) refl in
    let id = c.if-not-is_of.ensures.0 refl in
    let wide : to_z w64 (of_z w64 c.args.moment) ≡ c.args.moment = search rules in
    elim c.match-end.branch [
      | in-Ok w ↦ rw w.result-is (inl (
        c.in-Some.live,
        c.end.new.self,
        old,
        id,
        refl,
        (subst (λ (m : ℤ). EndsSession c.in-Some.live.session m c.end.new.self.session) wide w.in-Ok.ensures.ok, w.in-Ok.ensures.same),
      ))
      | in-Err w ↦ rw w.result-is (inl (c.in-Some.live, c.end.new.self, old, id, refl, (w.in-Err.ensures.why, w.in-Err.ensures.err)))
    ]
