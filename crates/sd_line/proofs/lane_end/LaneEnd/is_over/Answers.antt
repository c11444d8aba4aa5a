use Rattle.std.proofs.Common.{rules, ◌≡◌, ◌-◌, refl, sym, subst, length, slice_get, Some}
use Rattle.sd_line.specs.Ends.{IsOver}
use Rattle.sd_line.proofs.Sequences.{last_at}
use Rattle.sd_line.proofs.lane_end.LaneEnd.is_over.Goals as goal

pub returns-in-Ok : goal.returns-in-Ok
returns-in-Ok g c =
    let all = c.args.self.now.sessions in
    let here : slice_get all (length all - 1) ≡ Some c.in-Some.last.now = search rules in
    let over = last_at all c.in-Some.last.now here in
    (λ none. absurd (cc none), λ is. absurd (subst IsOver (sym c.last-2.view_is) (over.0 is) c.in-Ok.ensures.ok))

pub returns-in-Err : goal.returns-in-Err
returns-in-Err g c =
    let all = c.args.self.now.sessions in
    let here : slice_get all (length all - 1) ≡ Some c.in-Some.last.now = search rules in
    let over = last_at all c.in-Some.last.now here in
    (λ _. over.1 (subst IsOver c.last-2.view_is c.in-Err.ensures.why.0), λ _. refl)
