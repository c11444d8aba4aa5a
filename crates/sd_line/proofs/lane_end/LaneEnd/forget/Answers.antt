use Rattle.std.proofs.Common.{sym, subst, ap, ◌∙◌, false, List}
use Rattle.std.specs.Option.{option_map}
use Rattle.sd_spool.specs.Job.{state_of}
use Rattle.sd_line.specs.Ends.{EndIs, KeepsEnd, ToldSession, forgot}
use Rattle.sd_line.proofs.Keeps.{forgets}
use Rattle.sd_line.proofs.lane_end.LaneEnd.forget.Goals as goal

pub invariant_of-self : goal.invariant_of-self
invariant_of-self g c =
    let p = c.self.inside in
    let f : EndIs = record { seat = p.seat; store = option_map (λ s. state_of (g.S.SpoolStore.meaning s)) p.store; sessions = p.sessions.items; whole = p.whole } in
    subst (λ ss. KeepsEnd g.N.Naming.time (record { seat = f.seat; store = f.store; sessions = ss; whole = false })) (sym c.keep_last.ensures) (forgets g.N.Naming.time f c.self.invariant)

pub returns : goal.returns
returns g c =
    let p = c.self.inside in
    let f : EndIs = record { seat = p.seat; store = option_map (λ s. state_of (g.S.SpoolStore.meaning s)) p.store; sessions = p.sessions.items; whole = p.whole } in
    ap (λ (ss : List ToldSession). let x : EndIs = record { seat = f.seat; store = f.store; sessions = ss; whole = false } in x) c.keep_last.ensures ∙ ap forgot c.self.view_is
