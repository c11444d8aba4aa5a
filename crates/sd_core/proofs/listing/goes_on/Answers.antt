use Rattle.std.proofs.Common.{false, true, refl, sym, inl, inr, ◌∙◌}
use Rattle.sd_session.specs.declared.status.Status.TheVariants.{Active, Ended, Closed, Cancelled, Failed, Purged}
use Rattle.sd_world.specs.World.{WorldSession}
use Rattle.sd_events.proofs.Found.{read_found}
use Rattle.sd_core.proofs.Tickets.{goes_told}
use Rattle.sd_core.proofs.listing.goes_on.Goals as goal

pub returns-in-Active : goal.returns-in-Active
returns-in-Active g c =
    let e : WorldSession = record { session = c.entry.inside.session; drive = c.entry.inside.drive } in
    let es = c.args.sessions.now in
    let f = (read_found c.args.ticket es es c.in-Some.at e c.index-sessions-at.result c.in-Some.ensures.found refl c.index-sessions-at.is c.entry.view_is).found in
    elim c.in-Active.is [
      | inl is ↦ goes_told es c.args.ticket e Active true f (sym c.status.ensures ∙ is) refl
      | inr is ↦ goes_told es c.args.ticket e Ended true f (sym c.status.ensures ∙ is) refl
    ]

pub returns-in-Closed : goal.returns-in-Closed
returns-in-Closed g c =
    let e : WorldSession = record { session = c.entry.inside.session; drive = c.entry.inside.drive } in
    let es = c.args.sessions.now in
    let f = (read_found c.args.ticket es es c.in-Some.at e c.index-sessions-at.result c.in-Some.ensures.found refl c.index-sessions-at.is c.entry.view_is).found in
    elim c.in-Closed.is [
      | inl is ↦ goes_told es c.args.ticket e Closed false f (sym c.status.ensures ∙ is) refl
      | inr (inl is) ↦ goes_told es c.args.ticket e Cancelled false f (sym c.status.ensures ∙ is) refl
      | inr (inr (inl is)) ↦ goes_told es c.args.ticket e Failed false f (sym c.status.ensures ∙ is) refl
      | inr (inr (inr is)) ↦ goes_told es c.args.ticket e Purged false f (sym c.status.ensures ∙ is) refl
    ]
