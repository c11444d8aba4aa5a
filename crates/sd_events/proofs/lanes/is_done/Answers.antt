use Rattle.std.proofs.Common.{true, false, refl, sym, ◌∙◌, inl, inr}
use Rattle.sd_session.specs.declared.status.Status.TheVariants.{Active, Ended, Closed, Cancelled, Failed, Purged}
use Rattle.sd_events.proofs.Frees.{status_tells, placed_tells}
use Rattle.sd_events.proofs.lanes.is_done.Goals as goal

pub returns-in-Active : goal.returns-in-Active
returns-in-Active g c =
    let journal = c.args.drive.now.journal in
    elim c.in-Active.is [
      | inl is ↦ status_tells journal c.args.session.now Active false (sym c.status.ensures ∙ is) (λ placed. refl)
      | inr is ↦ status_tells journal c.args.session.now Ended false (sym c.status.ensures ∙ is) (λ placed. refl)
    ]

pub returns-in-Closed : goal.returns-in-Closed
returns-in-Closed g c =
    let journal = c.args.drive.now.journal in
    elim c.in-Closed.is [
      | inl is ↦ status_tells journal c.args.session.now Closed true (sym c.status.ensures ∙ is) (λ placed. refl)
      | inr is ↦ status_tells journal c.args.session.now Purged true (sym c.status.ensures ∙ is) (λ placed. refl)
    ]

pub returns-in-Cancelled : goal.returns-in-Cancelled
returns-in-Cancelled g c =
    let journal = c.args.drive.now.journal in
    elim c.in-Cancelled.is [
      | inl is ↦ placed_tells journal c.args.session.now Cancelled c.sent.result c.key.result c.progress.result (sym c.status.ensures ∙ is) (λ placed. refl) c.sent.ensures c.key.ensures c.progress.ensures
      | inr is ↦ placed_tells journal c.args.session.now Failed c.sent.result c.key.result c.progress.result (sym c.status.ensures ∙ is) (λ placed. refl) c.sent.ensures c.key.ensures c.progress.ensures
    ]
