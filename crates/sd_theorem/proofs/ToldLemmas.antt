-- What a scan tells of sessions that a daemon told to be closed.
use Rattle.std.proofs.Common.{◌≡◌, ℕ, inl, inr, arith, sym, ap, subst, ◌∙◌, slice_get}
use Rattle.sd_drive.specs.View.{DriveIs}
use Rattle.sd_machine.specs.Machine.{empty_machine}
use Rattle.sd_theorem.proofs.Fresh.{made_honest}
use Rattle.sd_theorem.proofs.Head.{made_matches}
use Rattle.sd_drive.proofs.Places.{some_is}
use Rattle.sd_theorem.proofs.Stood.{honest_drive, told_stood}
use Rattle.sd_world.specs.Kept.{IsClosedAt, IsRetired}
use Rattle.sd_world.specs.Sessions.{SpansAt}
use Rattle.sd_world.specs.World.{BayView, IsOnline, WorldSession, WorldView}
use Rattle.sd_world.proofs.DeedLemmas.{leads_keep, leads_run}
use Rattle.sd_theorem.specs.Closed.{ScanTellsTold}
use Rattle.sd_theorem.proofs.ClosedLemmas.{scan_tells_closed}

-- a drive that is online wasn't retired
not_retired : {D : Type 0} (w : WorldView D) (drive at : ℕ) (bay : BayView D) (d : DriveIs D) → IsOnline w drive at bay d → IsRetired w drive → ⊥
not_retired {D} w drive at bay d online off =
    let here : off.0 ≡ at = omega (arith, off.2, online.number) in
    let same : off.1 ≡ bay = cc (sym off.3 ∙ ap (slice_get w.bays) here ∙ online.there) in
    cc (sym off.4 ∙ ap (λ (b : BayView D). b.drive) same ∙ online.online)

pub scan_tells_told : {D Q S Z : Type 0} → ScanTellsTold D Q S Z
scan_tells_told is start first w deeds key spans e at bay d scanned vs due outcome made honest leads told there closed online have scans =
    let pairs = made_matches is start first made in
    let h = made_honest is start first made honest in
    let kept = leads_keep is.device first w deeds made.sound leads in
    let run = leads_run is.device first w deeds (empty_machine start.time) made.sound leads pairs in
    let s = told_stood is.device first w key spans deeds made.sound leads told in
    let one : s.e ≡ e = some_is (sym s.there ∙ there) in
    let spans_are : SpansAt w e spans = elim s.holds.3 [
      | inl here ↦ subst (λ (x : WorldSession). SpansAt w x spans) one here
      | inr off ↦ absurd (not_retired w e.drive at bay d online (subst (λ (x : WorldSession). IsRetired w x.drive) one off))
    ] in
    let c : IsClosedAt w key spans =
    record { e = e; there = there; key_is = ap (λ (x : WorldSession). x.session.key) (sym one) ∙ s.key_is; holds = (closed, spans_are) } in
    let drive = honest_drive is.device w e.drive at bay d kept.0 (kept.1.honest h) online in
    (run.0, run.1, scan_tells_closed is.device w run.0 key spans at bay d scanned vs due outcome run.2 c drive have scans)
