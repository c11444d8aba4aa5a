-- Spans last over runs and stops.
use Rattle.std.proofs.Common.{◌+◌, ℕ, sym, subst, List, [], ◌∷◌}
use Rattle.std.specs.Prelude.{IsTrue}
use Rattle.sd_driver.specs.Meaning.{IsHonest}
use Rattle.sd_driver.specs.Shelf.{Shelf, AfterStop}
use Rattle.sd_drive.specs.Shelf.{LeavesStable}
use Rattle.sd_drive.specs.View.{DriveIs}
use Rattle.sd_readback.specs.Reading.{Volumes, KeepSpans, volumes_on}
use Rattle.sd_span.specs.declared.span.Span.{Span}
use Rattle.sd_world.specs.Lasting.{SpansLast}
use Rattle.sd_world.proofs.LastLemmas.{lasting_spans_stay, lasting_spans_kept, lasting_spans_survive}
use Rattle.sd_world.specs.World.{WorldView}
use Rattle.sd_world.specs.Devices.{GoesOn}
use Rattle.sd_world.specs.Deeds.{NonePurges}
use Rattle.sd_world.proofs.DeedLemmas.{leads_keep}
use Rattle.sd_theorem.specs.Runs.{RunsOn, RunsStop, NonePurgesOf}
use Rattle.sd_theorem.specs.Start.{Meanings}
use Rattle.sd_theorem.proofs.Fresh.{IsMadeWith, made_with}

-- the drive as the run began: over the device that was given, which goes on from there
record Began {D Q S : Type 0} (Z : Type 0) (is : Meanings D Q S) (found : Shelf) (w : WorldView D) (r : RunsOn Z is found w) : Type 0 where
  d : DriveIs D
  made : IsMadeWith is.device r.device d
  goes : GoesOn (NonePurges r.deeds) (is.device d.device) (is.device r.d.device)

began : {D Q S : Type 0} (Z : Type 0) (is : Meanings D Q S) (found : Shelf) (w : WorldView D) → (r : RunsOn Z is found w) → Began Z is found w r
began Z is found w r =
    let p = (leads_keep is.device r.first w r.deeds r.begins.sound r.leads).1.devices (r.at + 1) r.at r.bay r.d r.online in
    record { d = p.1; made = made_with is r.start r.first r.begins r.at p.0 r.device p.1 r.given p.2.there p.2.online; goes = p.3 }

-- spans that last on the shelf that a run found last while it goes on
pub run_keeps : {D Q S : Type 0} (Z : Type 0) (is : Meanings D Q S) (volumes : Volumes) (spans : List Span) (found : Shelf) (w : WorldView D) → (r : RunsOn Z is found w)
    → NonePurgesOf spans r.deeds → SpansLast found.moment volumes found spans → SpansLast found.moment volumes (is.device r.d.device).shelf spans
run_keeps Z is volumes spans found w r none last =
    let b = began Z is found w r in
    let own = (is.device r.device).shelf in
    let first = (is.device b.d.device).shelf in
    let given : SpansLast found.moment volumes own spans = subst (λ shelf. SpansLast found.moment volumes shelf spans) (sym r.shelf_is) last in
    let made = lasting_spans_stay (λ name. Unit {0}) found.moment volumes own first spans (λ since name bytes label blocks any is_image lasts. b.made.stays.later since name bytes lasts) (λ at s within. tt) given in
    lasting_spans_stay (NonePurges r.deeds) found.moment volumes first (is.device r.d.device).shelf spans (b.goes.blocks (subst IsTrue (sym b.made.stays.counts.honest) r.honest)) none made

-- and the device is honest still
pub run_honest : {D Q S : Type 0} (Z : Type 0) (is : Meanings D Q S) (found : Shelf) (w : WorldView D) → (r : RunsOn Z is found w) → IsHonest (is.device r.d.device)
run_honest Z is found w r =
    let b = began Z is found w r in
    subst IsTrue (sym b.goes.honest) (subst IsTrue (sym b.made.stays.counts.honest) r.honest)

-- the shelf that was found leaves stable what it said
pub found_stable : {D Q S : Type 0} (Z : Type 0) (is : Meanings D Q S) (found : Shelf) (w : WorldView D) → (r : RunsOn Z is found w) → LeavesStable found
found_stable Z is found w r = subst LeavesStable r.shelf_is ((began Z is found w r).made.stable r.honest)

-- what holds of a shelf that a stop left: it has the bytes of the spans, and they last there
pub record Survive (volumes : Volumes) (spans : List Span) (left : Shelf) : Type 0 where
  pub kept : KeepSpans spans volumes (volumes_on left)
  pub last : LeavesStable left → SpansLast left.moment volumes left spans

pub survive_stop : (since : ℕ) (volumes : Volumes) (spans : List Span) (shelf left : Shelf) → SpansLast since volumes shelf spans → AfterStop since shelf left → Survive volumes spans left
survive_stop since volumes spans shelf left last stop = record {
  kept = lasting_spans_kept since volumes shelf left spans last stop;
  last = λ stable. lasting_spans_survive since volumes shelf left spans last stop stable;
}

pub survive_runs : {D Q S : Type 0} (Z : Type 0) (is : Meanings D Q S) (volumes : Volumes) (spans : List Span) (found left : Shelf) (others : List Shelf) → RunsStop Z is spans found others left
    → Survive volumes spans found → Survive volumes spans left
survive_runs Z is volumes spans found left [] same s = subst (Survive volumes spans) (sym same) s
survive_runs Z is volumes spans found left (next ∷ others) runs s =
    let r = runs.0 in
    survive_runs Z is volumes spans next left others runs.1
    (survive_stop found.moment volumes spans (is.device r.runs.d.device).shelf next (run_keeps Z is volumes spans found r.w r.runs r.unpurged (s.last (found_stable Z is found r.w r.runs))) r.stop)
