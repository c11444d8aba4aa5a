-- What notes say stays true over stops and runs.
use Rattle.std.proofs.Common.{◌≡◌, ◌<◌, ◌+◌, ℕ, zero, suc, refl, sym, subst, arith, All, Some, List, [], ◌∷◌, get_or, length, drop, take}
use Rattle.sd_drive.specs.View.{DriveIs}
use Rattle.sd_driver.specs.Shelf.{Shelf, Lasts, AfterStop}
use Rattle.sd_note.specs.declared.note.Note.{Note}
use Rattle.sd_readback.specs.Reading.{Volumes}
use Rattle.sd_span.specs.declared.span.Span.{Span}
use Rattle.sd_volume.specs.Noted.{IsTrueNote}
use Rattle.sd_volume.proofs.NotedLemmas.{true_after}
use Rattle.sd_world.specs.Deeds.{Deed, NonePurges}
use Rattle.sd_world.specs.Lasting.{SpanLasts, SpansLast}
use Rattle.sd_world.specs.World.{WorldView}
use Rattle.sd_world.proofs.ClaimLemmas.{one_drive}
use Rattle.sd_theorem.specs.Noted.{NoteLasts, NotedShelf, NotedStarts}
use Rattle.sd_theorem.specs.Runs.{RunsOn, RunsStop, NonePurgesOf}
use Rattle.sd_theorem.specs.Start.{Meanings}
use Rattle.sd_theorem.proofs.Runs.{survive_stop, survive_runs, run_keeps, found_stable}

-- what holds of one holds of each in the list of it alone
of_one : {A : Type 0} (P : A → Type 0) (x : A) → P x → All P (x ∷ [])
of_one P x holds zero d within = holds
of_one P x holds (suc k) d within = absurd (omega (arith, within))

module _ {D Q S : Type 0} (Z : Type 0) (is : Meanings D Q S) (spans : List Span) (k : ℕ) (d : Span) (within : k < length spans) (note : Note) where
  -- as far as the note goes, the volume is what a span of it would be
  abbrev noted_span : Span
  noted_span = record (get_or spans k d) { end = note.end }

  -- a run that purges no volume of the spans doesn't purge that
  none_of_it : (deeds : List Deed) → NonePurgesOf spans deeds → NonePurgesOf (noted_span ∷ []) deeds
  none_of_it deeds none = of_one (λ (s : Span). NonePurges deeds s.volume) noted_span (none k d within)

  runs_of_it : (found left : Shelf) (others : List Shelf) → RunsStop Z is spans found others left → RunsStop Z is (noted_span ∷ []) found others left
  runs_of_it found left [] same = same
  runs_of_it found left (next ∷ others) runs =
      let r = runs.0 in
      (record { w = r.w; runs = r.runs; unpurged = none_of_it r.runs.deeds r.unpurged; stop = r.stop }, runs_of_it next left others runs.1)

  -- as a span it lasts
  lasts_so : (since : ℕ) (bytes : List ℕ) (shelf : Shelf) → NoteLasts since note (get_or spans k d).volume bytes shelf → SpansLast since (λ name. Some bytes) shelf (noted_span ∷ [])
  lasts_so since bytes shelf n = of_one (SpanLasts since (λ name. Some bytes) shelf) noted_span (record {
    ends = record { bytes = bytes; there = refl; label = n.is_true.label; blocks = n.is_true.blocks; tail = drop note.end bytes; image = n.is_true.image; end_is = n.is_true.end_is };
    lasts = n.lasts;
  })

  -- so what it says is true on the device of the next run
  true_again : (since : ℕ) (bytes : List ℕ) (now left last : Shelf) (others : List Shelf) (again : WorldView D) → NoteLasts since note (get_or spans k d).volume bytes now → AfterStop since now left
      → RunsStop Z is spans left others last → (r : RunsOn Z is last again) → NonePurgesOf spans r.deeds → IsTrueNote note (get_or spans k d).volume (is.device r.d.device).shelf
  true_again since bytes now left last others again n stop runs r none =
      let volumes : Volumes = λ name. Some bytes in
      let one = noted_span ∷ [] in
      let first = survive_stop since volumes one now left (lasts_so since bytes now n) stop in
      let then = survive_runs Z is volumes one left last others (runs_of_it left last others runs) first in
      let found = then.last (found_stable Z is last again r) in
      let lasts = run_keeps Z is volumes one last again r (none_of_it r.deeds none) found in
      let shelf = (is.device r.d.device).shelf in
      let name = (get_or spans k d).volume in
      let l : SpanLasts last.moment volumes shelf noted_span = lasts zero noted_span (omega arith) in
      let same : bytes ≡ l.ends.bytes = cc l.ends.there in
      true_after note name last.moment shelf shelf bytes n.is_true (subst (λ b. Lasts last.moment name (take note.end b) shelf) (sym same) l.lasts) (λ other given own. own.now)

  -- and of what the last stop left
  pub true_left : (since : ℕ) (bytes : List ℕ) (now left last : Shelf) (others : List Shelf) → NoteLasts since note (get_or spans k d).volume bytes now → AfterStop since now left
      → RunsStop Z is spans left others last → IsTrueNote note (get_or spans k d).volume last
  true_left since bytes now left last [] n stop same =
      subst (IsTrueNote note (get_or spans k d).volume) (sym same) (true_after note (get_or spans k d).volume since now left bytes n.is_true n.lasts stop)
  true_left since bytes now left last (next ∷ others) n stop runs =
      let volumes : Volumes = λ name. Some bytes in
      let one = noted_span ∷ [] in
      let r = runs.0 in
      let first = survive_stop since volumes one now left (lasts_so since bytes now n) stop in
      let lasts = run_keeps Z is volumes one left r.w r.runs (none_of_it r.runs.deeds r.unpurged) (first.last (found_stable Z is left r.w r.runs)) in
      let shelf = (is.device r.runs.d.device).shelf in
      let l : SpanLasts left.moment volumes shelf noted_span = lasts zero noted_span (omega arith) in
      let same : bytes ≡ l.ends.bytes = cc l.ends.there in
      true_left left.moment bytes shelf next last others
      (record { is_true = n.is_true; lasts = subst (λ b. Lasts left.moment (get_or spans k d).volume (take note.end b) shelf) (sym same) l.lasts }) r.stop runs.1

pub noted_shelf : {D Q S : Type 0} (Z : Type 0) → NotedShelf D Q S Z
noted_shelf {D} {Q} {S} Z is spans notes bytes since now left last others all stop runs k d within =
    let name = (get_or spans k d).volume in
    true_left Z is spans k d within (notes name) since (bytes name) now left last others (all k d within) stop runs

pub noted_starts : {D Q S Z : Type 0} → NotedStarts D Q S Z
noted_starts {D} {Q} {S} {Z} is spans notes bytes since now left last others again all stop runs r none = λ k d within at bay x online honest.
    let name = (get_or spans k d).volume in
    subst (λ (y : DriveIs D). IsTrueNote (notes name) name (is.device y.device).shelf) (sym (one_drive again (r.at + 1) r.at at r.bay bay r.d x r.online online))
    (true_again Z is spans k d within (notes name) since (bytes name) now left last others again (all k d within) stop runs r none)
