-- A read leaves a world as it was: it changes nothing but a device, which keeps its bytes.
use Rattle.std.proofs.Common.{◌≡◌, ℕ, refl, sym, ap, subst, ◌∙◌, inl, inr, true, Some, List, Result, [], append-nil, slice_get, slice_set}
use Rattle.sd_base.specs.Record.{Record}
use Rattle.sd_base.specs.declared.number.SessionKey.{SessionKey}
use Rattle.sd_base.specs.declared.refusal.Refusal.{Refusal}
use Rattle.sd_desk.specs.Desk.{is_purged_at}
use Rattle.sd_driver.specs.Meaning.{Meaning}
use Rattle.sd_drive.specs.View.{DriveIs}
use Rattle.sd_journal.specs.Journal.{placements}
use Rattle.sd_machine.specs.Machine.{Machine}
use Rattle.sd_readback.specs.declared.read.ReadEnd.{ReadEnd}
use Rattle.sd_span.specs.Spans.{spans_of}
use Rattle.sd_span.specs.declared.span.Span.{Span}
use Rattle.sd_volume.specs.Device.{OnlyReads}
use Rattle.sd_world.specs.Honest.{AreHonest}
use Rattle.sd_world.specs.Rules.{IsWorld}
use Rattle.sd_world.specs.World.{WorldView, BayView, IsOnline, session_at, with_drive}
use Rattle.sd_world.proofs.DriveMoves.{goes_on_knowing}
use Rattle.sd_world.proofs.DriveSteps.{adds_none}
use Rattle.sd_world.proofs.HonestSteps.{drive_changes}
use Rattle.sd_world.proofs.Lookups.{one_or_two, get_set-same, get_set-other, get_set-tells}
use Rattle.sd_world.proofs.StationShapes.{DeviceStays}
use Rattle.sd_world.specs.Matches.{Matches}
use Rattle.sd_world.proofs.MovesSteps.{reading_keeps as matches_stay}
use Rattle.sd_world.specs.Devices.{DevicesGoOn}
use Rattle.sd_world.specs.Reading.{ReadsWorld}
use Rattle.sd_world.proofs.GrowLemmas.{drive_goes, all_stay, device_goes_on, devices_go_on}
use Rattle.sd_world.proofs.StandLemmas.{Leaves, none_left}

-- One drive's device changes.

-- a drive that is online then was, with its journal
was_online : {D : Type 0} (w : WorldView D) (drive at : ℕ) (bay : BayView D) (d after : DriveIs D) → IsOnline w drive at bay d → after.journal ≡ d.journal
    → (number place : ℕ) (b : BayView D) (x : DriveIs D) → IsOnline (with_drive at bay after w) number place b x
    → (c : BayView D) × (y : DriveIs D) × IsOnline w number place c y × (x.journal ≡ y.journal)
was_online {D} w drive at bay d after online same number place b x on =
    elim (get_set-tells w.bays at place (record bay { drive = Some after }) b on.there) [
      | inl p ↦
          let is : x ≡ after = cc (sym on.online ∙ ap (λ (c : BayView D). c.drive) p.1) in
          (bay, d, record { number = on.number; there = ap (slice_get w.bays) p.0 ∙ online.there; online = online.online }, ap (λ (y : DriveIs D). y.journal) is ∙ same)
      | inr p ↦ (b, x, record { number = on.number; there = p.1; online = on.online }, refl)
    ]

-- a drive that was online is, with its journal
is_online : {D : Type 0} (w : WorldView D) (drive at : ℕ) (bay : BayView D) (d after : DriveIs D) → IsOnline w drive at bay d → after.journal ≡ d.journal
    → (number place : ℕ) (b : BayView D) (x : DriveIs D) → IsOnline w number place b x
    → (c : BayView D) × (y : DriveIs D) × IsOnline (with_drive at bay after w) number place c y × (y.journal ≡ x.journal)
is_online {D} w drive at bay d after online same number place b x on =
    let bay' : BayView D = record bay { drive = Some after } in
    elim (one_or_two place at) [
      | inl p ↦
          let here : b ≡ bay = cc (sym on.there ∙ ap (slice_get w.bays) p ∙ online.there) in
          let is : x ≡ d = cc (sym on.online ∙ ap (λ (c : BayView D). c.drive) here ∙ online.online) in (
            bay',
            after,
            record { number = on.number; there = ap (λ k. slice_get (slice_set w.bays at bay') k) p ∙ get_set-same w.bays at bay' bay online.there; online = refl },
            same ∙ ap (λ (y : DriveIs D). y.journal) (sym is),
          )
      | inr p ↦ (b, x, record { number = on.number; there = get_set-other w.bays at place bay' p ∙ on.there; online = on.online }, refl)
    ]

device_leaves : {D : Type 0} (w : WorldView D) (drive at : ℕ) (bay : BayView D) (d after : DriveIs D) → IsWorld (with_drive at bay after w) → IsOnline w drive at bay d
    → after.journal ≡ d.journal → Leaves w (with_drive at bay after w)
device_leaves {D} w drive at bay d after rules online same = record {
  rules = rules;
  statuses = λ key h. record { e = h.e; there = h.there; key_is = h.key_is; holds = h.holds };
  spans = λ key spans c.
      let p = c.holds.1 in
      let q = is_online w drive at bay d after online same c.e.drive p.0 p.1 p.2 p.3 in
      record {
        e = c.e;
        there = c.there;
        key_is = c.key_is;
        holds = inl (c.holds.0, (p.0, q.0, q.1, q.2, p.4 ∙ ap (λ l. spans_of c.e.session.key (placements l)) (sym q.3)));
      };
  seats = λ ticket e there. (e, there, record { key_is = refl; drive_is = refl });
  grow = λ number place b x on.
      let q = was_online w drive at bay d after online same number place b x on in
      (q.0, q.1, q.2, ([], ap placements q.3 ∙ sym (append-nil (placements q.1.journal))));
  claims = λ name number claimed. claimed;
}

-- a device that was only read stays
read_stays : (fault : Type 0) (old new : Meaning) → OnlyReads fault old new → DeviceStays old new
read_stays fault old new reads = record { honest = reads.counted.honest; moment = reads.counted.moment; lasts = inl reads.lasts }

-- Worlds that are read.

module _ {D : Type 0} (meaning : D → Meaning) (key : SessionKey) (spans : List Span) (got got' : List Record) (result : Result ReadEnd Refusal) (w w' : WorldView D) where
  -- each machine that the world matched it matches
  pub read_matches : (m : Machine) → ReadsWorld meaning key spans got got' result w w' → Matches meaning w m → Matches meaning w' m
  read_matches m (inl r) pairs = subst (λ x. Matches meaning x m) (sym r.4) pairs
  read_matches m (inr r) pairs = subst (λ x. Matches meaning x m) (sym r.8) (matches_stay meaning w r.1 r.2 r.3 r.4 r.5 m r.6 r.7.same r.7.keeps pairs)

  -- it keeps its rules
  pub reading_keeps : IsWorld w → ReadsWorld meaning key spans got got' result w w' → IsWorld w'
  reading_keeps h (inl r) = subst IsWorld (sym r.4) h
  reading_keeps h (inr r) = subst IsWorld (sym r.8) (goes_on_knowing w r.1 r.2 r.3 r.4 r.5 w.desk h r.6 (adds_none r.4 r.5 r.7.same) (λ name drive claimed. claimed))

  -- closed sessions are as they were
  pub read_leaves : IsWorld w → ReadsWorld meaning key spans got got' result w w' → Leaves w w'
  read_leaves h (inl r) = subst (Leaves w) (sym r.4) (none_left w h)
  read_leaves h (inr r) =
      subst (Leaves w) (sym r.8)
      (device_leaves w r.1 r.2 r.3 r.4 r.5 (subst IsWorld r.8 (reading_keeps h (inr r))) r.6 (ap (λ (x : DriveIs D). x.journal) r.7.same))

  -- no volume is noted as purged that wasn't
  pub read_unpurged : ReadsWorld meaning key spans got got' result w w' → (name : List ℕ) → is_purged_at w'.desk name ≡ true → is_purged_at w.desk name ≡ true
  read_unpurged (inl r) name is = ap (λ (x : WorldView D). is_purged_at x.desk name) (sym r.4) ∙ is
  read_unpurged (inr r) name is = ap (λ (x : WorldView D). is_purged_at x.desk name) (sym r.8) ∙ is

  -- the devices go on, and all volumes keep their blocks
  pub read_goes_on : (keeps : List ℕ → Type 0) → ReadsWorld meaning key spans got got' result w w' → DevicesGoOn meaning keeps w w'
  read_goes_on keeps (inl r) = devices_go_on meaning keeps w w' (all_stay meaning keeps w w' r.4)
  read_goes_on keeps (inr r) =
      devices_go_on meaning keeps w w'
      (drive_goes meaning keeps w w' r.1 r.2 r.3 (record r.3 { drive = Some r.5 }) r.4 r.5 r.6 refl (ap (λ (x : WorldView D). x.bays) r.8)
      (record {
        grows = (adds_none r.4 r.5 r.7.same).stays.grows;
        device = device_goes_on keeps (meaning r.4.device) (meaning r.5.device) (read_stays _ (meaning r.4.device) (meaning r.5.device) r.7.device);
      }))

  -- what was honest is
  pub read_honest : ReadsWorld meaning key spans got got' result w w' → AreHonest meaning w → AreHonest meaning w'
  read_honest (inl r) h = subst (AreHonest meaning) (sym r.4) h
  read_honest (inr r) h =
      drive_changes meaning w w' h r.1 r.2 r.3 (record r.3 { drive = Some r.5 }) r.4 r.5 r.6 (ap (λ (x : WorldView D). x.bays) r.8) refl refl r.7.device.counted.honest
      (λ ticket e there. h.sessions ticket e (ap (λ (x : WorldView D). session_at ticket x.sessions) (sym r.8) ∙ there))
