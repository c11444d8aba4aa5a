-- The shapes of what an event leaves where a drive is, whatever the event was.
use Rattle.std.proofs.Common.{◌≡◌, ◌⊎◌, ℕ, ◌≤◌, sym, ap, subst, ◌∙◌, inl, inr, false, Some, None, Result, Ok, Err, List, [], ◌∷◌, ◌++◌}
use Rattle.sd_base.specs.declared.number.SessionKey.{SessionKey}
use Rattle.sd_base.specs.declared.refusal.Refusal.{Refusal}
use Rattle.sd_base.specs.declared.refusal.Refusal.TheVariants.{DeviceFault}
use Rattle.sd_desk.specs.Desk.{SameClaims, claim_of}
use Rattle.sd_driver.specs.Meaning.{Meaning, IsHonest}
use Rattle.sd_driver.specs.Shelf.{SameShelf, StillLasts, StillLastsBelow}
use Rattle.sd_drive.specs.Moves.{Places, PlacesPiece, Syncs, Unmounts, AddsVolume, awaits_sync, synced_journal}
use Rattle.sd_drive.specs.Shelf.{KeepsPieces}
use Rattle.sd_drive.specs.View.{DriveIs, items}
use Rattle.sd_drive.specs.declared.place.Placed.{Placed as PlaceAnswer}
use Rattle.sd_drive.specs.declared.place.Placed.TheVariants as place
use Rattle.sd_journal.specs.Journal.{noted, fails}
use Rattle.sd_lane.specs.declared.piece.Piece.{Piece}
use Rattle.sd_machine.specs.declared.event.Event.{Event}
use Rattle.sd_machine.specs.declared.event.Event.TheVariants.{Take, Place, Sync, Label, Adopt, Mount, Unmount, Seek}
use Rattle.sd_machine.specs.declared.reply.Reply.{Reply}
use Rattle.sd_machine.specs.declared.reply.Reply.TheVariants.{Refused, InHand, HandFull, Idle, Placed, NeedVolume, VolumeFull, VolumeError, Synced, Labelled, Adopted, Mounted, Unmounted, Requested, NoNeed}
use Rattle.sd_span.specs.declared.placement.Placement.{Placement}
use Rattle.sd_volume.specs.Adopt.{KeepsWholeBlocks}
use Rattle.sd_volume.specs.Volume.{VolumeView}
use Rattle.sd_world.specs.Stations.{Station, Outcome, stays, Calls, CallsDrive, TakesPiece, LosesBlocks}
use Rattle.sd_world.specs.Operators.{ClaimsName, CallsAdopting, LabelRefused, AdoptRefused, MountsAt, MountFails, MountRefused, SeekRefused, StaysKnowing}
use Rattle.sd_world.specs.DriveMoves.{DriveMoves}
use Rattle.sd_world.specs.Drives.{IsOfDrive}
use Rattle.sd_world.specs.Fails.{IsOfSync}
use Rattle.sd_world.proofs.DriveSteps.{DriveGoesOn, DriveAdds, places, syncs, unmounts, mounts, adds, adds_none}
use Rattle.sd_world.proofs.Seats.{FailsStay}

-- Devices.

-- the one volume was adopted: of it whole blocks that lasted last
abbrev pub WasAdopted : Meaning → Meaning → Type 0
WasAdopted old new = (name : List ℕ) × StillLastsBelow 0 name old.shelf new.shelf × (IsHonest old → KeepsWholeBlocks name old.shelf new.shelf)

-- the device is as honest as it was, its moment doesn't fall, and what lasted lasts
pub record DeviceStays (old new : Meaning) : Type 0 where
  pub honest : new.honest ≡ old.honest
  pub moment : old.shelf.moment ≤ new.shelf.moment
  pub lasts : StillLasts old.shelf new.shelf ⊎ WasAdopted old new

pub called : {D : Type 0} (meaning : D → Meaning) (fault no_room : Type 0) (d after : DriveIs D) → Calls meaning fault no_room d after → DeviceStays (meaning d.device) (meaning after.device)
called meaning fault no_room d after c = record { honest = c.counted.honest; moment = c.counted.moment; lasts = inl c.later }

adopting : {D : Type 0} (meaning : D → Meaning) (fault : Type 0) (name : List ℕ) (d after : DriveIs D) → CallsAdopting meaning fault name d after
    → DeviceStays (meaning d.device) (meaning after.device)
adopting meaning fault name d after c = record { honest = c.counted.honest; moment = c.counted.moment; lasts = inr (name, c.others, c.whole_blocks) }

-- Shapes.

-- What becomes of the drive's journal and of its hand: blocks are synced, or none; or the piece in the hand is placed.
abbrev pub JournalGoes : {D : Type 0} → DriveIs D → DriveIs D → Type 0
JournalGoes d after =
    ((after.hand ≡ d.hand) × ((after.journal ≡ d.journal) ⊎ (after.journal ≡ synced_journal d)))
    ⊎ ((piece : Piece) × (p : Placement) × (d.hand ≡ Some piece) × (p.key ≡ piece.key)
    × (after.journal ≡ d.journal ++ noted p ∷ []) × (after.hand ≡ None))

-- the drive is called and goes on, and the desk's claims stay
pub record Goes {D : Type 0} (meaning : D → Meaning) (s : Station D) (o : Outcome D) : Type 0 where
  pub goes : DriveGoesOn s.drive o.drive
  pub journal : JournalGoes s.drive o.drive
  pub keeps : KeepsPieces (meaning s.drive.device) (meaning o.drive.device) s.drive.journal o.drive.journal s.drive.hand o.drive.hand
  pub device : DeviceStays (meaning s.drive.device) (meaning o.drive.device)
  pub claims : SameClaims s.desk o.desk
  pub is : o ≡ record (stays s) { drive = o.drive; desk = o.desk }

-- the drive gets a volume, whose name is claimed for it
pub record Gets {D : Type 0} (meaning : D → Meaning) (own : ℕ) (s : Station D) (o : Outcome D) : Type 0 where
  pub name : List ℕ
  pub adds : DriveAdds name s.drive o.drive
  pub journal : JournalGoes s.drive o.drive
  pub keeps : KeepsPieces (meaning s.drive.device) (meaning o.drive.device) s.drive.journal o.drive.journal s.drive.hand o.drive.hand
  pub device : DeviceStays (meaning s.drive.device) (meaning o.drive.device)
  pub claims : ClaimsName name own s.desk o.desk
  pub is : o ≡ record (stays s) { drive = o.drive; desk = o.desk }

pub data StationShape {D : Type 0} (meaning : D → Meaning) (own : ℕ) (event : Event) (reply : Reply) (s : Station D) (o : Outcome D) : Type 0 where
  rests : o ≡ stays s → StationShape meaning own event reply s o
  takes : (ticket seq : ℕ) → TakesPiece ticket seq s o → StationShape meaning own event reply s o
  goes : Goes meaning s o → StationShape meaning own event reply s o
  gets : Gets meaning own s o → StationShape meaning own event reply s o
  loses : IsOfSync event own → reply ≡ Refused DeviceFault → LosesBlocks meaning s o → StationShape meaning own event reply s o
  knows : SameClaims s.desk o.desk → o ≡ record (stays s) { desk = o.desk } → StationShape meaning own event reply s o

-- Calls.

places_piece : {D E : Type 0} (result : Result PlaceAnswer E) (d after : DriveIs D) → PlacesPiece result d after → JournalGoes d after
places_piece {D} (Ok (place.At p)) d after c =
    inr (c.piece, p, c.ready.hand, ap (λ (x : Placement). x.key) c.on.1, c.on.3, ap (λ (x : DriveIs D). x.hand) c.becomes)
places_piece (Ok place.NeedVolume) d after c = absurd c.on
places_piece {D} (Ok place.VolumeFull) d after c = inl (ap (λ (x : DriveIs D). x.hand) c.becomes, inl c.on.1)
places_piece {D} (Ok place.VolumeError) d after c = inl (ap (λ (x : DriveIs D). x.hand) c.becomes, inl c.on.2)
places_piece (Ok place.Idle) d after c = absurd c.on
places_piece {D} (Err error) d after c = inl (ap (λ (x : DriveIs D). x.hand) c.becomes, inl c.on.2)

synced : {D : Type 0} (d after : DriveIs D) → after.hand ≡ d.hand → after.journal ≡ synced_journal d → JournalGoes d after
synced d after hand journal = inl (hand, inr journal)

unmarked : {D : Type 0} (d after : DriveIs D) → after.hand ≡ d.hand → after.journal ≡ d.journal → JournalGoes d after
unmarked d after hand journal = inl (hand, inl journal)

added : {D : Type 0} (v : VolumeView) (d after : DriveIs D) → AddsVolume v d after → JournalGoes d after
added {D} v d after is = unmarked d after (ap (λ (x : DriveIs D). x.hand) is) (ap (λ (x : DriveIs D). x.journal) is)

unmounted : {D : Type 0} (d after : DriveIs D) → Unmounts d after → DriveGoesOn d after × JournalGoes d after
unmounted {D} d after is = (unmounts d after is, synced d after (ap (λ (x : DriveIs D). x.hand) is) (ap (λ (x : DriveIs D). x.journal) is))

syncs_on : {D : Type 0} (d after : DriveIs D) → Syncs d after × (awaits_sync d ≡ false → after ≡ d) → DriveGoesOn d after × JournalGoes d after
syncs_on {D} d after c = (syncs d after c.0, synced d after (ap (λ (x : DriveIs D). x.hand) c.0) (ap (λ (x : DriveIs D). x.journal) c.0))

placed : {D E : Type 0} (result : Result PlaceAnswer E) (d after : DriveIs D) → PlacesPiece result d after
    → items after.journal after.hand ≡ items d.journal d.hand → DriveGoesOn d after × JournalGoes d after
placed result d after c items_are = (places result d after c items_are, places_piece result d after c)

unplaced : {D : Type 0} (meaning : D → Meaning) (d after : DriveIs D) → Places {E = Unit {0}} (Err tt) d after × SameShelf (meaning d.device).shelf (meaning after.device).shelf
    → items after.journal after.hand ≡ items d.journal d.hand → DriveGoesOn d after × JournalGoes d after
unplaced meaning d after c items_are = placed {E = Unit {0}} (Err tt) d after c.0 items_are

module _ {D : Type 0} {meaning : D → Meaning} {own : ℕ} {event : Event} {s : Station D} {o : Outcome D} where
  -- only the drive changes, by a call
  calls_drive : {reply : Reply} (fault no_room : Type 0) (change : DriveIs D → DriveIs D → Type 0)
      → ((d after : DriveIs D) → change d after → Calls meaning fault no_room d after → DriveGoesOn d after × JournalGoes d after)
      → CallsDrive meaning fault no_room change s o → StationShape meaning own event reply s o
  calls_drive fault no_room change tells m =
      let desk : o.desk ≡ s.desk = ap (λ (x : Outcome D). x.desk) m.2 in
      let told = tells s.drive o.drive m.0 m.1 in
      goes (record {
        goes = told.0;
        journal = told.1;
        keeps = m.1.keeps;
        device = called meaning fault no_room s.drive o.drive m.1;
        claims = λ name. ap (λ k. claim_of k name) desk;
        is = m.2 ∙ ap (λ k. record (stays s) { drive = o.drive; desk = k }) (sym desk);
      })

  stays_knowing : {reply : Reply} → StaysKnowing s o → StationShape meaning own event reply s o
  stays_knowing m = knows m.0.claims m.1

  label_refused : (name media : List ℕ) (why : Refusal) → LabelRefused meaning name media why s o → StationShape meaning own event (Refused why) s o
  label_refused name media why (inl m) = rests m.2
  label_refused name media why (inr (inl m)) = rests m.3
  label_refused name media why (inr (inr (inl m))) = rests m.4
  label_refused name media why (inr (inr (inr (inl m)))) = stays_knowing m.4
  label_refused name media why (inr (inr (inr (inr m)))) = goes (record {
    goes = adds_none s.drive o.drive m.adds_none;
    journal = unmarked s.drive o.drive (ap (λ (x : DriveIs D). x.hand) m.adds_none) (ap (λ (x : DriveIs D). x.journal) m.adds_none);
    keeps = m.calls.keeps;
    device = called meaning _ _ s.drive o.drive m.calls;
    claims = m.knows.claims;
    is = m.is;
  })

  adopt_refused : (name : List ℕ) (why : Refusal) → AdoptRefused meaning name why s o → StationShape meaning own event (Refused why) s o
  adopt_refused name why (inl m) = rests m.2
  adopt_refused name why (inr (inl m)) = rests m.3
  adopt_refused name why (inr (inr (inl m))) = stays_knowing m.3
  adopt_refused name why (inr (inr (inr m))) = goes (record {
    goes = adds_none s.drive o.drive m.adds_none;
    journal = unmarked s.drive o.drive (ap (λ (x : DriveIs D). x.hand) m.adds_none) (ap (λ (x : DriveIs D). x.journal) m.adds_none);
    keeps = m.calls.keeps;
    device = adopting meaning _ name s.drive o.drive m.calls;
    claims = m.knows.claims;
    is = m.is;
  })

  mounts_at : {reply : Reply} (name : List ℕ) → MountsAt meaning own name s o → StationShape meaning own event reply s o
  mounts_at name m = goes (record {
    goes = mounts {T = Unit {0}} m.place tt s.drive o.drive m.mounts;
    journal = synced s.drive o.drive (ap (λ (x : DriveIs D). x.hand) m.mounts) (ap (λ (x : DriveIs D). x.journal) m.mounts);
    keeps = m.calls.keeps;
    device = called meaning _ _ s.drive o.drive m.calls;
    claims = m.answers.claims;
    is = m.is;
  })

  fails_to_sync : (why : Refusal) → IsOfSync event own → why ≡ DeviceFault → LosesBlocks meaning s o → StationShape meaning own event (Refused why) s o
  fails_to_sync why of_sync fault m = loses of_sync (ap Refused fault) m

  mount_fails : (name : List ℕ) (why : Refusal) → IsOfSync event own → MountFails meaning name why s o → StationShape meaning own event (Refused why) s o
  mount_fails name why of_sync (inl m) = fails_to_sync why of_sync m.1 m.2
  mount_fails name why of_sync (inr m) = calls_drive _ _ _ (λ d after c l. unmounted d after c) m.3

  mount_refused : (name : List ℕ) (why : Refusal) → IsOfSync event own → MountRefused meaning name why s o → StationShape meaning own event (Refused why) s o
  mount_refused name why of_sync (inl m) = rests m.1
  mount_refused name why of_sync (inr m) = mount_fails name why of_sync m

  seek_refused : (why : Refusal) → IsOfSync event own → SeekRefused meaning own why s o → StationShape meaning own event (Refused why) s o
  seek_refused why of_sync (inl m) = stays_knowing m.3
  seek_refused why of_sync (inr m) = mount_fails m.0 why of_sync m.2

-- Every event of a drive.

pub station_shape : {D : Type 0} (meaning : D → Meaning) (own : ℕ) (event : Event) (reply : Reply) (s : Station D) (o : Outcome D) → IsOfDrive event own
    → DriveMoves meaning own event reply s o → StationShape meaning own event reply s o
station_shape meaning own (Take drive) (InHand ticket seq) s o is m = takes ticket seq m
station_shape meaning own (Take drive) HandFull s o is m = rests m.1
station_shape meaning own (Take drive) Idle s o is m = rests m.2
station_shape meaning own (Place drive) (Placed volume start end) s o is m =
    calls_drive _ _ _ (λ d after c l. placed {E = Unit {0}} (Ok (place.At m.0)) d after c l.keeps.items) m.4
station_shape meaning own (Place drive) NeedVolume s o is m = rests m.1
station_shape meaning own (Place drive) VolumeFull s o is m =
    calls_drive _ _ _ (λ d after c l. placed {E = Unit {0}} (Ok place.VolumeFull) d after c l.keeps.items) m
station_shape meaning own (Place drive) VolumeError s o is m =
    calls_drive _ _ _ (λ d after c l. placed {E = Unit {0}} (Ok place.VolumeError) d after c l.keeps.items) m
station_shape meaning own (Place drive) Idle s o is m = rests m.1
station_shape meaning own (Place drive) (Refused why) s o is m =
    calls_drive _ _ _ (λ d after c l. unplaced meaning d after c l.keeps.items) m.1
station_shape meaning own (Sync drive) Synced s o is m = calls_drive _ _ _ (λ d after c l. syncs_on d after c) m
station_shape meaning own (Sync drive) (Refused why) s o is m = fails_to_sync why is m.0 m.1
station_shape meaning own (Label drive name pool media moment) Labelled s o is m = gets (record {
  name = name;
  adds = adds _ s.drive o.drive m.adds;
  journal = added _ s.drive o.drive m.adds;
  keeps = m.calls.keeps;
  device = called meaning _ _ s.drive o.drive m.calls;
  claims = m.claims;
  is = m.is;
})
station_shape meaning own (Label drive name pool media moment) (Refused why) s o is m = label_refused name media why m
station_shape meaning own (Adopt drive name) (Adopted end next) s o is m = gets (record {
  name = name;
  adds = subst (λ n. DriveAdds n s.drive o.drive) m.adopts.name_is (adds m.adopts.volume s.drive o.drive m.adopts.adds);
  journal = added m.adopts.volume s.drive o.drive m.adopts.adds;
  keeps = m.calls.keeps;
  device = adopting meaning _ name s.drive o.drive m.calls;
  claims = m.claims;
  is = m.is;
})
station_shape meaning own (Adopt drive name) (Refused why) s o is m = adopt_refused name why m
station_shape meaning own (Mount drive name) (Mounted mounted) s o is m = mounts_at name m.1
station_shape meaning own (Mount drive name) (Refused why) s o is m = mount_refused name why is m
station_shape meaning own (Unmount drive) Unmounted s o is m = calls_drive _ _ _ (λ d after c l. unmounted d after c) m
station_shape meaning own (Unmount drive) (Refused why) s o is m = fails_to_sync why is m.0 m.1
station_shape meaning own (Seek drive) (Mounted name) s o is m = mounts_at name m.1
station_shape meaning own (Seek drive) Requested s o is m = knows m.asks.claims m.is
station_shape meaning own (Seek drive) NoNeed s o is m = rests m.1
station_shape meaning own (Seek drive) (Refused why) s o is m = seek_refused why is m
station_shape meaning own event reply s o is m = absurd m

-- Who fails by it.

-- nothing is lost, and no session fails by the drive
pub record LosesNone {D : Type 0} (s : Station D) (o : Outcome D) : Type 0 where
  pub lost : o.lost ≡ None
  pub fails : (key : SessionKey) → FailsStay key s.drive o.drive

-- the drive is as it was
drive_rests : {D : Type 0} (s : Station D) (o : Outcome D) → o.lost ≡ None → o.drive.journal ≡ s.drive.journal → LosesNone s o
drive_rests s o lost same = record { lost = lost; fails = λ key none. ap (fails key) same ∙ none }

-- so it is, or a sync failed and the reply says so
pub who_loses : {D : Type 0} {meaning : D → Meaning} {own : ℕ} {event : Event} {reply : Reply} {s : Station D} {o : Outcome D} → StationShape meaning own event reply s o
    → LosesNone s o ⊎ ((reply ≡ Refused DeviceFault) × LosesBlocks meaning s o)
who_loses {D} {meaning} {own} {event} {reply} {s} {o} (rests is) =
    inl (drive_rests s o (ap (λ (x : Outcome D). x.lost) is) (ap (λ (x : Outcome D). x.drive.journal) is))
who_loses {D} {meaning} {own} {event} {reply} {s} {o} (takes ticket seq t) =
    inl (drive_rests s o (ap (λ (x : Outcome D). x.lost) t.is) (ap (λ (x : Outcome D). x.drive.journal) t.is))
who_loses {D} (goes g) = inl (record { lost = ap (λ (x : Outcome D). x.lost) g.is; fails = g.goes.fails })
who_loses {D} (gets g) = inl (record { lost = ap (λ (x : Outcome D). x.lost) g.is; fails = g.adds.fails })
who_loses (loses of_sync fault l) = inr (fault, l)
who_loses {D} {meaning} {own} {event} {reply} {s} {o} (knows claims is) =
    inl (drive_rests s o (ap (λ (x : Outcome D). x.lost) is) (ap (λ (x : Outcome D). x.drive.journal) is))
