-- What an event does where a drive is, by its reply.
use Rattle.std.specs.Prelude.{◌≡◌, ℕ, false, None, IsSome, [], Ok, Err}
use Rattle.sd_base.specs.declared.refusal.Refusal.TheVariants.{DeviceFault, Memory}
use Rattle.sd_driver.specs.Meaning.{Meaning}
use Rattle.sd_driver.specs.Shelf.{SameShelf}
use Rattle.sd_drive.specs.Moves.{Places, LimitAllows, Syncs, Unmounts, NeedsNone, awaits_sync}
use Rattle.sd_drive.specs.declared.place.Placed.TheVariants as place
use Rattle.sd_machine.specs.declared.event.Event.{Event}
use Rattle.sd_machine.specs.declared.event.Event.TheVariants.{Take, Place, Sync, Label, Adopt, Mount, Unmount, Seek}
use Rattle.sd_machine.specs.declared.reply.Reply.{Reply}
use Rattle.sd_machine.specs.declared.reply.Reply.TheVariants.{Refused, InHand, HandFull, Idle, Placed, NeedVolume, VolumeFull, VolumeError, Synced, Labelled, Adopted, Mounted, Unmounted, Requested, NoNeed}
use Rattle.sd_world.specs.Stations.{Station, Outcome, stays, CallsDrive, TakesPiece, PlacesAt, LosesBlocks}
use Rattle.sd_world.specs.Operators.{LabelsVolume, LabelRefused, AdoptsAt, AdoptRefused, MountsAt, MountRefused, NextIs, AsksFor, SeekRefused}

-- At the drive of the number `own` the event is answered so, which leaves that. There is nothing for any other pair of
-- event and reply. `meaning` tells what a device is.
abbrev pub DriveMoves : {D : Type 0} → (D → Meaning) → (own : ℕ) → Event → Reply → Station D → Outcome D → Type 0
DriveMoves meaning own (Take drive) (InHand ticket seq) s o = TakesPiece ticket seq s o
DriveMoves meaning own (Take drive) HandFull s o = IsSome s.drive.hand × (o ≡ stays s)
DriveMoves meaning own (Take drive) Idle s o = (s.drive.hand ≡ None) × (s.queue.held ≡ []) × (o ≡ stays s)
DriveMoves meaning own (Place drive) (Placed volume start end) s o = PlacesAt meaning volume start end s o
DriveMoves meaning own (Place drive) NeedVolume s o = Places {E = Unit {0}} (Ok place.NeedVolume) s.drive s.drive × (o ≡ stays s)
DriveMoves meaning own (Place drive) VolumeFull s o = CallsDrive meaning ⊥ (LimitAllows s.drive) (Places {E = Unit {0}} (Ok place.VolumeFull)) s o
DriveMoves meaning own (Place drive) VolumeError s o = CallsDrive meaning (Unit {0}) ⊥ (Places {E = Unit {0}} (Ok place.VolumeError)) s o
DriveMoves meaning own (Place drive) Idle s o = (s.drive.hand ≡ None) × (o ≡ stays s)
DriveMoves meaning own (Place drive) (Refused why) s o = (why ≡ Memory)
    × CallsDrive meaning ⊥ ⊥ (λ d after. Places {E = Unit {0}} (Err tt) d after × SameShelf (meaning d.device).shelf (meaning after.device).shelf) s o
DriveMoves meaning own (Sync drive) Synced s o = CallsDrive meaning ⊥ ⊥ (λ d after. Syncs d after × (awaits_sync d ≡ false → after ≡ d)) s o
DriveMoves meaning own (Sync drive) (Refused why) s o = (why ≡ DeviceFault) × LosesBlocks meaning s o
DriveMoves meaning own (Label drive name pool media moment) Labelled s o = LabelsVolume meaning own name pool media moment s o
DriveMoves meaning own (Label drive name pool media moment) (Refused why) s o = LabelRefused meaning name media why s o
DriveMoves meaning own (Adopt drive name) (Adopted end next) s o = AdoptsAt meaning own name end next s o
DriveMoves meaning own (Adopt drive name) (Refused why) s o = AdoptRefused meaning name why s o
DriveMoves meaning own (Mount drive name) (Mounted mounted) s o = (mounted ≡ name) × MountsAt meaning own name s o
DriveMoves meaning own (Mount drive name) (Refused why) s o = MountRefused meaning name why s o
DriveMoves meaning own (Unmount drive) Unmounted s o = CallsDrive meaning ⊥ ⊥ Unmounts s o
DriveMoves meaning own (Unmount drive) (Refused why) s o = (why ≡ DeviceFault) × LosesBlocks meaning s o
DriveMoves meaning own (Seek drive) (Mounted name) s o = NextIs name s.drive × MountsAt meaning own name s o
DriveMoves meaning own (Seek drive) Requested s o = AsksFor own s o
DriveMoves meaning own (Seek drive) NoNeed s o = NeedsNone s.drive × (o ≡ stays s)
DriveMoves meaning own (Seek drive) (Refused why) s o = SeekRefused meaning own why s o
DriveMoves meaning own event reply s o = ⊥
