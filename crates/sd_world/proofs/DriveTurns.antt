-- What happens at a drive is a turn of the list machine, which stays as it is.
use Rattle.std.proofs.Common.{◌≡◌, ◌⊎◌, ℕ, cond, refl, sym, subst, inl, inr, [], pos, Bool, true, false, Option, Some, None, List, slice_get}
use Rattle.std.specs.Option.{option_map_or}
use Rattle.sd_base.specs.declared.refusal.Refusal.{Refusal}
use Rattle.sd_base.specs.declared.refusal.Refusal.TheVariants.{NoSuchDrive, DriveOffline, OtherPoolOrMedia, InUse, VolumeNotOnShelf, NotAppendable}
use Rattle.sd_driver.specs.Meaning.{Meaning}
use Rattle.sd_drive.specs.Moves.{mount_due_at, index_of, is_append, is_at, is_other_pool}
use Rattle.sd_drive.specs.View.{DriveIs}
use Rattle.sd_machine.specs.Machine.{Machine}
use Rattle.sd_machine.specs.Step.{Turns, MayRefuse, IsAmong, drive_refusals}
use Rattle.sd_machine.specs.declared.event.Event.{Event}
use Rattle.sd_machine.specs.declared.event.Event.TheVariants.{Take, Place, Sync, Label, Adopt, Mount, Unmount, Seek}
use Rattle.sd_machine.specs.declared.reply.Reply.{Reply}
use Rattle.sd_machine.specs.declared.reply.Reply.TheVariants.{Refused, InHand, HandFull, Idle, Placed, NeedVolume, VolumeFull, VolumeError, Synced, Labelled, Adopted, Mounted, Unmounted, Requested, NoNeed}
use Rattle.sd_volume.specs.Fault.{label_refusal, adopt_refusal}
use Rattle.sd_volume.specs.Volume.{VolumeView}
use Rattle.sd_volume.specs.declared.fault.AdoptFault.{AdoptFault}
use Rattle.sd_volume.specs.declared.fault.AdoptFault.TheVariants as adopt
use Rattle.sd_volume.specs.declared.fault.LabelFault.{LabelFault}
use Rattle.sd_volume.specs.declared.fault.LabelFault.TheVariants as label
use Rattle.sd_world.specs.Drives.{IsOfDrive}
use Rattle.sd_world.specs.DriveMoves.{DriveMoves}
use Rattle.sd_world.specs.Operators.{LabelRefused, AdoptRefused, MountRefused, SeekRefused}
use Rattle.sd_world.specs.Stations.{Station, Outcome}

-- The drive isn't there.

abbrev pub NoDrive : Refusal → Type 0
NoDrive why = (why ≡ NoSuchDrive) ⊎ (why ≡ DriveOffline)

pub may_miss : (m : Machine) (event : Event) (own : ℕ) (why : Refusal) → IsOfDrive event own → NoDrive why → MayRefuse m event why
may_miss m (Take drive) own why is none = inl none
may_miss m (Place drive) own why is none = inl none
may_miss m (Sync drive) own why is none = inl none
may_miss m (Label drive name pool media moment) own why is none = inl none
may_miss m (Adopt drive name) own why is none = inl none
may_miss m (Mount drive name) own why is none = inl none
may_miss m (Unmount drive) own why is none = inl none
may_miss m (Seek drive) own why is none = inl none
may_miss m event own why is none = absurd is

-- Label and adopt.

-- it is one for which such an event may be refused, whatever else the event says
abbrev IsOf : Event → Refusal → Type 0
IsOf event why = NoDrive why ⊎ IsAmong (drive_refusals event) why

abbrev MayLabel : Refusal → Type 0
MayLabel = IsOf (Label 0 [] [] [] (pos 0))

abbrev MayAdopt : Refusal → Type 0
MayAdopt = IsOf (Adopt 0 [])

abbrev MayMount : Refusal → Type 0
MayMount = IsOf (Mount 0 [])

label_may : (cause : LabelFault) → MayLabel (label_refusal cause)
label_may label.AlreadyLabelled = inr (inr (inr (inl refl)))
label_may label.NoRoom = inr (inr (inr (inr (inl refl))))
label_may label.Device = inr (inr (inr (inr (inr (inl refl)))))
label_may label.Memory = inr (inr (inr (inr (inr (inr (inl refl))))))

adopt_may : (cause : AdoptFault) → MayAdopt (adopt_refusal cause)
adopt_may adopt.NotOnShelf = inr (inr (inr (inl refl)))
adopt_may adopt.NotOurVolume = inr (inr (inr (inr (inl refl))))
adopt_may adopt.OtherMedia = inr (inr (inr (inr (inr (inl refl)))))
adopt_may adopt.BlocksOfThisRun = inr (inr (inr (inr (inr (inr (inl refl))))))
adopt_may adopt.Device = inr (inr (inr (inr (inr (inr (inr (inl refl)))))))
adopt_may adopt.Memory = inr (inr (inr (inr (inr (inr (inr (inr (inl refl))))))))

-- Mount.

-- a mount that is refused at once is refused so
abbrev RefusesMount : Refusal → Type 0
RefusesMount why = (why ≡ VolumeNotOnShelf) ⊎ (why ≡ InUse) ⊎ (why ≡ NotAppendable) ⊎ (why ≡ OtherPoolOrMedia)

due_at : (loaded : Option ℕ) (pool : Option (List ℕ)) (at : ℕ) (v : VolumeView) (why : Refusal) → mount_due_at loaded pool at v ≡ Some why → RefusesMount why
due_at loaded pool at v why h =
    let other : (c : Bool) → cond c (Some OtherPoolOrMedia) None ≡ Some why → RefusesMount why = λ c. elim c as (λ c. cond c (Some OtherPoolOrMedia) None ≡ Some why → RefusesMount why) [
      | true ↦ λ is. inr (inr (inr (cc is)))
      | false ↦ λ is. absurd (cc is)
    ] in
    let used : (b c : Bool) → cond b (Some InUse) (cond c (Some OtherPoolOrMedia) None) ≡ Some why → RefusesMount why =
    λ b c. elim b as (λ b. cond b (Some InUse) (cond c (Some OtherPoolOrMedia) None) ≡ Some why → RefusesMount why) [
      | true ↦ λ is. inr (inl (cc is))
      | false ↦ other c
    ] in
    let all : (a b c : Bool) → cond a (cond b (Some InUse) (cond c (Some OtherPoolOrMedia) None)) (Some NotAppendable) ≡ Some why → RefusesMount why =
    λ a b c. elim a as (λ a. cond a (cond b (Some InUse) (cond c (Some OtherPoolOrMedia) None)) (Some NotAppendable) ≡ Some why → RefusesMount why) [
      | true ↦ used b c
      | false ↦ λ is. inr (inr (inl (cc is)))
    ] in
    all (is_append v.status) (is_at loaded at) (is_other_pool pool v.pool) h

due_of : {D : Type 0} (d : DriveIs D) (at : ℕ) (v : Option VolumeView) (why : Refusal) → option_map_or (mount_due_at d.loaded d.pool at) v (Some VolumeNotOnShelf) ≡ Some why → RefusesMount why
due_of d at None why h = inl (cc h)
due_of d at (Some v) why h = due_at d.loaded d.pool at v why h

due_from : {D : Type 0} (d : DriveIs D) (at : Option ℕ) (why : Refusal)
    → option_map_or (λ at. option_map_or (mount_due_at d.loaded d.pool at) (slice_get d.volumes at) (Some VolumeNotOnShelf)) at (Some VolumeNotOnShelf) ≡ Some why → RefusesMount why
due_from d None why h = inl (cc h)
due_from d (Some at) why h = due_of d at (slice_get d.volumes at) why h

-- Refusals.

module _ {D : Type 0} {meaning : D → Meaning} {s : Station D} {o : Outcome D} where
  label_refused : (name media : List ℕ) (why : Refusal) → LabelRefused meaning name media why s o → MayLabel why
  label_refused name media why (inl m) = inr (inl m.1)
  label_refused name media why (inr (inl m)) = inr (inr (inl m.2))
  label_refused name media why (inr (inr (inl m))) = inr (inr (inr (inl m.3)))
  label_refused name media why (inr (inr (inr (inl m)))) = inr (inr (inr (inr (inr (inr (inl m.3))))))
  label_refused name media why (inr (inr (inr (inr m)))) = subst MayLabel (sym m.why_is) (label_may m.cause)

  adopt_refused : (name : List ℕ) (why : Refusal) → AdoptRefused meaning name why s o → MayAdopt why
  adopt_refused name why (inl m) = inr (inl m.1)
  adopt_refused name why (inr (inl m)) = inr (inr (inl m.2))
  adopt_refused name why (inr (inr (inl m))) = inr (inr (inr (inr (inr (inr (inr (inr (inl m.2))))))))
  adopt_refused name why (inr (inr (inr m))) = subst MayAdopt (sym m.why_is) (adopt_may m.cause)

  mount_refused : (name : List ℕ) (why : Refusal) → MountRefused meaning name why s o → MayMount why
  mount_refused name why (inl m) = elim (due_from s.drive (index_of s.drive.volumes name) why m.0) [
    | inl is ↦ inr (inl is)
    | inr (inl is) ↦ inr (inr (inl is))
    | inr (inr (inl is)) ↦ inr (inr (inr (inl is)))
    | inr (inr (inr is)) ↦ inr (inr (inr (inr (inl is))))
  ]
  mount_refused name why (inr (inl m)) = inr (inr (inr (inr (inr (inl m.1)))))
  mount_refused name why (inr (inr m)) = elim m.1 [
    | inl is ↦ inr (inl is)
    | inr (inl is) ↦ inr (inr (inr (inr (inr (inl is)))))
    | inr (inr is) ↦ inr (inr (inr (inr (inr (inr (inl is))))))
  ]

  seek_refused : (m : Machine) (drive own : ℕ) (why : Refusal) → SeekRefused meaning own why s o → MayRefuse m (Seek drive) why
  seek_refused m drive own why (inl c) = inr (inr (inr (inl c.2)))
  seek_refused m drive own why (inr (name, next, inl c)) = inr (inr (inl c.1))
  seek_refused m drive own why (inr (name, next, inr c)) = elim c.1 [
    | inl is ↦ inr (inl is)
    | inr (inl is) ↦ inr (inr (inl is))
    | inr (inr is) ↦ inr (inr (inr (inl is)))
  ]

-- Every event of a drive.

pub drive_turns : {D : Type 0} (meaning : D → Meaning) (m : Machine) (own : ℕ) (event : Event) (reply : Reply) (s : Station D) (o : Outcome D)
    → DriveMoves meaning own event reply s o → Turns m event reply m
drive_turns meaning m own (Take drive) (InHand ticket seq) s o c = refl
drive_turns meaning m own (Take drive) HandFull s o c = refl
drive_turns meaning m own (Take drive) Idle s o c = refl
drive_turns meaning m own (Place drive) (Placed volume start end) s o c = refl
drive_turns meaning m own (Place drive) NeedVolume s o c = refl
drive_turns meaning m own (Place drive) VolumeFull s o c = refl
drive_turns meaning m own (Place drive) VolumeError s o c = refl
drive_turns meaning m own (Place drive) Idle s o c = refl
drive_turns meaning m own (Place drive) (Refused why) s o c = (inr (inl c.0), refl)
drive_turns meaning m own (Sync drive) Synced s o c = refl
drive_turns meaning m own (Sync drive) (Refused why) s o c = (inr (inl c.0), refl)
drive_turns meaning m own (Label drive name pool media moment) Labelled s o c = refl
drive_turns meaning m own (Label drive name pool media moment) (Refused why) s o c = (label_refused name media why c, refl)
drive_turns meaning m own (Adopt drive name) (Adopted end next) s o c = refl
drive_turns meaning m own (Adopt drive name) (Refused why) s o c = (adopt_refused name why c, refl)
drive_turns meaning m own (Mount drive name) (Mounted mounted) s o c = (c.0, refl)
drive_turns meaning m own (Mount drive name) (Refused why) s o c = (mount_refused name why c, refl)
drive_turns meaning m own (Unmount drive) Unmounted s o c = refl
drive_turns meaning m own (Unmount drive) (Refused why) s o c = (inr (inl c.0), refl)
drive_turns meaning m own (Seek drive) (Mounted name) s o c = refl
drive_turns meaning m own (Seek drive) Requested s o c = refl
drive_turns meaning m own (Seek drive) NoNeed s o c = refl
drive_turns meaning m own (Seek drive) (Refused why) s o c = (seek_refused m drive own why c, refl)
drive_turns meaning m own event reply s o c = absurd c
