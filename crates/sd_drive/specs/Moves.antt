-- What each call of a drive does to it, by its answer.
use Rattle.std.specs.Prelude.{◌≡◌, ℕ, ℤ, ◌+◌, ◌≤◌, ◌⊎◌, ◌==◌, Bool, true, false, not, List, [], ◌∷◌, ◌++◌, Option, None, Some, IsSome, is_some, position, Result, Ok, Err, OnOk, if◌then◌else◌, slice_get, slice_set}
use Rattle.std.specs.Option.{option_and_then, option_map_or}
use Rattle.std.specs.Str.{bytes_eq}
use Rattle.sd_base.specs.declared.number.SessionKey.{SessionKey}
use Rattle.sd_base.specs.declared.refusal.Refusal.{Refusal}
use Rattle.sd_base.specs.declared.refusal.Refusal.TheVariants as refusal
use Rattle.sd_driver.specs.declared.driver.DriverFault.{DriverFault}
use Rattle.sd_driver.specs.declared.driver.DriverFault.TheVariants as driver
use Rattle.sd_journal.specs.Journal.{Entry, noted, settled, purged, any_awaits_sync, with_key, without_key}
use Rattle.sd_journal.specs.declared.mark.Mark.{Mark}
use Rattle.sd_journal.specs.declared.mark.Mark.TheVariants as mark
use Rattle.sd_label.specs.declared.label.VolumeLabel.{VolumeLabel}
use Rattle.sd_lane.specs.declared.piece.Piece.{Piece}
use Rattle.sd_span.specs.declared.placement.Placement.{Placement}
use Rattle.sd_volume.specs.declared.volume.VolumeStatus.{VolumeStatus}
use Rattle.sd_volume.specs.declared.volume.VolumeStatus.TheVariants as status
use Rattle.sd_volume.specs.Adopt.{Adopts, CutsAt, status_at}
use Rattle.sd_volume.specs.Purge.{emptied}
use Rattle.sd_volume.specs.Volume.{VolumeView}
use Rattle.sd_driver.specs.Meaning.{Meaning, IsHonest}
use Rattle.sd_driver.specs.Shelf.{StillLastsBelow}
use Rattle.sd_drive.specs.declared.adopt.Adopted.{Adopted}
use Rattle.sd_drive.specs.declared.place.Placed.{Placed}
use Rattle.sd_drive.specs.declared.place.Placed.TheVariants.{At, NeedVolume, VolumeFull, VolumeError, Idle}
use Rattle.sd_drive.specs.Shelf.{KeepsPieces}
use Rattle.sd_drive.specs.View.{DriveIs, name_loaded, block_length}

-- Placing.

-- the volume at this place is loaded, takes blocks, and is of this pool
pub record TakesOn (volumes : List VolumeView) (loaded : Option ℕ) (pool : Option (List ℕ))
    (at : ℕ) (volume : VolumeView) : Type 0 where
  pub loaded_is : loaded ≡ Some at
  pub there : slice_get volumes at ≡ Some volume
  pub status_is : volume.status ≡ status.Append
  pub pool_is : pool ≡ Some volume.pool

-- a volume is loaded that takes blocks, and it is of the drive's pool
abbrev pub TakesBlocks : {D : Type 0} → DriveIs D → Type 0
TakesBlocks d = (at : ℕ) × (volume : VolumeView) × TakesOn d.volumes d.loaded d.pool at volume

-- the drive needs no volume: the loaded one takes blocks of its pool, or it never had a session
abbrev pub NeedsNone : {D : Type 0} → DriveIs D → Type 0
NeedsNone d = TakesBlocks d ⊎ (d.pool ≡ None)

-- this piece is in the hand, and this volume takes its block
pub record IsReady {D : Type 0} (d : DriveIs D) (piece : Piece) (at : ℕ) (volume : VolumeView) : Type 0 where
  pub hand : d.hand ≡ Some piece
  pub takes : TakesOn d.volumes d.loaded d.pool at volume

-- the piece's block would end at or below the limit
abbrev pub IsWithin : ℕ → Piece → VolumeView → Type 0
IsWithin limit piece volume = volume.end + block_length piece ≤ limit

-- where the next block of a volume lies, if it is this piece's
abbrev pub next_placement : Piece → VolumeView → Placement
next_placement piece volume = record {
  key = piece.key;
  volume = volume.name;
  start = volume.end;
  length = block_length piece;
  first = piece.body.first;
  last = piece.body.last;
}

-- a volume with this piece's block after its blocks
abbrev pub with_block : Piece → VolumeView → VolumeView
with_block piece volume =
    record volume {
      end = volume.end + block_length piece;
      next_number = volume.next_number + 1;
      last = volume.end;
    }

-- what placing a piece on a volume does to volume and journal: by its answer
abbrev pub PlacesOn : {E : Type 0} → Result Placed E → ℕ → Piece → VolumeView → VolumeView → List Entry → List Entry → Type 0
PlacesOn (Ok (At p)) limit piece old new journal journal' =
    IsWithin limit piece old × (p ≡ next_placement piece old) × (new ≡ with_block piece old)
    × (journal' ≡ journal ++ noted p ∷ [])
PlacesOn (Ok VolumeFull) limit piece old new journal journal' =
    (new ≡ record old { status = status.Full }) × (journal' ≡ journal)
PlacesOn (Ok VolumeError) limit piece old new journal journal' =
    IsWithin limit piece old × (new ≡ record old { status = status.Error }) × (journal' ≡ journal)
PlacesOn (Err error) limit piece old new journal journal' =
    IsWithin limit piece old × (new ≡ old) × (journal' ≡ journal)
PlacesOn result limit piece old new journal journal' = ⊥

-- what is in the hand after that answer: the piece stays there until it is placed
abbrev pub hand_after : {E : Type 0} → Result Placed E → Option Piece → Option Piece
hand_after (Ok (At p)) hand = None
hand_after result hand = hand

-- for which sessions' next placement there is room then: that of the placed one is used up; else it may have been made
abbrev pub RoomAfter : {E : Type 0} → Result Placed E → SessionKey → List SessionKey → List SessionKey → Type 0
RoomAfter (Ok (At p)) key old new = new ≡ without_key key (with_key key old)
RoomAfter (Ok NeedVolume) key old new = new ≡ old
RoomAfter (Ok Idle) key old new = new ≡ old
RoomAfter result key old new = (new ≡ old) ⊎ (new ≡ with_key key old)

-- the piece in the hand met a volume that takes blocks; nothing changes but that volume, the journal and the hand
pub record PlacesPiece {D E : Type 0} (result : Result Placed E) (old new : DriveIs D) : Type 0 where
  pub piece : Piece
  pub at : ℕ
  pub volume : VolumeView
  pub after : VolumeView
  pub ready : IsReady old piece at volume
  pub on : PlacesOn result old.limits.volume piece volume after old.journal new.journal
  pub room : RoomAfter result piece.key old.ready new.ready
  pub becomes : new ≡ record old {
    device = new.device;
    volumes = slice_set old.volumes at after;
    hand = hand_after result old.hand;
    journal = new.journal;
    ready = new.ready;
  }

-- what a place does: it is idle exactly with an empty hand; else it needs a volume exactly if none is loaded that
-- takes blocks of the drive's pool; else it places the piece, or not
abbrev pub Places : {D E : Type 0} → Result Placed E → DriveIs D → DriveIs D → Type 0
Places (Ok (At p)) old new = PlacesPiece {E = Unit {0}} (Ok (At p)) old new
Places (Ok NeedVolume) old new = IsSome old.hand × ¬ TakesBlocks old × (new ≡ old)
Places (Ok VolumeFull) old new = PlacesPiece {E = Unit {0}} (Ok VolumeFull) old new
Places (Ok VolumeError) old new = PlacesPiece {E = Unit {0}} (Ok VolumeError) old new
Places (Ok Idle) old new = (old.hand ≡ None) × (new ≡ old)
Places {D} {E} (Err error) old new = PlacesPiece {E = E} (Err error) old new

-- the piece in the hand is within the limit on the volume that takes it
abbrev pub LimitAllows : {D : Type 0} → DriveIs D → Type 0
LimitAllows d = (piece : Piece) × (at : ℕ) × (volume : VolumeView) × IsReady d piece at volume × IsWithin d.limits.volume piece volume

-- Syncing.

-- the entries once a sync of the loaded volume is over
abbrev pub settled_on : Mark → Option (List ℕ) → List Entry → List Entry
settled_on mark loaded entries = option_map_or (λ name. settled mark name entries) loaded entries

-- an entry of the drive's journal awaits a sync of its loaded volume
abbrev pub awaits_sync : {D : Type 0} → DriveIs D → Bool
awaits_sync d = option_map_or (λ name. any_awaits_sync name d.journal) (name_loaded d.volumes d.loaded) false

-- the drive's journal once a sync of its loaded volume has succeeded
abbrev pub synced_journal : {D : Type 0} → DriveIs D → List Entry
synced_journal d = settled_on mark.Synced (name_loaded d.volumes d.loaded) d.journal

-- how many syncs the drive's device is asked for to have no block await one: one if some does
abbrev pub sync_calls : {D : Type 0} → DriveIs D → ℕ
sync_calls d = if awaits_sync d then 1 else 0

-- the loaded volume is synced: none of its blocks awaits a sync any more
abbrev pub Syncs : {D : Type 0} → DriveIs D → DriveIs D → Type 0
Syncs old new = new ≡ record old { device = new.device; journal = synced_journal old }

-- A sync of the loaded volume failed. The volume has status Error, is out, and its blocks that were not synced are lost.
pub record FailsToSync {D : Type 0} (old new : DriveIs D) : Type 0 where
  pub at : ℕ
  pub volume : VolumeView
  pub loaded : old.loaded ≡ Some at
  pub there : slice_get old.volumes at ≡ Some volume
  pub awaited : any_awaits_sync volume.name old.journal ≡ true
  pub becomes : new ≡ record old {
    device = new.device;
    volumes = slice_set old.volumes at (record volume { status = status.Error });
    loaded = None;
    journal = settled mark.Lost volume.name old.journal;
  }

-- Mounting.

-- the loaded volume, if there was one, is synced and out
abbrev pub Unmounts : {D : Type 0} → DriveIs D → DriveIs D → Type 0
Unmounts old new = new ≡ record old { device = new.device; loaded = None; journal = synced_journal old }

-- the place of the volume of a name
abbrev pub index_of : List VolumeView → List ℕ → Option ℕ
index_of volumes name = position (λ v. bytes_eq v.name name) volumes

-- blocks are added to the volume
abbrev pub is_append : VolumeStatus → Bool
is_append status.Append = true
is_append status = false

-- the loaded volume is at this place
abbrev pub is_at : Option ℕ → ℕ → Bool
is_at loaded at = option_map_or (λ place. place == at) loaded false

-- the drive has a pool, and it is another than this one
abbrev pub is_other_pool : Option (List ℕ) → List ℕ → Bool
is_other_pool own pool = option_map_or (λ name. not (bytes_eq name pool)) own false

-- which refusal is due if this volume, at this place, is to be mounted, with that one loaded and of that pool
abbrev pub mount_due_at : Option ℕ → Option (List ℕ) → ℕ → VolumeView → Option Refusal
mount_due_at loaded pool at v =
    if is_append v.status
    then if is_at loaded at
    then Some refusal.InUse
    else if is_other_pool pool v.pool then Some refusal.OtherPoolOrMedia else None
    else Some refusal.NotAppendable

-- which refusal of a mount is due before the device is asked: the volume isn't the drive's; it takes blocks and is
-- loaded; it takes none; it is of another pool than the drive
abbrev pub mount_due : {D : Type 0} → DriveIs D → List ℕ → Option Refusal
mount_due d name = option_map_or
    (λ at. option_map_or (mount_due_at d.loaded d.pool at) (slice_get d.volumes at) (Some refusal.VolumeNotOnShelf))
    (index_of d.volumes name) (Some refusal.VolumeNotOnShelf)

-- the refusal that a device's answer to a load is; no load is answered that the name is there already, or that there is
-- no room
abbrev pub load_refusal : DriverFault → Refusal
load_refusal driver.NotThere = refusal.VolumeNotOnShelf
load_refusal driver.Exists = refusal.DeviceFault
load_refusal driver.NoRoom = refusal.DeviceFault
load_refusal driver.Device = refusal.DeviceFault
load_refusal driver.Memory = refusal.Memory

-- a load is refused so
abbrev pub RefusesLoad : Refusal → Type 0
RefusesLoad fault =
    (fault ≡ refusal.VolumeNotOnShelf) ⊎ (fault ≡ refusal.DeviceFault) ⊎ (fault ≡ refusal.Memory)

-- what a mount that isn't refused at once does: the loaded volume is synced and out, and the other is in. If the sync
-- fails, so does the mount; if the other isn't loaded, none is.
abbrev pub Mounts : {D T : Type 0} → ℕ → Result T Refusal → DriveIs D → DriveIs D → Type 0
Mounts at (Ok done) old new =
    new ≡ record old { device = new.device; loaded = Some at; journal = synced_journal old }
Mounts at (Err fault) old new =
    (Unmounts old new × RefusesLoad fault) ⊎ (FailsToSync old new × (fault ≡ refusal.DeviceFault))

-- Labelling and adopting.

-- which refusal of a label is due before the device is asked: another media type than the drive's; a volume is loaded; the
-- drive has a volume of that name
abbrev pub label_due : {D : Type 0} → DriveIs D → List ℕ → List ℕ → Option Refusal
label_due d name media =
    if not (bytes_eq d.media media) then Some refusal.OtherPoolOrMedia
    else if is_some d.loaded then Some refusal.InUse
    else if is_some (index_of d.volumes name) then Some refusal.AlreadyLabelled
    else None

-- which refusal of an adoption is due before the device is asked
abbrev pub adopt_due : {D : Type 0} → DriveIs D → List ℕ → Option Refusal
adopt_due d name =
    if is_some (index_of d.volumes name) then Some refusal.AlreadyLabelled
    else if is_some d.loaded then Some refusal.InUse
    else None

-- the volume is the drive's last
abbrev pub AddsVolume : {D : Type 0} → VolumeView → DriveIs D → DriveIs D → Type 0
AddsVolume v old new = new ≡ record old { device = new.device; volumes = old.volumes ++ v ∷ [] }

-- nothing changed but perhaps the device
abbrev pub AddsNone : {D : Type 0} → DriveIs D → DriveIs D → Type 0
AddsNone old new = new ≡ record old { device = new.device }

-- the label of a new volume at a drive of this host, if it has one
abbrev pub label_of : Option (List ℕ) → List ℕ → List ℕ → List ℕ → ℤ → VolumeLabel
label_of host name pool media moment = record { name = name; pool = pool; media = media; moment = moment; host = host }

-- What an adoption that isn't refused at once adds: a volume of that name and of the drive's media, which is full if it
-- ends at the limit or past it. With an honest device: the volume was there, and was cut where its blocks end.
pub record AdoptsVolume {D : Type 0} (name : List ℕ) (answer : Adopted) (device device' : Meaning) (old new : DriveIs D) : Type 0 where
  pub volume : VolumeView
  pub adds : AddsVolume volume old new
  pub name_is : volume.name ≡ name
  pub media_is : volume.media ≡ old.media
  pub status_is : volume.status ≡ status_at old.limits.volume volume.end
  pub answer_is : answer ≡ record { end = volume.end; next_number = volume.next_number }
  pub below : StillLastsBelow volume.end name device.shelf device'.shelf
  pub adopts : IsHonest device → Adopts name old.media old.limits.time volume device.shelf device'.shelf

-- Purging.

-- the volume takes no more blocks, since one found no room
abbrev pub is_full : VolumeStatus → Bool
is_full status.Full = true
is_full status = false

-- which refusal is due if this volume is to be purged, with that one loaded
abbrev pub purge_due_at : Option ℕ → VolumeView → Option Refusal
purge_due_at loaded v =
    if is_full v.status then if is_some loaded then Some refusal.InUse else None else Some refusal.VolumeNotFull

-- which refusal of a purge is due before the device is asked: the volume isn't the drive's; it isn't full; a volume is loaded
abbrev pub purge_due : {D : Type 0} → DriveIs D → List ℕ → Option Refusal
purge_due d name = option_map_or (purge_due_at d.loaded) (option_and_then (slice_get d.volumes) (index_of d.volumes name)) (Some refusal.VolumeNotOnShelf)

-- the volume, which is at this place, has no block and this status now, and the blocks of all entries on it are gone
abbrev pub EmptiesVolume : {D : Type 0} → ℕ → VolumeView → VolumeStatus → DriveIs D → DriveIs D → Type 0
EmptiesVolume at volume status old new = new ≡ record old {
  device = new.device;
  volumes = slice_set old.volumes at (emptied status volume);
  journal = purged volume.name old.journal;
}

-- What a purge that isn't refused at once does to the volume at this place: it is emptied, and takes blocks again. If
-- the device fails, it is emptied too, and takes none; if it isn't loaded, or if out of memory, nothing changes.
abbrev pub Purges : {D T : Type 0} → ℕ → VolumeView → Result T Refusal → DriveIs D → DriveIs D → Type 0
Purges at volume (Ok done) old new = EmptiesVolume at volume status.Append old new
Purges at volume (Err fault) old new =
    ((fault ≡ refusal.DeviceFault) × EmptiesVolume at volume status.Error old new)
    ⊎ (((fault ≡ refusal.VolumeNotOnShelf) ⊎ (fault ≡ refusal.Memory)) × AddsNone old new)

-- What such a purge of the volume of this name, which is at this place, does: the volume is emptied, or not, by the
-- answer. What lasted of all other volumes still lasts, and so does its label block; and if the purge succeeds, an
-- honest device has cut it there.
pub record PurgesAt {D T : Type 0} (name : List ℕ) (at : ℕ) (result : Result T Refusal) (device device' : Meaning)
    (old new : DriveIs D) : Type 0 where
  pub volume : VolumeView
  pub there : slice_get old.volumes at ≡ Some volume
  pub name_is : volume.name ≡ name
  pub purges : Purges at volume result old new
  pub below : StillLastsBelow volume.first name device.shelf device'.shelf
  pub cuts : IsHonest device → OnOk result (CutsAt volume.first name device.shelf device'.shelf)

-- what a purge leaves of the pieces given: if it emptied the volume, by its answer, its blocks are gone
abbrev pub KeepsPurging : {T : Type 0} → Result T Refusal → (name : List ℕ) → (old new : Meaning)
    → List Entry → Option Piece → Type 0
KeepsPurging (Ok done) name old new journal hand = KeepsPieces old new (purged name journal) (purged name journal) hand hand
KeepsPurging (Err refusal.DeviceFault) name old new journal hand =
    KeepsPieces old new (purged name journal) (purged name journal) hand hand
KeepsPurging (Err fault) name old new journal hand = KeepsPieces old new journal journal hand hand
