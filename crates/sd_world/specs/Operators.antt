-- What an event of the operator, or of a drive that seeks a volume, does where the drive is.
use Rattle.std.specs.Prelude.{◌≡◌, ◌≢◌, ◌⊎◌, ℕ, ℤ, ◌==◌, not, filter, Some, None, IsSome, List, [], ◌∷◌, ◌++◌}
use Rattle.std.specs.Option.{option_map}
use Rattle.sd_base.specs.Choice.{FirstOf, NoneOf}
use Rattle.sd_base.specs.declared.refusal.Refusal.{Refusal}
use Rattle.sd_base.specs.declared.refusal.Refusal.TheVariants.{OtherPoolOrMedia, InUse, AlreadyLabelled, VolumeNotOnShelf, NoRoom, DeviceFault, Memory}
use Rattle.sd_desk.specs.Desk.{DeskView, claim_of, claimed_by, new_claim, purged_claim, SameClaims, OtherClaimsStay, HasNotAsked}
use Rattle.sd_desk.specs.Next.{TakesBlocksOf}
use Rattle.sd_desk.specs.declared.request.Request.{Request}
use Rattle.sd_drive.specs.Moves.{TakesBlocks, Unmounts, RefusesLoad, AddsVolume, AddsNone, AdoptsVolume, label_of, mount_due, synced_journal, index_of}
use Rattle.sd_drive.specs.Shelf.{KeepsPieces}
use Rattle.sd_drive.specs.View.{DriveIs}
use Rattle.sd_driver.specs.Meaning.{Meaning, IsHonest}
use Rattle.sd_driver.specs.Shelf.{MayCreate, SameShelf, StillLasts, StillLastsBelow}
use Rattle.sd_volume.specs.Adopt.{IsDue, KeepsWholeBlocks}
use Rattle.sd_volume.specs.Device.{Counted}
use Rattle.sd_volume.specs.Fault.{label_refusal, adopt_refusal}
use Rattle.sd_volume.specs.Label.{Labels, new_volume}
use Rattle.sd_volume.specs.declared.fault.AdoptFault.{AdoptFault}
use Rattle.sd_volume.specs.declared.fault.LabelFault.{LabelFault}
use Rattle.sd_world.specs.Stations.{Station, Outcome, stays, Calls, CallsDrive, LosesBlocks}

-- The desk.

-- the desk knows what it knew
pub record SameDesk (old new : DeskView) : Type 0 where
  pub claims : SameClaims old new
  pub requests : new.requests ≡ old.requests

-- the name is claimed for the drive, which it was for none
pub record ClaimsName (name : List ℕ) (drive : ℕ) (old new : DeskView) : Type 0 where
  pub unclaimed : claimed_by old name ≡ None
  pub claimed : claim_of new name ≡ Some (new_claim drive)
  pub others : OtherClaimsStay name old new
  pub requests : new.requests ≡ old.requests

-- the drive's request is taken away, if it has one
pub record AnswersDrive (drive : ℕ) (old new : DeskView) : Type 0 where
  pub claims : SameClaims old new
  pub requests : new.requests ≡ filter (λ (r : Request). not (r.drive == drive)) old.requests

-- the drive's request is noted, unless it has one
pub record AsksOnce (request : Request) (old new : DeskView) : Type 0 where
  pub claims : SameClaims old new
  pub first : HasNotAsked request.drive old.requests → new.requests ≡ old.requests ++ request ∷ []
  pub again : (HasNotAsked request.drive old.requests → ⊥) → new.requests ≡ old.requests

-- it is noted of the name that its volume was purged, if the name is claimed
pub record NotesPurge (name : List ℕ) (old new : DeskView) : Type 0 where
  pub noted : claim_of new name ≡ option_map purged_claim (claim_of old name)
  pub others : OtherClaimsStay name old new
  pub requests : new.requests ≡ old.requests

-- only the desk is another, which knows what it knew
abbrev pub StaysKnowing : {D : Type 0} → Station D → Outcome D → Type 0
StaysKnowing s o = SameDesk s.desk o.desk × (o ≡ record (stays s) { desk = o.desk })

-- Labels.

-- a new volume comes to the drive, and its name is claimed for it
pub record LabelsVolume {D : Type 0} (meaning : D → Meaning) (own : ℕ) (name pool media : List ℕ) (moment : ℤ) (s : Station D) (o : Outcome D) : Type 0 where
  pub media_is : media ≡ s.drive.media
  pub none_loaded : s.drive.loaded ≡ None
  pub claims : ClaimsName name own s.desk o.desk
  pub adds : AddsVolume (new_volume (label_of s.drive.limits.host name pool media moment)) s.drive o.drive
  pub calls : Calls meaning ⊥ ⊥ s.drive o.drive
  pub labels : IsHonest (meaning s.drive.device)
      → Labels (label_of s.drive.limits.host name pool media moment) (meaning s.drive.device).shelf (meaning o.drive.device).shelf
  pub is : o ≡ record (stays s) { drive = o.drive; desk = o.desk }

-- A new volume isn't labelled: by what the device answered, or because it was out of memory. The name is in no table.
pub record LabelFails {D : Type 0} (meaning : D → Meaning) (name media : List ℕ) (why : Refusal) (s : Station D) (o : Outcome D) : Type 0 where
  pub media_is : media ≡ s.drive.media
  pub none_loaded : s.drive.loaded ≡ None
  pub unclaimed : claimed_by s.desk name ≡ None
  pub knows : SameDesk s.desk o.desk
  pub cause : LabelFault
  pub why_is : why ≡ label_refusal cause
  pub adds_none : AddsNone s.drive o.drive
  pub calls : Calls meaning (why ≡ DeviceFault) (why ≡ NoRoom) s.drive o.drive
  pub on_shelf : IsHonest (meaning s.drive.device) → why ≡ AlreadyLabelled → IsSome ((meaning s.drive.device).shelf.volume name)
  pub off_shelf : IsHonest (meaning s.drive.device) → IsSome ((meaning s.drive.device).shelf.volume name) → why ≢ NoRoom
  pub may_create : IsHonest (meaning s.drive.device) → MayCreate name (meaning s.drive.device).shelf (meaning o.drive.device).shelf
  pub is : o ≡ record (stays s) { drive = o.drive; desk = o.desk }

-- Why no volume is labelled, in order: other media; a volume is loaded; the name is claimed; the device's answer, or memory.
abbrev pub LabelRefused : {D : Type 0} → (D → Meaning) → List ℕ → List ℕ → Refusal → Station D → Outcome D → Type 0
LabelRefused meaning name media why s o =
    ((media ≢ s.drive.media) × (why ≡ OtherPoolOrMedia) × (o ≡ stays s))
    ⊎ ((media ≡ s.drive.media) × (s.drive.loaded ≢ None) × (why ≡ InUse) × (o ≡ stays s))
    ⊎ ((media ≡ s.drive.media) × (s.drive.loaded ≡ None) × (claimed_by s.desk name ≢ None) × (why ≡ AlreadyLabelled) × (o ≡ stays s))
    ⊎ ((media ≡ s.drive.media) × (s.drive.loaded ≡ None) × (claimed_by s.desk name ≡ None) × (why ≡ Memory) × StaysKnowing s o)
    ⊎ LabelFails meaning name media why s o

-- Adoptions.

-- what an adoption leaves of the device: as every call does, but that bytes after the volume's whole blocks may be cut
pub record CallsAdopting {D : Type 0} (meaning : D → Meaning) (fault : Type 0) (name : List ℕ) (old new : DriveIs D) : Type 0 where
  pub counted : Counted fault ⊥ (meaning old.device) (meaning new.device)
  pub keeps : KeepsPieces (meaning old.device) (meaning new.device) old.journal new.journal old.hand new.hand
  pub others : StillLastsBelow 0 name (meaning old.device).shelf (meaning new.device).shelf
  pub whole_blocks : IsHonest (meaning old.device) → KeepsWholeBlocks name (meaning old.device).shelf (meaning new.device).shelf

-- a volume that an earlier run left comes to the drive, and its name is claimed for it
pub record AdoptsAt {D : Type 0} (meaning : D → Meaning) (own : ℕ) (name : List ℕ) (end next : ℕ) (s : Station D) (o : Outcome D) : Type 0 where
  pub none_loaded : s.drive.loaded ≡ None
  pub claims : ClaimsName name own s.desk o.desk
  pub adopts : AdoptsVolume name (record { end = end; next_number = next }) (meaning s.drive.device) (meaning o.drive.device) s.drive o.drive
  pub calls : CallsAdopting meaning ⊥ name s.drive o.drive
  pub is : o ≡ record (stays s) { drive = o.drive; desk = o.desk }

-- A volume isn't adopted: by what the device answered, by what is on it, or because it was out of memory. The name is
-- in no table.
pub record AdoptFails {D : Type 0} (meaning : D → Meaning) (name : List ℕ) (why : Refusal) (s : Station D) (o : Outcome D) : Type 0 where
  pub none_loaded : s.drive.loaded ≡ None
  pub unclaimed : claimed_by s.desk name ≡ None
  pub knows : SameDesk s.desk o.desk
  pub cause : AdoptFault
  pub why_is : why ≡ adopt_refusal cause
  pub adds_none : AddsNone s.drive o.drive
  pub calls : CallsAdopting meaning (why ≡ DeviceFault) name s.drive o.drive
  pub due : IsHonest (meaning s.drive.device) → why ≢ DeviceFault → why ≢ Memory
      → (first : AdoptFault) × (why ≡ adopt_refusal first) × IsDue first name s.drive.media s.drive.limits.time (meaning s.drive.device).shelf
  pub same : IsHonest (meaning s.drive.device) → why ≢ DeviceFault → SameShelf (meaning s.drive.device).shelf (meaning o.drive.device).shelf
  pub lasts : why ≢ DeviceFault → StillLasts (meaning s.drive.device).shelf (meaning o.drive.device).shelf
  pub is : o ≡ record (stays s) { drive = o.drive; desk = o.desk }

-- Why no volume is adopted, in order: the name is claimed; a volume is loaded; what is on it, the device's answer, or memory.
abbrev pub AdoptRefused : {D : Type 0} → (D → Meaning) → List ℕ → Refusal → Station D → Outcome D → Type 0
AdoptRefused meaning name why s o =
    ((claimed_by s.desk name ≢ None) × (why ≡ AlreadyLabelled) × (o ≡ stays s))
    ⊎ ((claimed_by s.desk name ≡ None) × (s.drive.loaded ≢ None) × (why ≡ InUse) × (o ≡ stays s))
    ⊎ ((claimed_by s.desk name ≡ None) × (s.drive.loaded ≡ None) × (why ≡ Memory) × StaysKnowing s o)
    ⊎ AdoptFails meaning name why s o

-- Mounts.

-- the drive's volume of a name is loaded, in place of the one that was, and the drive's request is taken away
pub record MountsAt {D : Type 0} (meaning : D → Meaning) (own : ℕ) (name : List ℕ) (s : Station D) (o : Outcome D) : Type 0 where
  pub place : ℕ
  pub due : mount_due s.drive name ≡ None
  pub place_is : index_of s.drive.volumes name ≡ Some place
  pub mounts : o.drive ≡ record s.drive { device = o.drive.device; loaded = Some place; journal = synced_journal s.drive }
  pub calls : Calls meaning ⊥ ⊥ s.drive o.drive
  pub answers : AnswersDrive own s.desk o.desk
  pub is : o ≡ record (stays s) { drive = o.drive; desk = o.desk }

-- a mount not refused at once fails: in the sync of the loaded volume; or after it, with none loaded, in the other's load
abbrev pub MountFails : {D : Type 0} → (D → Meaning) → List ℕ → Refusal → Station D → Outcome D → Type 0
MountFails meaning name why s o =
    ((mount_due s.drive name ≡ None) × (why ≡ DeviceFault) × LosesBlocks meaning s o)
    ⊎ ((mount_due s.drive name ≡ None) × RefusesLoad why × (IsHonest (meaning s.drive.device) → why ≢ VolumeNotOnShelf)
    × CallsDrive meaning (why ≡ DeviceFault) ⊥ Unmounts s o)

-- why a volume isn't mounted: by the drive's own order of refusals, or the mount fails
abbrev pub MountRefused : {D : Type 0} → (D → Meaning) → List ℕ → Refusal → Station D → Outcome D → Type 0
MountRefused meaning name why s o = ((mount_due s.drive name ≡ Some why) × (o ≡ stays s)) ⊎ MountFails meaning name why s o

-- Seeking.

-- the first of the drive's volumes that takes blocks of its pool has this name, and isn't the loaded one
abbrev pub NextIs : {D : Type 0} → List ℕ → DriveIs D → Type 0
NextIs name d = (TakesBlocks d → ⊥) × (pool : List ℕ) × (d.pool ≡ Some pool)
    × (place : ℕ) × (first : FirstOf (TakesBlocksOf pool) (λ _ _. ⊥) d.volumes place) × (name ≡ first.first.name)

-- the drive needs a volume of this pool, and has none
abbrev pub HasNoNext : {D : Type 0} → List ℕ → DriveIs D → Type 0
HasNoNext pool d = (TakesBlocks d → ⊥) × (d.pool ≡ Some pool) × NoneOf (TakesBlocksOf pool) d.volumes

-- the drive asks for a volume of its pool
pub record AsksFor {D : Type 0} (own : ℕ) (s : Station D) (o : Outcome D) : Type 0 where
  pub pool : List ℕ
  pub none : HasNoNext pool s.drive
  pub asks : AsksOnce (record { drive = own; pool = pool; media = s.drive.media }) s.desk o.desk
  pub is : o ≡ record (stays s) { desk = o.desk }

-- why a drive finds no volume: it is out of memory for its request, if it has none yet; or the mount of the next one
-- fails
abbrev pub SeekRefused : {D : Type 0} → (D → Meaning) → ℕ → Refusal → Station D → Outcome D → Type 0
SeekRefused meaning own why s o =
    (((pool : List ℕ) × HasNoNext pool s.drive) × HasNotAsked own s.desk.requests × (why ≡ Memory) × StaysKnowing s o)
    ⊎ ((name : List ℕ) × NextIs name s.drive × MountFails meaning name why s o)
