-- What a turn of a worker does.
use Rattle.std.specs.Prelude.{◌≡◌, ◌≤◌, ℕ, Bool, true, false, [], ◌∷◌, ◌++◌, Option, None, Some, Result, Ok, Err, OnErr}
use Rattle.sd_base.specs.declared.refusal.Refusal.{Refusal}
use Rattle.sd_base.specs.declared.refusal.Refusal.TheVariants.{DeviceFault}
use Rattle.sd_driver.specs.Meaning.{Meaning, Unchanged}
use Rattle.sd_drive.specs.Moves.{Places, LimitAllows, Syncs, FailsToSync, awaits_sync}
use Rattle.sd_drive.specs.View.{DriveIs}
use Rattle.sd_drive.specs.declared.place.Placed.{Placed}
use Rattle.sd_drive.specs.declared.place.Placed.TheVariants.{At, NeedVolume, VolumeFull, VolumeError, Idle}
use Rattle.sd_lane.specs.declared.piece.Piece.{Piece}
use Rattle.sd_lane.specs.Queue.{queued}
use Rattle.sd_line.specs.declared.turning.Turned.{Turned}
use Rattle.sd_line.specs.Side.{SideIs}
use Rattle.sd_ruled.specs.Seats.{DriveSeatIs, WasEmpty}
use Rattle.sd_world.specs.Stations.{Calls}

-- A take of a turn. If one was made, the hand was empty; a piece of one of the lanes came into
-- it, and the seat took it. Else both are as they were; and if the hand was empty, so was the
-- queue at a moment of the call.
abbrev pub Takes : {D : Type 0} → Bool → DriveIs D → DriveSeatIs → DriveIs D → DriveSeatIs → Type 0
Takes true old seat new seat' = (old.hand ≡ None) × (lane : ℕ) × (1 ≤ lane) × (lane ≤ seat.lanes) × (piece : Piece)
    × (new ≡ record old { hand = Some piece }) × (seat' ≡ record seat { taken = seat.taken ++ queued lane piece ∷ [] })
Takes false old seat new seat' = (new ≡ old) × (seat' ≡ seat) × (old.hand ≡ None → WasEmpty seat.before seat.taken)

-- The place of a turn: what became of the drive by its answer, and what every call leaves of the
-- device; without memory the device is as it was.
pub record PlacesBy {D E : Type 0} (meaning : D → Meaning) (result : Result Placed E) (old new : DriveIs D) : Type 0 where
  pub places : Places result old new
  pub calls : Calls meaning (result ≡ Ok VolumeError) ((result ≡ Ok VolumeFull) × LimitAllows old) old new
  pub unchanged : OnErr result (Unchanged (meaning old.device) (meaning new.device))

-- a sync is due exactly if there was nothing to place, or no volume for it
abbrev pub is_sync_due : {E : Type 0} → Result Placed E → Bool
is_sync_due (Ok (At p)) = false
is_sync_due (Ok NeedVolume) = true
is_sync_due (Ok VolumeFull) = false
is_sync_due (Ok VolumeError) = false
is_sync_due (Ok Idle) = true
is_sync_due (Err error) = false

-- The sync of a turn, which is there exactly if it was due. The loaded volume is synced, with no
-- call of the device if no block awaited that; or the sync failed, and the blocks that awaited
-- it are lost.
abbrev pub SyncsBy : {D T : Type 0} → (D → Meaning) → Bool → Option (Result T Refusal) → DriveIs D → DriveIs D → Type 0
SyncsBy meaning due None old new = (due ≡ false) × (new ≡ old)
SyncsBy meaning due (Some (Ok done)) old new =
    (due ≡ true) × Syncs old new × (awaits_sync old ≡ false → new ≡ old) × Calls meaning ⊥ ⊥ old new
SyncsBy meaning due (Some (Err why)) old new =
    (due ≡ true) × (why ≡ DeviceFault) × FailsToSync old new × Calls meaning (Unit {0}) ⊥ old new

-- a turn: a take, then a place, then a sync if that is due
pub record Turns {D : Type 0} (meaning : D → Meaning) (did : Turned) (old new : SideIs D) : Type 0 where
  pub held : DriveIs D
  pub after : DriveIs D
  pub no_is : new.no ≡ old.no
  pub takes : Takes did.took old.drive old.seat held new.seat
  pub places : PlacesBy meaning did.place held after
  pub syncs : SyncsBy meaning (is_sync_due did.place) did.sync after new.drive

-- what a turn may have come to: some side can make it
abbrev pub MayTurn : {D : Type 0} → (D → Meaning) → Turned → Type 0
MayTurn {D} meaning did = (old : SideIs D) × (new : SideIs D) × Turns meaning did old new
