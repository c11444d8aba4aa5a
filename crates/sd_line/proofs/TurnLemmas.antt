-- What the parts of a turn leave of the drive and of its device.
use Rattle.std.proofs.Common.{◌≡◌, ℕ, ◌≤◌, Bool, true, false, None, Some, Option, Result, Ok, Err, List, refl, sym, ap, subst, ◌∙◌, arith, inl}
use Rattle.sd_base.specs.declared.number.SessionKey.{SessionKey}
use Rattle.sd_base.specs.declared.refusal.Refusal.{Refusal}
use Rattle.sd_driver.specs.Meaning.{Meaning}
use Rattle.sd_driver.specs.Shelf.{StillLasts}
use Rattle.sd_drive.specs.Moves.{Places, PlacesPiece}
use Rattle.sd_drive.specs.Shelf.{KeepsPieces}
use Rattle.sd_drive.specs.View.{DriveIs, items}
use Rattle.sd_drive.specs.declared.place.Placed.{Placed}
use Rattle.sd_drive.specs.declared.place.Placed.TheVariants.{At, NeedVolume, VolumeFull, VolumeError, Idle}
use Rattle.sd_journal.specs.Journal.{has_purged}
use Rattle.sd_line.specs.Side.{SideIs}
use Rattle.sd_line.specs.Turns.{Takes, SyncsBy, Turns}
use Rattle.sd_line.specs.declared.turning.Turned.{Turned}
use Rattle.sd_ruled.specs.Seats.{DriveSeatIs}
use Rattle.sd_world.proofs.DriveSteps.{syncs, fails_to_sync, places}
use Rattle.sd_world.proofs.GrowLemmas.{device_goes_on}
use Rattle.sd_world.proofs.Seats.{GoneStays}
use Rattle.sd_world.specs.Devices.{GoesOn}
use Rattle.sd_world.specs.Stations.{Calls}

-- Limits.

piece_limits : {D E : Type 0} (result : Result Placed E) (old new : DriveIs D) → PlacesPiece result old new → new.limits ≡ old.limits
piece_limits {D} result old new h = ap (λ (d : DriveIs D). d.limits) h.becomes

pub places_limits : {D E : Type 0} (result : Result Placed E) (old new : DriveIs D) → Places result old new → new.limits ≡ old.limits
places_limits (Ok (At p)) old new h = piece_limits _ old new h
places_limits {D} (Ok NeedVolume) old new h = ap (λ (d : DriveIs D). d.limits) h.2
places_limits (Ok VolumeFull) old new h = piece_limits _ old new h
places_limits (Ok VolumeError) old new h = piece_limits _ old new h
places_limits {D} (Ok Idle) old new h = ap (λ (d : DriveIs D). d.limits) h.1
places_limits (Err error) old new h = piece_limits _ old new h

-- no block is gone by a place
pub places_gone : {D E : Type 0} (result : Result Placed E) (old new : DriveIs D) → Places result old new
    → items new.journal new.hand ≡ items old.journal old.hand → (key : SessionKey) → GoneStays key old new
places_gone (Ok (At p)) old new h kept key = (places _ old new h kept).gone key
places_gone {D} (Ok NeedVolume) old new h kept key = λ none. ap (λ (d : DriveIs D). has_purged key d.journal) h.2 ∙ none
places_gone (Ok VolumeFull) old new h kept key = (places _ old new h kept).gone key
places_gone (Ok VolumeError) old new h kept key = (places _ old new h kept).gone key
places_gone {D} (Ok Idle) old new h kept key = λ none. ap (λ (d : DriveIs D). has_purged key d.journal) h.1 ∙ none
places_gone (Err error) old new h kept key = (places _ old new h kept).gone key

-- What a sync leaves.

-- the pieces given so far, and the limits; no block is gone by it
pub record Stays {D : Type 0} (meaning : D → Meaning) (old new : DriveIs D) : Type 0 where
  pub limits : new.limits ≡ old.limits
  pub gone : (key : SessionKey) → GoneStays key old new
  pub keeps : KeepsPieces (meaning old.device) (meaning new.device) old.journal new.journal old.hand new.hand

pub rests : {D : Type 0} (meaning : D → Meaning) (d : DriveIs D) → Stays meaning d d
rests meaning d = record { limits = refl; gone = λ key none. none; keeps = record { honest = refl; items = refl; blocks = λ honest. refl } }

pub syncs_stay : {D T : Type 0} (meaning : D → Meaning) (due : Bool) (result : Option (Result T Refusal)) (old new : DriveIs D)
    → SyncsBy meaning due result old new → Stays meaning old new
syncs_stay meaning due None old new h = subst (Stays meaning old) (sym h.1) (rests meaning old)
syncs_stay {D} meaning due (Some (Ok done)) old new h = record { limits = ap (λ (d : DriveIs D). d.limits) h.1; gone = (syncs old new h.1).gone; keeps = h.3.keeps }
syncs_stay {D} meaning due (Some (Err why)) old new h = record { limits = ap (λ (d : DriveIs D). d.limits) h.2.becomes; gone = (fails_to_sync old new h.2).gone; keeps = h.3.keeps }

-- The device.

-- it is as honest as it was, its moment doesn't fall, and what lasted lasts
pub record LastsOn (old new : Meaning) : Type 0 where
  pub honest : new.honest ≡ old.honest
  pub moment : old.shelf.moment ≤ new.shelf.moment
  pub lasts : StillLasts old.shelf new.shelf

same_lasts : (m : Meaning) → LastsOn m m
same_lasts m = record { honest = refl; moment = omega arith; lasts = λ since name bytes lasts. lasts }

both_last : (a b c : Meaning) → LastsOn a b → LastsOn b c → LastsOn a c
both_last a b c first then = record {
  honest = then.honest ∙ first.honest;
  moment = omega (arith, first.moment, then.moment);
  lasts = λ since name bytes lasts. then.lasts since name bytes (first.lasts since name bytes lasts);
}

call_lasts : {D : Type 0} (meaning : D → Meaning) (fault no_room : Type 0) (d after : DriveIs D) → Calls meaning fault no_room d after
    → LastsOn (meaning d.device) (meaning after.device)
call_lasts meaning fault no_room d after c = record { honest = c.counted.honest; moment = c.counted.moment; lasts = c.later }

device_lasts : {D : Type 0} (meaning : D → Meaning) (d after : DriveIs D) → after.device ≡ d.device → LastsOn (meaning d.device) (meaning after.device)
device_lasts {D} meaning d after same = subst (λ (x : D). LastsOn (meaning d.device) (meaning x)) (sym same) (same_lasts (meaning d.device))

take_device : {D : Type 0} (done : Bool) (old held : DriveIs D) (seat seat' : DriveSeatIs) → Takes done old seat held seat' → held.device ≡ old.device
take_device {D} true old held seat seat' (none, lane, least, most, piece, is, is') = ap (λ (d : DriveIs D). d.device) is
take_device {D} false old held seat seat' (is, is', empty) = ap (λ (d : DriveIs D). d.device) is

sync_lasts : {D T : Type 0} (meaning : D → Meaning) (due : Bool) (result : Option (Result T Refusal)) (old new : DriveIs D)
    → SyncsBy meaning due result old new → LastsOn (meaning old.device) (meaning new.device)
sync_lasts {D} meaning due None old new h = device_lasts meaning old new (ap (λ (d : DriveIs D). d.device) h.1)
sync_lasts meaning due (Some (Ok done)) old new h = call_lasts meaning _ _ old new h.3
sync_lasts meaning due (Some (Err why)) old new h = call_lasts meaning _ _ old new h.3

-- through a turn
pub turn_lasts : {D : Type 0} (meaning : D → Meaning) (did : Turned) (old new : SideIs D) → Turns meaning did old new
    → LastsOn (meaning old.drive.device) (meaning new.drive.device)
turn_lasts meaning did old new t =
    both_last _ _ _ (device_lasts meaning old.drive t.held (take_device did.took old.drive t.held old.seat new.seat t.takes))
    (both_last _ _ _ (call_lasts meaning _ _ t.held t.after t.places.calls) (sync_lasts meaning _ did.sync t.after new.drive t.syncs))

-- what lasts goes on
pub lasts_on : (keeps : List ℕ → Type 0) (old new : Meaning) → LastsOn old new → GoesOn keeps old new
lasts_on keeps old new l = device_goes_on keeps old new (record { honest = l.honest; moment = l.moment; lasts = inl l.lasts })
