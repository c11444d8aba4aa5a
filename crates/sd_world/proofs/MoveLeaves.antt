-- What every move leaves of a world: its limits; what is claimed, and noted as purged; and its drives, of which one goes on, is
-- retired, or has a volume purged.
use Rattle.std.proofs.Common.{◌≡◌, ◌⊎◌, ℕ, ◌≤◌, refl, sym, ap, subst, ◌∙◌, inl, inr, arith, Some, None, List, [], slice_set, append-nil}
use Rattle.sd_base.specs.declared.refusal.Refusal.TheVariants.{DeviceFault}
use Rattle.sd_desk.specs.Desk.{DeskView, SameClaims}
use Rattle.sd_driver.specs.Meaning.{Meaning}
use Rattle.sd_driver.specs.Shelf.{StillLastsBelow}
use Rattle.sd_drive.specs.View.{DriveIs}
use Rattle.sd_journal.specs.Journal.{placements, with_key}
use Rattle.sd_machine.specs.declared.event.Event.{Event}
use Rattle.sd_machine.specs.declared.event.Event.TheVariants.{Purge}
use Rattle.sd_machine.specs.declared.reply.Reply.{Reply}
use Rattle.sd_machine.specs.declared.reply.Reply.TheVariants.{Refused, Retired, Purged}
use Rattle.sd_world.specs.Drives.{RetiresDrive}
use Rattle.sd_world.specs.Kept.{PurgesName, PurgedLast}
use Rattle.sd_world.specs.Moves.{Moves}
use Rattle.sd_world.specs.Sessions.{next_key}
use Rattle.sd_world.specs.World.{WorldView, BayView, IsOnline}
use Rattle.sd_world.proofs.DriveMoves.{ClaimsStay, PurgedStay, same_claims, same_purged, name_claimed, name_purged, noted_claims, noted_purged}
use Rattle.sd_world.proofs.DriveSteps.{fails_to_sync}
use Rattle.sd_world.proofs.PurgeSteps.{PurgesIn, drive_purges}
use Rattle.sd_world.proofs.Seats.{JournalGrows}
use Rattle.sd_world.proofs.Shapes as shape
use Rattle.sd_world.proofs.Shapes.{Shape, shape_of}
use Rattle.sd_world.proofs.StationShapes.{DeviceStays, called}

-- the drive's journal grows, and its device goes on
pub record Continues {D : Type 0} (meaning : D → Meaning) (d after : DriveIs D) : Type 0 where
  pub grows : JournalGrows d after
  pub device : DeviceStays (meaning d.device) (meaning after.device)

-- one bay changes, whose drive goes on
pub record OneContinues {D : Type 0} (meaning : D → Meaning) (w w' : WorldView D) : Type 0 where
  pub drive : ℕ
  pub at : ℕ
  pub bay : BayView D
  pub bay' : BayView D
  pub d : DriveIs D
  pub after : DriveIs D
  pub online : IsOnline w drive at bay d
  pub bays_are : w'.bays ≡ slice_set w.bays at bay'
  pub now : bay'.drive ≡ Some after
  pub continues : Continues meaning d after

-- one bay changes, whose drive is retired
pub record OneRetires {D : Type 0} (w w' : WorldView D) : Type 0 where
  pub drive : ℕ
  pub at : ℕ
  pub bay : BayView D
  pub bay' : BayView D
  pub d : DriveIs D
  pub online : IsOnline w drive at bay d
  pub bays_are : w'.bays ≡ slice_set w.bays at bay'
  pub now : bay'.drive ≡ None

-- one bay changes, a volume of whose drive the event purged
pub record OnePurges {D : Type 0} (meaning : D → Meaning) (w w' : WorldView D) (event : Event) (reply : Reply) : Type 0 where
  pub drive : ℕ
  pub at : ℕ
  pub bay : BayView D
  pub bay' : BayView D
  pub d : DriveIs D
  pub after : DriveIs D
  pub online : IsOnline w drive at bay d
  pub bays_are : w'.bays ≡ slice_set w.bays at bay'
  pub now : bay'.drive ≡ Some after
  pub grows : JournalGrows d after
  pub honest : (meaning after.device).honest ≡ (meaning d.device).honest
  pub moment : (meaning d.device).shelf.moment ≤ (meaning after.device).shelf.moment
  pub name : List ℕ
  pub of_event : PurgesName event reply name
  pub first : ℕ
  pub below : StillLastsBelow first name (meaning d.device).shelf (meaning after.device).shelf

-- no bay changes, or one
abbrev pub LeavesBays : {D : Type 0} → (D → Meaning) → WorldView D → Event → Reply → WorldView D → Type 0
LeavesBays meaning w event reply w' =
    (w'.bays ≡ w.bays) ⊎ OneContinues meaning w w' ⊎ (OneRetires w w' × (reply ≡ Retired)) ⊎ OnePurges meaning w w' event reply

pub record LeavesWorld {D : Type 0} (meaning : D → Meaning) (w : WorldView D) (event : Event) (reply : Reply) (w' : WorldView D) : Type 0 where
  pub limits : w'.limits ≡ w.limits
  pub claims : ClaimsStay w.desk w'.desk
  pub purged : PurgedLast w event reply w'
  pub bays : LeavesBays meaning w event reply w'

-- Drives.

-- the drive has its device and its journal
pub untouched : {D : Type 0} (meaning : D → Meaning) (d after : DriveIs D) → after.device ≡ d.device → after.journal ≡ d.journal → Continues meaning d after
untouched meaning d after device journal = record {
  grows = ([], ap placements journal ∙ sym (append-nil (placements d.journal)));
  device = subst (λ x. DeviceStays (meaning d.device) (meaning x)) (sym device)
      (record { honest = refl; moment = omega arith; lasts = inl (λ since name bytes lasts. lasts) });
}

-- Desks.

-- claims stay, and no volume is noted as purged
abbrev DeskKeeps : DeskView → DeskView → Type 0
DeskKeeps old new = ClaimsStay old new × PurgedStay old new

keeps_same : (desk : DeskView) → DeskKeeps desk desk
keeps_same desk = (λ name drive claimed. claimed, λ name purged. purged)

keeps_claims : (old new : DeskView) → SameClaims old new → DeskKeeps old new
keeps_claims old new same = (same_claims old new same, same_purged old new same)

-- Worlds.

module _ {D : Type 0} (meaning : D → Meaning) (w w' : WorldView D) (event : Event) (reply : Reply) where
  -- no bay changes
  no_bay : (v : WorldView D) → w' ≡ v → v.limits ≡ w.limits → DeskKeeps w.desk v.desk → v.bays ≡ w.bays → LeavesWorld meaning w event reply w'
  no_bay v is limits desk bays =
      subst (LeavesWorld meaning w event reply) (sym is) (record { limits = limits; claims = desk.0; purged = λ name other. desk.1 name; bays = inl bays })

  -- one does, whose drive goes on
  one_bay : (v : WorldView D) (drive at : ℕ) (bay bay' : BayView D) (d after : DriveIs D)
      → w' ≡ v → v.limits ≡ w.limits → DeskKeeps w.desk v.desk → v.bays ≡ slice_set w.bays at bay' → IsOnline w drive at bay d → bay'.drive ≡ Some after → Continues meaning d after
      → LeavesWorld meaning w event reply w'
  one_bay v drive at bay bay' d after is limits desk bays online now continues =
      subst (LeavesWorld meaning w event reply) (sym is) (record {
        limits = limits;
        claims = desk.0;
        purged = λ name other. desk.1 name;
        bays = inr (inl (record { drive = drive; at = at; bay = bay; bay' = bay'; d = d; after = after; online = online; bays_are = bays; now = now; continues = continues }));
      })

  -- a drive is retired
  one_retires : (drive : ℕ) → reply ≡ Retired → RetiresDrive w drive w' → LeavesWorld meaning w event reply w'
  one_retires drive retired m =
      subst (LeavesWorld meaning w event reply) (sym m.new_is) (record {
        limits = refl;
        claims = λ name number claimed. claimed;
        purged = λ name other purged. purged;
        bays = inr (inr (inl (
          record { drive = drive; at = m.at; bay = m.bay; bay' = record m.bay { drive = None }; d = m.d; online = m.online; bays_are = refl; now = refl },
          retired,
        )));
      })

  -- a volume is purged
  one_purges : (drive : ℕ) (name : List ℕ) → PurgesName event reply name → PurgesIn meaning w drive name w' → LeavesWorld meaning w event reply w'
  one_purges drive name own m =
      subst (LeavesWorld meaning w event reply) (sym m.new_is) (record {
        limits = refl;
        claims = noted_claims name w.desk m.desk m.notes;
        purged = λ other apart. noted_purged name w.desk m.desk m.notes other (λ same. apart (subst (PurgesName event reply) (sym same) own));
        bays = inr (inr (inr (record {
          drive = drive;
          at = m.at;
          bay = m.bay;
          bay' = record m.bay { drive = Some m.after };
          d = m.d;
          after = m.after;
          online = m.online;
          bays_are = refl;
          now = refl;
          grows = (drive_purges m).stays.grows;
          honest = m.honest;
          moment = m.moment;
          name = name;
          of_event = own;
          first = m.volume.first;
          below = m.below;
        })));
      })

-- the event purged the name
purges_name : (event : Event) (reply : Reply) (drive : ℕ) (name : List ℕ) → event ≡ Purge drive name → (reply ≡ Purged) ⊎ (reply ≡ Refused DeviceFault) → PurgesName event reply name
purges_name event reply drive name own (inl is) = subst (λ e. PurgesName e reply name) (sym own) (subst (λ r. PurgesName (Purge drive name) r name) (sym is) refl)
purges_name event reply drive name own (inr is) = subst (λ e. PurgesName e reply name) (sym own) (subst (λ r. PurgesName (Purge drive name) r name) (sym is) refl)

shape_leaves : {D : Type 0} (meaning : D → Meaning) (w w' : WorldView D) (event : Event) (reply : Reply) → Shape meaning w event reply w' → LeavesWorld meaning w event reply w'
shape_leaves meaning w w' event reply (shape.stays same) = no_bay meaning w w' event reply w same refl (keeps_same w.desk) refl
shape_leaves meaning w w' event reply (shape.changes m) = no_bay meaning w w' event reply _ m.new_is refl (keeps_same w.desk) refl
shape_leaves meaning w w' event reply (shape.closes ticket key spans reply_is m) = no_bay meaning w w' event reply _ m.new_is refl (keeps_same w.desk) refl
shape_leaves meaning w w' event reply (shape.sends ticket reply_is m) =
    one_bay meaning w w' event reply _ m.e.drive m.at m.bay _ m.d m.d m.new_is refl (keeps_same w.desk) refl m.online m.online.online (untouched meaning m.d m.d refl refl)
shape_leaves {D} meaning w w' event reply (shape.opens job pool media moment ticket drive reply_is m) =
    let after : DriveIs D = record m.d { pool = Some pool; ready = with_key (next_key w) m.d.ready } in
    one_bay meaning w w' event reply _ drive m.at m.bay _ m.d after m.new_is refl (keeps_same w.desk) refl m.reserves.online refl (untouched meaning m.d after refl refl)
shape_leaves {D} meaning w w' event reply (shape.opens_not pool media why m) =
    let after : DriveIs D = record m.d { ready = with_key (next_key w) m.d.ready } in
    one_bay meaning w w' event reply _ m.drive m.at m.bay _ m.d after m.new_is refl (keeps_same w.desk) refl m.reserves.online refl (untouched meaning m.d after refl refl)
shape_leaves {D} meaning w w' event reply (shape.takes drive ticket seq m) =
    let after : DriveIs D = record m.d { hand = Some m.piece } in
    one_bay meaning w w' event reply _ drive m.at m.bay _ m.d after m.new_is refl (keeps_same w.desk) refl m.online refl (untouched meaning m.d after refl refl)
shape_leaves meaning w w' event reply (shape.calls m) =
    one_bay meaning w w' event reply _ m.drive m.at m.bay _ m.d m.after m.new_is refl (keeps_claims w.desk m.desk m.claims) refl m.online refl
    (record { grows = m.goes.stays.grows; device = m.device })
shape_leaves meaning w w' event reply (shape.gets m) =
    one_bay meaning w w' event reply _ m.drive m.at m.bay _ m.d m.after m.new_is refl
    (name_claimed m.name m.drive w.desk m.desk m.claims, name_purged m.name m.drive w.desk m.desk m.claims) refl m.online refl
    (record { grows = m.adds.stays.grows; device = m.device })
shape_leaves meaning w w' event reply (shape.loses drive of_sync fault m) =
    one_bay meaning w w' event reply _ drive m.at m.bay _ m.d m.after m.new_is refl (keeps_same w.desk) refl m.online refl
    (record { grows = (fails_to_sync m.d m.after m.fails).stays.grows; device = called meaning _ _ m.d m.after m.calls })
shape_leaves meaning w w' event reply (shape.knows m) = no_bay meaning w w' event reply _ m.new_is refl (keeps_claims w.desk m.desk m.claims) refl
shape_leaves meaning w w' event reply (shape.retires drive retired m) = one_retires meaning w w' event reply drive retired m
shape_leaves meaning w w' event reply (shape.purges drive name own answer m) =
    one_purges meaning w w' event reply drive name (purges_name event reply drive name own answer) m

pub leaves : {D : Type 0} (meaning : D → Meaning) (w w' : WorldView D) (event : Event) (reply : Reply) → Moves meaning w event reply w' → LeavesWorld meaning w event reply w'
leaves meaning w w' event reply m = shape_leaves meaning w w' event reply (shape_of meaning w w' event reply m)

-- what is claimed stays claimed
pub moves_keep_claims : {D : Type 0} (meaning : D → Meaning) (w w' : WorldView D) (event : Event) (reply : Reply) → Moves meaning w event reply w' → ClaimsStay w.desk w'.desk
moves_keep_claims meaning w w' event reply m = (leaves meaning w w' event reply m).claims
