-- What each move does to drives: their journals grow, and their devices go on.
use Rattle.std.proofs.Common.{◌≡◌, ℕ, refl, sym, ap, subst, ◌∙◌, inl, inr, Some, List, ◌++◌, slice_get, slice_set, arith}
use Rattle.std.specs.Prelude.{IsTrue}
use Rattle.std.proofs.lemmas.List.{append_assoc}
use Rattle.sd_driver.specs.Meaning.{Meaning, IsHonest}
use Rattle.sd_drive.specs.View.{DriveIs}
use Rattle.sd_journal.specs.Journal.{placements}
use Rattle.sd_machine.specs.declared.event.Event.{Event}
use Rattle.sd_machine.specs.declared.reply.Reply.{Reply}
use Rattle.sd_world.specs.Lasting.{BlocksStillLast}
use Rattle.sd_world.proofs.LastLemmas.{adoption_keeps_lasting}
use Rattle.sd_world.specs.Kept.{PurgesName}
use Rattle.sd_world.specs.Moves.{Moves}
use Rattle.sd_world.specs.World.{WorldView, BayView, IsOnline}
use Rattle.sd_world.proofs.Lookups.{get_set-tells}
use Rattle.sd_world.proofs.MoveLeaves.{Continues, LeavesBays, leaves, untouched}
use Rattle.sd_world.proofs.Seats.{JournalGrows}
use Rattle.sd_world.proofs.StationShapes.{DeviceStays}
use Rattle.sd_world.specs.Devices.{GoesOn, DevicesGoOn, MovesGoOn}
use Rattle.sd_world.specs.Grows.{EachDrive, JournalsGrow, GrowthsJoin}

-- Drives.

-- a drive's journal grew, and its device goes on
pub record Goes {D : Type 0} (meaning : D → Meaning) (keeps : List ℕ → Type 0) (d after : DriveIs D) : Type 0 where
  pub grows : JournalGrows d after
  pub device : GoesOn keeps (meaning d.device) (meaning after.device)

blocks_last : (keeps : List ℕ → Type 0) (old new : Meaning) (stays : DeviceStays old new) → IsHonest old → BlocksStillLast keeps old.shelf new.shelf
blocks_last keeps old new stays honest = elim stays.lasts [
  | inl lasts ↦ λ since name bytes label blocks kept is stood. lasts since name bytes stood
  | inr adopted ↦ adoption_keeps_lasting keeps adopted.0 old.shelf new.shelf (adopted.2 honest) adopted.1
]

-- a device that stays goes on
pub device_goes_on : (keeps : List ℕ → Type 0) (old new : Meaning) → DeviceStays old new → GoesOn keeps old new
device_goes_on keeps old new stays = record { honest = stays.honest; moment = stays.moment; blocks = blocks_last keeps old new stays }

-- a drive that continues goes
goes : {D : Type 0} (meaning : D → Meaning) (keeps : List ℕ → Type 0) (d after : DriveIs D) → Continues meaning d after → Goes meaning keeps d after
goes meaning keeps d after c = record { grows = c.grows; device = device_goes_on keeps (meaning d.device) (meaning after.device) c.device }

-- each drive that is online was, and goes
abbrev pub AllGo : {D : Type 0} → (D → Meaning) → (List ℕ → Type 0) → WorldView D → WorldView D → Type 0
AllGo meaning keeps w w' = EachDrive (Goes meaning keeps) w w'

module _ {D : Type 0} (meaning : D → Meaning) (keeps : List ℕ → Type 0) (w w' : WorldView D) where
  untouched_goes : (d : DriveIs D) → Goes meaning keeps d d
  untouched_goes d = goes meaning keeps d d (untouched meaning d d refl refl)

  -- no bay changes
  same_bays : w'.bays ≡ w.bays → AllGo meaning keeps w w'
  same_bays bays drive at bay d online =
      (bay, d, record { number = online.number; there = ap (λ bs. slice_get bs at) (sym bays) ∙ online.there; online = online.online }, untouched_goes d)

  -- one bay changes, whose drive goes if it is still there
  one_bay : (drive at : ℕ) (bay bay' : BayView D) (d : DriveIs D) → IsOnline w drive at bay d → w'.bays ≡ slice_set w.bays at bay'
      → ((after : DriveIs D) → bay'.drive ≡ Some after → Goes meaning keeps d after) → AllGo meaning keeps w w'
  one_bay drive at bay bay' d online bays tells other place b x is =
      elim (get_set-tells w.bays at place bay' b (ap (λ bs. slice_get bs place) (sym bays) ∙ is.there)) [
        | inl p ↦ (
          bay,
          d,
          record { number = is.number; there = ap (slice_get w.bays) p.0 ∙ online.there; online = online.online },
          tells x (ap (λ (c : BayView D). c.drive) (sym p.1) ∙ is.online),
        )
        | inr p ↦ (b, x, record { number = is.number; there = p.1; online = is.online }, untouched_goes x)
      ]

  -- its drive is there
  pub drive_goes : (drive at : ℕ) (bay bay' : BayView D) (d after : DriveIs D) → IsOnline w drive at bay d → bay'.drive ≡ Some after
      → w'.bays ≡ slice_set w.bays at bay' → Goes meaning keeps d after → AllGo meaning keeps w w'
  drive_goes drive at bay bay' d after online now bays here =
      one_bay drive at bay bay' d online bays (λ x is. let same : after ≡ x = cc (sym now ∙ is) in subst (Goes meaning keeps d) same here)

  -- nothing changes
  pub all_stay : w' ≡ w → AllGo meaning keeps w w'
  all_stay same = same_bays (ap (λ (x : WorldView D). x.bays) same)

-- Moves.

left_go : {D : Type 0} (meaning : D → Meaning) (w w' : WorldView D) (event : Event) (reply : Reply) → LeavesBays meaning w event reply w'
    → AllGo meaning (λ name. PurgesName event reply name → ⊥) w w'
left_go meaning w w' event reply (inl same) = same_bays meaning (λ name. PurgesName event reply name → ⊥) w w' same
left_go meaning w w' event reply (inr (inl m)) =
    let keeps : List ℕ → Type 0 = λ name. PurgesName event reply name → ⊥ in
    drive_goes meaning keeps w w' m.drive m.at m.bay m.bay' m.d m.after m.online m.now m.bays_are (goes meaning keeps m.d m.after m.continues)
left_go meaning w w' event reply (inr (inr (inl m))) =
    let r = m.0 in
    one_bay meaning (λ name. PurgesName event reply name → ⊥) w w' r.drive r.at r.bay r.bay' r.d r.online r.bays_are (λ after is. absurd (cc (sym r.now ∙ is)))
left_go meaning w w' event reply (inr (inr (inr m))) =
    drive_goes meaning (λ name. PurgesName event reply name → ⊥) w w' m.drive m.at m.bay m.bay' m.d m.after m.online m.now m.bays_are (record {
      grows = m.grows;
      device = record {
        honest = m.honest;
        moment = m.moment;
        blocks = λ honest since name bytes label blocks kept is lasts.
            m.below.others since name bytes (λ same. kept (subst (PurgesName event reply) (sym same) m.of_event)) lasts;
      };
    })

drives_go : {D : Type 0} (meaning : D → Meaning) (w w' : WorldView D) (event : Event) (reply : Reply) → Moves meaning w event reply w'
    → AllGo meaning (λ name. PurgesName event reply name → ⊥) w w'
drives_go meaning w w' event reply m = left_go meaning w w' event reply (leaves meaning w w' event reply m).bays

-- The laws.

pub journals_grow : {D : Type 0} → JournalsGrow D
journals_grow meaning w w' event reply m drive at bay d online =
    let p = drives_go meaning w w' event reply m drive at bay d online in
    (p.0, p.1, p.2, p.3.grows)

pub devices_go_on : {D : Type 0} (meaning : D → Meaning) (keeps : List ℕ → Type 0) (w w' : WorldView D) → AllGo meaning keeps w w' → DevicesGoOn meaning keeps w w'
devices_go_on meaning keeps w w' all drive at bay d online = let p = all drive at bay d online in (p.0, p.1, p.2, p.3.device)

pub moves_go_on : {D : Type 0} → MovesGoOn D
moves_go_on meaning w w' event reply m = devices_go_on meaning (λ name. PurgesName event reply name → ⊥) w w' (drives_go meaning w w' event reply m)

pub growths_join : {D : Type 0} → GrowthsJoin D
growths_join old middle new first second drive at bay d online =
    let p = second drive at bay d online in
    let q = first drive at p.0 p.1 p.2 in
    let before = placements q.1.journal in
    (q.0, q.1, q.2, (q.3.0 ++ p.3.0, p.3.1 ∙ ap (λ l. l ++ p.3.0) q.3.1 ∙ append_assoc before q.3.0 p.3.0))

pub goes_on-trans : (keeps keeps' : List ℕ → Type 0) (a b c : Meaning) → GoesOn keeps a b → GoesOn keeps' b c → GoesOn (λ name. keeps name × keeps' name) a c
goes_on-trans keeps keeps' a b c first then = record {
  honest = then.honest ∙ first.honest;
  moment = omega (arith, first.moment, then.moment);
  blocks = λ honest since name bytes label blocks kept is lasts.
      then.blocks (subst IsTrue (sym first.honest) honest) since name bytes label blocks kept.1 is (first.blocks honest since name bytes label blocks kept.0 is lasts);
}

pub going_on_joins : {D : Type 0} (meaning : D → Meaning) (keeps keeps' : List ℕ → Type 0) (old middle new : WorldView D)
    → DevicesGoOn meaning keeps old middle → DevicesGoOn meaning keeps' middle new → DevicesGoOn meaning (λ name. keeps name × keeps' name) old new
going_on_joins meaning keeps keeps' old middle new first second drive at bay d online =
    let p = second drive at bay d online in
    let q = first drive at p.0 p.1 p.2 in
    (q.0, q.1, q.2, goes_on-trans keeps keeps' (meaning q.1.device) (meaning p.1.device) (meaning d.device) q.3 p.3)

-- the devices go on, if fewer volumes are to keep their blocks
pub devices_as : {D : Type 0} (meaning : D → Meaning) (keeps fewer : List ℕ → Type 0) (w w' : WorldView D) → ((name : List ℕ) → fewer name → keeps name)
    → DevicesGoOn meaning keeps w w' → DevicesGoOn meaning fewer w w'
devices_as meaning keeps fewer w w' tells all drive at bay d online =
    let p = all drive at bay d online in (
      p.0,
      p.1,
      p.2,
      record {
        honest = p.3.honest;
        moment = p.3.moment;
        blocks = λ honest since name bytes label blocks few is lasts. p.3.blocks honest since name bytes label blocks (tells name few) is lasts;
      },
    )
