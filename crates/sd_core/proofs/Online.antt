-- What moves leave of a world's drives: its limits and how many drives there are; and which of them are online, but by a retirement.
use Rattle.std.proofs.Common.{◌≡◌, ℕ, Bool, refl, sym, ap, subst, ◌∙◌, inl, inr, List, Some, map, slice_get, slice_set}
use Rattle.std.specs.Prelude.{is_some}
use Rattle.std.proofs.lemmas.List.{map-set}
use Rattle.sd_driver.specs.Meaning.{Meaning}
use Rattle.sd_drive.specs.View.{DriveIs}
use Rattle.sd_drive.proofs.Places.{set_same}
use Rattle.sd_machine.specs.declared.event.Event.{Event}
use Rattle.sd_machine.specs.declared.reply.Reply.{Reply}
use Rattle.sd_machine.specs.declared.reply.Reply.TheVariants.{Retired}
use Rattle.sd_world.specs.Moves.{Moves}
use Rattle.sd_world.specs.World.{WorldView, BayView, IsOnline}
use Rattle.sd_world.proofs.MoveLeaves.{LeavesBays, leaves}
use Rattle.sd_core.specs.Rounds.{online_flags}

-- the drives stay as many as they are, and so do the limits; and those that are online stay so
pub record DrivesStay {D : Type 0} (w w' : WorldView D) : Type 0 where
  pub limits : w'.limits ≡ w.limits
  pub flags : online_flags w' ≡ online_flags w

pub drives_same : {D : Type 0} (w w' : WorldView D) → w' ≡ w → DrivesStay w w'
drives_same w w' same = subst (DrivesStay w) (sym same) (record { limits = refl; flags = refl })

pub drives_then : {D : Type 0} (a b c : WorldView D) → DrivesStay a b → DrivesStay b c → DrivesStay a c
drives_then a b c p q = record { limits = q.limits ∙ p.limits; flags = q.flags ∙ p.flags }

-- One bay changes, and its drive stays or goes offline.

flags_set : {D : Type 0} (bays : List (BayView D)) (at : ℕ) (bay bay' : BayView D) → slice_get bays at ≡ Some bay → is_some bay'.drive ≡ is_some bay.drive
    → map (λ (b : BayView D). is_some b.drive) (slice_set bays at bay') ≡ map (λ (b : BayView D). is_some b.drive) bays
flags_set {D} bays at bay bay' there same =
    let F : BayView D → Bool = λ b. is_some b.drive in
    map-set F bays at bay' ∙ ap (λ x. slice_set (map F bays) at x) same ∙ sym (map-set F bays at bay) ∙ ap (map F) (set_same bays at bay there)

-- another drive that is online is in the bay
pub online_still : {D : Type 0} (w w' : WorldView D) (drive at : ℕ) (bay bay' : BayView D) (d : DriveIs D) → IsOnline w drive at bay d
    → is_some bay'.drive ≡ is_some (Some d) → w'.limits ≡ w.limits → w'.bays ≡ slice_set w.bays at bay' → DrivesStay w w'
online_still w w' drive at bay bay' d on here limits bays = record {
  limits = limits;
  flags = ap (map (λ b. is_some b.drive)) bays ∙ flags_set w.bays at bay bay' on.there (here ∙ sym (ap is_some on.online));
}

-- no drive is retired by it
abbrev pub IsNoRetiring : Reply → Type 0
IsNoRetiring Retired = ⊥
IsNoRetiring reply = Unit {0}

left_stays : {D : Type 0} (meaning : D → Meaning) (w w' : WorldView D) (event : Event) (reply : Reply) → IsNoRetiring reply → w'.limits ≡ w.limits
    → LeavesBays meaning w event reply w' → DrivesStay w w'
left_stays meaning w w' event reply h limits (inl same) = record { limits = limits; flags = ap (map (λ b. is_some b.drive)) same }
left_stays meaning w w' event reply h limits (inr (inl m)) = online_still w w' m.drive m.at m.bay m.bay' m.d m.online (ap is_some m.now) limits m.bays_are
left_stays meaning w w' event reply h limits (inr (inr (inl m))) = absurd (subst IsNoRetiring m.1 h)
left_stays meaning w w' event reply h limits (inr (inr (inr m))) = online_still w w' m.drive m.at m.bay m.bay' m.d m.online (ap is_some m.now) limits m.bays_are

pub moves_stay : {D : Type 0} (meaning : D → Meaning) (w w' : WorldView D) (event : Event) (reply : Reply) → IsNoRetiring reply → Moves meaning w event reply w' → DrivesStay w w'
moves_stay meaning w w' event reply h m = let left = leaves meaning w w' event reply m in left_stays meaning w w' event reply h left.limits left.bays
