-- A drive's bay, read at the place of its number, and the world with it put back.
use Rattle.std.proofs.Common.{◌≡◌, ℕ, ◌+◌, ◌-◌, ◌≤◌, ◌<◌, length, get_or, List, Option, Some, None, refl, sym, ap, ◌∙◌, arith, inl, inr, slice_get}
use Rattle.std.proofs.lemmas.Option.{slice_get_read, slice_get_past}
use Rattle.sd_base.specs.declared.refusal.Refusal.TheVariants.{DriveOffline, NoSuchDrive}
use Rattle.sd_drive.specs.View.{DriveIs}
use Rattle.sd_world.specs.World.{WorldView, BayView, IsOnline, with_bay, with_drive}
use Rattle.sd_world.specs.Drives.{DriveMissing}
use Rattle.sd_world.proofs.Lookups.{set_same}

-- The bay of the drive of this number is there.
pub record IsBayAt {D : Type 0} (w : WorldView D) (drive at : ℕ) (bay : BayView D) : Type 0 where
  pub number : drive ≡ at + 1
  pub there : slice_get w.bays at ≡ Some bay

-- so it is where it was read at the number less one, below as many as there are
pub read_bay : {D : Type 0} (w : WorldView D) (drive got len : ℕ) (bay now : BayView D)
    → len ≡ length w.bays → got ≡ drive → 1 ≤ got → got - 1 < len → now ≡ get_or w.bays (got - 1) now → bay ≡ now
    → IsBayAt w drive (got - 1) bay
read_bay w drive got len bay now all is least below there same = record {
  number = omega arith;
  there = slice_get_read w.bays (length w.bays) (got - 1) now refl (omega arith) there ∙ ap Some (sym same);
}

-- a bay that is put back changes nothing
pub bay_stays : {D : Type 0} (w : WorldView D) (at : ℕ) (bay : BayView D) → slice_get w.bays at ≡ Some bay → with_bay at bay w ≡ w
bay_stays {D} w at bay there = ap (λ (bs : List (BayView D)). record w { bays = bs }) (set_same w.bays at bay there)

-- nor does a drive
pub drive_stays : {D : Type 0} (w : WorldView D) (drive at : ℕ) (bay : BayView D) (d after : DriveIs D)
    → IsOnline w drive at bay d → after ≡ d → with_drive at bay after w ≡ w
drive_stays {D} w drive at bay d after on same =
    ap (λ (o : Option (DriveIs D)). with_bay at (record bay { drive = o }) w) (ap Some same ∙ sym on.online) ∙ bay_stays w at bay on.there

-- the drive in the bay is online
pub online_in : {D : Type 0} (w : WorldView D) (drive at : ℕ) (bay : BayView D) (d : DriveIs D)
    → IsBayAt w drive at bay → bay.drive ≡ Some d → IsOnline w drive at bay d
online_in w drive at bay d read on = record { number = read.number; there = read.there; online = on }

-- there is none in it, and nothing changes if the bay is put back
pub offline_in : {D : Type 0} (w : WorldView D) (drive at : ℕ) (bay : BayView D)
    → IsBayAt w drive at bay → bay.drive ≡ None → (DriveMissing w drive DriveOffline) × (with_bay at bay w ≡ w)
offline_in w drive at bay read off = ((at, read.number, inr (bay, read.there, off, refl)), bay_stays w at bay read.there)

-- there is no bay of this number
pub is_absent : {D : Type 0} (w : WorldView D) (drive got len : ℕ)
    → len ≡ length w.bays → got ≡ drive → 1 ≤ got → (got - 1 < len → ⊥) → DriveMissing w drive NoSuchDrive
is_absent w drive got len all is least past =
    let number : drive ≡ (got - 1) + 1 = omega arith in
    let beyond : length w.bays ≤ got - 1 = omega (arith, past, all) in
    (got - 1, number, inl (slice_get_past w.bays (got - 1) beyond, refl))
