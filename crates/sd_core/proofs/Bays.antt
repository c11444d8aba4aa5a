-- What a read answers at the bay of the first span's drive.
use Rattle.std.proofs.Common.{◌≡◌, ◌≢◌, ◌+◌, ℕ, suc, Some, None, Result, Err, List, [], ◌∷◌, slice_get, refl, sym, ap, ap₂, subst, ◌∙◌, inl, inr, true, false, arith}
use Rattle.std.specs.Option.{option_map_or}
use Rattle.sd_base.specs.Record.{Record}
use Rattle.sd_base.specs.declared.number.SessionKey.{SessionKey}
use Rattle.sd_base.specs.declared.refusal.Refusal.{Refusal}
use Rattle.sd_base.specs.declared.refusal.Refusal.TheVariants.{VolumeNotOnShelf, NoSuchDrive, VolumePurged}
use Rattle.sd_desk.specs.Desk.{claimed_by}
use Rattle.sd_driver.specs.Meaning.{Meaning}
use Rattle.sd_drive.specs.View.{DriveIs}
use Rattle.sd_readback.specs.declared.read.ReadEnd.{ReadEnd}
use Rattle.sd_span.specs.declared.span.Span.{Span}
use Rattle.sd_world.specs.Drives.{DriveMissing}
use Rattle.sd_world.specs.World.{WorldView, BayView, with_bay}
use Rattle.sd_world.proofs.Bays.{IsBayAt, drive_stays, online_in}
use Rattle.sd_world.specs.Reading.{ReadsDrive, ReadsWorld, are_at_drive, is_gone, due_at, due_with, read_due}

-- which refusal is due at that drive
due_at_bay : {D : Type 0} (w : WorldView D) (key : SessionKey) (spans : List Span) (number at : ℕ) (bay : BayView D)
    → IsBayAt w number at bay → due_at w key spans (Some number) ≡ due_with (is_gone w key spans) w.desk number spans bay.drive
due_at_bay w key spans number at bay b =
    let rises : number ≡ suc at = omega (arith, b.number) in
    subst (λ k. due_at w key spans (Some k) ≡ due_with (is_gone w key spans) w.desk k spans bay.drive) (sym rises)
    (ap (λ found. option_map_or (λ (b : BayView _). due_with (is_gone w key spans) w.desk (suc at) spans b.drive) found (Some VolumeNotOnShelf)) b.there)

-- and if there is no such drive
due_at_none : {D : Type 0} (w : WorldView D) (key : SessionKey) (spans : List Span) (number at : ℕ)
    → number ≡ at + 1 → slice_get w.bays at ≡ None → due_at w key spans (Some number) ≡ Some VolumeNotOnShelf
due_at_none w key spans number at is none =
    let rises : number ≡ suc at = omega (arith, is) in
    subst (λ k. due_at w key spans (Some k) ≡ Some VolumeNotOnShelf) (sym rises)
    (ap (λ found. option_map_or (λ (b : BayView _). due_with (is_gone w key spans) w.desk (suc at) spans b.drive) found (Some VolumeNotOnShelf)) none)

-- so it is for the spans of which the first is at that drive
due_claimed : {D : Type 0} (w : WorldView D) (key : SessionKey) (spans : List Span) (first : Span) (number : ℕ)
    → Some first ≡ slice_get spans 0 → Some number ≡ claimed_by w.desk first.volume → read_due w key spans ≡ due_at w key spans (Some number)
due_claimed w key [] first number is claimed = absurd (cc is)
due_claimed w key (s ∷ ss) first number is claimed =
    let one : first ≡ s = cc is in
    let here : claimed_by w.desk s.volume ≡ Some number = subst (λ (x : Span). claimed_by w.desk x.volume ≡ Some number) one (sym claimed) in
    ap (due_at w key (s ∷ ss)) here

due_here : {D : Type 0} (w : WorldView D) (key : SessionKey) (spans : List Span) (first : Span) (number at : ℕ) (bay : BayView D)
    → Some first ≡ slice_get spans 0 → Some number ≡ claimed_by w.desk first.volume → IsBayAt w number at bay
    → read_due w key spans ≡ due_with (is_gone w key spans) w.desk number spans bay.drive
due_here w key spans first number at bay is claimed b = due_claimed w key spans first number is claimed ∙ due_at_bay w key spans number at bay b

-- that drive isn't there, or offline
pub reads_missing : {D : Type 0} (meaning : D → Meaning) (key : SessionKey) (got : List Record)
    (w : WorldView D) (spans : List Span) (first : Span) (number : ℕ) (why told : Refusal)
    → Some first ≡ slice_get spans 0 → Some number ≡ claimed_by w.desk first.volume → DriveMissing w number why
    → (why ≡ NoSuchDrive → told ≡ VolumeNotOnShelf) → (why ≢ NoSuchDrive → told ≡ why) → ReadsWorld meaning key spans got got (Err told) w w
reads_missing meaning key got w spans first number why told is claimed (at, numbered, inl (none, same)) nowhere other =
    inl (told, due_claimed w key spans first number is claimed ∙ due_at_none w key spans number at numbered none ∙ ap Some (sym (nowhere same)), refl, refl, refl)
reads_missing meaning key got w spans first number why told is claimed (at, numbered, inr (bay, there, off, due)) nowhere other =
    let b : IsBayAt w number at bay = record { number = numbered; there = there } in
    inl (
      told,
      due_here w key spans first number at bay is claimed b ∙ ap (due_with (is_gone w key spans) w.desk number spans) off
          ∙ ap Some (sym (other (λ e. cc (e, due)) ∙ due)),
      refl,
      refl,
      refl,
    )

-- what is read was purged
pub reads_gone : {D : Type 0} (meaning : D → Meaning) (key : SessionKey) (got : List Record)
    (w : WorldView D) (spans : List Span) (first : Span) (number at : ℕ) (bay : BayView D) (d : DriveIs D)
    → Some first ≡ slice_get spans 0 → Some number ≡ claimed_by w.desk first.volume → IsBayAt w number at bay
    → bay.drive ≡ Some d → is_gone w key spans ≡ true
    → ReadsWorld meaning key spans got got (Err VolumePurged) w (with_bay at (record bay { drive = Some d }) w)
reads_gone meaning key got w spans first number at bay d is claimed b online gone =
    inl (
      VolumePurged,
      due_here w key spans first number at bay is claimed b ∙ ap₂ (λ lost drive. due_with lost w.desk number spans drive) gone online,
      refl,
      refl,
      drive_stays w number at bay d d (online_in w number at bay d b online) refl,
    )

-- another span's volume isn't at that drive
pub reads_elsewhere : {D : Type 0} (meaning : D → Meaning) (key : SessionKey) (got : List Record)
    (w : WorldView D) (spans : List Span) (first : Span) (number at : ℕ) (bay : BayView D) (d : DriveIs D)
    → Some first ≡ slice_get spans 0 → Some number ≡ claimed_by w.desk first.volume → IsBayAt w number at bay
    → bay.drive ≡ Some d → is_gone w key spans ≡ false → are_at_drive w.desk number spans ≡ false
    → ReadsWorld meaning key spans got got (Err VolumeNotOnShelf) w (with_bay at (record bay { drive = Some d }) w)
reads_elsewhere meaning key got w spans first number at bay d is claimed b online kept none =
    inl (
      VolumeNotOnShelf,
      due_here w key spans first number at bay is claimed b ∙ ap₂ (λ lost drive. due_with lost w.desk number spans drive) kept online
          ∙ (rw none refl),
      refl,
      refl,
      drive_stays w number at bay d d (online_in w number at bay d b online) refl,
    )

-- the drive reads
pub reads_there : {D : Type 0} (meaning : D → Meaning) (key : SessionKey) (got got' : List Record) (result : Result ReadEnd Refusal)
    (w : WorldView D) (spans : List Span) (first : Span) (number at : ℕ) (bay : BayView D) (d after : DriveIs D)
    → Some first ≡ slice_get spans 0 → Some number ≡ claimed_by w.desk first.volume → IsBayAt w number at bay
    → bay.drive ≡ Some d → is_gone w key spans ≡ false → are_at_drive w.desk number spans ≡ true → ReadsDrive meaning key spans got got' result d after
    → ReadsWorld meaning key spans got got' result w (with_bay at (record bay { drive = Some after }) w)
reads_there {D} meaning key got got' result w spans first number at bay d after is claimed b online kept all reads =
    let due : due_with {D = D} false w.desk number spans (Some d) ≡ None = rw all refl in
    inr (
      due_here w key spans first number at bay is claimed b ∙ ap₂ (λ lost drive. due_with lost w.desk number spans drive) kept online ∙ due,
      number,
      at,
      bay,
      d,
      after,
      online_in w number at bay d b online,
      reads,
      refl,
      all,
    )
