-- What a read gives.
use Rattle.std.specs.Prelude.{◌≡◌, ◌⊎◌, ℕ, Bool, Result, Err, List, ◌++◌, length, IfOk, IfErr, OnErr}
use Rattle.sd_base.specs.Record.{Record}
use Rattle.sd_base.specs.declared.number.SessionKey.{SessionKey}
use Rattle.sd_base.specs.declared.refusal.Refusal.{Refusal}
use Rattle.sd_base.specs.declared.refusal.Refusal.TheVariants.{DeviceFault, DriveOffline, VolumePurged, Memory}
use Rattle.sd_driver.specs.Meaning.{Meaning}
use Rattle.sd_drive.specs.View.{DriveIs}
use Rattle.sd_label.specs.Cutting.{total_bytes}
use Rattle.sd_readback.specs.HandsOver.{GotFirstOf}
use Rattle.sd_readback.specs.Reading.{Reads, volumes_on}
use Rattle.sd_readback.specs.declared.read.ReadEnd.{ReadEnd}
use Rattle.sd_span.specs.declared.span.Span.{Span}
use Rattle.sd_world.specs.World.{WorldView, BayView, IsOnline}
use Rattle.sd_world.specs.Kept.{IsRetired}

-- A read gave exactly these records, once each and in order; and told their number, their bytes, and whether the
-- session ended. It was refused only if the device failed or it was out of memory, and then it gave the first of them,
-- if any.
pub record GivesAll (records : List Record) (ended : Bool) (got got' : List Record) (result : Result ReadEnd Refusal) : Type 0 where
  pub whole : IfOk result (λ end. (got' ≡ got ++ records) × (end.records ≡ length records)
      × (end.bytes ≡ total_bytes records) × (end.ended ≡ ended))
  pub refused : IfErr result (λ why. (why ≡ DeviceFault) ⊎ (why ≡ Memory))
  pub first : OnErr result (GotFirstOf records got got')

-- The drive of this number is online; on its shelf the spans read to these records; and the read gave them.
pub record ReadsOnline {D : Type 0} (meaning : D → Meaning) (w : WorldView D) (drive : ℕ) (key : SessionKey) (spans : List Span)
    (records : List Record) (ended : Bool) (got got' : List Record) (result : Result ReadEnd Refusal) : Type 0 where
  pub at : ℕ
  pub bay : BayView D
  pub d : DriveIs D
  pub online : IsOnline w drive at bay d
  pub reads : Reads (volumes_on (meaning d.device).shelf) key spans records ended
  pub gives : GivesAll records ended got got' result

-- the drive of this number was retired, which is what the read was answered
abbrev pub IsAnsweredOffline : {D : Type 0} → WorldView D → ℕ → List Record → List Record → Result ReadEnd Refusal → Type 0
IsAnsweredOffline w drive got got' result = IsRetired w drive × (result ≡ Err DriveOffline) × (got' ≡ got)

-- the read was answered that the volume was purged
abbrev pub IsAnsweredPurged : List Record → List Record → Result ReadEnd Refusal → Type 0
IsAnsweredPurged got got' result = (result ≡ Err VolumePurged) × (got' ≡ got)
