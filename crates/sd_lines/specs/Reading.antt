-- What a talk answers as it reads a session back, and by which device it reads.
use Rattle.std.specs.Prelude.{◌≡◌, ◌⊎◌, ℕ, ◌<◌, ◌^◌, Bool, Option, Some, Result, Ok, Err, List, [], ◌++◌, length, slice_get, slice_set, IfOk, IfErr, OnErr}
use Rattle.sd_base.specs.Record.{Record}
use Rattle.sd_base.specs.declared.number.SessionKey.{SessionKey}
use Rattle.sd_base.specs.declared.refusal.Refusal.{Refusal}
use Rattle.sd_base.specs.declared.refusal.Refusal.TheVariants.{BadSpan, VolumeNotOnShelf, Memory}
use Rattle.sd_driver.specs.Meaning.{Meaning, IsHonest}
use Rattle.sd_drive.specs.View.{DriveIs}
use Rattle.sd_label.specs.Cutting.{total_bytes}
use Rattle.sd_readback.specs.Faults.{AreSpans, IsOfSpans, MeetsFault, fault_refusal}
use Rattle.sd_readback.specs.HandsOver.{HandsOverFront}
use Rattle.sd_readback.specs.Reading.{Reads, volumes_on}
use Rattle.sd_readback.specs.declared.fault.ReadFault.{ReadFault}
use Rattle.sd_readback.specs.declared.fault.ReadFault.TheVariants as fault
use Rattle.sd_readback.specs.declared.read.ReadEnd.{ReadEnd}
use Rattle.sd_span.specs.declared.span.Span.{Span}
use Rattle.sd_volume.specs.Device.{OnlyReads}
use Rattle.sd_world.specs.Reading.{ReadsDrive}

-- What reading a session back by a device of the talk's own answers and leaves, by what the device means before and after: what a
-- drive's reading does, as `ReadsDrive` says it. A refusal is that of the reader's fault.
pub record ReadsDevice (key : SessionKey) (spans : List Span) (got got' : List Record) (result : Result ReadEnd Refusal)
    (old new : Meaning) : Type 0 where
  -- the reader's own answer
  pub answer : Result ReadEnd ReadFault
  pub ok : IfOk answer (λ end. result ≡ Ok end)
  pub err : IfErr answer (λ why. result ≡ Err (fault_refusal why))
  pub bad_spans : (AreSpans spans → ⊥) → answer ≡ Err fault.BadSpan
  pub no_call : (AreSpans spans → ⊥) → (new ≡ old) × (got' ≡ got)
  pub device : OnlyReads (answer ≡ Err fault.Device) old new
  pub more : List Record
  pub adds : got' ≡ got ++ more
  pub counts : IfOk answer (λ end. (end.records ≡ length more) × (end.bytes ≡ total_bytes more))
  pub reads : IsHonest old → IfOk answer (λ end. Reads (volumes_on old.shelf) key spans more end.ended)
  pub found : IsHonest old → (records : List Record) (ended : Bool)
      → length records < 2 ^ 64 → total_bytes records < 2 ^ 64
      → Reads (volumes_on old.shelf) key spans records ended
      → IfErr answer (λ why. (why ≡ fault.Device) ⊎ (why ≡ fault.Memory))
  pub first : IsHonest old → IfErr answer (λ why. IsOfSpans why → MeetsFault (volumes_on old.shelf) key spans why)
  pub handed_over : IsHonest old → OnErr answer (HandsOverFront (volumes_on old.shelf) key spans got got')

-- Why a talk asks no device: there are no spans; or a volume of them isn't known to be at that drive of the others; or there is no memory
-- to find that out.
abbrev pub IsUnread : List Span → Refusal → Type 0
IsUnread spans why = ((spans ≡ []) × (why ≡ BadSpan)) ⊎ (why ≡ VolumeNotOnShelf) ⊎ (why ≡ Memory)

-- How a talk reads a session back. It asks no device, and says why. Or one of the devices that it has over the drives' volumes
-- reads, and the others are as they were. Or a drive itself does, under its lock, and the talk's devices are as they were.
abbrev pub ReadsTalk : {D : Type 0} → (D → Meaning) → SessionKey → List Span → List Record → List Record
    → Result ReadEnd Refusal → List D → List D → Type 0
ReadsTalk {D} meaning key spans got got' result old new =
    ((why : Refusal) × IsUnread spans why × (result ≡ Err why) × (got' ≡ got) × (new ≡ old))
    ⊎ ((at : ℕ) × (before : D) × (after : D) × (slice_get old at ≡ Some before) × (new ≡ slice_set old at after)
    × ReadsDevice key spans got got' result (meaning before) (meaning after))
    ⊎ ((before : DriveIs D) × (after : DriveIs D) × ReadsDrive meaning key spans got got' result before after × (new ≡ old))
