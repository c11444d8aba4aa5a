-- What reading a session back through a world answers, and what it leaves.
use Rattle.std.specs.Prelude.{◌≡◌, ◌⊎◌, ℕ, suc, ◌<◌, ◌^◌, ◌==◌, ◌&&◌, ◌||◌, Bool, true, false, not, if◌then◌else◌, Option, Some, None, Result, Ok, Err, List, [], ◌∷◌, ◌++◌, length, slice_get, IfOk, IfErr, OnErr}
use Rattle.std.specs.List.{list_all, list_any}
use Rattle.std.specs.Option.{option_map_or}
use Rattle.sd_base.specs.Key.{is_key}
use Rattle.sd_base.specs.Record.{Record}
use Rattle.sd_base.specs.declared.number.SessionKey.{SessionKey}
use Rattle.sd_base.specs.declared.refusal.Refusal.{Refusal}
use Rattle.sd_base.specs.declared.refusal.Refusal.TheVariants.{BadSpan, VolumeNotOnShelf, DriveOffline, VolumePurged}
use Rattle.sd_desk.specs.Desk.{DeskView, claimed_by, is_purged_at}
use Rattle.sd_driver.specs.Meaning.{Meaning, IsHonest}
use Rattle.sd_drive.specs.Shelf.{KeepsPieces}
use Rattle.sd_drive.specs.View.{DriveIs}
use Rattle.sd_label.specs.Cutting.{total_bytes}
use Rattle.sd_readback.specs.Faults.{AreSpans, IsOfSpans, MeetsFault, fault_refusal}
use Rattle.sd_readback.specs.HandsOver.{HandsOverFront}
use Rattle.sd_readback.specs.Reading.{Reads, volumes_on}
use Rattle.sd_readback.specs.declared.fault.ReadFault.{ReadFault}
use Rattle.sd_readback.specs.declared.fault.ReadFault.TheVariants as fault
use Rattle.sd_readback.specs.declared.read.ReadEnd.{ReadEnd}
use Rattle.sd_span.specs.declared.span.Span.{Span}
use Rattle.sd_volume.specs.Device.{OnlyReads}
use Rattle.sd_world.specs.Drives.{was_purged}
use Rattle.sd_world.specs.World.{WorldView, WorldSession, BayView, IsOnline, session_at, with_drive}

-- the volume is at the drive of this number
abbrev pub is_at_drive : ℕ → Option ℕ → Bool
is_at_drive drive claimed = option_map_or (λ other. other == drive) claimed false

-- every span is on a volume of the drive
abbrev pub are_at_drive : DeskView → ℕ → List Span → Bool
are_at_drive desk drive spans = list_all (λ s. is_at_drive drive (claimed_by desk s.volume)) spans

-- the session of the key is there, and purged
abbrev pub is_purged_session : SessionKey → Option WorldSession → Bool
is_purged_session key found = option_map_or (λ (e : WorldSession). is_key key e.session.key && was_purged e.session.status) found false

-- the volume of a span was purged in this run
abbrev pub any_purged_at : DeskView → List Span → Bool
any_purged_at desk spans = list_any (λ (s : Span). is_purged_at desk s.volume) spans

-- what is read was purged: this run's session of the key was; or, with the key of another run, a span's volume, in this one
abbrev pub is_gone : {D : Type 0} → WorldView D → SessionKey → List Span → Bool
is_gone w key spans =
    is_purged_session key (session_at key.id w.sessions) || (not (key.time == w.limits.time) && any_purged_at w.desk spans)

-- which refusal is due when the first span is at this drive, if it is online, and what is read was purged, or not
abbrev pub due_with : {D : Type 0} → Bool → DeskView → ℕ → List Span → Option (DriveIs D) → Option Refusal
due_with gone desk drive spans None = Some DriveOffline
due_with gone desk drive spans (Some d) =
    if gone then Some VolumePurged else if are_at_drive desk drive spans then None else Some VolumeNotOnShelf

-- which is due when the first span's volume is at the drive of this number, if any; drives are numbered from 1
abbrev pub due_at : {D : Type 0} → WorldView D → SessionKey → List Span → Option ℕ → Option Refusal
due_at w key spans (Some (suc at)) =
    option_map_or (λ bay. due_with (is_gone w key spans) w.desk (suc at) spans bay.drive) (slice_get w.bays at) (Some VolumeNotOnShelf)
due_at w key spans drive = Some VolumeNotOnShelf

-- Which refusal is due before a drive is asked, in this order: there are no spans; the first one's volume is at no drive;
-- that drive is offline for good; what is read was purged; another span's volume isn't at that drive.
abbrev pub read_due : {D : Type 0} → WorldView D → SessionKey → List Span → Option Refusal
read_due w key [] = Some BadSpan
read_due w key (s ∷ ss) = due_at w key (s ∷ ss) (claimed_by w.desk s.volume)

-- What a drive's read of a session answers and leaves; a refusal is that of the reader's fault.
pub record ReadsDrive {D : Type 0} (meaning : D → Meaning) (key : SessionKey) (spans : List Span)
    (got got' : List Record) (result : Result ReadEnd Refusal) (old new : DriveIs D) : Type 0 where
  -- the reader's own answer
  pub answer : Result ReadEnd ReadFault
  pub ok : IfOk answer (λ end. result ≡ Ok end)
  pub err : IfErr answer (λ why. result ≡ Err (fault_refusal why))
  pub bad_spans : (AreSpans spans → ⊥) → answer ≡ Err fault.BadSpan
  pub no_call : (AreSpans spans → ⊥) → (new ≡ old) × (got' ≡ got)
  pub same : new ≡ record old { device = new.device }
  pub device : OnlyReads (answer ≡ Err fault.Device) (meaning old.device) (meaning new.device)
  pub keeps : KeepsPieces (meaning old.device) (meaning new.device) old.journal new.journal old.hand new.hand
  pub more : List Record
  pub adds : got' ≡ got ++ more
  pub counts : IfOk answer (λ end. (end.records ≡ length more) × (end.bytes ≡ total_bytes more))
  pub reads : IsHonest (meaning old.device) → IfOk answer (λ end.
      Reads (volumes_on (meaning old.device).shelf) key spans more end.ended)
  pub found : IsHonest (meaning old.device) → (records : List Record) (ended : Bool)
      → length records < 2 ^ 64 → total_bytes records < 2 ^ 64
      → Reads (volumes_on (meaning old.device).shelf) key spans records ended
      → IfErr answer (λ why. (why ≡ fault.Device) ⊎ (why ≡ fault.Memory))
  pub first : IsHonest (meaning old.device) → IfErr answer (λ why. IsOfSpans why
      → MeetsFault (volumes_on (meaning old.device).shelf) key spans why)
  pub handed_over : IsHonest (meaning old.device) → OnErr answer
      (HandsOverFront (volumes_on (meaning old.device).shelf) key spans got got')

-- A session is read back: if a refusal is due, it is answered, and nothing changes; else the drive of the first span's
-- volume reads, on which all spans are, and nothing of the world changes but its device.
abbrev pub ReadsWorld : {D : Type 0} → (D → Meaning) → SessionKey → List Span → List Record → List Record
    → Result ReadEnd Refusal → WorldView D → WorldView D → Type 0
ReadsWorld {D} meaning key spans got got' result old new =
    ((why : Refusal) × (read_due old key spans ≡ Some why) × (result ≡ Err why) × (got' ≡ got) × (new ≡ old))
    ⊎ ((read_due old key spans ≡ None) × (drive : ℕ) × (at : ℕ) × (bay : BayView D) × (d : DriveIs D) × (after : DriveIs D)
    × IsOnline old drive at bay d × ReadsDrive meaning key spans got got' result d after × (new ≡ with_drive at bay after old)
    × (are_at_drive old.desk drive spans ≡ true))
