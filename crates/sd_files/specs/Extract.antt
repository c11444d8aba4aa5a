-- The records of a session, read from its volumes by its JobMedia text and printed.
use Rattle.std.specs.Prelude.{◌≡◌, ◌⊎◌, ◌<◌, ◌^◌, ℕ, Bool, true, false, List, [], ◌++◌, length, Option, Result, Ok, Err, IfOk, IfErr, IfSome, OnErr, IsErrOf, IsErrAnd, codes}
use Rattle.sd_base.specs.Record.{Record}
use Rattle.sd_base.specs.Refusal.{refusal_text}
use Rattle.sd_base.specs.declared.number.SessionKey.{SessionKey}
use Rattle.sd_driver.specs.Meaning.{Meaning, IsHonest}
use Rattle.sd_label.specs.Cutting.{total_bytes}
use Rattle.sd_text.specs.Says.{SaidView, Says}
use Rattle.sd_readback.specs.Faults.{AreSpans, IsOfSpans, MeetsFault}
use Rattle.sd_readback.specs.HandsOver.{HandsOverFront}
use Rattle.sd_readback.specs.Reading.{Reads, volumes_on}
use Rattle.sd_readback.specs.declared.fault.ReadFault.{ReadFault}
use Rattle.sd_readback.specs.declared.fault.ReadFault.TheVariants.{BadSpan, Device, Memory}
use Rattle.sd_readback.specs.declared.read.ReadEnd.{ReadEnd}
use Rattle.sd_span.specs.JobMedia.{IsJobMedia, jobmedia_refusal}
use Rattle.sd_span.specs.declared.jobmedia.JobMediaFault.TheVariants as media
use Rattle.sd_span.specs.declared.jobmedia.SessionSpans.{SessionSpans}
use Rattle.sd_span.specs.declared.span.Span.{Span}
use Rattle.sd_volume.specs.Device.{OnlyReads}
use Rattle.sd_text.specs.Lines.{line}
use Rattle.sd_files.specs.declared.input.SpansFault.{SpansFault}
use Rattle.sd_files.specs.declared.input.SpansFault.TheVariants.{File, Text}
use Rattle.sd_files.specs.Lines.{ending_text, records_lines}

-- The text says this session and its spans; or it is no JobMedia text. Memory may run out, and the input fail, at any
-- text.
abbrev pub Input : List ℕ → Result SessionSpans SpansFault → Type 0
Input text (Ok read) = IsJobMedia text read.key read.spans
Input text (Err File) = Unit {0}
Input text (Err (Text media.BadSpan)) = (key : SessionKey) (spans : List Span) → ¬ IsJobMedia text key spans
Input text (Err (Text media.Memory)) = Unit {0}

-- an input is read to a session and its spans, or it is refused, by its bytes if they are known
abbrev pub ReadsSpans : Option (List ℕ) → Result SessionSpans SpansFault → Type 0
ReadsSpans input result = IfSome input (λ text. Input text result)

-- what is printed if no spans were read
abbrev pub fault_text : SpansFault → List ℕ
fault_text File = codes "fault file"
fault_text (Text fault) = refusal_text (jobmedia_refusal fault)

-- The spans of a session were read to this, and these records were handed over. No volume was changed, and a fault of
-- the device is answered only if the device counted one. On an honest device the records are those that the spans read
-- to, or the first of them and the first fault that the spans meet.
pub record ReadsSession (old new : Meaning) (key : SessionKey) (spans : List Span) (records : List Record) (result : Result ReadEnd ReadFault) : Type 0 where
  pub device : OnlyReads (IsErrOf result Device) old new
  pub bad_spans : ¬ AreSpans spans → (result ≡ Err BadSpan) × (records ≡ []) × (new ≡ old)
  pub counts : IfOk result (λ end. (end.records ≡ length records) × (end.bytes ≡ total_bytes records))
  pub reads : IsHonest old → IfOk result (λ end. Reads (volumes_on old.shelf) key spans records end.ended)
  pub found : IsHonest old → (all : List Record) (ended : Bool) → length all < 2 ^ 64 → total_bytes all < 2 ^ 64
      → Reads (volumes_on old.shelf) key spans all ended → IfErr result (λ fault. (fault ≡ Device) ⊎ (fault ≡ Memory))
  pub first : IsHonest old → IfErr result (λ fault. IsOfSpans fault → MeetsFault (volumes_on old.shelf) key spans fault)
  pub met : IsHonest old → (fault : ReadFault) → MeetsFault (volumes_on old.shelf) key spans fault
      → IsErrAnd result (λ answer. (answer ≡ fault) ⊎ (answer ≡ Device) ⊎ (answer ≡ Memory))
  pub handed_over : IsHonest old → OnErr result (HandsOverFront (volumes_on old.shelf) key spans [] records)

-- the status: 0 if the session was read and all of it could be written
abbrev pub status_of : Result ReadEnd ReadFault → Bool → ℕ
status_of (Ok end) false = 0
status_of (Ok end) true = 1
status_of (Err fault) failed = 1

-- no spans were read: nothing was asked of the device, and why is printed
pub record PrintsFault (input : Option (List ℕ)) (old new : Meaning) (said says : SaidView) (status : ℕ) : Type 0 where
  pub fault : SpansFault
  pub input_is : ReadsSpans input (Err fault)
  pub device : new ≡ old
  pub prints : Says said says (line (fault_text fault))
  pub status_is : status ≡ 1

-- the session of the input was read: its records were printed, and how that ended
pub record PrintsSession (input : Option (List ℕ)) (old new : Meaning) (said says : SaidView) (status : ℕ) : Type 0 where
  pub read : SessionSpans
  pub records : List Record
  pub result : Result ReadEnd ReadFault
  pub input_is : ReadsSpans input (Ok read)
  pub session : ReadsSession old new read.key read.spans records result
  pub prints : Says said says (records_lines records ++ line (ending_text result))
  pub status_is : status ≡ status_of result says.failed

-- An input was read as a JobMedia text, and its session printed; or it was refused. If the writer failed, a front of
-- that was printed.
abbrev pub PrintsReading : Option (List ℕ) → Meaning → Meaning → SaidView → SaidView → ℕ → Type 0
PrintsReading input old new said says status =
    PrintsFault input old new said says status ⊎ PrintsSession input old new said says status
