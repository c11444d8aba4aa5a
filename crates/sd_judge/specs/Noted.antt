-- Whether a volume is damaged, by its note.
use Rattle.std.specs.Prelude.{◌≡◌, ℕ, ◌+◌, ◌<◌, ◌≤◌, ◌⊎◌, List, length, drop, Some}
use Rattle.sd_base.specs.Limits.{block_header}
use Rattle.sd_base.specs.declared.number.SessionKey.{SessionKey}
use Rattle.sd_judge.specs.Run.{RunsTo}
use Rattle.sd_judge.specs.declared.volume.Judgement.{Judgement}
use Rattle.sd_judge.specs.declared.volume.Judgement.TheVariants.{Whole, Noted, Damaged, NotOurs, NotThere}
use Rattle.sd_note.specs.declared.note.Note.{Note}
use Rattle.sd_volume.specs.Image.{BeginsWithBlock}

-- at the note's last place a whole block stands, which ends at the note's end, and whose number the note's next follows
pub record StandsLast (bytes : List ℕ) (note : Note) : Type 0 where
  pub key : SessionKey
  pub number : ℕ
  pub body : List ℕ
  pub there : BeginsWithBlock (drop note.last bytes) key number body
  pub next_is : note.next_number ≡ number + 1
  pub ends : note.end ≡ note.last + (block_header + length body)

-- a sync failed when the disk had the bytes up to this place, and whole blocks go on past it
pub record IsTornAt (bytes : List ℕ) (note : Note) (at : ℕ) : Type 0 where
  pub torn : note.torn ≡ Some at
  pub end : ℕ
  pub next : ℕ
  pub run : RunsTo bytes note.end note.next_number end next
  pub past : at < end

-- The volume is damaged at this place: where it ends, if it is shorter than its note says; at the note's last place, if the
-- last block doesn't stand there; or where it is torn.
abbrev pub IsDamagedBy : List ℕ → Note → ℕ → Type 0
IsDamagedBy bytes note at =
    ((length bytes < note.end) × (at ≡ length bytes))
    ⊎ ((note.end ≤ length bytes) × (¬ StandsLast bytes note) × (at ≡ note.last))
    ⊎ ((note.end ≤ length bytes) × StandsLast bytes note × IsTornAt bytes note at)

-- it is as long as its note says, the last block stands, and it is torn nowhere
pub record HoldsNoted (bytes : List ℕ) (note : Note) : Type 0 where
  pub long : note.end ≤ length bytes
  pub last : StandsLast bytes note
  pub untorn : (at : ℕ) → ¬ IsTornAt bytes note at

-- what a volume is whose note counts
abbrev pub JudgesNoted : List ℕ → Note → Judgement → Type 0
JudgesNoted bytes note Whole = ⊥
JudgesNoted bytes note (Noted same) = (same ≡ note) × HoldsNoted bytes note
JudgesNoted bytes note (Damaged at) = IsDamagedBy bytes note at
JudgesNoted bytes note NotOurs = ⊥
JudgesNoted bytes note NotThere = ⊥
