-- What becomes of a volume at the start.
use Rattle.std.specs.Prelude.{ℕ, Bool, true, false, Option, Some, None}
use Rattle.sd_base.specs.declared.refusal.Refusal.TheVariants as refusal
use Rattle.sd_judge.specs.declared.volume.Judgement.{Judgement}
use Rattle.sd_judge.specs.declared.volume.Judgement.TheVariants as judged
use Rattle.sd_note.specs.declared.note.Note.{Note}
use Rattle.sd_daemon.specs.declared.takeover.Takeover.{Takeover}
use Rattle.sd_daemon.specs.declared.takeover.Takeover.TheVariants as takes

-- by its note, unless that says that it is torn
abbrev pub noted_takeover : Note → Option ℕ → Takeover
noted_takeover note None = takes.ByNote note
noted_takeover note (Some at) = takes.Torn at

-- what becomes of a volume by what it was judged to be; by nothing, if its device failed
abbrev pub takeover_of : Option Judgement → Takeover
takeover_of (Some (judged.Noted note)) = noted_takeover note note.torn
takeover_of (Some judged.Whole) = takes.Whole
takeover_of (Some (judged.Damaged at)) = takes.Damaged at
takeover_of (Some judged.NotOurs) = takes.Refused refusal.NotOurVolume
takeover_of (Some judged.NotThere) = takes.Refused refusal.VolumeNotOnShelf
takeover_of None = takes.Refused refusal.DeviceFault

-- what becomes of it if the operator says so: a damaged or torn volume is adopted
abbrev pub asked_takeover : Takeover → Takeover
asked_takeover (takes.Damaged at) = takes.AsAsked
asked_takeover (takes.Torn at) = takes.AsAsked
asked_takeover takeover = takeover

-- its name is its drive's from then on
abbrev pub takes_name : Takeover → Bool
takes_name (takes.Refused why) = false
takes_name takeover = true

-- it is adopted, so its bytes may be cut
abbrev pub is_adopted : Takeover → Bool
is_adopted (takes.ByNote note) = true
is_adopted takes.Whole = true
is_adopted takes.AsAsked = true
is_adopted takeover = false

-- it is adopted though it is damaged
abbrev pub is_as_asked : Takeover → Bool
is_as_asked takes.AsAsked = true
is_as_asked takeover = false

-- where it is damaged or torn, if it isn't adopted for that
abbrev pub damaged_at : Takeover → Option ℕ
damaged_at (takes.Damaged at) = Some at
damaged_at (takes.Torn at) = Some at
damaged_at takeover = None
