-- What a script sets: its settings, folded in order, and what they come to.
use Rattle.std.specs.Prelude.{ℕ, ◌*◌, ◌≤◌, ◌&&◌, ◌==◌, nat_lt, if◌then◌else◌, Bool, Option, None, Some, List, [], ◌∷◌, ◌++◌, length, map, filter, All, codes}
use Rattle.std.specs.List.{list_any}
use Rattle.sd_base.specs.Limits.{most_drives, most_lanes}
use Rattle.sd_plan.specs.declared.call.Call.{Call}
use Rattle.sd_plan.specs.declared.fail.Fail.{Fail}
use Rattle.sd_script.specs.Grammar.{HasForm, IsSettingWithin}
use Rattle.sd_script.specs.declared.line.ScriptLine.TheVariants.{Set}
use Rattle.sd_script.specs.declared.line.Setting.{Setting}
use Rattle.sd_script.specs.declared.line.Setting.TheVariants as setting
use Rattle.sd_tool.specs.declared.fits.Misfit.{Misfit}
use Rattle.sd_tool.specs.declared.fits.Misfit.TheVariants as misfit

-- What is set: the limit of a block, of a volume and of a spool, in bytes; how many blocks wait before a drive; the time
-- of the run; the host, if there is one; the media and lanes of each drive; the capacities that were given to drives; the
-- calls of drives that fail.
pub record ValuesView : Type 0 where
  pub block : ℕ
  pub volume : ℕ
  pub spool : ℕ
  pub queue : ℕ
  pub time : ℕ
  pub host : Option (List ℕ)
  pub drives : List (List ℕ × ℕ)
  pub capacities : List (ℕ × ℕ)
  pub fails : List (ℕ × Fail Call)

-- what a script sets that has no settings
abbrev pub usual_values : ValuesView
usual_values = record {
  block = 64512;
  volume = 68719476736;
  spool = 0;
  queue = 8;
  time = 1000;
  host = None;
  drives = [];
  capacities = [];
  fails = [];
}

-- the values with this one set: in place of the one before, but that drives, capacities and calls that fail add up
abbrev pub values_with : ValuesView → Setting → ValuesView
values_with v (setting.Block size) = record v { block = size }
values_with v (setting.Volume bytes) = record v { volume = bytes }
values_with v (setting.Spool bytes) = record v { spool = bytes }
values_with v (setting.Queue blocks) = record v { queue = blocks }
values_with v (setting.Time time) = record v { time = time }
values_with v (setting.Host host) = record v { host = Some host }
values_with v (setting.Drive media lanes) = record v { drives = v.drives ++ (media, lanes) ∷ [] }
values_with v (setting.Capacity drive bytes) = record v { capacities = v.capacities ++ (drive, bytes) ∷ [] }
values_with v (setting.Fail drive fail) = record v { fails = v.fails ++ (drive, fail) ∷ [] }

-- the values with these set, one after another
abbrev pub values_after : ValuesView → List Setting → ValuesView
values_after v [] = v
values_after v (s ∷ ss) = values_after (values_with v s) ss

-- each value is one that lines of a script may set
pub record AreSettable (v : ValuesView) : Type 0 where
  pub block : IsSettingWithin (setting.Block v.block)
  pub volume : IsSettingWithin (setting.Volume v.volume)
  pub spool : IsSettingWithin (setting.Spool v.spool)
  pub queue : IsSettingWithin (setting.Queue v.queue)
  pub time : IsSettingWithin (setting.Time v.time)
  pub lanes_least : All (λ (d : List ℕ × ℕ). 1 ≤ d.1) v.drives
  pub lanes_most : All (λ (d : List ℕ × ℕ). d.1 ≤ most_lanes) v.drives

-- the lines are these settings, one after another
abbrev pub AreSettings : List (List ℕ) → List Setting → Type 0
AreSettings [] [] = Unit {0}
AreSettings [] (s ∷ ss) = ⊥
AreSettings (line ∷ lines) [] = ⊥
AreSettings (line ∷ lines) (s ∷ ss) = HasForm line (Set s) × AreSettings lines ss

-- no setting has the form of the line
abbrev pub IsOther : List ℕ → Type 0
IsOther line = (s : Setting) → HasForm line (Set s) → ⊥

-- the media and the lanes of each drive: those that were given, or one drive of media File with 4 lanes
abbrev pub drives_of : ValuesView → List (List ℕ × ℕ)
drives_of v = if nat_lt 0 (length v.drives) then v.drives else (codes "File", 4) ∷ []

-- how many drives there are
abbrev pub drive_count : ValuesView → ℕ
drive_count v = length (drives_of v)

-- there is a spool, and its limit is below that of a block
abbrev pub is_spool_short : ℕ → ℕ → Bool
is_spool_short spool block = nat_lt 0 spool && nat_lt spool block

-- one of these is given to a drive that isn't among the first so many
abbrev pub has_stranger : {T : Type 0} → ℕ → List (ℕ × T) → Bool
has_stranger {T} count given = list_any (λ (g : ℕ × T). nat_lt count g.0) given

-- which setting doesn't go with the others: the first of them that is so
abbrev pub misfit_of : ValuesView → Option Misfit
misfit_of v =
    if nat_lt v.volume (v.block * 2) then Some misfit.Volume
    else if is_spool_short v.spool v.block then Some misfit.Spool
    else if nat_lt most_drives (length v.drives) then Some misfit.Drive
    else if has_stranger (drive_count v) v.capacities then Some misfit.Capacity
    else if has_stranger (drive_count v) v.fails then Some misfit.Fail
    else None

-- so many, by what doesn't fit
abbrev pub drives_due_with : Option Misfit → ValuesView → ℕ
drives_due_with None v = drive_count v
drives_due_with (Some m) v = 0

-- how many drives are made: none if the settings don't go together
abbrev pub drives_due : ValuesView → ℕ
drives_due v = drives_due_with (misfit_of v) v

-- the capacity that was given to the drive last, or else this one
abbrev pub given_capacity : ℕ → ℕ → List (ℕ × ℕ) → ℕ
given_capacity drive before [] = before
given_capacity drive before (c ∷ cs) = given_capacity drive (if c.0 == drive then c.1 else before) cs

-- for how many bytes each volume of the drive has room
abbrev pub capacity_for : ValuesView → ℕ → ℕ
capacity_for v drive = given_capacity drive 1048576 v.capacities

-- of these calls those of the drive
abbrev pub fails_for : ℕ → List (ℕ × Fail Call) → List (Fail Call)
fails_for drive fails = map (λ (f : ℕ × Fail Call). f.1) (filter (λ (f : ℕ × Fail Call). f.0 == drive) fails)

-- the calls of the drive that fail
abbrev pub plan_for : ValuesView → ℕ → List (Fail Call)
plan_for v drive = fails_for drive v.fails

-- the word that the setting begins with
abbrev pub misfit_word : Misfit → List ℕ
misfit_word misfit.Volume = codes "volume"
misfit_word misfit.Spool = codes "spool"
misfit_word misfit.Drive = codes "drive"
misfit_word misfit.Capacity = codes "capacity"
misfit_word misfit.Fail = codes "fail"
