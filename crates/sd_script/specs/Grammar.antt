-- The lines of a script: how each is spelled, and within which limits.
use Rattle.std.specs.Prelude.{◌≡◌, ◌⊎◌, ℕ, ◌^◌, ◌≤◌, ◌<◌, pos, ◌≤ℤ◌, FitsSigned, List, [], ◌∷◌, length, All, Some, None, codes}
use Rattle.std.specs.Int.{w64}
use Rattle.std.specs.List.{AllByRecursion}
use Rattle.std.specs.Fmt.{decimal, signed_decimal}
use Rattle.sd_base.specs.Name.{IsName}
use Rattle.sd_base.specs.Limits.{least_block_limit, most_block, most_data, most_drives, most_lanes, most_queue, most_volume, IsNumber}
use Rattle.sd_base.specs.declared.refusal.Refusal as base
use Rattle.sd_base.specs.declared.refusal.Refusal.TheVariants as refusals
use Rattle.sd_text.specs.Fields.{HasNoBlank, joined}
use Rattle.sd_plan.specs.declared.call.Call.{Call}
use Rattle.sd_plan.specs.declared.call.Call.TheVariants as call
use Rattle.sd_plan.specs.declared.fail.When.{When}
use Rattle.sd_plan.specs.declared.fail.When.TheVariants as «when»
use Rattle.sd_script.specs.declared.line.Part.{Part}
use Rattle.sd_script.specs.declared.line.Part.TheVariants.{Head, Body}
use Rattle.sd_script.specs.declared.line.Setting.{Setting}
use Rattle.sd_script.specs.declared.line.Setting.TheVariants as setting
use Rattle.sd_script.specs.declared.line.ScriptLine.{ScriptLine}
use Rattle.sd_script.specs.declared.line.ScriptLine.TheVariants.{Empty, Set, At, Console, Seek, Open, Rec, Fill, End, Spool, Despool, Take, Place, Sync, Close, Read, Again, Drain, Restart}
use Rattle.sd_script.specs.declared.console.ConsoleCmd.{ConsoleCmd}
use Rattle.sd_script.specs.declared.console.ConsoleCmd.TheVariants.{Label, Adopt, Mount, Unmount, Retire, Purge, Cancel, JobMedia, Status, Requests}
use Rattle.sd_script.specs.declared.line.LineFault.{LineFault}
use Rattle.sd_script.specs.declared.line.LineFault.TheVariants.{BadCommand, BadName}

-- the fields of a line that a console has too
abbrev pub console_fields : ConsoleCmd → List (List ℕ)
console_fields (Label drive volume pool media) =
    codes "label" ∷ decimal drive ∷ volume ∷ pool ∷ media ∷ []
console_fields (Adopt drive volume) = codes "adopt" ∷ decimal drive ∷ volume ∷ []
console_fields (Mount drive volume) = codes "mount" ∷ decimal drive ∷ volume ∷ []
console_fields (Unmount drive) = codes "unmount" ∷ decimal drive ∷ []
console_fields (Retire drive) = codes "retire" ∷ decimal drive ∷ []
console_fields (Purge drive volume) = codes "purge" ∷ decimal drive ∷ volume ∷ []
console_fields (Cancel ticket) = codes "cancel" ∷ decimal ticket ∷ []
console_fields (JobMedia ticket) = codes "jobmedia" ∷ decimal ticket ∷ []
console_fields Status = codes "status" ∷ []
console_fields Requests = codes "requests" ∷ []

-- how a kind of call of a drive is written
abbrev pub call_text : Call → List ℕ
call_text call.Create = codes "create"
call_text call.Load = codes "load"
call_text call.Len = codes "len"
call_text call.Read = codes "read"
call_text call.Append = codes "append"
call_text call.Sync = codes "sync"
call_text call.Cut = codes "cut"

-- how it is written how a call fails
abbrev pub when_text : When → List ℕ
when_text «when».Before = codes "before"
when_text «when».Half = codes "half"
when_text «when».After = codes "after"

-- the fields of a setting
abbrev pub setting_fields : Setting → List (List ℕ)
setting_fields (setting.Block size) = codes "block" ∷ decimal size ∷ []
setting_fields (setting.Volume bytes) = codes "volume" ∷ decimal bytes ∷ []
setting_fields (setting.Spool bytes) = codes "spool" ∷ decimal bytes ∷ []
setting_fields (setting.Queue blocks) = codes "queue" ∷ decimal blocks ∷ []
setting_fields (setting.Time time) = codes "time" ∷ decimal time ∷ []
setting_fields (setting.Host host) = codes "host" ∷ host ∷ []
setting_fields (setting.Drive media lanes) = codes "drive" ∷ media ∷ decimal lanes ∷ []
setting_fields (setting.Capacity drive bytes) =
    codes "capacity" ∷ decimal drive ∷ decimal bytes ∷ []
setting_fields (setting.Fail drive fail) =
    codes "fail" ∷ decimal drive ∷ call_text fail.call ∷ decimal fail.nth ∷ when_text fail.when ∷ []

-- the fields of a line; the last one of `rec` is its text, which may hold blanks
abbrev pub fields : ScriptLine → List (List ℕ)
fields Empty = []
fields (Set s) = setting_fields s
fields (At moment) = codes "at" ∷ signed_decimal moment ∷ []
fields (Console command) = console_fields command
fields (Seek drive) = codes "seek" ∷ decimal drive ∷ []
fields (Open job pool media) = codes "open" ∷ decimal job ∷ pool ∷ media ∷ []
fields (Rec ticket index stream text) =
    codes "rec" ∷ decimal ticket ∷ decimal index ∷ decimal stream ∷ text ∷ []
fields (Fill ticket index stream count) =
    codes "fill" ∷ decimal ticket ∷ decimal index ∷ decimal stream ∷ decimal count ∷ []
fields (End ticket) = codes "end" ∷ decimal ticket ∷ []
fields (Spool ticket) = codes "spool" ∷ decimal ticket ∷ []
fields (Despool ticket) = codes "despool" ∷ decimal ticket ∷ []
fields (Take drive) = codes "take" ∷ decimal drive ∷ []
fields (Place drive) = codes "place" ∷ decimal drive ∷ []
fields (Sync drive) = codes "sync" ∷ decimal drive ∷ []
fields (Close ticket) = codes "close" ∷ decimal ticket ∷ []
fields (Read ticket) = codes "read" ∷ decimal ticket ∷ []
fields (Again key) = codes "again" ∷ decimal key.time ∷ decimal key.id ∷ []
fields Drain = codes "drain" ∷ []
fields (Restart time None) = codes "restart" ∷ decimal time ∷ []
fields (Restart time (Some tail)) =
    codes "restart" ∷ decimal time ∷ decimal tail.drive ∷ tail.volume ∷ decimal tail.count ∷ []

-- how a line is written, without the newline after it
abbrev pub spelling : ScriptLine → List ℕ
spelling line = joined (fields line)

-- a record without data may leave out the blank before them too
abbrev pub IsShorter : List ℕ → ScriptLine → Type 0
IsShorter bytes (Rec ticket index stream []) =
    bytes ≡ joined (codes "rec" ∷ decimal ticket ∷ decimal index ∷ decimal stream ∷ [])
IsShorter bytes line = ⊥

-- the bytes are the line as it is written, or that shorter form of it
abbrev pub IsSpelled : List ℕ → ScriptLine → Type 0
IsSpelled bytes line = (bytes ≡ spelling line) ⊎ IsShorter bytes line

-- the most bytes that a volume of a drive in memory may have room for
abbrev pub most_capacity : ℕ
most_capacity = 67108864

-- the number of a drive: from 1 on
abbrev pub IsDrive : ℕ → Type 0
IsDrive n = (1 ≤ n) × (n ≤ most_drives)

-- the numbers of a console's line are within their limits
abbrev pub IsConsoleWithin : ConsoleCmd → Type 0
IsConsoleWithin (Label drive volume pool media) = IsDrive drive
IsConsoleWithin (Adopt drive volume) = IsDrive drive
IsConsoleWithin (Mount drive volume) = IsDrive drive
IsConsoleWithin (Unmount drive) = IsDrive drive
IsConsoleWithin (Retire drive) = IsDrive drive
IsConsoleWithin (Purge drive volume) = IsDrive drive
IsConsoleWithin (Cancel ticket) = IsNumber ticket
IsConsoleWithin (JobMedia ticket) = IsNumber ticket
IsConsoleWithin Status = Unit {0}
IsConsoleWithin Requests = Unit {0}

-- the numbers of a setting are within their limits
abbrev pub IsSettingWithin : Setting → Type 0
IsSettingWithin (setting.Block size) = (least_block_limit ≤ size) × (size ≤ most_block)
IsSettingWithin (setting.Volume bytes) = bytes ≤ most_volume
IsSettingWithin (setting.Spool bytes) = bytes ≤ most_volume
IsSettingWithin (setting.Queue blocks) = (1 ≤ blocks) × (blocks ≤ most_queue)
IsSettingWithin (setting.Time time) = IsNumber time
IsSettingWithin (setting.Host host) = Unit {0}
IsSettingWithin (setting.Drive media lanes) = (1 ≤ lanes) × (lanes ≤ most_lanes)
IsSettingWithin (setting.Capacity drive bytes) = IsDrive drive × (bytes ≤ most_capacity)
IsSettingWithin (setting.Fail drive fail) = IsDrive drive × (1 ≤ fail.nth) × (fail.nth < 2 ^ 64)

-- the numbers are within their limits, and so is the length of a text
abbrev pub IsWithin : ScriptLine → Type 0
IsWithin Empty = Unit {0}
IsWithin (Set s) = IsSettingWithin s
IsWithin (At moment) = (pos 0 ≤ℤ moment) × FitsSigned w64 moment
IsWithin (Console command) = IsConsoleWithin command
IsWithin (Seek drive) = IsDrive drive
IsWithin (Open job pool media) = IsNumber job
IsWithin (Rec ticket index stream text) =
    IsNumber ticket × IsNumber index × IsNumber stream × (length text ≤ most_data)
IsWithin (Fill ticket index stream count) =
    IsNumber ticket × IsNumber index × IsNumber stream × (count ≤ most_data)
IsWithin (End ticket) = IsNumber ticket
IsWithin (Spool ticket) = IsNumber ticket
IsWithin (Despool ticket) = IsNumber ticket
IsWithin (Take drive) = IsDrive drive
IsWithin (Place drive) = IsDrive drive
IsWithin (Sync drive) = IsDrive drive
IsWithin (Close ticket) = IsNumber ticket
IsWithin (Read ticket) = IsNumber ticket
IsWithin (Again key) = IsNumber key.time × IsNumber key.id
IsWithin Drain = Unit {0}
IsWithin (Restart time None) = IsNumber time
IsWithin (Restart time (Some tail)) =
    IsNumber time × IsDrive tail.drive × (tail.count < 2 ^ 64)

-- the fields of a console's line that are in the place of a name
abbrev pub console_names : ConsoleCmd → List (List ℕ)
console_names (Label drive volume pool media) = volume ∷ pool ∷ media ∷ []
console_names (Adopt drive volume) = volume ∷ []
console_names (Mount drive volume) = volume ∷ []
console_names (Purge drive volume) = volume ∷ []
console_names command = []

-- the fields of a line that are in the place of a name
abbrev pub names : ScriptLine → List (List ℕ)
names (Console command) = console_names command
names (Set (setting.Host host)) = host ∷ []
names (Set (setting.Drive media lanes)) = media ∷ []
names (Open job pool media) = pool ∷ media ∷ []
names (Restart time (Some tail)) = tail.volume ∷ []
names line = []

-- one character or more, none of them a blank
abbrev pub IsWord : List ℕ → Type 0
IsWord text = (0 < length text) × HasNoBlank text

-- what a line has in the places of names are words
abbrev pub AreWords : ScriptLine → Type 0
AreWords line = AllByRecursion IsWord (names line)

-- what a line has in the places of names are names
abbrev pub AreNames : ScriptLine → Type 0
AreNames line = AllByRecursion IsName (names line)

-- the bytes are ASCII and spell this line, whose names may be any words
pub record HasShape (bytes : List ℕ) (line : ScriptLine) : Type 0 where
  pub ascii : All (λ byte. byte < 128) bytes
  pub spelled : IsSpelled bytes line
  pub within : IsWithin line
  pub words : AreWords line

-- the bytes are ASCII and spell this line
pub record HasForm (bytes : List ℕ) (line : ScriptLine) : Type 0 where
  pub ascii : All (λ byte. byte < 128) bytes
  pub spelled : IsSpelled bytes line
  pub within : IsWithin line
  pub names : AreNames line

-- the line belongs there: settings at the head alone, where `spool` is one and no step of a session
abbrev pub StandsIn : Part → ScriptLine → Type 0
StandsIn Head (Spool ticket) = ⊥
StandsIn Head line = Unit {0}
StandsIn Body (Set s) = ⊥
StandsIn Body line = Unit {0}

-- a console has the line too
abbrev pub IsConsole : ScriptLine → Type 0
IsConsole line = (command : ConsoleCmd) × (line ≡ Console command)

-- bytes that have a shape have one in each part of a script
abbrev pub HaveOneShape : Type 0
HaveOneShape = (part : Part) (bytes : List ℕ) (line other : ScriptLine)
    → HasShape bytes line → StandsIn part line
    → HasShape bytes other → StandsIn part other → line ≡ other

-- bytes that have a form have one in each part of a script
abbrev pub HaveOneForm : Type 0
HaveOneForm = (part : Part) (bytes : List ℕ) (line other : ScriptLine)
    → HasForm bytes line → StandsIn part line
    → HasForm bytes other → StandsIn part other → line ≡ other

-- the refusal that a line prints that is none
abbrev pub line_refusal : LineFault → base.Refusal
line_refusal BadCommand = refusals.BadCommand
line_refusal BadName = refusals.BadName
