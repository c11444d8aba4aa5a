-- What line the fields spell that are read one after another; apart from how lines are spelled.
use Rattle.std.specs.Prelude.{◌≡◌, ℕ, nat_le, if◌then◌else◌, pos, List, [], length, Option, Some, None, Result, Err, MatchResult}
use Rattle.std.specs.Str.{bytes_eq}
use Rattle.sd_base.specs.Limits.{least_block_limit, most_block, most_data, most_drives, most_lanes, most_number, most_queue, most_volume}
use Rattle.sd_plan.specs.declared.call.Call.{Call}
use Rattle.sd_plan.specs.declared.call.Call.TheVariants as call
use Rattle.sd_plan.specs.declared.fail.When.{When}
use Rattle.sd_plan.specs.declared.fail.When.TheVariants as «when»
use Rattle.sd_script.specs.declared.line.Setting.TheVariants as setting
use Rattle.sd_script.specs.declared.line.ScriptLine.{ScriptLine}
use Rattle.sd_script.specs.declared.line.ScriptLine.TheVariants as line
use Rattle.sd_script.specs.declared.console.ConsoleCmd.TheVariants as console
use Rattle.sd_script.specs.declared.line.LineFault.{LineFault}
use Rattle.sd_script.specs.declared.line.LineFault.TheVariants.{BadCommand, BadName}
use Rattle.sd_script.specs.declared.command.Command.{Command}
use Rattle.sd_script.specs.declared.command.Command.TheVariants.{Block, Volume, SpoolLimit, Queue, Time, Host, Drive, Capacity, Fail, At, Label, Adopt, Mount, Unmount, Seek, Retire, Purge, Open, Rec, Fill, End, Cancel, Spool, Despool, Take, Place, Sync, Close, JobMedia, Read, Again, Drain, Status, Requests, Restart}
use Rattle.sd_script.specs.Grammar.{AreNames, call_text, most_capacity, when_text}
use Rattle.sd_text.specs.Fields.{Fields, joined}
use Rattle.sd_text.specs.Reading.{◌>>=◌, number_at, word_at, all_read, only_number}

-- the last moment, in microseconds
abbrev pub most_moment : ℕ
most_moment = 9223372036854775807

-- the greatest number of 64 bits
abbrev pub most_wide : ℕ
most_wide = 18446744073709551615

-- the line whose shape was read, if its names are names
abbrev pub Gives : Result ScriptLine LineFault → Option ScriptLine → Type 0
Gives result None = result ≡ Err BadCommand
Gives result (Some line) =
    MatchResult result (λ found. (found ≡ line) × AreNames line)
    (λ e. (e ≡ BadName) × (AreNames line → ⊥))

-- the line of `label` that these fields spell, whatever its names are
unfoldable pub label_shape : Fields → Option ScriptLine
label_shape fs = do
  drive ← number_at 1 most_drives fs
  volume ← word_at drive.1
  pool ← word_at volume.1
  media ← word_at pool.1
  all_read (line.Console (console.Label drive.0 volume.0 pool.0 media.0)) media.1

-- the line of `adopt` that these fields spell, whatever its names are
unfoldable pub adopt_shape : Fields → Option ScriptLine
adopt_shape fs = do
  drive ← number_at 1 most_drives fs
  volume ← word_at drive.1
  all_read (line.Console (console.Adopt drive.0 volume.0)) volume.1

-- the line of `mount` that these fields spell, whatever its names are
unfoldable pub mount_shape : Fields → Option ScriptLine
mount_shape fs = do
  drive ← number_at 1 most_drives fs
  volume ← word_at drive.1
  all_read (line.Console (console.Mount drive.0 volume.0)) volume.1

-- the line of `purge` that these fields spell, whatever its names are
unfoldable pub purge_shape : Fields → Option ScriptLine
purge_shape fs = do
  drive ← number_at 1 most_drives fs
  volume ← word_at drive.1
  all_read (line.Console (console.Purge drive.0 volume.0)) volume.1

-- the line of `open` that these fields spell, whatever its names are
unfoldable pub open_shape : Fields → Option ScriptLine
open_shape fs = do
  job ← number_at 1 most_number fs
  pool ← word_at job.1
  media ← word_at pool.1
  all_read (line.Open job.0 pool.0 media.0) media.1

-- the line of `rec` that these fields spell, whose text is all that is left after its numbers
unfoldable pub rec_shape : Fields → Option ScriptLine
rec_shape fs = do
  ticket ← number_at 1 most_number fs
  index ← number_at 1 most_number ticket.1
  stream ← number_at 1 most_number index.1
  if nat_le (length (joined stream.1)) most_data
      then Some (line.Rec ticket.0 index.0 stream.0 (joined stream.1))
      else None

-- the line of `fill` that these fields spell
unfoldable pub fill_shape : Fields → Option ScriptLine
fill_shape fs = do
  ticket ← number_at 1 most_number fs
  index ← number_at 1 most_number ticket.1
  stream ← number_at 1 most_number index.1
  count ← only_number 0 most_data stream.1
  Some (line.Fill ticket.0 index.0 stream.0 count)

-- the line of `host` that these fields spell, whatever its names are
unfoldable pub host_shape : Fields → Option ScriptLine
host_shape fs = do
  host ← word_at fs
  all_read (line.Set (setting.Host host.0)) host.1

-- the line of `drive` that these fields spell, whatever its names are
unfoldable pub drive_shape : Fields → Option ScriptLine
drive_shape fs = do
  media ← word_at fs
  lanes ← only_number 1 most_lanes media.1
  Some (line.Set (setting.Drive media.0 lanes))

-- the line of `capacity` that these fields spell
unfoldable pub capacity_shape : Fields → Option ScriptLine
capacity_shape fs = do
  drive ← number_at 1 most_drives fs
  bytes ← only_number 0 most_capacity drive.1
  Some (line.Set (setting.Capacity drive.0 bytes))

-- the kind of call of a drive that the word spells
abbrev pub call_in : List ℕ → Option Call
call_in word =
    if bytes_eq word (call_text call.Create) then Some call.Create
    else if bytes_eq word (call_text call.Load) then Some call.Load
    else if bytes_eq word (call_text call.Len) then Some call.Len
    else if bytes_eq word (call_text call.Read) then Some call.Read
    else if bytes_eq word (call_text call.Append) then Some call.Append
    else if bytes_eq word (call_text call.Sync) then Some call.Sync
    else if bytes_eq word (call_text call.Cut) then Some call.Cut
    else None

-- how a call fails, as the word spells it
abbrev pub when_in : List ℕ → Option When
when_in word =
    if bytes_eq word (when_text «when».Before) then Some «when».Before
    else if bytes_eq word (when_text «when».Half) then Some «when».Half
    else if bytes_eq word (when_text «when».After) then Some «when».After
    else None

-- the next field, if it is a kind of call
unfoldable pub call_at : Fields → Option (Call × Fields)
call_at fs = do
  word ← word_at fs
  kind ← call_in word.0
  Some (kind, word.1)

-- the next field, if it says how a call fails
unfoldable pub when_at : Fields → Option (When × Fields)
when_at fs = do
  word ← word_at fs
  way ← when_in word.0
  Some (way, word.1)

-- the line of `fail` that these fields spell
unfoldable pub fail_shape : Fields → Option ScriptLine
fail_shape fs = do
  drive ← number_at 1 most_drives fs
  kind ← call_at drive.1
  nth ← number_at 1 most_wide kind.1
  way ← when_at nth.1
  all_read (line.Set (setting.Fail drive.0 (record { call = kind.0; nth = nth.0; when = way.0 }))) way.1

-- the line of `again` that these fields spell
unfoldable pub again_shape : Fields → Option ScriptLine
again_shape fs = do
  time ← number_at 1 most_number fs
  id ← only_number 1 most_number time.1
  Some (line.Again (record { time = time.0; id = id }))

-- the line of `restart` of that time, with what a stop leaves, that these fields spell, whatever its names are
unfoldable pub behind_shape : ℕ → Fields → Option ScriptLine
behind_shape time fs = do
  drive ← number_at 1 most_drives fs
  volume ← word_at drive.1
  count ← only_number 0 most_wide volume.1
  Some (line.Restart time (Some (record { drive = drive.0; volume = volume.0; count = count })))

-- the line of `restart` of that time that these fields spell, whether a field is left or not, whatever its names are
abbrev pub restart_behind : ℕ → Fields → Option ScriptLine
restart_behind time [] = Some (line.Restart time None)
restart_behind time fs = behind_shape time fs

-- the line of `restart` that these fields spell, whatever its names are
unfoldable pub restart_shape : Fields → Option ScriptLine
restart_shape fs = do
  time ← number_at 1 most_number fs
  restart_behind time.0 time.1

-- a line of one number
abbrev pub one_number : ℕ → ℕ → (ℕ → ScriptLine) → Fields → Option ScriptLine
one_number least most made fs = only_number least most fs >>= λ n. Some (made n)

-- the line of a command and the fields after it
abbrev pub shape : Command → Fields → Option ScriptLine
shape Block fs = one_number least_block_limit most_block (λ n. line.Set (setting.Block n)) fs
shape Volume fs = one_number 0 most_volume (λ n. line.Set (setting.Volume n)) fs
shape SpoolLimit fs = one_number 0 most_volume (λ n. line.Set (setting.Spool n)) fs
shape Queue fs = one_number 1 most_queue (λ n. line.Set (setting.Queue n)) fs
shape Time fs = one_number 1 most_number (λ n. line.Set (setting.Time n)) fs
shape Host fs = host_shape fs
shape Drive fs = drive_shape fs
shape Capacity fs = capacity_shape fs
shape Fail fs = fail_shape fs
shape At fs = one_number 0 most_moment (λ n. line.At (pos n)) fs
shape Label fs = label_shape fs
shape Adopt fs = adopt_shape fs
shape Mount fs = mount_shape fs
shape Unmount fs = one_number 1 most_drives (λ n. line.Console (console.Unmount n)) fs
shape Seek fs = one_number 1 most_drives line.Seek fs
shape Retire fs = one_number 1 most_drives (λ n. line.Console (console.Retire n)) fs
shape Purge fs = purge_shape fs
shape Open fs = open_shape fs
shape Rec fs = rec_shape fs
shape Fill fs = fill_shape fs
shape End fs = one_number 1 most_number line.End fs
shape Cancel fs = one_number 1 most_number (λ n. line.Console (console.Cancel n)) fs
shape Spool fs = one_number 1 most_number line.Spool fs
shape Despool fs = one_number 1 most_number line.Despool fs
shape Take fs = one_number 1 most_drives line.Take fs
shape Place fs = one_number 1 most_drives line.Place fs
shape Sync fs = one_number 1 most_drives line.Sync fs
shape Close fs = one_number 1 most_number line.Close fs
shape JobMedia fs = one_number 1 most_number (λ n. line.Console (console.JobMedia n)) fs
shape Read fs = one_number 1 most_number line.Read fs
shape Again fs = again_shape fs
shape Drain fs = all_read line.Drain fs
shape Status fs = all_read (line.Console console.Status) fs
shape Requests fs = all_read (line.Console console.Requests) fs
shape Restart fs = restart_shape fs
