-- The words that lines begin with, and where in a script lines of each belong.
use Rattle.std.specs.Prelude.{ℕ, ◌&&◌, Bool, true, false, not, if◌then◌else◌, List, codes}
use Rattle.sd_script.specs.declared.command.Command.{Command}
use Rattle.sd_script.specs.declared.command.Command.TheVariants.{Block, Volume, SpoolLimit, Queue, Time, Host, Drive, Capacity, Fail, At, Label, Adopt, Mount, Unmount, Seek, Retire, Purge, Open, Rec, Fill, End, Cancel, Spool, Despool, Take, Place, Sync, Close, JobMedia, Read, Again, Drain, Status, Requests, Restart}
use Rattle.sd_script.specs.declared.line.Part.{Part}
use Rattle.sd_script.specs.declared.line.Part.TheVariants.{Head, Body}

-- how a command is written
abbrev pub command_text : Command → List ℕ
command_text Block = codes "block"
command_text Volume = codes "volume"
command_text SpoolLimit = codes "spool"
command_text Queue = codes "queue"
command_text Time = codes "time"
command_text Host = codes "host"
command_text Drive = codes "drive"
command_text Capacity = codes "capacity"
command_text Fail = codes "fail"
command_text At = codes "at"
command_text Label = codes "label"
command_text Adopt = codes "adopt"
command_text Mount = codes "mount"
command_text Unmount = codes "unmount"
command_text Seek = codes "seek"
command_text Retire = codes "retire"
command_text Purge = codes "purge"
command_text Open = codes "open"
command_text Rec = codes "rec"
command_text Fill = codes "fill"
command_text End = codes "end"
command_text Cancel = codes "cancel"
command_text Spool = codes "spool"
command_text Despool = codes "despool"
command_text Take = codes "take"
command_text Place = codes "place"
command_text Sync = codes "sync"
command_text Close = codes "close"
command_text JobMedia = codes "jobmedia"
command_text Read = codes "read"
command_text Again = codes "again"
command_text Drain = codes "drain"
command_text Status = codes "status"
command_text Requests = codes "requests"
command_text Restart = codes "restart"

-- a command that sets what the world is made with
abbrev pub is_setting : Command → Bool
is_setting Block = true
is_setting Volume = true
is_setting SpoolLimit = true
is_setting Queue = true
is_setting Time = true
is_setting Host = true
is_setting Drive = true
is_setting Capacity = true
is_setting Fail = true
is_setting command = false

-- the step of a session that has the word of a setting
abbrev pub is_spool : Command → Bool
is_spool Spool = true
is_spool command = false

-- no line but settings came before
abbrev pub is_head : Part → Bool
is_head Head = true
is_head Body = false

-- lines of the command belong there: settings at the head alone, and `spool` as a step after it alone
abbrev pub stands : Part → Command → Bool
stands part command =
    if is_setting command then is_head part else not (is_spool command && is_head part)

-- a console has lines of these commands too
abbrev pub is_console : Command → Bool
is_console Label = true
is_console Adopt = true
is_console Mount = true
is_console Unmount = true
is_console Retire = true
is_console Purge = true
is_console Cancel = true
is_console JobMedia = true
is_console Status = true
is_console Requests = true
is_console command = false
