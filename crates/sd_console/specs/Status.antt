-- The lines of a status, without their newlines.
use Rattle.std.specs.Prelude.{ℕ, List, [], ◌∷◌, ◌++◌, map, codes}
use Rattle.std.specs.Fmt.{decimal}
use Rattle.sd_text.specs.Fields.{joined}
use Rattle.sd_session.specs.declared.status.Status.{Status}
use Rattle.sd_session.specs.declared.status.Status.TheVariants.{Active, Ended, Closed, Cancelled, Failed, Purged}
use Rattle.sd_volume.specs.declared.volume.VolumeStatus.{VolumeStatus}
use Rattle.sd_volume.specs.declared.volume.VolumeStatus.TheVariants.{Append, Full, Error}
use Rattle.sd_machine.specs.declared.view.View.{View}
use Rattle.sd_machine.specs.declared.view.DriveLine.{DriveLine}
use Rattle.sd_machine.specs.declared.view.VolumeLine.{VolumeLine}
use Rattle.sd_machine.specs.declared.view.SessionLine.{SessionLine}
use Rattle.sd_machine.specs.declared.view.Loaded.{Loaded}
use Rattle.sd_machine.specs.declared.view.Loaded.TheVariants.{Offline, Nothing, Volume}

-- what is loaded in a drive
abbrev pub loaded_word : Loaded → List ℕ
loaded_word Offline = codes "offline"
loaded_word Nothing = codes "-"
loaded_word (Volume name) = name

-- whether a volume takes blocks
abbrev pub volume_word : VolumeStatus → List ℕ
volume_word Append = codes "append"
volume_word Full = codes "full"
volume_word Error = codes "error"

-- how far a session is
abbrev pub session_word : Status → List ℕ
session_word Active = codes "active"
session_word Ended = codes "ended"
session_word Closed = codes "closed"
session_word Cancelled = codes "cancelled"
session_word Failed = codes "failed"
session_word Purged = codes "purged"

-- a drive: its number, its media, what is loaded, how many of its lanes aren't free
abbrev pub drive_line : DriveLine → List ℕ
drive_line d =
    joined (codes "drive" ∷ decimal d.drive ∷ d.media ∷ loaded_word d.loaded ∷ decimal d.sessions ∷ [])

-- a volume: its name, its pool, its media, its status, where its blocks end
abbrev pub volume_line : VolumeLine → List ℕ
volume_line v =
    joined (codes "volume" ∷ v.name ∷ v.pool ∷ v.media ∷ volume_word v.status ∷ decimal v.end ∷ [])

-- a session: its ticket, its status, how many records it took
abbrev pub session_line : SessionLine → List ℕ
session_line s =
    joined (codes "session" ∷ decimal s.ticket ∷ session_word s.status ∷ decimal s.records ∷ [])

-- all drives, all volumes, all sessions, each in their order, and that this was all
abbrev pub status_lines : View → List (List ℕ)
status_lines v =
    map drive_line v.drives ++ map volume_line v.volumes ++ map session_line v.sessions
    ++ codes "ok status" ∷ []
