-- What a world tells of itself.
use Rattle.std.specs.Prelude.{ℕ, ◌+◌, Option, List, [], ◌∷◌, map, if◌then◌else◌}
use Rattle.std.specs.Option.{option_map, option_map_or}
use Rattle.std.specs.List.{flat_map}
use Rattle.sd_drive.specs.View.{DriveIs, name_loaded}
use Rattle.sd_session.specs.declared.status.Status.{Status}
use Rattle.sd_machine.specs.declared.view.DriveLine.{DriveLine}
use Rattle.sd_machine.specs.declared.view.Loaded.{Loaded}
use Rattle.sd_machine.specs.declared.view.Loaded.TheVariants.{Offline, Nothing, Volume}
use Rattle.sd_machine.specs.declared.view.SessionLine.{SessionLine}
use Rattle.sd_machine.specs.declared.view.View.{View}
use Rattle.sd_machine.specs.declared.view.VolumeLine.{VolumeLine}
use Rattle.sd_volume.specs.Volume.{VolumeView}
use Rattle.sd_world.specs.Drives.{is_running}
use Rattle.sd_world.specs.World.{WorldView, WorldSession, BayView, session_at, busy_lanes}

-- the status of the session of a ticket
abbrev pub status_at : ℕ → List WorldSession → Option Status
status_at ticket sessions = option_map (λ e. e.session.status) (session_at ticket sessions)

-- the tickets of the sessions that go on, by rising number
abbrev pub running_tickets : List WorldSession → List ℕ
running_tickets [] = []
running_tickets (e ∷ es) = if is_running e.session.status then e.session.key.id ∷ running_tickets es else running_tickets es

-- the device of a drive that is online
abbrev pub device_of : {D : Type 0} → Option (DriveIs D) → List D
device_of drive = option_map_or (λ d. d.device ∷ []) drive []

-- the devices of the drives that are online, by rising number
abbrev pub devices_of : {D : Type 0} → List (BayView D) → List D
devices_of bays = flat_map (λ b. device_of b.drive) bays

-- A view: for each drive its number, its media, what is loaded in it, and how many of its lanes aren't free.

-- what is loaded in a drive, which is offline once it is retired
abbrev pub loaded_in : {D : Type 0} → Option (DriveIs D) → Loaded
loaded_in drive = option_map_or (λ d. option_map_or Volume (name_loaded d.volumes d.loaded) Nothing) drive Offline

-- the line of the drive in this bay, which is at this place
abbrev pub drive_line : {D : Type 0} → List WorldSession → ℕ → BayView D → DriveLine
drive_line sessions at bay = record {
  drive = at + 1;
  media = bay.media;
  loaded = loaded_in bay.drive;
  sessions = busy_lanes sessions bay.drive bay.lanes;
}

-- the lines of the drives, whose bays are from this place on
abbrev pub drive_lines : {D : Type 0} → List WorldSession → ℕ → List (BayView D) → List DriveLine
drive_lines sessions at [] = []
drive_lines sessions at (b ∷ bs) = drive_line sessions at b ∷ drive_lines sessions (at + 1) bs

-- For each volume its name, pool, media, status and end.

-- the line of a volume
abbrev pub volume_line : VolumeView → VolumeLine
volume_line v = record { name = v.name; pool = v.pool; media = v.media; status = v.status; end = v.end }

-- the lines of the volumes of a drive that is online
abbrev pub lines_of : {D : Type 0} → Option (DriveIs D) → List VolumeLine
lines_of drive = option_map_or (λ d. map volume_line d.volumes) drive []

-- the lines of all volumes, in the order of the drives, and of labelling and adoption
abbrev pub volume_lines : {D : Type 0} → List (BayView D) → List VolumeLine
volume_lines bays = flat_map (λ b. lines_of b.drive) bays

-- For each session its ticket, its status and how many records it took.

-- the line of a session
abbrev pub session_line : WorldSession → SessionLine
session_line e = record { ticket = e.session.key.id; status = e.session.status; records = e.session.count }

-- what a world shows
abbrev pub view_of : {D : Type 0} → WorldView D → View
view_of w = record {
  drives = drive_lines w.sessions 0 w.bays;
  volumes = volume_lines w.bays;
  sessions = map session_line w.sessions;
}
