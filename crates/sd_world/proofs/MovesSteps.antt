-- Each move of the world is a step of each machine that it matches; a fresh world matches the empty machine; reading keeps the match.
use Rattle.std.proofs.Common.{refl, ap}
use Rattle.sd_drive.specs.View.{DriveIs}
use Rattle.sd_machine.specs.declared.event.Event.TheVariants.{Open, Append, End, Close, Cancel, Spool, Despool, Take, Place, Sync, Label, Adopt, Mount, Unmount, Seek, Retire, Purge, Media}
use Rattle.sd_world.specs.World.{with_drive}
use Rattle.sd_world.specs.MachineSteps.{MovesAreSteps, ReadingKeepsMatches}
use Rattle.sd_world.proofs.Close.{close_steps}
use Rattle.sd_world.proofs.Despool.{despool_steps}
use Rattle.sd_world.proofs.Drives.{settles_same, drive_frame}
use Rattle.sd_world.proofs.MatchDriveSteps.{drive_steps, retire_steps}
use Rattle.sd_world.proofs.MatchOpenSteps.{open_steps}
use Rattle.sd_world.proofs.MatchPurgeSteps.{purge_steps}
use Rattle.sd_world.proofs.SessionSteps.{append_steps, end_steps, cancel_steps, media_steps, spool_steps}
use Rattle.sd_world.proofs.Sessions.{all_same}

pub moves_steps : {D : Type 0} → MovesAreSteps D
moves_steps meaning old new (Open job pool media moment) reply m rules moves h = open_steps meaning old new job pool media moment reply m rules moves h
moves_steps meaning old new (Append ticket r) reply m rules moves h = append_steps meaning old new ticket r reply m rules moves h
moves_steps meaning old new (End ticket moment) reply m rules moves h = end_steps meaning old new ticket moment reply m rules moves h
moves_steps meaning old new (Close ticket) reply m rules moves h = close_steps meaning old new ticket reply m rules moves h
moves_steps meaning old new (Cancel ticket) reply m rules moves h = cancel_steps meaning old new ticket reply m rules moves h
moves_steps meaning old new (Spool ticket) reply m rules moves h = spool_steps meaning old new ticket reply m rules moves h
moves_steps meaning old new (Despool ticket) reply m rules moves h = despool_steps meaning old new ticket reply m rules moves h
moves_steps meaning old new (Take drive) reply m rules moves h = drive_steps meaning old new drive (Take drive) reply m rules refl moves h
moves_steps meaning old new (Place drive) reply m rules moves h = drive_steps meaning old new drive (Place drive) reply m rules refl moves h
moves_steps meaning old new (Sync drive) reply m rules moves h = drive_steps meaning old new drive (Sync drive) reply m rules refl moves h
moves_steps meaning old new (Label drive name pool media moment) reply m rules moves h = drive_steps meaning old new drive (Label drive name pool media moment) reply m rules refl moves h
moves_steps meaning old new (Adopt drive name) reply m rules moves h = drive_steps meaning old new drive (Adopt drive name) reply m rules refl moves h
moves_steps meaning old new (Mount drive name) reply m rules moves h = drive_steps meaning old new drive (Mount drive name) reply m rules refl moves h
moves_steps meaning old new (Unmount drive) reply m rules moves h = drive_steps meaning old new drive (Unmount drive) reply m rules refl moves h
moves_steps meaning old new (Seek drive) reply m rules moves h = drive_steps meaning old new drive (Seek drive) reply m rules refl moves h
moves_steps meaning old new (Retire drive) reply m rules moves h = retire_steps meaning old new drive reply m rules moves h
moves_steps meaning old new (Purge drive name) reply m rules moves h = purge_steps meaning old new drive name reply m rules moves h
moves_steps meaning old new (Media ticket) reply m rules moves h = media_steps meaning old new ticket reply m rules moves h

pub reading_keeps : {D : Type 0} → ReadingKeepsMatches D
reading_keeps {D} meaning old drive at bay d after m online is keeps h =
    all_same meaning old (with_drive at bay after old) m refl refl refl
    (drive_frame meaning old (with_drive at bay after old) drive at bay d after online refl (λ place honest. honest) keeps
    (settles_same d after (ap (λ (x : DriveIs D). x.journal) is) (ap (λ (x : DriveIs D). x.hand) is))) h
