-- What the worlds of a script are made with.
use Rattle.std.specs.Prelude.{◌≡◌, ℕ, Some, List, [], map, replicate, true}
use Rattle.sd_lane.specs.Queue.{LanesView}
use Rattle.sd_driver.specs.Meaning.{Meaning}
use Rattle.sd_drive.specs.View.{DriveIs}
use Rattle.sd_world.specs.World.{BayView, WorldView}
use Rattle.sd_core.specs.Rounds.{online_flags}
use Rattle.sd_core.specs.Conf.{IsConf, AreQueues, AreStores}
use Rattle.sd_core.specs.Fresh.{AreNewDrives}
use Rattle.sd_tool.specs.declared.making.Room.{Room}
use Rattle.sd_tool.specs.Settings.{ValuesView, drive_count, drives_of}

-- the room is what a world of these settings is made with: its settings, a queue for each drive and a store for each lane
pub record IsRoomOf {Q : Type 0} (lanes_of : Q → LanesView) (v : ValuesView) (room : Room Q) : Type 0 where
  pub conf : IsConf room.conf
  pub block_is : room.conf.block ≡ v.block
  pub volume_is : room.conf.volume ≡ v.volume
  pub spool_is : room.conf.spool ≡ v.spool
  pub queue_is : room.conf.queue ≡ v.queue
  pub drives_are : room.conf.drives.items ≡ drives_of v
  pub host_is : room.conf.host ≡ v.host
  pub queues : AreQueues lanes_of room.conf.queue room.conf.drives.items room.queues.items
  pub stores : AreStores room.conf.drives.items room.stores.items

-- A world that was just made of these settings over these devices, for the run of this time: no session was opened, and
-- all drives are online, each of them new over its device.
pub record StartsAs {D : Type 0} (meaning : D → Meaning) (v : ValuesView) (time : ℕ) (devices : List D) (w : WorldView D) : Type 0 where
  pub block_is : w.limits.block ≡ v.block
  pub volume_is : w.limits.volume ≡ v.volume
  pub spool_is : w.limits.spool ≡ v.spool
  pub time_is : w.limits.time ≡ time
  pub host_is : w.limits.host ≡ v.host
  pub queue_is : w.queue ≡ v.queue
  pub no_session : w.sessions ≡ []
  pub online : online_flags w ≡ replicate (drive_count v) true
  pub drives : List (DriveIs D)
  pub drives_are : AreNewDrives meaning w.limits (drives_of v) devices drives
  pub bays_have : map (λ (b : BayView D). b.drive) w.bays ≡ map Some drives
