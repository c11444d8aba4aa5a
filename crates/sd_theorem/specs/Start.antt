-- What a world is made of, and how it begins.
use Rattle.std.specs.Prelude.{◌≡◌, ℕ, Some, List, Vec, slice_get}
use Rattle.sd_driver.specs.Meaning.{Meaning, IsHonest}
use Rattle.sd_lane.specs.Queue.{LanesView}
use Rattle.sd_spool.specs.Meaning.{Meaning as StoreMeaning, IsHonest as StoreIsHonest}
use Rattle.sd_world.specs.World.{WorldView}
use Rattle.sd_world.specs.Steps.{IsSound}
use Rattle.sd_core.specs.Conf.{limits_of}
use Rattle.sd_core.specs.Fresh.{IsFresh}
use Rattle.sd_core.specs.declared.conf.WorldConf.{WorldConf}

-- what devices, queues and stores of these types are to the daemon
pub record Meanings (D Q S : Type 0) : Type 0 where
  pub device : D → Meaning
  pub queue : Q → LanesView
  pub store : S → StoreMeaning

-- what a world is made of: settings, the time of its run in seconds, and for each drive a device, a queue and its lanes' stores
pub record Start (D Q S Z : Type 0) : Type 0 where
  pub conf : WorldConf
  pub time : ℕ
  pub devices : List D
  pub queues : List Q
  pub spools : List (Vec S Z)

-- the world was just made of these, and is sound: so says whoever makes it
pub record IsMadeOf {D Q S Z : Type 0} (is : Meanings D Q S) (start : Start D Q S Z) (w : WorldView D) : Type 0 where
  pub fresh : IsFresh is.device is.queue is.store (limits_of start.conf start.time) start.conf.queue start.conf.drives.items
      start.devices start.queues start.spools w
  pub sound : IsSound is.device w

-- every device and every store is honest when the world is made of them
pub record StartsHonest {D Q S Z : Type 0} (is : Meanings D Q S) (start : Start D Q S Z) : Type 0 where
  pub devices : (at : ℕ) (device : D) → slice_get start.devices at ≡ Some device → IsHonest (is.device device)
  pub stores : (at place : ℕ) (stores : Vec S Z) (store : S)
      → slice_get start.spools at ≡ Some stores → slice_get stores.items place ≡ Some store → StoreIsHonest (is.store store)
