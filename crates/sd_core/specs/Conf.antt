-- Which settings a world may have, and which queues and stores fit them.
use Rattle.std.specs.Prelude.{◌≡◌, ◌≢◌, ℕ, ◌*◌, ◌≤◌, List, [], length, All, Vec}
use Rattle.std.specs.List.{AllZip}
use Rattle.sd_base.specs.Limits.{least_block_limit, most_block, most_volume, most_drives, most_lanes, most_queue}
use Rattle.sd_drive.specs.declared.limits.Limits.{Limits}
use Rattle.sd_lane.specs.Queue.{LanesView}
use Rattle.sd_core.specs.declared.conf.WorldConf.{WorldConf}

-- The settings are those that a world may have: each limit is in its bounds, a volume has room for two blocks, a spool, if there
-- is one, for a block, a queue for a piece; there is a drive, each has a lane, and there are not too many of either.
pub record IsConf (conf : WorldConf) : Type 0 where
  pub block_least : least_block_limit ≤ conf.block
  pub block_most : conf.block ≤ most_block
  pub volume_least : 2 * conf.block ≤ conf.volume
  pub volume_most : conf.volume ≤ most_volume
  pub spool_least : conf.spool ≢ 0 → conf.block ≤ conf.spool
  pub spool_most : conf.spool ≤ most_volume
  pub queue_least : 1 ≤ conf.queue
  pub queue_most : conf.queue ≤ most_queue
  pub drives_least : 1 ≤ length conf.drives.items
  pub drives_most : length conf.drives.items ≤ most_drives
  pub lanes_least : All (λ d. 1 ≤ d.1) conf.drives.items
  pub lanes_most : All (λ d. d.1 ≤ most_lanes) conf.drives.items

-- the limits of these settings, in the run of this time
abbrev pub limits_of : WorldConf → ℕ → Limits
limits_of conf time = record { block = conf.block; volume = conf.volume; spool = conf.spool; time = time; host = conf.host }

-- a queue of so many lanes that has room for so many pieces, and holds none
abbrev pub empty_queue : ℕ → ℕ → LanesView
empty_queue lanes capacity = record { lanes = lanes; capacity = capacity; held = [] }

-- there is a queue for each drive: empty, with its lanes, and with room for so many pieces
abbrev pub AreQueues : {Q : Type 0} → (Q → LanesView) → ℕ → List (List ℕ × ℕ) → List Q → Type 0
AreQueues queue room drives queues = AllZip (λ (d : List ℕ × ℕ) q. queue q ≡ empty_queue d.1 room) drives queues

-- there is a list of stores for each drive: one for each of its lanes
abbrev pub AreStores : {S Z : Type 0} → List (List ℕ × ℕ) → List (Vec S Z) → Type 0
AreStores drives spools = AllZip (λ (d : List ℕ × ℕ) (s : Vec _ _). length s.items ≡ d.1) drives spools
