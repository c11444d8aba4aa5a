-- What a configuration says, and how a text is one.
use Rattle.std.specs.Prelude.{◌≡◌, ◌⊎◌, ◌≢◌, ℕ, ◌*◌, ◌≤◌, All, List, [], length, map, Option, Some, None, codes, unwrap_or, IsSome}
use Rattle.toml.specs.Data.{Members, get_member}
use Rattle.toml.specs.Parse.{parse_document}
use Rattle.sd_base.specs.Limits.{least_block_limit, most_block, most_volume, most_drives, most_lanes, most_queue}
use Rattle.sd_base.specs.Name.{IsName}
use Rattle.sd_conf.specs.FirstFault.{Fault, FirstFault, block_of, spool_of}
use Rattle.sd_conf.specs.Limits.{default_queue, default_port, most_port, default_host, default_lanes}
use Rattle.sd_conf.specs.Values.{number_or, text_at, tables_at}
use Rattle.sd_conf.specs.declared.conf.Conf.{Conf}
use Rattle.sd_conf.specs.declared.conf.DriveConf.{DriveConf}
use Rattle.sd_conf.specs.declared.conf.OwnConf.{OwnConf}
use Rattle.sd_conf.specs.declared.fault.FaultKind.{FaultKind}

-- what the table of a drive says
abbrev pub drive_of : Members → DriveConf
drive_of table = record {
  media = unwrap_or (text_at (get_member (codes "media") table)) [];
  folder = unwrap_or (text_at (get_member (codes "folder") table)) [];
  lanes = number_or default_lanes (get_member (codes "lanes") table);
}

-- what a table says in its own keys but for the drives, if it has no fault there
abbrev pub own_of : Members → OwnConf
own_of table = record {
  block = block_of table;
  volume = number_or most_volume (get_member (codes "volume") table);
  spool = spool_of table;
  queue = number_or default_queue (get_member (codes "queue") table);
  port = number_or default_port (get_member (codes "port") table);
  host = unwrap_or (text_at (get_member (codes "host") table)) default_host;
  spool_folder = text_at (get_member (codes "spool_folder") table);
}

-- what a table says as a configuration, if it has no fault
abbrev pub conf_of : Members → Conf
conf_of table = record {
  block = (own_of table).block;
  volume = (own_of table).volume;
  spool = (own_of table).spool;
  queue = (own_of table).queue;
  port = (own_of table).port;
  host = (own_of table).host;
  spool_folder = (own_of table).spool_folder;
  drives = map drive_of (tables_at (get_member (codes "drive") table));
}

-- the table is this configuration: it has no fault, and says these values
pub record IsConf (table : Members) (conf : Conf) : Type 0 where
  pub no_fault : FirstFault table None
  pub says : conf ≡ conf_of table

-- the text is TOML, and its table is this configuration
abbrev pub IsConfText : List ℕ → Conf → Type 0
IsConfText text conf = (table : Members) × (parse_document text ≡ Some table) × IsConf table conf

-- the text is TOML, and its table has this fault first
abbrev pub HasFirstFault : List ℕ → List ℕ → FaultKind → Type 0
HasFirstFault text key wrong =
    (table : Members) × (parse_document text ≡ Some table) × FirstFault table (Some (key, wrong))

-- a drive has a media with a name, a lane at least, and no more than it may have
pub record IsDriveWithinLimits (drive : DriveConf) : Type 0 where
  pub media_is : IsName drive.media
  pub lanes_least : 1 ≤ drive.lanes
  pub lanes_most : drive.lanes ≤ most_lanes

-- the numbers of a configuration are within their limits, and it has what goes with them
pub record IsWithinLimits (conf : Conf) : Type 0 where
  pub block_least : least_block_limit ≤ conf.block
  pub block_most : conf.block ≤ most_block
  pub volume_least : 2 * conf.block ≤ conf.volume
  pub volume_most : conf.volume ≤ most_volume
  pub spool : (conf.spool ≡ 0) ⊎ ((conf.block ≤ conf.spool) × (conf.spool ≤ most_volume))
  pub queue_least : 1 ≤ conf.queue
  pub queue_most : conf.queue ≤ most_queue
  pub port_least : 1 ≤ conf.port
  pub port_most : conf.port ≤ most_port
  pub host_is : IsName conf.host
  pub folder_with_spooling : conf.spool ≢ 0 → IsSome conf.spool_folder
  pub drives_least : 1 ≤ length conf.drives
  pub drives_most : length conf.drives ≤ most_drives
  pub drives_within : All IsDriveWithinLimits conf.drives

-- Laws.

-- a table has one first fault, or none
abbrev pub FirstFaultIsOne : Type 0
FirstFaultIsOne = (table : Members) (found other : Option Fault)
    → FirstFault table found → FirstFault table other → found ≡ other
