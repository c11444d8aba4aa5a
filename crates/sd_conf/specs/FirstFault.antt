-- The first fault of a configuration, in the order in which its keys are tested.
use Rattle.std.specs.Prelude.{◌≡◌, ◌⊎◌, ℕ, ◌*◌, ◌==◌, if◌then◌else◌, List, [], ◌∷◌, Option, Some, None, codes}
use Rattle.toml.specs.Data.{Data, Members, get_member, as_str}
use Rattle.sd_base.specs.Limits.{least_block_limit, most_block, most_volume, most_lanes, most_queue}
use Rattle.sd_base.specs.Name.{IsName}
use Rattle.sd_conf.specs.Keys.{AllKnown, IsFirstUnknown}
use Rattle.sd_conf.specs.Limits.{default_block, most_port}
use Rattle.sd_conf.specs.Values.{required, optional, is_within, is_spool_limit, number_fault, number_or, text_fault, drives_fault, tables_at}
use Rattle.sd_conf.specs.declared.fault.FaultKind.{FaultKind}
use Rattle.sd_conf.specs.declared.fault.FaultKind.TheVariants.{Unknown, Missing, Kind, Range}
use Rattle.sd_conf.specs.declared.keys.Level.{Level}
use Rattle.sd_conf.specs.declared.keys.Level.TheVariants.{Daemon, Drive}

-- a key and what is wrong with it
abbrev pub Fault : Type 0
Fault = List ℕ × FaultKind

infixr 10 ◌then◌
-- Tests one after another come to the fault that the first finds, or, if it finds none, to what the
-- others come to.
abbrev pub ◌then◌ : (Option Fault → Type 0) → (Option Fault → Type 0) → Option Fault → Type 0
(First then Others) found =
    ((fault : Fault) × First (Some fault) × (found ≡ Some fault)) ⊎ (First None × Others found)

-- nothing is tested
abbrev pub Nothing : Option Fault → Type 0
Nothing found = found ≡ None

-- the test of one key comes to what is wrong with it
abbrev pub At : List ℕ → Option FaultKind → Option Fault → Type 0
At key None found = found ≡ None
At key (Some wrong) found = found ≡ Some (key, wrong)

-- the test of the keys of a table comes to the least that isn't known there
abbrev pub UnknownKey : Level → Members → Option Fault → Type 0
UnknownKey level table None = AllKnown level table
UnknownKey level table (Some (key, wrong)) = IsFirstUnknown level table key × (wrong ≡ Unknown)

-- the test of a number that may be missing comes to what is wrong with it beside these limits
abbrev pub NumberTest : List ℕ → ℕ → ℕ → Members → Option Fault → Type 0
NumberTest key least most table =
    At key (optional (number_fault (is_within least most)) (get_member key table))

-- what is said of the text at a key, which is to be a name
abbrev pub NameTest : List ℕ → Option (List ℕ) → Option Fault → Type 0
NameTest key None found = found ≡ Some (key, Kind)
NameTest key (Some text) found =
    (IsName text × (found ≡ None)) ⊎ ((IsName text → ⊥) × (found ≡ Some (key, Range)))

-- The tests of the keys in the table of a drive.

-- the media is required, a name
abbrev pub MediaTest : Option Data → Option Fault → Type 0
MediaTest None found = found ≡ Some (codes "media", Missing)
MediaTest (Some value) found = NameTest (codes "media") (as_str value) found

-- the folder is required, a text
abbrev pub FolderTest : Members → Option Fault → Type 0
FolderTest table = At (codes "folder") (required text_fault (get_member (codes "folder") table))

-- the lanes may be missing
abbrev pub LanesTest : Members → Option Fault → Type 0
LanesTest table =
    NumberTest (codes "lanes") 1 most_lanes table

-- the first fault in the table of a drive
abbrev pub DriveFault : Members → Option Fault → Type 0
DriveFault table =
    UnknownKey Drive table
    then MediaTest (get_member (codes "media") table)
    then FolderTest table
    then LanesTest table

-- the first fault in the tables of drives, table by table
abbrev pub TablesFault : List Members → Option Fault → Type 0
TablesFault [] = Nothing
TablesFault (table ∷ more) = DriveFault table then TablesFault more

-- The tests of the keys of the configuration itself.

-- the block limit that it gives
abbrev pub block_of : Members → ℕ
block_of table = number_or default_block (get_member (codes "block") table)

-- the spool limit that it gives
abbrev pub spool_of : Members → ℕ
spool_of table = number_or 0 (get_member (codes "spool") table)

-- a block limit within the limits of blocks
abbrev pub BlockTest : Members → Option Fault → Type 0
BlockTest table =
    NumberTest (codes "block") least_block_limit most_block table

-- a volume has room for two blocks
abbrev pub VolumeTest : Members → Option Fault → Type 0
VolumeTest table =
    NumberTest (codes "volume") (2 * block_of table) most_volume table

-- no spooling, or room for a block
abbrev pub SpoolTest : Members → Option Fault → Type 0
SpoolTest table =
    At (codes "spool")
    (optional (number_fault (is_spool_limit (block_of table))) (get_member (codes "spool") table))

-- a queue of one block at least
abbrev pub QueueTest : Members → Option Fault → Type 0
QueueTest table =
    NumberTest (codes "queue") 1 most_queue table

-- a port other than 0
abbrev pub PortTest : Members → Option Fault → Type 0
PortTest table =
    NumberTest (codes "port") 1 most_port table

-- the host may be missing; else it is a name
abbrev pub HostTest : Option Data → Option Fault → Type 0
HostTest None found = found ≡ None
HostTest (Some value) found = NameTest (codes "host") (as_str value) found

-- a folder for the spools is required with spooling
abbrev pub SpoolFolderTest : Members → Option Fault → Type 0
SpoolFolderTest table =
    At (codes "spool_folder") (if spool_of table == 0
    then optional text_fault (get_member (codes "spool_folder") table)
    else required text_fault (get_member (codes "spool_folder") table))

-- there are drives, and not too many
abbrev pub DriveTest : Members → Option Fault → Type 0
DriveTest table = At (codes "drive") (required drives_fault (get_member (codes "drive") table))

-- The first fault in the configuration's own keys, but for its drives. The keys that aren't known come
-- first, then the others in this order.
abbrev pub OwnFault : Members → Option Fault → Type 0
OwnFault table =
    UnknownKey Daemon table
    then BlockTest table
    then VolumeTest table
    then SpoolTest table
    then QueueTest table
    then PortTest table
    then HostTest (get_member (codes "host") table)
    then SpoolFolderTest table

-- The first fault of a configuration, or none. Its own keys come first, then the drives, then what is
-- in their tables.
abbrev pub FirstFault : Members → Option Fault → Type 0
FirstFault table =
    OwnFault table
    then DriveTest table
    then TablesFault (tables_at (get_member (codes "drive") table))
