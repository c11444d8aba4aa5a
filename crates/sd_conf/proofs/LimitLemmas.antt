-- A table with no fault says a configuration within the limits.
use Rattle.std.proofs.Common.{◌≡◌, ◌≢◌, ◌⊎◌, inl, inr, ℕ, ◌*◌, ◌≤◌, ◌==◌, nat_le, leb-true, lit≤, true, false, ℤ, pos, negsuc, if◌then◌else◌, List, [], ◌∷◌, length, map, All, IsSome, Option, Some, None, unwrap_or, codes, refl, arith, rules}
use Rattle.std.proofs.lemmas.Bool.{cases_Bool, and_parts}
use Rattle.std.proofs.lemmas.Bool.Decides.{nat_tests}
use Rattle.std.proofs.lemmas.List.{length-map}
use Rattle.std.proofs.lemmas.List.Elements.{All-nil, All-cons}
use Rattle.toml.specs.Data.{Data, Members, get_member, as_integer, as_str}
use Rattle.sd_base.specs.Limits.{least_block_limit, most_block, most_volume, most_drives, most_lanes, most_queue}
use Rattle.sd_base.specs.Name.{IsName}
use Rattle.sd_conf.specs.Conf.{IsWithinLimits, IsDriveWithinLimits, conf_of, drive_of}
use Rattle.sd_conf.specs.FirstFault.{Fault, ◌then◌, UnknownKey, FirstFault, OwnFault, At, NameTest, HostTest, MediaTest, FolderTest, LanesTest, BlockTest, VolumeTest, SpoolTest, QueueTest, PortTest, SpoolFolderTest, DriveTest, DriveFault, TablesFault, block_of, spool_of}
use Rattle.sd_conf.specs.Limits.{default_block, default_queue, default_port, default_host, default_lanes, most_port}
use Rattle.sd_conf.specs.Values.{required, optional, is_within, is_spool_limit, integer_fault, number_fault, natural_or, number_or, text_fault, kind_unless, text_at, drives_fault, count_fault, tables_in, tables_at}
use Rattle.sd_conf.specs.declared.fault.FaultKind.{FaultKind}
use Rattle.sd_conf.specs.declared.keys.Level.TheVariants.{Daemon, Drive}

-- if the test of a key finds nothing, nothing is wrong
good : (key : List ℕ) (wrong : Option FaultKind) → At key wrong None → wrong ≡ None
good key None is = refl
good key (Some wrong) is = absurd cc

-- if two tests one after another find nothing, neither of them does
pub passes : (First Others : Option Fault → Type 0) → (First then Others) None → First None × Others None
passes First Others (inl (fault, bad, is)) = absurd cc
passes First Others (inr (none, others)) = (none, others)

-- Numbers.

abbrev IsIn : ℕ → ℕ → ℕ → Type 0
IsIn least most n = (least ≤ n) × (n ≤ most)

inside : (least most n : ℕ) → is_within least most (pos n) ≡ true → IsIn least most n
inside least most n is =
    let (low, high) = and_parts (nat_le least n) (nat_le n most) is in
    (leb-true least n low, leb-true n most high)

integer_in : (least most default : ℕ) (z : Option ℤ) → IsIn least most default → integer_fault (is_within least most) z ≡ None → IsIn least most (natural_or default z)
integer_in least most default None fits none = absurd cc
integer_in least most default (Some (negsuc n)) fits none = absurd cc
integer_in least most default (Some (pos n)) fits none = elim (cases_Bool (is_within least most (pos n))) [
  | inl is ↦ inside least most n is
  | inr past ↦ absurd (let clash = rw past at none in cc)
]

number_in : (least most default : ℕ) (d : Option Data) → IsIn least most default → optional (number_fault (is_within least most)) d ≡ None → IsIn least most (number_or default d)
number_in least most default None fits none = fits
number_in least most default (Some value) fits none = integer_in least most default (as_integer value) fits none

spool_integer : (block : ℕ) (z : Option ℤ) → integer_fault (is_spool_limit block) z ≡ None → (natural_or 0 z ≡ 0) ⊎ IsIn block most_volume (natural_or 0 z)
spool_integer block None none = absurd cc
spool_integer block (Some (negsuc n)) none = absurd cc
spool_integer block (Some (pos n)) none = elim (cases_Bool (is_within 0 0 (pos n))) [
  | inl is ↦ inl (let zero = (inside 0 0 n is).1 in omega arith)
  | inr past ↦ (elim (cases_Bool (is_within block most_volume (pos n))) [
    | inl is ↦ inr (inside block most_volume n is)
    | inr past' ↦ absurd (let clash = rw (past, past') at none in cc)
  ])
]

spool_in : (block : ℕ) (d : Option Data) → optional (number_fault (is_spool_limit block)) d ≡ None → (number_or 0 d ≡ 0) ⊎ IsIn block most_volume (number_or 0 d)
spool_in block None none = inl refl
spool_in block (Some value) none = spool_integer block (as_integer value) none

-- Texts.

text_there : (t : Option (List ℕ)) → kind_unless t ≡ None → IsSome t
text_there None none = absurd cc
text_there (Some text) none = refl

required_there : (d : Option Data) → required text_fault d ≡ None → IsSome (text_at d)
required_there None none = absurd cc
required_there (Some value) none = text_there (as_str value) none

folder_there : (spool : ℕ) (d : Option Data) → (if spool == 0 then optional text_fault d else required text_fault d) ≡ None → spool ≢ 0 → IsSome (text_at d)
folder_there spool d none spools =
    let past : (spool == 0) ≡ false = grind (arith, nat_tests) in
    required_there d (rw past at none)

name_there : (key default : List ℕ) (t : Option (List ℕ)) → NameTest key t None → IsName (unwrap_or t default)
name_there key default None is = absurd cc
name_there key default (Some text) (inl (name, is)) = name
name_there key default (Some text) (inr (never, is)) = absurd cc

media_there : (d : Option Data) → MediaTest d None → IsName (unwrap_or (text_at d) [])
media_there None is = absurd cc
media_there (Some value) is = name_there (codes "media") [] (as_str value) is

host_there : (d : Option Data) → HostTest d None → IsName (unwrap_or (text_at d) default_host)
host_there None is = search rules
host_there (Some value) is = name_there (codes "host") default_host (as_str value) is

-- Drives.

count_in : (tables : Option (List Members)) → count_fault tables ≡ None → IsIn 1 most_drives (length (unwrap_or tables []))
count_in None none = absurd cc
count_in (Some []) none = absurd cc
count_in (Some (table ∷ more)) none = elim (cases_Bool (nat_le (length (table ∷ more)) most_drives)) [
  | inl few ↦ (omega arith, leb-true (length (table ∷ more)) most_drives few)
  | inr many ↦ absurd (let clash = rw many at none in cc)
]

drives_in : (d : Option Data) → required drives_fault d ≡ None → IsIn 1 most_drives (length (tables_at d))
drives_in None none = absurd cc
drives_in (Some value) none = count_in (tables_in value) none

drive_in : (table : Members) → DriveFault table None → IsDriveWithinLimits (drive_of table)
drive_in table none =
    let media = passes (UnknownKey Drive table) (MediaTest (get_member (codes "media") table) then FolderTest table then LanesTest table) none in
    let folder = passes (MediaTest (get_member (codes "media") table)) (FolderTest table then LanesTest table) media.1 in
    let lanes = passes (FolderTest table) (LanesTest table) folder.1 in
    let fits = number_in 1 most_lanes default_lanes (get_member (codes "lanes") table) (omega arith, omega arith) (good _ _ lanes.1) in
    record { media_is = media_there (get_member (codes "media") table) folder.0; lanes_least = fits.0; lanes_most = fits.1 }

tables_within : (tables : List Members) → TablesFault tables None → All IsDriveWithinLimits (map drive_of tables)
tables_within [] none = All-nil IsDriveWithinLimits
tables_within (table ∷ more) none =
    let parts = passes (DriveFault table) (TablesFault more) none in
    All-cons IsDriveWithinLimits (drive_of table) (map drive_of more) (drive_in table parts.0) (tables_within more parts.1)

-- The whole.

pub conf_within : (table : Members) → FirstFault table None → IsWithinLimits (conf_of table)
conf_within table none =
    let drives = TablesFault (tables_at (get_member (codes "drive") table)) in
    let parts = passes (OwnFault table) (DriveTest table then drives) none in
    let p0 = passes (UnknownKey Daemon table) (BlockTest table then VolumeTest table then SpoolTest table then QueueTest table then PortTest table then HostTest (get_member (codes "host") table) then SpoolFolderTest table) parts.0 in
    let p1 = passes (BlockTest table) (VolumeTest table then SpoolTest table then QueueTest table then PortTest table then HostTest (get_member (codes "host") table) then SpoolFolderTest table) p0.1 in
    let p2 = passes (VolumeTest table) (SpoolTest table then QueueTest table then PortTest table then HostTest (get_member (codes "host") table) then SpoolFolderTest table) p1.1 in
    let p3 = passes (SpoolTest table) (QueueTest table then PortTest table then HostTest (get_member (codes "host") table) then SpoolFolderTest table) p2.1 in
    let p4 = passes (QueueTest table) (PortTest table then HostTest (get_member (codes "host") table) then SpoolFolderTest table) p3.1 in
    let p5 = passes (PortTest table) (HostTest (get_member (codes "host") table) then SpoolFolderTest table) p4.1 in
    let p6 = passes (HostTest (get_member (codes "host") table)) (SpoolFolderTest table) p5.1 in
    let p8 = passes (DriveTest table) drives parts.1 in
    let block = number_in least_block_limit most_block default_block (get_member (codes "block") table) (lit≤ tt, lit≤ tt) (good _ _ p1.0) in
    let room : 2 * block_of table ≤ most_volume = omega (arith, block.1) in
    let volume = number_in (2 * block_of table) most_volume most_volume (get_member (codes "volume") table) (room, omega arith) (good _ _ p2.0) in
    let queue = number_in 1 most_queue default_queue (get_member (codes "queue") table) (lit≤ tt, lit≤ tt) (good _ _ p4.0) in
    let port = number_in 1 most_port default_port (get_member (codes "port") table) (lit≤ tt, lit≤ tt) (good _ _ p5.0) in
    let count = drives_in (get_member (codes "drive") table) (good _ _ p8.0) in
    let same = length-map (tables_at (get_member (codes "drive") table)) drive_of in
    record {
      block_least = block.0;
      block_most = block.1;
      volume_least = volume.0;
      volume_most = volume.1;
      spool = spool_in (block_of table) (get_member (codes "spool") table) (good _ _ p3.0);
      queue_least = queue.0;
      queue_most = queue.1;
      port_least = port.0;
      port_most = port.1;
      host_is = host_there (get_member (codes "host") table) p6.0;
      folder_with_spooling = folder_there (spool_of table) (get_member (codes "spool_folder") table) (good _ _ p6.1);
      drives_least = rw same count.0;
      drives_most = rw same count.1;
      drives_within = tables_within (tables_at (get_member (codes "drive") table)) p8.1;
    }
