-- The keys of a configuration, one after another.
use Rattle.std.proofs.Common.{◌≡◌, ℕ, ◌*◌, ◌==◌, if◌then◌else◌, List, Option, Some, Result, Err, codes, refl, subst}
use Rattle.toml.specs.Data.{Members, get_member}
use Rattle.sd_base.specs.Limits.{most_volume}
use Rattle.sd_conf.specs.Conf.{conf_of, own_of}
use Rattle.sd_conf.specs.FirstFault.{Fault, At, block_of, spool_of, VolumeTest, SpoolTest, SpoolFolderTest}
use Rattle.sd_conf.specs.Told.{Tells}
use Rattle.sd_conf.specs.Values.{required, optional, is_within, is_spool_limit, number_fault, number_or, text_at, text_fault}
use Rattle.sd_conf.specs.declared.conf.Conf.{Conf}
use Rattle.sd_conf.specs.declared.conf.DriveConf.{DriveConf}
use Rattle.sd_conf.specs.declared.conf.OwnConf.{OwnConf}
use Rattle.sd_conf.specs.declared.fault.ConfFault.{ConfFault}
use Rattle.sd_conf.specs.declared.fault.ConfFault.TheVariants.{Text, Key, Memory}

-- a fault that a test finds is the first of all, if all tests before it find none
pub first_fails : {A B : Type 0} (Test All : Option Fault → Type 0) (value : A) (other : B) (fault : ConfFault)
    → ((found : Fault) → Test (Some found) → All (Some found)) → Tells Test value (Err fault) → Tells All other (Err fault)
first_fails Test All value other (Key key wrong) first told = first (key, wrong) told
first_fails Test All value other Memory first told = tt
first_fails Test All value other Text first told = absurd told

-- the limits of a volume beside the block limit that was read
pub volume_beside : (table : Members) (block : ℕ) (result : Result ℕ ConfFault) → block ≡ block_of table
    → Tells (At (codes "volume") (optional (number_fault (is_within (2 * block) most_volume)) (get_member (codes "volume") table))) (number_or most_volume (get_member (codes "volume") table)) result
    → Tells (VolumeTest table) (number_or most_volume (get_member (codes "volume") table)) result
volume_beside table block result same told =
    let P : ℕ → Type 0 = λ b. Tells (At (codes "volume") (optional (number_fault (is_within (2 * b) most_volume)) (get_member (codes "volume") table))) (number_or most_volume (get_member (codes "volume") table)) result in
    subst P same told

-- the limits of the spools beside it
pub spool_beside : (table : Members) (block : ℕ) (result : Result ℕ ConfFault) → block ≡ block_of table
    → Tells (At (codes "spool") (optional (number_fault (is_spool_limit block)) (get_member (codes "spool") table))) (spool_of table) result
    → Tells (SpoolTest table) (spool_of table) result
spool_beside table block result same told =
    let P : ℕ → Type 0 = λ b. Tells (At (codes "spool") (optional (number_fault (is_spool_limit b)) (get_member (codes "spool") table))) (spool_of table) result in
    subst P same told

-- the folder of the spools beside the spool limit that was read
pub folder_beside : (table : Members) (spool : ℕ) (result : Result (Option (List ℕ)) ConfFault) → spool ≡ spool_of table
    → Tells (At (codes "spool_folder") (if spool == 0
    then optional text_fault (get_member (codes "spool_folder") table)
    else required text_fault (get_member (codes "spool_folder") table))) (text_at (get_member (codes "spool_folder") table)) result
    → Tells (SpoolFolderTest table) (text_at (get_member (codes "spool_folder") table)) result
folder_beside table spool result same told =
    let P : ℕ → Type 0 = λ s. Tells (At (codes "spool_folder") (if s == 0
    then optional text_fault (get_member (codes "spool_folder") table)
    else required text_fault (get_member (codes "spool_folder") table))) (text_at (get_member (codes "spool_folder") table)) result in
    subst P same told

-- what was read at each key is what the table says
pub own_read : (table : Members) (block volume spool queue port : ℕ) (host : List ℕ) (spool_folder : Option (List ℕ))
    → block ≡ (own_of table).block → volume ≡ (own_of table).volume → spool ≡ (own_of table).spool → queue ≡ (own_of table).queue
    → port ≡ (own_of table).port → host ≡ (own_of table).host → spool_folder ≡ (own_of table).spool_folder
    → let own : OwnConf = record { block = block; volume = volume; spool = spool; queue = queue; port = port; host = host; spool_folder = spool_folder } in own ≡ own_of table
own_read table block volume spool queue port host spool_folder b v s q p h f = rw (b, v, s, q, p, h, f) refl

-- with its drives it is a configuration
pub conf_read : (table : Members) (own : OwnConf) (drives : List DriveConf) → own ≡ own_of table → drives ≡ (conf_of table).drives
    → let conf : Conf = record { block = own.block; volume = own.volume; spool = own.spool; queue = own.queue; port = own.port; host = own.host; spool_folder = own.spool_folder; drives = drives } in
    conf ≡ conf_of table
conf_read table own drives same d = rw (same, d) refl
