-- What a scan finds on volumes: the blocks of their images, and, apart from these, what comes after damage.
use Rattle.std.specs.Prelude.{◌≡◌, ◌⊎◌, ℕ, ◌<◌, ◌≤◌, Bool, nat_eq, List, [], ◌∷◌, ◌++◌, length, drop, Some}
use Rattle.sd_driver.specs.Shelf.{Held, Shelf}
use Rattle.sd_scan.specs.Found.{Found}
use Rattle.sd_scan.specs.Sessions.{AreReports}
use Rattle.sd_scan.specs.declared.report.Report.{Report}
use Rattle.sd_label.specs.declared.label.VolumeLabel.{VolumeLabel}
use Rattle.sd_volume.specs.Adopt.{IsLabelled}
use Rattle.sd_volume.specs.Image.{Block, WholeImage, label_block, volume_end}
use Rattle.sd_text.specs.Lines.{line}
use Rattle.sd_scan.specs.Kind.{IsKind}
use Rattle.sd_scan.specs.Lines.{reports_lines, told_text}
use Rattle.sd_scan.specs.Run.{IsFirstWhole, NoneBetween, RunTo, found_from}
use Rattle.sd_scan.specs.declared.kind.Kind.{Kind}
use Rattle.sd_scan.specs.declared.line.ScanLine.TheVariants.{Volume, Damage, Behind}
use Rattle.sd_scan.specs.declared.told.Told.{Told}

-- the bytes are a volume of this name, whose image has just these blocks, and ends there
pub record FindsImage (name bytes : List ℕ) (found : List Found) (end : ℕ) : Type 0 where
  pub label : VolumeLabel
  pub blocks : List Block
  pub tail : List ℕ
  pub labelled : IsLabelled name bytes label
  pub whole : WholeImage bytes label blocks tail
  pub found_is : found ≡ found_from name (length (label_block label)) blocks
  pub end_is : end ≡ volume_end label blocks

-- What is found on a volume before all damage: the blocks of its image, which ends there; if no label of its name
-- begins it, none.
abbrev pub FindsOn : List ℕ → List ℕ → List Found → ℕ → Type 0
FindsOn name bytes found end =
    FindsImage name bytes found end ⊎ (((label : VolumeLabel) → ¬ IsLabelled name bytes label) × (found ≡ []) × (end ≡ 0))

-- What is printed of the blocks that lie one after another from a whole block on: where it lies, and what is told of
-- their sessions, by these blocks alone.
pub record TellsRun (told : Told) (name bytes : List ℕ) (at number end : ℕ) (due : List ℕ) : Type 0 where
  pub blocks : List Block
  pub run : RunTo bytes at number blocks end
  pub reports : List Report
  pub reports_are : AreReports (found_from name at blocks) reports
  pub due_is : due ≡ line (told_text told (Behind name at)) ++ reports_lines told reports

-- the line of damage at a place of a volume
abbrev pub damage_line : Told → List ℕ → ℕ → Kind → List ℕ
damage_line told name at kind = line (told_text told (Damage name at kind))

-- a part of a volume after damage: of which kind that is, where the first whole block after it lies, with which number,
-- where the blocks end that lie one after another from there on, and what is printed of them
pub record Region : Type 0 where
  pub kind : Kind
  pub at : ℕ
  pub number : ℕ
  pub end : ℕ
  pub due : List ℕ

-- what lies from `from` on, where there is no block that is due
pub record IsRegion (told : Told) (name bytes : List ℕ) (from : ℕ) (r : Region) : Type 0 where
  pub within : from < length bytes
  pub kind_is : IsKind (drop from bytes) r.kind
  pub first : IsFirstWhole bytes from r.at r.number
  pub tells : TellsRun told name bytes r.at r.number r.end r.due

-- What is printed of a volume from `from` on, where there is no block that is due: nothing at its end; else a region,
-- and what is printed from its end on; or damage, after which there is no whole block.
abbrev pub TellsBehind : Told → List ℕ → List ℕ → ℕ → List Region → List ℕ → Type 0
TellsBehind told name bytes from [] due =
    ((length bytes ≤ from) × (due ≡ []))
    ⊎ ((from < length bytes) × ((kind : Kind) × IsKind (drop from bytes) kind × NoneBetween bytes from (length bytes) × (due ≡ damage_line told name from kind)))
TellsBehind told name bytes from (r ∷ rs) due =
    IsRegion told name bytes from r × ((rest : List ℕ) × TellsBehind told name bytes r.end rs rest × (due ≡ damage_line told name from r.kind ++ (r.due ++ rest)))

-- What is printed of a volume, and which blocks are found on it before all damage. It is undamaged if these reach to
-- its end.
pub record ScansVolume (told : Told) (shelf : Shelf) (name : List ℕ) (found : List Found) (due : List ℕ) (undamaged : Bool) : Type 0 where
  pub held : Held
  pub there : shelf.volume name ≡ Some held
  pub end : ℕ
  pub finds : FindsOn name held.bytes found end
  pub regions : List Region
  pub behind : List ℕ
  pub tells : TellsBehind told name held.bytes end regions behind
  pub due_is : due ≡ line (told_text told (Volume name (length held.bytes))) ++ behind
  pub undamaged_is : undamaged ≡ nat_eq end (length held.bytes)
