-- What a scan prints of volumes, and what it comes to.
use Rattle.std.specs.Prelude.{◌≡◌, ℕ, Bool, true, ◌&&◌, List, [], ◌∷◌, ◌++◌, length}
use Rattle.sd_driver.specs.Shelf.{Shelf}
use Rattle.sd_scan.specs.Found.{Found}
use Rattle.sd_scan.specs.Sessions.{AreReports, Keeps, keys_of}
use Rattle.sd_scan.specs.declared.report.Report.{Report}
use Rattle.sd_text.specs.Lines.{line}
use Rattle.sd_scan.specs.Lines.{of_reports, of_volumes, reports_lines, told_text, worse}
use Rattle.sd_scan.specs.Volume.{ScansVolume}
use Rattle.sd_scan.specs.declared.line.ScanLine.TheVariants.{Done}
use Rattle.sd_scan.specs.declared.outcome.Outcome.{Outcome}
use Rattle.sd_scan.specs.declared.sessions.Sessions.{Sessions}
use Rattle.sd_scan.specs.declared.told.Told.{Told}

-- what is printed of the volumes of these names, one after another, and which blocks are found on them before all damage
abbrev pub ScansVolumes : Told → Shelf → List (List ℕ) → List Found → List ℕ → Bool → Type 0
ScansVolumes told shelf [] found due undamaged = (found ≡ []) × (due ≡ []) × (undamaged ≡ true)
ScansVolumes told shelf (name ∷ names) found due undamaged =
    (here : List Found) × (rest : List Found) × (first : List ℕ) × (behind : List ℕ) × (whole : Bool) × (others : Bool)
    × ScansVolume told shelf name here first whole × ScansVolumes told shelf names rest behind others
    × (found ≡ here ++ rest) × (due ≡ first ++ behind) × (undamaged ≡ (whole && others))

-- What is printed of volumes but for the last line, and what is kept of the sessions.
pub record Looks (told : Told) (shelf : Shelf) (names : List (List ℕ)) (due : List ℕ) (outcome : Outcome) (sessions : Sessions) : Type 0 where
  pub found : List Found
  pub front : List ℕ
  pub undamaged : Bool
  pub volumes : ScansVolumes told shelf names found front undamaged
  pub keeps : Keeps found sessions
  pub reports : List Report
  pub reports_are : AreReports found reports
  pub due_is : due ≡ front ++ reports_lines told reports
  pub outcome_is : outcome ≡ worse (of_volumes undamaged) (of_reports reports)

-- What is printed of volumes. First what is damaged of each and what comes after damage; then the sessions of the
-- blocks that were found before all damage, and of no others: of each its line, with the spans of its placements; last
-- how many volumes and sessions there are.
pub record Scans (told : Told) (shelf : Shelf) (names : List (List ℕ)) (due : List ℕ) (outcome : Outcome) : Type 0 where
  pub found : List Found
  pub front : List ℕ
  pub undamaged : Bool
  pub volumes : ScansVolumes told shelf names found front undamaged
  pub reports : List Report
  pub reports_are : AreReports found reports
  pub due_is : due ≡ front ++ (reports_lines told reports ++ line (told_text told (Done (length names) (length (keys_of found)))))
  pub outcome_is : outcome ≡ worse (of_volumes undamaged) (of_reports reports)
