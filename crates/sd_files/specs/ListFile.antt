-- The listing of the volume that is the file at a path.
use Rattle.std.specs.Prelude.{◌≡◌, ◌⊎◌, ℕ, List}
use Rattle.sd_base.specs.Name.{IsName}
use Rattle.sd_base.specs.Refusal.{refusal_text}
use Rattle.sd_base.specs.declared.refusal.Refusal.TheVariants.{BadName}
use Rattle.sd_driver.specs.Meaning.{Meaning}
use Rattle.sd_text.specs.Says.{SaidView, Says}
use Rattle.sd_text.specs.Lines.{line}
use Rattle.sd_files.specs.Path.{IsPlaceOf}
use Rattle.sd_files.specs.Status.{PrintsListing}

-- what comes after the last slash is no name: that is printed, and no device is asked
abbrev pub RefusesName : List ℕ → SaidView → SaidView → ℕ → Type 0
RefusesName name said says status = ¬ IsName name × Says said says (line (refusal_text BadName)) × (status ≡ 1)

-- it is one: the volume of that name is listed, as it is on the device of the folder
abbrev pub ListsNamed : List ℕ → Meaning → SaidView → SaidView → ℕ → Type 0
ListsNamed name device said says status = IsName name × (after : Meaning) × PrintsListing name device after said says status

-- The volume at a path is listed, by what the device of each folder is: the one or the other. Being out of memory for
-- the device is reported as if the listing had met it.
abbrev pub ListsFile : (List ℕ → Meaning) → List ℕ → SaidView → SaidView → ℕ → Type 0
ListsFile device_of path said says status =
    (folder name : List ℕ) × IsPlaceOf path folder name
    × (RefusesName name said says status ⊎ ListsNamed name (device_of folder) said says status)
