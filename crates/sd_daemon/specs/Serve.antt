-- What is printed of a configuration that is served.
use Rattle.std.specs.Fmt.{decimal}
use Rattle.std.specs.List.{flat_map}
use Rattle.std.specs.Prelude.{◌≡◌, ℕ, List, [], ◌∷◌, ◌++◌, Bool, false, Ok, Err, codes}
use Rattle.sd_base.specs.Refusal.{refusal_text}
use Rattle.sd_base.specs.declared.refusal.Refusal.TheVariants.{Memory}
use Rattle.sd_text.specs.Says.{SaidView, Says}
use Rattle.sd_conf.specs.declared.conf.Conf.{Conf}
use Rattle.sd_daemon.specs.Locks.{IsFaultIn}
use Rattle.sd_daemon.specs.declared.daemon.ServeFault.{ServeFault}
use Rattle.sd_daemon.specs.declared.daemon.ServeFault.TheVariants as serves
use Rattle.sd_text.specs.Lines.{line}
use Rattle.sd_conf.specs.Check.{Input, fault_line}
use Rattle.sd_conf.specs.declared.check.CheckFault.{CheckFault}
use Rattle.sd_conf.specs.declared.check.CheckFault.TheVariants.{Conf as Bad}
use Rattle.sd_daemon.specs.declared.conf_file.Outcome.{Outcome}
use Rattle.sd_daemon.specs.declared.conf_file.Outcome.TheVariants.{Served, NoFile, NoConf, NotServed}
use Rattle.sd_daemon.specs.declared.serve_line.ServeLine.{ServeLine}
use Rattle.sd_daemon.specs.declared.serve_line.ServeLine.TheVariants as says

-- a line without its newline
abbrev pub serve_text : ServeLine → List ℕ
serve_text says.NoFile = codes "fault file"
serve_text says.NoTime = codes "fault time range"
serve_text says.NoPort = codes "fault port"
serve_text says.NoMemory = refusal_text Memory
serve_text (says.Unsettled drive) = codes "fault settle " ++ decimal drive

-- what is said of a folder that another process has locked
abbrev pub folder_text : List ℕ → List ℕ
folder_text folder = codes "fault folder " ++ folder ++ codes " locked"

-- the line of why nothing is served
abbrev pub unserved_line : ServeFault → List ℕ
unserved_line serves.Time = line (serve_text says.NoTime)
unserved_line (serves.Port fault) = line (serve_text says.NoPort)
unserved_line (serves.Folder folder) = line (folder_text folder)
unserved_line serves.Memory = line (serve_text says.NoMemory)

-- a line for each of the drives that can't be settled
abbrev pub settle_lines : List ℕ → List ℕ
settle_lines drives = flat_map (λ (drive : ℕ). line (serve_text (says.Unsettled drive))) drives

-- what is printed at this outcome: if clients were served, the lines of the drives that can't be settled; else one line
abbrev pub outcome_lines : Outcome → List ℕ
outcome_lines (Served unsettled) = settle_lines unsettled.items
outcome_lines NoFile = line (serve_text says.NoFile)
outcome_lines (NoConf fault place) = fault_line fault
outcome_lines (NotServed fault) = unserved_line fault

-- the status after talks: 0 if each drive is settled
abbrev pub status_behind : List ℕ → ℕ
status_behind [] = 0
status_behind (drive ∷ drives) = 1

-- the status: 0 if clients were served and each drive is settled
abbrev pub status_of : Outcome → Bool → ℕ
status_of (Served unsettled) false = status_behind unsettled.items
status_of outcome failed = 1

-- some text is this configuration
abbrev pub IsConfOf : Conf → Type 0
IsConfOf conf = (text : List ℕ) × Input text (Ok conf)

-- this is what comes of reading some text as a configuration
abbrev pub IsFaultOf : CheckFault → Type 0
IsFaultOf fault = (text : List ℕ) × Input text (Err fault)

-- A configuration that is refused is refused for what some text holds; if none is served, there is one that some text
-- is, and a folder that another process has locked is one that it names.
abbrev pub IsOutcomeOf : Outcome → Type 0
IsOutcomeOf (NoConf fault place) = IsFaultOf (Bad fault place)
IsOutcomeOf (NotServed fault) = (conf : Conf) × IsConfOf conf × IsFaultIn conf fault
IsOutcomeOf outcome = Unit {0}

-- A configuration was served, or could not be. What is wrong was printed, or, if the writer failed, a front of that;
-- nothing else was.
pub record PrintsServe (said says : SaidView) (status : ℕ) : Type 0 where
  pub outcome : Outcome
  pub comes : IsOutcomeOf outcome
  pub prints : Says said says (outcome_lines outcome)
  pub status_is : status ≡ status_of outcome says.failed
