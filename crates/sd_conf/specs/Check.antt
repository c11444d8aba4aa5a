-- What is printed of a configuration that is checked.
use Rattle.std.specs.Prelude.{◌≡◌, ◌⊎◌, ℕ, ◌+◌, List, [], ◌∷◌, ◌++◌, Bool, true, false, Option, None, Result, Ok, Err, IfSome, codes}
use Rattle.std.specs.Str.{IsUtf8}
use Rattle.std.specs.Fmt.{decimal}
use Rattle.toml.specs.Parse.{parse_document}
use Rattle.sd_base.specs.Refusal.{refusal_text}
use Rattle.sd_base.specs.declared.refusal.Refusal.TheVariants.{Memory}
use Rattle.sd_conf.specs.Conf.{IsConfText, HasFirstFault}
use Rattle.sd_conf.specs.declared.conf.Conf.{Conf}
use Rattle.sd_conf.specs.declared.conf.DriveConf.{DriveConf}
use Rattle.sd_conf.specs.declared.fault.FaultKind.{FaultKind}
use Rattle.sd_conf.specs.declared.fault.FaultKind.TheVariants.{Unknown, Missing, Kind, Range}
use Rattle.sd_conf.specs.declared.fault.ConfFault.{ConfFault}
use Rattle.sd_conf.specs.declared.fault.ConfFault.TheVariants.{Text, Key, Memory as NoMemory}
use Rattle.sd_text.specs.Says.{SaidView, Says}
use Rattle.sd_text.specs.Lines.{line}
use Rattle.sd_conf.specs.Place.{IsPlaceIn, place_lines}
use Rattle.sd_conf.specs.declared.check.CheckFault.{CheckFault}
use Rattle.sd_conf.specs.declared.check.CheckFault.TheVariants.{Input as NoInput, Conf as Bad}
use Rattle.sd_conf.specs.declared.check.Checked.{Checked}
use Rattle.sd_conf.specs.declared.conf_line.ConfLine.{ConfLine}
use Rattle.sd_conf.specs.declared.conf_line.ConfLine.TheVariants as says

-- the word for what is wrong with a key
abbrev pub kind_word : FaultKind → List ℕ
kind_word Unknown = codes "unknown"
kind_word Missing = codes "missing"
kind_word Kind = codes "kind"
kind_word Range = codes "range"

-- a drive: its number, its media, how many lanes it has, and the folder of its volumes
abbrev pub drive_text : ℕ → DriveConf → List ℕ
drive_text number drive =
    codes "drive " ++ decimal number ++ codes " " ++ drive.media ++ codes " " ++ decimal drive.lanes ++ codes " " ++ drive.folder

-- what is wrong with a key
abbrev pub fault_text : List ℕ → FaultKind → List ℕ
fault_text key kind = codes "fault " ++ key ++ codes " " ++ kind_word kind

-- a line without its newline
abbrev pub line_text : ConfLine → List ℕ
line_text (says.Block limit) = codes "block " ++ decimal limit
line_text (says.Volume limit) = codes "volume " ++ decimal limit
line_text (says.Spool limit) = codes "spool " ++ decimal limit
line_text (says.Queue blocks) = codes "queue " ++ decimal blocks
line_text (says.Port port) = codes "port " ++ decimal port
line_text (says.Host host) = codes "host " ++ host
line_text says.NoDocument = codes "fault text"
line_text says.NoInput = codes "fault input"
line_text (says.Refused why) = refusal_text why

-- the lines of drives that are numbered from `number` on
abbrev pub drive_lines : ℕ → List DriveConf → List ℕ
drive_lines number [] = []
drive_lines number (d ∷ ds) = line (drive_text number d) ++ drive_lines (number + 1) ds

-- the lines of a configuration
abbrev pub conf_lines : Conf → List ℕ
conf_lines c =
    line (codes "block " ++ decimal c.block) ++ (line (codes "volume " ++ decimal c.volume) ++ (line (codes "spool " ++ decimal c.spool)
    ++ (line (codes "queue " ++ decimal c.queue) ++ (line (codes "port " ++ decimal c.port) ++ (line (codes "host " ++ c.host)
    ++ drive_lines 1 c.drives)))))

-- the line of what is wrong with a configuration
abbrev pub fault_line : ConfFault → List ℕ
fault_line Text = line (codes "fault text")
fault_line (Key key kind) = line (fault_text key kind)
fault_line NoMemory = line (refusal_text Memory)

-- what is printed of a configuration that was read, or of why none was
abbrev pub checked_lines : Result Conf CheckFault → List ℕ
checked_lines (Ok conf) = conf_lines conf
checked_lines (Err NoInput) = line (codes "fault input")
checked_lines (Err (Bad fault place)) = fault_line fault

-- what is printed of where none was read
abbrev pub checked_place : Result Conf CheckFault → List ℕ
checked_place (Err (Bad fault place)) = place_lines place
checked_place other = []

-- This fault comes first in the text; or it is no TOML document, also if it is no UTF-8. Memory may run out at any text.
abbrev pub IsFaultIn : List ℕ → ConfFault → Type 0
IsFaultIn text Text = ¬ IsUtf8 text ⊎ (parse_document text ≡ None)
IsFaultIn text (Key key kind) = HasFirstFault text key kind
IsFaultIn text NoMemory = Unit {0}

-- The text holds this configuration; or this is its fault, and, if one is told, the place of it. The input may fail at
-- any text.
abbrev pub Input : List ℕ → Result Conf CheckFault → Type 0
Input text (Ok conf) = IsConfText text conf
Input text (Err NoInput) = Unit {0}
Input text (Err (Bad fault place)) = IsFaultIn text fault × IfSome place (IsPlaceIn text)

-- this fault with, if one is told, a place in the text
abbrev pub IsPlaced : List ℕ → ConfFault → CheckFault → Type 0
IsPlaced text fault NoInput = ⊥
IsPlaced text fault (Bad told place) = (told ≡ fault) × IfSome place (IsPlaceIn text)

-- an input comes to what its text does, if its bytes are known
abbrev pub ReadsConf : Option (List ℕ) → Result Conf CheckFault → Type 0
ReadsConf input result = IfSome input (λ text. Input text result)

-- the fault is one of a text, and not that none could be read
abbrev pub IsOfText : CheckFault → Type 0
IsOfText NoInput = ⊥
IsOfText (Bad fault place) = Unit {0}

-- the status: 0 if a configuration was read and all of it could be written
abbrev pub status_of : Result Conf CheckFault → Bool → ℕ
status_of (Ok conf) false = 0
status_of (Ok conf) true = 1
status_of (Err fault) failed = 1

-- An input was checked: what was read of it was printed, or, if the writer failed, a front of that.
pub record PrintsCheck (input : Option (List ℕ)) (said says : SaidView) (checked : Checked) : Type 0 where
  pub reads : ReadsConf input checked.conf
  pub prints : Says said says (checked_lines checked.conf)
  pub status_is : checked.status ≡ status_of checked.conf says.failed
