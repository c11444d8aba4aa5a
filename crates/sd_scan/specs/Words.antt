-- The words in the lines of a scan.
use Rattle.std.specs.Prelude.{ℕ, Bool, true, false, List, ◌++◌, Option, Some, None, codes}
use Rattle.jiff.specs.Words.{iso_datetime_text}
use Rattle.jiff_core.specs.declared.civil.datetime.DateTime.{DateTime}
use Rattle.sd_scan.specs.declared.kind.Kind.{Kind}
use Rattle.sd_scan.specs.declared.kind.Kind.TheVariants as kinds
use Rattle.sd_scan.specs.declared.moment.Moment.{Moment}
use Rattle.sd_scan.specs.declared.report.Start.{Start}

-- the word for what is wrong at a place
abbrev pub kind_text : Kind → List ℕ
kind_text kinds.Short = codes "short"
kind_text kinds.BadId = codes "id"
kind_text kinds.BadSize = codes "size"
kind_text kinds.BadSum = codes "checksum"
kind_text kinds.BadNumber = codes "number"

-- whether all of a session is there
abbrev pub end_word : Bool → List ℕ
end_word true = codes "ended"
end_word false = codes "cut"

-- what a clock of UTC shows, with its zone; `-` if it shows nothing
abbrev pub shown_text : Option DateTime → List ℕ
shown_text None = codes "-"
shown_text (Some shown) = iso_datetime_text shown ++ codes "Z"

-- what a clock of UTC shows at a moment, with its zone
abbrev pub moment_text : Moment → List ℕ
moment_text m = shown_text m.shown

-- the moment of a session, if its start label was found
abbrev pub shown_moment : Option Start → Moment
shown_moment None = record { shown = None }
shown_moment (Some start) = record { shown = start.moment }
