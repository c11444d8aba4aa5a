-- The lines that a scan prints.
use Rattle.std.specs.Prelude.{ℕ, Bool, true, false, List, [], ◌∷◌, ◌++◌, Option, Some, None, codes}
use Rattle.std.specs.List.{flat_map}
use Rattle.std.specs.Fmt.{decimal}
use Rattle.sd_base.specs.Refusal.{refusal_text}
use Rattle.sd_base.specs.declared.number.SessionKey.{SessionKey}
use Rattle.sd_scan.specs.Words.{end_word, kind_text, moment_text, shown_moment}
use Rattle.sd_scan.specs.declared.report.Report.{Report}
use Rattle.sd_scan.specs.declared.report.Start.{Start}
use Rattle.sd_span.specs.JobMedia.{jobmedia_text, session_text}
use Rattle.sd_text.specs.Lines.{line}
use Rattle.sd_scan.specs.declared.line.Found.{Found}
use Rattle.sd_scan.specs.declared.line.ScanLine.{ScanLine}
use Rattle.sd_scan.specs.declared.line.ScanLine.TheVariants as lines
use Rattle.sd_scan.specs.declared.outcome.Outcome.{Outcome}
use Rattle.sd_scan.specs.declared.outcome.Outcome.TheVariants.{Sound, Unended, Damaged}
use Rattle.sd_scan.specs.declared.told.Told.{Told}
use Rattle.sd_scan.specs.declared.told.Told.TheVariants.{All, Unsound, UnsoundJson}
use Rattle.sd_scan.specs.Json.{json_text}

-- the job and the pool of a session, if its start label was found
abbrev pub start_text : Option Start → List ℕ
start_text None = codes " job 0 pool -"
start_text (Some start) = codes " job " ++ decimal start.job ++ codes " pool " ++ start.pool

-- a session: its key, its job and pool, whether all of it is there, how many whole records and data bytes were found,
-- and its moment
abbrev pub found_text : Found → List ℕ
found_text f =
    session_text f.key ++ start_text f.start ++ codes " " ++ end_word f.ended
    ++ codes " records " ++ decimal f.records ++ codes " bytes " ++ decimal f.bytes
    ++ codes " at " ++ moment_text (shown_moment f.start)

-- a line without its newline
abbrev pub line_text : ScanLine → List ℕ
line_text (lines.Foreign name) = codes "foreign " ++ name
line_text (lines.Volume name size) = codes "volume " ++ name ++ codes " " ++ decimal size
line_text (lines.Damage volume at kind) = codes "damage " ++ volume ++ codes " " ++ decimal at ++ codes " " ++ kind_text kind
line_text (lines.Behind volume at) = codes "behind " ++ volume ++ codes " " ++ decimal at
line_text (lines.Session found) = found_text found
line_text (lines.Broken key) = codes "broken " ++ decimal key.time ++ codes " " ++ decimal key.id
line_text (lines.Unlabelled name) = codes "damage " ++ name ++ codes " 0 label"
line_text (lines.Missing name) = codes "missing " ++ name
line_text (lines.Misnoted volume at) = codes "damage " ++ volume ++ codes " " ++ decimal at ++ codes " note"
line_text (lines.OtherLabel name) = codes "note " ++ name ++ codes " label"
line_text (lines.OtherForm name) = codes "note " ++ name ++ codes " form"
line_text (lines.Done volumes sessions) = codes "ok scan " ++ decimal volumes ++ codes " " ++ decimal sessions
line_text lines.NoFolder = codes "fault folder"
line_text lines.NoFile = codes "fault file"
line_text (lines.Refused why) = refusal_text why

-- a line without its newline, as it is told
abbrev pub told_text : Told → ScanLine → List ℕ
told_text All l = line_text l
told_text Unsound l = line_text l
told_text UnsoundJson l = json_text l

-- what a line says of a session
abbrev pub found_of : Report → Found
found_of r = record { key = r.key; start = r.start; ended = r.ended; records = r.records; bytes = r.bytes }

-- the line of a session, and the JobMedia text that it is read by
abbrev pub whole_lines : Report → List ℕ
whole_lines r = line (found_text (found_of r)) ++ jobmedia_text r.key r.spans

-- the line alone, of a session that is cut
abbrev pub cut_lines : Told → Bool → Found → List ℕ
cut_lines told true f = []
cut_lines told false f = line (told_text told (lines.Session f))

-- that a session is broken, if it is
abbrev pub broken_lines : Told → Bool → SessionKey → List ℕ
broken_lines told true key = line (told_text told (lines.Broken key))
broken_lines told false key = []

-- what is not sound of a session
abbrev pub unsound_lines : Told → Report → List ℕ
unsound_lines told r = cut_lines told r.ended (found_of r) ++ broken_lines told r.broken r.key

-- what is printed of a session
abbrev pub report_lines : Told → Report → List ℕ
report_lines All r = whole_lines r
report_lines Unsound r = unsound_lines Unsound r
report_lines UnsoundJson r = unsound_lines UnsoundJson r

-- what is printed of sessions, one after another
abbrev pub reports_lines : Told → List Report → List ℕ
reports_lines told reports = flat_map (report_lines told) reports

-- What a scan comes to.

-- the worse of the two
abbrev pub worse : Outcome → Outcome → Outcome
worse Damaged other = Damaged
worse Unended Damaged = Damaged
worse Unended other = Unended
worse Sound other = other

-- what volumes come to by themselves
abbrev pub of_volumes : Bool → Outcome
of_volumes true = Sound
of_volumes false = Damaged

-- what a session comes to: it is broken, or all of it is there, or not
abbrev pub of_states : Bool → Bool → Outcome
of_states true ended = Damaged
of_states false true = Sound
of_states false false = Unended

-- the same, by its report
abbrev pub of_report : Report → Outcome
of_report r = of_states r.broken r.ended

-- what sessions come to: the worst of them
abbrev pub of_reports : List Report → Outcome
of_reports [] = Sound
of_reports (r ∷ rs) = worse (of_report r) (of_reports rs)

-- The status of a verification: damage before what is not there, and that before a session without an end.
abbrev pub verify_status : Outcome → Bool → ℕ
verify_status Damaged all_there = 1
verify_status Unended true = 3
verify_status Sound true = 0
verify_status Unended false = 4
verify_status Sound false = 4
