-- The lines of a scan as JSON objects.
use Rattle.std.specs.Prelude.{ℕ, List, ◌++◌, Option, Some, None, codes}
use Rattle.std.specs.Fmt.{decimal}
use Rattle.sd_base.specs.Refusal.{refusal_text}
use Rattle.sd_scan.specs.Words.{end_word, kind_text, shown_text}
use Rattle.sd_scan.specs.declared.line.Found.{Found}
use Rattle.sd_scan.specs.declared.line.ScanLine.{ScanLine}
use Rattle.sd_scan.specs.declared.line.ScanLine.TheVariants as lines
use Rattle.sd_scan.specs.declared.report.Start.{Start}

-- the job and the pool of a session
abbrev pub start_json : Option Start → List ℕ
start_json None = codes "\"job\":0,\"pool\":\"-\""
start_json (Some start) = codes "\"job\":" ++ decimal start.job ++ codes ",\"pool\":\"" ++ start.pool ++ codes "\""

-- whether all of a session is there, and how many whole records were found
abbrev pub end_json : Found → List ℕ
end_json f = codes "\"end\":\"" ++ end_word f.ended ++ codes "\",\"records\":" ++ decimal f.records

-- the moment of a session
abbrev pub start_moment : Option Start → List ℕ
start_moment None = codes "-"
start_moment (Some start) = shown_text start.moment

-- the data bytes of its whole records, and its moment
abbrev pub size_json : Found → List ℕ
size_json f = codes "\"bytes\":" ++ decimal f.bytes ++ codes ",\"moment\":\"" ++ start_moment f.start ++ codes "\""

-- a session
abbrev pub found_json : Found → List ℕ
found_json f =
    codes "{\"line\":\"session\",\"time\":" ++ decimal f.key.time ++ codes ",\"id\":" ++ decimal f.key.id ++ codes "," ++ start_json f.start
    ++ codes "," ++ end_json f ++ codes "," ++ size_json f ++ codes "}"

-- how many volumes and sessions there are
abbrev pub done_json : ℕ → ℕ → List ℕ
done_json volumes sessions =
    codes "{\"line\":\"done\",\"volumes\":" ++ decimal volumes ++ codes ",\"sessions\":" ++ decimal sessions ++ codes "}"

-- a line without its newline
abbrev pub json_text : ScanLine → List ℕ
json_text (lines.Foreign name) = codes "{\"line\":\"foreign\",\"volume\":\"" ++ name ++ codes "\"}"
json_text (lines.Volume name size) = codes "{\"line\":\"volume\",\"volume\":\"" ++ name ++ codes "\",\"bytes\":" ++ decimal size ++ codes "}"
json_text (lines.Damage volume at kind) =
    codes "{\"line\":\"damage\",\"volume\":\"" ++ volume ++ codes "\",\"place\":" ++ decimal at ++ codes ",\"kind\":\"" ++ kind_text kind ++ codes "\"}"
json_text (lines.Behind volume at) =
    codes "{\"line\":\"behind\",\"volume\":\"" ++ volume ++ codes "\",\"place\":" ++ decimal at ++ codes "}"
json_text (lines.Session found) = found_json found
json_text (lines.Broken key) = codes "{\"line\":\"broken\",\"time\":" ++ decimal key.time ++ codes ",\"id\":" ++ decimal key.id ++ codes "}"
json_text (lines.Unlabelled name) = codes "{\"line\":\"damage\",\"volume\":\"" ++ name ++ codes "\",\"place\":0,\"kind\":\"label\"}"
json_text (lines.Missing name) = codes "{\"line\":\"missing\",\"volume\":\"" ++ name ++ codes "\"}"
json_text (lines.Misnoted volume at) =
    codes "{\"line\":\"damage\",\"volume\":\"" ++ volume ++ codes "\",\"place\":" ++ decimal at ++ codes ",\"kind\":\"note\"}"
json_text (lines.OtherLabel name) = codes "{\"line\":\"note\",\"volume\":\"" ++ name ++ codes "\",\"kind\":\"label\"}"
json_text (lines.OtherForm name) = codes "{\"line\":\"note\",\"volume\":\"" ++ name ++ codes "\",\"kind\":\"form\"}"
json_text (lines.Done volumes sessions) = done_json volumes sessions
json_text lines.NoFolder = codes "{\"line\":\"fault\",\"fault\":\"folder\"}"
json_text lines.NoFile = codes "{\"line\":\"fault\",\"fault\":\"file\"}"
json_text (lines.Refused why) = codes "{\"line\":\"refused\",\"refusal\":\"" ++ refusal_text why ++ codes "\"}"
