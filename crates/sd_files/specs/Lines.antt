-- What is printed of a reading: two lines for each record, and one for how it ended.
use Rattle.std.specs.Prelude.{ℕ, List, ◌++◌, length, Result, Ok, Err, codes}
use Rattle.std.specs.List.{flat_map}
use Rattle.std.specs.Fmt.{decimal}
use Rattle.sd_base.specs.Record.{Record}
use Rattle.sd_base.specs.Refusal.{refusal_text}
use Rattle.sd_readback.specs.Faults.{fault_refusal}
use Rattle.sd_readback.specs.declared.fault.ReadFault.{ReadFault}
use Rattle.sd_readback.specs.declared.read.ReadEnd.{ReadEnd}
use Rattle.sd_files.specs.End.{end_text}
use Rattle.sd_text.specs.Lines.{line}
use Rattle.sd_files.specs.declared.lines.FileLine.{FileLine}
use Rattle.sd_files.specs.declared.lines.FileLine.TheVariants as lines

-- a record: its FileIndex, its Stream, and how many bytes it has
abbrev pub record_text : ℕ → ℕ → ℕ → List ℕ
record_text index stream size = codes "rec " ++ decimal index ++ codes " " ++ decimal stream ++ codes " " ++ decimal size

-- a line without its newline
abbrev pub line_text : FileLine → List ℕ
line_text (lines.Record index stream size) = record_text index stream size
line_text (lines.End end) = end_text end
line_text lines.NoFile = codes "fault file"
line_text (lines.Refused why) = refusal_text why

-- what is printed of a record: its line, its bytes as they are, and a newline
abbrev pub record_lines : Record → List ℕ
record_lines r = line (record_text r.index r.stream (length r.bytes)) ++ line r.bytes

-- what is printed of records, one after another
abbrev pub records_lines : List Record → List ℕ
records_lines records = flat_map record_lines records

-- the line of how a reading ended: what the session was read to, or the refusal of the fault that was met
abbrev pub ending_text : Result ReadEnd ReadFault → List ℕ
ending_text (Ok end) = end_text end
ending_text (Err fault) = refusal_text (fault_refusal fault)
