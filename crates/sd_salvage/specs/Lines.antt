-- What is printed of a salvage.
use Rattle.std.specs.Prelude.{ℕ, ◌<◌, ◌^◌, Bool, true, false, Option, Some, None, List, [], ◌∷◌, ◌++◌, length, max, codes, Result, Ok, Err, if◌then◌else◌}
use Rattle.std.specs.Fmt.{decimal}
use Rattle.sd_base.specs.Record.{Record}
use Rattle.sd_collect.specs.Whole.{Place}
use Rattle.sd_files.specs.End.{end_text}
use Rattle.sd_files.specs.Lines.{record_lines}
use Rattle.sd_base.specs.Refusal.{refusal_text}
use Rattle.sd_label.specs.Cutting.{total_bytes}
use Rattle.sd_readback.specs.Faults.{fault_refusal}
use Rattle.sd_readback.specs.declared.fault.ReadFault.{ReadFault}
use Rattle.sd_text.specs.Lines.{line}
use Rattle.sd_salvage.specs.declared.printer.Counts.{Counts}
use Rattle.sd_salvage.specs.declared.session.SalvageEnd.{SalvageEnd}
use Rattle.sd_salvage.specs.declared.event.Event.{Event}
use Rattle.sd_salvage.specs.declared.event.Event.TheVariants as events
use Rattle.sd_salvage.specs.declared.line.SalvageLine.{SalvageLine}
use Rattle.sd_salvage.specs.declared.line.SalvageLine.TheVariants as lines

-- the last FileIndex of those that may be lost; a dash stands for no end
abbrev pub last_text : Option ℕ → List ℕ
last_text None = codes "-"
last_text (Some last) = decimal last

-- a line without its newline
abbrev pub line_text : SalvageLine → List ℕ
line_text (lines.Gap volume at) = codes "gap " ++ volume ++ codes " " ++ decimal at
line_text (lines.Missing first last) = codes "missing " ++ decimal first ++ codes " " ++ last_text last
line_text (lines.Salvaged records bytes gaps) = codes "salvaged " ++ decimal records ++ codes " " ++ decimal bytes ++ codes " gaps " ++ decimal gaps

-- the records among what was handed over and told
abbrev pub records_in : List Event → List Record
records_in [] = []
records_in (events.Record r ∷ es) = r ∷ records_in es
records_in (events.Lost volume at ∷ es) = records_in es

-- and the places
abbrev pub places_in : List Event → List Place
places_in [] = []
places_in (events.Record r ∷ es) = places_in es
places_in (events.Lost volume at ∷ es) = record { volume = volume; at = at } ∷ places_in es

-- which FileIndexes may be lost before the next record, if some may be: from that of the last one on, or from 1
abbrev pub missing_lines : Bool → ℕ → Option ℕ → List ℕ
missing_lines true last next = line (line_text (lines.Missing (max last 1) next))
missing_lines false last next = []

-- what is printed of what is handed over and told, after a record of that FileIndex; 0 stands for none
abbrev pub event_lines : Bool → ℕ → List Event → List ℕ
event_lines lost last [] = []
event_lines lost last (events.Record r ∷ es) = missing_lines lost last (Some r.index) ++ (record_lines r ++ event_lines false r.index es)
event_lines lost last (events.Lost volume at ∷ es) = line (line_text (lines.Gap volume at)) ++ event_lines true last es

-- whether some may be lost since the last record
abbrev pub lost_after : Bool → List Event → Bool
lost_after lost [] = lost
lost_after lost (events.Record r ∷ es) = lost_after false es
lost_after lost (events.Lost volume at ∷ es) = lost_after true es

-- the FileIndex of the last record
abbrev pub last_after : ℕ → List Event → ℕ
last_after last [] = last
last_after last (events.Record r ∷ es) = last_after r.index es
last_after last (events.Lost volume at ∷ es) = last_after last es

-- the records, their data bytes and the places are each of a number that 64 bits hold
pub record AreCountable (es : List Event) : Type 0 where
  pub records : length (records_in es) < 2 ^ 64
  pub bytes : total_bytes (records_in es) < 2 ^ 64
  pub gaps : length (places_in es) < 2 ^ 64

-- the last line, with these counts: if nothing is lost, that of a reading
abbrev pub counted_lines : SalvageEnd → Counts → List ℕ
counted_lines end counts =
    if end.sound then line (end_text (record { records = counts.records; bytes = counts.bytes; ended = end.ended }))
    else line (line_text (lines.Salvaged counts.records counts.bytes counts.gaps))

-- what is printed of how a salvage ended, after what was handed over and told: which FileIndexes may be lost behind the last
-- record, if some may be, and the last line; or the refusal of the fault that was met
abbrev pub end_lines : List Event → Result SalvageEnd ReadFault → List ℕ
end_lines es (Ok end) =
    missing_lines (lost_after false es) (last_after 0 es) None
    ++ counted_lines end (record { records = length (records_in es); bytes = total_bytes (records_in es); gaps = length (places_in es) })
end_lines es (Err fault) = line (refusal_text (fault_refusal fault))

-- the status: 0 if nothing was lost, and all could be written
abbrev pub salvage_status : Result SalvageEnd ReadFault → Bool → ℕ
salvage_status (Ok end) false = if end.sound then 0 else 1
salvage_status (Ok end) true = 1
salvage_status (Err fault) failed = 1
