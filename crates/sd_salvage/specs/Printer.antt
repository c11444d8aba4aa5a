-- What a printer of a salvage is, as contracts see it.
use Rattle.std.specs.Prelude.{◌≡◌, ◌<◌, ◌^◌, ℕ, Bool, false, List, length}
use Rattle.sd_label.specs.Cutting.{total_bytes}
use Rattle.sd_text.specs.Says.{SaidView, Says}
use Rattle.sd_text.specs.declared.printer.Printer.{Printer}
use Rattle.sd_salvage.specs.Lines.{event_lines, last_after, lost_after, places_in, records_in}
use Rattle.sd_salvage.specs.declared.event.Event.{Event}
use Rattle.sd_salvage.specs.declared.printer.Counts.{Counts}

-- where it prints, and what was handed over to it and told
pub record PrinterIs (W : Type 0) : Type 0 where
  pub out : Printer W
  pub told : List Event

-- it counts the records, their bytes and the places, each up to the greatest number of 64 bits
pub record CountsThem (told : List Event) (counts : Counts) : Type 0 where
  pub records : length (records_in told) < 2 ^ 64 → counts.records ≡ length (records_in told)
  pub bytes : total_bytes (records_in told) < 2 ^ 64 → counts.bytes ≡ total_bytes (records_in told)
  pub gaps : length (places_in told) < 2 ^ 64 → counts.gaps ≡ length (places_in told)

-- what was printed are the lines of what was told; what it keeps is whether some may be lost since the last record, the
-- FileIndex of that, and the counts
pub record Keeps (before says : SaidView) (told : List Event) (lost : Bool) (last : ℕ) (counts : Counts) : Type 0 where
  pub says_so : Says before says (event_lines false 0 told)
  pub lost_is : lost ≡ lost_after false told
  pub last_is : last ≡ last_after 0 told
  pub counted : CountsThem told counts
