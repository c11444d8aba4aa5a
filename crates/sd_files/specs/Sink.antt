-- A sink of records that prints them.
use Rattle.std.specs.Prelude.{List}
use Rattle.sd_base.specs.Record.{Record}
use Rattle.sd_text.specs.declared.printer.Printer.{Printer}

-- the printer, and the records that the sink got
pub record SinkIs (W : Type 0) : Type 0 where
  pub out : Printer W
  pub got : List Record
