-- A sink of records that puts their packets.
use Rattle.std.specs.Prelude.{List}
use Rattle.sd_base.specs.Record.{Record}
use Rattle.sd_append.specs.declared.outbox.Outbox.{Outbox}

-- the outbox, and the records that the sink got
pub record SinkIs (W : Type 0) : Type 0 where
  pub outbox : Outbox W
  pub got : List Record
