-- A sink that is watched.
use Rattle.std.specs.Prelude.{List}
use Rattle.sd_base.specs.Record.{Record}

-- the sink, and the records that were handed over to it since
pub record WatchedIs (K : Type 0) : Type 0 where
  pub sink : K
  pub handed : List Record
