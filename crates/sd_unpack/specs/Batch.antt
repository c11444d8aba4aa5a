-- What the fragments of a body bring.
use Rattle.std.specs.Prelude.{◌≡◌, ◌≢◌, ℕ, List, [], ◌++◌}
use Rattle.sd_base.specs.Record.{Record}
use Rattle.sd_record.specs.Fragment.{Fragment, fragments_bytes, FitTogether}
use Rattle.sd_unpack.specs.declared.batch.Batch.{Batch}
use Rattle.sd_unpack.specs.Stage.{Reaches, AreTotalsOf}
use Rattle.sd_unpack.specs.Damage.{AreWhole}

-- the session has come so far with these fragments: after the records before it, those of the batch
pub record Stands (fs : List Fragment) (records : List Record) (batch : Batch) : Type 0 where
  pub reaches : Reaches batch.stage fs (records ++ batch.records.items) batch.so_far.items
  pub totals_are : AreTotalsOf batch.totals (records ++ batch.records.items)

-- the bytes are fragments that go on with the session, which then is as the batch says, and what is
-- after them
pub record Brings (fs : List Fragment) (records : List Record) (bytes after : List ℕ) (batch : Batch)
    : Type 0 where
  -- the fragments in the bytes
  pub front : List Fragment
  pub bytes_are : bytes ≡ fragments_bytes front ++ after
  pub front_is : FitTogether front
  pub whole_before : after ≢ [] → AreWhole front
  pub stands : Stands (fs ++ front) records batch
