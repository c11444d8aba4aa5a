-- A record of a backup session, as data.
use Rattle.std.specs.Prelude.{ℕ, ◌≤◌, List, length}
use Rattle.sd_base.specs.Limits.{most_number, most_data}

-- the FileIndex, the Stream and the data of a record
pub record Record : Type 0 where
  pub index : ℕ
  pub stream : ℕ
  pub bytes : List ℕ

-- Index and stream are 1 or more and fit a signed field; the data are no longer than a packet may be.
pub record IsRecord (r : Record) : Type 0 where
  pub index_least : 1 ≤ r.index
  pub index_most : r.index ≤ most_number
  pub stream_least : 1 ≤ r.stream
  pub stream_most : r.stream ≤ most_number
  pub data_most : length r.bytes ≤ most_data
