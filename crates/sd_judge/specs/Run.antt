-- Where blocks end that stand one after another.
use Rattle.std.specs.Prelude.{ℕ, List, drop}
use Rattle.sd_scan.specs.Run.{StandUpTo}
use Rattle.sd_volume.specs.Image.{Block, NoBlockNext}

-- whole blocks stand one after another from a place on, the first with that number, up to `end`; `next` is due there, and
-- no such block is there
abbrev pub RunsTo : List ℕ → ℕ → ℕ → ℕ → ℕ → Type 0
RunsTo bytes start number end next =
    (blocks : List Block) × StandUpTo bytes start number end next blocks × NoBlockNext next (drop end bytes)
