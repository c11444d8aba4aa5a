-- Blocks in few bytes each: a cell tells a block by the one before it and by the last one of its session.
use Rattle.std.specs.Prelude.{◌≡◌, ℕ, ◌+◌, ◌-◌, ◌/◌, ◌*◌, ◌%◌, ◌<◌, ◌≤◌, ◌^◌, List, [], ◌∷◌, ◌++◌, length, get_or, All, ◌==◌, nat_le, if◌then◌else◌}
use Rattle.std.specs.List.{fold}
use Rattle.sd_base.specs.Limits.{most_block}
use Rattle.sd_base.specs.declared.number.SessionKey.{SessionKey}
use Rattle.sd_journal.specs.Noted.{last_index}
use Rattle.sd_journal.specs.declared.cells.Cell.{Cell}
use Rattle.sd_journal.specs.declared.cells.Tail.{Tail}
use Rattle.sd_journal.specs.declared.noted.Noted.{Noted}

-- all that clauses say of cells
pub record CellsView : Type 0 where
  -- the blocks that they tell, in order
  pub noted : List Noted
  -- for how many more there is room
  pub room : ℕ

-- where a block ends
abbrev pub behind : Noted → Tail
behind n = record { volume = n.volume; end = (n.start + n.length) % 2 ^ 64 }

-- where the last of these blocks ends
abbrev pub tail_of : List Noted → Tail
tail_of ns = fold (λ t n. behind n) (record { volume = 0; end = 0 }) ns

-- what no place tells
abbrev pub nothing : Noted
nothing = record { key = record { time = 0; id = 0 }; start = 0; length = 0; volume = 0; first = 0; last = 0 }

-- the key of a cell
abbrev pub key_of : Cell → SessionKey
key_of c = record { time = c.time % 2 ^ 31; id = c.id % 2 ^ 31 }

-- it is that of this session
abbrev pub HasKey : SessionKey → Cell → Type 0
HasKey key c = key_of c ≡ key

-- the first FileIndex of a block of a kind, if that of its session was that before
abbrev pub first_by : (kind was : ℕ) → ℕ
first_by kind was = if kind == 0 then 0 else if kind == 1 then was else (was + 1) % 2 ^ 32

-- The length that a cell tells: of a long block with four bits of its code, of one that is nearly of the greatest length by
-- what it lacks of that.
abbrev pub length_by : Cell → ℕ
length_by c =
    if nat_le (2 ^ 31) c.time then 1 + c.length + c.code % 16384 / 1024 * 65536
    else if nat_le (2 ^ 31) c.id then most_block - c.length % 2048
    else c.length

-- how far the last FileIndex is from the first
abbrev pub gap_by : Cell → ℕ
gap_by c =
    if nat_le (2 ^ 31) c.time then c.code % 1024
    else if nat_le (2 ^ 31) c.id then c.code % 16384 + c.length / 2048 * 16384
    else c.code % 16384

-- the block that a cell tells by itself
abbrev pub near_by : Cell → (was : ℕ) → Tail → Noted
near_by c was t = record {
  key = key_of c;
  start = t.end;
  length = length_by c;
  volume = t.volume;
  first = first_by (c.code / 16384) was;
  last = (first_by (c.code / 16384) was + gap_by c) % 2 ^ 32;
}

-- The block that a cell tells, beside those that are kept whole: `was` is the last FileIndex of its session, and `t` where the
-- block before it ends.
abbrev pub told_by : List Noted → Cell → (was : ℕ) → Tail → Noted
told_by whole c was t = if c.code == 65535 then get_or whole c.time nothing else near_by c was t

-- these blocks, and the one that a cell tells behind them
abbrev pub with_cell : List Noted → List Noted → Cell → List Noted
with_cell whole ns c = ns ++ told_by whole c (last_index (key_of c) ns) (tail_of ns) ∷ []

-- the blocks that cells tell
abbrev pub told : List Noted → List Cell → List Noted
told whole cells = fold (with_cell whole) [] cells

-- what a cell points to is there
abbrev pub IsThere : List Noted → Cell → Type 0
IsThere whole c = c.code ≡ 65535 → c.time < length whole

-- What the parts keep: how many blocks there are, where the last one ends, and for so many more there is memory, and a place that
-- 32 bits hold.
pub record AreCells (cells : List Cell) (whole : List Noted) (all : ℕ) (tail : Tail) (count capacity count_whole capacity_whole room : ℕ) : Type 0 where
  pub there : All (IsThere whole) cells
  pub counted : all ≡ length (told whole cells)
  pub few : all + room + 1 < 2 ^ 64
  pub ends : tail ≡ tail_of (told whole cells)
  pub memory : count + room ≤ capacity
  pub memory_whole : count_whole + room ≤ capacity_whole
  pub places : count_whole + room < 2 ^ 32
