-- What is wrong at a place where a block is due.
use Rattle.std.specs.Prelude.{◌⊎◌, ℕ, ◌<◌, ◌≤◌, List, length, take}
use Rattle.sd_base.specs.Limits.{block_header, most_block}
use Rattle.sd_base.specs.declared.number.SessionKey.{SessionKey}
use Rattle.sd_block.specs.Fault.{IsShort, HasBadId, HasBadSize}
use Rattle.sd_block.specs.Head.{HasHeader, HasId, IsHeadOf}
use Rattle.sd_block.specs.declared.fault.BlockFault.{BlockFault}
use Rattle.sd_block.specs.declared.fault.BlockFault.TheVariants as fault
use Rattle.sd_block.specs.declared.head.Head.{Head}
use Rattle.sd_volume.specs.Image.{BeginsWithBlock}
use Rattle.sd_scan.specs.declared.kind.Kind.{Kind}
use Rattle.sd_scan.specs.declared.kind.Kind.TheVariants.{Short, BadId, BadSize, BadSum, BadNumber}

-- what a fault of bytes that are to be a block is told as
abbrev pub kind_of : BlockFault → Kind
kind_of fault.Short = Short
kind_of fault.BadId = BadId
kind_of fault.BadSize = BadSize
kind_of fault.BadSum = BadSum

-- the front of bytes that would be a header
abbrev pub front_of : List ℕ → List ℕ
front_of bytes = take block_header bytes

-- What is wrong with the bytes from a place on. They are fewer than a header has, or than it says; it names no block;
-- it says a size that no block has; it is a block's, but with the bytes after it no whole block, so that the checksum
-- is another one; or they begin with a whole block, which is not the one that is due.
abbrev pub IsKind : List ℕ → Kind → Type 0
IsKind bytes Short = IsShort (front_of bytes) ⊎ ((head : Head) × IsHeadOf most_block (front_of bytes) head × (length bytes < head.size))
IsKind bytes BadId = HasHeader (front_of bytes) × HasBadId (front_of bytes)
IsKind bytes BadSize = HasHeader (front_of bytes) × HasId (front_of bytes) × HasBadSize most_block (front_of bytes)
IsKind bytes BadSum =
    ((head : Head) × IsHeadOf most_block (front_of bytes) head × (head.size ≤ length bytes))
    × ((key : SessionKey) (number : ℕ) (body : List ℕ) → ¬ BeginsWithBlock bytes key number body)
IsKind bytes BadNumber = (key : SessionKey) × (number : ℕ) × (body : List ℕ) × BeginsWithBlock bytes key number body
