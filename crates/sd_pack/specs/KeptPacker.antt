-- What a packer keeps between its calls.
use Rattle.std.specs.Prelude.{◌≡◌, ℕ, ◌<◌, ◌≤◌, List, [], ◌∷◌, length}
use Rattle.sd_base.specs.Limits.{least_body, most_body}
use Rattle.sd_pack.specs.Body.{PackedBody, IsWithin}

-- each of the bodies is within the room
abbrev pub AreWithin : ℕ → List PackedBody → Type 0
AreWithin room [] = Unit {0}
AreWithin room (body ∷ bodies) = IsWithin room body × AreWithin room bodies

-- what a packer keeps: its room is that of a block, every body is within it, an open body has a header at
-- least and a place in the queue, and if none is open, no index is noted
pub record IsPacker (room : ℕ) (waiting : List PackedBody) (open_body : PackedBody) (spare : ℕ)
    : Type 0 where
  pub room_least : 1000 ≤ room
  pub room_most : room ≤ most_body
  pub waiting_fit : AreWithin room waiting
  pub open_fits : length open_body.bytes ≤ room
  pub open_least : 0 < length open_body.bytes → least_body ≤ length open_body.bytes
  pub open_spare : 0 < length open_body.bytes → 0 < spare
  pub none_open : length open_body.bytes ≡ 0 → (open_body.first ≡ 0) × (open_body.last ≡ 0)
