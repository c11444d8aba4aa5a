-- A body with room in front of it for its header.
use Rattle.std.specs.Prelude.{ℕ, List}

-- what is in that room, and the bytes of the body
pub record Framed : Type 0 where
  pub room : List ℕ
  pub bytes : List ℕ
