-- The numbers of a world's sessions.
use Rattle.std.specs.Prelude.{◌≡◌, ℕ, ◌≤◌, Some, List}
use Rattle.sd_base.specs.Limits.{most_number}
use Rattle.sd_world.specs.World.{WorldSession, session_at}

-- no number of a session is above the greatest ticket
abbrev pub NumbersAreTickets : List WorldSession → Type 0
NumbersAreTickets sessions = (id : ℕ) (e : WorldSession) → session_at id sessions ≡ Some e → id ≤ most_number
