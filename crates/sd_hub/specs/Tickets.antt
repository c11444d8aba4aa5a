-- The numbers of the sessions of a line.
use Rattle.std.specs.Prelude.{◌≡◌, ℕ, ◌≤◌, List, Some, slice_get}
use Rattle.sd_base.specs.Limits.{most_number}
use Rattle.sd_line.specs.Ends.{ToldSession}
use Rattle.sd_hub.specs.Settles.{SettledLaneIs}

-- the numbers of these sessions are such as tickets have
abbrev pub HaveTickets : List ToldSession → Type 0
HaveTickets sessions = (at : ℕ) (s : ToldSession) → slice_get sessions at ≡ Some s → (1 ≤ s.session.key.id) × (s.session.key.id ≤ most_number)

-- so are those of the sessions of these lanes
abbrev pub LanesHaveTickets : List SettledLaneIs → Type 0
LanesHaveTickets lanes = (at : ℕ) (l : SettledLaneIs) → slice_get lanes at ≡ Some l → HaveTickets l.sessions
