-- What a talk over a connection asks of its port.
use Rattle.std.specs.Prelude.{ℕ, ℤ, List, Option, Result}
use Rattle.std.specs.declared.alloc.AllocError.{AllocError}
use Rattle.sd_append.specs.Port.{Exchange}
use Rattle.sd_append.specs.Talks.{IsWithin, Talks}
use Rattle.sd_append.specs.declared.end.TalkEnd.{TalkEnd}

-- how many turns a talk has at most, a read in each
abbrev pub most_turns : ℕ
most_turns = 1099511627776

-- A talk was held at this moment, which its opens, its ends and its lines of a console bear, and ended so. What the port was
-- asked is what a conversation asks. What came over the connection, and what went out, isn't known here; but no more came than
-- so many turns read.
pub record HoldsTalk (moment : ℤ) (before after : List Exchange) (end : Result TalkEnd AllocError) : Type 0 where
  pub left : Option (List ℕ)
  pub remains : Option (List ℕ)
  pub held : Option (List ℕ)
  pub holds : Option (List ℕ)
  pub bytes : List ℕ
  pub talks : Talks moment left remains before after held holds end bytes
  pub within : IsWithin most_turns end bytes
