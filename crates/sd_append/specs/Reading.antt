-- What command a text spells that is read from its front on; apart from how commands are spelled.
use Rattle.std.specs.Prelude.{◌≡◌, ◌==◌, ℕ, if◌then◌else◌, List, [], ◌∷◌, Option, Some, None, Result, Ok, Err, MatchResult, codes}
use Rattle.sd_base.specs.Limits.{most_number}
use Rattle.sd_text.specs.Fields.{Fields}
use Rattle.sd_text.specs.Reading.{◌>>=◌, word_at, number_in, all_read}
use Rattle.sd_append.specs.declared.command.Command.{Command}
use Rattle.sd_append.specs.declared.command.Command.TheVariants.{Open, Read}
use Rattle.sd_append.specs.declared.command.CommandFault.{CommandFault}
use Rattle.sd_append.specs.declared.command.CommandFault.TheVariants.{BadCommand, BadName}
use Rattle.sd_append.specs.declared.command.Kind.{Kind}
use Rattle.sd_append.specs.Command.{AreNames, HasBody, kind_of}

-- what comes after these characters in a text that begins with them
abbrev pub behind : List ℕ → List ℕ → Option (List ℕ)
behind [] text = Some text
behind (k ∷ key) [] = None
behind (k ∷ key) (c ∷ text) = if k == c then behind key text else None

-- the value of the next field, which has this key
unfoldable pub keyed_at : List ℕ → Fields → Option (List ℕ × Fields)
keyed_at key fs = do
  word ← word_at fs
  value ← behind key word.0
  Some (value, word.1)

-- the value of the next field, which has this key, if the value is a number
unfoldable pub keyed_number_at : List ℕ → ℕ → Fields → Option (ℕ × Fields)
keyed_number_at key most fs = do
  value ← keyed_at key fs
  n ← number_in 1 most value.0
  Some (n, value.1)

-- the command that opens a session with these fields, whatever its names are
unfoldable pub open_shape : Fields → Option Command
open_shape fs = do
  job ← keyed_number_at (codes "JobId=") most_number fs
  pool ← keyed_at (codes "Pool=") job.1
  media ← keyed_at (codes "Media=") pool.1
  all_read (Open job.0 pool.0 media.0) media.1

-- the command that reads a session with these fields
unfoldable pub read_shape : Fields → Option Command
read_shape fs = do
  time ← keyed_number_at (codes "Time=") most_number fs
  id ← keyed_number_at (codes "Id=") most_number time.1
  all_read (Read (record { time = time.0; id = id.0 })) id.1

-- the command whose shape was read, if its names are names
abbrev pub Gives : Result Command CommandFault → Option Command → Type 0
Gives result None = result ≡ Err BadCommand
Gives result (Some command) =
    MatchResult result (λ found. (found ≡ command) × AreNames command)
    (λ e. (e ≡ BadName) × (AreNames command → ⊥))

-- The command of this kind that a text after its first words spells; or one but for its names; or that it
-- spells none.
abbrev pub Tells : Kind → List ℕ → Result Command CommandFault → Type 0
Tells kind text (Ok command) = (kind_of command ≡ kind) × HasBody text command × AreNames command
Tells kind text (Err BadName) =
    (command : Command) × (kind_of command ≡ kind) × HasBody text command × (AreNames command → ⊥)
Tells kind text (Err BadCommand) =
    (command : Command) → kind_of command ≡ kind → HasBody text command → ⊥
