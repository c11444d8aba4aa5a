-- The commands of a client: how each is spelled.
use Rattle.std.specs.Prelude.{◌≡◌, ℕ, ◌<◌, List, [], ◌∷◌, ◌++◌, Option, All, codes}
use Rattle.std.specs.Fmt.{decimal}
use Rattle.sd_base.specs.Name.{IsName}
use Rattle.sd_base.specs.Limits.{most_number, IsNumber}
use Rattle.sd_base.specs.declared.refusal.Refusal as base
use Rattle.sd_base.specs.declared.refusal.Refusal.TheVariants as refusals
use Rattle.sd_text.specs.Fields.{fields_of}
use Rattle.sd_text.specs.Reading.{number_in}
use Rattle.sd_append.specs.declared.command.Command.{Command}
use Rattle.sd_append.specs.declared.command.Command.TheVariants.{Open, Data, End, Close, Read, Console}
use Rattle.sd_append.specs.declared.command.CommandFault.{CommandFault}
use Rattle.sd_append.specs.declared.command.CommandFault.TheVariants.{BadCommand, BadName}
use Rattle.sd_append.specs.declared.command.Kind.{Kind}
use Rattle.sd_append.specs.declared.command.Kind.TheVariants as kinds
use Rattle.sd_append.specs.Text.{IsDecimal, trimmed}

-- the words that a command of this kind begins with
abbrev pub head_text : Kind → List ℕ
head_text kinds.Open = codes "append open session "
head_text kinds.Data = codes "append data "
head_text kinds.End = codes "append end session "
head_text kinds.Close = codes "append close session "
head_text kinds.Read = codes "read session "
head_text kinds.Console = codes "console "

-- the kind of a command
abbrev pub kind_of : Command → Kind
kind_of (Open job pool media) = kinds.Open
kind_of (Data ticket) = kinds.Data
kind_of (End ticket) = kinds.End
kind_of (Close ticket) = kinds.Close
kind_of (Read key) = kinds.Read
kind_of (Console line) = kinds.Console

-- The text is a number in decimal, however great, and this is the ticket that it is, if it is one.
abbrev pub IsTicket : List ℕ → Option ℕ → Type 0
IsTicket text ticket = IsDecimal text × (ticket ≡ number_in 1 most_number text)

-- the text has the fields that come after the first words of the command; what a console's line says is its own
abbrev pub HasBody : List ℕ → Command → Type 0
HasBody text (Open job pool media) =
    (fields_of text ≡ (codes "JobId=" ++ decimal job) ∷ (codes "Pool=" ++ pool) ∷ (codes "Media=" ++ media) ∷ []) × IsNumber job
HasBody text (Data ticket) = IsTicket text ticket
HasBody text (End ticket) = IsTicket text ticket
HasBody text (Close ticket) = IsTicket text ticket
HasBody text (Read key) =
    (fields_of text ≡ (codes "Time=" ++ decimal key.time) ∷ (codes "Id=" ++ decimal key.id) ∷ []) × IsNumber key.time × IsNumber key.id
HasBody text (Console line) = text ≡ line

-- what a command has in the places of names are names
abbrev pub AreNames : Command → Type 0
AreNames (Open job pool media) = IsName pool × IsName media
AreNames command = Unit {0}

-- the packet's text is ASCII and spells this command, whatever its names are
pub record HasShape (packet : List ℕ) (command : Command) : Type 0 where
  pub ascii : All (λ byte. byte < 128) (trimmed packet)
  pub text : List ℕ
  pub spelled : trimmed packet ≡ head_text (kind_of command) ++ text
  pub body : HasBody text command

-- the packet's text is ASCII and spells this command
pub record SpellsCommand (packet : List ℕ) (command : Command) : Type 0 where
  pub shape : HasShape packet command
  pub names : AreNames command

-- the refusal that answers a packet that is no command
abbrev pub command_refusal : CommandFault → base.Refusal
command_refusal BadCommand = refusals.BadCommand
command_refusal BadName = refusals.BadName
