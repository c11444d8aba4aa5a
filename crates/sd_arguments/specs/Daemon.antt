-- What a command line of `sdd` asks for.
use Rattle.std.specs.Prelude.{◌≡◌, ◌≢◌, ◌⊎◌, false, List, [], ◌∷◌, All, Some, codes, option_map, pos}
use Rattle.sd_base.specs.Name.{IsName}
use Rattle.clap.specs.Words.{App, IsAmong, Row, Rule, Shape, Text, HasKind, fault_of, first_of, kind_of, new_rule, one_of}
use Rattle.clap.specs.declared.builder.ArgAction.TheVariants.{Set, Append}
use Rattle.clap.specs.declared.builder.ValueParser.TheVariants as parser
use Rattle.clap.specs.declared.error.Error.{Error}
use Rattle.clap.specs.declared.error.kind.ErrorKind.{ErrorKind}
use Rattle.clap.specs.declared.error.kind.ErrorKind.TheVariants as kind
use Rattle.sd_arguments.specs.Lines.{IsCountOf, IsFlagOf, NamesCommand, command_shape, file_rule, flag_rule, program_line, required_rule, texts_at}
use Rattle.sd_arguments.specs.declared.daemon.DaemonTask.{DaemonTask}
use Rattle.sd_arguments.specs.declared.daemon.DaemonTask.TheVariants.{Check, Serve, Print, NoMemory}
use Rattle.sd_arguments.specs.declared.daemon.Serving.{Serving}
use Rattle.sd_arguments.specs.declared.misuse.Misuse.{Misuse}
use Rattle.sd_arguments.specs.declared.misuse.Misuse.TheVariants as misuse

-- `--name VALUE`: a number of 32 bits, which is 0 if it isn't given
abbrev pub count_rule : Text → Rule
count_rule name = record (new_rule name) {
  long = Some name;
  action = Some Set;
  value_names = 1;
  defaults = codes "0" ∷ [];
  parser = Some (parser.Signed (pos 0) (pos 4294967295));
}

-- `--talks N`
abbrev pub talks_rule : Rule
talks_rule = count_rule (codes "talks")

-- `--wait SECONDS`
abbrev pub wait_rule : Rule
wait_rule = count_rule (codes "wait")

-- `--metrics FILE`
abbrev pub metrics_rule : Rule
metrics_rule = file_rule (codes "metrics")

-- `--until FILE`
abbrev pub until_rule : Rule
until_rule = file_rule (codes "until")

-- `--adopt-damaged VOLUME`, any number of times
abbrev pub adopt_damaged_rule : Rule
adopt_damaged_rule = record (new_rule (codes "adopt-damaged")) {
  long = Some (codes "adopt-damaged");
  action = Some Append;
  value_names = 1;
}

-- `serve CONF [--talks N] [--wait SECONDS] [--metrics FILE] [--until FILE] [--log] [--adopt] [--adopt-damaged VOLUME]..`
abbrev pub serve_shape : Shape
serve_shape =
    command_shape (codes "serve")
    (required_rule (codes "CONF") ∷ talks_rule ∷ wait_rule ∷ metrics_rule ∷ until_rule ∷ flag_rule (codes "log")
    ∷ flag_rule (codes "adopt") ∷ adopt_damaged_rule ∷ [])

-- the command line of the daemon
unfoldable pub daemon_line : App
daemon_line = program_line (codes "sdd") (command_shape (codes "check") [] ∷ serve_shape ∷ [])

-- how clients are to be served, by what the words have for the arguments of `serve`
pub record IsServing (given : List Row) (asked : Serving) : Type 0 where
  pub path : first_of (codes "CONF") given ≡ Some asked.path.now
  pub talks : IsCountOf (one_of (codes "talks") given) asked.talks
  pub wait : IsCountOf (one_of (codes "wait") given) asked.wait
  pub metrics : option_map (λ file. file.now) asked.metrics ≡ first_of (codes "metrics") given
  pub until : option_map (λ file. file.now) asked.until ≡ first_of (codes "until") given
  pub log : IsFlagOf (one_of (codes "log") given) asked.log
  pub adopt : IsFlagOf (one_of (codes "adopt") given) asked.adopt
  pub adopt_damaged : asked.adopt_damaged.items ≡ texts_at (codes "adopt-damaged") given
  pub adopting : asked.adopt ≡ false → asked.adopt_damaged.items ≡ []

-- the task that this subcommand stands for
abbrev pub IsDaemonTask : Text → List Row → DaemonTask → Type 0
IsDaemonTask name given Check = name ≡ codes "check"
IsDaemonTask name given (Serve asked) = (name ≡ codes "serve") × IsServing given asked
IsDaemonTask name given (Print told) = ⊥
IsDaemonTask name given NoMemory = ⊥

-- the kind of what is wrong with words for `serve` that the parser takes
abbrev pub misuse_kind : Misuse → ErrorKind
misuse_kind (misuse.BadName word) = kind.ValueValidation
misuse_kind misuse.WithoutAdopt = kind.MissingRequiredArgument
misuse_kind misuse.Memory = kind.OutOfMemory

-- one of these texts is no name, if that is what is wrong
abbrev pub IsBadName : Misuse → List Text → Type 0
IsBadName (misuse.BadName word) texts = ¬ All IsName texts
IsBadName misuse.WithoutAdopt texts = ⊥
IsBadName misuse.Memory texts = Unit {0}

-- What is wrong with words for `serve` that the parser takes: one that is to name a damaged volume is no name; or volumes are
-- named so, and `--adopt` isn't given. There may be no memory to read them.
abbrev pub Misuses : List Row → ErrorKind → Type 0
Misuses given kind.ValueValidation = ¬ All IsName (texts_at (codes "adopt-damaged") given)
Misuses given kind.MissingRequiredArgument =
    (texts_at (codes "adopt-damaged") given ≢ []) × IsFlagOf (one_of (codes "adopt") given) false
Misuses given kind.OutOfMemory = Unit {0}
Misuses given other = ⊥

-- the words are for `serve`, and this is wrong with them though the parser takes them
abbrev pub MisusesServe : List Text → ErrorKind → Type 0
MisusesServe words why = (given : List Row) × NamesCommand daemon_line words (codes "serve") given × Misuses given why

-- this is wrong with the words, for the parser or though it takes them
abbrev pub FailsDaemon : List Text → Error → Type 0
FailsDaemon words e = HasKind (fault_of daemon_line words) e ⊎ MisusesServe words (kind_of e)

-- What the words ask for: if nothing is wrong with them, the task of the subcommand that they name; else one of the
-- causes that they give is told. There may be no memory to read any words.
abbrev pub AsksDaemon : List Text → DaemonTask → Type 0
AsksDaemon words (Print told) =
    IsAmong (kind_of told) (fault_of daemon_line words) ⊎ MisusesServe words (kind_of told)
AsksDaemon words NoMemory = Unit {0}
AsksDaemon words task =
    (name : Text) × (given : List Row) × NamesCommand daemon_line words name given × IsDaemonTask name given task
