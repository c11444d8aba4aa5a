-- What the words ask of the daemon.
use Rattle.std.proofs.Common.{◌≡◌, ◌∙◌, ◌⊎◌, inl, inr, refl, sym, ap, subst, false, true≢false, bytes_eq, List, [], Some, codes, option_map}
use Rattle.clap.specs.Matches.{subcommand_name_of}
use Rattle.clap.specs.Simple.{Shape, built, subcommand_rows_of}
use Rattle.clap.specs.Walk.{Row, Text, rows_after}
use Rattle.clap.specs.declared.parser.matches.ArgMatches.{ArgMatches}
use Rattle.clap.specs.declared.error.kind.ErrorKind.{ErrorKind}
use Rattle.sd_arguments.specs.Lines.{IsGiven, NamesCommand}
use Rattle.sd_arguments.proofs.GivenLemmas.{given_word}
use Rattle.sd_arguments.specs.Daemon.{AsksDaemon, IsServing, Misuses, MisusesServe, daemon_line}
use Rattle.sd_arguments.specs.declared.daemon.DaemonTask.TheVariants.{Check, Serve}
use Rattle.sd_arguments.specs.declared.daemon.Serving.{Serving}
use Rattle.sd_arguments.proofs.LineLemmas.{AreGiven, IsOneOf, IsProgram, Named, name_told, name_untold, rows_told}

pub daemon_is : IsProgram daemon_line
unfolding daemon_line
daemon_is = record { simple = refl; helps = refl; wants = refl; one = (refl, (refl, (refl, tt))) }

known : (s : Shape) → IsOneOf s (built daemon_line).subs → (s.name ≡ codes "help" → ⊥) → (s.name ≡ codes "check") ⊎ (s.name ≡ codes "serve")
unfolding daemon_line
known s (inl e) none = inl (ap (λ x. x.name) e)
known s (inr (inl e)) none = inr (ap (λ x. x.name) e)
known s (inr (inr (inl e))) none = absurd (none (ap (λ x. x.name) e))
known s (inr (inr (inr other))) none = elim other [ ]

pub asks_check : (words : List Text) (m : ArgMatches) (n : Named daemon_line words m) → (subcommand_name_of m ≡ Some (codes "serve") → ⊥) → AsksDaemon words Check
asks_check words m n none = elim (known n.shape n.known (λ e. n.no_help (n.name ∙ e))) [
  | inl e ↦ (n.given.0, n.given.1, n.names, n.name ∙ e)
  | inr e ↦ absurd (name_untold n (codes "serve") none (n.name ∙ e))
]

pub asks_serve : (words : List Text) (m : ArgMatches) (n : Named daemon_line words m) (given : List Row) (asked : Serving)
    → subcommand_name_of m ≡ Some (codes "serve") → option_map (λ p. p.1) (subcommand_rows_of m) ≡ Some given → IsServing given asked
    → AsksDaemon words (Serve asked)
asks_serve words m n given asked named rows serving =
    (n.given.0, n.given.1, n.names, (name_told n (codes "serve") named, subst (λ (g : List Row). IsServing g asked) (sym (rows_told n given rows)) serving))

conf_in : (s : Shape) → IsOneOf s (built daemon_line).subs → s.name ≡ codes "serve" → (rest : List Text) (rows : List Row) → rows ≡ rows_after s.rules [] rest
    → (s.subcommand_negates_reqs ≡ false → AreGiven s.rules rows) → IsGiven (codes "CONF") rows
unfolding daemon_line
conf_in s (inl e) named rest rows walked given = absurd (true≢false (ap (bytes_eq (codes "check")) (sym (ap (λ x. x.name) e) ∙ named)))
conf_in s (inr (inl e)) named rest rows walked given = given_word (codes "CONF") s _ rest rows e walked refl refl given (λ all. all.0 refl)
conf_in s (inr (inr (inl e))) named rest rows walked given = absurd (true≢false (ap (bytes_eq (codes "help")) (sym (ap (λ x. x.name) e) ∙ named)))
conf_in s (inr (inr (inr other))) named rest rows walked given = elim other [ ]

-- if clients are to be served, there is a path
pub conf_is_given : (words : List Text) (m : ArgMatches) (n : Named daemon_line words m) (given : List Row)
    → subcommand_name_of m ≡ Some (codes "serve") → option_map (λ p. p.1) (subcommand_rows_of m) ≡ Some given → IsGiven (codes "CONF") given
conf_is_given words m n given named rows =
    subst (IsGiven (codes "CONF")) (rows_told n given rows)
    (conf_in n.shape n.known (sym n.name ∙ name_told n (codes "serve") named) n.rest n.given.1 n.matched n.are_given)

-- what is wrong with the words of `serve` though the parser takes them
pub misuses_serve : (words : List Text) (m : ArgMatches) (n : Named daemon_line words m) (given : List Row) (why : ErrorKind)
    → subcommand_name_of m ≡ Some (codes "serve") → option_map (λ p. p.1) (subcommand_rows_of m) ≡ Some given → Misuses given why → MisusesServe words why
misuses_serve words m n given why named rows wrong = (
  n.given.1,
  subst (λ (name : Text). NamesCommand daemon_line words name n.given.1) (name_told n (codes "serve") named) n.names,
  subst (λ (g : List Row). Misuses g why) (sym (rows_told n given rows)) wrong,
)
