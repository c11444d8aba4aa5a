-- What the words ask of the tool.
use Rattle.std.proofs.Common.{◌≡◌, ◌∙◌, inl, inr, refl, sym, ap, subst, ap₂, false, true≢false, bytes_eq, List, [], Some, codes, option_map}
use Rattle.clap.specs.Matches.{subcommand_name_of}
use Rattle.clap.specs.Simple.{Shape, built, subcommand_rows_of}
use Rattle.clap.specs.Walk.{Row, Text, rows_after}
use Rattle.clap.specs.declared.parser.matches.ArgMatches.{ArgMatches}
use Rattle.sd_arguments.proofs.GivenLemmas.{given_word}
use Rattle.sd_arguments.specs.Tool.{AsksTool, HasItsWords, IsToolCommand, IsToolTask, tool_line}
use Rattle.sd_arguments.specs.declared.tool.ToolTask.{ToolTask}
use Rattle.sd_arguments.specs.declared.tool.ToolTask.TheVariants as asks
use Rattle.sd_arguments.proofs.LineLemmas.{AreGiven, IsOneOf, IsProgram, Named, name_told, rows_told}

pub tool_is : IsProgram tool_line
unfolding tool_line
tool_is = record { simple = refl; helps = refl; wants = refl; one = (refl, (refl, (refl, (refl, (refl, (refl, (refl, tt))))))) }

known : (s : Shape) → IsOneOf s (built tool_line).subs → (s.name ≡ codes "help" → ⊥) → IsToolCommand s.name
unfolding tool_line
known s (inl e) none = inl (ap (λ x. x.name) e)
known s (inr (inl e)) none = inr (inl (ap (λ x. x.name) e))
known s (inr (inr (inl e))) none = inr (inr (inl (ap (λ x. x.name) e)))
known s (inr (inr (inr (inl e)))) none = inr (inr (inr (inl (ap (λ x. x.name) e))))
known s (inr (inr (inr (inr (inl e))))) none = inr (inr (inr (inr (inl (ap (λ x. x.name) e)))))
known s (inr (inr (inr (inr (inr (inl e)))))) none = inr (inr (inr (inr (inr (ap (λ x. x.name) e)))))
known s (inr (inr (inr (inr (inr (inr (inl e))))))) none = absurd (none (ap (λ x. x.name) e))
known s (inr (inr (inr (inr (inr (inr (inr other))))))) none = elim other [ ]

-- the subcommand is one of the tool's
pub names_command : (words : List Text) (m : ArgMatches) (n : Named tool_line words m) (name : Text) → subcommand_name_of m ≡ Some name → IsToolCommand name
names_command words m n name named =
    subst IsToolCommand (sym n.name ∙ name_told n name named) (known n.shape n.known (λ e. n.no_help (n.name ∙ e)))

-- and the words ask for its task
pub asks_for : (words : List Text) (m : ArgMatches) (n : Named tool_line words m) (name : Text) (given : List Row) (task : ToolTask)
    → subcommand_name_of m ≡ Some name → option_map (λ p. p.1) (subcommand_rows_of m) ≡ Some given → IsToolTask name given task
    → AsksTool words task
asks_for words m n name given task named rows is = go task
    (subst (λ (p : Text × List Row). IsToolTask p.0 p.1 task) (ap₂ (λ (t : Text) (r : List Row). (t, r)) (sym (name_told n name named)) (sym (rows_told n given rows))) is)
  where
    go : (task : ToolTask) → IsToolTask n.given.0 n.given.1 task → AsksTool words task
    go asks.Run h = (n.given.0, n.given.1, n.names, h)
    go (asks.List volume tells) h = (n.given.0, n.given.1, n.names, h)
    go (asks.Read spans folder tells) h = (n.given.0, n.given.1, n.names, h)
    go (asks.Salvage spans folder tells) h = (n.given.0, n.given.1, n.names, h)
    go (asks.Scan folder volumes texts tells) h = (n.given.0, n.given.1, n.names, h)
    go (asks.Verify folder expected json) h = (n.given.0, n.given.1, n.names, h)
    go (asks.Print cause) h = absurd h
    go asks.NoMemory h = absurd h

-- a subcommand that is none of the others runs a script
pub runs : (name : Text) → IsToolCommand name → (name ≡ codes "ls" → ⊥) → (name ≡ codes "read" → ⊥) → (name ≡ codes "salvage" → ⊥) → (name ≡ codes "scan" → ⊥)
    → (name ≡ codes "verify" → ⊥) → name ≡ codes "run"
runs name (inl e) ls read salvage scan verify = e
runs name (inr (inl e)) ls read salvage scan verify = absurd (ls e)
runs name (inr (inr (inl e))) ls read salvage scan verify = absurd (read e)
runs name (inr (inr (inr (inl e)))) ls read salvage scan verify = absurd (salvage e)
runs name (inr (inr (inr (inr (inl e))))) ls read salvage scan verify = absurd (scan e)
runs name (inr (inr (inr (inr (inr e))))) ls read salvage scan verify = absurd (verify e)

words_in : (s : Shape) → IsOneOf s (built tool_line).subs → (rest : List Text) (rows : List Row) → rows ≡ rows_after s.rules [] rest
    → (s.subcommand_negates_reqs ≡ false → AreGiven s.rules rows) → HasItsWords s.name rows
unfolding tool_line
words_in s (inl e) rest rows walked given = record {
  ls = λ named. absurd (true≢false (ap (bytes_eq (codes "run")) (sym (ap (λ x. x.name) e) ∙ named)));
  read = λ named. absurd (true≢false (ap (bytes_eq (codes "run")) (sym (ap (λ x. x.name) e) ∙ named)));
  salvage = λ named. absurd (true≢false (ap (bytes_eq (codes "run")) (sym (ap (λ x. x.name) e) ∙ named)));
  scan = λ named. absurd (true≢false (ap (bytes_eq (codes "run")) (sym (ap (λ x. x.name) e) ∙ named)));
  verify = λ named. absurd (true≢false (ap (bytes_eq (codes "run")) (sym (ap (λ x. x.name) e) ∙ named)));
}
words_in s (inr (inl e)) rest rows walked given = record {
  ls = λ named. given_word (codes "VOLUME") s _ rest rows e walked refl refl given (λ all. all.0 refl);
  read = λ named. absurd (true≢false (ap (bytes_eq (codes "ls")) (sym (ap (λ x. x.name) e) ∙ named)));
  salvage = λ named. absurd (true≢false (ap (bytes_eq (codes "ls")) (sym (ap (λ x. x.name) e) ∙ named)));
  scan = λ named. absurd (true≢false (ap (bytes_eq (codes "ls")) (sym (ap (λ x. x.name) e) ∙ named)));
  verify = λ named. absurd (true≢false (ap (bytes_eq (codes "ls")) (sym (ap (λ x. x.name) e) ∙ named)));
}
words_in s (inr (inr (inl e))) rest rows walked given = record {
  ls = λ named. absurd (true≢false (ap (bytes_eq (codes "read")) (sym (ap (λ x. x.name) e) ∙ named)));
  read = λ named. (given_word (codes "SPANS") s _ rest rows e walked refl refl given (λ all. all.0 refl), given_word (codes "FOLDER") s _ rest rows e walked refl refl given (λ all. all.1.0 refl));
  salvage = λ named. absurd (true≢false (ap (bytes_eq (codes "read")) (sym (ap (λ x. x.name) e) ∙ named)));
  scan = λ named. absurd (true≢false (ap (bytes_eq (codes "read")) (sym (ap (λ x. x.name) e) ∙ named)));
  verify = λ named. absurd (true≢false (ap (bytes_eq (codes "read")) (sym (ap (λ x. x.name) e) ∙ named)));
}
words_in s (inr (inr (inr (inl e)))) rest rows walked given = record {
  ls = λ named. absurd (true≢false (ap (bytes_eq (codes "salvage")) (sym (ap (λ x. x.name) e) ∙ named)));
  read = λ named. absurd (true≢false (ap (bytes_eq (codes "salvage")) (sym (ap (λ x. x.name) e) ∙ named)));
  salvage = λ named. (given_word (codes "SPANS") s _ rest rows e walked refl refl given (λ all. all.0 refl), given_word (codes "FOLDER") s _ rest rows e walked refl refl given (λ all. all.1.0 refl));
  scan = λ named. absurd (true≢false (ap (bytes_eq (codes "salvage")) (sym (ap (λ x. x.name) e) ∙ named)));
  verify = λ named. absurd (true≢false (ap (bytes_eq (codes "salvage")) (sym (ap (λ x. x.name) e) ∙ named)));
}
words_in s (inr (inr (inr (inr (inl e))))) rest rows walked given = record {
  ls = λ named. absurd (true≢false (ap (bytes_eq (codes "scan")) (sym (ap (λ x. x.name) e) ∙ named)));
  read = λ named. absurd (true≢false (ap (bytes_eq (codes "scan")) (sym (ap (λ x. x.name) e) ∙ named)));
  salvage = λ named. absurd (true≢false (ap (bytes_eq (codes "scan")) (sym (ap (λ x. x.name) e) ∙ named)));
  scan = λ named. given_word (codes "FOLDER") s _ rest rows e walked refl refl given (λ all. all.0 refl);
  verify = λ named. absurd (true≢false (ap (bytes_eq (codes "scan")) (sym (ap (λ x. x.name) e) ∙ named)));
}
words_in s (inr (inr (inr (inr (inr (inl e)))))) rest rows walked given = record {
  ls = λ named. absurd (true≢false (ap (bytes_eq (codes "verify")) (sym (ap (λ x. x.name) e) ∙ named)));
  read = λ named. absurd (true≢false (ap (bytes_eq (codes "verify")) (sym (ap (λ x. x.name) e) ∙ named)));
  salvage = λ named. absurd (true≢false (ap (bytes_eq (codes "verify")) (sym (ap (λ x. x.name) e) ∙ named)));
  scan = λ named. absurd (true≢false (ap (bytes_eq (codes "verify")) (sym (ap (λ x. x.name) e) ∙ named)));
  verify = λ named. given_word (codes "FOLDER") s _ rest rows e walked refl refl given (λ all. all.0 refl);
}
words_in s (inr (inr (inr (inr (inr (inr (inl e))))))) rest rows walked given = record {
  ls = λ named. absurd (true≢false (ap (bytes_eq (codes "help")) (sym (ap (λ x. x.name) e) ∙ named)));
  read = λ named. absurd (true≢false (ap (bytes_eq (codes "help")) (sym (ap (λ x. x.name) e) ∙ named)));
  salvage = λ named. absurd (true≢false (ap (bytes_eq (codes "help")) (sym (ap (λ x. x.name) e) ∙ named)));
  scan = λ named. absurd (true≢false (ap (bytes_eq (codes "help")) (sym (ap (λ x. x.name) e) ∙ named)));
  verify = λ named. absurd (true≢false (ap (bytes_eq (codes "help")) (sym (ap (λ x. x.name) e) ∙ named)));
}
words_in s (inr (inr (inr (inr (inr (inr (inr other))))))) rest rows walked given = elim other [ ]

-- the words that the subcommand requires are there
pub words_are_given : (words : List Text) (m : ArgMatches) (n : Named tool_line words m) (name : Text) (given : List Row)
    → subcommand_name_of m ≡ Some name → option_map (λ p. p.1) (subcommand_rows_of m) ≡ Some given → HasItsWords name given
words_are_given words m n name given named rows =
    subst (λ (p : Text × List Row). HasItsWords p.0 p.1) (ap₂ (λ (t : Text) (r : List Row). (t, r)) (sym n.name ∙ name_told n name named) (rows_told n given rows))
    (words_in n.shape n.known n.rest n.given.1 n.matched n.are_given)
