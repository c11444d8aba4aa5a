-- What the answer of reading tells of the bytes, and that bytes spell one line.
use Rattle.std.proofs.Common.{◌≡◌, ◌≢◌, ℕ, ◌<◌, refl, sym, ap, subst, ◌∙◌, arith, inl, inr, Bool, true, false, eqb, List, [], ◌∷◌, length, Option, Some, None, Result, Ok, Err}
use Rattle.std.specs.Prelude.{◌↔◌, All, IfOk}
use Rattle.std.specs.List.{AllByRecursion}
use Rattle.std.proofs.lemmas.Bool.{eqb-true, eqb-false}
use Rattle.std.proofs.lemmas.List.{nil_from_length}
use Rattle.std.proofs.lemmas.List.Elements.{All-nil, All-weaker}
use Rattle.sd_base.specs.Name.{IsName, is_name_char}
use Rattle.sd_script.specs.declared.command.Command.{Command}
use Rattle.sd_script.specs.declared.console.ConsoleCmd.{ConsoleCmd}
use Rattle.sd_script.specs.declared.console.ConsoleCmd.TheVariants as console
use Rattle.sd_script.specs.declared.line.Setting.TheVariants as setting
use Rattle.sd_script.specs.declared.line.ScriptLine.{ScriptLine}
use Rattle.sd_script.specs.declared.line.ScriptLine.TheVariants as line
use Rattle.sd_script.specs.declared.line.LineFault.{LineFault}
use Rattle.sd_script.specs.declared.line.LineFault.TheVariants.{BadCommand, BadName}
use Rattle.sd_script.specs.declared.line.Part.{Part}
use Rattle.sd_script.specs.declared.line.Part.TheVariants.{Head, Body}
use Rattle.sd_script.specs.Command.{command_text, is_console, stands}
use Rattle.sd_script.specs.Grammar.{IsSpelled, IsWord, AreNames, HasShape, HasForm, HaveOneForm, HaveOneShape, IsConsole, StandsIn, names}
use Rattle.sd_text.specs.Fields.{Fields, fields_of}
use Rattle.sd_script.specs.Reading.{Gives, shape}
use Rattle.sd_text.proofs.ReadingLemmas.{some_is}
use Rattle.sd_script.proofs.TakesLemmas.{takes}
use Rattle.sd_script.proofs.CommandLemmas.{command_one, command-some, command_stands, is_console_line, line_stands_there}
use Rattle.sd_script.proofs.AgainLemmas.{parts_of}

-- names are words
name_char_plain : (c : ℕ) → Rattle.std.specs.Prelude.IsTrue (is_name_char c) → c ≢ 32
name_char_plain c is_char blank = absurd (cc (ap is_name_char blank))

IsWord-name : (text : List ℕ) → IsName text → IsWord text
IsWord-name text name = (name.0, All-weaker (λ c. Rattle.std.specs.Prelude.IsTrue (is_name_char c)) (λ c. c ≢ 32) name_char_plain text name.2)

are_words : (texts : List (List ℕ)) → AllByRecursion IsName texts → AllByRecursion IsWord texts
are_words [] all = tt
are_words (t ∷ ts) all = (IsWord-name t all.0, are_words ts all.1)

pub HasShape-form : (bytes : List ℕ) (l : ScriptLine) → HasForm bytes l → HasShape bytes l
HasShape-form bytes l form = record { ascii = form.ascii; spelled = form.spelled; within = form.within; words = are_words (names l) form.names }

HasForm-shape : (bytes : List ℕ) (l : ScriptLine) → HasShape bytes l → AreNames l → HasForm bytes l
HasForm-shape bytes l has are_names = record { ascii = has.ascii; spelled = has.spelled; within = has.within; names = are_names }

-- only the empty line is spelled by no bytes
empty_only : (l : ScriptLine) → IsSpelled [] l → line.Empty ≡ l
empty_only line.Empty spelled = refl
empty_only (line.Set (setting.Block n)) spelled = elim spelled [ inl e ↦ absurd (cc e) | inr short ↦ absurd short ]
empty_only (line.Set (setting.Volume n)) spelled = elim spelled [ inl e ↦ absurd (cc e) | inr short ↦ absurd short ]
empty_only (line.Set (setting.Spool n)) spelled = elim spelled [ inl e ↦ absurd (cc e) | inr short ↦ absurd short ]
empty_only (line.Set (setting.Queue n)) spelled = elim spelled [ inl e ↦ absurd (cc e) | inr short ↦ absurd short ]
empty_only (line.Set (setting.Time n)) spelled = elim spelled [ inl e ↦ absurd (cc e) | inr short ↦ absurd short ]
empty_only (line.Set (setting.Host host)) spelled = elim spelled [ inl e ↦ absurd (cc e) | inr short ↦ absurd short ]
empty_only (line.Set (setting.Drive media n)) spelled = elim spelled [ inl e ↦ absurd (cc e) | inr short ↦ absurd short ]
empty_only (line.Set (setting.Capacity d n)) spelled = elim spelled [ inl e ↦ absurd (cc e) | inr short ↦ absurd short ]
empty_only (line.Set (setting.Fail d fail)) spelled = elim spelled [ inl e ↦ absurd (cc e) | inr short ↦ absurd short ]
empty_only (line.Rec t i s []) spelled = elim spelled [ inl e ↦ absurd (cc e) | inr e ↦ absurd (cc e) ]
empty_only (line.Rec t i s (x ∷ text)) spelled = elim spelled [ inl e ↦ absurd (cc e) | inr short ↦ absurd short ]
empty_only (line.Console (console.Label d v p m)) spelled = elim spelled [ inl e ↦ absurd (cc e) | inr short ↦ absurd short ]
empty_only (line.Console (console.Adopt d v)) spelled = elim spelled [ inl e ↦ absurd (cc e) | inr short ↦ absurd short ]
empty_only (line.Console (console.Mount d v)) spelled = elim spelled [ inl e ↦ absurd (cc e) | inr short ↦ absurd short ]
empty_only (line.Console (console.Unmount d)) spelled = elim spelled [ inl e ↦ absurd (cc e) | inr short ↦ absurd short ]
empty_only (line.Console (console.Retire d)) spelled = elim spelled [ inl e ↦ absurd (cc e) | inr short ↦ absurd short ]
empty_only (line.Console (console.Purge d v)) spelled = elim spelled [ inl e ↦ absurd (cc e) | inr short ↦ absurd short ]
empty_only (line.Console (console.Cancel t)) spelled = elim spelled [ inl e ↦ absurd (cc e) | inr short ↦ absurd short ]
empty_only (line.Console (console.JobMedia t)) spelled = elim spelled [ inl e ↦ absurd (cc e) | inr short ↦ absurd short ]
empty_only (line.Console console.Status) spelled = elim spelled [ inl e ↦ absurd (cc e) | inr short ↦ absurd short ]
empty_only (line.Console console.Requests) spelled = elim spelled [ inl e ↦ absurd (cc e) | inr short ↦ absurd short ]
empty_only (line.Restart t None) spelled = elim spelled [ inl e ↦ absurd (cc e) | inr short ↦ absurd short ]
empty_only (line.Restart t (Some tail)) spelled = elim spelled [ inl e ↦ absurd (cc e) | inr short ↦ absurd short ]
empty_only l spelled = elim spelled [ inl e ↦ absurd (cc e) | inr short ↦ absurd short ]

-- the fields say what is read
read_as : (part : Part) (bytes : List ℕ) (k : Command) (rest : Fields) (l : ScriptLine) → bytes ≢ [] → fields_of bytes ≡ command_text k ∷ rest → stands part k ≡ true
    → HasShape bytes l → StandsIn part l → shape k rest ≡ Some l
read_as part bytes k rest l some_there fields k_there has there =
    let parts = parts_of bytes l some_there has.spelled has.within has.words in
    let both : command_text k ∷ rest ≡ command_text parts.command ∷ parts.rest = sym fields ∙ parts.fields_are in
    let word : command_text k ≡ command_text parts.command = cc in
    let behind : rest ≡ parts.rest = cc in
    let one = command_one part k parts.command k_there (command_stands part parts.command l parts.kinds_are there) word in
    ap (λ (j : Command). shape j rest) one ∙ ap (shape parts.command) behind ∙ parts.shape_is

-- bytes spell one line in each part of a script, whatever its names are
pub shapes_are_one : HaveOneShape
shapes_are_one part [] l m l_has l_there m_has m_there = sym (empty_only l l_has.spelled) ∙ empty_only m m_has.spelled
shapes_are_one part (b ∷ bytes) l m l_has l_there m_has m_there =
    let some_there : b ∷ bytes ≢ [] = λ none. absurd (cc none) in
    let parts = parts_of (b ∷ bytes) l some_there l_has.spelled l_has.within l_has.words in
    let k_there = command_stands part parts.command l parts.kinds_are l_there in
    some_is l m (sym parts.shape_is ∙ read_as part (b ∷ bytes) parts.command parts.rest m some_there parts.fields_are k_there m_has m_there)

pub have_one_form : HaveOneForm
have_one_form part bytes l m l_form l_there m_form m_there =
    shapes_are_one part bytes l m (HasShape-form bytes l l_form) l_there (HasShape-form bytes m m_form) m_there

-- the line that was read; or one but for its names; or none
abbrev pub Tells : Part → List ℕ → Result ScriptLine LineFault → Type 0
Tells part bytes (Ok l) = HasShape bytes l × StandsIn part l × AreNames l
Tells part bytes (Err BadName) = (l : ScriptLine) × HasShape bytes l × StandsIn part l × (AreNames l → ⊥)
Tells part bytes (Err BadCommand) = (l : ScriptLine) → HasShape bytes l → StandsIn part l → ⊥

-- the empty line
empty_stands : (part : Part) → StandsIn part line.Empty
empty_stands Head = tt
empty_stands Body = tt

tells_empty : (part : Part) (bytes : List ℕ) → bytes ≡ [] → Tells part bytes (Ok line.Empty)
tells_empty part bytes none =
    (record { ascii = rw none (All-nil (λ byte. byte < 128)); spelled = inl none; within = tt; words = tt }, empty_stands part, tt)

-- no command, no line
tells_no_command : (part : Part) (bytes : List ℕ) → bytes ≢ [] → ((k : Command) (rest : Fields) → fields_of bytes ≡ command_text k ∷ rest → stands part k ≡ true → ⊥)
    → Tells part bytes (Err BadCommand)
tells_no_command part bytes some_there none l has there =
    let parts = parts_of bytes l some_there has.spelled has.within has.words in
    none parts.command parts.rest parts.fields_are (command_stands part parts.command l parts.kinds_are there)

-- what a command and the fields after it give
tells_shape : (part : Part) (bytes : List ℕ) (r : Result ScriptLine LineFault) (l : ScriptLine) → Gives r (Some l) → HasShape bytes l → StandsIn part l → Tells part bytes r
tells_shape part bytes (Ok found) l gives has there =
    subst (λ (x : ScriptLine). HasShape bytes x × StandsIn part x × AreNames x) (sym gives.0) (has, there, gives.1)
tells_shape part bytes (Err BadName) l gives has there = (l, has, there, gives.1)
tells_shape part bytes (Err BadCommand) l gives has there = absurd (cc gives.0)

tells_none : (part : Part) (bytes : List ℕ) (r : Result ScriptLine LineFault) → Gives r None → ((l : ScriptLine) → HasShape bytes l → StandsIn part l → ⊥) → Tells part bytes r
tells_none part bytes r gives none = rw gives none

tells_given : (part : Part) (bytes : List ℕ) (k : Command) (rest : Fields) (r : Result ScriptLine LineFault) (read : Option ScriptLine) → shape k rest ≡ read → bytes ≢ []
    → All (λ byte. byte < 128) bytes → fields_of bytes ≡ command_text k ∷ rest → stands part k ≡ true → Gives r read → Tells part bytes r
tells_given part bytes k rest r None e some_there ascii fields k_there gives =
    tells_none part bytes r gives (λ l has there. absurd (cc (sym e ∙ read_as part bytes k rest l some_there fields k_there has there)))
tells_given part bytes k rest r (Some l) e some_there ascii fields k_there gives =
    let spells = takes k bytes rest l fields e in
    tells_shape part bytes r l gives (record { ascii = ascii; spelled = spells.spelled; within = spells.within; words = spells.words })
    (line_stands_there part k l spells.kinds_are k_there)

-- what the code finds, exit by exit
pub empty_told : (part : Part) (bytes : List ℕ) → true ≡ eqb (length bytes) 0 → Tells part bytes (Ok line.Empty)
empty_told part bytes test = tells_empty part bytes (nil_from_length bytes (eqb-true (length bytes) 0 (sym test)))

some_from : (bytes : List ℕ) → false ≡ eqb (length bytes) 0 → bytes ≢ []
some_from bytes test none = eqb-false (length bytes) 0 (sym test) (ap length none)

pub no_command_told : (part : Part) (bytes text : List ℕ) (words : Fields) → false ≡ eqb (length bytes) 0 → text ≡ bytes → words ≡ fields_of text
    → ((k : Command) (rest : Fields) → words ≡ command_text k ∷ rest → stands part k ≡ true → ⊥) → Tells part bytes (Err BadCommand)
no_command_told part bytes text words test same fields none =
    tells_no_command part bytes (some_from bytes test) (λ k rest e. none k rest (fields ∙ ap fields_of same ∙ e))

pub line_told : (part : Part) (bytes text : List ℕ) (words : Fields) (k : Command) (rest : Fields) (r : Result ScriptLine LineFault) → false ≡ eqb (length bytes) 0
    → (text ≡ bytes) × All (λ byte. byte < 128) bytes → words ≡ fields_of text → (words ≡ command_text k ∷ rest) × (stands part k ≡ true) → Gives r (shape k rest)
    → Tells part bytes r
line_told part bytes text words k rest r test ascii fields found gives =
    tells_given part bytes k rest r (shape k rest) refl (some_from bytes test) ascii.1 (sym (ap fields_of ascii.0) ∙ sym fields ∙ found.0) found.1 gives

-- what was told, clause by clause
abbrev answer : Type 0
answer = Result ScriptLine LineFault

pub record Told (part : Part) (bytes : List ℕ) (r : answer) : Type 0 where
  pub ok : IfOk r (λ l. HasForm bytes l × StandsIn part l)
  pub found : (l : ScriptLine) → HasForm bytes l → StandsIn part l → r ≡ Ok l
  pub bad_name : (r ≡ Err BadName) ↔ ((l : ScriptLine) × HasShape bytes l × StandsIn part l × (AreNames l → ⊥))
  pub bad_command : (r ≡ Err BadCommand) ↔ ((l : ScriptLine) → HasShape bytes l → StandsIn part l → ⊥)

pub told_of : (part : Part) (bytes : List ℕ) (r : answer) → Tells part bytes r → Told part bytes r
told_of part bytes (Ok m) told = record {
  ok = (HasForm-shape bytes m told.0 told.2, told.1);
  found = λ l form there. ap Ok (shapes_are_one part bytes m l told.0 told.1 (HasShape-form bytes l form) there);
  bad_name = ((λ e. absurd (cc e)), (λ found. absurd (found.3 (subst AreNames (shapes_are_one part bytes m found.0 told.0 told.1 found.1 found.2) told.2))));
  bad_command = ((λ e. absurd (cc e)), (λ none. absurd (none m told.0 told.1)));
}
told_of part bytes (Err BadName) told = record {
  ok = tt;
  found = λ l form there. absurd (told.3 (subst AreNames (shapes_are_one part bytes l told.0 (HasShape-form bytes l form) there told.1 told.2) form.names));
  bad_name = ((λ e. told), (λ found. refl));
  bad_command = ((λ e. absurd (cc e)), (λ none. absurd (none told.0 told.1 told.2)));
}
told_of part bytes (Err BadCommand) told = record {
  ok = tt;
  found = λ l form there. absurd (told l (HasShape-form bytes l form) there);
  bad_name = ((λ e. absurd (cc e)), (λ found. absurd (told found.0 found.1 found.2)));
  bad_command = ((λ e. told), (λ none. refl));
}

-- The lines that a console has too.

console_some : (bytes : List ℕ) (command : ConsoleCmd) → HasShape bytes (line.Console command) → bytes ≢ []
console_some bytes command has none =
    absurd (cc (empty_only (line.Console command) (subst (λ (bs : List ℕ). IsSpelled bs (line.Console command)) none has.spelled)))

pub no_console : (bytes text : List ℕ) (words : Fields) → text ≡ bytes → words ≡ fields_of text
    → ((k : Command) (rest : Fields) → words ≡ command_text k ∷ rest → stands Body k ≡ true → ⊥) → (command : ConsoleCmd) → HasShape bytes (line.Console command) → ⊥
no_console bytes text words same fields none command has =
    let parts = parts_of bytes (line.Console command) (console_some bytes command has) has.spelled has.within has.words in
    none parts.command parts.rest (fields ∙ ap fields_of same ∙ parts.fields_are) (command_stands Body parts.command (line.Console command) parts.kinds_are tt)

some_fields : (bytes : List ℕ) (k : Command) (rest : Fields) → fields_of bytes ≡ command_text k ∷ rest → bytes ≢ []
some_fields bytes k rest fields none =
    let both : [] ∷ [] ≡ command_text k ∷ rest = sym (ap fields_of none) ∙ fields in
    let word : [] ≡ command_text k = cc in
    let long = command-some k in
    absurd (omega (arith, long, ap length word))

-- the first word tells whether a console has the line too
kind_of : (bytes : List ℕ) (k : Command) (rest : Fields) (l : ScriptLine) → fields_of bytes ≡ command_text k ∷ rest → stands Body k ≡ true
    → HasShape bytes l → StandsIn Body l → is_console k ≡ is_console_line l
kind_of bytes k rest l fields k_there has there =
    let parts = parts_of bytes l (some_fields bytes k rest fields) has.spelled has.within has.words in
    let both : command_text k ∷ rest ≡ command_text parts.command ∷ parts.rest = sym fields ∙ parts.fields_are in
    let word : command_text k ≡ command_text parts.command = cc in
    let one = command_one Body k parts.command k_there (command_stands Body parts.command l parts.kinds_are there) word in
    ap is_console one ∙ ap (λ (t : Bool × Bool × Bool). t.0) parts.kinds_are

IsConsole-kind : (l : ScriptLine) → is_console_line l ≡ true → IsConsole l
IsConsole-kind (line.Console command) e = (command, refl)
IsConsole-kind l e = absurd (cc e)

pub kind_yes : (bytes text : List ℕ) (words : Fields) (k : Command) (rest : Fields) → text ≡ bytes → words ≡ fields_of text
    → (words ≡ command_text k ∷ rest) × (stands Body k ≡ true) → is_console k ≡ true → (l : ScriptLine) → HasShape bytes l → StandsIn Body l → IsConsole l
kind_yes bytes text words k rest same fields found own l has there =
    IsConsole-kind l (sym (kind_of bytes k rest l (sym (ap fields_of same) ∙ sym fields ∙ found.0) found.1 has there) ∙ own)

pub kind_no : (bytes text : List ℕ) (words : Fields) (k : Command) (rest : Fields) → text ≡ bytes → words ≡ fields_of text
    → (words ≡ command_text k ∷ rest) × (stands Body k ≡ true) → (command : ConsoleCmd) → HasShape bytes (line.Console command) → is_console k ≡ true
kind_no bytes text words k rest same fields found command has =
    kind_of bytes k rest (line.Console command) (sym (ap fields_of same) ∙ sym fields ∙ found.0) found.1 has tt

-- the command that was read; or one but for its names; or none
abbrev pub TellsConsole : List ℕ → Result ConsoleCmd LineFault → Type 0
TellsConsole bytes (Ok command) = HasForm bytes (line.Console command)
TellsConsole bytes (Err BadName) = (command : ConsoleCmd) × HasShape bytes (line.Console command) × (AreNames (line.Console command) → ⊥)
TellsConsole bytes (Err BadCommand) = (command : ConsoleCmd) → HasShape bytes (line.Console command) → ⊥

pub console_told : (bytes : List ℕ) (l : ScriptLine) (r : Result ConsoleCmd LineFault) → ((m : ScriptLine) → HasShape bytes m → StandsIn Body m → IsConsole m)
    → HasForm bytes l × StandsIn Body l → ((command : ConsoleCmd) → l ≡ line.Console command → r ≡ Ok command) → TellsConsole bytes r
console_told bytes l r all form gives =
    let is = all l (HasShape-form bytes l form.0) form.1 in
    subst (λ (x : Result ConsoleCmd LineFault). TellsConsole bytes x) (sym (gives is.0 is.1)) (subst (λ (m : ScriptLine). HasForm bytes m) is.1 form.0)

pub fault_told : (bytes : List ℕ) (r : answer) (fault : LineFault) → ((m : ScriptLine) → HasShape bytes m → StandsIn Body m → IsConsole m)
    → ((r ≡ Err BadName) ↔ ((l : ScriptLine) × HasShape bytes l × StandsIn Body l × (AreNames l → ⊥)))
    → ((r ≡ Err BadCommand) ↔ ((l : ScriptLine) → HasShape bytes l → StandsIn Body l → ⊥)) → r ≡ Err fault → TellsConsole bytes (Err fault)
fault_told bytes r BadName all bad_name bad_command is =
    let found = bad_name.0 is in
    let own = all found.0 found.1 found.2 in
    (own.0, subst (λ (m : ScriptLine). HasShape bytes m) own.1 found.1, λ names. found.3 (subst AreNames (sym own.1) names))
fault_told bytes r BadCommand all bad_name bad_command is = λ command has. bad_command.0 is (line.Console command) has tt

same_command : (a b : ConsoleCmd) → line.Console a ≡ line.Console b → a ≡ b
same_command a b e = cc e

console_found : (bytes : List ℕ) (r : Result ConsoleCmd LineFault) → TellsConsole bytes r → (command : ConsoleCmd) → HasForm bytes (line.Console command) → r ≡ Ok command
console_found bytes (Ok m) told command form =
    ap Ok (same_command m command (have_one_form Body bytes (line.Console m) (line.Console command) told tt form tt))
console_found bytes (Err BadName) told command form =
    absurd (told.2 (subst AreNames (shapes_are_one Body bytes (line.Console command) (line.Console told.0) (HasShape-form bytes (line.Console command) form) tt told.1 tt) form.names))
console_found bytes (Err BadCommand) told command form = absurd (told command (HasShape-form bytes (line.Console command) form))

abbrev console_answer : Type 0
console_answer = Result ConsoleCmd LineFault

console_bad_name : (bytes : List ℕ) (r : console_answer) → TellsConsole bytes r
    → (r ≡ Err BadName) ↔ ((command : ConsoleCmd) × HasShape bytes (line.Console command) × (AreNames (line.Console command) → ⊥))
console_bad_name bytes (Ok m) told =
    ((λ e. absurd (cc e)), (λ found. absurd (found.2 (subst AreNames (shapes_are_one Body bytes (line.Console m) (line.Console found.0) (HasShape-form bytes (line.Console m) told) tt found.1 tt) told.names))))
console_bad_name bytes (Err BadName) told = ((λ e. told), (λ found. refl))
console_bad_name bytes (Err BadCommand) told = ((λ e. absurd (cc e)), (λ found. absurd (told found.0 found.1)))

console_bad_command : (bytes : List ℕ) (r : console_answer) → TellsConsole bytes r → (r ≡ Err BadCommand) ↔ ((command : ConsoleCmd) → HasShape bytes (line.Console command) → ⊥)
console_bad_command bytes (Ok m) told = ((λ e. absurd (cc e)), (λ none. absurd (none m (HasShape-form bytes (line.Console m) told))))
console_bad_command bytes (Err BadName) told = ((λ e. absurd (cc e)), (λ none. absurd (none told.0 told.1)))
console_bad_command bytes (Err BadCommand) told = ((λ e. told), (λ none. refl))

console_ok : (bytes : List ℕ) (r : console_answer) → TellsConsole bytes r → IfOk r (λ command. HasForm bytes (line.Console command))
console_ok bytes (Ok m) told = told
console_ok bytes (Err fault) told = tt

-- what was told, clause by clause
pub record ToldConsole (bytes : List ℕ) (r : console_answer) : Type 0 where
  pub ok : IfOk r (λ command. HasForm bytes (line.Console command))
  pub found : (command : ConsoleCmd) → HasForm bytes (line.Console command) → r ≡ Ok command
  pub bad_name : (r ≡ Err BadName) ↔ ((command : ConsoleCmd) × HasShape bytes (line.Console command) × (AreNames (line.Console command) → ⊥))
  pub bad_command : (r ≡ Err BadCommand) ↔ ((command : ConsoleCmd) → HasShape bytes (line.Console command) → ⊥)

pub told_console : (bytes : List ℕ) (r : console_answer) → TellsConsole bytes r → ToldConsole bytes r
told_console bytes r told = record {
  ok = console_ok bytes r told;
  found = console_found bytes r told;
  bad_name = console_bad_name bytes r told;
  bad_command = console_bad_command bytes r told;
}
