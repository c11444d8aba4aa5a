-- The subcommand that the words name, if nothing is wrong with them.
use Rattle.std.proofs.Common.{◌≡◌, ◌∙◌, ◌⊎◌, ◌&&◌, ◌||◌, Bool, cond, true, false, not, refl, sym, ap, subst, inl, inr, true≢false, Result, Ok, Err, IsErrAnd, IfErr, List, [], ◌∷◌, Option, Some, None, is_some, option_map, if◌then◌else◌, find, fold, bytes_eq, codes}
use Rattle.std.specs.List.{list_any}
use Rattle.std.specs.Option.{option_map_or, unwrap_or}
use Rattle.std.specs.Prelude.{Box}
use Rattle.std.specs.Box.{box_value}
use Rattle.std.proofs.lemmas.Slice.Eq.{bytes_eq-Decides}
use Rattle.clap.specs.Faults.{check_fault, defaults_fault, entered_fault, fault_of, is_free_app, is_simple_and_free, level_fault, other_fault, settle_fault, step_fault, turn_fault, walk_fault, word_fault}
use Rattle.clap.specs.Kinds.{HasKind, Kinds, check_kinds, or_else}
use Rattle.clap.specs.Facts.{explicit_source}
use Rattle.clap.specs.Takes.{is_given}
use Rattle.clap.specs.Matches.{subcommand_name_of}
use Rattle.clap.specs.Simple.{App, HasMatchesOf, Shape, argument_words, built, entered, is_simple, label_of, names_of, rows_at, subcommand_rows, subcommand_rows_of}
use Rattle.clap.specs.Walk.{Held, Names, Outcome, Row, Rule, Text, Waiting, Walk, after_flag, after_step, answers_to, arg_by_index, bundle, done, idle, long_met, long_or_other, arg_by_long, nothing_held, option, plain, plain_word, positional, refused, rows_after, settled, short_or_plain, stop_after, subcommand_met, subcommand_or_other, to_positional, trailing, waits, walk, walk_from, walked, walked_from, word_met}
use Rattle.clap.specs.Lexer.{long_of, short_of}
use Rattle.clap.specs.declared.error.Error.{Error}
use Rattle.clap.specs.declared.error.kind.ErrorKind.{ErrorKind}
use Rattle.clap.specs.declared.parser.matches.ArgMatches.{ArgMatches}
use Rattle.clap.specs.declared.parser.matches.ArgMatches.TheViews.{out-ArgMatches, out-SubCommand}
use Rattle.clap.specs.declared.parser.matches.SubCommand.{SubCommand}
use Rattle.clap.proofs.WalkLemmas.{both}
use Rattle.sd_arguments.specs.Lines.{NamesCommand}

-- ---- faults

none_of_both : (a b : Kinds) → or_else a b ≡ [] → (a ≡ []) × (b ≡ [])
none_of_both [] b e = (refl, e)
none_of_both (k ∷ ks) b e = absurd (cc)

no_check : (help command argument : Bool) → check_kinds help command argument ≡ [] → (command ≡ false) × (argument ≡ false)
no_check true command argument e = absurd (cc)
no_check false true argument e = absurd (cc)
no_check false false true e = absurd (cc)
no_check false false false e = (refl, refl)

is_there : (has is_required : Bool) → is_required ≡ true → (not has && is_required) ≡ false → has ≡ true
is_there true is_required r e = refl
is_there false is_required r e = sym e ∙ r

-- a level without a fault has none in its walk, below it, and at its end
level_parts : (s : Shape) (names : Names) (words : List Text) (has : Bool) (below : Kinds) → level_fault s names nothing_held words has below ≡ []
    → (walk_fault s names (walk_from nothing_held) words ≡ []) × (below ≡ []) × (check_fault s (rows_after s.rules names words) has ≡ [])
level_parts s names words has below e =
    let end = (walk s.rules names nothing_held words).held in
    let checked : Kinds = check_fault s (rows_after s.rules names words) has in
    let given : Kinds = defaults_fault (settled s.rules end).rows s.rules in
    let settling : Kinds = settle_fault s.rules s.args_override_self end in
    let all = none_of_both (walk_fault s names (walk_from nothing_held) words) (or_else below (or_else settling (or_else given checked))) e in
    let below_none = none_of_both below (or_else settling (or_else given checked)) all.1 in
    let settled_none = none_of_both settling (or_else given checked) below_none.1 in
    let given_none = none_of_both given checked settled_none.1 in
    (all.0, below_none.0, given_none.1)

-- at its end no subcommand lacks, and no argument that is required
level_end : (s : Shape) (rows : List Row) (has : Bool) → check_fault s rows has ≡ [] → ((not has && s.subcommand_required) ≡ false)
    × ((not (s.subcommand_negates_reqs && has) && list_any (λ a. a.required && not (is_given a.id rows)) s.rules) ≡ false)
level_end s rows has e = no_check (not has && (s.arg_required_else_help && not (list_any (λ r. explicit_source r.source) rows)))
    (not has && s.subcommand_required)
    (not (s.subcommand_negates_reqs && has) && list_any (λ a. a.required && not (is_given a.id rows)) s.rules) e

not_negated : (negates lacks : Bool) → negates ≡ false → (not (negates && false) && lacks) ≡ false → lacks ≡ false
not_negated true lacks needs e = absurd (cc)
not_negated false lacks needs e = e

-- ---- a walk without a fault stops at no call for help

abbrev AsksNoHelp : Option (Text × List Text) → Type 0
AsksNoHelp stop = option_map_or (λ p. bytes_eq p.0 (codes "help")) stop false ≡ false

not_help : (is_help is_off : Bool) (k : ErrorKind) (ks : Kinds) → is_off ≡ false → (if is_help && not is_off then k ∷ ks else []) ≡ [] → is_help ≡ false
not_help false is_off k ks off e = refl
not_help true false k ks off e = absurd (cc)
not_help true true k ks off e = off

positional_stop : (c : List Rule) (a : Option Rule) (word : Text) (w : Walk) (h : Held) → AsksNoHelp w.stopped → AsksNoHelp (to_positional c a word w h).stopped
positional_stop c None word w h k = k
positional_stop c (Some a) word w h k = refl

plain_stop : (c : List Rule) (waiting : Waiting) (word : Text) (w : Walk) (h : Held) → AsksNoHelp w.stopped
    → AsksNoHelp (after_step c word w (plain_word c waiting word h).0 (plain_word c waiting word h).1).stopped
plain_stop c (option id) word w h k = k
plain_stop c idle word w h k = positional_stop c (arg_by_index c w.position) word w h k
plain_stop c positional word w h k = positional_stop c (arg_by_index c w.position) word w h k

flag_stop : (c : List Rule) (waiting : Waiting) (word : Text) (w : Walk) (h : Held) (o : Outcome) → AsksNoHelp w.stopped
    → AsksNoHelp (after_step c word w (after_flag c waiting word h o).0 (after_flag c waiting word h o).1).stopped
flag_stop c waiting word w h done k = k
flag_stop c waiting word w h (waits id) k = k
flag_stop c waiting word w h plain k = plain_stop c waiting word w h k
flag_stop c waiting word w h refused k = plain_stop c waiting word w h k

short_stop : (c : List Rule) (waiting : Waiting) (word : Text) (w : Walk) (flags : Option Text) (h : Held) → AsksNoHelp w.stopped
    → AsksNoHelp (after_step c word w (short_or_plain c waiting word flags h).0 (short_or_plain c waiting word flags h).1).stopped
short_stop c waiting word w (Some flags) h k = flag_stop c waiting word w (bundle c flags h).0 (bundle c flags h).1 k
short_stop c waiting word w None h k = plain_stop c waiting word w h k

long_stop : (c : List Rule) (waiting : Waiting) (word : Text) (w : Walk) (p : Option (Text × Option Text)) (h : Held) → AsksNoHelp w.stopped
    → AsksNoHelp (after_step c word w (long_or_other c waiting word p h).0 (long_or_other c waiting word p h).1).stopped
long_stop c waiting word w (Some p) h k =
    flag_stop c waiting word w (long_met c (arg_by_long c p.0) p.1 h).0 (long_met c (arg_by_long c p.0) p.1 h).1 k
long_stop c waiting word w None h k = short_stop c waiting word w (short_of word) h k

dashes_stop : (c : List Rule) (waiting : Waiting) (word : Text) (w : Walk) (h : Held) (are_dashes : Bool) → AsksNoHelp w.stopped
    → AsksNoHelp (after_step c word w (if are_dashes then (h, trailing w.position) else long_or_other c waiting word (long_of word) h).0
    (if are_dashes then (h, trailing w.position) else long_or_other c waiting word (long_of word) h).1).stopped
dashes_stop c waiting word w h true k = k
dashes_stop c waiting word w h false k = long_stop c waiting word w (long_of word) h k

other_stop : (s : Shape) (word : Text) (w : Walk) (name : Option Text) → s.disable_help_subcommand ≡ false → other_fault s name word w.held ≡ []
    → AsksNoHelp w.stopped
    → AsksNoHelp (after_step s.rules word w (subcommand_or_other s.rules name w.waiting w.position word w.held).0
    (subcommand_or_other s.rules name w.waiting w.position word w.held).1).stopped
other_stop s word w (Some name) on e k = not_help (bytes_eq name (codes "help")) s.disable_help_subcommand _ _ on e
other_stop s word w None on e k = dashes_stop s.rules w.waiting word w w.held (bytes_eq word (45 ∷ 45 ∷ [])) k

word_stop : (s : Shape) (names : Names) (word : Text) (w : Walk) (is_trailing : Bool) → s.disable_help_subcommand ≡ false
    → word_fault s names is_trailing w.waiting word w.held ≡ [] → AsksNoHelp w.stopped
    → AsksNoHelp (after_step s.rules word w (word_met s.rules names is_trailing w.waiting w.position word w.held).0
    (word_met s.rules names is_trailing w.waiting w.position word w.held).1).stopped
word_stop s names word w true on e k = positional_stop s.rules (arg_by_index s.rules w.position) word w w.held k
word_stop s names word w false on e k = other_stop s word w (subcommand_met names w.waiting word) on e k

turn_from : (s : Shape) (names : Names) (word : Text) (w : Walk) (stop : Option (Text × List Text)) → s.disable_help_subcommand ≡ false
    → (if is_some stop then [] else or_else (word_fault s names w.is_trailing w.waiting word w.held)
    (step_fault s w.position (word_met s.rules names w.is_trailing w.waiting w.position word w.held).0
    (word_met s.rules names w.is_trailing w.waiting w.position word w.held).1)) ≡ []
    → AsksNoHelp stop → AsksNoHelp w.stopped → AsksNoHelp (walked_from s.rules names stop w word).stopped
turn_from s names word w (Some p) on e k ks = k
turn_from s names word w None on e k ks =
    let none = none_of_both (word_fault s names w.is_trailing w.waiting word w.held)
    (step_fault s w.position (word_met s.rules names w.is_trailing w.waiting w.position word w.held).0
    (word_met s.rules names w.is_trailing w.waiting w.position word w.held).1) e in
    word_stop s names word w w.is_trailing on none.0 ks

turn_stop : (s : Shape) (names : Names) (word : Text) (w : Walk) → s.disable_help_subcommand ≡ false → turn_fault s names w word ≡ []
    → AsksNoHelp w.stopped → AsksNoHelp (walked s.rules names w word).stopped
unfolding walked
turn_stop s names word w on e k = turn_from s names word w w.stopped on e k k

walk_stop : (s : Shape) (names : Names) (words : List Text) (w : Walk) → s.disable_help_subcommand ≡ false → walk_fault s names w words ≡ []
    → AsksNoHelp w.stopped → AsksNoHelp (fold (walked s.rules names) w words).stopped
unfolding walk_fault
walk_stop s names [] w on e k = k
walk_stop s names (word ∷ rest) w on e k =
    let none = none_of_both (turn_fault s names w word) (walk_fault s names (walked s.rules names w word) rest) e in
    walk_stop s names rest (walked s.rules names w word) on none.1 (turn_stop s names word w on none.0 k)

-- ---- the subcommand that is entered

-- no subcommand has a second name
abbrev pub HaveOneName : List Shape → Type 0
HaveOneName [] = Unit {0}
HaveOneName (s ∷ rest) = (s.aliases ≡ []) × HaveOneName rest

-- the subcommand is one of these
abbrev pub IsOneOf : Shape → List Shape → Type 0
IsOneOf s [] = ⊥
IsOneOf s (x ∷ xs) = (s ≡ x) ⊎ IsOneOf s xs

-- the search for a word finds this subcommand, whose matches are `given`
record Finds (subs : List Shape) (p : Text × List Text) (given : Text × List Row) : Type 0 where
  pub shape : Shape
  pub one : IsOneOf shape subs
  pub named : given.0 ≡ shape.name
  pub by_word : given.0 ≡ p.0
  pub rows : given.1 ≡ rows_after shape.rules [] p.1
  pub whole : option_map_or (λ s. level_fault s [] nothing_held p.1 false []) (find (λ s. answers_to p.0 (label_of s)) subs) [] ≡ []
      → level_fault shape [] nothing_held p.1 false [] ≡ []

finds : (subs : List Shape) (p : Text × List Text) (given : Text × List Row) → HaveOneName subs
    → option_map (λ s. rows_at s p.1) (find (λ s. answers_to p.0 (label_of s)) subs) ≡ Some given → Finds subs p given
finds [] p given one e = absurd (cc)
finds (s ∷ rest) p given one e =
    let f = go (bytes_eq s.name p.0) (list_any (λ alias. bytes_eq alias p.0) s.aliases) refl (ap (list_any (λ alias. bytes_eq alias p.0)) one.0) e (finds rest p given one.1) in
    record { shape = f.0; one = f.1; named = f.2; by_word = f.3; rows = f.4; whole = f.5 }
  where
    go : (here alias : Bool) → bytes_eq s.name p.0 ≡ here → alias ≡ false
        → option_map (λ x. rows_at x p.1) (cond (here || alias) (Some s) (find (λ x. answers_to p.0 (label_of x)) rest)) ≡ Some given
        → (option_map (λ x. rows_at x p.1) (find (λ x. answers_to p.0 (label_of x)) rest) ≡ Some given → Finds rest p given)
        → (shape : Shape) × IsOneOf shape (s ∷ rest) × (given.0 ≡ shape.name) × (given.0 ≡ p.0) × (given.1 ≡ rows_after shape.rules [] p.1)
        × (option_map_or (λ x. level_fault x [] nothing_held p.1 false []) (cond (here || alias) (Some s) (find (λ x. answers_to p.0 (label_of x)) rest)) [] ≡ []
        → level_fault shape [] nothing_held p.1 false [] ≡ [])
    go true alias is none found again =
        let same : given ≡ rows_at s p.1 = sym (ap (λ o. unwrap_or o given) found) in
        (s, inl refl, ap (λ g. g.0) same, ap (λ g. g.0) same ∙ (bytes_eq-Decides s.name p.0).0 is, ap (λ g. g.1) same, λ whole. whole)
    go false true is none found again = absurd (cc)
    go false false is none found again = let f = again found in (f.shape, inr f.one, f.named, f.by_word, f.rows, f.whole)

there : {X : Type 0} (o : Option X) → is_some o ≡ true → (x : X) × (o ≡ Some x)
there None e = absurd (cc)
there (Some x) e = (x, refl)

-- each argument that is required is given
abbrev pub AreGiven : List Rule → List Row → Type 0
AreGiven [] rows = Unit {0}
AreGiven (a ∷ rest) rows = (a.required ≡ true → is_given a.id rows ≡ true) × AreGiven rest rows

all_given : (rules : List Rule) (rows : List Row) → list_any (λ a. a.required && not (is_given a.id rows)) rules ≡ false → AreGiven rules rows
all_given [] rows e = tt
all_given (a ∷ rest) rows e = go a.required (is_given a.id rows) e (all_given rest rows)
  where
    go : (wants given : Bool) → ((wants && not given) || list_any (λ x. x.required && not (is_given x.id rows)) rest) ≡ false
        → (list_any (λ x. x.required && not (is_given x.id rows)) rest ≡ false → AreGiven rest rows) → (wants ≡ true → given ≡ true) × AreGiven rest rows
    go true true e again = ((λ is. refl), again e)
    go true false e again = absurd (cc)
    go false given e again = ((λ is. absurd (cc)), again e)

-- what a parse without a fault says of the subcommand
pub record Named (line : App) (words : List Text) (m : ArgMatches) : Type 0 where
  pub given : Text × List Row
  pub rows : subcommand_rows_of m ≡ Some given
  pub names : NamesCommand line words given.0 given.1
  pub shape : Shape
  pub known : IsOneOf shape (built line).subs
  pub name : given.0 ≡ shape.name
  pub no_help : given.0 ≡ codes "help" → ⊥
  pub rest : List Text
  pub matched : given.1 ≡ rows_after shape.rules [] rest
  pub are_given : shape.subcommand_negates_reqs ≡ false → AreGiven shape.rules given.1

-- the program wants a subcommand, has the subcommand `help`, no subcommand has a second name, and no argument has a
-- rule on another
pub record IsProgram (line : App) : Type 0 where
  pub simple : is_simple_and_free line ≡ true
  pub helps : (built line).top.disable_help_subcommand ≡ false
  pub wants : (built line).top.subcommand_required ≡ true
  pub one : HaveOneName (built line).subs

-- what is known if a subcommand is entered by a stop
record Enters (a : App) (stop : Option (Text × List Text)) (given : Text × List Row) : Type 0 where
  pub shape : Shape
  pub known : IsOneOf shape a.subs
  pub name : given.0 ≡ shape.name
  pub no_help : given.0 ≡ codes "help" → ⊥
  pub rest : List Text
  pub matched : given.1 ≡ rows_after shape.rules [] rest
  pub are_given : shape.subcommand_negates_reqs ≡ false → AreGiven shape.rules given.1

enters : (a : App) (stop : Option (Text × List Text)) (given : Text × List Row) → HaveOneName a.subs → entered a stop ≡ Some given
    → entered_fault a stop ≡ [] → AsksNoHelp stop → Enters a stop given
enters a None given one e whole k = absurd (cc)
enters a (Some p) given one e whole k =
    let f = finds a.subs p given one e in
    let parts = level_parts f.shape [] p.1 false [] (f.whole whole) in
    let end = level_end f.shape (rows_after f.shape.rules [] p.1) false parts.2 in
    record {
      shape = f.shape;
      known = f.one;
      name = f.named;
      no_help = λ is_help. true≢false (sym (ap (λ (n : Text). bytes_eq n (codes "help")) (sym f.by_word ∙ is_help)) ∙ k);
      rest = p.1;
      matched = f.rows;
      are_given = λ needs. subst (AreGiven f.shape.rules) (sym f.rows) (all_given f.shape.rules (rows_after f.shape.rules [] p.1) (not_negated f.shape.subcommand_negates_reqs
          (list_any (λ a. a.required && not (is_given a.id (rows_after f.shape.rules [] p.1))) f.shape.rules) needs end.1));
    }

named_in : (line : App) (words : List Text) (m : ArgMatches) → IsProgram line → fault_of line words ≡ [] → HasMatchesOf line words m → Named line words m
named_in line words m is e matches =
    let b = built line in
    let ws = argument_words line words in
    let stop = stop_after b.top.rules (names_of b) ws in
    let has = is_some (entered b stop) in
    let parts = level_parts b.top (names_of b) ws has (entered_fault b stop) e in
    let end = level_end b.top (rows_after b.top.rules (names_of b) ws) has parts.2 in
    let found = there (entered b stop) (is_there has b.top.subcommand_required is.wants end.0) in
    let no_help = walk_stop b.top (names_of b) ws (walk_from nothing_held) is.helps parts.0 refl in
    let sub = enters b stop found.0 is.one found.1 parts.1 no_help in
    let simple : is_simple line ≡ true = (both (is_simple line) (is_free_app b) is.simple).0 in
    record {
      given = found.0;
      rows = (matches simple).1 ∙ found.1;
      names = record { faultless = e; named = found.1 };
      shape = sub.shape;
      known = sub.known;
      name = sub.name;
      no_help = sub.no_help;
      rest = sub.rest;
      matched = sub.matched;
      are_given = sub.are_given;
    }

-- ---- the same, by what the parser and the matches answer

-- the command that was parsed is read as `line`
pub parsed : (line read : App) (words : List Text) (m : ArgMatches) → IsProgram line → read ≡ line
    → (is_simple_and_free read ≡ true → fault_of read words ≡ []) → HasMatchesOf read words m → Named line words m
parsed line read words m is same kinds matches =
    let k = subst (λ (a : App). (is_simple_and_free a ≡ true → fault_of a words ≡ []) × HasMatchesOf a words m) same (kinds, matches) in
    named_in line words m is (k.0 is.simple) k.1

pub refused_by : (line read : App) (words : List Text) (e : Error) → IsProgram line → read ≡ line
    → (is_simple_and_free read ≡ true → HasKind (fault_of read words) e) → HasKind (fault_of line words) e
refused_by line read words e is same kinds =
    subst (λ (a : App). is_simple_and_free a ≡ true → HasKind (fault_of a words) e) same kinds is.simple

-- what an exit by `?` answers
pub exit_with : {T : Type 0} (r : Result T Error) (P Q : Error → Type 0) → IsErrAnd r Q → ((e : Error) → Q e → P e) → IfErr r P
exit_with (Ok x) P Q h f = tt
exit_with (Err e) P Q h f = f e h

module _ {Z : Type 0} where
  name_in : (o : Option (Box SubCommand Z)) → option_map (λ b. (out-SubCommand (box_value b)).name.now) o ≡ option_map (λ p. p.0) (subcommand_rows o)
  name_in None = refl
  name_in (Some b) = refl

pub some_same : {X : Type 0} (x y : X) → Some x ≡ Some y → x ≡ y
some_same x y e = ap (λ o. unwrap_or o x) e

-- the matches tell this name of a subcommand
pub name_told : {line : App} {words : List Text} {m : ArgMatches} (n : Named line words m) (name : Text) → subcommand_name_of m ≡ Some name → n.given.0 ≡ name
name_told {line} {words} {m} n name e =
    some_same n.given.0 name (ap (option_map (λ p. p.0)) (sym n.rows) ∙ (sym (name_in (out-ArgMatches m).subcommand) ∙ e))

-- they tell some name
pub no_name : {line : App} {words : List Text} {m : ArgMatches} (n : Named line words m) → None ≡ subcommand_name_of m → ⊥
no_name {line} {words} {m} n e =
    let told : None ≡ Some n.given.0 = e ∙ (name_in (out-ArgMatches m).subcommand ∙ ap (option_map (λ p. p.0)) n.rows) in
    absurd (cc)

-- and this name is not told
pub name_untold : {line : App} {words : List Text} {m : ArgMatches} (n : Named line words m) (name : Text) → (subcommand_name_of m ≡ Some name → ⊥)
    → n.given.0 ≡ name → ⊥
name_untold {line} {words} {m} n name none e =
    none (name_in (out-ArgMatches m).subcommand ∙ (ap (option_map (λ p. p.0)) n.rows ∙ ap (λ x. Some x) e))

-- the matches tell this of the subcommand's arguments
pub rows_told : {line : App} {words : List Text} {m : ArgMatches} (n : Named line words m) (given : List Row)
    → option_map (λ p. p.1) (subcommand_rows_of m) ≡ Some given → n.given.1 ≡ given
rows_told {line} {words} {m} n given e = some_same n.given.1 given (ap (option_map (λ p. p.1)) (sym n.rows) ∙ e)
