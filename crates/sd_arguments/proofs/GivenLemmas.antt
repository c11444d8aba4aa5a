-- If nothing is wrong with the words of a subcommand, each positional that it requires has a word.
use Rattle.std.proofs.Common.{◌≡◌, ◌∙◌, ◌&&◌, ◌||◌, ◌+◌, min, ℕ, zero, suc, Bool, cond, true, false, not, refl, sym, ap, subst, true≢false, List, [], ◌∷◌, ◌++◌, Option, Some, None, is_some, if◌then◌else◌, find, fold, bytes_eq, chars, slice_get, drop, length, encode_utf8, option_and_then}
use Rattle.std.specs.List.{list_all}
use Rattle.std.specs.Option.{option_map_or}
use Rattle.std.proofs.lemmas.Slice.Eq.{bytes_eq-Decides}
use Rattle.clap.specs.Facts.{explicit_source}
use Rattle.clap.specs.Lexer.{long_of, short_of}
use Rattle.clap.specs.Takes.{is_given}
use Rattle.clap.specs.Walk.{Held, Names, Outcome, Row, Rule, Step, Text, Waiting, Walk, action_of, after_flag, after_step, arg_by_id, arg_by_index, arg_by_long, arg_by_short, at_row, attached_value, bundle, bundle_met, bundle_step, count_of, counted, default_rows, done, first_of, flag_met, has_long, has_row, has_short, idle, is_pending, long_met, long_or_other, more_values, new_count, next, nothing_held, option, option_met, option_word, plain, plain_word, positional, pushed, reacted, reading_by, refused, rows_after, settled, settled_rows, short_met, short_or_plain, started, subcommand, subcommand_met, subcommand_or_other, takes_several, takes_values, to_positional, trailing, used, used_as, used_by_id, value, values_or_missing, waits, walk, walk_from, walked, walked_from, with_count, with_default, with_values, without, word_met}
use Rattle.clap.specs.declared.builder.action.ArgAction.{ArgAction}
use Rattle.clap.specs.declared.builder.action.ArgAction.TheVariants.{Set, Append, SetTrue, SetFalse, Count, Help, HelpShort, HelpLong, Version}
use Rattle.clap.specs.declared.builder.value_parser.Reading.{Reading}
use Rattle.clap.specs.declared.parser.matches.ValueSource.{ValueSource}
use Rattle.clap.specs.declared.parser.matches.ValueSource.TheVariants.{DefaultValue, CommandLine}
use Rattle.clap.specs.Simple.{Shape}
use Rattle.clap.proofs.WalkLemmas.{both}
use Rattle.sd_arguments.proofs.LineLemmas.{AreGiven, some_same}

-- ---- lists with something in them

abbrev NotEmpty : List Text → Type 0
NotEmpty [] = ⊥
NotEmpty (x ∷ xs) = Unit {0}

more : (xs ys : List Text) → NotEmpty xs → NotEmpty (xs ++ ys)
more [] ys n = absurd n
more (x ∷ xs) ys n = tt

one_more : (xs : List Text) (x : Text) → NotEmpty (xs ++ x ∷ [])
one_more [] x = tt
one_more (y ∷ xs) x = tt

-- ---- rows: each of this id has a value

abbrev HasWord : Text → Row → Type 0
HasWord id r = r.id ≡ id → NotEmpty r.values

abbrev HaveWords : Text → List Row → Type 0
HaveWords id [] = Unit {0}
HaveWords id (r ∷ rs) = HasWord id r × HaveWords id rs

have_both : (id : Text) (xs ys : List Row) → HaveWords id xs → HaveWords id ys → HaveWords id (xs ++ ys)
have_both id [] ys h k = k
have_both id (x ∷ xs) ys h k = (h.0, have_both id xs ys h.1 k)

at_row_keeps : (id other : Text) (change : Row → List Row) (missing rows : List Row) → ((r : Row) → HasWord id r → HaveWords id (change r))
    → HaveWords id missing → HaveWords id rows → HaveWords id (at_row other change missing rows)
at_row_keeps id other change missing [] f m h = m
at_row_keeps id other change missing (r ∷ rs) f m h = go (bytes_eq r.id other) (at_row_keeps id other change missing rs f m h.1)
  where
    go : (here : Bool) → HaveWords id (at_row other change missing rs) → HaveWords id (if here then change r ++ rs else r ∷ at_row other change missing rs)
    go true k = have_both id (change r) rs (f r h.0) h.1
    go false k = (h.0, k)

without_keeps : (id other : Text) (rows : List Row) → HaveWords id rows → HaveWords id (without other rows)
without_keeps id other rows h = at_row_keeps id other (λ r. []) [] rows (λ r k. tt) tt h

with_values_keeps : (id other : Text) (how : Reading) (s : ValueSource) (values : List Text) (rows : List Row) → (other ≡ id → NotEmpty values)
    → HaveWords id rows → HaveWords id (with_values other how s values rows)
with_values_keeps id other how s values rows has h =
    at_row_keeps id other (more_values s values) (record { id = other; values = values; count = None; source = Some s; reading = how } ∷ []) rows
    (λ r k. ((λ is. more r.values values (k is)), tt)) (has, tt) h

with_count_keeps : (id other : Text) (how : Reading) (s : ValueSource) (n : ℕ) (rows : List Row) → HaveWords id rows → HaveWords id (with_count other how s n rows)
with_count_keeps id other how s n rows h =
    at_row_keeps id other (new_count s n) _ rows (λ r k. ((λ is. one_more r.values _), tt)) ((λ is. tt), tt) h

counted_keeps : (id other : Text) (how : Reading) (values : List Text) (rows : List Row) → (other ≡ id → NotEmpty values) → HaveWords id rows → HaveWords id (counted other how values rows)
counted_keeps id other how [] rows has h = with_count_keeps id other how CommandLine (min (count_of other rows + 1) 255) (without other rows) (without_keeps id other rows h)
counted_keeps id other how (v ∷ vs) rows has h = with_values_keeps id other how CommandLine (v ∷ vs) (without other rows) has (without_keeps id other rows h)

used_as_keeps : (x : ArgAction) (id other : Text) (how : Reading) (values : List Text) (rows : List Row) → (other ≡ id → NotEmpty values)
    → HaveWords id rows → HaveWords id (used_as x other how values rows)
used_as_keeps Set id other how values rows has h = with_values_keeps id other how CommandLine values (without other rows) has (without_keeps id other rows h)
used_as_keeps SetTrue id other how values rows has h = with_values_keeps id other how CommandLine values (without other rows) has (without_keeps id other rows h)
used_as_keeps SetFalse id other how values rows has h = with_values_keeps id other how CommandLine values (without other rows) has (without_keeps id other rows h)
used_as_keeps Append id other how values rows has h = with_values_keeps id other how CommandLine values rows has h
used_as_keeps Count id other how values rows has h = counted_keeps id other how values rows has h
used_as_keeps Help id other how values rows has h = h
used_as_keeps HelpShort id other how values rows has h = h
used_as_keeps HelpLong id other how values rows has h = h
used_as_keeps Version id other how values rows has h = h

used_keeps : (id : Text) (a : Rule) (values : List Text) (rows : List Row) → (a.id ≡ id → NotEmpty (values_or_missing a values)) → HaveWords id rows
    → HaveWords id (used a values rows)
used_keeps id a values rows has h = used_as_keeps (action_of a) id a.id (reading_by a) (values_or_missing a values) rows has h

given_values : (a : Rule) (values : List Text) → NotEmpty values → NotEmpty (values_or_missing a values)
given_values a [] n = absurd n
given_values a (v ∷ vs) n = tt

-- ---- the rule that a search finds

found_passes : (f : Rule → Bool) (xs : List Rule) (a : Rule) → find f xs ≡ Some a → f a ≡ true
found_passes f [] a e = absurd (cc)
found_passes f (x ∷ xs) a e = go (f x) refl e (found_passes f xs a)
  where
    go : (here : Bool) → f x ≡ here → cond here (Some x) (find f xs) ≡ Some a → (find f xs ≡ Some a → f a ≡ true) → f a ≡ true
    go true is found again = ap f (sym (some_same x a found)) ∙ is
    go false is found again = again found

found_is_one : (f g : Rule → Bool) (xs : List Rule) (a : Rule) → list_all g xs ≡ true → find f xs ≡ Some a → g a ≡ true
found_is_one f g [] a all e = absurd (cc)
found_is_one f g (x ∷ xs) a all e = go (f x) e (found_is_one f g xs a (both (g x) (list_all g xs) all).1)
  where
    go : (here : Bool) → cond here (Some x) (find f xs) ≡ Some a → (find f xs ≡ Some a → g a ≡ true) → g a ≡ true
    go true found again = ap g (sym (some_same x a found)) ∙ (both (g x) (list_all g xs) all).0
    go false found again = again found

-- the rules of this id are positionals
abbrev is_placed : Text → Rule → Bool
is_placed id a = is_some a.index || not (bytes_eq a.id id)

no_flag : (id : Text) (a : Rule) (named : Bool) → is_placed id a ≡ true → (not (is_some a.index) && named) ≡ true → a.id ≡ id → ⊥
no_flag id a named placed flag is = go (is_some a.index) (bytes_eq a.id id) placed (both (not (is_some a.index)) named flag).0 ((bytes_eq-Decides a.id id).1 is)
  where
    go : (index same : Bool) → (index || not same) ≡ true → not index ≡ true → same ≡ true → ⊥
    go true same p n s = true≢false (sym n)
    go false true p n s = true≢false (sym p)
    go false false p n s = true≢false (sym s)

-- ---- what is held

abbrev PendingHas : Text → Option (Text × List Text) → Type 0
PendingHas id None = Unit {0}
PendingHas id (Some p) = p.0 ≡ id → NotEmpty p.1

record Holding (id : Text) (h : Held) : Type 0 where
  pub rows : HaveWords id h.rows
  pub pending : PendingHas id h.pending

module _ (id : Text) (c : List Rule) (placed : list_all (is_placed id) c ≡ true) where
  settled_keep : (p : Option (Text × List Text)) (rows : List Row) → PendingHas id p → HaveWords id rows → HaveWords id (settled_rows c p rows)
  settled_keep None rows pending h = h
  settled_keep (Some p) rows pending h = go (arg_by_id c p.0) refl
    where
      go : (o : Option Rule) → arg_by_id c p.0 ≡ o → HaveWords id (used_by_id o p.1 rows)
      go None e = h
      go (Some a) e =
          let by : a.id ≡ p.0 = (bytes_eq-Decides a.id p.0).0 (found_passes (λ (x : Rule). bytes_eq x.id p.0) c a e) in
          used_keeps id a p.1 rows (λ is. given_values a p.1 (pending (sym by ∙ is))) h

  settled_holds : (h : Held) → Holding id h → Holding id (settled c h)
  settled_holds h i = record { rows = settled_keep h.pending h.rows i.pending i.rows; pending = tt }

  reacted_holds : (a : Rule) (values : List Text) (h : Held) → (a.id ≡ id → ⊥) → Holding id h → Holding id (reacted c a values h)
  reacted_holds a values h other i =
      record { rows = used_keeps id a values (settled c h).rows (λ is. absurd (other is)) (settled_holds h i).rows; pending = tt }

  option_holds : (a : Rule) (v : Option Text) (h : Held) → (a.id ≡ id → ⊥) → Holding id h → Holding id (option_met c a v h).0
  option_holds a (Some v) h other i = reacted_holds a (v ∷ []) h other i
  option_holds a None h other i = record { rows = (settled_holds h i).rows; pending = λ is. absurd (other is) }

  flag_holds : (a : Rule) (v : Option Text) (h : Held) → (a.id ≡ id → ⊥) → Holding id h → Holding id (flag_met c a v h).0
  flag_holds a (Some v) h other i = i
  flag_holds a None h other i = reacted_holds a [] h other i

  long_holds : (name : Text) (found : Option Rule) (v : Option Text) (h : Held) → arg_by_long c name ≡ found → Holding id h → Holding id (long_met c found v h).0
  long_holds name None v h e i = i
  long_holds name (Some a) v h e i = go (takes_values a)
    where
      other : a.id ≡ id → ⊥
      other = no_flag id a (has_long a name) (found_is_one (λ (x : Rule). not (is_some x.index) && has_long x name) (is_placed id) c a placed e)
          (found_passes (λ (x : Rule). not (is_some x.index) && has_long x name) c a e)

      go : (takes : Bool) → Holding id (if takes then option_met c a v h else flag_met c a v h).0
      go true = option_holds a v h other i
      go false = flag_holds a v h other i

  short_holds : (x : ℕ) (found : Option Rule) (rest : Text) (h : Held) (after : Held → Held × Outcome) → arg_by_short c x ≡ found
      → ((k : Held) → Holding id k → Holding id (after k).0) → Holding id h → Holding id (short_met c found rest h after).0
  short_holds x None rest h after e keeps i = i
  short_holds x (Some a) rest h after e keeps i = go (takes_values a)
    where
      other : a.id ≡ id → ⊥
      other = no_flag id a (has_short a x) (found_is_one (λ (r : Rule). not (is_some r.index) && has_short r x) (is_placed id) c a placed e)
          (found_passes (λ (r : Rule). not (is_some r.index) && has_short r x) c a e)

      go : (takes : Bool) → Holding id (if takes then option_met c a (attached_value rest) h else after (reacted c a [] h)).0
      go true = option_holds a (attached_value rest) h other i
      go false = keeps (reacted c a [] h) (reacted_holds a [] h other i)

  step_holds : (o : Option ℕ) (flags : Text) (skip : ℕ) (so_far : Outcome) (h : Held) (after : Text → ℕ → Outcome → Held → Held × Outcome)
      → ((f : Text) (s : ℕ) (r : Outcome) (k : Held) → Holding id k → Holding id (after f s r k).0) → Holding id h
      → Holding id (bundle_step c o flags skip so_far h after).0
  step_holds None flags skip so_far h after keeps i = i
  step_holds (Some x) flags zero so_far h after keeps i =
      short_holds x (arg_by_short c x) (drop (length (encode_utf8 x)) flags) h (after (drop (length (encode_utf8 x)) flags) 0 done) refl
      (keeps (drop (length (encode_utf8 x)) flags) 0 done) i
  step_holds (Some x) flags (suc skip) so_far h after keeps i = keeps (drop (length (encode_utf8 x)) flags) skip so_far h i

  bundle_holds : (k : ℕ) (flags : Text) (skip : ℕ) (so_far : Outcome) (h : Held) → Holding id h → Holding id (bundle_met c k flags skip so_far h).0
  unfolding bundle_met
  bundle_holds zero flags skip so_far h i = i
  bundle_holds (suc k) flags skip so_far h i = step_holds (slice_get (chars flags) 0) flags skip so_far h (bundle_met c k) (bundle_holds k) i

  pushed_holds : (name word : Text) (h : Held) → Holding id h → Holding id (pushed name word h)
  pushed_holds name word h i = record { rows = i.rows; pending = λ is. one_more (started name h.pending).1 word }

  option_word_holds : (found : Option Rule) (name word : Text) (h : Held) → Holding id h → Holding id (option_word found name word h).0
  option_word_holds None name word h i = i
  option_word_holds (Some a) name word h i = pushed_holds name word h i

  plain_holds : (waiting : Waiting) (word : Text) (h : Held) → Holding id h → Holding id (plain_word c waiting word h).0
  plain_holds (option name) word h i = option_word_holds (arg_by_id c name) name word h i
  plain_holds idle word h i = i
  plain_holds positional word h i = i

  after_flag_holds : (waiting : Waiting) (word : Text) (h : Held) (o : Outcome) → Holding id h → Holding id (after_flag c waiting word h o).0
  after_flag_holds waiting word h done i = i
  after_flag_holds waiting word h (waits name) i = i
  after_flag_holds waiting word h plain i = plain_holds waiting word h i
  after_flag_holds waiting word h refused i = plain_holds waiting word h i

  skipped_holds : (h : Held) → Holding id h → Holding id (record h { skip = 0 })
  skipped_holds h i = record { rows = i.rows; pending = i.pending }

  short_or_plain_holds : (waiting : Waiting) (word : Text) (flags : Option Text) (h : Held) → Holding id h → Holding id (short_or_plain c waiting word flags h).0
  short_or_plain_holds waiting word (Some flags) h i =
      after_flag_holds waiting word (bundle c flags h).0 (bundle c flags h).1 (bundle_holds (length flags) flags h.skip plain (record h { skip = 0 }) (skipped_holds h i))
  short_or_plain_holds waiting word None h i = plain_holds waiting word h i

  long_or_other_holds : (waiting : Waiting) (word : Text) (p : Option (Text × Option Text)) (h : Held) → Holding id h → Holding id (long_or_other c waiting word p h).0
  long_or_other_holds waiting word (Some p) h i =
      after_flag_holds waiting word (long_met c (arg_by_long c p.0) p.1 h).0 (long_met c (arg_by_long c p.0) p.1 h).1 (long_holds p.0 (arg_by_long c p.0) p.1 h refl i)
  long_or_other_holds waiting word None h i = short_or_plain_holds waiting word (short_of word) h i

  dashes_holds : (are_dashes : Bool) (waiting : Waiting) (position : ℕ) (word : Text) (h : Held) → Holding id h
      → Holding id (if are_dashes then (h, trailing position) else long_or_other c waiting word (long_of word) h).0
  dashes_holds true waiting position word h i = i
  dashes_holds false waiting position word h i = long_or_other_holds waiting word (long_of word) h i

  other_holds : (o : Option Text) (waiting : Waiting) (position : ℕ) (word : Text) (h : Held) → Holding id h → Holding id (subcommand_or_other c o waiting position word h).0
  other_holds (Some name) waiting position word h i = i
  other_holds None waiting position word h i = dashes_holds (bytes_eq word (45 ∷ 45 ∷ [])) waiting position word h i

  word_holds : (names : Names) (is_trailing : Bool) (waiting : Waiting) (position : ℕ) (word : Text) (h : Held) → Holding id h
      → Holding id (word_met c names is_trailing waiting position word h).0
  word_holds names true waiting position word h i = i
  word_holds names false waiting position word h i = other_holds (subcommand_met names waiting word) waiting position word h i

  placed_holds : (a : Rule) (word : Text) (is_same : Bool) (h : Held) → Holding id h → Holding id (pushed a.id word (if is_same then h else settled c h))
  placed_holds a word true h i = pushed_holds a.id word h i
  placed_holds a word false h i = pushed_holds a.id word (settled c h) (settled_holds h i)

  positional_holds : (found : Option Rule) (word : Text) (w : Walk) (h : Held) → Holding id h → Holding id (to_positional c found word w h).held
  positional_holds None word w h i = i
  positional_holds (Some a) word w h i = placed_holds a word (is_pending a h.pending && takes_several a) h i

  after_step_holds : (word : Text) (w : Walk) (h : Held) (step : Step) → Holding id h → Holding id (after_step c word w h step).held
  after_step_holds word w h (next waiting) i = i
  after_step_holds word w h (trailing position) i = i
  after_step_holds word w h (subcommand name) i = i
  after_step_holds word w h value i = positional_holds (arg_by_index c w.position) word w h i

  walked_from_holds : (names : Names) (stop : Option (Text × List Text)) (w : Walk) (word : Text) → Holding id w.held → Holding id (walked_from c names stop w word).held
  walked_from_holds names (Some p) w word i = i
  walked_from_holds names None w word i =
      after_step_holds word w (word_met c names w.is_trailing w.waiting w.position word w.held).0 (word_met c names w.is_trailing w.waiting w.position word w.held).1
      (word_holds names w.is_trailing w.waiting w.position word w.held i)

  walked_holds : (names : Names) (w : Walk) (word : Text) → Holding id w.held → Holding id (walked c names w word).held
  unfolding walked
  walked_holds names w word i = walked_from_holds names w.stopped w word i

  walk_holds : (names : Names) (words : List Text) (w : Walk) → Holding id w.held → Holding id (fold (walked c names) w words).held
  walk_holds names [] w i = i
  walk_holds names (word ∷ rest) w i = walk_holds names rest (walked c names w word) (walked_holds names w word i)

default_rows_keep : (id other : Text) (how : Reading) (values : List Text) (rows : List Row) → HaveWords id rows → HaveWords id (default_rows other how values rows)
default_rows_keep id other how [] rows h = h
default_rows_keep id other how (v ∷ vs) rows h = with_values_keeps id other how DefaultValue (v ∷ vs) rows (λ is. tt) h

with_default_keeps : (id : Text) (rows : List Row) (a : Rule) (has : Bool) → HaveWords id rows
    → HaveWords id (if has then rows else default_rows a.id (reading_by a) a.defaults rows)
with_default_keeps id rows a true h = h
with_default_keeps id rows a false h = default_rows_keep id a.id (reading_by a) a.defaults rows h

defaults_keep : (id : Text) (rules : List Rule) (rows : List Row) → HaveWords id rows → HaveWords id (fold with_default rows rules)
defaults_keep id [] rows h = h
defaults_keep id (a ∷ rest) rows h = defaults_keep id rest (with_default rows a) (with_default_keeps id rows a (has_row a.id rows) h)

rows_have : (id : Text) (c : List Rule) (names : Names) (words : List Text) → list_all (is_placed id) c ≡ true → HaveWords id (rows_after c names words)
rows_have id c names words placed =
    let end = (walk c names nothing_held words).held in
    defaults_keep id c (settled c end).rows
    (settled_holds id c placed end (walk_holds id c placed names words (walk_from nothing_held) (record { rows = tt; pending = tt }))).rows

first_there : (xs : List Text) → NotEmpty xs → is_some (slice_get xs 0) ≡ true
first_there [] n = absurd n
first_there (x ∷ xs) n = refl

word_in : (id : Text) (rows : List Row) → HaveWords id rows → is_given id rows ≡ true → is_some (first_of id rows) ≡ true
word_in id [] h e = absurd (true≢false (sym e))
word_in id (r ∷ rs) h e = go (bytes_eq r.id id) refl e (word_in id rs h.1)
  where
    go : (here : Bool) → bytes_eq r.id id ≡ here
        → option_map_or (λ (x : Row). explicit_source x.source) (cond here (Some r) (find (λ (x : Row). bytes_eq x.id id) rs)) false ≡ true
        → (is_given id rs ≡ true → is_some (first_of id rs) ≡ true)
        → is_some (option_and_then (λ (x : Row). slice_get x.values 0) (cond here (Some r) (find (λ (x : Row). bytes_eq x.id id) rs))) ≡ true
    go true is given again = first_there r.values (h.0 ((bytes_eq-Decides r.id id).0 is))
    go false is given again = again given

-- what is given for a positional has a word
word_there : (id : Text) (c : List Rule) (names : Names) (words : List Text) → list_all (is_placed id) c ≡ true
    → is_given id (rows_after c names words) ≡ true → is_some (first_of id (rows_after c names words)) ≡ true
word_there id c names words placed given = word_in id (rows_after c names words) (rows_have id c names words placed) given

-- what a subcommand requires has a word
pub given_word : (id : Text) (s b : Shape) (rest : List Text) (rows : List Row) → s ≡ b → rows ≡ rows_after s.rules [] rest
    → list_all (is_placed id) b.rules ≡ true → b.subcommand_negates_reqs ≡ false → (s.subcommand_negates_reqs ≡ false → AreGiven s.rules rows)
    → (AreGiven b.rules rows → is_given id rows ≡ true) → is_some (first_of id rows) ≡ true
given_word id s b rest rows same walked placed needs given pick =
    let is : rows ≡ rows_after b.rules [] rest = walked ∙ ap (λ (x : Shape). rows_after x.rules [] rest) same in
    let all : AreGiven b.rules rows = subst (λ (x : Shape). AreGiven x.rules rows) same (given (ap (λ (x : Shape). x.subcommand_negates_reqs) same ∙ needs)) in
    subst (λ (r : List Row). is_some (first_of id r) ≡ true) (sym is)
    (word_there id b.rules [] rest placed (subst (λ (r : List Row). is_given id r ≡ true) is (pick all)))
