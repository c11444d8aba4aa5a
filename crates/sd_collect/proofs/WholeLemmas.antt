-- Which steps go over tokens.
use Rattle.std.proofs.Common.{◌≡◌, ◌⊎◌, inl, inr, ℕ, zero, suc, ◌≤◌, refl, sym, ap, subst, ◌∙◌, arith, List, [], ◌∷◌, ◌++◌, length, drop}
use Rattle.std.specs.Prelude.{ℤ, pos, negsuc, neg_ℤ, ◌≤ℤ◌}
use Rattle.std.specs.List.{AllByRecursion}
use Rattle.std.proofs.lemmas.Int.{ints}
use Rattle.std.proofs.lemmas.List.{append_assoc, append-nil, append_cancel_left, map-append}
use Rattle.sd_base.specs.Record.{Record, IsRecord}
use Rattle.sd_record.specs.Fragment.{Fragment, Continue, Fragments, FragmentsOfAll}
use Rattle.sd_record.proofs.RecordLemmas.{first_same, fragments_of_one, rest_same}
use Rattle.sd_label.specs.declared.label.SessionLabel.{SessionLabel}
use Rattle.sd_label.specs.Label.{session_label_fragment}
use Rattle.sd_label.specs.Cutting.{Behind, Standing, Between, Within, AtEnd, Unfinished}
use Rattle.sd_label.proofs.CuttingLemmas.{behind_no_record, label_is_no_record}
use Rattle.sd_collect.specs.Collect.{Begins}
use Rattle.sd_collect.specs.Whole.{Gap, Given, NoneBegins, Part, Passed, SessionIsWhole, Stands, Step, Token, WholeAreOneList, given, parts_of}

-- Tokens.

part_of : (f g : Fragment) → Part f ≡ Part g → f ≡ g
part_of f g e = cc

pub parts-append : (fs gs : List Fragment) → parts_of (fs ++ gs) ≡ parts_of fs ++ parts_of gs
parts-append fs gs = map-append Part fs gs

pub parts_join : (fs gs : List Fragment) (rest : List Token) → parts_of (fs ++ gs) ++ rest ≡ parts_of fs ++ (parts_of gs ++ rest)
parts_join fs gs rest = ap (λ (l : List Token). l ++ rest) (parts-append fs gs) ∙ append_assoc (parts_of fs) (parts_of gs) rest

-- one of the lists begins with the other
pub fronts_of : (xs ys : List Fragment) (rest rest' : List Token) → parts_of xs ++ rest ≡ parts_of ys ++ rest'
    → ((more : List Fragment) × (xs ≡ ys ++ more) × (parts_of more ++ rest ≡ rest'))
    ⊎ ((f : Fragment) × (more : List Fragment) × (ys ≡ xs ++ f ∷ more) × (rest ≡ Part f ∷ (parts_of more ++ rest')))
fronts_of [] [] rest rest' e = inl ([], refl, e)
fronts_of [] (y ∷ ys) rest rest' e = inr (y, ys, refl, e)
fronts_of (x ∷ xs) [] rest rest' e = inl (x ∷ xs, refl, e)
fronts_of (x ∷ xs) (y ∷ ys) rest rest' e =
    let same = part_of x y (first_same (Part x) (Part y) (parts_of xs ++ rest) (parts_of ys ++ rest') e) in
    elim (fronts_of xs ys rest rest' (rest_same (Part x) (Part y) (parts_of xs ++ rest) (parts_of ys ++ rest') e)) [
      | inl (more, split, after) ↦ inl (more, ap (λ h. h ∷ xs) same ∙ ap (λ (l : List Fragment). y ∷ l) split, after)
      | inr (f, more, split, after) ↦ inr (f, more, ap (λ h. h ∷ ys) (sym same) ∙ ap (λ (l : List Fragment). x ∷ l) split, after)
    ]

-- Where no record begins.

least_is : (i : ℤ) (n : ℕ) → i ≡ pos n → 1 ≤ n → pos 1 ≤ℤ i
least_is i n is least = subst (λ z. pos 1 ≤ℤ z) (sym is) (omega (arith, ints))

begins_first : (r : Record) (f : Fragment) (fs : List Fragment) → IsRecord r → Fragments r (f ∷ fs) → Begins f
begins_first r f fs is c = record {
  index_least = least_is f.index r.index c.0.index_is is.index_least;
  stream_least = least_is f.stream r.stream c.0.stream_is is.stream_least;
  size_most = let size = c.0.size_is in let most = is.data_most in omega arith;
}

-- at a fragment that begins none
pub none_first : (f : Fragment) (rest : List Token) → ¬ Begins f → NoneBegins (Part f ∷ rest)
none_first f rest not r [] rest' is c e = absurd c
none_first f rest not r (g ∷ gs) rest' is c e =
    let same = part_of f g (first_same (Part f) (Part g) rest (parts_of gs ++ rest') e) in
    not (subst Begins (sym same) (begins_first r g gs is c))

-- at a gap
pub none_gap : (rest : List Token) → NoneBegins (Gap ∷ rest)
none_gap rest r [] rest' is c e = absurd c
none_gap rest r (g ∷ gs) rest' is c e = cc (first_same Gap (Part g) rest (parts_of gs ++ rest') e)

-- at the first fragments of a record, if what comes next doesn't go on with it
pub none_unfinished : (behind : List Fragment) (rest : List Token) → Unfinished behind
    → ((r : Record) (f : Fragment) (more : List Fragment) (rest' : List Token) → IsRecord r → Fragments r (behind ++ f ∷ more) → rest ≡ Part f ∷ rest' → ⊥)
    → NoneBegins (parts_of behind ++ rest)
none_unfinished behind rest u stops r first rest' is c e = elim (fronts_of behind first rest rest' e) [
  | inl (more, split, after) ↦ behind_no_record [] Within r behind first more u c split
  | inr (f, more, split, after) ↦ stops r f more (parts_of more ++ rest') is (subst (Fragments r) split c) after
]

-- none of these is the first of a record
abbrev pub NoneFirst : List Fragment → Type 0
NoneFirst [] = Unit {0}
NoneFirst (f ∷ fs) = ¬ Begins f × NoneFirst fs

negative : (f : Fragment) (n : ℕ) → f.stream ≡ neg_ℤ (pos n) → 1 ≤ n → ¬ Begins f
negative f zero is least begins = absurd (omega arith)
negative f (suc n) is least begins = let stream = subst (λ z. pos 1 ≤ℤ z) is begins.stream_least in absurd (omega (arith, ints))

later_none : (index : ℤ) (stream : ℕ) (left : List ℕ) (fs more : List Fragment) → 1 ≤ stream → Continue index (pos stream) left (fs ++ more) → NoneFirst fs
later_none index stream left [] more least c = tt
later_none index stream left (f ∷ fs) more least c =
    (negative f stream c.0.stream_is least, later_none index stream (drop (length f.part) left) fs more least c.2)

-- Steps over what is passed.

abbrev pub Over : List Token → List Step → List Token → Type 0
Over tokens steps rest = (all : List Step) × Stands all (tokens ++ rest) × (given all ≡ given steps)

pass_later : (fs : List Fragment) (steps : List Step) (rest : List Token) → NoneFirst fs → Stands steps rest → Over (parts_of fs) steps rest
pass_later [] steps rest none stands = (steps, stands, refl)
pass_later (f ∷ fs) steps rest none stands =
    let more = pass_later fs steps rest none.1 stands in
    (Passed (Part f) ∷ more.0, (none_first f (parts_of fs ++ rest) none.0, (parts_of fs ++ rest, refl, more.1)), more.2)

-- the first fragments of a record
pub pass_unfinished : (behind : List Fragment) (steps : List Step) (rest : List Token) → Unfinished behind → NoneBegins (parts_of behind ++ rest) → Stands steps rest → Over (parts_of behind) steps rest
pass_unfinished [] steps rest u none stands = (steps, stands, refl)
pass_unfinished (f ∷ fs) steps rest u none stands =
    let later = later_none (pos u.unfinished.index) u.unfinished.stream (drop (length f.part) u.unfinished.bytes) fs u.remaining u.record_is.stream_least u.fragments_are.1 in
    let more = pass_later fs steps rest later stands in
    (Passed (Part f) ∷ more.0, (none, (parts_of fs ++ rest, refl, more.1)), more.2)

-- The laws.

rest_same_of : (first first' : List Fragment) (rest rest' : List Token) → first ≡ first' → parts_of first ++ rest ≡ parts_of first' ++ rest' → rest ≡ rest'
rest_same_of first first' rest rest' same both = append_cancel_left (parts_of first) rest rest' (both ∙ ap (λ (l : List Fragment). parts_of l ++ rest') (sym same))

-- records that begin at one place are one
one_record : (r r' : Record) (first first' : List Fragment) (rest rest' : List Token) → Fragments r first → Fragments r' first' → parts_of first ++ rest ≡ parts_of first' ++ rest'
    → (r ≡ r') × (rest ≡ rest')
one_record r r' first first' rest rest' c c' both = elim (fronts_of first first' rest rest' both) [
  | inl (more, split, after) ↦ (let one = fragments_of_one r r' first first' [] more c c' (append-nil first ∙ split) in (one.0, rest_same_of first first' rest rest' one.1 both))
  | inr (f, more, split, after) ↦ (let one = fragments_of_one r' r first' first [] (f ∷ more) c' c (append-nil first' ∙ split) in (sym one.0, rest_same_of first first' rest rest' (sym one.1) both))
]

-- steps over the same tokens give the same
one_list : (steps others : List Step) (tokens : List Token) → Stands steps tokens → Stands others tokens → given steps ≡ given others
one_list [] [] tokens s o = refl
one_list [] (Given r [] ∷ others) tokens s o = absurd o.1
one_list [] (Given r (f ∷ fs) ∷ others) tokens s o = absurd (cc (sym s ∙ o.2.1))
one_list [] (Passed t ∷ others) tokens s o = absurd (cc (sym s ∙ o.1.1))
one_list (Given r [] ∷ steps) [] tokens s o = absurd s.1
one_list (Given r (f ∷ fs) ∷ steps) [] tokens s o = absurd (cc (sym o ∙ s.2.1))
one_list (Passed t ∷ steps) [] tokens s o = absurd (cc (sym o ∙ s.1.1))
one_list (Given r first ∷ steps) (Passed t ∷ others) tokens s o = absurd (o.0 r first s.2.0 s.0 s.1 s.2.1)
one_list (Passed t ∷ steps) (Given r first ∷ others) tokens s o = absurd (s.0 r first o.2.0 o.0 o.1 o.2.1)
one_list (Passed t ∷ steps) (Passed t' ∷ others) tokens s o =
    let same : s.1.0 ≡ o.1.0 = rest_same t t' s.1.0 o.1.0 (sym s.1.1 ∙ o.1.1) in
    one_list steps others o.1.0 (subst (Stands steps) same s.1.2) o.1.2
one_list (Given r first ∷ steps) (Given r' first' ∷ others) tokens s o =
    let both : parts_of first ++ s.2.0 ≡ parts_of first' ++ o.2.0 = sym s.2.1 ∙ o.2.1 in
    let one = one_record r r' first first' s.2.0 o.2.0 s.1 o.1 both in
    ap (λ h. h ∷ given steps) one.0 ∙ ap (λ (l : List Record). r' ∷ l) (one_list steps others o.2.0 (subst (Stands steps) one.1 s.2.2) o.2.2)

pub whole_one_list : WholeAreOneList
whole_one_list tokens records others one other = one.2 ∙ one_list one.0 other.0 tokens one.1 other.1 ∙ sym other.2

-- a label begins no record
label_none : (label : SessionLabel) → ¬ Begins (session_label_fragment label)
label_none label begins = no_index (session_label_fragment label).index begins.index_least (label_is_no_record label)
  where
    no_index : (i : ℤ) → pos 1 ≤ℤ i → ((n : ℕ) → i ≡ pos n → ⊥) → ⊥
    no_index (pos n) least none = none n refl
    no_index (negsuc n) least none = absurd (omega (arith, ints))

-- what follows the whole records of a session
behind_steps : (records : List Record) (standing : Standing) (behind : List Fragment) → Behind records standing behind
    → (steps : List Step) × Stands steps (parts_of behind) × (given steps ≡ [])
behind_steps records Between behind b = ([], ap parts_of b, refl)
behind_steps records Within behind b =
    let none = none_unfinished behind [] b (λ r f more rest' is c e. cc e) in
    let over = pass_unfinished behind [] [] b none refl in
    unfinished over
  where
    unfinished : Over (parts_of behind) [] [] → (steps : List Step) × Stands steps (parts_of behind) × (given steps ≡ [])
    unfinished over = (over.0, subst (Stands over.0) (append-nil (parts_of behind)) over.1, over.2)
behind_steps records AtEnd behind b = (
  Passed (Part (session_label_fragment b.0)) ∷ [],
  (subst NoneBegins (sym (ap parts_of b.2)) (none_first (session_label_fragment b.0) [] (label_none b.0)), ([], ap parts_of b.2, refl)),
  refl,
)

-- records, one after another, and what follows them
record_steps : (all records : List Record) (standing : Standing) (parts behind : List Fragment) → AllByRecursion IsRecord records → FragmentsOfAll records parts
    → Behind all standing behind → (steps : List Step) × Stands steps (parts_of (parts ++ behind)) × (given steps ≡ records)
record_steps all [] standing parts behind are c b =
    let after = behind_steps all standing behind b in
    (after.0, subst (λ (l : List Fragment). Stands after.0 (parts_of (l ++ behind))) (sym c) after.1, after.2)
record_steps all (r ∷ records) standing parts behind are c b =
    let after = record_steps all records standing c.1 behind are.1 c.4 b in
    let order : parts ++ behind ≡ c.0 ++ (c.1 ++ behind) = ap (λ (l : List Fragment). l ++ behind) c.2 ∙ append_assoc c.0 c.1 behind in (
      Given r c.0 ∷ after.0,
      (are.0, c.3, (parts_of (c.1 ++ behind), ap parts_of order ∙ parts-append c.0 (c.1 ++ behind), after.1)),
      ap (λ (l : List Record). r ∷ l) after.2,
    )

pub session_whole : SessionIsWhole
session_whole fs records standing s =
    let after = record_steps records records standing s.parts s.behind s.records_are s.parts_are s.behind_is in
    let tokens = ap parts_of s.order in (
      Passed (Part (session_label_fragment s.start)) ∷ after.0,
      (subst NoneBegins (sym tokens) (none_first (session_label_fragment s.start) (parts_of (s.parts ++ s.behind)) (label_none s.start)), (parts_of (s.parts ++ s.behind), tokens, after.1)),
      sym after.2,
    )
