-- What a collector takes, step by step.
use Rattle.std.proofs.Common.{◌≡◌, ◌≢◌, ◌⊎◌, true, false, inl, inr, ℕ, zero, suc, ◌<◌, ◌≤◌, refl, sym, ap, subst, ◌∙◌, arith, rules, List, [], ◌∷◌, ◌++◌, length, drop, codes}
use Rattle.std.specs.Prelude.{pos, neg_ℤ, ◌≤ℤ◌, Option, Some, None, option_map}
use Rattle.std.proofs.lemmas.Int.{ints}
use Rattle.std.proofs.lemmas.List.{append_assoc, append-nil, drop_all}
use Rattle.sd_base.specs.Record.{Record, IsRecord}
use Rattle.sd_record.specs.Fragment.{FitTogether, Fragment, Fragments, StandsAt, fragment_bytes, fragments_bytes}
use Rattle.sd_label.specs.declared.label.SessionLabel.{SessionLabel}
use Rattle.sd_label.specs.Label.{session_label_fragment}
use Rattle.sd_label.specs.Cutting.{Between, IsSession, IsStart}
use Rattle.sd_unpack.specs.Damage.{AreWhole, BeginsWithNone, Continues}
use Rattle.sd_unpack.specs.Stage.{IsPartway, Opens}
use Rattle.sd_unpack.specs.declared.stage.Due.{Due}
use Rattle.sd_unpack.proofs.BatchLemmas.{goes_on_last, some_left, stands_within}
use Rattle.sd_unpack.proofs.BodyLemmas.{fragments_bytes-append, whole_fit, whole_more}
use Rattle.sd_unpack.proofs.NextLemmas.{next_partway, opens_unfinished}
use Rattle.sd_collect.specs.Collect.{AreTokensOf, Begins, Collecting, GoesOn, Pends, PendsBy, Takes, due_in, records_in}
use Rattle.sd_collect.specs.declared.due.Due.{Due as OwnDue}
use Rattle.sd_collect.specs.Whole.{Gap, Given, Part, Passed, Stands, Step, Token, given, parts_of}
use Rattle.sd_collect.proofs.WholeLemmas.{Over, parts-append, none_first, none_gap, none_unfinished, parts_join, pass_unfinished}

-- A label, so that what is said of a session's first records is said of any fragments.
some_label : SessionLabel
some_label = record { job = 1; pool = codes "a"; media = codes "a"; moment = pos 0; totals = None }

some_start : IsStart some_label
unfolding some_label
some_start = record {
  label_is = record {
    job_least = omega arith;
    job_most = omega arith;
    pool = search rules;
    media = search rules;
    moment = search rules;
    totals = tt;
  };
  no_totals = refl;
}

session_of : (fs : List Fragment) (r : Record) → IsRecord r → Fragments r fs → IsSession (session_label_fragment some_label ∷ fs) (r ∷ []) Between
session_of fs r is c = record {
  start = some_label;
  parts = fs;
  behind = [];
  order = ap (λ (l : List Fragment). session_label_fragment some_label ∷ l) (sym (append-nil fs));
  start_is = some_start;
  records_are = (is, tt);
  parts_are = (fs, [], sym (append-nil fs), c, refl);
  behind_is = refl;
}

partway_of : (behind : List Fragment) (due : Due) (so_far : List ℕ) → Opens behind due so_far → IsPartway (session_label_fragment some_label ∷ behind) [] due so_far
partway_of behind due so_far opens = record {
  start = some_label;
  parts = [];
  behind = behind;
  order = refl;
  start_is = some_start;
  records_are = tt;
  parts_are = refl;
  behind_is = opens;
}

-- what comes after the first fragments of a record goes on with it
opens_next : (behind : List Fragment) (due : Due) (so_far : List ℕ) (r : Record) (f : Fragment) (more : List Fragment) → Opens behind due so_far → IsRecord r
    → Fragments r (behind ++ f ∷ more) → Continues due f
opens_next behind due so_far r f more opens is c =
    next_partway (session_label_fragment some_label ∷ behind) [] (r ∷ []) due so_far Between f more (partway_of behind due so_far opens) (session_of (behind ++ f ∷ more) r is c)

-- a fragment that begins a record goes on with none
begins_anew : (due : Due) (f : Fragment) → Begins f → Continues due f → ⊥
begins_anew due f begins goes = no_stream due.stream goes.stream_is begins.stream_least
  where
    no_stream : (n : ℕ) → f.stream ≡ neg_ℤ (pos n) → pos 1 ≤ℤ f.stream → ⊥
    no_stream zero is least = let stream = subst (λ z. pos 1 ≤ℤ z) is least in absurd (omega (arith, ints))
    no_stream (suc n) is least = let stream = subst (λ z. pos 1 ≤ℤ z) is least in absurd (omega (arith, ints))

-- the tokens don't begin with a fragment that goes on with what is due
abbrev pub StopsAt : Option Due → List Token → Type 0
StopsAt None rest = Unit {0}
StopsAt (Some due) rest = (f : Fragment) (rest' : List Token) → rest ≡ Part f ∷ rest' → Continues due f → ⊥

-- what is pending is passed, if it is not gone on with
pass_pending : (due : Option Due) (so_far : List ℕ) (behind : List Fragment) (steps : List Step) (rest : List Token) → PendsBy due so_far behind → StopsAt due rest → Stands steps rest
    → Over (parts_of behind) steps rest
pass_pending None so_far behind steps rest pends stops stands = (steps, subst (λ (l : List Fragment). Stands steps (parts_of l ++ rest)) (sym pends) stands, refl)
pass_pending (Some due) so_far behind steps rest opens stops stands =
    let unfinished = opens_unfinished behind due so_far opens in
    let none = none_unfinished behind rest unfinished (λ r f more rest' is c e. stops f rest' e (opens_next behind due so_far r f more opens is c)) in
    pass_unfinished behind steps rest unfinished none stands

pends_none : (new : Collecting) → new.due ≡ None → Pends new []
pends_none new is = subst (λ d. PendsBy d new.so_far []) (sym is) refl

stops_gap : (due : Option Due) (rest : List Token) → StopsAt due (Gap ∷ rest)
stops_gap None rest = tt
stops_gap (Some due) rest = λ f rest' e goes. cc e

-- over a gap
pub goes_over : (old new : Collecting) → new.due ≡ None → GoesOn old new (Gap ∷ []) []
goes_over old new none behind pends = (
  [],
  pends_none new none,
  λ steps rest stands. pass_pending old.due old.so_far behind (Passed Gap ∷ steps) (Gap ∷ rest) pends (stops_gap old.due rest) (none_gap rest, (rest, refl, stands)),
)

first_part : (f g : Fragment) (rest rest' : List Token) → Part f ∷ rest ≡ Part g ∷ rest' → f ≡ g
first_part f g rest rest' e = cc e

stops_part : (due : Option Due) (f : Fragment) (rest : List Token) → ((d : Due) → due ≡ Some d → Continues d f → ⊥) → StopsAt due (Part f ∷ rest)
stops_part None f rest not = tt
stops_part (Some due) f rest not = λ g rest' e goes. not due refl (subst (Continues due) (sym (first_part f g rest rest' e)) goes)

-- what is due by itself and in the view is one
pub due_same : (own : Option OwnDue) (one : OwnDue) (due : Due) → own ≡ Some one → option_map due_in own ≡ Some due → due ≡ due_in one
due_same own one due is viewed = cc (sym viewed ∙ ap (option_map due_in) is)

-- past a fragment that neither begins a record nor goes on with one
pub goes_past : (old new : Collecting) (f : Fragment) → ¬ Begins f → ((d : Due) → old.due ≡ Some d → Continues d f → ⊥) → new.due ≡ None → GoesOn old new (Part f ∷ []) []
goes_past old new f first goes none behind pends = (
  [],
  pends_none new none,
  λ steps rest stands. pass_pending old.due old.so_far behind (Passed (Part f) ∷ steps) (Part f ∷ rest) pends (stops_part old.due f rest goes) (none_first f rest first, (rest, refl, stands)),
)

-- with the first fragment of a record
pub goes_begun : (old new : Collecting) (f : Fragment) (rec : Option Record) → Begins f → Takes (f ∷ []) new rec → GoesOn old new (Part f ∷ []) (records_in rec)
goes_begun old new f None begins takes behind pends = (
  f ∷ [],
  takes,
  λ steps rest stands. pass_pending old.due old.so_far behind steps (Part f ∷ rest) pends (stops_part old.due f rest (λ d is goes. begins_anew d f begins goes)) stands,
)
goes_begun old new f (Some r) begins takes behind pends = (
  [],
  pends_none new takes.2,
  λ steps rest stands.
      let over = pass_pending old.due old.so_far behind (Given r (f ∷ []) ∷ steps) (Part f ∷ rest) pends (stops_part old.due f rest (λ d is goes. begins_anew d f begins goes))
      (takes.0, takes.1, (rest, refl, stands)) in
      over,
)

-- with a fragment that goes on with the record that is due
pub goes_further : (old new : Collecting) (f : Fragment) (rec : Option Record) → ((behind : List Fragment) → Pends old behind → Takes (behind ++ f ∷ []) new rec)
    → GoesOn old new (Part f ∷ []) (records_in rec)
goes_further old new f None takes behind pends = (
  behind ++ f ∷ [],
  takes behind pends,
  λ steps rest stands. (steps, subst (Stands steps) (parts_join behind (f ∷ []) rest) stands, refl),
)
goes_further old new f (Some r) takes behind pends =
    let taken = takes behind pends in (
      [],
      pends_none new taken.2,
      λ steps rest stands. (Given r (behind ++ f ∷ []) ∷ steps, (taken.0, taken.1, (rest, sym (parts_join behind (f ∷ []) rest), stands)), refl),
    )

-- Bodies.

-- nothing yet
pub goes_nowhere : (c : Collecting) → GoesOn c c [] []
goes_nowhere c behind pends = (behind, pends, λ steps rest stands. (steps, stands, refl))

-- one after another
pub goes_then : (a b c : Collecting) (tokens more : List Token) (records others : List Record) → GoesOn a b tokens records → GoesOn b c more others → GoesOn a c (tokens ++ more) (records ++ others)
goes_then a b c tokens more records others first then behind pends =
    let one = first behind pends in
    let two = then one.0 one.1 in (
      two.0,
      two.1,
      λ steps rest stands.
          let later = two.2 steps rest stands in
          let all = one.2 later.0 (more ++ rest) later.1 in (
            all.0,
            subst (λ (l : List Token). Stands all.0 (parts_of behind ++ l)) (sym (append_assoc tokens more rest)) all.1,
            all.2 ∙ ap (λ (l : List Record). records ++ l) later.2 ∙ sym (append_assoc records others (given steps)),
          ),
    )

-- at the end what is pending is passed
pub goes_to_end : (old new : Collecting) (tokens : List Token) (records : List Record) → old.due ≡ None → GoesOn old new tokens records
    → (all : List Step) × Stands all tokens × (records ≡ given all)
goes_to_end old new tokens records none goes =
    let went = goes [] (pends_none old none) in
    let last = pass_pending new.due new.so_far went.0 [] [] went.1 (stops_end new.due) refl in
    let all = went.2 last.0 [] last.1 in
    (all.0, subst (Stands all.0) (append-nil tokens) all.1, sym (all.2 ∙ ap (λ (l : List Record). records ++ l) last.2 ∙ append-nil records))
  where
    stops_end : (due : Option Due) → StopsAt due []
    stops_end None = tt
    stops_end (Some due) = λ f rest' e goes. cc e

-- what was taken of a body: the fragments before a place, each of them whole if something follows
pub record Taken (body : List ℕ) (at : ℕ) (fs : List Fragment) : Type 0 where
  pub body_is : body ≡ fragments_bytes fs ++ drop at body
  pub fit : FitTogether fs
  pub whole : drop at body ≢ [] → AreWhole fs

pub taken_none : (body : List ℕ) → Taken body 0 []
taken_none body = record { body_is = refl; fit = tt; whole = λ some. tt }

pub taken_more : (body : List ℕ) (at next : ℕ) (fs : List Fragment) (f : Fragment) → Taken body at fs → StandsAt body at f next → Taken body next (fs ++ f ∷ [])
taken_more body at next fs f taken stands =
    let within = stands_within body at next f stands in
    let whole = taken.whole (some_left body at (omega arith)) in
    record {
      body_is = taken.body_is ∙ ap (λ (l : List ℕ). fragments_bytes fs ++ l) stands.bytes_there
          ∙ sym (append_assoc (fragments_bytes fs) (fragment_bytes f) (drop next body))
          ∙ ap (λ (l : List ℕ). l ++ drop next body) (sym (fragments_bytes-append fs (f ∷ []) ∙ ap (λ (l : List ℕ). fragments_bytes fs ++ l) (append-nil (fragment_bytes f))));
      fit = whole_fit fs f whole stands.fragment;
      whole = λ some. whole_more fs f whole stands.fragment (λ goes. some (drop_all next body (goes_on_last body at next f stands goes)));
    }

pub taken_all : (body : List ℕ) (at : ℕ) (fs : List Fragment) → Taken body at fs → length body ≤ at → AreTokensOf body true (parts_of fs)
taken_all body at fs taken past =
    (fs, taken.body_is ∙ ap (λ (l : List ℕ). fragments_bytes fs ++ l) (drop_all at body past) ∙ append-nil (fragments_bytes fs), taken.fit, refl)

pub taken_front : (body : List ℕ) (at : ℕ) (fs : List Fragment) → Taken body at fs → at < length body → (length body ≤ at) ⊎ BeginsWithNone (drop at body)
    → AreTokensOf body false (parts_of fs ++ Gap ∷ [])
taken_front body at fs taken below none = elim none [
  | inl past ↦ absurd (omega (arith, past))
  | inr stops ↦ (fs, drop at body, taken.body_is, taken.whole (some_left body at below), some_left body at below, stops, refl)
]

-- one fragment more
pub goes_part : (a b c : Collecting) (fs : List Fragment) (f : Fragment) (records more : List Record) → GoesOn a b (parts_of fs) records → GoesOn b c (Part f ∷ []) more
    → GoesOn a c (parts_of (fs ++ f ∷ [])) (records ++ more)
goes_part a b c fs f records more first then =
    subst (λ (l : List Token). GoesOn a c l (records ++ more)) (sym (parts-append fs (f ∷ []))) (goes_then a b c (parts_of fs) (Part f ∷ []) records more first then)

-- a gap at the end
pub goes_cut : (a b c : Collecting) (tokens : List Token) (records : List Record) → GoesOn a b tokens records → GoesOn b c (Gap ∷ []) [] → GoesOn a c (tokens ++ Gap ∷ []) records
goes_cut a b c tokens records first then =
    subst (GoesOn a c (tokens ++ Gap ∷ [])) (append-nil records) (goes_then a b c tokens (Gap ∷ []) records [] first then)
