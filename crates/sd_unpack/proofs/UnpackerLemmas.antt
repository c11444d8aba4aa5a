-- What an unpacker has made of its bodies, once one more was added or found damaged.
use Rattle.std.proofs.Common.{◌≡◌, ◌≢◌, inl, inr, ℕ, ◌+◌, ◌<◌, refl, sym, ap, subst, ◌∙◌, arith, List, [], ◌∷◌, ◌++◌, drop, length}
use Rattle.std.specs.Prelude.{Option}
use Rattle.std.proofs.lemmas.List.{append_assoc, append-nil, length-append, drop_all}
use Rattle.sd_base.specs.Record.{Record}
use Rattle.sd_record.specs.Fragment.{Fragment, fragment_bytes, fragments_bytes, GoesOn, StandsAt}
use Rattle.sd_label.specs.Cutting.{Between, joined, IsSession}
use Rattle.sd_label.specs.declared.label.Totals.{Totals}
use Rattle.sd_unpack.specs.declared.damage.Damage.{Damage}
use Rattle.sd_unpack.specs.declared.damage.Damage.TheVariants.{BadFragment}
use Rattle.sd_unpack.specs.declared.stage.Due.{Due}
use Rattle.sd_unpack.specs.declared.stage.Stage.{Stage}
use Rattle.sd_unpack.specs.declared.stage.Stage.TheVariants.{Fresh, Whole, Partway, Closed}
use Rattle.sd_unpack.specs.declared.batch.Batch.{Batch}
use Rattle.sd_unpack.specs.Stage.{Reaches, IsAtRest, IsPartway, due_record, AreTotalsOf}
use Rattle.sd_unpack.specs.Damage.{CantStand, StopsAt, IsDamaged, Continues}
use Rattle.sd_unpack.specs.Unpacking.{Unpacking, Unpacks}
use Rattle.sd_unpack.specs.Batch.{Brings}
use Rattle.sd_unpack.proofs.StageLemmas.{due_after, partway_more, partway_whole}
use Rattle.sd_unpack.proofs.BodyLemmas.{unpacks_more}
use Rattle.sd_unpack.proofs.BatchLemmas.{AddsRecord, goes_on_last}

pub empty_damaged : (bodies : List (List ℕ)) (taken : List Record) (old : Unpacking) (body : List ℕ) → Unpacks bodies taken old → body ≡ [] → IsDamaged bodies body BadFragment
empty_damaged bodies taken old body u none = record {
  fragments = u.fragments;
  bytes_are = u.bytes_are;
  bodies_are = u.bodies_are;
  stops = inl (none, refl);
}

-- what comes first in the body can't come there
pub first_damaged : (bodies : List (List ℕ)) (taken : List Record) (old : Unpacking) (body : List ℕ) (damage : Damage) → Unpacks bodies taken old → body ≢ []
    → CantStand damage old.stage (taken ++ old.ready) body → IsDamaged bodies body damage
first_damaged bodies taken old body damage u some stops = record {
  fragments = u.fragments;
  bytes_are = u.bytes_are;
  bodies_are = u.bodies_are;
  stops = inr (record {
    front = [];
    rest = body;
    stage = old.stage;
    records = taken ++ old.ready;
    so_far = old.so_far;
    bytes_are = refl;
    front_is = tt;
    reaches = subst (λ l. Reaches old.stage l (taken ++ old.ready) old.so_far) (sym (append-nil (joined u.fragments))) u.reaches;
    rest_left = some;
    stops = stops;
  });
}

-- if no record is unfinished, no data have come of one
at_rest_any : (stage : Stage) (fs : List Fragment) (records : List Record) (so_far other : List ℕ) → IsAtRest stage → Reaches stage fs records so_far → Reaches stage fs records other
at_rest_any Fresh fs records so_far other rest r = r
at_rest_any Whole fs records so_far other rest r = r
at_rest_any (Partway due) fs records so_far other rest r = absurd rest
at_rest_any Closed fs records so_far other rest r = r

pub rest_reached : (bodies : List (List ℕ)) (taken : List Record) (old : Unpacking) → (u : Unpacks bodies taken old) → IsAtRest old.stage
    → Reaches old.stage (joined u.fragments) (taken ++ old.ready) []
rest_reached bodies taken old u rest = at_rest_any old.stage (joined u.fragments) (taken ++ old.ready) old.so_far [] rest u.reaches

pub read_damaged : (bodies : List (List ℕ)) (taken : List Record) (old : Unpacking) (body : List ℕ) (damage : Damage) → Unpacks bodies taken old → IsAtRest old.stage
    → ((fs : List Fragment) (records : List Record) → Reaches old.stage fs records [] → AreTotalsOf old.totals records → StopsAt fs body damage) → IsDamaged bodies body damage
read_damaged bodies taken old body damage u rest why = record {
  fragments = u.fragments;
  bytes_are = u.bytes_are;
  bodies_are = u.bodies_are;
  stops = inr (why (joined u.fragments) (taken ++ old.ready) (rest_reached bodies taken old u rest) u.totals_are);
}

-- the unpacker with what a batch brings
abbrev pub kept : Unpacking → List Record → Batch → Unpacking
kept old ready batch = record old { ready = ready ++ batch.records.items; totals = batch.totals; stage = batch.stage; so_far = batch.so_far.items }

-- a body of whole fragments that the batch brings
pub keeps : (bodies : List (List ℕ)) (taken : List Record) (old : Unpacking) (body : List ℕ) (batch : Batch) → Unpacks bodies taken old → IsAtRest old.stage → body ≢ []
    → ((fs : List Fragment) (records : List Record) → Reaches old.stage fs records [] → AreTotalsOf old.totals records → Brings fs records body [] batch)
    → Unpacks (bodies ++ body ∷ []) taken (kept old old.ready batch)
keeps bodies taken old body batch u rest some brings =
    let b = brings (joined u.fragments) (taken ++ old.ready) (rest_reached bodies taken old u rest) u.totals_are in
    unpacks_more bodies taken (kept old old.ready batch) body old b.front u b.front_is some (b.bytes_are ∙ append-nil (fragments_bytes b.front))
    (subst (λ l. Reaches batch.stage (joined u.fragments ++ b.front) l batch.so_far.items) (append_assoc taken old.ready batch.records.items) b.stands.reaches)
    (subst (AreTotalsOf batch.totals) (append_assoc taken old.ready batch.records.items) b.stands.totals_are)

-- A body that begins within a record.

partway_of : (bodies : List (List ℕ)) (taken : List Record) (old : Unpacking) (due : Due) → (u : Unpacks bodies taken old) → old.stage ≡ Partway due
    → IsPartway (joined u.fragments) (taken ++ old.ready) due old.so_far
partway_of bodies taken old due u is = subst (λ stage. Reaches stage (joined u.fragments) (taken ++ old.ready) old.so_far) is u.reaches

-- the unpacker with one part more
abbrev pub kept_part : Unpacking → Due → List ℕ → Unpacking
kept_part old due part = record old { stage = Partway (due_after due part); so_far = old.so_far ++ part }

pub keeps_part : (bodies : List (List ℕ)) (taken : List Record) (old : Unpacking) (body : List ℕ) (due : Due) (next : ℕ) (f : Fragment) → Unpacks bodies taken old
    → old.stage ≡ Partway due → body ≢ [] → StandsAt body 0 f next → Continues due f → length f.part < due.left → Unpacks (bodies ++ body ∷ []) taken (kept_part old due f.part)
keeps_part bodies taken old body due next f u is some s goes short =
    let goes_on : GoesOn f = (let size = goes.size_is in omega arith) in
    unpacks_more bodies taken (kept_part old due f.part) body old (f ∷ []) u (s.fragment, (λ more. refl), tt) some
    (s.bytes_there ∙ ap (λ l. fragment_bytes f ++ l) (drop_all next body (goes_on_last body 0 next f s goes_on)))
    (partway_more (joined u.fragments) (taken ++ old.ready) due old.so_far f (partway_of bodies taken old due u is) goes short)
    u.totals_are

whole_part : (due : Due) (f : Fragment) → Continues due f → length f.part ≡ due.left → GoesOn f → ⊥
whole_part due f goes long more = let size = goes.size_is in omega arith

-- the record that the part makes whole comes after those before it
finished : (bodies : List (List ℕ)) (taken : List Record) (old : Unpacking) (due : Due) (f : Fragment) → (u : Unpacks bodies taken old) → old.stage ≡ Partway due
    → Continues due f → length f.part ≡ due.left
    → IsSession (joined u.fragments ++ f ∷ []) ((taken ++ old.ready) ++ due_record due (old.so_far ++ f.part) ∷ []) Between
finished bodies taken old due f u is goes long =
    partway_whole (joined u.fragments) (taken ++ old.ready) due old.so_far f (partway_of bodies taken old due u is) goes long

finished_totals : (bodies : List (List ℕ)) (taken : List Record) (old : Unpacking) (due : Due) (f : Fragment) (totals : Option Totals) (size : ℕ) → (u : Unpacks bodies taken old)
    → AddsRecord old.totals totals size → size ≡ length old.so_far + length f.part
    → AreTotalsOf totals ((taken ++ old.ready) ++ due_record due (old.so_far ++ f.part) ∷ [])
finished_totals bodies taken old due f totals size u adds is =
    adds (taken ++ old.ready) (due_record due (old.so_far ++ f.part)) u.totals_are (is ∙ sym (length-append old.so_far f.part))

pub finish_damaged : (bodies : List (List ℕ)) (taken : List Record) (old : Unpacking) (body : List ℕ) (due : Due) (next : ℕ) (f : Fragment) (totals : Option Totals) (size : ℕ) (damage : Damage)
    → Unpacks bodies taken old → old.stage ≡ Partway due → StandsAt body 0 f next → Continues due f → length f.part ≡ due.left → AddsRecord old.totals totals size
    → size ≡ length old.so_far + length f.part
    → ((fs : List Fragment) (records : List Record) → Reaches Whole fs records [] → AreTotalsOf totals records → StopsAt fs (drop next body) damage)
    → IsDamaged bodies body damage
finish_damaged bodies taken old body due next f totals size damage u is s goes long adds size_is why =
    let stop = why (joined u.fragments ++ f ∷ []) ((taken ++ old.ready) ++ due_record due (old.so_far ++ f.part) ∷ []) (finished bodies taken old due f u is goes long)
    (finished_totals bodies taken old due f totals size u adds size_is) in
    record {
      fragments = u.fragments;
      bytes_are = u.bytes_are;
      bodies_are = u.bodies_are;
      stops = inr (record {
        front = f ∷ stop.front;
        rest = stop.rest;
        stage = stop.stage;
        records = stop.records;
        so_far = stop.so_far;
        bytes_are = s.bytes_there ∙ ap (λ l. fragment_bytes f ++ l) stop.bytes_are ∙ sym (append_assoc (fragment_bytes f) (fragments_bytes stop.front) stop.rest);
        front_is = (s.fragment, whole_part due f goes long, stop.front_is);
        reaches = subst (λ l. Reaches stop.stage l stop.records stop.so_far) (append_assoc (joined u.fragments) (f ∷ []) stop.front) stop.reaches;
        rest_left = stop.rest_left;
        stops = stop.stops;
      });
    }

pub finishes : (bodies : List (List ℕ)) (taken : List Record) (old : Unpacking) (body : List ℕ) (due : Due) (next : ℕ) (f : Fragment) (totals : Option Totals) (size : ℕ) (batch : Batch)
    → Unpacks bodies taken old → old.stage ≡ Partway due → body ≢ [] → StandsAt body 0 f next → Continues due f → length f.part ≡ due.left → AddsRecord old.totals totals size
    → size ≡ length old.so_far + length f.part
    → ((fs : List Fragment) (records : List Record) → Reaches Whole fs records [] → AreTotalsOf totals records → Brings fs records (drop next body) [] batch)
    → Unpacks (bodies ++ body ∷ []) taken (kept old (old.ready ++ due_record due (old.so_far ++ f.part) ∷ []) batch)
finishes bodies taken old body due next f totals size batch u is some s goes long adds size_is brings =
    let one = due_record due (old.so_far ++ f.part) ∷ [] in
    let b = brings (joined u.fragments ++ f ∷ []) ((taken ++ old.ready) ++ one) (finished bodies taken old due f u is goes long)
    (finished_totals bodies taken old due f totals size u adds size_is) in
    let order : ((taken ++ old.ready) ++ one) ++ batch.records.items ≡ taken ++ ((old.ready ++ one) ++ batch.records.items) =
    ap (λ l. l ++ batch.records.items) (append_assoc taken old.ready one) ∙ append_assoc taken (old.ready ++ one) batch.records.items in
    unpacks_more bodies taken (kept old (old.ready ++ one) batch) body old (f ∷ b.front) u
    (s.fragment, (λ goes_on. absurd (whole_part due f goes long goes_on)), b.front_is) some
    (s.bytes_there ∙ ap (λ l. fragment_bytes f ++ l) (b.bytes_are ∙ append-nil (fragments_bytes b.front)))
    (subst (λ l. Reaches batch.stage l (taken ++ ((old.ready ++ one) ++ batch.records.items)) batch.so_far.items) (append_assoc (joined u.fragments) (f ∷ []) b.front)
    (subst (λ l. Reaches batch.stage ((joined u.fragments ++ f ∷ []) ++ b.front) l batch.so_far.items) order b.stands.reaches))
    (subst (AreTotalsOf batch.totals) order b.stands.totals_are)
