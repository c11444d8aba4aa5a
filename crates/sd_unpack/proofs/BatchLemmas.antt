-- A batch with one fragment more, and what the fragments of a body bring.
use Rattle.std.proofs.Common.{◌≡◌, ◌≢◌, ℕ, ◌+◌, ◌-◌, ◌<◌, ◌≤◌, refl, sym, ap, subst, ◌∙◌, arith, List, [], ◌∷◌, ◌++◌, take, drop, length}
use Rattle.std.specs.Prelude.{Option, Result, Ok, Err}
use Rattle.std.proofs.lemmas.List.{append_assoc, append-nil, length-append, length-drop, drop_all, take_at}
use Rattle.sd_base.specs.Record.{Record, IsRecord}
use Rattle.sd_record.specs.Fragment.{Fragment, fragment_bytes, fragments_bytes, GoesOn, StandsAt}
use Rattle.sd_label.specs.declared.label.Totals.{Totals}
use Rattle.sd_label.specs.Cutting.{Between, IsSession}
use Rattle.sd_record.proofs.FragmentLemmas.{length-fragment_bytes}
use Rattle.sd_unpack.specs.declared.damage.Damage.{Damage}
use Rattle.sd_unpack.specs.declared.damage.AddFault.{AddFault}
use Rattle.sd_unpack.specs.declared.damage.AddFault.TheVariants.{Damaged, Memory}
use Rattle.sd_unpack.specs.declared.stage.Due.{Due}
use Rattle.sd_unpack.specs.declared.stage.Stage.TheVariants.{Whole}
use Rattle.sd_unpack.specs.declared.batch.Batch.{Batch}
use Rattle.sd_unpack.specs.Stage.{Reaches, due_record, AreTotalsOf}
use Rattle.sd_unpack.specs.Damage.{BeginsBytes, CantStand, StopsAt, IfDamaged}
use Rattle.sd_unpack.specs.Batch.{Stands, Brings}
use Rattle.sd_unpack.proofs.StageLemmas.{Starts, session_record, whole_fragments}
use Rattle.sd_unpack.proofs.BodyLemmas.{whole_fit, whole_more, fragments_bytes-append}

-- the totals with one record more
abbrev pub AddsRecord : Option Totals → Option Totals → ℕ → Type 0
AddsRecord old new size = (records : List Record) (one : Record) → AreTotalsOf old records → size ≡ length one.bytes → AreTotalsOf new (records ++ one ∷ [])

pub stands_whole : (fs : List Fragment) (records : List Record) (old new : Batch) (due : Due) (f : Fragment) (size : ℕ) → Stands fs records old → old.stage ≡ Whole → new.stage ≡ Whole
    → new.records.items ≡ old.records.items ++ due_record due f.part ∷ [] → AddsRecord old.totals new.totals size → size ≡ length f.part → Starts due f
    → length f.part ≡ due.left → IsRecord (due_record due f.part) → Stands (fs ++ f ∷ []) records new
stands_whole fs records old new due f size s was is items adds long starts whole is_record =
    let order : (records ++ old.records.items) ++ due_record due f.part ∷ [] ≡ records ++ new.records.items =
    append_assoc records old.records.items (due_record due f.part ∷ []) ∙ ap (λ l. records ++ l) (sym items) in
    let before = subst (λ stage. Reaches stage fs (records ++ old.records.items) old.so_far.items) was s.reaches in
    let session = session_record fs (records ++ old.records.items) (due_record due f.part) f before is_record (whole_fragments due f starts whole) in
    record {
      reaches = subst (λ stage. Reaches stage (fs ++ f ∷ []) (records ++ new.records.items) new.so_far.items) (sym is) (subst (λ l. IsSession (fs ++ f ∷ []) l Between) order session);
      totals_are = subst (AreTotalsOf new.totals) order (adds (records ++ old.records.items) (due_record due f.part) s.totals_are long);
    }

-- One fragment more.

-- a fragment that goes on is the last of its body
pub goes_on_last : (body : List ℕ) (at next : ℕ) (f : Fragment) → StandsAt body at f next → GoesOn f → length body ≤ next
goes_on_last body at next f s goes = let long = s.part_length in let after = s.next_is in omega arith

pub some_left : (body : List ℕ) (at : ℕ) → at < length body → drop at body ≢ []
some_left body at below none = let zero : length body - at ≡ 0 = sym (length-drop at body) ∙ ap length none in omega arith

pub brings_more : (fs : List Fragment) (records : List Record) (bytes body : List ℕ) (at next : ℕ) (old new : Batch) (f : Fragment) → Brings fs records bytes (drop at body) old
    → at < length body → StandsAt body at f next → ((gs : List Fragment) → Stands gs records old → Stands (gs ++ f ∷ []) records new) → Brings fs records bytes (drop next body) new
brings_more fs records bytes body at next old new f b below s step =
    let whole = b.whole_before (some_left body at below) in
    record {
      front = b.front ++ f ∷ [];
      bytes_are = b.bytes_are ∙ ap (λ l. fragments_bytes b.front ++ l) s.bytes_there
          ∙ sym (append_assoc (fragments_bytes b.front) (fragment_bytes f) (drop next body))
          ∙ ap (λ l. l ++ drop next body) (sym (fragments_bytes-append b.front (f ∷ []) ∙ ap (λ l. fragments_bytes b.front ++ l) (append-nil (fragment_bytes f))));
      front_is = whole_fit b.front f whole s.fragment;
      whole_before = (λ some. whole_more b.front f whole s.fragment (λ goes. some (drop_all next body (goes_on_last body at next f s goes))));
      stands = subst (λ l. Stands l records new) (append_assoc fs b.front (f ∷ [])) (step (fs ++ b.front) b.stands);
    }

-- what comes next begins the bytes there
pub stands_first : (body : List ℕ) (at next : ℕ) (f : Fragment) → StandsAt body at f next → BeginsBytes f (drop at body) (drop next body)
stands_first body at next f s = record {
  fragment_is = s.fragment;
  bytes_are = s.bytes_there;
  last = (λ goes. drop_all next body (goes_on_last body at next f s goes));
}

pub brings_damage : (fs : List Fragment) (records : List Record) (bytes body : List ℕ) (at : ℕ) (batch : Batch) (damage : Damage) → Brings fs records bytes (drop at body) batch
    → at < length body → CantStand damage batch.stage (records ++ batch.records.items) (drop at body) → StopsAt fs bytes damage
brings_damage fs records bytes body at batch damage b below stops = record {
  front = b.front;
  rest = drop at body;
  stage = batch.stage;
  records = records ++ batch.records.items;
  so_far = batch.so_far.items;
  bytes_are = b.bytes_are;
  front_is = b.whole_before (some_left body at below);
  reaches = b.stands.reaches;
  rest_left = some_left body at below;
  stops = stops;
}

-- a fragment that lies in a body ends in it, twelve bytes or more after its place
pub stands_within : (body : List ℕ) (at next : ℕ) (f : Fragment) → StandsAt body at f next → (at + 12 ≤ next) × (next ≤ length body)
stands_within body at next f s =
    let long : length body - at ≡ 12 + length f.part + (length body - next) =
    sym (length-drop at body) ∙ ap length s.bytes_there ∙ length-append (fragment_bytes f) (drop next body)
    ∙ ap (λ n. n + length (drop next body)) (length-fragment_bytes f) ∙ ap (λ n. 12 + length f.part + n) (length-drop next body) in
    let after = s.next_is in
    (omega arith, omega arith)

pub stands_some : (body : List ℕ) (at next : ℕ) (f : Fragment) → StandsAt body at f next → body ≢ []
stands_some body at next f s none = let within = stands_within body at next f s in let zero = ap length none in omega arith

pub bytes_between : (body : List ℕ) (at next : ℕ) (f : Fragment) → StandsAt body at f next → take (next - at) (drop at body) ≡ fragment_bytes f
bytes_between body at next f s =
    ap (take (next - at)) s.bytes_there ∙ take_at (fragment_bytes f) (drop next body) (next - at) (let after = s.next_is in length-fragment_bytes f ∙ omega arith)

-- Answers.

pub damaged_by : {X : Type 0} (r : Result X AddFault) (damage : Damage) (P : Damage → Type 0) → r ≡ Err (Damaged damage) → P damage → IfDamaged r P
damaged_by r damage P e p = subst (λ x. IfDamaged x P) (sym e) p

-- what follows from why a body is damaged
pub damaged_so : (X : Type 0) (r : Result X AddFault) (P Q : Damage → Type 0) → ((damage : Damage) → Q damage → P damage) → IfDamaged r Q → IfDamaged r P
damaged_so X (Ok x) P Q f q = tt
damaged_so X (Err (Damaged damage)) P Q f q = f damage q
damaged_so X (Err Memory) P Q f q = tt

damaged_still : (X Y : Type 0) (fault : AddFault) (P Q : Damage → Type 0) → ((damage : Damage) → Q damage → P damage) → IfDamaged {X = Y} (Err fault) Q → IfDamaged {X = X} (Err fault) P
damaged_still X Y (Damaged damage) P Q f q = f damage q
damaged_still X Y Memory P Q f q = tt

pub damaged_too : (X Y : Type 0) (r : Result X AddFault) (fault : AddFault) (P Q : Damage → Type 0) → r ≡ Err fault → ((damage : Damage) → Q damage → P damage)
    → IfDamaged {X = Y} (Err fault) Q → IfDamaged r P
damaged_too X Y r fault P Q e f q = subst (λ x. IfDamaged x P) (sym e) (damaged_still X Y fault P Q f q)

-- The first fragments.

pub brings_none : (fs : List Fragment) (records : List Record) (bytes : List ℕ) (batch : Batch) → batch.records.items ≡ [] → batch.so_far.items ≡ []
    → Reaches batch.stage fs records [] → AreTotalsOf batch.totals records → Brings fs records bytes bytes batch
brings_none fs records bytes batch items so_far reaches totals =
    let none : records ≡ records ++ batch.records.items = sym (ap (λ l. records ++ l) items ∙ append-nil records) in
    record {
      front = [];
      bytes_are = refl;
      front_is = tt;
      whole_before = (λ some. tt);
      stands = record {
        reaches = subst (λ l. Reaches batch.stage l (records ++ batch.records.items) batch.so_far.items) (sym (append-nil fs))
            (subst (λ l. Reaches batch.stage fs l batch.so_far.items) none (subst (Reaches batch.stage fs records) (sym so_far) reaches));
        totals_are = subst (AreTotalsOf batch.totals) none totals;
      };
    }
