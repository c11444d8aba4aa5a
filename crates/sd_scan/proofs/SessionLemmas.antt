-- What is kept of a session, with one body more.
use Rattle.std.proofs.Common.{◌≡◌, ◌≢◌, ◌⊎◌, inl, inr, ℕ, ◌+◌, ◌-◌, ◌^◌, ◌<◌, Bool, true, false, List, [], ◌∷◌, ◌++◌, length, refl, sym, ap, ap₂, subst, ◌∙◌, arith, add-zero}
use Rattle.std.specs.Prelude.{min, Option, Some, None, IfSome, is_some, IsTrue, ◌↔◌, OnOk, Result, Ok, Err}
use Rattle.std.proofs.lemmas.Bool.{true≢false}
use Rattle.std.proofs.lemmas.List.{append_assoc, append-nil, length-append}
use Rattle.sd_base.specs.Record.{Record}
use Rattle.sd_label.proofs.CuttingLemmas.{holds_front}
use Rattle.sd_label.specs.Cutting.{Standing, AtEnd, Cuts, Holds, total_bytes, joined}
use Rattle.sd_label.specs.Label.{AreTotals}
use Rattle.sd_label.specs.declared.label.Totals.{Totals}
use Rattle.sd_unpack.specs.Stage.{Reaches, AreTotalsOf, standing_at}
use Rattle.sd_unpack.proofs.BodyLemmas.{unpacked_whole, cutting_unpacked}
use Rattle.sd_unpack.specs.declared.damage.Damage.{Damage}
use Rattle.sd_unpack.specs.declared.stage.Stage.{Stage}
use Rattle.sd_unpack.specs.Unpacking.{Unpacking, Unpacks}
use Rattle.sd_readback.proofs.FaultLemmas.{total_bytes-append}
use Rattle.sd_readback.proofs.ListLemmas.{push_not_nil}
use Rattle.sd_readback.proofs.ReaderLemmas.{nothing_held, unpacked_holds}
use Rattle.sd_scan.specs.Session.{Breaks, HoldsSome, ReadsTo, Took, Stops}
use Rattle.sd_base.specs.Count.{counted}
use Rattle.sd_scan.specs.declared.session.Session.{Session}

-- Of the records that waited, some were counted and let go.
pub record Counted (old new : Session) : Type 0 where
  pub gone : List Record
  pub ready_is : old.unpacker.ready ≡ gone ++ new.unpacker.ready
  pub rest_is : new ≡ record old {
    unpacker = record old.unpacker { ready = new.unpacker.ready };
    records = new.records;
    bytes = new.bytes;
  }
  pub records_are : (n : ℕ) → old.records ≡ counted n → new.records ≡ counted (n + length gone)
  pub bytes_are : (n : ℕ) → old.bytes ≡ counted n → new.bytes ≡ counted (n + total_bytes gone)

pub count_none : (old : Session) → Counted old old
count_none old = record {
  gone = [];
  ready_is = refl;
  rest_is = refl;
  records_are = λ n is. is ∙ ap counted (sym (add-zero n));
  bytes_are = λ n is. is ∙ ap counted (sym (add-zero n));
}

counted_more : (n m a b : ℕ) → a ≡ counted n → b ≡ min (a + m) (2 ^ 64 - 1) → b ≡ counted (n + m)
counted_more n m a b a_is b_is = omega arith

-- the session is as it was, but for what waits and the counts
with_view : (old now : Session) (view : Unpacking) (records bytes : ℕ) (ready : List Record)
    → now ≡ record old { unpacker = record old.unpacker { ready = now.unpacker.ready }; records = now.records; bytes = now.bytes }
    → now.unpacker ≡ record view { ready = ready }
    → record now { unpacker = view; records = records; bytes = bytes } ≡ record old { unpacker = record old.unpacker { ready = view.ready }; records = records; bytes = bytes }
with_view old now view records bytes ready rest first =
    let totals : view.totals ≡ old.unpacker.totals = sym (ap (λ (u : Unpacking). u.totals) first) ∙ ap (λ (s : Session). s.unpacker.totals) rest in
    let stage : view.stage ≡ old.unpacker.stage = sym (ap (λ (u : Unpacking). u.stage) first) ∙ ap (λ (s : Session). s.unpacker.stage) rest in
    let so_far : view.so_far ≡ old.unpacker.so_far = sym (ap (λ (u : Unpacking). u.so_far) first) ∙ ap (λ (s : Session). s.unpacker.so_far) rest in
    let damage : view.damage ≡ old.unpacker.damage = sym (ap (λ (u : Unpacking). u.damage) first) ∙ ap (λ (s : Session). s.unpacker.damage) rest in
    let viewed : view ≡ record old.unpacker { ready = view.ready } =
    ap (λ (x : Option Totals). record view { totals = x }) totals
    ∙ ap (λ (x : Stage). record { ready = view.ready; totals = old.unpacker.totals; stage = x; so_far = view.so_far; damage = view.damage }) stage
    ∙ ap₂ (λ (x : List ℕ) (y : Option Damage). record { ready = view.ready; totals = old.unpacker.totals; stage = old.unpacker.stage; so_far = x; damage = y }) so_far damage in
    ap (λ (s : Session). record s { unpacker = view; records = records; bytes = bytes }) rest
    ∙ ap (λ (u : Unpacking). record old { unpacker = u; records = records; bytes = bytes }) viewed

pub count_more : (old now : Session) (view : Unpacking) (rec : Record) (records bytes : ℕ) → Counted old now → now.unpacker ≡ record view { ready = rec ∷ view.ready }
    → records ≡ min (now.records + 1) (2 ^ 64 - 1) → bytes ≡ min (now.bytes + length rec.bytes) (2 ^ 64 - 1)
    → Counted old (record now { unpacker = view; records = records; bytes = bytes })
count_more old now view rec records bytes so_far first records_is bytes_is =
    let ready : now.unpacker.ready ≡ rec ∷ view.ready = ap (λ (u : Unpacking). u.ready) first in
    let long = length-append so_far.gone (rec ∷ []) in
    let large = total_bytes-append so_far.gone (rec ∷ []) in
    record {
      gone = so_far.gone ++ rec ∷ [];
      ready_is = so_far.ready_is ∙ ap (λ (l : List Record). so_far.gone ++ l) ready ∙ sym (append_assoc so_far.gone (rec ∷ []) view.ready);
      rest_is = with_view old now view records bytes (rec ∷ view.ready) so_far.rest_is first;
      records_are = λ n is. counted_more (n + length so_far.gone) 1 now.records records (so_far.records_are n is) records_is ∙ ap counted (omega arith);
      bytes_are = λ n is. counted_more (n + total_bytes so_far.gone) (length rec.bytes) now.bytes bytes (so_far.bytes_are n is) bytes_is ∙ ap counted (omega arith);
    }

-- The bodies so far.

pub none_left : {X : Type 0} (o : Option X) → false ≡ is_some o → o ≡ None
none_left None e = refl
none_left (Some x) e = cc

-- an unpacker that was given no body
pub took_none : (view : Unpacking) → Unpacks [] [] view → view.damage ≡ None → Took [] view 0 0 false
took_none view u sound = record {
  front = [];
  rest = [];
  taken = [];
  bodies_are = refl;
  unpacks = u;
  none_waits = nothing_held [] view u;
  records_are = refl;
  bytes_are = refl;
  whole = λ e. (refl, sound);
  stopped = λ e. cc;
}

unpacks_emptied : (bodies : List (List ℕ)) (taken : List Record) (view : Unpacking) → Unpacks bodies taken view → Unpacks bodies (taken ++ view.ready) (record view { ready = [] })
unpacks_emptied bodies taken view u =
    let all = sym (append-nil (taken ++ view.ready)) in
    record {
      fragments = u.fragments;
      bytes_are = u.bytes_are;
      bodies_are = u.bodies_are;
      reaches = subst (λ l. Reaches view.stage (joined u.fragments) l view.so_far) all u.reaches;
      totals_are = subst (AreTotalsOf view.totals) all u.totals_are;
    }

-- all bodies so far were followed
all_followed : (bodies front rest : List (List ℕ)) → bodies ≡ front ++ rest → rest ≡ [] → bodies ≡ front
all_followed bodies front rest is none = is ∙ ap (λ l. front ++ l) none ∙ append-nil front

-- a body that can follow, whose records were counted and let go
pub took_more : (bodies : List (List ℕ)) (body : List ℕ) (old mid : Unpacking) (s new : Session) → s.unpacker ≡ mid → s.damaged ≡ false
    → Took bodies old s.records s.bytes s.damaged
    → ((bodies : List (List ℕ)) (taken : List Record) → Unpacks bodies taken old → Unpacks (bodies ++ body ∷ []) taken mid)
    → mid.damage ≡ None
    → new ≡ record s { unpacker = record s.unpacker { ready = [] }; records = new.records; bytes = new.bytes }
    → ((n : ℕ) → s.records ≡ counted n → new.records ≡ counted (n + length s.unpacker.ready))
    → ((n : ℕ) → s.bytes ≡ counted n → new.bytes ≡ counted (n + total_bytes s.unpacker.ready))
    → Took (bodies ++ body ∷ []) new.unpacker new.records new.bytes new.damaged
took_more bodies body old mid s new mid_is sound took unpacks undamaged is records bytes =
    let whole = took.whole sound in
    let all = all_followed bodies took.front took.rest took.bodies_are whole.0 in
    let view_is : new.unpacker ≡ record mid { ready = [] } = ap (λ (x : Session). x.unpacker) is ∙ ap (λ (u : Unpacking). record u { ready = [] }) mid_is in
    let damaged_is : new.damaged ≡ false = ap (λ (x : Session). x.damaged) is ∙ sound in
    let ready_is : s.unpacker.ready ≡ mid.ready = ap (λ (u : Unpacking). u.ready) mid_is in
    let long = length-append took.taken mid.ready in
    let large = total_bytes-append took.taken mid.ready in
    record {
      front = took.front ++ body ∷ [];
      rest = [];
      taken = took.taken ++ mid.ready;
      bodies_are = ap (λ (l : List (List ℕ)). l ++ body ∷ []) all ∙ sym (append-nil (took.front ++ body ∷ []));
      unpacks = subst (λ u. Unpacks (took.front ++ body ∷ []) (took.taken ++ mid.ready) u) (sym view_is) (unpacks_emptied _ took.taken mid (unpacks took.front took.taken took.unpacks));
      none_waits = ap (λ (u : Unpacking). u.ready) view_is;
      records_are = records (length took.taken) took.records_are ∙ ap (λ l. counted (length took.taken + length l)) ready_is ∙ ap counted (sym long);
      bytes_are = bytes (total_bytes took.taken) took.bytes_are ∙ ap (λ l. counted (total_bytes took.taken + total_bytes l)) ready_is ∙ ap counted (sym large);
      whole = λ e. (refl, ap (λ (u : Unpacking). u.damage) view_is ∙ undamaged);
      stopped = λ e. absurd (true≢false (sym e ∙ damaged_is));
    }

-- a body that can't follow
pub took_stopped : (bodies : List (List ℕ)) (body : List ℕ) (old : Unpacking) (damage : Damage) (records bytes : ℕ) (damaged : Bool) → damaged ≡ false → Took bodies old records bytes damaged
    → ((bodies : List (List ℕ)) (taken records : List Record) (standing : Standing) → old.damage ≡ None → Unpacks bodies taken old → Holds (bodies ++ body ∷ []) records standing → ⊥)
    → Took (bodies ++ body ∷ []) (record old { damage = Some damage }) records bytes true
took_stopped bodies body old damage records bytes damaged sound took never =
    let whole = took.whole sound in
    let all = all_followed bodies took.front took.rest took.bodies_are whole.0 in
    record {
      front = took.front;
      rest = body ∷ [];
      taken = took.taken;
      bodies_are = ap (λ (l : List (List ℕ)). l ++ body ∷ []) all;
      unpacks = record {
        fragments = took.unpacks.fragments;
        bytes_are = took.unpacks.bytes_are;
        bodies_are = took.unpacks.bodies_are;
        reaches = took.unpacks.reaches;
        totals_are = took.unpacks.totals_are;
      };
      none_waits = took.none_waits;
      records_are = took.records_are;
      bytes_are = took.bytes_are;
      whole = λ e. cc;
      stopped = λ e list standing holds. never took.front took.taken list standing whole.1 took.unpacks holds;
    }

-- What they come to.

holds_some : (front : List (List ℕ)) (taken : List Record) (view : Unpacking) → Unpacks front taken view → view.ready ≡ [] → HoldsSome front taken
holds_some [] taken view u none = inl (refl, sym (append-nil taken) ∙ ap (λ l. taken ++ l) (sym none) ∙ nothing_held taken view u)
holds_some (body ∷ front) taken view u none =
    let h = unpacked_holds (body ∷ front) taken view u (λ e. cc) in
    inr (h.0, subst (λ l. Holds (body ∷ front) l h.0) (ap (λ l. taken ++ l) none ∙ append-nil taken) h.2)

fits_counted : (n : ℕ) → n < 2 ^ 64 → counted n ≡ n
fits_counted n fits = omega arith

-- the totals of a cutting with its end label fit the label
pub totals_fit : (bodies : List (List ℕ)) (records : List Record) → Cuts bodies records true → (length records < 2 ^ 64) × (total_bytes records < 2 ^ 64)
totals_fit bodies records cuts =
    let end = cuts.holds_by.session_is.behind_is in
    fit end.0.totals end.1.label_is.totals end.1.totals_are
  where
    fit : (totals : Option Totals) → IfSome totals AreTotals → totals ≡ Some (record { records = length records; bytes = total_bytes records })
        → (length records < 2 ^ 64) × (total_bytes records < 2 ^ 64)
    fit None are e = cc
    fit (Some t) are e =
        let same : t ≡ record { records = length records; bytes = total_bytes records } = cc in
        (subst (λ n. n < 2 ^ 64) (ap (λ (x : Totals). x.records) same) are.records, subst (λ n. n < 2 ^ 64) (ap (λ (x : Totals). x.bytes) same) are.bytes)

cutting_at_end : (front : List (List ℕ)) (taken : List Record) (view : Unpacking) → Unpacks front taken view → view.ready ≡ [] → standing_at view.stage ≡ Some AtEnd → Cuts front taken true
cutting_at_end front taken view u none at =
    subst (λ l. Holds front l AtEnd) (ap (λ l. taken ++ l) none ∙ append-nil taken) (unpacked_whole front taken view AtEnd u at)

no_cutting_past : (front rest : List (List ℕ)) (list : List Record) → Stops front rest → Cuts (front ++ rest) list true → ⊥
no_cutting_past front [] list stops cuts = stops
no_cutting_past front (body ∷ rest) list stops cuts =
    let split : front ++ body ∷ rest ≡ (front ++ body ∷ []) ++ rest = sym (append_assoc front (body ∷ []) rest) in
    let first = holds_front (front ++ body ∷ []) rest list AtEnd (push_not_nil front body) (subst (λ l. Holds l list AtEnd) split cuts) in
    stops first.whole first.standing first.holds

-- what the session comes to
pub reads_to : (bodies : List (List ℕ)) (view : Unpacking) (records bytes : ℕ) (damaged ended : Bool) → Took bodies view records bytes damaged
    → (IsTrue ended ↔ ((damaged ≡ false) × (standing_at view.stage ≡ Some AtEnd)))
    → ReadsTo bodies records bytes ended
reads_to bodies view records bytes damaged ended took tells = record {
  front = took.front;
  rest = took.rest;
  taken = took.taken;
  bodies_are = took.bodies_are;
  holds = holds_some took.front took.taken view took.unpacks took.none_waits;
  stops = stops_so damaged refl;
  records_are = took.records_are;
  bytes_are = took.bytes_are;
  ended_is = λ e. (
      let at = tells.0 (e) in
      let all = all_followed bodies took.front took.rest took.bodies_are (took.whole at.0).0 in
      let cuts = cutting_at_end took.front took.taken view took.unpacks took.none_waits at.1 in
      let fit = totals_fit took.front took.taken cuts in (
        subst (λ l. Cuts l took.taken true) (sym all) cuts,
        took.records_are ∙ fits_counted (length took.taken) fit.0,
        took.bytes_are ∙ fits_counted (total_bytes took.taken) fit.1,
      )
      );
  whole = λ list cuts. ended_so list cuts damaged refl;
}
  where
    stops_so : (d : Bool) → damaged ≡ d → (took.rest ≡ []) ⊎ Stops took.front took.rest
    stops_so true is = inr (took.stopped is)
    stops_so false is = inl (took.whole is).0

    ended_so : (list : List Record) → Cuts bodies list true → (d : Bool) → damaged ≡ d → ended ≡ true
    ended_so list cuts true is = absurd (no_cutting_past took.front took.rest list (took.stopped is) (subst (λ l. Cuts l list true) took.bodies_are cuts))
    ended_so list cuts false is =
        let all = all_followed bodies took.front took.rest took.bodies_are (took.whole is).0 in
        let closed = (cutting_unpacked took.front list took.taken view took.unpacks).1 (subst (λ l. Cuts l list true) all cuts) in
        tells.1 (is, ap standing_at closed.1)

-- whether it is broken
pub breaks : (bodies : List (List ℕ)) (view : Unpacking) (records bytes : ℕ) (damaged : Bool) → Took bodies view records bytes damaged → (d : Bool) → damaged ≡ d → Breaks bodies d
breaks bodies view records bytes damaged took true is = (took.front, took.rest, took.bodies_are, took.stopped is)
breaks bodies view records bytes damaged took false is =
    let all = all_followed bodies took.front took.rest took.bodies_are (took.whole is).0 in
    (took.taken, subst (λ l. HoldsSome l took.taken) (sym all) (holds_some took.front took.taken view took.unpacks took.none_waits))

pub on_ok : {X E P Q : Type 0} (answer : Result X E) → (P → Q) → OnOk answer P → OnOk answer Q
on_ok (Ok x) f p = f p
on_ok (Err e) f p = tt
