-- What becomes of an end at which a session is opened, or isn't.
use Rattle.std.proofs.Common.{◌≡◌, ℕ, ℤ, ◌-◌, refl, sym, ap, subst, subst₂, ◌∙◌, inl, inr, false, Option, Some, None, List, [], ◌∷◌, ◌++◌}
use Rattle.std.specs.Prelude.{is_some, IsSome, IsTrue, IfSome, IfNone}
use Rattle.std.specs.List.{AllByRecursion}
use Rattle.std.specs.Option.{option_map, option_or}
use Rattle.sd_base.specs.Limits.{block_header}
use Rattle.sd_base.specs.declared.refusal.Refusal.{Refusal}
use Rattle.sd_base.specs.declared.refusal.Refusal.TheVariants.{Memory}
use Rattle.sd_drive.specs.declared.limits.Limits.{Limits}
use Rattle.sd_session.specs.Session.{SessionView, StartRefused, StartsSession, KeepsStore, store_of}
use Rattle.sd_session.specs.declared.opening.Opening.{Opening}
use Rattle.sd_spool.specs.Job.{StoreState, state_of}
use Rattle.sd_spool.specs.Meaning.{Meaning}
use Rattle.sd_line.specs.Ends.{ToldSession, EndIs, EarlierAreOver, IsOfLane, KeepsEnd, LastIsOver, LastGivesBack, BringsStore, SentBy, lane_store, last_store}
use Rattle.sd_line.specs.Parts.{PartIs, PreparedIs, Prepares, OpensAt, OpensNotAt, OpensPart, opening_at, spools_at}
use Rattle.sd_line.specs.Side.{LineIs}
use Rattle.sd_world.specs.Honest.{StoreIsTrue}
use Rattle.sd_session.proofs.PartLemmas.{cleared_fails}
use Rattle.sd_line.proofs.Keeps.{starts_stored}
use Rattle.sd_line.proofs.Sequences.{last_is_over, last_store_push, sent_weaker}

-- what is there under a map is there
pub some_mapped : {A B : Type 0} (f : A → B) (o : Option A) → IsSome (option_map f o) → IsSome o
some_mapped f None h = h
some_mapped f (Some x) h = h

pub mapped_some : {A B : Type 0} (f : A → B) (o : Option A) → IsSome o → IsSome (option_map f o)
mapped_some f None h = h
mapped_some f (Some x) h = h

-- A session at an end that was taken apart: `e` is the end, `f` its parts, and `before` its sessions with room made for
-- one more.

pub opened : (limits : Limits) (e f : EndIs) (before : List ToldSession) (m : Meaning) (opening : Opening) (s : SessionView)
    → f ≡ e → before ≡ f.sessions → f.store ≡ Some (state_of m) → StartsSession opening (limits.block - block_header) limits.spool (state_of m) s
    → OpensAt limits opening e (record { seat = f.seat; before = before; session = s; told = []; spools = spools_at limits; whole = f.whole })
opened limits e f before m opening s is same stored starts =
    subst (λ x. OpensAt limits opening x (record { seat = f.seat; before = before; session = s; told = []; spools = spools_at limits; whole = f.whole })) is
    (record {
      store = state_of m;
      store_is = stored;
      starts = starts;
      is = ap (λ ss. let p : PartIs = record { seat = f.seat; before = ss; session = s; told = []; spools = spools_at limits; whole = f.whole } in p) same;
    })

-- the end, put together again with its store in this state
abbrev pub end_with : EndIs → List ToldSession → StoreState → EndIs
end_with f before store = record { seat = f.seat; store = Some store; sessions = before; whole = f.whole }

-- no session was started
pub not_opened : (limits : Limits) (e f : EndIs) (before : List ToldSession) (store store' : Meaning) (why : Refusal)
    → f ≡ e → before ≡ f.sessions → f.store ≡ Some (state_of store) → StartRefused limits.spool store why store'
    → OpensNotAt limits e why (end_with f before (state_of store'))
not_opened limits e f before store store' why is same stored r =
    subst (λ x. OpensNotAt limits x why (end_with f before (state_of store'))) is
    (record {
      store = state_of store;
      store' = state_of store';
      store_is = stored;
      is = ap (λ ss. end_with f ss (state_of store')) same;
      cause = elim r [
        | inl m ↦ inl (m.0, ap state_of m.1)
        | inr x ↦ inr (x.0, x.1, cleared_fails store store' x.2)
      ];
    })

-- nor for want of memory
pub no_room : (limits : Limits) (e f : EndIs) (before : List ToldSession) (m : Meaning) → f ≡ e → before ≡ f.sessions → f.store ≡ Some (state_of m)
    → OpensNotAt limits e Memory (end_with f before (state_of m))
no_room limits e f before m is same stored =
    subst (λ x. OpensNotAt limits x Memory (end_with f before (state_of m))) is
    (record {
      store = state_of m;
      store' = state_of m;
      store_is = stored;
      is = ap (λ ss. end_with f ss (state_of m)) same;
      cause = inl (refl, refl);
    })

-- and what the end kept it keeps with the store that comes back
pub keeps_back : (time : ℕ → ℕ) (limit : ℕ) (f : EndIs) (before : List ToldSession) (store store' : Meaning) (why : Refusal)
    → before ≡ f.sessions → f.store ≡ Some (state_of store) → StartRefused limit store why store' → KeepsEnd time f → KeepsEnd time (end_with f before (state_of store'))
keeps_back time limit f before store store' why same stored r h =
    let honest : store'.honest ≡ store.honest = elim r [
      | inl m ↦ ap (λ (x : Meaning). x.honest) m.1
      | inr x ↦ x.2.counts.honest
    ] in
    let home : lane_store f ≡ Some (state_of store) = ap (λ o. option_or o (last_store f.sessions)) stored in
    let back : StoreIsTrue (Some (state_of store')) → StoreIsTrue (lane_store f) = λ true. subst StoreIsTrue (sym home) (subst IsTrue honest true) in
    record {
      of_lane = subst (AllByRecursion (IsOfLane (time f.seat.no) f.seat.seat.lane)) (sym same) h.of_lane;
      sent_are = λ whole. subst (λ ss. SentBy (StoreIsTrue (Some (state_of store'))) ss f.seat.seat.sent) (sym same)
          (sent_weaker (StoreIsTrue (lane_store f)) (StoreIsTrue (Some (state_of store'))) f.sessions f.seat.seat.sent back (h.sent_are whole));
      earlier = subst EarlierAreOver (sym same) h.earlier;
      stored = refl;
    }

pub answered : (limits : Limits) (e : EndIs) (why why' : Refusal) (back back' : EndIs) → OpensNotAt limits e why back → why' ≡ why → back' ≡ back
    → OpensNotAt limits e why' back'
answered limits e why why' back back' h is same = subst₂ (OpensNotAt limits e) (sym is) (sym same) h

-- the end, put together again with the store that the session was given
pub end_again : (f : EndIs) (before : List ToldSession) (m : Meaning) (opening : Opening) (room limit : ℕ) (s : SessionView) → before ≡ f.sessions
    → f.store ≡ Some (state_of m) → StartsSession opening room limit (state_of m) s
    → ◌≡◌ {A = EndIs} (record { seat = f.seat; store = store_of s; sessions = before; whole = f.whole }) f
end_again f before m opening room limit s same stored starts =
    ap (λ o. let x : EndIs = record { seat = f.seat; store = o; sessions = before; whole = f.whole } in x) (starts_stored opening room limit (state_of m) s starts ∙ sym stored)
    ∙ ap (λ ss. let x : EndIs = record { seat = f.seat; store = f.store; sessions = ss; whole = f.whole } in x) same

-- The last session, which is over and has the store, gives it back.
pub gave : {A : Type 0} (option : Option A) (all earlier : List ToldSession) (last : ToldSession) (v : SessionView) → all ≡ earlier ++ last ∷ [] → LastIsOver all
    → IsSome (last_store all) → IfNone option (KeepsStore last.session v) → IsSome option
gave (Some x) all earlier last v is over stored none = refl
gave None all earlier last v is over stored none = absurd (elim none.0 [
  | inl runs ↦ last_is_over earlier last (subst LastIsOver is over) runs
  | inr gone ↦ (let e : IsSome {T = StoreState} None = subst IsSome (ap last_store is ∙ last_store_push earlier last ∙ gone) stored in cc (e))
])

-- The lane's store, if it lies in the end.

pub stored_here : (e : EndIs) (option : Option StoreState) → e.store ≡ option → IsSome option → BringsStore e e
stored_here e None is some = absurd (cc some)
stored_here e (Some store) is some = record {
  store = store;
  sessions = e.sessions;
  takes = inl (is, refl);
  is = ap (λ o. let x : EndIs = record e { store = o } in x) is;
}

pub brought : {A : Type 0} (f : A → StoreState) (option : Option A) (e : EndIs) (sessions : List ToldSession) → e.store ≡ None → IsSome option
    → IfSome option (λ x. LastGivesBack e.sessions (f x) sessions) → BringsStore e (record { seat = e.seat; store = option_map f option; sessions = sessions; whole = e.whole })
brought f None e sessions none some gives = absurd (cc some)
brought f (Some x) e sessions none some gives = record { store = f x; sessions = sessions; takes = inr (none, gives); is = refl }

-- What isn't in the end lies at the session that used the lane last.

pub none_mapped : {A B : Type 0} (f : A → B) (o : Option A) → false ≡ is_some o → option_map f o ≡ None
none_mapped f None not = refl
none_mapped f (Some x) not = absurd (cc not)

pub at_last : (here last : Option StoreState) → here ≡ None → IsSome (option_or here last) → IsSome last
at_last here last none some = subst (λ o. IsSome (option_or o last)) none some

-- A session that was prepared at an end of this line, and began.
pub opens_part : (line : LineIs) (id job : ℕ) (pool : List ℕ) (moment : ℤ) (e : EndIs) (p : PreparedIs) (part : PartIs) → Prepares line id job pool moment e p
    → OpensAt p.limits p.opening p.end part → OpensPart line id job pool moment e part
opens_part line id job pool moment e p part h opens = record {
  between = p.end;
  brings = h.brings;
  opens = subst (λ l. OpensAt l (opening_at line e.seat.seat.lane id job pool moment) p.end part) h.limits_are
      (subst (λ o. OpensAt p.limits o p.end part) h.opening_is opens);
}
