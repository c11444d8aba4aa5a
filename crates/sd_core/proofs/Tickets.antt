-- Tickets in their order.
use Rattle.std.proofs.Common.{◌≡◌, ◌≢◌, ◌⊎◌, ℕ, zero, suc, ◌+◌, ◌<◌, ◌≤◌, ltb, cond, Bool, true, false, refl, sym, ap, subst, ◌∙◌, inl, inr, Option, Some, List, [], ◌∷◌, ◌++◌, length, get_or, take, drop, slice_get, arith}
use Rattle.std.specs.Prelude.{◌↔◌, Result, Ok, Err, OnOk}
use Rattle.std.proofs.lemmas.Bool.{ltb-true, ltb-false}
use Rattle.std.proofs.lemmas.Option.{get_or_from_slice_get}
use Rattle.std.specs.List.Sorted.{IsNonDecreasingBy, IsPartitionPoint}
use Rattle.sd_machine.proofs.Lookups.{chosen}
use Rattle.sd_session.specs.declared.status.Status.{Status}
use Rattle.sd_world.specs.Drives.{is_running}
use Rattle.sd_world.specs.Rules.{IsWorld, NumbersRise}
use Rattle.sd_world.specs.World.{WorldView, WorldSession, BayView, LaneView, session_at}
use Rattle.sd_world.proofs.Lookups.{one_or_two, session_id}
use Rattle.sd_world.proofs.Views.{running_is}
use Rattle.sd_core.specs.Listing.{EndsBelow, GoesOn, KeepLanes, TicketsRise, IsListed, AreRunning, ListsHolder, ListsLanes, StayListed}
use Rattle.sd_core.specs.View.{running_tickets}

-- Tickets that rise.

-- from a lower least on
rise_lower : (low least : ℕ) (ts : List ℕ) → low ≤ least → TicketsRise least ts → TicketsRise low ts
rise_lower low least [] below h = tt
rise_lower low least (t ∷ ts) below h = let up : least ≤ t = h.0 in (omega arith, h.1)

-- none is below the least
listed_least : (least t : ℕ) (ts : List ℕ) → TicketsRise least ts → IsListed t ts → least ≤ t
listed_least least t [] h there = absurd there
listed_least least t (x ∷ ts) h (inl is) = let up : least ≤ x = h.0 in omega arith
listed_least least t (x ∷ ts) h (inr later) =
    let up : least ≤ x = h.0 in
    let more : x + 1 ≤ t = listed_least (x + 1) t ts h.1 later in
    omega arith

-- what is at a place is listed
listed_at : (ts : List ℕ) (at d : ℕ) → at < length ts → IsListed (get_or ts at d) ts
listed_at [] at d within = absurd (omega (arith, within))
listed_at (t ∷ ts) zero d within = inl refl
listed_at (t ∷ ts) (suc at) d within = inr (listed_at ts at d (omega (arith, within)))

-- so they do not fall
pub rise_never_fall : (least : ℕ) (ts : List ℕ) → TicketsRise least ts → IsNonDecreasingBy (λ (t : ℕ). t) ts
rise_never_fall least [] h i j d below within = absurd (omega (arith, within))
rise_never_fall least (t ∷ ts) h zero zero d below within = omega arith
rise_never_fall least (t ∷ ts) h zero (suc j) d below within =
    let later : t + 1 ≤ get_or ts j d = listed_least (t + 1) (get_or ts j d) ts h.1 (listed_at ts j d (omega (arith, within))) in
    let here : get_or (t ∷ ts) zero d ≡ t = refl in
    let there : get_or (t ∷ ts) (suc j) d ≡ get_or ts j d = refl in
    omega (arith, here, there, later)
rise_never_fall least (t ∷ ts) h (suc i) zero d below within = absurd (omega (arith, below))
rise_never_fall least (t ∷ ts) h (suc i) (suc j) d below within = rise_never_fall (t + 1) ts h.1 i j d (omega (arith, below)) (omega (arith, within))

-- lists that rise and have the same tickets are one
pub same_tickets : (a b : ℕ) (xs ys : List ℕ) → TicketsRise a xs → TicketsRise b ys → StayListed xs ys → StayListed ys xs → xs ≡ ys
same_tickets a b [] [] hx hy there back = refl
same_tickets a b [] (y ∷ ys) hx hy there back = absurd (back y (inl refl))
same_tickets a b (x ∷ xs) [] hx hy there back = absurd (there x (inl refl))
same_tickets a b (x ∷ xs) (y ∷ ys) hx hy there back =
    let below : (z u : ℕ) (us : List ℕ) → TicketsRise (u + 1) us → IsListed z (u ∷ us) → u ≤ z =
    λ z u us rise is. listed_least u z (u ∷ us) (omega arith, rise) is in
    let one : y ≤ x = below x y ys hy.1 (there x (inl refl)) in
    let two : x ≤ y = below y x xs hx.1 (back y (inl refl)) in
    let same : x ≡ y = omega arith in
    let tail : (u v : ℕ) (us vs : List ℕ) → u ≡ v → TicketsRise (u + 1) us → StayListed (u ∷ us) (v ∷ vs) → StayListed us vs =
    λ u v us vs is rise keeps t listed.
    (elim (keeps t (inr listed)) [
      | inl here ↦ absurd (let up : u + 1 ≤ t = listed_least (u + 1) t us rise listed in omega arith)
      | inr later ↦ later
    ]) in
    ap (λ z. z ∷ xs) same ∙ ap (λ l. y ∷ l)
    (same_tickets (x + 1) (y + 1) xs ys hx.1 hy.1 (tail x y xs ys same hx.1 there) (tail y x ys xs (sym same) hy.1 back))

-- One ticket more.

-- put at its place it keeps them rising
pub put_rises : (least t : ℕ) (ts : List ℕ) (at : ℕ) → TicketsRise least ts → least ≤ t → at ≤ length ts
    → ((k d : ℕ) → k < at → get_or ts k d < t) → ((k d : ℕ) → at ≤ k → k < length ts → t < get_or ts k d)
    → TicketsRise least (take at ts ++ t ∷ drop at ts)
put_rises least t ts zero rise low within before behind = (low, first ts rise behind)
  where
    first : (us : List ℕ) → TicketsRise least us → ((k d : ℕ) → zero ≤ k → k < length us → t < get_or us k d) → TicketsRise (t + 1) us
    first [] rise behind = tt
    first (u ∷ us) rise behind = let up : t < u = behind zero u (omega arith) (omega arith) in (omega arith, rise.1)
put_rises least t [] (suc at) rise low within before behind = absurd (omega (arith, within))
put_rises least t (u ∷ us) (suc at) rise low within before behind =
    let up : u < t = before zero u (omega arith) in (
      rise.0,
      put_rises (u + 1) t us at rise.1 (omega arith) (omega (arith, within)) (λ k d below. before (suc k) d (omega (arith, below)))
          (λ k d above inside. behind (suc k) d (omega (arith, above)) (omega (arith, inside))),
    )

-- it and the others are listed then
pub put_lists : (t x : ℕ) (ts : List ℕ) (at : ℕ) → IsListed x (take at ts ++ t ∷ drop at ts) ↔ ((t ≡ x) ⊎ IsListed x ts)
put_lists t x ts zero = (λ h. h, λ h. h)
put_lists t x [] (suc at) = (λ h. h, λ h. h)
put_lists t x (u ∷ us) (suc at) =
    let rest = put_lists t x us at in (
      λ h. elim h [
        | inl is ↦ inr (inl is)
        | inr later ↦ elim (rest.0 later) [ inl is ↦ inl is | inr there ↦ inr (inr there) ]
      ],
      λ h. elim h [
        | inl is ↦ inr (rest.1 (inl is))
        | inr (inl is) ↦ inl is
        | inr (inr there) ↦ inr (rest.1 (inr there))
      ],
    )

-- Sessions.

pub running_rise : (time least next : ℕ) (es : List WorldSession) → NumbersRise time least next es → TicketsRise least (running_tickets es)
running_rise time least next [] h = tt
running_rise time least next (e ∷ es) h =
    let id = e.session.key.id in
    let up : least ≤ id = h.1 in
    let rest = running_rise time (id + 1) next es h.2 in
    elim (is_running e.session.status) as (λ b. TicketsRise least (cond b (id ∷ running_tickets es) (running_tickets es))) [
      | true ↦ (up, rest)
      | false ↦ rise_lower least (id + 1) (running_tickets es) (omega arith) rest
    ]

-- those that go on are listed
goes_listed : (es : List WorldSession) (t : ℕ) → GoesOn es t → IsListed t (running_tickets es)
goes_listed [] t g = absurd (cc g.1)
goes_listed (x ∷ es) t g =
    let id = x.session.key.id in
    let later : IsListed t (running_tickets es) → IsListed t (running_tickets (x ∷ es)) =
    λ h. elim (is_running x.session.status) as (λ b. IsListed t (cond b (id ∷ running_tickets es) (running_tickets es))) [
      | true ↦ inr h
      | false ↦ h
    ] in
    chosen (λ o. o ≡ Some g.0 → IsListed t (running_tickets (x ∷ es))) id t (Some x) (session_at t es)
    (λ same here.
    (let is : x ≡ g.0 = cc here in
    let runs : is_running x.session.status ≡ true = ap (λ (z : WorldSession). is_running z.session.status) is ∙ g.2 in
    subst (λ b. IsListed t (cond b (id ∷ running_tickets es) (running_tickets es))) (sym runs) (inl same)))
    (λ other there. later (goes_listed es t (g.0, there, g.2)))
    g.1

-- those that are listed go on
listed_goes : (time least next : ℕ) (es : List WorldSession) (t : ℕ) → NumbersRise time least next es → IsListed t (running_tickets es) → GoesOn es t
listed_goes time least next [] t rise there = absurd there
listed_goes time least next (x ∷ es) t rise there =
    let id = x.session.key.id in
    let behind : IsListed t (running_tickets es) → GoesOn (x ∷ es) t =
    λ h.
    (let g = listed_goes time (id + 1) next es t rise.2 h in
    let up : id + 1 ≤ t = listed_least (id + 1) t (running_tickets es) (running_rise time (id + 1) next es rise.2) h in
    (g.0, chosen (λ o. o ≡ Some g.0) id t (Some x) (session_at t es) (λ same. absurd (omega arith)) (λ other. g.1), g.2)) in
    let tell : (b : Bool) → is_running x.session.status ≡ b → IsListed t (cond b (id ∷ running_tickets es) (running_tickets es)) → GoesOn (x ∷ es) t =
    λ b. elim b as (λ b. is_running x.session.status ≡ b → IsListed t (cond b (id ∷ running_tickets es) (running_tickets es)) → GoesOn (x ∷ es) t) [
      | true ↦ λ runs h. elim h [
        | inl is ↦ (x, chosen (λ o. o ≡ Some x) id t (Some x) (session_at t es) (λ same. refl) (λ other. absurd (other is)), runs)
        | inr h ↦ behind h
      ]
      | false ↦ λ runs h. behind h
    ] in
    tell (is_running x.session.status) refl there

-- tickets that rise and are of just those that go on are the world's
pub all_running : (time next : ℕ) (es : List WorldSession) (ts : List ℕ) → NumbersRise time 1 next es → AreRunning es ts
    → ((t : ℕ) → GoesOn es t → IsListed t ts) → ts ≡ running_tickets es
all_running time next es ts rise are lists =
    same_tickets 0 1 ts (running_tickets es) are.rise (running_rise time 1 next es rise) (λ t h. goes_listed es t (are.go_on t h))
    (λ t h. lists t (listed_goes time 1 next es t rise h))

-- a world's sessions that go on keep their lanes
pub keep_lanes : {D : Type 0} (w : WorldView D) → IsWorld w → KeepLanes w.sessions w.bays
keep_lanes w h t g =
    let s = h.seated t g.0 g.1 in
    let id : g.0.session.key.id ≡ t = session_id t w.sessions g.0 g.1 in
    (s.at, s.bay, s.place, s.lane, s.bay_there, s.lane_there, s.holds (running_is g.0.session.status g.2) ∙ ap Some id)

-- A place among tickets.

-- a later ticket is the greater
later_rises : (least : ℕ) (ts : List ℕ) (i j d : ℕ) → TicketsRise least ts → i < j → j < length ts → get_or ts i d < get_or ts j d
later_rises least [] i j d rise below within = absurd (omega (arith, within))
later_rises least (t ∷ ts) i zero d rise below within = absurd (omega (arith, below))
later_rises least (t ∷ ts) zero (suc j) d rise below within =
    let later : t + 1 ≤ get_or ts j d = listed_least (t + 1) (get_or ts j d) ts rise.1 (listed_at ts j d (omega (arith, within))) in
    let here : get_or (t ∷ ts) zero d ≡ t = refl in
    let there : get_or (t ∷ ts) (suc j) d ≡ get_or ts j d = refl in
    omega (arith, here, there, later)
later_rises least (t ∷ ts) (suc i) (suc j) d rise below within = later_rises (t + 1) ts i j d rise.1 (omega (arith, below)) (omega (arith, within))

-- a ticket that is at a place is listed
pub stands_listed : (ts : List ℕ) (at t d : ℕ) → at < length ts → get_or ts at d ≡ t → IsListed t ts
stands_listed ts at t d within is = subst (λ n. IsListed n ts) is (listed_at ts at d within)

-- a ticket that is listed makes no list longer
pub listed_again : (ts : List ℕ) (t : ℕ) → IsListed t ts → (x : ℕ) → IsListed x ts ↔ ((t ≡ x) ⊎ IsListed x ts)
listed_again ts t there x = (
  λ h. inr h,
  λ h. elim h [
    | inl same ↦ subst (λ n. IsListed n ts) same there
    | inr other ↦ other
  ],
)

-- Results.

-- if the result is good, the two facts together
pub on_ok_both : {T E : Type 0} {P Q R : Type 0} (r : Result T E) → (P → Q → R) → OnOk r P → OnOk r Q → OnOk r R
on_ok_both (Ok x) f p q = f p q
on_ok_both (Err e) f p q = tt

-- Those that were listed.

-- one more is listed that goes on
pub running_more : (es : List WorldSession) (ts ts' : List ℕ) (ticket : ℕ) → AreRunning es ts → GoesOn es ticket → TicketsRise 0 ts'
    → ((t : ℕ) → IsListed t ts' ↔ ((ticket ≡ t) ⊎ IsListed t ts)) → AreRunning es ts'
running_more es ts ts' ticket are goes rise listed = record {
  rise = rise;
  go_on = λ t h. elim ((listed t).0 h) [
    | inl same ↦ subst (GoesOn es) same goes
    | inr there ↦ are.go_on t there
  ];
}

-- the holder of a lane is listed with its ticket
pub holder_listed : (es : List WorldSession) (holder : Option ℕ) (ticket : ℕ) (ts ts' : List ℕ) → holder ≡ Some ticket
    → ((t : ℕ) → IsListed t ts' ↔ ((ticket ≡ t) ⊎ IsListed t ts)) → ListsHolder es holder ts'
holder_listed es holder ticket ts ts' is listed t held goes =
    let same : ticket ≡ t = cc (sym is ∙ held) in (listed t).1 (inl same)

-- or it doesn't go on
pub holder_over : (es : List WorldSession) (holder : Option ℕ) (ticket : ℕ) (b : Bool) (ts : List ℕ) → holder ≡ Some ticket
    → (b ≡ true) ↔ GoesOn es ticket → b ≡ false → ListsHolder es holder ts
holder_over es holder ticket b ts is tells over t held goes =
    let same : t ≡ ticket = cc (sym held ∙ is) in
    let yes : b ≡ true = tells.1 (subst (GoesOn es) same goes) in
    absurd (let no : true ≡ false = sym yes ∙ over in cc no)

-- the holders of the first lanes are listed
abbrev pub ListsFirst : List WorldSession → List LaneView → ℕ → List ℕ → Type 0
ListsFirst es lanes n ts = (place : ℕ) (lane : LaneView) → place < n → slice_get lanes place ≡ Some lane → ListsHolder es lane.holder ts

-- so of one lane more
pub lists_next : (es : List WorldSession) (lanes : List LaneView) (n : ℕ) (read : LaneView) (ts ts' : List ℕ) → ListsFirst es lanes n ts → StayListed ts ts'
    → read ≡ get_or lanes n read → ListsHolder es read.holder ts' → ListsFirst es lanes (n + 1) ts'
lists_next es lanes n read ts ts' first stay is here place lane below there =
    elim (one_or_two place n) [
      | inl same ↦
          let one : read ≡ lane = is ∙ ap (λ k. get_or lanes k read) (sym same) ∙ get_or_from_slice_get lanes place lane read there in
          subst (λ (l : LaneView). ListsHolder es l.holder ts') one here
      | inr apart ↦ λ t held goes. stay t (first place lane (omega (arith, below, apart)) there t held goes)
    ]

-- the holders of the lanes of the first bays are listed
abbrev pub ListsBays : {D : Type 0} → List WorldSession → List (BayView D) → ℕ → List ℕ → Type 0
ListsBays {D} es bays n ts = (at : ℕ) (bay : BayView D) → at < n → slice_get bays at ≡ Some bay → ListsLanes es bay.lanes ts

-- so of one bay more
pub bays_next : {D : Type 0} (es : List WorldSession) (bays : List (BayView D)) (n : ℕ) (read : BayView D) (ts ts' : List ℕ) → ListsBays es bays n ts → StayListed ts ts'
    → read ≡ get_or bays n read → ListsLanes es read.lanes ts' → ListsBays es bays (n + 1) ts'
bays_next {D} es bays n read ts ts' first stay is here at bay below there =
    elim (one_or_two at n) [
      | inl same ↦
          let one : read ≡ bay = is ∙ ap (λ k. get_or bays k read) (sym same) ∙ get_or_from_slice_get bays at bay read there in
          subst (λ (b : BayView D). ListsLanes es b.lanes ts') one here
      | inr apart ↦ λ place lane stands t held goes. stay t (first at bay (omega (arith, below, apart)) there place lane stands t held goes)
    ]

-- those below a ticket end where it would go, if it isn't there
pub ends_below : (ts : List ℕ) (at t : ℕ) → TicketsRise 0 ts → at ≤ length ts → IsPartitionPoint (λ x. ltb x t ≡ true) (λ x. ltb x t ≡ false) ts at
    → ((d : ℕ) → at < length ts → get_or ts at d ≢ t) → EndsBelow ts t at
ends_below ts at t rise most point other = record {
  within = most;
  before = λ k d below. ltb-true (get_or ts k d) t (point.0 k d (omega arith) below);
  behind = λ k d above within.
      let here : t ≤ get_or ts at d = ltb-false (get_or ts at d) t (point.1 at d (omega arith) (omega (arith, above, within))) in
      let differs : get_or ts at d ≢ t = other d (omega (arith, above, within)) in
      elim (one_or_two at k) [
        | inl same ↦ subst (λ (n : ℕ). t < get_or ts n d) same (omega (arith, here, differs))
        | inr apart ↦ let more : get_or ts at d < get_or ts k d = later_rises 0 ts at k d rise (omega (arith, above, apart)) within in omega (arith, here, more)
      ];
}

-- whether a session goes on, as its status tells
pub goes_told : (es : List WorldSession) (t : ℕ) (e : WorldSession) (status : Status) (b : Bool) → session_at t es ≡ Some e → e.session.status ≡ status
    → is_running status ≡ b → (b ≡ true) ↔ GoesOn es t
goes_told es t e status b found is tells = (
  λ yes. (e, found, ap is_running is ∙ tells ∙ yes),
  λ g.
      let same : g.0 ≡ e = cc (sym g.1 ∙ found) in
      sym tells ∙ ap is_running (sym is) ∙ ap (λ (x : WorldSession). is_running x.session.status) (sym same) ∙ g.2,
)
