-- The bay and the lane that an open reaches, as they were read.
use Rattle.std.proofs.Common.{◌≡◌, ◌≤◌, ℕ, ℤ, ◌+◌, ◌-◌, ◌<◌, sym, ap, subst, ◌∙◌, arith, count_by, not, List, length, Some, None, get_or, slice_get}
use Rattle.std.specs.Prelude.{IsTrue}
use Rattle.std.proofs.lemmas.Option.{get_or_from_slice_get, slice_get_within}
use Rattle.sd_base.specs.Choice.{FirstOf}
use Rattle.sd_base.specs.Limits.{most_lanes}
use Rattle.sd_drive.specs.View.{DriveIs}
use Rattle.sd_journal.specs.Journal.{Entry}
use Rattle.sd_reserve.specs.Reserve.{IsCandidate, Precedes}
use Rattle.sd_session.specs.declared.opening.Opening.{Opening}
use Rattle.sd_world.specs.World.{WorldView, WorldSession, BayView, LaneView, drives_for, free_lanes}
use Rattle.sd_world.specs.Rules.{IsWorld}
use Rattle.sd_world.specs.Sessions.{Reserves, opening_for}
use Rattle.sd_events.specs.Opening.{CanTakeStore, OpensAt}
use Rattle.sd_events.proofs.Chosen.{IsChosen, is_chosen}
use Rattle.sd_events.proofs.Stores.{IsFree, is_free, can_take}

-- the first of the drives that may take the session
abbrev pub IsFirst : {D : Type 0} → WorldView D → List ℕ → List ℕ → ℕ → Type 0
IsFirst w pool media at = FirstOf (IsCandidate pool media) (Precedes pool) (drives_for w) at

-- The place of the drive that was chosen.
pub record IsReached {D : Type 0} (w : WorldView D) (pool media : List ℕ) (drive at : ℕ) : Type 0 where
  pub number_is : drive ≡ at + 1
  pub first : IsFirst w pool media at
  pub chosen : IsChosen w at
  pub within : at < length w.bays

pub reached : {D : Type 0} (w : WorldView D) (pool media : List ℕ) (drive at : ℕ) → drive ≡ at + 1
    → (place : ℕ) × (drive ≡ place + 1) × IsFirst w pool media place → IsReached w pool media drive at
reached w pool media drive at is told =
    let same : told.0 ≡ at = omega (arith, is, told.1) in
    let first = subst (IsFirst w pool media) same told.2 in
    let chosen = is_chosen w pool media at first in
    record { number_is = is; first = first; chosen = chosen; within = slice_get_within w.bays at chosen.bay chosen.there }

-- Its bay, as it was read there.
pub record IsBayRead {D : Type 0} (w : WorldView D) (pool media : List ℕ) (drive at : ℕ) (bay : BayView D) : Type 0 where
  pub world : IsWorld w
  pub reached : IsReached w pool media drive at
  pub there : slice_get w.bays at ≡ Some bay
  pub same : reached.chosen.bay ≡ bay

pub bay_reached : {D : Type 0} (w : WorldView D) (pool media : List ℕ) (drive at : ℕ) (bay read : BayView D) → IsWorld w → drive ≡ at + 1
    → (place : ℕ) × (drive ≡ place + 1) × IsFirst w pool media place → read ≡ get_or w.bays at read → bay ≡ read → IsBayRead w pool media drive at bay
bay_reached w pool media drive at bay read world is told stands alike =
    let r = reached w pool media drive at is told in
    let same = sym (alike ∙ stands ∙ get_or_from_slice_get w.bays at r.chosen.bay read r.chosen.there) in
    record { world = world; reached = r; there = r.chosen.there ∙ ap Some same; same = same }

-- its drive is online
pub never_offline : {D : Type 0} {w : WorldView D} {pool media : List ℕ} {drive at : ℕ} {bay : BayView D} → IsBayRead w pool media drive at bay → bay.drive ≡ None → ⊥
never_offline {D} b off = absurd (cc (sym b.reached.chosen.on ∙ ap (λ (x : BayView D). x.drive) b.same ∙ off))

-- its lanes are few
pub lanes_few : {D : Type 0} {w : WorldView D} {pool media : List ℕ} {drive at : ℕ} {bay : BayView D} (lanes : List LaneView) → IsBayRead w pool media drive at bay
    → lanes ≡ bay.lanes → length lanes ≤ most_lanes
lanes_few {at = at} {bay = bay} lanes b had = subst (λ (ls : List LaneView). length ls ≤ most_lanes) (sym had) (b.world.bays at bay b.there).lanes_most

-- and not all of them are busy
pub some_free : {D : Type 0} {w : WorldView D} {pool media : List ℕ} {drive at : ℕ} {bay : BayView D} (d : DriveIs D) (sessions : List WorldSession) (lanes : List LaneView)
    → IsBayRead w pool media drive at bay → bay.drive ≡ Some d → sessions ≡ w.sessions → lanes ≡ bay.lanes
    → count_by not (free_lanes sessions d.journal lanes) < length lanes
some_free {D} {w = w} {bay = bay} d sessions lanes b on had laned =
    let c = b.reached.chosen in
    let one : c.d ≡ d = cc (sym c.on ∙ ap (λ (x : BayView D). x.drive) b.same ∙ on) in
    let here : count_by not (free_lanes w.sessions d.journal c.bay.lanes) < length c.bay.lanes = subst (λ (x : DriveIs D). count_by not (free_lanes w.sessions x.journal c.bay.lanes) < length c.bay.lanes) one c.free in
    subst (λ (es : List WorldSession). count_by not (free_lanes es d.journal lanes) < length lanes) (sym had)
    (subst (λ (ls : List LaneView). count_by not (free_lanes w.sessions d.journal ls) < length ls) (ap (λ (x : BayView D). x.lanes) b.same ∙ sym laned) here)

-- The lane that was chosen, at its place.
pub record IsLowest (sessions : List WorldSession) (journal : List Entry) (lanes : List LaneView) (number place : ℕ) : Type 0 where
  pub number_is : number ≡ place + 1
  pub lowest : FirstOf IsTrue (λ _ _. ⊥) (free_lanes sessions journal lanes) place
  pub free : IsFree sessions journal lanes place
  pub within : place < length lanes

pub is_lowest : (sessions es : List WorldSession) (journal : List Entry) (lanes ls : List LaneView) (number got : ℕ) → es ≡ sessions → ls ≡ lanes → got ≡ number
    → (place : ℕ) × (number ≡ place + 1) × FirstOf IsTrue (λ _ _. ⊥) (free_lanes es journal ls) place → IsLowest sessions journal lanes number (got - 1)
is_lowest sessions es journal lanes ls number got had laned is told =
    let same : told.0 ≡ got - 1 = omega (arith, is, told.1) in
    let read = subst (λ n. FirstOf IsTrue (λ _ _. ⊥) (free_lanes es journal ls) n) same told.2 in
    let half = subst (λ (x : List WorldSession). FirstOf IsTrue (λ _ _. ⊥) (free_lanes x journal ls) (got - 1)) had read in
    let lowest = subst (λ (x : List LaneView). FirstOf IsTrue (λ _ _. ⊥) (free_lanes sessions journal x) (got - 1)) laned half in
    let free = is_free sessions journal lanes (got - 1) lowest in
    record { number_is = omega (arith, is, told.1); lowest = lowest; free = free; within = slice_get_within lanes (got - 1) free.lane free.there }

-- The lane that was chosen of its lanes, as it was read.
pub record IsLaneRead {D : Type 0} (w : WorldView D) (pool media : List ℕ) (drive at place number : ℕ) (bay : BayView D) (d : DriveIs D) (read : LaneView) : Type 0 where
  pub number_is : number ≡ place + 1
  pub reserves : Reserves w pool media drive at place bay d read
  pub can_take : CanTakeStore read w.sessions

pub lane_reached : {D : Type 0} {w : WorldView D} {pool media : List ℕ} {drive at : ℕ} {bay : BayView D} (d : DriveIs D) (es : List WorldSession) (ls : List LaneView) (number got : ℕ) (read : LaneView)
    → IsBayRead w pool media drive at bay → bay.drive ≡ Some d → es ≡ w.sessions → ls ≡ bay.lanes → got ≡ number
    → (place : ℕ) × (number ≡ place + 1) × FirstOf IsTrue (λ _ _. ⊥) (free_lanes es d.journal ls) place → read ≡ get_or bay.lanes (got - 1) read
    → IsLaneRead w pool media drive at (got - 1) number bay d read
lane_reached {w = w} {at = at} {bay = bay} d es ls number got read b on had laned is told stands =
    let l = is_lowest w.sessions es d.journal bay.lanes ls number got had laned is told in
    let lane = l.free.lane in
    let same : lane ≡ read = sym (stands ∙ get_or_from_slice_get bay.lanes (got - 1) lane read l.free.there) in
    let i = (b.world.bays at bay b.there).lanes (got - 1) lane l.free.there in
    record {
      number_is = l.number_is;
      reserves = record {
        online = record { number = b.reached.number_is; there = b.there; online = on };
        chosen = b.reached.first;
        lowest = l.lowest;
        lane_there = l.free.there ∙ ap Some same;
      };
      can_take = subst (λ (x : LaneView). CanTakeStore x w.sessions) same (can_take w.sessions d.journal (at + 1) (got - 1) lane i l.free.free);
    }

-- what it begins with
pub opens_with : {D : Type 0} (w : WorldView D) (place job : ℕ) (pool media : List ℕ) (moment said : ℤ) (id number ticket drive : ℕ) (lane after : LaneView) (es : List WorldSession) (d d' : DriveIs D)
    → id ≡ w.next → number ≡ place + 1
    → OpensAt w.limits ticket drive (record { key = record { time = w.limits.time; id = id }; lane = number; job = job; pool = pool; media = media; moment = said }) lane w.sessions d after es d'
    → said ≡ moment → OpensAt w.limits ticket drive (opening_for w place job pool media moment) lane w.sessions d after es d'
opens_with w place job pool media moment said id number ticket drive lane after es d d' next is o same =
    let begun : ℕ → ℕ → ℤ → Opening = λ i n m. record { key = record { time = w.limits.time; id = i }; lane = n; job = job; pool = pool; media = media; moment = m } in
    subst (λ (x : Opening). OpensAt w.limits ticket drive x lane w.sessions d after es d')
    (ap (λ i. begun i number said) next ∙ ap (λ n. begun w.next n said) is ∙ ap (begun w.next (place + 1)) same) o
