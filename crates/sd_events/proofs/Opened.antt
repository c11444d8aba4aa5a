-- What is done by a drive's lane is done to the world: a session is opened, or it isn't.
use Rattle.std.proofs.Common.{◌≡◌, ℕ, ℤ, ◌+◌, ◌≤◌, sym, ap, subst, ◌∙◌, inl, inr, List, [], ◌∷◌, ◌++◌, Option, Some, slice_get, slice_set, arith}
use Rattle.sd_base.specs.Limits.{most_number}
use Rattle.sd_base.specs.declared.refusal.Refusal.{Refusal}
use Rattle.sd_drive.specs.View.{DriveIs}
use Rattle.sd_journal.specs.Journal.{with_key}
use Rattle.sd_world.specs.World.{WorldView, WorldSession, BayView, LaneView}
use Rattle.sd_world.specs.Rules.{NumbersRise}
use Rattle.sd_world.specs.Sessions.{Reserves, OpensSession, OpenRefused, next_key, opening_for}
use Rattle.sd_events.specs.Opening.{OpensAt, OpensNotAt, StartsNot}
use Rattle.sd_world.proofs.Lookups.{set_same}

-- the next number is at least the first
pub next_least : (time least next : ℕ) (es : List WorldSession) → NumbersRise time least next es → least ≤ next
next_least time least next [] rise = rise
next_least time least next (e ∷ es) rise =
    let here : least ≤ e.session.key.id = rise.1 in
    let later : e.session.key.id + 1 ≤ next = next_least time (e.session.key.id + 1) next es rise.2 in
    omega arith

-- the world with other sessions, and in the bay at a place another drive and another lane
abbrev pub with_lane : {D : Type 0} → ℕ → ℕ → BayView D → DriveIs D → LaneView → List WorldSession → WorldView D → WorldView D
with_lane at place bay d lane sessions w = record w {
  sessions = sessions;
  bays = slice_set w.bays at (record bay { drive = Some d; lanes = slice_set bay.lanes place lane });
}

-- the bay with its own drive
own_drive : {D : Type 0} (w : WorldView D) (at place : ℕ) (bay : BayView D) (d : DriveIs D) (lane : LaneView) (es : List WorldSession) → bay.drive ≡ Some d
    → with_lane at place bay d lane es w ≡ record w { sessions = es; bays = slice_set w.bays at (record bay { lanes = slice_set bay.lanes place lane }) }
own_drive {D} w at place bay d lane es on =
    ap (λ (o : Option (DriveIs D)). record w { sessions = es; bays = slice_set w.bays at (record bay { drive = o; lanes = slice_set bay.lanes place lane }) }) (sym on)

pub opened : {D : Type 0} {w : WorldView D} {pool media : List ℕ} {drive at place : ℕ} {bay : BayView D} {d : DriveIs D} {lane : LaneView} (job : ℕ) (moment : ℤ) (ticket : ℕ) (d' : DriveIs D) (lane' : LaneView) (es' : List WorldSession)
    → w.next ≤ most_number → ticket ≡ w.next → Reserves w pool media drive at place bay d lane
    → OpensAt w.limits ticket drive (opening_for w place job pool media moment) lane w.sessions d lane' es' d'
    → OpensSession w job pool media moment ticket drive (record (with_lane at place bay d' lane' es' w) { next = w.next + 1 })
opened {D} {w = w} {pool = pool} {drive = drive} {at = at} {place = place} {bay = bay} {d = d} {lane = lane} job moment ticket d' lane' es' left is reserves o = record {
  number_left = left;
  ticket_is = is;
  at = at;
  place = place;
  bay = bay;
  d = d;
  lane = lane;
  reserves = reserves;
  store = o.starts.store;
  sessions = o.sessions;
  takes = o.starts.takes;
  session = o.session;
  starts = o.starts.starts;
  new_is =
      ap (λ (es : List WorldSession). record (with_lane at place bay d' lane' es w) { next = w.next + 1 }) o.new_is
      ∙ ap (λ (x : DriveIs D). record (with_lane at place bay x lane' (o.sessions ++ record { session = o.session; drive = drive } ∷ []) w) { next = w.next + 1 }) o.drive_is
      ∙ ap (λ (l : LaneView). record (with_lane at place bay (record d { pool = Some pool; ready = with_key (next_key w) d.ready }) l (o.sessions ++ record { session = o.session; drive = drive } ∷ []) w) { next = w.next + 1 }) o.starts.lane_is;
}

-- a session isn't opened since it doesn't start, for which room was made
starts_not : {D : Type 0} (w : WorldView D) (pool media : List ℕ) (why : Refusal) (drive at place : ℕ) (bay : BayView D) (d : DriveIs D) (lane lane' : LaneView) (es' : List WorldSession)
    → w.next ≤ most_number → Reserves w pool media drive at place bay d lane → StartsNot w.limits lane w.sessions why lane' es'
    → OpenRefused w pool media why (with_lane at place bay (record d { ready = with_key (next_key w) d.ready }) lane' es' w)
starts_not {D} w pool media why drive at place bay d lane lane' es' left reserves s =
    inr (inr (inl (
      left,
      record {
        drive = drive;
        at = at;
        place = place;
        bay = bay;
        d = d;
        lane = lane;
        reserves = reserves;
        before = s.store;
        after = s.store';
        cause = s.cause;
        sessions = es';
        takes = s.takes;
        new_is = ap (λ (l : LaneView). with_lane at place bay (record d { ready = with_key (next_key w) d.ready }) l es' w) s.lane_is;
      },
    )))

-- the world with nothing changed
nothing_changed : {D : Type 0} (w : WorldView D) (at place : ℕ) (bay : BayView D) (d : DriveIs D) (lane lane' : LaneView) (es' : List WorldSession)
    → slice_get w.bays at ≡ Some bay → bay.drive ≡ Some d → slice_get bay.lanes place ≡ Some lane → lane' ≡ lane → es' ≡ w.sessions
    → with_lane at place bay d lane' es' w ≡ w
nothing_changed {D} w at place bay d lane lane' es' there on stands same stay =
    own_drive w at place bay d lane' es' on
    ∙ ap (λ (es : List WorldSession). record w { sessions = es; bays = slice_set w.bays at (record bay { lanes = slice_set bay.lanes place lane' }) }) stay
    ∙ ap (λ (ls : List LaneView). record w { bays = slice_set w.bays at (record bay { lanes = ls }) }) (ap (slice_set bay.lanes place) same ∙ set_same bay.lanes place lane stands)
    ∙ ap (λ (bs : List (BayView D)). record w { bays = bs }) (set_same w.bays at bay there)

pub not_opened : {D : Type 0} {w : WorldView D} {pool media : List ℕ} {drive at place : ℕ} {bay : BayView D} {d : DriveIs D} {lane : LaneView} (why : Refusal) (d' : DriveIs D) (lane' : LaneView) (es' : List WorldSession)
    → w.next ≤ most_number → Reserves w pool media drive at place bay d lane → OpensNotAt w.limits (next_key w) lane w.sessions d why lane' es' d'
    → OpenRefused w pool media why (with_lane at place bay d' lane' es' w)
not_opened {D} {w = w} {pool = pool} {media = media} {drive = drive} {at = at} {place = place} {bay = bay} {d = d} {lane = lane} why d' lane' es' left reserves (inl none) =
    subst (λ (x : DriveIs D). OpenRefused w pool media why (with_lane at place bay x lane' es' w)) (sym none.3)
    (inr (inr (inr (
      left,
      none.0,
      at,
      reserves.chosen,
      nothing_changed w at place bay d lane lane' es' reserves.online.there reserves.online.online reserves.lane_there none.1 none.2,
    ))))
not_opened {D} {w = w} {pool = pool} {media = media} {drive = drive} {at = at} {place = place} {bay = bay} {d = d} {lane = lane} why d' lane' es' left reserves (inr not) =
    subst (λ (x : DriveIs D). OpenRefused w pool media why (with_lane at place bay x lane' es' w)) (sym not.1)
    (starts_not w pool media why drive at place bay d lane lane' es' left reserves not.0)
