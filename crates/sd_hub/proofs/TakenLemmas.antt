-- A line that is taken apart, end after end.
use Rattle.std.proofs.Common.{◌≡◌, ◌≢◌, ℕ, zero, suc, ◌+◌, eq-eqb, ne_eqb, if◌then◌else◌, refl, sym, ap, ◌∙◌, inl, inr, arith, Some, List, [], ◌∷◌, ◌++◌, length, slice_get}
use Rattle.std.proofs.lemmas.Bool.{cases_lt}
use Rattle.std.proofs.lemmas.List.{length_push}
use Rattle.std.proofs.lemmas.Option.{slice_get_within}
use Rattle.atomic_table.specs.Seated.{TableId}
use Rattle.sd_base.proofs.ChoiceLemmas.{same_some}
use Rattle.sd_driver.specs.Meaning.{Meaning}
use Rattle.sd_drive.proofs.Places.{get_front}
use Rattle.sd_lane.specs.Queue.{AreOfLanes, LanesFollow}
use Rattle.sd_line.specs.Side.{KeepsSide}
use Rattle.sd_line.specs.Ends.{EndIs, KeepsEnd}
use Rattle.sd_ruled.specs.Seats.{AreSeats, LaneSeatIs, RuledView, sent_by}
use Rattle.sd_hub.specs.Settles.{AreTaken, CheckedIs, IsTaken, LaneSettles, Passes, SettledIs, SettledLaneIs, Settles, end_at, lane_of}
use Rattle.sd_hub.proofs.EndLemmas.{found_is, lane_is}

-- One lane more.

get_last : {A : Type 0} (xs : List A) (x : A) (at : ℕ) → length xs ≡ at → slice_get (xs ++ x ∷ []) at ≡ Some x
get_last [] x zero long = refl
get_last [] x (suc at) long = absurd (omega arith)
get_last (y ∷ xs) x zero long = absurd (omega arith)
get_last (y ∷ xs) x (suc at) long = get_last xs x at (omega arith)

module _ (table : ℕ → TableId) (time : ℕ → ℕ) (own : ℕ) (ends : List EndIs) where
  pub none_taken : (seats : List LaneSeatIs) (lanes : List SettledLaneIs) → seats ≡ [] → lanes ≡ [] → AreTaken table time own 0 ends seats lanes
  none_taken seats lanes none none' = record { seats_are = ap length none; lanes_are = ap length none'; each = λ at below. absurd (omega arith) }

  -- what was taken stays taken if other lanes follow it
  still_taken : (seats : List LaneSeatIs) (lanes : List SettledLaneIs) (seat : LaneSeatIs) (lane : SettledLaneIs) (at : ℕ) → IsTaken table time own ends seats lanes at
      → IsTaken table time own ends (seats ++ seat ∷ []) (lanes ++ lane ∷ []) at
  still_taken seats lanes seat lane at t = record {
    end = t.end;
    end_is = t.end_is;
    here = t.here;
    keeps = t.keeps;
    seat_is = get_front seats (seat ∷ []) at t.end.seat.seat t.seat_is;
    lane_is = get_front lanes (lane ∷ []) at (lane_of t.end) t.lane_is;
  }

  pub taken_more : (count : ℕ) (seats : List LaneSeatIs) (lanes : List SettledLaneIs) (seat : LaneSeatIs) (lane : SettledLaneIs) (e : EndIs) → AreTaken table time own count ends seats lanes
      → end_at own (count + 1) ends ≡ Some e → e.seat.seat.table ≡ table own → KeepsEnd time e → seat ≡ e.seat.seat → lane ≡ lane_of e
      → AreTaken table time own (count + 1) ends (seats ++ seat ∷ []) (lanes ++ lane ∷ [])
  taken_more count seats lanes seat lane e taken found here keeps seat_is lane_is = record {
    seats_are = length_push seats seat ∙ ap (λ n. n + 1) taken.seats_are;
    lanes_are = length_push lanes lane ∙ ap (λ n. n + 1) taken.lanes_are;
    each = λ at below. elim (cases_lt at count) [
      | inl before ↦ still_taken seats lanes seat lane at (taken.each at before)
      | inr last ↦ (let at_end : count ≡ at = omega arith in
          let next : count + 1 ≡ suc at = omega arith in
          record {
            end = e;
            end_is = ap (λ (n : ℕ). end_at own n ends) (sym next) ∙ found;
            here = here;
            keeps = keeps;
            seat_is = get_last seats seat at (taken.seats_are ∙ at_end) ∙ ap Some seat_is;
            lane_is = get_last lanes lane at (taken.lanes_are ∙ at_end) ∙ ap Some lane_is;
          })
    ];
  }

  -- The seats that were taken are those of the line's queue.
  pub taken_seats : (count : ℕ) (seats : List LaneSeatIs) (lanes : List SettledLaneIs) (here : TableId) → AreTaken table time own count ends seats lanes → table own ≡ here → AreSeats here seats
  taken_seats count seats lanes here taken same at seat there =
      let within = slice_get_within seats at seat there in
      let long = taken.seats_are in
      let t = taken.each at (omega (arith, within, long)) in
      let is : t.end.seat.seat ≡ seat = same_some (sym t.seat_is ∙ there) in (
        ap (λ (s : LaneSeatIs). s.table) (sym is) ∙ (t.here ∙ same),
        ap (λ (s : LaneSeatIs). s.lane) (sym is) ∙ lane_is own (suc at) t.end (found_is own (suc at) ends t.end t.end_is),
      )

-- What a lane sent, by the seats of all.

-- the seats are those of the lanes after this one, in order
abbrev FollowOn : ℕ → List LaneSeatIs → Type 0
FollowOn lane seats = (k : ℕ) (s : LaneSeatIs) → slice_get seats k ≡ Some s → s.lane ≡ suc (lane + k)

own_sent : (lane : ℕ) (seats : List LaneSeatIs) (at : ℕ) (seat : LaneSeatIs) → FollowOn lane seats → slice_get seats at ≡ Some seat → sent_by seats seat.lane ≡ seat.sent
own_sent lane [] at seat follow there = absurd (cc there)
own_sent lane (x ∷ seats) zero seat follow there =
    let same : x ≡ seat = cc there in
    ap (λ b. if b then x.sent else sent_by seats seat.lane) (eq-eqb x.lane seat.lane (ap (λ (s : LaneSeatIs). s.lane) same)) ∙ ap (λ (s : LaneSeatIs). s.sent) same
own_sent lane (x ∷ seats) (suc at) seat follow there =
    let first = follow zero x refl in
    let own = follow (suc at) seat there in
    let apart : x.lane ≢ seat.lane = λ e. absurd (omega (arith, first, own, e)) in
    ap (λ b. if b then x.sent else sent_by seats seat.lane) (ne_eqb x.lane seat.lane apart)
    ∙ own_sent (lane + 1) seats at seat (λ k s stands. (let h = follow (suc k) s stands in omega (arith, h))) there

seat_sent : (table : TableId) (seats : List LaneSeatIs) (at : ℕ) (seat : LaneSeatIs) → AreSeats table seats → slice_get seats at ≡ Some seat → sent_by seats (suc at) ≡ seat.sent
seat_sent table seats at seat are there =
    ap (sent_by seats) (sym (are at seat there).1)
    ∙ own_sent 0 seats at seat (λ k s stands. (let h = (are k s stands).1 in omega (arith, h))) there

-- What holds once all is taken apart.

lane_settles : (table : ℕ → TableId) (time : ℕ → ℕ) (own count : ℕ) (here : TableId) (ends : List EndIs) (seats : List LaneSeatIs) (lanes : List SettledLaneIs) (queue : RuledView)
    → AreTaken table time own count ends seats lanes → AreSeats here seats → LanesFollow (λ lane. sent_by seats lane) queue.taken queue.held
    → (at : ℕ) (lane : SettledLaneIs) → slice_get lanes at ≡ Some lane → LaneSettles time own ends queue at lane
lane_settles table time own count here ends seats lanes queue taken are follow at lane there =
    let within = slice_get_within lanes at lane there in
    let long = taken.lanes_are in
    let t = taken.each at (omega (arith, within, long)) in
    record {
      end = t.end;
      end_is = t.end_is;
      keeps = t.keeps;
      lane_is = same_some (sym there ∙ t.lane_is);
      follows = sym (follow (suc at)) ∙ seat_sent here seats at t.end.seat.seat are t.seat_is;
    }

pub settles : {D : Type 0} (meaning : D → Meaning) (table : ℕ → TableId) (time : ℕ → ℕ) (c : CheckedIs D) (count : ℕ) (seats : List LaneSeatIs) (s : SettledIs D)
    → Passes c → KeepsSide meaning table time c.side → s.drive ≡ c.side.drive → s.queue.taken ≡ c.side.seat.taken
    → (s.queue.table ≡ c.line.queue.table) × (s.queue.capacity ≡ c.line.queue.capacity) → s.queue.lanes ≡ c.side.seat.lanes → count ≡ c.side.seat.lanes
    → AreOfLanes s.queue.lanes (s.queue.taken ++ s.queue.held) → AreTaken table time c.line.no count c.ends seats s.lanes → AreSeats c.line.queue.table seats
    → LanesFollow (λ lane. sent_by seats lane) s.queue.taken s.queue.held → Settles meaning table time c s
settles meaning table time c count seats s passes keeps drive took queue lanes many of_lanes taken are follow = record {
  passes = passes;
  keeps = keeps;
  drive_is = drive;
  taken_is = took;
  queue_is = queue;
  count_is = (lanes, taken.lanes_are ∙ many);
  of_lanes = of_lanes;
  lanes_are = lane_settles table time c.line.no count c.line.queue.table c.ends seats s.lanes s.queue taken are follow;
}
