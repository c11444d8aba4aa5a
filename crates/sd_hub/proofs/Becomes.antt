-- A settled line becomes a world.
use Rattle.std.proofs.Common.{◌≡◌, ℕ, suc, ◌+◌, ◌≤◌, refl, sym, ap, subst, ◌∙◌, arith, Option, Some, List, [], ◌∷◌, ◌++◌, length, map, slice_get}
use Rattle.std.specs.List.Sorted.{IsNonDecreasingBy, IsPermutation}
use Rattle.atomic_table.specs.Seated.{TableId}
use Rattle.sd_base.specs.Limits.{most_lanes}
use Rattle.sd_driver.specs.Meaning.{Meaning}
use Rattle.sd_drive.specs.Receipt.{ReceiptIs}
use Rattle.sd_drive.specs.Shelf.{Kept}
use Rattle.sd_drive.specs.View.{DriveIs}
use Rattle.sd_lane.specs.Queue.{LanesView}
use Rattle.sd_line.specs.Side.{LineIs, SideIs}
use Rattle.sd_line.specs.Ends.{EndIs, IsOfLane, ToldSession}
use Rattle.sd_hub.specs.Settles.{CheckedIs, SettledIs, SettledLaneIs, Settles, SettlesNot, sessions_at, sessions_in, sessions_of, sessions_to}
use Rattle.sd_hub.specs.declared.fault.SettleFault.{SettleFault}
use Rattle.sd_hub.specs.Worlds.{BecomesWorld, SettlesEach, lane_sessions, lane_view, next_number, queue_view}
use Rattle.sd_hub.proofs.Entries.{moved_back}
use Rattle.sd_hub.proofs.Lines.{all_at, in_lane, sessions_are}
use Rattle.sd_hub.proofs.SettledWorlds.{settled_world}
use Rattle.sd_world.specs.Rules.{IsWorld}
use Rattle.sd_world.specs.World.{BayView, LaneView, WorldView}
use Rattle.sd_hub.specs.Claimed.{AreClaimed, ClaimsOwn}
use Rattle.sd_hub.specs.Machines.{MatchesTold}
use Rattle.sd_hub.specs.Tickets.{HaveTickets, LanesHaveTickets}

-- What a settled line says of its lanes and their sessions.
module _ {D : Type 0} (meaning : D → Meaning) (table : ℕ → TableId) (time : ℕ → ℕ) (c : CheckedIs D) (s : SettledIs D) (h : Settles meaning table time c s) where
  -- the numbers of the sessions are such as tickets have
  pub have_tickets : LanesHaveTickets s.lanes
  have_tickets at l there place x stands =
      let k = h.lanes_are at l there in
      let here : slice_get k.end.sessions place ≡ Some x = ap (λ (m : SettledLaneIs). slice_get m.sessions place) (sym k.lane_is) ∙ stands in
      let of = all_at (IsOfLane (time k.end.seat.no) k.end.seat.seat.lane) k.end.sessions place x k.keeps.of_lane here in
      (of.id_least, of.id_most)

  -- there are no more lanes than a drive may have
  pub lanes_most : length s.lanes ≤ most_lanes
  lanes_most =
      let many = h.count_is.1 in
      let most = h.keeps.lanes in
      omega (arith, many, most)

  -- their sessions are as many as were counted
  pub count_is : length (lane_sessions s.lanes) ≡ length (sessions_of c)
  count_is =
      let own = c.line.no in
      let at_ends : (at : ℕ) (l : SettledLaneIs) → slice_get s.lanes at ≡ Some l → sessions_at own (suc (0 + at)) c.ends ≡ l.sessions =
      λ at l there. (let k = h.lanes_are at l there in
      let e : suc (0 + at) ≡ suc at = omega arith in
      ap (λ (m : ℕ). sessions_at own m c.ends) e ∙ ap (λ (o : Option EndIs). sessions_in o) k.end_is ∙ sym (ap (λ (x : SettledLaneIs). x.sessions) k.lane_is)) in
      let many = h.count_is.1 in
      let none : 0 + length s.lanes ≡ c.side.seat.lanes = omega (arith, many) in
      ap length (sym (sessions_are own c.ends 0 s.lanes at_ends)) ∙ ap (λ (m : ℕ). length (sessions_to own m c.ends)) none

-- the sessions of all lanes, in any order, have tickets
pub all_have : (lanes : List SettledLaneIs) (told : List ToldSession) → LanesHaveTickets lanes → IsPermutation (lane_sessions lanes) told → HaveTickets told
all_have lanes told have all at s there =
    let back = moved_back (lane_sessions lanes) told at s all there in
    let i = in_lane lanes back.0 s back.1 in
    have i.at i.lane i.there i.place s i.stands

-- one after none is alone
pub alone : {A : Type 0} (all none : List A) (x : A) → all ≡ none ++ x ∷ [] → none ≡ [] → all ≡ x ∷ []
alone all none x is empty = is ∙ ap (λ xs. xs ++ x ∷ []) empty

-- The world of these parts is that of the settled line.
pub becomes : {D : Type 0} (settled : SettledIs D) (sessions told : List ToldSession) (w : WorldView D) (media : List ℕ) (slots : List LaneView)
    → sessions ≡ lane_sessions settled.lanes → IsPermutation sessions told → IsNonDecreasingBy (λ (s : ToldSession). s.session.key.id) told
    → SettlesEach settled.drive.journal told w.sessions → w.next ≡ next_number told → w.limits ≡ settled.drive.limits → w.queue ≡ settled.queue.capacity
    → w.bays ≡ record { media = media; drive = Some settled.drive; lanes = slots; queue = queue_view settled.queue } ∷ [] → media ≡ settled.drive.media
    → slots ≡ map lane_view settled.lanes
    → AreClaimed settled.drive.volumes w.desk → BecomesWorld settled told w
becomes {D} settled sessions told w media slots all moved rise each next limits queue bays same lanes claimed = record {
  limits_are = limits;
  queue_is = queue;
  all = subst (λ (ss : List ToldSession). IsPermutation ss told) all moved;
  rise = rise;
  sessions = each;
  next_is = next;
  bays_are = bays
      ∙ ap (λ (m : List ℕ). let b : BayView D = record { media = m; drive = Some settled.drive; lanes = slots; queue = queue_view settled.queue } in b ∷ []) same
      ∙ ap (λ (ls : List LaneView). let b : BayView D = record { media = settled.drive.media; drive = Some settled.drive; lanes = ls; queue = queue_view settled.queue } in b ∷ []) lanes;
  claims = claimed.claims;
  unpurged = claimed.unpurged;
  none_asked = claimed.none_asked;
}

-- a world of one drive, with the claims of its volumes
pub claims_own : {D : Type 0} (w : WorldView D) (d : DriveIs D) (media : List ℕ) (slots : List LaneView) (queue : LanesView)
    → w.bays ≡ record { media = media; drive = Some d; lanes = slots; queue = queue } ∷ [] → AreClaimed d.volumes w.desk → ClaimsOwn w
claims_own {D} w d media slots queue bays claimed bay e there online =
    let own : BayView D = record { media = media; drive = Some d; lanes = slots; queue = queue } in
    let first : own ≡ bay = cc (sym (ap (λ (bs : List (BayView D)). slice_get bs 0) bays) ∙ there) in
    let same : d ≡ e = cc (ap (λ (b : BayView D). b.drive) first ∙ online) in
    subst (λ (x : DriveIs D). AreClaimed x.volumes w.desk) same claimed

-- Such a world keeps what every world keeps; and it is that of the line, if the line was checked.
module _ {D : Type 0} (meaning : D → Meaning) (table : ℕ → TableId) (time : ℕ → ℕ) (c : CheckedIs D) (s : SettledIs D) (told : List ToldSession) (w : WorldView D)
    (h : Settles meaning table time c s) (b : BecomesWorld s told w) where
  pub world_rules : Kept (meaning s.drive.device) s.drive.volumes s.drive.loaded s.drive.journal → IsWorld w
  world_rules kept = (settled_world meaning table time c s told w h kept b).0.rules

  pub settled_from : Kept (meaning s.drive.device) s.drive.volumes s.drive.loaded s.drive.journal → MatchesTold meaning table time c.line c.ends c.receipts w
  settled_from kept = (
    record { checked = c; settled = s; told = told; line_is = refl; ends_are = refl; receipts_are = refl; settles = h; becomes = b },
    (settled_world meaning table time c s told w h kept b).1,
  )

-- it is that of the line that was handed in
pub from_line : {D : Type 0} (meaning : D → Meaning) (table : ℕ → TableId) (time : ℕ → ℕ) (l line : LineIs) (es ends : List EndIs) (rs receipts : List ReceiptIs) (w : WorldView D)
    → l ≡ line → es ≡ ends → rs ≡ receipts → MatchesTold meaning table time l es rs w → MatchesTold meaning table time line ends receipts w
from_line meaning table time l line es ends rs receipts w same same' same'' (from, matches) = (
  record {
    checked = from.checked;
    settled = from.settled;
    told = from.told;
    line_is = from.line_is ∙ same;
    ends_are = from.ends_are ∙ same';
    receipts_are = from.receipts_are ∙ same'';
    settles = from.settles;
    becomes = from.becomes;
  },
  matches,
)

-- and what comes back is what was handed in, with the fault of that line
pub comes_back : {D : Type 0} (meaning : D → Meaning) (table : ℕ → TableId) (time : ℕ → ℕ) (back l line : LineIs) (side : SideIs D) (left es ends : List EndIs) (rs receipts others : List ReceiptIs)
    (fault : SettleFault) → l ≡ line → es ≡ ends → rs ≡ receipts → back ≡ l → left ≡ es → SettlesNot meaning table time l side es rs fault others
    → (back ≡ line) × (left ≡ ends) × SettlesNot meaning table time line side ends receipts fault others
comes_back meaning table time back l line side left es ends rs receipts others fault same same' same'' is is' why = (
  is ∙ same,
  is' ∙ same',
  subst (λ (x : LineIs). SettlesNot meaning table time x side ends receipts fault others) same
      (subst (λ (xs : List EndIs). SettlesNot meaning table time l side xs receipts fault others) same'
      (subst (λ (xs : List ReceiptIs). SettlesNot meaning table time l side es xs fault others) same'' why)),
)
