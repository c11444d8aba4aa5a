-- Lanes and those who hold them: a session that goes on keeps its lane busy.
use Rattle.std.proofs.Common.{◌≡◌, ◌≢◌, ℕ, zero, suc, ◌≤◌, ◌==◌, refl, sym, ap, subst, ◌∙◌, arith, inl, inr, true, false, true≢false, Bool, cond, not, Option, Some, List, [], ◌∷◌, count_by, slice_get}
use Rattle.std.proofs.lemmas.Bool.{eqb-true}
use Rattle.std.proofs.lemmas.List.Sums.{sum_by-cons}
use Rattle.std.specs.Option.{option_map_or}
use Rattle.sd_drive.specs.View.{DriveIs}
use Rattle.sd_journal.specs.Journal.{Entry, placed_of}
use Rattle.sd_session.specs.Session.{IsRunning}
use Rattle.sd_session.specs.declared.status.Status.{Status}
use Rattle.sd_session.specs.declared.status.Status.TheVariants.{Active, Ended, Closed, Cancelled, Failed, Purged}
use Rattle.sd_world.specs.World.{WorldSession, BayView, LaneView, session_at, is_done, leaves_lane, lane_is_free, free_lanes, busy_lanes}
use Rattle.sd_world.proofs.Lookups.{session_id}
use Rattle.sd_world.proofs.Pairs.{PairAt, WithOne, pair_after}
use Rattle.sd_world.proofs.Seats.{Sits, AreLanes, lane_stays}
use Rattle.sd_world.proofs.Views.{StoreStays}

pub running_keeps : (status : Status) (placed : Bool) → IsRunning status → leaves_lane status placed ≡ false
running_keeps status placed (inl is) = ap (λ s. leaves_lane s placed) is
running_keeps status placed (inr is) = ap (λ s. leaves_lane s placed) is

-- the lane of a session that goes on isn't free
pub not_free : (sessions : List WorldSession) (journal : List Entry) (ticket : ℕ) (e : WorldSession) (holder : Option ℕ) → session_at ticket sessions ≡ Some e
    → IsRunning e.session.status → holder ≡ Some e.session.key.id → lane_is_free sessions journal holder ≡ false
not_free sessions journal ticket e holder at runs holds =
    ap (lane_is_free sessions journal) holds
    ∙ ap (λ n. option_map_or (λ (x : WorldSession). is_done journal x.session) (session_at n sessions) true) (session_id ticket sessions e at)
    ∙ ap (λ o. option_map_or (λ (x : WorldSession). is_done journal x.session) o true) at
    ∙ running_keeps e.session.status (e.session.sent == placed_of e.session.key journal) runs

some_busy : (sessions : List WorldSession) (journal : List Entry) (lanes : List LaneView) (place : ℕ) (lane : LaneView) → slice_get lanes place ≡ Some lane
    → lane_is_free sessions journal lane.holder ≡ false → 1 ≤ count_by not (free_lanes sessions journal lanes)
some_busy sessions journal [] place lane there busy = absurd (cc there)
some_busy sessions journal (l ∷ ls) zero lane there busy =
    let is : l ≡ lane = cc there in
    let front : lane_is_free sessions journal l.holder ≡ false = ap (λ (x : LaneView). lane_is_free sessions journal x.holder) is ∙ busy in
    let one : ◌≡◌ {A = ℕ} (cond (not (lane_is_free sessions journal l.holder)) 1 0) 1 = ap (λ b. cond (not b) 1 0) front in
    let all = sum_by-cons (λ x. cond (not x) 1 0) (lane_is_free sessions journal l.holder) (free_lanes sessions journal ls) in
    omega (arith, one, all)
some_busy sessions journal (l ∷ ls) (suc k) lane there busy =
    let all = sum_by-cons (λ x. cond (not x) 1 0) (lane_is_free sessions journal l.holder) (free_lanes sessions journal ls) in
    let rest = some_busy sessions journal ls k lane there busy in
    omega (arith, all, rest)

-- nor is its drive without a session
pub running_busy : {D : Type 0} (sessions : List WorldSession) (bay : BayView D) (d : DriveIs D) (ticket : ℕ) (e : WorldSession) (place : ℕ) (lane : LaneView)
    → session_at ticket sessions ≡ Some e → IsRunning e.session.status
    → slice_get bay.lanes place ≡ Some lane → lane.holder ≡ Some e.session.key.id → busy_lanes sessions (Some d) bay.lanes ≢ 0
running_busy sessions bay d ticket e place lane at runs there holds none =
    let one = some_busy sessions d.journal bay.lanes place lane there (not_free sessions d.journal ticket e lane.holder at runs holds) in
    absurd (omega (arith, one, none))

-- Who leaves a lane.

-- who is done has each piece placed that was sent, if a closed one has, and a purged one
done_placed : (status : Status) (sent placed : ℕ) → leaves_lane status (sent == placed) ≡ true → (status ≡ Closed → placed ≡ sent) → (status ≡ Purged → placed ≡ sent) → placed ≡ sent
done_placed Active sent placed done closed purged = absurd (true≢false (sym done))
done_placed Ended sent placed done closed purged = absurd (true≢false (sym done))
done_placed Closed sent placed done closed purged = closed refl
done_placed Cancelled sent placed done closed purged = sym (eqb-true sent placed done)
done_placed Failed sent placed done closed purged = sym (eqb-true sent placed done)
done_placed Purged sent placed done closed purged = purged refl

-- Each piece is placed of a session that is done.
pub all_placed : {D : Type 0} (e : WorldSession) (bay : BayView D) (d : DriveIs D) (lane : LaneView) → bay.drive ≡ Some d → Sits e bay lane
    → is_done d.journal e.session ≡ true → placed_of e.session.key d.journal ≡ e.session.sent
all_placed e bay d lane on sits done =
    done_placed e.session.status e.session.sent (placed_of e.session.key d.journal) done (λ c. sits.closed c d on) (λ p. sits.purged p d on)

-- the session lodges where it did, with the lane's store if it had it
abbrev pub Lodges : WorldSession → WorldSession → Type 0
Lodges x y = (y.drive ≡ x.drive) × (y.session.lane ≡ x.session.lane) × StoreStays x.session y.session

pub lodges_same : (x y : WorldSession) → y ≡ x → Lodges x y
lodges_same x y same = subst (Lodges x) (sym same) (refl, refl, λ h. h)

-- lanes stay if all lodge on
pub lanes_lodge : (R : WorldSession → WorldSession → Type 0) (es es' : List WorldSession) (drive : ℕ) (lanes : List LaneView) → ((ticket : ℕ) → PairAt R es es' ticket)
    → ((x y : WorldSession) → R x y → Lodges x y) → AreLanes es drive lanes → AreLanes es' drive lanes
lanes_lodge R es es' drive lanes pairs lodge h place lane there =
    lane_stays es es' drive place lane (λ ticket e at on in_lane.
    let p = pair_after R (session_at ticket es) (session_at ticket es') e (pairs ticket) at in
    let l = lodge e p.0 p.2 in (p.0, p.1, l.0, l.1, l.2)) (h place lane there)

-- the one that changes lodges on, so all do
pub lodge_of : (ticket : ℕ) (e f : WorldSession) → Lodges e f → (x y : WorldSession) → WithOne ticket e f x y → Lodges x y
lodge_of ticket e f own x y (inl p) = subst (λ z. Lodges z y) (sym p.0) (subst (λ z. Lodges e z) (sym p.1) own)
lodge_of ticket e f own x y (inr p) = lodges_same x y p.1
