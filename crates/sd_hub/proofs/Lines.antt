-- What a settled line says of its lanes, without the ends that were handed in.
use Rattle.std.proofs.Common.{◌≡◌, ◌≢◌, ◌⊎◌, ℕ, zero, suc, ◌+◌, ◌≤◌, refl, sym, ap, subst, ◌∙◌, inl, inr, arith, Option, Some, IsSome, IsTrue, List, [], ◌∷◌, ◌++◌, length, append_assoc, append-nil, slice_get}
use Rattle.std.specs.List.{AllByRecursion}
use Rattle.std.specs.Option.{option_or}
use Rattle.atomic_table.specs.Seated.{TableId}
use Rattle.sd_base.specs.declared.number.SessionKey.{SessionKey}
use Rattle.sd_driver.specs.Meaning.{Meaning}
use Rattle.sd_drive.proofs.Places.{get_front}
use Rattle.sd_drive.specs.View.{DriveIs}
use Rattle.sd_journal.specs.Journal.{Entry}
use Rattle.sd_lane.specs.Queue.{AreOfLanes, pieces_of}
use Rattle.sd_lane.specs.declared.piece.Piece.{Piece}
use Rattle.sd_lane.specs.declared.piece.Queued.{Queued}
use Rattle.sd_line.specs.Ends.{EarlierAreOver, EndIs, IsOfLane, SentBy, ToldSession, last_store}
use Rattle.sd_hub.proofs.EndLemmas.{found_is, lane_is, no_is, whole_is}
use Rattle.sd_hub.specs.Settles.{AreDistinct, AreSettled, CheckedIs, SettledIs, SettledLaneIs, Settles, end_at, lane_of, sessions_at, sessions_in as in_end, sessions_to, times_of}
use Rattle.sd_spool.specs.Job.{StoreState}
use Rattle.sd_world.specs.Honest.{StoreIsTrue}
use Rattle.sd_hub.specs.Worlds.{lane_sessions}
use Rattle.sd_hub.proofs.Lanes.{OwnSent, none_sent, own_sent, queued_all, sent_all, times_lane, times_least, times_two}
use Rattle.sd_closes.specs.Pieces.{keyed, pieces_in}
use Rattle.sd_hub.proofs.Pieces.{keyed_lane}

-- The sessions of all lanes.

-- those of the lanes of a line, which are as many, are those of the ends
pub sessions_are : (own : ℕ) (ends : List EndIs) (n : ℕ) (ls : List SettledLaneIs)
    → ((at : ℕ) (l : SettledLaneIs) → slice_get ls at ≡ Some l → sessions_at own (suc (n + at)) ends ≡ l.sessions)
    → sessions_to own (n + length ls) ends ≡ sessions_to own n ends ++ lane_sessions ls
sessions_are own ends n [] each = let e : n + length {A = SettledLaneIs} [] ≡ n = omega arith in ap (λ (m : ℕ). sessions_to own m ends) e ∙ sym (append-nil (sessions_to own n ends))
sessions_are own ends n (l ∷ ls) each =
    let e : n + length (l ∷ ls) ≡ suc n + length ls = omega arith in
    let first : suc (n + 0) ≡ suc n = omega arith in
    let here : sessions_at own (suc n) ends ≡ l.sessions = ap (λ (m : ℕ). sessions_at own m ends) (sym first) ∙ each 0 l refl in
    ap (λ (m : ℕ). sessions_to own m ends) e
    ∙ sessions_are own ends (suc n) ls (λ at m there. (let up : suc (suc n + at) ≡ suc (n + suc at) = omega arith in ap (λ (k : ℕ). sessions_at own k ends) up ∙ each (suc at) m there))
    ∙ append_assoc (sessions_to own n ends) (sessions_at own (suc n) ends) (lane_sessions ls)
    ∙ ap (λ (ss : List ToldSession). sessions_to own n ends ++ (ss ++ lane_sessions ls)) here

-- What a lane keeps.

-- the store of a lane, wherever it lies
abbrev pub store_in : SettledLaneIs → Option StoreState
store_in l = option_or l.store (last_store l.sessions)

-- A lane at a place. Its sessions are of the run and of it; what was sent by it is what they sent; only the last may go on; and its
-- store is there.
pub record KeepsLane (run : ℕ) (qs : List Queued) (at : ℕ) (l : SettledLaneIs) : Type 0 where
  pub of_lane : AllByRecursion (IsOfLane run (suc at)) l.sessions
  pub sent_are : SentBy (StoreIsTrue (store_in l)) l.sessions (pieces_of (suc at) qs)
  pub earlier : EarlierAreOver l.sessions
  pub stored : IsSome (store_in l)

-- The lanes of a line: each piece came by one of them, each keeps what a lane keeps, no two of all their sessions have one key, and
-- of a closed one all that it sent is placed and synced.
pub record KeepsLanes (run : ℕ) (journal : List Entry) (qs : List Queued) (ls : List SettledLaneIs) : Type 0 where
  pub of_lanes : AreOfLanes (length ls) qs
  pub each : (at : ℕ) (l : SettledLaneIs) → slice_get ls at ≡ Some l → KeepsLane run qs at l
  pub distinct : AreDistinct (lane_sessions ls)
  pub settled : AreSettled journal (lane_sessions ls)

-- what a lane's end keeps, its lane keeps
keeps_lane : (time : ℕ → ℕ) (own run : ℕ) (ends : List EndIs) (qs : List Queued) (at : ℕ) (l : SettledLaneIs) (e : EndIs)
    → end_at own (suc at) ends ≡ Some e → l ≡ lane_of e → pieces_of (suc at) qs ≡ e.seat.seat.sent → time own ≡ run
    → AllByRecursion (IsOfLane (time e.seat.no) e.seat.seat.lane) e.sessions → (IsTrue e.whole → SentBy (StoreIsTrue (store_in (lane_of e))) e.sessions e.seat.seat.sent)
    → EarlierAreOver e.sessions → IsSome (store_in (lane_of e)) → KeepsLane run qs at l
keeps_lane time own run ends qs at l e found is sent same of_lane sent_are earlier stored =
    let of = found_is own (suc at) ends e found in
    subst (KeepsLane run qs at) (sym is)
    (record {
      of_lane = subst (λ (lane : ℕ). AllByRecursion (IsOfLane run lane) e.sessions) (lane_is own (suc at) e of)
          (subst (λ (t : ℕ). AllByRecursion (IsOfLane t e.seat.seat.lane) e.sessions) (ap time (no_is own (suc at) e of) ∙ same) of_lane);
      sent_are = subst (SentBy (StoreIsTrue (store_in (lane_of e))) e.sessions) (sym sent) (sent_are (whole_is own (suc at) e of));
      earlier = earlier;
      stored = stored;
    })

-- the sessions of the lanes of a settled line are those of the ends that were handed in
pub all_of_ends : {D : Type 0} (meaning : D → Meaning) (table : ℕ → TableId) (time : ℕ → ℕ) (c : CheckedIs D) (s : SettledIs D) → Settles meaning table time c s
    → sessions_to c.line.no (length s.lanes) c.ends ≡ lane_sessions s.lanes
all_of_ends meaning table time c s h =
    let own = c.line.no in
    let at_ends : (at : ℕ) (l : SettledLaneIs) → slice_get s.lanes at ≡ Some l → sessions_at own (suc (0 + at)) c.ends ≡ l.sessions =
    λ at l there. (let k = h.lanes_are at l there in
    let e : suc (0 + at) ≡ suc at = omega arith in
    ap (λ (m : ℕ). sessions_at own m c.ends) e ∙ ap (λ (o : Option EndIs). in_end o) k.end_is ∙ sym (ap (λ (x : SettledLaneIs). x.sessions) k.lane_is)) in
    let none : 0 + length s.lanes ≡ length s.lanes = omega arith in
    ap (λ (m : ℕ). sessions_to own m c.ends) (sym none) ∙ sessions_are own c.ends 0 s.lanes at_ends

-- so a line that is settled keeps its lanes
pub keeps_lanes : {D : Type 0} (meaning : D → Meaning) (table : ℕ → TableId) (time : ℕ → ℕ) (c : CheckedIs D) (s : SettledIs D) → Settles meaning table time c s
    → KeepsLanes s.drive.limits.time s.drive.journal (s.queue.taken ++ s.queue.held) s.lanes
keeps_lanes {D} meaning table time c s h =
    let own = c.line.no in
    let run : time own ≡ s.drive.limits.time = ap time (sym h.passes.synced.keys.lanes.no_is) ∙ sym h.keeps.run ∙ sym (ap (λ (d : DriveIs D). d.limits.time) h.drive_is) in
    let many : c.side.seat.lanes ≡ length s.lanes = sym h.count_is.1 in
    let all : sessions_to own c.side.seat.lanes c.ends ≡ lane_sessions s.lanes = ap (λ (m : ℕ). sessions_to own m c.ends) many ∙ all_of_ends meaning table time c s h in
    record {
      of_lanes = subst (λ (n : ℕ). AreOfLanes n (s.queue.taken ++ s.queue.held)) (h.count_is.0 ∙ many) h.of_lanes;
      each = λ at l there. (let k = h.lanes_are at l there in
          keeps_lane time own s.drive.limits.time c.ends (s.queue.taken ++ s.queue.held) at l k.end k.end_is k.lane_is k.follows run k.keeps.of_lane k.keeps.sent_are k.keeps.earlier k.keeps.stored);
      distinct = subst AreDistinct all h.passes.synced.keys.distinct;
      settled = subst (λ (d : DriveIs D). AreSettled d.journal (lane_sessions s.lanes)) (sym h.drive_is)
          (subst (AreSettled c.side.drive.journal) all h.passes.synced.settled);
    }

-- A session among those of all lanes.

-- it is at this place of this lane
pub record IsInLane (ls : List SettledLaneIs) (s : ToldSession) : Type 0 where
  pub at : ℕ
  pub lane : SettledLaneIs
  pub there : slice_get ls at ≡ Some lane
  pub place : ℕ
  pub stands : slice_get lane.sessions place ≡ Some s

-- what is in two lists, one after the other, is in one of them
get_either : {A : Type 0} (xs ys : List A) (at : ℕ) (x : A) → slice_get (xs ++ ys) at ≡ Some x → (slice_get xs at ≡ Some x) ⊎ ((k : ℕ) × (slice_get ys k ≡ Some x))
get_either [] ys at x there = inr (at, there)
get_either (y ∷ xs) ys zero x there = inl there
get_either (y ∷ xs) ys (suc at) x there = get_either xs ys at x there

-- each of them is in a lane
pub in_lane : (ls : List SettledLaneIs) (k : ℕ) (s : ToldSession) → slice_get (lane_sessions ls) k ≡ Some s → IsInLane ls s
in_lane [] k s there = absurd (cc there)
in_lane (l ∷ ls) k s there = elim (get_either l.sessions (lane_sessions ls) k s there) [
  | inl here ↦ record { at = 0; lane = l; there = refl; place = k; stands = here }
  | inr more ↦ (let i = in_lane ls more.0 s more.1 in record { at = suc i.at; lane = i.lane; there = i.there; place = i.place; stands = i.stands })
]

-- what is in the second of two lists is in the two, one after the other
get_behind : {A : Type 0} (xs ys : List A) (at : ℕ) (x : A) → slice_get ys at ≡ Some x → (k : ℕ) × (slice_get (xs ++ ys) k ≡ Some x)
get_behind [] ys at x there = (at, there)
get_behind (y ∷ xs) ys at x there = let k = get_behind xs ys at x there in (suc k.0, k.1)

-- and each in a lane is among all of them
pub in_all : (ls : List SettledLaneIs) (at : ℕ) (l : SettledLaneIs) (place : ℕ) (s : ToldSession) → slice_get ls at ≡ Some l → slice_get l.sessions place ≡ Some s
    → (k : ℕ) × (slice_get (lane_sessions ls) k ≡ Some s)
in_all [] at l place s there stands = absurd (cc there)
in_all (x ∷ ls) zero l place s there stands =
    let same : l ≡ x = cc there in
    (place, get_front x.sessions (lane_sessions ls) place s (subst (λ (y : SettledLaneIs). slice_get y.sessions place ≡ Some s) same stands))
in_all (x ∷ ls) (suc at) l place s there stands = let k = in_all ls at l place s there stands in get_behind x.sessions (lane_sessions ls) k.0 s k.1

-- what holds of each by recursion holds at each place
pub all_at : {A : Type 0} (P : A → Type 0) (xs : List A) (at : ℕ) (x : A) → AllByRecursion P xs → slice_get xs at ≡ Some x → P x
all_at P [] at x h there = absurd (cc there)
all_at P (y ∷ xs) zero x h there = let same : y ≡ x = cc there in subst P same h.0
all_at P (y ∷ xs) (suc at) x h there = all_at P xs at x h.1 there

-- What is known of a session of a line: it is of this lane and of its run; and its pieces in the queue, taken or not, are those of
-- bodies that go with the records that it took.
pub record Stands (run : ℕ) (qs : List Queued) (ls : List SettledLaneIs) (s : ToldSession) : Type 0 where
  pub in_lane : IsInLane ls s
  pub of_lane : IsOfLane run (suc in_lane.at) s
  pub own : OwnSent (StoreIsTrue (store_in in_lane.lane)) s (pieces_in qs)

-- no session of another lane has the key
no_other : (ls : List SettledLaneIs) (at other : ℕ) (l m : SettledLaneIs) (place : ℕ) (s : ToldSession) → AreDistinct (lane_sessions ls) → times_of s.session.key (lane_sessions ls) ≤ 1
    → slice_get ls at ≡ Some l → slice_get l.sessions place ≡ Some s → slice_get ls other ≡ Some m → at ≢ other → times_of s.session.key m.sessions ≡ 0
no_other ls at other l m place s apart most there stands there' not =
    let two = times_two s.session.key ls at other l m there there' not in
    let least = times_least l.sessions place s stands in
    omega (arith, two, least, most)

-- the lane of a piece that came by one of the lanes
lane_there : (ls : List SettledLaneIs) (other : ℕ) → 1 ≤ other → other ≤ length ls → (k : ℕ) × (m : SettledLaneIs) × (other ≡ suc k) × (slice_get ls k ≡ Some m)
lane_there [] zero least most = absurd (omega (arith, least))
lane_there [] (suc k) least most = absurd (omega (arith, most))
lane_there (l ∷ ls) zero least most = absurd (omega (arith, least))
lane_there (l ∷ ls) (suc zero) least most = (0, l, refl, refl)
lane_there (l ∷ ls) (suc (suc k)) least most = let r = lane_there ls (suc k) (omega arith) (omega (arith, most)) in (suc r.0, r.1, ap suc r.2, r.3)

-- so it is of each session of a line
pub stands : (run : ℕ) (journal : List Entry) (qs : List Queued) (ls : List SettledLaneIs) → KeepsLanes run journal qs ls → (k : ℕ) (s : ToldSession)
    → slice_get (lane_sessions ls) k ≡ Some s → Stands run qs ls s
stands run journal qs ls h k s there =
    let i = in_lane ls k s there in
    let key = s.session.key in
    let l = h.each i.at i.lane i.there in
    let most = h.distinct k s there in
    let within = times_lane key ls i.at i.lane i.there in
    let own = own_sent (StoreIsTrue (store_in i.lane)) i.lane.sessions (pieces_of (suc i.at) qs) i.place s l.sent_are i.stands (omega (arith, most, within)) in
    let others : (other : ℕ) → 1 ≤ other → other ≤ length ls → other ≢ suc i.at → keyed key (pieces_of other qs) ≡ [] =
    λ other least below apart. (let o = lane_there ls other least below in
    let keeps = h.each o.0 o.1 o.3 in
    let none = no_other ls i.at o.0 i.lane o.1 i.place s h.distinct most i.there i.stands o.3 (λ e. apart (o.2 ∙ ap suc (sym e))) in
    ap (λ (n : ℕ). keyed key (pieces_of n qs)) o.2 ∙ none_sent (StoreIsTrue (store_in o.1)) key o.1.sessions (pieces_of (suc o.0) qs) keeps.sent_are none) in
    record {
      in_lane = i;
      of_lane = all_at (IsOfLane run (suc i.at)) i.lane.sessions i.place s l.of_lane i.stands;
      own = record { bodies = own.bodies; tells = own.tells; is = keyed_lane key (length ls) (suc i.at) qs h.of_lanes others ∙ own.is };
    }

-- what holds of the key of each session of all lanes holds of that of each piece
pub all_pieces : (P : SessionKey → Type 0) (run : ℕ) (journal : List Entry) (qs : List Queued) (ls : List SettledLaneIs) → KeepsLanes run journal qs ls
    → ((at : ℕ) (l : SettledLaneIs) → slice_get ls at ≡ Some l → AllByRecursion (λ (s : ToldSession). P s.session.key) l.sessions)
    → AllByRecursion (λ (p : Piece). P p.key) (pieces_in qs)
all_pieces P run journal qs ls h each =
    queued_all (λ (p : Piece). P p.key) (length ls) qs h.of_lanes
    (λ lane least most. (let o = lane_there ls lane least most in
    let keeps = h.each o.0 o.1 o.3 in
    subst (λ (n : ℕ). AllByRecursion (λ (p : Piece). P p.key) (pieces_of n qs)) (sym o.2)
    (sent_all P (StoreIsTrue (store_in o.1)) o.1.sessions (pieces_of (suc o.0) qs) keeps.sent_are (each o.0 o.1 o.3))))
