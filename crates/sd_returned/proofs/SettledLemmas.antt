-- The session of a job that is done, in the world of its settled line.
use Rattle.std.proofs.Common.{◌≡◌, ◌≢◌, ℕ, suc, refl, sym, ap, subst, ◌∙◌, inl, inr, arith, true, append-nil, Option, Some, None, IsSome, List, [], ◌++◌, length, map, take, slice_get}
use Rattle.std.proofs.Math.Seq.{take-length}
use Rattle.atomic_table.specs.Seated.{TableId}
use Rattle.sd_base.specs.declared.number.SessionKey.{SessionKey}
use Rattle.sd_closes.specs.Pieces.{bodies_in, pieces_in}
use Rattle.sd_driver.specs.Meaning.{Meaning}
use Rattle.sd_drive.specs.Receipt.{ReceiptIs}
use Rattle.sd_drive.specs.Shelf.{block_at}
use Rattle.sd_hub.specs.Settles.{SettledLaneIs, lane_of}
use Rattle.sd_hub.specs.Worlds.{IsSettledFrom, bay_of, lane_sessions, queue_view}
use Rattle.sd_hub.proofs.Drives.{none_on_the_way, sent_are as sent_by_pieces}
use Rattle.sd_hub.proofs.Entries.{moved, moved_back, stays_of, told_or_failed}
use Rattle.sd_hub.proofs.Lines.{Stands, all_at, in_all, in_lane, store_in}
use Rattle.sd_hub.proofs.Pieces.{bodies-keyed, bodies_from}
use Rattle.sd_hub.proofs.SettledLemmas.{IsSettledWorld, entry_of, lane_found, told_settled, told_stands}
use Rattle.sd_hub.proofs.WorldRules.{bay_there, sent_here}
use Rattle.sd_jobs.specs.Jobs.{JobIs, JobEndIs, EndsJob, StopsBy}
use Rattle.sd_journal.specs.Journal.{placements}
use Rattle.sd_label.specs.Cutting.{AtEnd, Holds, WholeOf}
use Rattle.sd_label.proofs.CuttingLemmas.{holds_begins}
use Rattle.sd_line.specs.Ends.{EndIs, IsOfLane, RestsOn, ToldSession, lane_store}
use Rattle.sd_line.specs.Parts.{PartIs, end_of, told_of}
use Rattle.sd_line.specs.Side.{LineIs}
use Rattle.sd_line.specs.declared.stop.Stop.{Stop}
use Rattle.sd_line.specs.declared.stop.Stop.TheVariants.{Done}
use Rattle.sd_pack.specs.Packing.{Packs, bytes_of}
use Rattle.sd_readback.specs.Reading.{Reads, blocks_of, volumes_on}
use Rattle.sd_session.specs.Session.{SessionView, IsRunning, parts_of}
use Rattle.sd_session.specs.declared.status.Status.{Status}
use Rattle.sd_session.specs.declared.status.Status.TheVariants.{Closed}
use Rattle.sd_span.specs.Spans.{placements_of, spans_of}
use Rattle.sd_theorem.proofs.Closed.{given, settled_world}
use Rattle.sd_world.specs.Honest.{StoreIsTrue}
use Rattle.sd_world.specs.Kept.{IsClosedAt}
use Rattle.sd_world.specs.Matches.{HasBodies, bodies_with, sent_to}
use Rattle.sd_world.specs.Steps.{IsSound}
use Rattle.sd_world.specs.World.{WorldView, WorldSession, IsOnline, session_at}
use Rattle.sd_world.proofs.BodyLemmas.{live_bodies, none_of, placed_alike, placed_bytes}
use Rattle.sd_world.proofs.ClaimLemmas.{closed_is_found}
use Rattle.sd_world.proofs.Lookups.{session_id}
use Rattle.sd_world.proofs.RestoreLemmas.{placed_read}
use Rattle.sd_world.proofs.Sent.{coming, packed_holds, placed_bodies, sent_are}
use Rattle.sd_returned.specs.Listed.{AllHonest, HasList, IsAlone, SettledJobsRead, lane_ends, last_spools, receipts_in}
use Rattle.sd_returned.proofs.EndLemmas.{end_there, ends_at, get_map, last_spools-is, last_there, receipt_there}

-- who is closed goes on no more
closed_over : IsRunning Closed → ⊥
closed_over (inl is) = cc
closed_over (inr is) = cc

module _ {D : Type 0} (meaning : D → Meaning) (table : ℕ → TableId) (time : ℕ → ℕ) (line : LineIs) (ends : List EndIs) (receipts : List ReceiptIs) (w : WorldView D)
    (from : IsSettledFrom meaning table time line ends receipts w) (sound : IsSound meaning w) (honest : AllHonest meaning) where
  -- what the line and its world are
  h : IsSettledWorld meaning from.settled from.told w
  h = settled_world meaning table time line ends receipts w from

  -- The lane of an end.

  -- a lane of the settled line is that of this end
  record OwnLane (end : EndIs) : Type 0 where
    at : ℕ
    lane : SettledLaneIs
    there : slice_get from.settled.lanes at ≡ Some lane
    is : lane ≡ lane_of end

  -- if the world has a session of a number, of which only this end tells, the end is that of a lane
  own_lane : (place number : ℕ) (end : EndIs) (x : WorldSession) → slice_get ends place ≡ Some end → IsAlone ends place number → session_at number w.sessions ≡ Some x → OwnLane end
  own_lane place number end x there alone found =
      let i = entry_of meaning from.settled from.told w h number x found in
      let back = moved_back (lane_sessions from.settled.lanes) from.told i.place i.s h.becomes.all i.there in
      let l = in_lane from.settled.lanes back.0 i.s back.1 in
      let k = from.settles.lanes_are l.at l.lane l.there in
      let among = end_there from.checked.line.no (suc l.at) from.checked.ends k.end k.end_is in
      let inside : slice_get ends among.0 ≡ Some k.end = ap (λ (es : List EndIs). slice_get es among.0) (sym from.ends_are) ∙ among.1 in
      let stands : slice_get k.end.sessions l.place ≡ Some i.s = ap (λ (y : SettledLaneIs). slice_get y.sessions l.place) (sym k.lane_is) ∙ l.stands in
      let own : i.s.session.key.id ≡ number =
      ap (λ (y : SessionKey). y.id) (sym (stays_of from.settled.drive.journal i.s x i.settles).key_is) ∙ session_id number w.sessions x found in
      let here : among.0 ≡ place = alone among.0 k.end l.place i.s inside stands own in
      let both : Some k.end ≡ Some end = sym inside ∙ ap (slice_get ends) here ∙ there in
      let same : k.end ≡ end = cc both in
      record { at = l.at; lane = l.lane; there = l.there; is = k.lane_is ∙ ap lane_of same }

  -- A closed session of a lane.
  module _ (at place : ℕ) (lane : SettledLaneIs) (there : slice_get from.settled.lanes at ≡ Some lane) (s : ToldSession) (stands : slice_get lane.sessions place ≡ Some s)
      (closed : s.session.status ≡ Closed) where
    -- it was told
    told_there : (k : ℕ) × (slice_get from.told k ≡ Some s)
    told_there = let k = in_all from.settled.lanes at lane place s there stands in moved (lane_sessions from.settled.lanes) from.told k.0 s h.becomes.all k.1

    -- what is known of it
    own : Stands from.settled.drive.limits.time (from.settled.queue.taken ++ from.settled.queue.held) from.settled.lanes s
    own = told_stands meaning from.settled from.told w h told_there.0 s told_there.1

    -- its lane is found by its number
    same_lane : own.in_lane.lane ≡ lane
    same_lane =
        let mine = all_at (IsOfLane from.settled.drive.limits.time (suc at)) lane.sessions place s (h.lanes.each at lane there).of_lane stands in
        let number : own.in_lane.at ≡ at = omega (arith, mine.lane_is, own.of_lane.lane_is) in
        let both : Some own.in_lane.lane ≡ Some lane = sym own.in_lane.there ∙ ap (slice_get from.settled.lanes) number ∙ there in
        cc both

    -- The blocks at its placements are all its bodies.
    blocks_are : bytes_of own.own.bodies ≡ blocks_of s.session.key (map (block_at (meaning from.settled.drive.device).shelf) (placements from.settled.drive.journal))
    blocks_are =
        let key = s.session.key in
        let d = from.settled.drive in
        let shelf = (meaning d.device).shelf in
        let queue = queue_view from.settled.queue in
        let ps = placements d.journal in
        let pieces = pieces_in (from.settled.queue.taken ++ from.settled.queue.held) in
        let sent : bodies_with key (sent_to shelf d queue) ≡ own.own.bodies =
        ap (bodies_with key) (sent_by_pieces shelf d queue from.settled.queue.taken h.follows (h.holds (honest d.device)))
        ∙ bodies-keyed key pieces ∙ ap bodies_in own.own.is ∙ bodies_from key 1 own.own.bodies in
        let all = told_settled meaning from.settled from.told w h told_there.0 s told_there.1 closed in
        let none : bodies_with key (coming d queue) ≡ [] =
        none_of (bodies_with key (coming d queue)) (none_on_the_way d queue key (all.0 ∙ sent_here meaning from.settled from.told w h told_there.0 s told_there.1)) in
        let placed : bodies_with key (sent_to shelf d queue) ≡ bodies_with key (placed_bodies shelf ps) =
        sent_are key shelf d queue
        ∙ ap (λ l. l ++ bodies_with key (coming d queue)) (live_bodies key shelf d.journal (h.none_gone key))
        ∙ ap (λ l. bodies_with key (placed_bodies shelf ps) ++ l) none
        ∙ append-nil (bodies_with key (placed_bodies shelf ps)) in
        ap bytes_of (sym sent ∙ placed) ∙ placed_bytes key shelf ps

    -- They pack what it was told to have taken, with its end label.
    packs : RestsOn s.spools (StoreIsTrue (store_in lane)) → Packs s.session.packer.room own.own.bodies s.told AtEnd
    packs store =
        let room = s.session.packer.room in
        let bodies = own.own.bodies in
        let rests : RestsOn s.spools (StoreIsTrue (store_in own.in_lane.lane)) = subst (λ (l : SettledLaneIs). RestsOn s.spools (StoreIsTrue (store_in l))) (sym same_lane) store in
        let none : bodies ++ parts_of s.session ≡ bodies = ap (λ l. bodies ++ l) (own.own.tells.closed closed).0 ∙ append-nil bodies in
        subst (λ l. Packs room l s.told AtEnd) none
        (subst (λ (status : Status). HasBodies room bodies (bodies ++ parts_of s.session) status s.told) closed (own.own.tells.bodies_are rests))

    -- so its spans read to that
    reads_own : RestsOn s.spools (StoreIsTrue (store_in lane))
        → Reads (volumes_on (meaning from.settled.drive.device).shelf) s.session.key (spans_of s.session.key (placements from.settled.drive.journal)) s.told true
    reads_own store =
        let key = s.session.key in
        let d = from.settled.drive in
        let shelf = (meaning d.device).shelf in
        let ps = placements d.journal in
        let blocks = blocks_of key (map (block_at shelf) ps) in
        let kept = sound.drives 0 (bay_of from.settled) d (bay_there meaning from.settled from.told w h) refl in
        let held = packed_holds s.session.packer.room own.own.bodies s.told AtEnd (packs store) in
        let holds : Holds blocks s.told AtEnd = subst (λ l. Holds l s.told AtEnd) blocks_are held in
        let some : placements_of key ps ≢ [] = λ none. (holds_begins blocks s.told AtEnd holds).some_there ((placed_alike key shelf ps).1 none) in
        let whole : WholeOf blocks s.told true = (AtEnd, holds, refl) in
        placed_read (meaning d.device) d.volumes d.loaded d.journal key ps [] s.told true kept (honest d.device) (sym (append-nil ps)) some (h.none_gone key) whole

    -- so the world has it with its list, by the spans that the journal gives
    has_list : RestsOn s.spools (StoreIsTrue (store_in lane)) → (spans : List _) → spans ≡ spans_of s.session.key (placements from.settled.drive.journal)
        → HasList meaning w s.session.key spans s.told
    has_list store spans are =
        let key = s.session.key in
        let d = from.settled.drive in
        let bay = bay_of from.settled in
        let k = in_all from.settled.lanes at lane place s there stands in
        let f = lane_found meaning from.settled from.told w h k.0 s k.1 in
        let e = f.0 in
        let same : e.session ≡ s.session = elim (told_or_failed d.journal s e f.2) [
          | inl t ↦ t.same
          | inr t ↦ absurd (closed_over (subst IsRunning closed t.drops.running))
        ] in
        let own_key : e.session.key ≡ key = ap (λ (v : SessionView). v.key) same in
        let online : IsOnline w e.drive 0 bay d = record { number = f.2.0; there = bay_there meaning from.settled from.told w h; online = refl } in
        let is_closed : IsClosedAt w key spans = record {
          e = e;
          there = f.1;
          key_is = own_key;
          holds = (ap (λ (v : SessionView). v.status) same ∙ closed, (0, bay, d, online, are ∙ ap (λ (x : SessionKey). spans_of x (placements d.journal)) (sym own_key)));
        } in
        record {
          e = e;
          there = f.1;
          key_is = own_key;
          closed = is_closed.holds.0;
          count_is = own.own.tells.count_is ∙ ap (λ (v : SessionView). v.count) (sym same);
          bytes_are = own.own.tells.bytes_are ∙ ap (λ (v : SessionView). v.bytes) (sym same);
          at = 0;
          bay = bay;
          d = d;
          online = online;
          claimed = closed_is_found meaning w key spans 0 bay d sound.rules is_closed online (sound.drives 0 bay d online.there online.online);
          reads = subst (λ l. Reads (volumes_on (meaning d.device).shelf) key l s.told true) (sym are) (reads_own store);
        }

-- A job that is done.

-- what it came to
pub record IsDone (job : JobIs) (end : JobEndIs) : Type 0 where
  pub part : PartIs
  pub r : ReceiptIs
  pub receipt_is : end.receipt ≡ Some r
  pub leaves : end.lane_end ≡ end_of part
  pub closed : part.session.status ≡ Closed
  pub key_is : part.session.key ≡ job.part.session.key
  pub own : r.key ≡ part.session.key
  pub told_is : part.told ≡ job.part.told ++ job.recs

pub is_done : (job : JobIs) (end : JobEndIs) → EndsJob job end → end.stop ≡ Done → IsDone job end
is_done job end came done =
    let p = came.part in
    let stops = subst (λ (stop : Stop). StopsBy stop job end p) done came.stops in
    let whole : take end.taken job.recs ≡ job.recs = ap (λ n. take n job.recs) stops.0 ∙ take-length job.recs in
    record {
      part = p;
      r = stops.1;
      receipt_is = stops.2;
      leaves = came.leaves;
      closed = stops.3.closed_by.closed;
      key_is = came.goes_on.key_is;
      own = stops.3.key_is;
      told_is = came.goes_on.told_is ∙ ap (λ l. job.part.told ++ l) whole;
    }

pub settled_jobs_read : {D : Type 0} → SettledJobsRead D
settled_jobs_read {D} meaning table time line jobs ends w each from sound honest place job end there is done alone found store =
    let j = is_done job end (ends_at jobs ends place job end each there is) done in
    let all = lane_ends ends in
    let receipts = receipts_in ends in
    let s = told_of j.part in
    let own_end : slice_get all place ≡ Some (end_of j.part) = get_map (λ (e : JobEndIs). e.lane_end) ends place end is ∙ ap Some j.leaves in
    let x = some_there (session_at job.part.session.key.id w.sessions) found in
    let l = own_lane meaning table time line all receipts w from sound honest place job.part.session.key.id (end_of j.part) x.0 own_end alone x.1 in
    let stands : slice_get l.lane.sessions (length j.part.before) ≡ Some s =
    ap (λ (y : SettledLaneIs). slice_get y.sessions (length j.part.before)) l.is ∙ last_there j.part.before s in
    let spools : last_spools end.lane_end.sessions ≡ s.spools = ap (λ (e : EndIs). last_spools e.sessions) j.leaves ∙ last_spools-is j.part.before s in
    let true_store : RestsOn s.spools (StoreIsTrue (store_in l.lane)) =
    λ on. subst (λ (y : SettledLaneIs). StoreIsTrue (store_in y)) (sym l.is) (subst (λ (e : EndIs). StoreIsTrue (lane_store e)) j.leaves (store (spools ∙ on))) in
    let among = receipt_there ends place end j.r is j.receipt_is in
    let gives = given meaning table time line all receipts w from among.0 j.r among.1 in
    let spans = gives.spans_are ∙ ap (λ (k : SessionKey). spans_of k (placements from.settled.drive.journal)) j.own in
    let has = has_list meaning table time line all receipts w from sound honest l.at (length j.part.before) l.lane l.there s stands j.closed true_store j.r.spans spans in
    record {
      r = j.r;
      receipt_is = j.receipt_is;
      key_is = j.own ∙ j.key_is;
      has = subst (λ (k : SessionKey). HasList meaning w k j.r.spans (job.part.told ++ job.recs)) (sym j.own)
          (subst (HasList meaning w j.part.session.key j.r.spans) j.told_is has);
    }
  where
    some_there : (o : Option WorldSession) → IsSome o → (x : WorldSession) × (o ≡ Some x)
    some_there None is = absurd (cc is)
    some_there (Some x) is = (x, refl)
