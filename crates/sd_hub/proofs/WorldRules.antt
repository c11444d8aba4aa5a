-- The world of a settled line keeps what every world keeps.
use Rattle.std.proofs.Common.{◌≡◌, ◌≢◌, ℕ, zero, suc, ◌+◌, ◌<◌, ◌≤◌, refl, sym, ap, subst, ◌∙◌, inl, inr, arith, false, Option, Some, None, IsSome, List, [], ◌∷◌, ◌++◌, length, map, slice_get}
use Rattle.std.specs.Prelude.{IfSome}
use Rattle.std.specs.List.{AllByRecursion}
use Rattle.std.specs.Option.{option_map}
use Rattle.std.proofs.lemmas.List.{length-map}
use Rattle.std.proofs.lemmas.Option.{slice_get-map}
use Rattle.sd_base.specs.declared.number.SessionKey.{SessionKey}
use Rattle.sd_driver.specs.Meaning.{Meaning}
use Rattle.sd_drive.specs.Limits.{AreLimits}
use Rattle.sd_drive.specs.Shelf.{Kept}
use Rattle.sd_drive.specs.View.{DriveIs, item_of_piece}
use Rattle.sd_journal.specs.Journal.{Item, fails, has_purged, placed_of}
use Rattle.sd_lane.specs.declared.piece.Piece.{Piece}
use Rattle.sd_line.specs.Ends.{IsOfLane, ToldSession, last_store}
use Rattle.sd_session.specs.Session.{IsRunning, SessionView, store_of}
use Rattle.sd_session.specs.declared.status.Status.{Status}
use Rattle.sd_session.specs.declared.status.Status.TheVariants.{Closed, Failed, Purged}
use Rattle.sd_hub.specs.Settles.{SettledIs, SettledLaneIs}
use Rattle.sd_spool.specs.Job.{StoreState}
use Rattle.sd_world.specs.Rules.{IsOfOpened, IsBay, IsLane, IsSeated, IsWorld}
use Rattle.sd_world.specs.Steps.{IsSound}
use Rattle.sd_world.specs.World.{BayView, LaneView, WorldSession, WorldView, items_before, items_with, session_at}
use Rattle.sd_hub.specs.Worlds.{SettlesOne, bay_of, lane_view, last_ticket, queue_view, lane_sessions}
use Rattle.sd_hub.proofs.Drives.{items_are}
use Rattle.sd_hub.proofs.Entries.{IsAsTold, moved, stays_of, told_or_failed}
use Rattle.sd_hub.proofs.Holders.{LastIs, else_there, last_of, lies_here, running_last}
use Rattle.sd_hub.proofs.Lines.{all_at, all_pieces, in_all}
use Rattle.sd_hub.proofs.NumberLemmas.{IsOfRun, next_most, number_below}
use Rattle.sd_closes.specs.Pieces.{pieces_in}
use Rattle.sd_closes.proofs.Pieces.{length_items}
use Rattle.sd_line.proofs.TellLemmas.{length_from}
use Rattle.sd_hub.proofs.SettledLemmas.{IsSettledWorld, all_from, entry_of, lane_found, numbers, told_of_run, told_settled, told_stands}

-- one that failed goes on no more, and is neither closed nor purged
failed_over : IsRunning Failed → ⊥
failed_over (inl is) = cc
failed_over (inr is) = cc

-- the key is of a session of the run that was opened
record IsOpened (time next : ℕ) (key : SessionKey) : Type 0 where
  pub time_is : key.time ≡ time
  pub id_least : 1 ≤ key.id
  pub id_most : key.id < next

-- so is each item of its pieces
item_opened : (time next : ℕ) (ps : List Piece) → AllByRecursion (λ (p : Piece). IsOpened time next p.key) ps → AllByRecursion (IsOfOpened time next) (map item_of_piece ps)
item_opened time next [] h = tt
item_opened time next (p ∷ ps) h = (record { time_is = h.0.time_is; id_least = h.0.id_least; id_most = h.0.id_most }, item_opened time next ps h.1)

module _ {D : Type 0} (meaning : D → Meaning) (settled : SettledIs D) (told : List ToldSession) (w : WorldView D) (h : IsSettledWorld meaning settled told w) where
  -- The one bay.

  -- the bay at the first place
  pub bay_there : slice_get w.bays 0 ≡ Some (bay_of settled)
  bay_there = ap (λ (bays : List (BayView D)). slice_get bays 0) h.becomes.bays_are

  -- there is no other
  pub only_bay : (at : ℕ) (bay : BayView D) → slice_get w.bays at ≡ Some bay → (at ≡ 0) × (bay ≡ bay_of settled)
  only_bay at bay there = one at (sym (ap (λ (bays : List (BayView D)). slice_get bays at) h.becomes.bays_are) ∙ there)
    where
      one : (at : ℕ) → slice_get (bay_of settled ∷ []) at ≡ Some bay → (at ≡ 0) × (bay ≡ bay_of settled)
      one zero is = (refl, cc (sym is))
      one (suc k) is = absurd (cc is)

  -- a lane of the line is in it
  pub lane_there : (at : ℕ) (l : SettledLaneIs) → slice_get settled.lanes at ≡ Some l → slice_get (map lane_view settled.lanes) at ≡ Some (lane_view l)
  lane_there at l there = slice_get-map lane_view settled.lanes at ∙ ap (option_map lane_view) there

  -- and each of its lanes is one of the line
  pub lane_of_line : (at : ℕ) (lane : LaneView) → slice_get (map lane_view settled.lanes) at ≡ Some lane → (l : SettledLaneIs) × (slice_get settled.lanes at ≡ Some l) × (lane ≡ lane_view l)
  lane_of_line at lane there = by (slice_get settled.lanes at) refl (sym (slice_get-map lane_view settled.lanes at) ∙ there)
    where
      by : (o : Option SettledLaneIs) → slice_get settled.lanes at ≡ o → option_map lane_view o ≡ Some lane → (l : SettledLaneIs) × (slice_get settled.lanes at ≡ Some l) × (lane ≡ lane_view l)
      by None is none = absurd (cc none)
      by (Some l) is some = (l, is, cc (sym some))

  -- Sessions.

  -- as many pieces of a session are given to the drive or before it as it sent
  pub sent_here : (k : ℕ) (s : ToldSession) → slice_get told k ≡ Some s → s.session.sent ≡ length (items_with s.session.key (items_before settled.drive (queue_view settled.queue)))
  sent_here k s there =
      let own = (told_stands meaning settled told w h k s there).own in
      let key = s.session.key in
      let ps = pieces_in (settled.queue.taken ++ settled.queue.held) in
      sym own.tells.sent_is ∙ sym (length_from key 1 own.bodies) ∙ ap length (sym own.is) ∙ sym (length_items key ps)
      ∙ ap (λ (is : List Item). length (items_with key is)) (sym (items_are settled.drive (queue_view settled.queue) settled.queue.taken h.follows))

  -- a session that goes on is as it was told
  pub running_same : (s : ToldSession) (e : WorldSession) → SettlesOne settled.drive.journal s e → IsRunning e.session.status → IsAsTold settled.drive.journal s e
  running_same s e one runs = elim (told_or_failed settled.drive.journal s e one) [
    | inl t ↦ t
    | inr f ↦ absurd (failed_over (subst IsRunning (ap (λ (x : SessionView). x.status) f.drops.is) runs))
  ]

  -- so is one that has another status than failed
  pub other_same : (s : ToldSession) (e : WorldSession) (status : Status) → SettlesOne settled.drive.journal s e → e.session.status ≡ status → status ≢ Failed → IsAsTold settled.drive.journal s e
  other_same s e status one is apart = elim (told_or_failed settled.drive.journal s e one) [
    | inl t ↦ t
    | inr f ↦ absurd (apart (sym is ∙ ap (λ (x : SessionView). x.status) f.drops.is))
  ]

  -- each session of the world is seated
  pub seated : (ticket : ℕ) (e : WorldSession) → session_at ticket w.sessions ≡ Some e → IsSeated w e
  seated ticket e found =
      let i = entry_of meaning settled told w h ticket e found in
      let s = i.s in
      let st = told_stands meaning settled told w h i.place s i.there in
      let stays = stays_of settled.drive.journal s e i.settles in
      let l = st.in_lane in
      let keeps = h.lanes.each l.at l.lane l.there in
      let one_up : suc l.at ≡ l.at + 1 = omega arith in
      let drive : (d : DriveIs D) → (bay_of settled).drive ≡ Some d → settled.drive ≡ d = λ d is. cc is in
      let runs_so : (t : IsAsTold settled.drive.journal s e) → IsRunning e.session.status → IsRunning s.session.status =
      λ t runs. subst IsRunning (ap (λ (x : SessionView). x.status) t.same) runs in
      let status_so : (t : IsAsTold settled.drive.journal s e) (status : Status) → e.session.status ≡ status → s.session.status ≡ status =
      λ t status is. sym (ap (λ (x : SessionView). x.status) t.same) ∙ is in
      record {
        at = 0;
        place = l.at;
        bay = bay_of settled;
        lane = lane_view l.lane;
        drive_is = i.settles.0;
        lane_is = stays.lane_is ∙ st.of_lane.lane_is ∙ one_up;
        bay_there = bay_there;
        lane_there = lane_there l.at l.lane l.there;
        sent_is = λ d is. subst (λ (x : DriveIs D). e.session.sent ≡ length (items_with e.session.key (items_before x (queue_view settled.queue)))) (drive d is)
            (stays.sent_is ∙ sent_here i.place s i.there
            ∙ ap (λ (key : SessionKey). length (items_with key (items_before settled.drive (queue_view settled.queue)))) (sym stays.key_is));
        holds = λ runs. running_last l.lane.sessions l.place s keeps.earlier l.stands (runs_so (running_same s e i.settles runs) runs)
            ∙ ap (λ (key : SessionKey). Some key.id) (sym stays.key_is);
        online = λ runs. refl;
        lost_none = λ runs d is. (let t = running_same s e i.settles runs in
            subst (λ (x : DriveIs D). fails e.session.key x.journal ≡ false) (drive d is)
            (ap (λ (key : SessionKey). fails key settled.drive.journal) stays.key_is ∙ t.sound (runs_so t runs)));
        closed = λ closed d is. (let t = other_same s e Closed i.settles closed (λ e. cc e) in
            subst (λ (x : DriveIs D). placed_of e.session.key x.journal ≡ e.session.sent) (drive d is)
            (ap (λ (key : SessionKey). placed_of key settled.drive.journal) stays.key_is
            ∙ (told_settled meaning settled told w h i.place s i.there (status_so t Closed closed)).0 ∙ sym stays.sent_is));
        some_sent = λ closed. (let t = other_same s e Closed i.settles closed (λ e. cc e) in
            subst (λ (n : ℕ). 1 ≤ n) (sym stays.sent_is) (st.own.tells.closed (status_so t Closed closed)).1);
        purged = λ gone d is. (let t = other_same s e Purged i.settles gone (λ e. cc e) in absurd (st.own.tells.not_purged (status_so t Purged gone)));
        none_gone = λ not d is. subst (λ (x : DriveIs D). has_purged e.session.key x.journal ≡ false) (drive d is) (h.none_gone e.session.key);
      }

  -- Lanes.

  -- who used a lane last, as a world has it of the lane at this place with this store
  abbrev IsHolder : (place : ℕ) (store : Option StoreState) (ticket : ℕ) → Type 0
  IsHolder place store ticket = (e : WorldSession) × (session_at ticket w.sessions ≡ Some e) × (e.drive ≡ 1) × (e.session.lane ≡ place + 1) × (store ≡ None → IsSome (store_of e.session))

  -- each lane of the line is one in the world
  lane_is : (place : ℕ) (l : SettledLaneIs) → slice_get settled.lanes place ≡ Some l → IsLane w.sessions 1 place (lane_view l)
  lane_is place l there =
      let keeps = h.lanes.each place l there in
      elim (last_of l.sessions) [
        | inl none ↦ record {
          holder = subst (λ (o : Option ℕ). IfSome o (IsHolder place l.store)) (sym (ap last_ticket none)) tt;
          unused = λ u. lies_here l.store l.sessions none keeps.stored;
        }
        | inr last ↦ record {
          holder = subst (λ (o : Option ℕ). IfSome o (IsHolder place l.store)) (sym last.ticket_is) (held_by place l there last);
          unused = λ none. absurd (cc (sym last.ticket_is ∙ none));
        }
      ]
    where
      held_by : (place : ℕ) (l : SettledLaneIs) → slice_get settled.lanes place ≡ Some l → (last : LastIs l.sessions) → IsHolder place l.store last.s.session.key.id
      held_by place l there last =
          let keeps = h.lanes.each place l there in
          let k = in_all settled.lanes place l last.place last.s there last.there in
          let f = lane_found meaning settled told w h k.0 last.s k.1 in
          let stays = stays_of settled.drive.journal last.s f.0 f.2 in
          let of = all_at (IsOfLane settled.drive.limits.time (suc place)) l.sessions last.place last.s keeps.of_lane last.there in
          let one_up : suc place ≡ place + 1 = omega arith in (
            f.0,
            f.1,
            f.2.0,
            stays.lane_is ∙ of.lane_is ∙ one_up,
            (λ none. subst IsSome (last.store_is ∙ sym stays.store_is) (else_there l.store (last_store l.sessions) keeps.stored none)),
          )

  -- The bay.

  -- each piece that was given to the drive or is before it is of a session that was opened
  opened_here : AllByRecursion (IsOfOpened w.limits.time w.next) (items_before settled.drive (queue_view settled.queue))
  opened_here =
      let qs = settled.queue.taken ++ settled.queue.held in
      let time : settled.drive.limits.time ≡ w.limits.time = sym (ap (λ l. l.time) h.becomes.limits_are) in
      let of_lane : (at : ℕ) (l : SettledLaneIs) → slice_get settled.lanes at ≡ Some l → AllByRecursion (λ (s : ToldSession). IsOpened w.limits.time w.next s.session.key) l.sessions =
      λ at l there. all_from (λ (s : ToldSession). IsOpened w.limits.time w.next s.session.key) l.sessions
      (λ place s stands. (let k = in_all settled.lanes at l place s there stands in
      let m = moved (lane_sessions settled.lanes) told k.0 s h.becomes.all k.1 in
      let of = all_at (λ (x : ToldSession). IsOfRun settled.drive.limits.time x.session.key) told m.0 s (told_of_run meaning settled told w h) m.1 in
      let below = number_below told m.0 s h.becomes.rise m.1 in
      let next = h.becomes.next_is in
      record { time_is = of.time_is ∙ time; id_least = of.id_least; id_most = omega (arith, below, next) })) in
      subst (AllByRecursion (IsOfOpened w.limits.time w.next)) (sym (items_are settled.drive (queue_view settled.queue) settled.queue.taken h.follows))
      (item_opened w.limits.time w.next (pieces_in qs)
      (all_pieces (IsOpened w.limits.time w.next) settled.drive.limits.time settled.drive.journal qs settled.lanes h.lanes of_lane))

  -- the bay is one of the world
  is_bay : IsBay w 0 (bay_of settled)
  is_bay =
      let drive : (d : DriveIs D) → (bay_of settled).drive ≡ Some d → settled.drive ≡ d = λ d is. cc is in
      let most = h.lanes_most in
      let many : length (map lane_view settled.lanes) ≡ length settled.lanes = length-map settled.lanes lane_view in
      record {
        lanes_most = omega (arith, most, many);
        lanes_are = h.lanes_are ∙ sym many;
        capacity_is = sym h.becomes.queue_is;
        media_is = λ d is. ap (λ (x : DriveIs D). x.media) (sym (drive d is));
        limits_are = λ d is. ap (λ (x : DriveIs D). x.limits) (sym (drive d is)) ∙ sym h.becomes.limits_are;
        claimed = λ d is place v there. h.becomes.claims place v (ap (λ (x : DriveIs D). slice_get x.volumes place) (drive d is) ∙ there);
        of_opened = λ d is. subst (λ (x : DriveIs D). AllByRecursion (IsOfOpened w.limits.time w.next) (items_before x (queue_view settled.queue))) (drive d is) opened_here;
        lanes = λ place lane there. (let o = lane_of_line place lane there in subst (IsLane w.sessions 1 place) (sym o.2) (lane_is place o.0 o.1));
      }

  -- The world.

  -- it keeps its rules
  pub is_world : IsWorld w
  is_world =
      let most = next_most settled.drive.limits.time told (told_of_run meaning settled told w h) in
      let next = h.becomes.next_is in
      let one = ap (λ (bays : List (BayView D)). length bays) h.becomes.bays_are in
      record {
        limits = subst AreLimits (sym h.becomes.limits_are) h.limits;
        next_most = omega (arith, most, next);
        numbers = numbers meaning settled told w h;
        bays_most = omega (arith, one);
        seated = seated;
        bays = λ at bay there. (let o = only_bay at bay there in subst (λ (k : ℕ). IsBay w k bay) (sym o.0) (subst (IsBay w 0) (sym o.1) is_bay));
      }

  -- and is sound, if its drive keeps what every drive keeps
  pub is_sound : Kept (meaning settled.drive.device) settled.drive.volumes settled.drive.loaded settled.drive.journal → IsSound meaning w
  is_sound kept = record {
    rules = is_world;
    drives = λ at bay d there online. (let o = only_bay at bay there in
        let drive : settled.drive ≡ d = cc (sym (ap (λ (b : BayView D). b.drive) o.1) ∙ online) in
        subst (λ (x : DriveIs D). Kept (meaning x.device) x.volumes x.loaded x.journal) drive kept);
  }
