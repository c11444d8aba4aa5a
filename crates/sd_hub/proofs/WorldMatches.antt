-- The world of a settled line matches the list machine of what its parts were told.
use Rattle.std.proofs.Common.{◌≡◌, ℕ, suc, refl, sym, ap, subst, ◌∙◌, inl, inr, Some, List, [], ◌∷◌, ◌++◌, map, slice_get}
use Rattle.sd_base.specs.Record.{Record}
use Rattle.sd_base.specs.declared.number.SessionKey.{SessionKey}
use Rattle.sd_driver.specs.Meaning.{Meaning}
use Rattle.sd_drive.specs.View.{DriveIs}
use Rattle.sd_pack.specs.Body.{PackedBody}
use Rattle.sd_line.specs.Ends.{ToldSession, last_store}
use Rattle.sd_session.specs.Session.{SessionView, parts_of}
use Rattle.sd_session.specs.declared.status.Status.{Status}
use Rattle.sd_session.specs.declared.status.Status.TheVariants.{Closed}
use Rattle.sd_hub.specs.Settles.{SettledIs, SettledLaneIs}
use Rattle.sd_world.specs.Honest.{StoreIsTrue}
use Rattle.sd_world.specs.Matches.{HasBodies, IsHonestAt, IsOnTheWay, IsOutstanding, IsUnsynced, Matches, SessionMatches, SessionsMatch, bodies_in as all_bodies, bodies_with, sent_to}
use Rattle.sd_world.specs.World.{BayView, IsOnline, WorldSession, WorldView}
use Rattle.sd_hub.specs.Worlds.{SettlesEach, SettlesOne, bay_of, lane_view, machine_of, machine_session, queue_view}
use Rattle.sd_hub.proofs.Drives.{none_on_the_way, none_unsynced, sent_are}
use Rattle.sd_hub.proofs.Entries.{IsAsTold, stays_of, told_or_failed}
use Rattle.sd_hub.proofs.Holders.{either_true, last_of}
use Rattle.sd_hub.proofs.Lines.{in_all, store_in}
use Rattle.sd_closes.specs.Pieces.{bodies_in, pieces_in}
use Rattle.sd_hub.proofs.Pieces.{bodies-keyed, bodies_from}
use Rattle.sd_hub.proofs.SettledLemmas.{IsSettledWorld, lane_found, told_settled, told_stands}
use Rattle.sd_hub.proofs.WorldRules.{lane_there, only_bay, sent_here}

module _ {D : Type 0} (meaning : D → Meaning) (settled : SettledIs D) (told : List ToldSession) (w : WorldView D) (h : IsSettledWorld meaning settled told w) where
  -- Honest stores.

  -- while the stores of the world are honest, so is the one that the last of a lane's sessions has
  last_true : (at : ℕ) (l : SettledLaneIs) → slice_get settled.lanes at ≡ Some l → IsHonestAt meaning w 0 (bay_of settled) settled.drive → StoreIsTrue (last_store l.sessions)
  last_true at l there honest = elim (last_of l.sessions) [
    | inl none ↦ subst StoreIsTrue (sym (ap last_store none)) tt
    | inr last ↦ (let k = in_all settled.lanes at l last.place last.s there last.there in
        let f = lane_found meaning settled told w h k.0 last.s k.1 in
        let stays = stays_of settled.drive.journal last.s f.0 f.2 in
        subst StoreIsTrue (stays.store_is ∙ sym last.store_is) (honest.sessions last.s.session.key.id f.0 f.1 f.2.0))
  ]

  -- and so is each lane's, wherever it lies
  store_true : (at : ℕ) (l : SettledLaneIs) → slice_get settled.lanes at ≡ Some l → IsHonestAt meaning w 0 (bay_of settled) settled.drive → StoreIsTrue (store_in l)
  store_true at l there honest =
      either_true l.store (last_store l.sessions) (honest.lanes at (lane_view l) (lane_there meaning settled told w h at l there)) (last_true at l there honest)

  -- Bodies.

  -- how the bodies of a session relate to its records, with this status, by this bay and drive
  abbrev BodiesOf : BayView D → DriveIs D → SessionView → Status → List Record → Type 0
  BodiesOf bay d v status records =
      HasBodies v.packer.room (bodies_with v.key (sent_to (meaning d.device).shelf d bay.queue)) (all_bodies (meaning d.device).shelf d bay.queue v) status records

  -- the bodies of a session that the world tells of are those that it was told to have sent
  told_bodies : (k : ℕ) (s : ToldSession) → slice_get told k ≡ Some s → IsHonestAt meaning w 0 (bay_of settled) settled.drive
      → BodiesOf (bay_of settled) settled.drive s.session s.session.status s.told
  told_bodies k s there honest =
      let st = told_stands meaning settled told w h k s there in
      let key = s.session.key in
      let shelf = (meaning settled.drive.device).shelf in
      let ps = pieces_in (settled.queue.taken ++ settled.queue.held) in
      let same : bodies_with key (sent_to shelf settled.drive (queue_view settled.queue)) ≡ st.own.bodies =
      ap (bodies_with key) (sent_are shelf settled.drive (queue_view settled.queue) settled.queue.taken h.follows (h.holds honest.device))
      ∙ bodies-keyed key ps ∙ ap bodies_in st.own.is ∙ bodies_from key 1 st.own.bodies in
      subst (λ (bs : List PackedBody). HasBodies s.session.packer.room bs (bs ++ parts_of s.session) s.session.status s.told) (sym same)
      (st.own.tells.bodies_are (λ spools. store_true st.in_lane.at st.in_lane.lane st.in_lane.there honest))

  -- so they relate to its records in the world
  bodies_here : (k : ℕ) (s : ToldSession) (e : WorldSession) → slice_get told k ≡ Some s → SettlesOne settled.drive.journal s e → IsHonestAt meaning w 0 (bay_of settled) settled.drive
      → BodiesOf (bay_of settled) settled.drive e.session (machine_session settled.drive.journal s).status s.told
  bodies_here k s e there one honest = elim (told_or_failed settled.drive.journal s e one) [
    | inl t ↦ subst (λ (status : Status). BodiesOf (bay_of settled) settled.drive e.session status s.told) (sym t.status_is)
        (subst (λ (v : SessionView). BodiesOf (bay_of settled) settled.drive v s.session.status s.told) (sym t.same) (told_bodies k s there honest))
    | inr f ↦ subst (λ (status : Status). BodiesOf (bay_of settled) settled.drive e.session status s.told) (sym f.status_is) tt
  ]

  -- the drive that is online in a bay is that of the line
  the_drive : (bay : BayView D) (d : DriveIs D) → bay ≡ bay_of settled → bay.drive ≡ Some d → d ≡ settled.drive
  the_drive bay d is online = cc (sym (ap (λ (b : BayView D). b.drive) is) ∙ online)

  -- in whatever bay its drive is online
  bodies_online : (k : ℕ) (s : ToldSession) (e : WorldSession) → slice_get told k ≡ Some s → SettlesOne settled.drive.journal s e → (at : ℕ) (bay : BayView D) (d : DriveIs D)
      → IsOnline w e.drive at bay d → IsHonestAt meaning w at bay d → BodiesOf bay d e.session (machine_session settled.drive.journal s).status s.told
  bodies_online k s e there one at bay d online honest =
      let status = (machine_session settled.drive.journal s).status in
      let o = only_bay meaning settled told w h at bay online.there in
      let drive = the_drive bay d o.1 online.online in
      (subst (λ (x : DriveIs D). IsHonestAt meaning w at bay x → BodiesOf bay x e.session status s.told) (sym drive)
      (subst (λ (b : BayView D). IsHonestAt meaning w at b settled.drive → BodiesOf b settled.drive e.session status s.told) (sym o.1)
      (subst (λ (n : ℕ). IsHonestAt meaning w n (bay_of settled) settled.drive → BodiesOf (bay_of settled) settled.drive e.session status s.told) (sym o.0)
      (bodies_here k s e there one)))) honest

  -- Closed sessions.

  -- nothing of one is on the way, and each of its blocks is synced
  none_out : (k : ℕ) (s : ToldSession) → slice_get told k ≡ Some s → s.session.status ≡ Closed
      → (IsOnTheWay settled.drive (queue_view settled.queue) s.session.key → ⊥) × (IsUnsynced settled.drive.journal s.session.key → ⊥)
  none_out k s there closed =
      let all = told_settled meaning settled told w h k s there closed in (
        none_on_the_way settled.drive (queue_view settled.queue) s.session.key (all.0 ∙ sent_here meaning settled told w h k s there),
        none_unsynced s.session.key settled.drive.journal (all.1 ∙ sym all.0),
      )

  -- so nothing of it is outstanding
  none_outstanding : (k : ℕ) (s : ToldSession) (e : WorldSession) → slice_get told k ≡ Some s → IsAsTold settled.drive.journal s e → s.session.status ≡ Closed → IsOutstanding w e → ⊥
  none_outstanding k s e there t closed (inl parts) =
      parts (ap parts_of t.same ∙ ((told_stands meaning settled told w h k s there).own.tells.closed closed).0)
  none_outstanding k s e there t closed (inr (at, bay, d, online, out)) =
      let o = only_bay meaning settled told w h at bay online.there in
      let drive = the_drive bay d o.1 online.online in
      let key : e.session.key ≡ s.session.key = ap (λ (v : SessionView). v.key) t.same in
      let none = none_out k s there closed in
      elim out [
        | inl way ↦ none.0 (subst (λ (x : SessionKey). IsOnTheWay settled.drive (queue_view settled.queue) x) key
            (subst (λ (b : BayView D). IsOnTheWay settled.drive b.queue e.session.key) o.1 (subst (λ (x : DriveIs D). IsOnTheWay x bay.queue e.session.key) drive way)))
        | inr unsynced ↦ none.1 (subst (λ (x : SessionKey). IsUnsynced settled.drive.journal x) key (subst (λ (x : DriveIs D). IsUnsynced x.journal e.session.key) drive unsynced))
      ]

  -- Matching.

  -- each session matches
  session_matches : (k : ℕ) (s : ToldSession) (e : WorldSession) → slice_get told k ≡ Some s → SettlesOne settled.drive.journal s e
      → SessionMatches meaning w e (machine_session settled.drive.journal s)
  session_matches k s e there one =
      let tells = (told_stands meaning settled told w h k s there).own.tells in
      let stays = stays_of settled.drive.journal s e one in
      record {
        key_is = sym stays.key_is;
        status_is = elim (told_or_failed settled.drive.journal s e one) [
          | inl t ↦ t.status_is ∙ sym (ap (λ (v : SessionView). v.status) t.same)
          | inr f ↦ f.status_is ∙ sym (ap (λ (v : SessionView). v.status) f.drops.is)
        ];
        count_is = tells.count_is ∙ sym stays.count_is;
        bytes_are = tells.bytes_are ∙ sym stays.bytes_are;
        last_is = tells.last_is ∙ sym stays.last_is;
        bodies_are = bodies_online k s e there one;
        closed = λ closed out. elim (told_or_failed settled.drive.journal s e one) [
          | inl t ↦ none_outstanding k s e there t (sym t.status_is ∙ closed) out
          | inr f ↦ absurd (cc (sym f.status_is ∙ closed))
        ];
      }

  -- so all of them do
  each_matches : (ss : List ToldSession) (es : List WorldSession) → SettlesEach settled.drive.journal ss es
      → ((k : ℕ) (s : ToldSession) (e : WorldSession) → slice_get ss k ≡ Some s → SettlesOne settled.drive.journal s e → SessionMatches meaning w e (machine_session settled.drive.journal s))
      → SessionsMatch meaning w es (map (machine_session settled.drive.journal) ss)
  each_matches [] [] each one = tt
  each_matches [] (e ∷ es) each one = absurd each
  each_matches (s ∷ ss) [] each one = absurd each
  each_matches (s ∷ ss) (e ∷ es) each one = (one 0 s e refl each.0, each_matches ss es each.1 (λ k x y there settles. one (suc k) x y there settles))

  -- the world matches the machine
  pub matches : Matches meaning w (machine_of settled told)
  matches = record {
    time_is = sym (ap (λ l. l.time) h.becomes.limits_are);
    next_is = sym h.becomes.next_is;
    sessions = each_matches told w.sessions h.becomes.sessions session_matches;
  }
