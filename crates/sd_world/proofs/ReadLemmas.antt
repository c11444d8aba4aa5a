-- What the spans of closed and cancelled sessions read to.
use Rattle.std.proofs.Common.{◌≡◌, ◌≢◌, ℕ, inl, inr, true, false, Some, List, [], ◌∷◌, ◌++◌, map, refl, ap, sym, subst, ◌∙◌, append-nil, arith, slice_get}
use Rattle.std.specs.Prelude.{IfSome}
use Rattle.std.proofs.lemmas.List.{append_assoc, map-append}
use Rattle.sd_base.specs.Record.{Record}
use Rattle.sd_base.specs.declared.number.SessionKey.{SessionKey}
use Rattle.sd_driver.specs.Meaning.{Meaning}
use Rattle.sd_driver.specs.Shelf.{Shelf}
use Rattle.sd_drive.specs.Shelf.{block_at}
use Rattle.sd_drive.specs.View.{DriveIs}
use Rattle.sd_journal.specs.Journal.{Entry, placements, placed_of, synced_of, has_purged}
use Rattle.sd_label.specs.Cutting.{Standing, Between, Within, AtEnd, Behind, Holds, WholeOf, is_ended}
use Rattle.sd_label.specs.Label.{AreTotals}
use Rattle.sd_label.proofs.CuttingLemmas.{holds_front, holds_begins}
use Rattle.sd_lane.specs.Queue.{LanesView}
use Rattle.sd_machine.specs.Machine.{Machine, MachineSession, session_of}
use Rattle.sd_machine.proofs.Lookups.{chosen}
use Rattle.sd_pack.specs.Body.{PackedBody}
use Rattle.sd_pack.specs.Packing.{bytes_of}
use Rattle.sd_record.specs.Fragment.{Fragment}
use Rattle.sd_readback.specs.Faults.{AreCountable}
use Rattle.sd_readback.specs.Reading.{Reads, blocks_of, volumes_on}
use Rattle.sd_world.specs.Lasting.{SpansLast}
use Rattle.sd_world.proofs.LastLemmas.{synced_spans_last}
use Rattle.sd_world.proofs.RestoreLemmas.{placed_read}
use Rattle.sd_session.specs.Session.{parts_of}
use Rattle.sd_session.specs.declared.status.Status.{Status}
use Rattle.sd_session.specs.declared.status.Status.TheVariants.{Closed, Cancelled, Purged}
use Rattle.sd_span.specs.Spans.{placements_of, spans_of, stretches, numbered_from}
use Rattle.sd_span.specs.declared.placement.Placement.{Placement}
use Rattle.sd_span.specs.declared.span.Span.{Span}
use Rattle.sd_world.specs.World.{WorldView, WorldSession, BayView, IsOnline, session_at}
use Rattle.sd_world.specs.Kept.{IsClosedAt}
use Rattle.sd_world.specs.Rules.{IsWorld}
use Rattle.sd_world.specs.Sessions.{SpansAt}
use Rattle.sd_world.specs.Matches.{Matches, SessionMatches, SessionsMatch, HasBodies, BeginsPacked, bodies_with, bodies_in, sent_to}
use Rattle.sd_world.specs.Grows.{AllGrow}
use Rattle.sd_world.specs.Seats.{SeatsStay}
use Rattle.sd_world.specs.Reads.{HasHonestDrive, HasCancelled, ReadsToAll, ReadsToFront, ClosedIsCountable}
use Rattle.sd_world.proofs.Bodies.{bodies_with-append}
use Rattle.sd_world.proofs.Sent.{placed_bodies, placed_more, coming, sent_are, packed_holds, cutting_holds}
use Rattle.sd_world.proofs.BodyLemmas.{none_of, none_gone, live_bodies, placed_bytes, placed_alike, all_synced}
use Rattle.sd_world.proofs.ClaimLemmas.{closed_spans, one_drive}

-- Sessions.

-- the machine has the session of the ticket, which matches the world's
record Found {D : Type 0} (meaning : D → Meaning) (w : WorldView D) (ticket : ℕ) (e : WorldSession) (ss : List MachineSession) : Type 0 where
  s : MachineSession
  there : session_of ticket ss ≡ Some s
  pair : SessionMatches meaning w e s

found : {D : Type 0} (meaning : D → Meaning) (w : WorldView D) (ticket : ℕ) (es : List WorldSession) (ss : List MachineSession) (e : WorldSession)
    → SessionsMatch meaning w es ss → session_at ticket es ≡ Some e → Found meaning w ticket e ss
found meaning w ticket [] ss e pairs at = absurd (cc at)
found meaning w ticket (x ∷ es) [] e pairs at = absurd pairs
found meaning w ticket (x ∷ es) (s ∷ ss) e pairs at =
    let id : s.key.id ≡ x.session.key.id = ap (λ (k : SessionKey). k.id) pairs.0.key_is in
    chosen (λ o. o ≡ Some e → Found meaning w ticket e (s ∷ ss)) x.session.key.id ticket (Some x) (session_at ticket es)
    (λ p q. let is : x ≡ e = cc q in record {
      s = s;
      there = chosen (λ o. o ≡ Some s) s.key.id ticket (Some s) (session_of ticket ss) (λ r. refl) (λ n. absurd (n (id ∙ p)));
      pair = subst (λ z. SessionMatches meaning w z s) is pairs.0;
    })
    (λ n q. let f = found meaning w ticket es ss e pairs.1 q in record {
      s = f.s;
      there = chosen (λ o. o ≡ Some f.s) s.key.id ticket (Some s) (session_of ticket ss) (λ p. absurd (n (sym id ∙ p))) (λ r. f.there);
      pair = f.pair;
    })
    at

-- all bodies that were sent of a session of which no block is gone: those placed, then those on the way
all_sent : {D : Type 0} (key : SessionKey) (shelf : Shelf) (d : DriveIs D) (queue : LanesView) → has_purged key d.journal ≡ false
    → bodies_with key (sent_to shelf d queue) ≡ bodies_with key (placed_bodies shelf (placements d.journal)) ++ bodies_with key (coming d queue)
all_sent key shelf d queue none = sent_are key shelf d queue ∙ ap (λ l. l ++ bodies_with key (coming d queue)) (live_bodies key shelf d.journal none)

-- Closed sessions.

-- what the drive has of a closed session: its blocks are synced, and they are a cutting of the machine's list
record Settles (shelf : Shelf) (journal : List Entry) (m : Machine) (key : SessionKey) : Type 0 where
  s : MachineSession
  there : session_of key.id m.sessions ≡ Some s
  key_is : s.key ≡ key
  closed : s.status ≡ Closed
  some : placements_of key (placements journal) ≢ []
  synced : synced_of key journal ≡ placed_of key journal
  whole : WholeOf (blocks_of key (map (block_at shelf) (placements journal))) s.records true

settles_own : {D : Type 0} (meaning : D → Meaning) (w : WorldView D) (m : Machine) (e : WorldSession) (at : ℕ) (bay : BayView D) (d : DriveIs D)
    → Matches meaning w m → session_at e.session.key.id w.sessions ≡ Some e → e.session.status ≡ Closed → HasHonestDrive meaning w e.drive at bay d
    → Settles (meaning d.device).shelf d.journal m e.session.key
settles_own meaning w m e at bay d pairs there closed h =
    let shelf = (meaning d.device).shelf in
    let key = e.session.key in
    let ps = placements d.journal in
    let f = found meaning w key.id w.sessions m.sessions e pairs.sessions there in
    let is : f.s.status ≡ Closed = f.pair.status_is ∙ closed in
    let none_out = f.pair.closed is in
    let none_own : parts_of e.session ≡ [] = none_of (parts_of e.session) (λ some. none_out (inl some)) in
    let none_coming : bodies_with key (coming d bay.queue) ≡ [] =
    none_of (bodies_with key (coming d bay.queue)) (λ some. none_out (inr (at, bay, d, h.online, inl some))) in
    let synced = all_synced key d.journal (λ un. none_out (inr (at, bay, d, h.online, inr un))) in
    let placed = bodies_with key (placed_bodies shelf ps) in
    let sent = bodies_with key (sent_to shelf d bay.queue) in
    let all = bodies_in shelf d bay.queue e.session in
    let all_are : all ≡ placed =
    ap (λ l. l ++ parts_of e.session) (all_sent key shelf d bay.queue (none_gone key d.journal synced))
    ∙ ap (λ l. (placed ++ l) ++ parts_of e.session) none_coming
    ∙ ap (λ l. (placed ++ []) ++ l) none_own
    ∙ append-nil (placed ++ [])
    ∙ append-nil placed in
    let packs = subst (λ (status : Status). HasBodies e.session.packer.room sent all status f.s.records) is (f.pair.bodies_are at bay d h.online h.honest) in
    let held = packed_holds e.session.packer.room all f.s.records AtEnd packs in
    let holds = subst (λ l. Holds l f.s.records AtEnd) (ap bytes_of all_are ∙ placed_bytes key shelf ps) held in
    record {
      s = f.s;
      there = f.there;
      key_is = f.pair.key_is;
      closed = is;
      some = λ none. (holds_begins (blocks_of key (map (block_at shelf) ps)) f.s.records AtEnd holds).some_there ((placed_alike key shelf ps).1 none);
      synced = synced;
      whole = (AtEnd, holds, refl);
    }

settles : {D : Type 0} (meaning : D → Meaning) (w : WorldView D) (m : Machine) (key : SessionKey) (spans : List Span) (at : ℕ) (bay : BayView D) (d : DriveIs D)
    → Matches meaning w m → (c : IsClosedAt w key spans) → HasHonestDrive meaning w c.e.drive at bay d → Settles (meaning d.device).shelf d.journal m key
settles meaning w m key spans at bay d pairs c h =
    let At : SessionKey → Type 0 = λ k. session_at k.id w.sessions ≡ Some c.e in
    subst (Settles (meaning d.device).shelf d.journal m) c.key_is (settles_own meaning w m c.e at bay d pairs (subst At (sym c.key_is) c.there) c.holds.0 h)

pub closed_reads : {D : Type 0} (meaning : D → Meaning) (w : WorldView D) (m : Machine) (key : SessionKey) (spans : List Span) (at : ℕ) (bay : BayView D) (d : DriveIs D)
    → Matches meaning w m → (c : IsClosedAt w key spans) → HasHonestDrive meaning w c.e.drive at bay d → ReadsToAll (volumes_on (meaning d.device).shelf) m key spans
closed_reads meaning w m key spans at bay d pairs c h =
    let device = meaning d.device in
    let ps = placements d.journal in
    let t = settles meaning w m key spans at bay d pairs c h in
    record {
      s = t.s;
      there = t.there;
      key_is = t.key_is;
      closed = t.closed;
      reads = subst (λ l. Reads (volumes_on device.shelf) key l t.s.records true) (sym (closed_spans w key spans at bay d c h.online))
          (placed_read device d.volumes d.loaded d.journal key ps [] t.s.records true h.kept h.honest.device (sym (append-nil ps)) t.some (none_gone key d.journal t.synced) t.whole);
    }

-- what comes before an end label is countable
ended_counts : (records : List Record) (standing : Standing) (fs : List Fragment) → Behind records standing fs → true ≡ is_ended standing → AreCountable records
ended_counts records Between fs b is = absurd (cc is)
ended_counts records Within fs b is = absurd (cc is)
ended_counts records AtEnd fs b is =
    let totals = subst (λ o. IfSome o AreTotals) b.1.totals_are b.1.label_is.totals in
    (totals.records, totals.bytes)

pub closed_is_countable : ClosedIsCountable
closed_is_countable volumes m key spans all =
    let whole = all.reads.whole in
    let session = whole.1.holds_by.session_is in
    ended_counts all.s.records whole.0 session.behind session.behind_is whole.2

pub closed_spans_last : {D : Type 0} (meaning : D → Meaning) (w : WorldView D) (m : Machine) (key : SessionKey) (spans : List Span) (at : ℕ) (bay : BayView D) (d : DriveIs D)
    → Matches meaning w m → (c : IsClosedAt w key spans) → HasHonestDrive meaning w c.e.drive at bay d
    → SpansLast (meaning d.device).shelf.moment (volumes_on (meaning d.device).shelf) (meaning d.device).shelf spans
closed_spans_last meaning w m key spans at bay d pairs c h =
    let device = meaning d.device in
    let t = settles meaning w m key spans at bay d pairs c h in
    subst (SpansLast device.shelf.moment (volumes_on device.shelf) device.shelf) (sym (closed_spans w key spans at bay d c h.online))
    (synced_spans_last device d.volumes d.loaded d.journal key h.kept h.honest.device t.synced)

-- Cancelled sessions.

-- what was sent of a session begins with the bodies of its first placements
record BeginsPlaced (sent dropped : List PackedBody) (blocks : List (List ℕ)) : Type 0 where
  more : List PackedBody
  bytes_are : bytes_of (sent ++ dropped) ≡ blocks ++ bytes_of more

begins_placed : {D : Type 0} (key : SessionKey) (shelf : Shelf) (d : DriveIs D) (queue : _) (dropped : List PackedBody) (ps more : List Placement) → placements d.journal ≡ ps ++ more → has_purged key d.journal ≡ false
    → BeginsPlaced (bodies_with key (sent_to shelf d queue)) dropped (blocks_of key (map (block_at shelf) ps))
begins_placed key shelf d queue dropped ps more split none =
    let first = bodies_with key (placed_bodies shelf ps) in
    let second = bodies_with key (placed_bodies shelf more) in
    let third = bodies_with key (coming d queue) in
    let bytes : PackedBody → List ℕ = λ b. b.bytes in
    let placed : bodies_with key (placed_bodies shelf (placements d.journal)) ≡ first ++ second =
    ap (λ l. bodies_with key (placed_bodies shelf l)) split ∙ ap (bodies_with key) (placed_more shelf ps more)
    ∙ bodies_with-append key (placed_bodies shelf ps) (placed_bodies shelf more) in
    record {
      more = (second ++ third) ++ dropped;
      bytes_are = ap (λ l. bytes_of (l ++ dropped)) (all_sent key shelf d queue none ∙ ap (λ l. l ++ third) placed ∙ append_assoc first second third)
          ∙ ap bytes_of (append_assoc first (second ++ third) dropped)
          ∙ map-append bytes first ((second ++ third) ++ dropped)
          ∙ ap (λ l. l ++ bytes_of ((second ++ third) ++ dropped)) (placed_bytes key shelf ps);
    }

-- no block is gone of a session that isn't purged
none_gone_at : {D : Type 0} (w : WorldView D) (ticket : ℕ) (e : WorldSession) (at : ℕ) (bay : BayView D) (d : DriveIs D) → IsWorld w → session_at ticket w.sessions ≡ Some e
    → e.session.status ≢ Purged → IsOnline w e.drive at bay d → has_purged e.session.key d.journal ≡ false
none_gone_at {D} w ticket e at bay d rules there other online =
    let seat = rules.seated ticket e there in
    let same : seat.at ≡ at = omega (arith, seat.drive_is, online.number) in
    let here : seat.bay ≡ bay = cc (sym seat.bay_there ∙ ap (slice_get w.bays) same ∙ online.there) in
    seat.none_gone other d (ap (λ (b : BayView D). b.drive) here ∙ online.online)

reads_own : {D : Type 0} (meaning : D → Meaning) (w : WorldView D) (m : Machine) (e : WorldSession) (at : ℕ) (bay : BayView D) (d : DriveIs D) (ps more : List Placement)
    → IsWorld w → Matches meaning w m → session_at e.session.key.id w.sessions ≡ Some e → e.session.status ≡ Cancelled → HasHonestDrive meaning w e.drive at bay d
    → placements d.journal ≡ ps ++ more → placements_of e.session.key ps ≢ []
    → ReadsToFront (volumes_on (meaning d.device).shelf) m e.session.key (blocks_of e.session.key (map (block_at (meaning d.device).shelf) ps)) (spans_of e.session.key ps)
reads_own meaning w m e at bay d ps more rules pairs there cancelled h split some =
    let none = none_gone_at w e.session.key.id e at bay d rules there (λ purged. cc (sym cancelled ∙ purged)) h.online in
    let device = meaning d.device in
    let shelf = device.shelf in
    let key = e.session.key in
    let room = e.session.packer.room in
    let f = found meaning w key.id w.sessions m.sessions e pairs.sessions there in
    let is : f.s.status ≡ Cancelled = f.pair.status_is ∙ cancelled in
    let sent = bodies_with key (sent_to shelf d bay.queue) in
    let blocks = blocks_of key (map (block_at shelf) ps) in
    let begins : BeginsPacked room sent f.s.records =
    subst (λ (status : Status). HasBodies room sent (bodies_in shelf d bay.queue e.session) status f.s.records) is (f.pair.bodies_are at bay d h.online h.honest) in
    let held = cutting_holds room (sent ++ begins.dropped) f.s.records begins.packs in
    let front = begins_placed key shelf d bay.queue begins.dropped ps more split none in
    let holds = subst (λ l. Holds l f.s.records held.0) front.bytes_are held.1 in
    let begun = holds_front blocks (bytes_of front.more) f.s.records held.0 (λ none. some ((placed_alike key shelf ps).0 none)) holds in
    let whole : WholeOf blocks begun.whole (is_ended begun.standing) = (begun.standing, begun.holds, refl {a = is_ended begun.standing}) in
    record {
      s = f.s;
      there = f.there;
      key_is = f.pair.key_is;
      cancelled = is;
      records = begun.whole;
      others = begun.others;
      ended = is_ended begun.standing;
      records_begin = begun.records_split;
      whole = whole;
      reads = placed_read device d.volumes d.loaded d.journal key ps more begun.whole (is_ended begun.standing) h.kept h.honest.device split some none whole;
    }

pub cancelled_reads : {D : Type 0} (meaning : D → Meaning) (w : WorldView D) (m : Machine) (key : SessionKey) (at : ℕ) (bay : BayView D) (d : DriveIs D) (ps more : List Placement)
    → IsWorld w → Matches meaning w m → (c : HasCancelled w key) → HasHonestDrive meaning w c.e.drive at bay d → placements d.journal ≡ ps ++ more → placements_of key ps ≢ []
    → ReadsToFront (volumes_on (meaning d.device).shelf) m key (blocks_of key (map (block_at (meaning d.device).shelf) ps)) (spans_of key ps)
cancelled_reads meaning w m key at bay d ps more rules pairs c h split some =
    let shelf = (meaning d.device).shelf in
    let At : SessionKey → Type 0 = λ k. session_at k.id w.sessions ≡ Some c.e in
    let Placed : SessionKey → Type 0 = λ k. placements_of k ps ≢ [] in
    let ReadsOf : SessionKey → Type 0 = λ k. ReadsToFront (volumes_on shelf) m k (blocks_of k (map (block_at shelf) ps)) (spans_of k ps) in
    subst ReadsOf c.key_is
    (reads_own meaning w m c.e at bay d ps more rules pairs (subst At (sym c.key_is) c.there) c.cancelled h split (subst Placed (sym c.key_is) some))

-- what was told of a session reads later
pub told_spans_read : {D : Type 0} (meaning : D → Meaning) (old w : WorldView D) (m : Machine) (e : WorldSession) (spans : List Span) (at : ℕ) (bay : BayView D) (d : DriveIs D)
    → session_at e.session.key.id old.sessions ≡ Some e → SpansAt old e spans → spans ≢ [] → SeatsStay old w → AllGrow old w → IsWorld w → Matches meaning w m → HasCancelled w e.session.key → HasHonestDrive meaning w e.drive at bay d
    → (bodies : List (List ℕ)) × ReadsToFront (volumes_on (meaning d.device).shelf) m e.session.key bodies spans
told_spans_read {D} meaning old w m e spans at bay d there told some seats grew rules pairs c h =
    let shelf = (meaning d.device).shelf in
    let key = e.session.key in
    let seat = seats key.id e there in
    let found_is : seat.0 ≡ c.e = cc (sym seat.1 ∙ c.there) in
    let on : c.e.drive ≡ e.drive = ap (λ (x : WorldSession). x.drive) (sym found_is) ∙ seat.2.drive_is in
    let was = grew e.drive at bay d h.online in
    let x = was.1 in
    let ps = placements x.journal in
    let blocks = blocks_of key (map (block_at shelf) ps) in
    let same : told.2 ≡ x = one_drive old e.drive at told.0 was.0 told.1 x told.2 was.2 told.3 in
    let spans_are : spans ≡ spans_of key ps = told.4 ∙ ap (λ (y : DriveIs D). spans_of key (placements y.journal)) same in
    let placed : placements_of key ps ≢ [] = λ none. some (spans_are ∙ ap (λ l. numbered_from 1 (stretches l)) none) in
    let here = subst (λ n. HasHonestDrive meaning w n at bay d) (sym on) h in
    (blocks, subst (ReadsToFront (volumes_on shelf) m key blocks) (sym spans_are) (cancelled_reads meaning w m key at bay d ps was.3.0 rules pairs c here was.3.1 placed))
