-- What was closed comes back, in whatever world it was closed.
use Rattle.std.proofs.Common.{◌≡◌, ◌≤◌, ◌+◌, ℕ, All, sym, ap, subst, ◌∙◌, inl, inr, arith, true, None, Some, List, get_or, slice_get}
use Rattle.std.specs.Prelude.{IfSome}
use Rattle.std.specs.Option.{option_map}
use Rattle.sd_base.specs.Record.{Record}
use Rattle.sd_base.specs.declared.number.SessionKey.{SessionKey}
use Rattle.sd_desk.specs.Desk.{claimed_by}
use Rattle.sd_desk.specs.declared.claim.Claim.{Claim}
use Rattle.sd_driver.specs.Meaning.{Meaning}
use Rattle.sd_driver.specs.Shelf.{Shelf, AfterStop, low_mark}
use Rattle.sd_drive.specs.View.{DriveIs}
use Rattle.sd_label.specs.Cutting.{Standing, Between, Within, AtEnd, Behind, is_ended}
use Rattle.sd_label.specs.Label.{AreTotals}
use Rattle.sd_machine.specs.Machine.{Machine}
use Rattle.sd_machine.specs.declared.event.Event.TheVariants.{Adopt}
use Rattle.sd_machine.specs.declared.reply.Reply.TheVariants.{Adopted}
use Rattle.sd_readback.specs.Faults.{AreCountable}
use Rattle.sd_readback.specs.Reading.{Reads, Volumes, volumes_on}
use Rattle.sd_record.specs.Fragment.{Fragment}
use Rattle.sd_readback.proofs.ReadingLemmas.{kept_read, reads_one}
use Rattle.sd_world.specs.Lasting.{SpansLast}
use Rattle.sd_world.proofs.LastLemmas.{lasting_spans_stay, lasting_spans_mark, lasting_spans_kept}
use Rattle.sd_session.specs.declared.status.Status.TheVariants.{Closed}
use Rattle.sd_span.specs.declared.span.Span.{Span}
use Rattle.sd_world.specs.Deeds.{Deed, LeadsTo, NonePurges}
use Rattle.sd_world.specs.Drives.{MovesDrive}
use Rattle.sd_world.specs.Kept.{IsClosedAt}
use Rattle.sd_world.specs.Matches.{Matches}
use Rattle.sd_world.specs.Reads.{HasHonestDrive, ReadsToAll}
use Rattle.sd_world.specs.Sessions.{SpansAt}
use Rattle.sd_world.specs.Stands.{StandsClosed}
use Rattle.sd_world.specs.Stays.{AreClaimed}
use Rattle.sd_world.specs.Steps.{IsSound}
use Rattle.sd_world.specs.World.{WorldView, WorldSession, BayView, IsOnline, session_at}
use Rattle.sd_world.proofs.ClaimLemmas.{closed_is_found}
use Rattle.sd_world.proofs.DeedLemmas.{leads_keep}
use Rattle.sd_world.proofs.ReadLemmas.{closed_reads, closed_spans_last}
use Rattle.sd_world.proofs.SpanLemmas.{closed_has_span}
use Rattle.sd_theorem.specs.Headline.{HasStatus}
use Rattle.sd_theorem.specs.Returns.{Returns}
use Rattle.sd_theorem.specs.Runs.{RunsOn, RunsStop, NonePurgesOf}
use Rattle.sd_theorem.specs.Start.{Meanings}
use Rattle.sd_theorem.specs.Told.{WereAdopted}
use Rattle.sd_theorem.proofs.Deeds.{given_at}
use Rattle.sd_theorem.proofs.Read.{world_gives, foreign_gone}
use Rattle.sd_theorem.proofs.Runs.{Survive, run_keeps, run_honest, found_stable, survive_stop, survive_runs}
use Rattle.sd_theorem.specs.ByDrive.{IsHonestFor}
use Rattle.sd_theorem.proofs.Unpurged.{none_noted, still_closed}

-- what is one and the same
pub some_one : {A : Type 0} {a b : A} → Some a ≡ Some b → a ≡ b
some_one is = cc is

-- and nothing isn't
pub none_some : {A : Type 0} {a : A} → None ≡ Some a → ⊥
none_some is = cc is

-- Adopted volumes.

-- a volume that a drive adopts is claimed for it
adopted_by : {D : Type 0} (meaning : D → Meaning) (w w' : WorldView D) (drive : ℕ) (name : List ℕ) (end next : ℕ)
    → MovesDrive meaning w drive (Adopt drive name) (Adopted end next) w' → claimed_by w'.desk name ≡ Some drive
adopted_by meaning w w' drive name end next (inl m) = absurd (cc m.1)
adopted_by {D} meaning w w' drive name end next (inr a) = ap (λ (x : WorldView D). claimed_by x.desk name) a.new_is ∙ ap (option_map (λ (c : Claim). c.drive)) a.moves.claims.claimed

-- volumes that a run adopted are claimed for the drive
adopted_claimed : {D Q S : Type 0} (Z : Type 0) (is : Meanings D Q S) (found : Shelf) (w : WorldView D) (r : RunsOn Z is found w) (drive : ℕ) (spans : List Span)
    → WereAdopted drive spans r.deeds → AreClaimed w.desk drive spans
adopted_claimed {D} Z is found w r drive spans adopted at s within =
    let name = (get_or spans at s).volume in
    let a = adopted at s within in
    let g = given_at is.device r.first w (Adopt drive name) (Adopted a.0 a.1) r.deeds r.leads a.2 in
    let now : claimed_by g.now.desk name ≡ Some drive = adopted_by is.device g.asked g.now drive name a.0 a.1 g.step.moves in
    (leads_keep is.device g.now w g.after g.step.sound g.goes_on).1.claims name drive now

-- What returns.

-- what comes before an end label is countable
ended_is_countable : (records : List Record) (standing : Standing) (fs : List Fragment) → Behind records standing fs → true ≡ is_ended standing → AreCountable records
ended_is_countable records Between fs b is = absurd (cc is)
ended_is_countable records Within fs b is = absurd (cc is)
ended_is_countable records AtEnd fs b is =
    let totals = subst (λ o. IfSome o AreTotals) b.1.totals_are b.1.label_is.totals in
    (totals.records, totals.bytes)

-- so is what spans read to, if the session ended
reads_countable : (volumes : Volumes) (key : SessionKey) (spans : List Span) (records : List Record) → Reads volumes key spans records true → AreCountable records
reads_countable volumes key spans records reads =
    let session = reads.whole.1.holds_by.session_is in
    ended_is_countable records reads.whole.0 session.behind session.behind_is reads.whole.2

-- What was read of spans when the shelf was the one returns: the spans last since on the shelf that it is now.
pub returns_of : {D Q S : Type 0} (Z : Type 0) (is : Meanings D Q S) (key : SessionKey) (spans : List Span) (records : List Record) (then now : Shelf) (volumes : Volumes)
    → All (λ (s : Span). s.end ≤ low_mark now then.moment s.volume) spans → SpansLast then.moment volumes now spans → Reads volumes key spans records true
    → Returns Z is key spans records then now
returns_of Z is key spans records then now volumes mark lasts reads =
    let survive : (left last : Shelf) (others : List Shelf) → AfterStop then.moment now left → RunsStop Z is spans left others last → Survive volumes spans last =
    λ left last others stop runs. survive_runs Z is volumes spans left last others runs (survive_stop then.moment volumes spans now left lasts stop) in
    record {
      mark = mark;
      survives = λ left last others stop runs. kept_read volumes (volumes_on last) key spans records true (survive left last others stop runs).kept reads;
      comes_back = λ left last others again after got got' result stop runs r adopted later none read.
          let shelf = (is.device r.d.device).shelf in
          let last_on = run_keeps Z is volumes spans last again r none ((survive left last others stop runs).last (found_stable Z is last again r)) in
          let kept = lasting_spans_kept last.moment volumes shelf shelf spans last_on (λ name bytes here. here.now) in
          let again_reads = kept_read volumes (volumes_on shelf) key spans records true kept reads in
          let world = leads_keep is.device r.first again r.deeds r.begins.sound r.leads in
          let kept_here = foreign_gone again key spans world.0.rules (λ same. absurd (omega (arith, later, same)))
          (none_noted is.device r.first again r.deeds spans r.begins.sound r.leads r.begins.fresh.no_claim none) in
          let countable = reads_countable volumes key spans records reads in
          (world_gives is.device again after key spans records true got got' result (r.at + 1) r.at r.bay r.d r.online
          (adopted_claimed Z is last again r (r.at + 1) spans adopted) (run_honest Z is last again r) kept_here again_reads countable.0 countable.1 read.reads).gives;
    }

-- Closed sessions.

-- In a sound world, which matches a machine, a session is closed with these spans. From there deeds led to the world now, none of
-- which purged a volume of the spans; and the session's drive is still online. It is honest in both worlds.
pub record WentOn {D : Type 0} (meaning : D → Meaning) (key : SessionKey) (spans : List Span) (w : WorldView D) : Type 0 where
  pub at_close : WorldView D
  pub sound : IsSound meaning at_close
  pub honest : IsHonestFor meaning at_close key
  pub honest_now : IsHonestFor meaning w key
  pub m : Machine
  pub matches : Matches meaning at_close m
  pub closed : IsClosedAt at_close key spans
  pub after : List Deed
  pub goes_on : LeadsTo meaning at_close after w
  pub unpurged : NonePurgesOf spans after
  pub e : WorldSession
  pub there : session_at key.id w.sessions ≡ Some e
  pub at : ℕ
  pub bay : BayView D
  pub d : DriveIs D
  pub online : IsOnline w e.drive at bay d

-- a closed session stands closed
pub stands_closed : {D : Type 0} (meaning : D → Meaning) (w : WorldView D) (key : SessionKey) (spans : List Span) → IsSound meaning w → IsClosedAt w key spans → StandsClosed w key spans
stands_closed meaning w key spans sound c =
    let s = c.holds.1 in
    record {
      e = c.e;
      there = c.there;
      key_is = c.key_is;
      holds = (
        inl c.holds.0,
        closed_has_span w key spans sound.rules c,
        closed_is_found meaning w key spans s.0 s.1 s.2 sound.rules c s.3 (sound.drives s.0 s.1 s.2 s.3.there s.3.online),
        inl s,
      );
    }

-- What comes back of it, by the machine that the world now matches.
pub record StillReturns {D Q S : Type 0} (Z : Type 0) (is : Meanings D Q S) (key : SessionKey) (spans : List Span) (w : WorldView D) (c : WentOn is.device key spans w)
    (m : Machine) : Type 0 where
  pub has : HasStatus m key Closed
  pub bay_then : BayView D
  pub d_then : DriveIs D
  pub online_then : IsOnline c.at_close c.e.drive c.at bay_then d_then
  pub returns : Returns Z is key spans has.s.records (is.device d_then.device).shelf (is.device c.d.device).shelf

module _ {D Q S : Type 0} (Z : Type 0) (is : Meanings D Q S) (key : SessionKey) (spans : List Span) (w : WorldView D) (c : WentOn is.device key spans w)
    (m : Machine) (pairs : Matches is.device w m) where
  -- The session's drive was online, and its spans last since.
  record SpansStood : Type 0 where
    bay : BayView D
    d : DriveIs D
    online : IsOnline c.at_close c.e.drive c.at bay d
    moment : (is.device d.device).shelf.moment ≤ (is.device c.d.device).shelf.moment
    all : ReadsToAll (volumes_on (is.device d.device).shelf) c.m key spans
    last : SpansLast (is.device d.device).shelf.moment (volumes_on (is.device d.device).shelf) (is.device c.d.device).shelf spans

  stood : SpansStood
  stood =
      let kept = leads_keep is.device c.at_close w c.after c.sound c.goes_on in
      let p = kept.1.devices c.e.drive c.at c.bay c.d c.online in
      let seat = kept.1.seats key.id c.closed.e c.closed.there in
      let one : seat.0 ≡ c.e = cc (sym seat.1 ∙ c.there) in
      let drive : c.e.drive ≡ c.closed.e.drive = ap (λ (y : WorldSession). y.drive) (sym one) ∙ seat.2.drive_is in
      let there : IsOnline c.at_close c.closed.e.drive c.at p.0 p.1 = subst (λ n. IsOnline c.at_close n c.at p.0 p.1) drive p.2 in
      let h : HasHonestDrive is.device c.at_close c.closed.e.drive c.at p.0 p.1 = record {
        online = there;
        kept = c.sound.drives c.at p.0 p.1 there.there there.online;
        honest = c.honest c.closed.e c.closed.there c.at p.0 p.1 there;
      } in
      let shelf = (is.device p.1.device).shelf in
      let last = closed_spans_last is.device c.at_close c.m key spans c.at p.0 p.1 c.matches c.closed h in
      record {
        bay = p.0;
        d = p.1;
        online = p.2;
        moment = p.3.moment;
        all = closed_reads is.device c.at_close c.m key spans c.at p.0 p.1 c.matches c.closed h;
        last = lasting_spans_stay (NonePurges c.after) shelf.moment (volumes_on shelf) shelf (is.device c.d.device).shelf spans (p.3.blocks h.honest.device) c.unpurged last;
      }

  -- It is closed still, and reads to the records of the machine of now, which are those that it had.
  record StandsNow : Type 0 where
    all : ReadsToAll (volumes_on (is.device c.d.device).shelf) m key spans
    same : stood.all.s.records ≡ all.s.records

  now : StandsNow
  unfolding stands_closed
  now =
      let t = stood in
      let kept = leads_keep is.device c.at_close w c.after c.sound c.goes_on in
      let first = stands_closed is.device c.at_close key spans c.sound c.closed in
      let still = still_closed is.device c.at_close w c.after key spans c.sound c.goes_on first c.closed.holds.0 c.unpurged in
      let s = still.0 in
      let one : s.e ≡ c.e = some_one (sym s.there ∙ c.there) in
      let drive : s.e.drive ≡ c.e.drive = ap (λ (y : WorldSession). y.drive) one in
      let online : IsOnline w s.e.drive c.at c.bay c.d = subst (λ n. IsOnline w n c.at c.bay c.d) (sym drive) c.online in
      let spans_are : SpansAt w s.e spans = elim s.holds.3 [
        | inl is_so ↦ is_so
        | inr off ↦
            let here : off.0 ≡ c.at = omega (arith, off.2, online.number) in
            let bay : off.1 ≡ c.bay = some_one (sym off.3 ∙ ap (slice_get w.bays) here ∙ online.there) in
            absurd (none_some (sym off.4 ∙ ap (λ (y : BayView D). y.drive) bay ∙ online.online))
      ] in
      let closed : IsClosedAt w key spans = record { e = s.e; there = s.there; key_is = s.key_is; holds = (still.1, spans_are) } in
      let h : HasHonestDrive is.device w s.e.drive c.at c.bay c.d = record {
        online = online;
        kept = kept.0.drives c.at c.bay c.d online.there online.online;
        honest = c.honest_now s.e s.there c.at c.bay c.d online;
      } in
      let all = closed_reads is.device w m key spans c.at c.bay c.d pairs closed h in
      let shelf = (is.device c.d.device).shelf in
      let kept_now = lasting_spans_kept (is.device t.d.device).shelf.moment (volumes_on (is.device t.d.device).shelf) shelf shelf spans t.last (λ name bytes lasts. lasts.now) in
      record {
        all = all;
        same = (reads_one (volumes_on shelf) key spans t.all.s.records all.s.records true true
            (kept_read (volumes_on (is.device t.d.device).shelf) (volumes_on shelf) key spans t.all.s.records true kept_now t.all.reads) all.reads).0;
      }

  pub returns : StillReturns Z is key spans w c m
  returns =
      let then = (is.device stood.d.device).shelf in
      let shelf = (is.device c.d.device).shelf in
      record {
        has = record { s = now.all.s; there = now.all.there; key_is = now.all.key_is; status_is = now.all.closed };
        bay_then = stood.bay;
        d_then = stood.d;
        online_then = stood.online;
        returns = returns_of Z is key spans now.all.s.records then shelf (volumes_on then)
            (lasting_spans_mark then.moment (volumes_on then) shelf spans stood.moment stood.last) stood.last
            (subst (λ l. Reads (volumes_on then) key spans l true) now.same stood.all.reads);
      }
