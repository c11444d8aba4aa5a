-- The session theorem.
use Rattle.std.proofs.Common.{◌≡◌, ◌≢◌, ℕ, refl, sym, ap, subst, ◌∙◌, inl, inr, arith, false, length-append, Option, Some, None, Result, List, [], length}
use Rattle.sd_base.specs.Record.{Record}
use Rattle.sd_base.specs.declared.number.SessionKey.{SessionKey}
use Rattle.sd_base.specs.declared.refusal.Refusal.{Refusal}
use Rattle.sd_driver.specs.Meaning.{Meaning}
use Rattle.sd_drive.specs.View.{DriveIs}
use Rattle.sd_label.specs.Cutting.{total_bytes}
use Rattle.sd_machine.specs.Machine.{Machine, MachineSession, empty_machine}
use Rattle.sd_machine.specs.declared.event.Event.TheVariants.{Media}
use Rattle.sd_machine.specs.declared.reply.Reply.TheVariants.{Media as Spans}
use Rattle.sd_readback.specs.Reading.{volumes_on}
use Rattle.sd_readback.specs.declared.read.ReadEnd.{ReadEnd}
use Rattle.sd_readback.proofs.FaultLemmas.{total_bytes-append}
use Rattle.sd_session.specs.declared.status.Status.TheVariants.{Cancelled}
use Rattle.sd_span.specs.declared.span.Span.{Span}
use Rattle.sd_world.specs.Drives.{was_purged}
use Rattle.sd_world.specs.World.{WorldView, WorldSession, BayView, IsOnline, session_at}
use Rattle.sd_world.specs.Matches.{Matches, SessionsMatch}
use Rattle.sd_world.proofs.Sessions.{found_session}
use Rattle.sd_world.specs.Stands.{StandsClosed}
use Rattle.sd_world.specs.Deeds.{Deed, IsRead, LeadsTo, StaysFrom}
use Rattle.sd_world.specs.Reading.{is_gone}
use Rattle.sd_world.specs.Reads.{HasCancelled, HasHonestDrive, ReadsToFront}
use Rattle.sd_world.specs.Stays.{AreClaimed}
use Rattle.sd_world.specs.Steps.{IsSound}
use Rattle.sd_world.proofs.DeedLemmas.{leads_keep, leads_run}
use Rattle.sd_world.proofs.FailSteps.{fail_by_cause}
use Rattle.sd_world.proofs.PurgedByCause.{purged_by_cause}
use Rattle.sd_world.proofs.ReadLemmas.{closed_reads, told_spans_read}
use Rattle.sd_theorem.specs.ByDrive.{HeadlineByDrive, IsHonestFor, StrikesByCause}
use Rattle.sd_theorem.specs.Headline.{HasStatus, ReadsClosed, ReadsCancelled, Headline}
use Rattle.sd_theorem.specs.Start.{Meanings, Start, StartsHonest, IsMadeOf}
use Rattle.sd_theorem.specs.Told.{WereAsked}
use Rattle.sd_theorem.proofs.Deeds.{given_at}
use Rattle.sd_theorem.proofs.Fresh.{made_honest}
use Rattle.sd_theorem.proofs.Read.{world_gives, world_refuses, world_purged, own_gone, counts_small}
use Rattle.sd_theorem.proofs.Stood.{ToldOf, all_for, is_then, told_of, told_stood}

module _ {D : Type 0} (meaning : D → Meaning) (w : WorldView D) (m : Machine) (sound : IsSound meaning w) (pairs : Matches meaning w m)
    (key : SessionKey) (honest : IsHonestFor meaning w key) (spans : List Span) (after : WorldView D) (got got' : List Record) (result : Result ReadEnd Refusal) (read : IsRead meaning key spans got got' result w after) where
  -- the drive of the session is honest, whatever number says it
  own_drive : (e : WorldSession) → session_at key.id w.sessions ≡ Some e → (drive at : ℕ) (bay : BayView D) (d : DriveIs D) → IsOnline w e.drive at bay d
      → IsOnline w drive at bay d → HasHonestDrive meaning w drive at bay d
  own_drive e there drive at bay d own online = record {
    online = online;
    kept = sound.drives at bay d online.there online.online;
    honest = honest e there at bay d own;
  }

  -- Closed sessions.

  pub reads_closed : StandsClosed w key spans → ReadsClosed meaning w m key spans got got' result
  reads_closed s =
      elim s.holds.3 [
        | inl p ↦ elim s.holds.0 [
          | inl closed ↦
              let here = own_drive s.e s.there s.e.drive p.0 p.1 p.2 p.3 p.3 in
              let t = closed_reads meaning w m key spans p.0 p.1 p.2 pairs (record { e = s.e; there = s.there; key_is = s.key_is; holds = (closed, p) }) here in
              let small = counts_small meaning w m key s.e t.s pairs s.there t.there read.fit in
              let kept = own_gone w key spans s.e sound.rules s.there s.key_is ∙ ap was_purged closed in
              record {
                s = t.s;
                has = t.there;
                key_is = t.key_is;
                e = s.e;
                there = s.there;
                reads = inl (
                  t.closed,
                  world_gives meaning w after key spans t.s.records _ got got' result s.e.drive p.0 p.1 p.2 p.3 s.holds.2 here.honest.device kept t.reads small.0 small.1 read.reads,
                );
              }
          | inr purged ↦
              let f = found_session meaning w key.id w.sessions m.sessions s.e pairs.sessions s.there in
              let gone = own_gone w key spans s.e sound.rules s.there s.key_is ∙ ap was_purged purged in
              record {
                s = f.session;
                has = f.there;
                key_is = f.matches.key_is ∙ s.key_is;
                e = s.e;
                there = s.there;
                reads = inr (inr (f.matches.status_is ∙ purged, world_purged meaning w after key spans got got' result s.e.drive p.0 p.1 p.2 p.3 s.holds.2 s.holds.1 gone read.reads));
              }
        ]
        | inr retired ↦
            let f = found_session meaning w key.id w.sessions m.sessions s.e pairs.sessions s.there in
            record {
              s = f.session;
              has = f.there;
              key_is = f.matches.key_is ∙ s.key_is;
              e = s.e;
              there = s.there;
              reads = inr (inl (world_refuses meaning w after key spans got got' result s.e.drive retired s.holds.2 s.holds.1 read.reads));
            }
      ]

  -- Cancelled ones.

  -- of the session's drive, which is online
  reads_front : (e : WorldSession) (bodies : List (List ℕ)) (at : ℕ) (bay : BayView D) (d : DriveIs D) → session_at key.id w.sessions ≡ Some e → is_gone w key spans ≡ false → IsOnline w e.drive at bay d → AreClaimed w.desk e.drive spans
      → ReadsToFront (volumes_on (meaning d.device).shelf) m key bodies spans → ReadsCancelled meaning w m key spans got got' result
  reads_front e bodies at bay d there kept online claimed t =
      let small = counts_small meaning w m key e t.s pairs there t.there read.fit in
      let few = small.0 in
      let light = small.1 in
      let long = ap length t.records_begin ∙ length-append t.records t.others in
      let wide = ap total_bytes t.records_begin ∙ total_bytes-append t.records t.others in
      record {
        has = record { s = t.s; there = t.there; key_is = t.key_is; status_is = t.cancelled };
        e = e;
        there = there;
        reads = inl (record {
          records = t.records;
          others = t.others;
          ended = t.ended;
          begin = t.records_begin;
          reads = world_gives meaning w after key spans t.records t.ended got got' result e.drive at bay d online claimed (honest e there at bay d online).device kept t.reads
              (omega (arith, long, few)) (omega (arith, wide, light)) read.reads;
        });
      }

  -- by spans that were told of the session at any moment before, while its volumes were claimed
  pub reads_told : (then : WorldView D) (deeds : List Deed) → StaysFrom meaning deeds then w → ToldOf then key spans → spans ≢ [] → HasStatus m key Cancelled
      → ReadsCancelled meaning w m key spans got got' result
  reads_told then deeds stays told some has =
      let seat = stays.seats key.id told.e told.there in
      let e = seat.0 in
      let f = found_session meaning w key.id w.sessions m.sessions e pairs.sessions seat.1 in
      let one : f.session ≡ has.s = cc (sym f.there ∙ has.there) in
      let cancelled : e.session.status ≡ Cancelled = sym f.matches.status_is ∙ ap (λ (x : MachineSession). x.status) one ∙ has.status_is in
      let own : e.session.key ≡ key = sym f.matches.key_is ∙ ap (λ (x : MachineSession). x.key) one ∙ has.key_is in
      let was : told.e.session.key ≡ key = sym seat.2.key_is ∙ own in
      let claimed : AreClaimed w.desk e.drive spans =
      subst (λ n. AreClaimed w.desk n spans) (sym seat.2.drive_is) (λ at s within. stays.claims _ told.e.drive (told.claimed at s within)) in
      let gone : HasCancelled w key = record { e = e; there = seat.1; key_is = own; cancelled = cancelled } in
      let place = sound.rules.seated key.id e seat.1 in
      let At : SessionKey → Type 0 = λ k. session_at k.id then.sessions ≡ Some told.e in
      let C : SessionKey → Type 0 = λ k. HasCancelled w k in
      let whether : (o : Option (DriveIs D)) → place.bay.drive ≡ o → ReadsCancelled meaning w m key spans got got' result = λ o.
      elim o as (λ o. place.bay.drive ≡ o → ReadsCancelled meaning w m key spans got got' result) [
        | None ↦ λ off. record {
          has = has;
          e = e;
          there = seat.1;
          reads = inr (world_refuses meaning w after key spans got got' result e.drive (place.at, place.bay, place.drive_is, place.bay_there, off) claimed some read.reads);
        }
        | Some d ↦ λ on.
            let online : IsOnline w e.drive place.at place.bay d = record { number = place.drive_is; there = place.bay_there; online = on } in
            let there : IsOnline w told.e.drive place.at place.bay d = subst (λ n. IsOnline w n place.at place.bay d) seat.2.drive_is online in
            let F : SessionKey → Type 0 = λ k. (bodies : List (List ℕ)) × ReadsToFront (volumes_on (meaning d.device).shelf) m k bodies spans in
            let front = subst F was
            (told_spans_read meaning then w m told.e spans place.at place.bay d (subst At (sym was) told.there) told.spans_are some stays.seats stays.grow sound.rules pairs (subst C (sym was) gone)
            (own_drive e seat.1 told.e.drive place.at place.bay d online there)) in
            reads_front e front.0 place.at place.bay d seat.1 (own_gone w key spans e sound.rules seat.1 own ∙ ap was_purged cancelled) online claimed front.1
      ] in
      whether place.bay.drive refl

  -- by those that were asked for in deeds since
  pub reads_cancelled : {first : WorldView D} (deeds : List Deed) → IsSound meaning first → LeadsTo meaning first deeds w
      → WereAsked key spans deeds → spans ≢ [] → HasStatus m key Cancelled → ReadsCancelled meaning w m key spans got got' result
  reads_cancelled {first} deeds sound0 leads given some has =
      let event = Media key.id in
      let reply = Spans spans in
      let g = given_at meaning first w event reply deeds leads given in
      let t = is_then meaning first w event reply sound0 g in
      reads_told g.now g.after t.stays (told_of meaning g.asked g.now key spans t.sound g.step) some has

-- a world that was just made matches the empty machine
pub made_matches : {D Q S Z : Type 0} (is : Meanings D Q S) (start : Start D Q S Z) (w : WorldView D) → IsMadeOf is start w → Matches is.device w (empty_machine start.time)
made_matches is start w made = record {
  time_is = ap (λ l. l.time) (sym made.fresh.limits_are);
  next_is = sym made.fresh.next_is;
  sessions = subst (λ es. SessionsMatch is.device w es []) (sym made.fresh.no_session) tt;
}

-- Drive by drive.

strikes : {D : Type 0} (meaning : D → Meaning) (first : WorldView D) (deeds : List Deed) → IsSound meaning first → StrikesByCause meaning first deeds
strikes meaning first deeds sound before after event reply old new split leads step =
    let rules = (leads_keep meaning first old before sound leads).0.rules in
    (fail_by_cause meaning old new event reply rules step.moves, purged_by_cause meaning old new event reply rules step.moves)

pub by_drive : {D Q S Z : Type 0} → HeadlineByDrive D Q S Z
by_drive is start first w deeds made leads =
    let kept = leads_keep is.device first w deeds made.sound leads in
    let run = leads_run is.device first w deeds (empty_machine start.time) made.sound leads (made_matches is start first made) in
    record {
      m = run.0;
      run = run.1;
      matches = run.2;
      strikes = strikes is.device first deeds made.sound;
      closed = λ key spans told honest after got got' result read.
          reads_closed is.device w run.0 kept.0 run.2 key honest spans after got got' result read
          (told_stood is.device first w key spans deeds made.sound leads told);
      cancelled = λ key spans asked some has honest after got got' result read.
          reads_cancelled is.device w run.0 kept.0 run.2 key honest spans after got got' result read deeds made.sound leads asked some has;
    }

-- With all devices and stores honest.

pub headline : {D Q S Z : Type 0} → Headline D Q S Z
headline is start first w deeds made leads =
    let lists = by_drive is start first w deeds made leads in
    let kept = leads_keep is.device first w deeds made.sound leads in
    let own : StartsHonest is start → (key : SessionKey) → IsHonestFor is.device w key = λ honest key. all_for is.device w (kept.1.honest (made_honest is start first made honest)) key in
    record {
      m = lists.m;
      run = lists.run;
      matches = lists.matches;
      closed = λ honest key spans told after got got' result read. lists.closed key spans told (own honest key) after got got' result read;
      cancelled = λ honest key spans asked some has after got got' result read. lists.cancelled key spans asked some has (own honest key) after got got' result read;
    }
