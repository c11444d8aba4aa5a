-- The stop theorem for running threads.
use Rattle.std.proofs.Common.{◌≡◌, ℕ, sym, ap, subst, ◌∙◌, inl, inr, arith, Some, List, [], ◌∷◌, ◌++◌, slice_get}
use Rattle.std.specs.Prelude.{◌⊎◌}
use Rattle.atomic_table.specs.Seated.{TableId}
use Rattle.sd_base.specs.declared.number.SessionKey.{SessionKey}
use Rattle.sd_driver.specs.Meaning.{Meaning}
use Rattle.sd_drive.specs.Receipt.{ReceiptIs}
use Rattle.sd_drive.specs.View.{DriveIs}
use Rattle.sd_journal.specs.Journal.{placements}
use Rattle.sd_line.specs.Side.{LineIs}
use Rattle.sd_machine.specs.Machine.{Machine}
use Rattle.sd_machine.specs.declared.event.Event.TheVariants.{Close}
use Rattle.sd_machine.specs.declared.reply.Reply.TheVariants.{Closed}
use Rattle.sd_line.specs.Ends.{EndIs}
use Rattle.sd_session.specs.declared.status.Status.TheVariants as status
use Rattle.sd_hub.specs.Worlds.{IsSettledFrom, machine_of}
use Rattle.sd_span.specs.Spans.{spans_of}
use Rattle.sd_span.specs.declared.span.Span.{Span}
use Rattle.sd_theorem.specs.Headline.{HasStatus}
use Rattle.sd_theorem.specs.Start.{Meanings}
use Rattle.sd_theorem.specs.Told.{WereAsked}
use Rattle.sd_theorem.proofs.Deeds.{split_at}
use Rattle.sd_theorem.proofs.Returns.{WentOn, returns, some_one, stands_closed, none_some}
use Rattle.sd_theorem.proofs.Stood.{all_for, asked_stood}
use Rattle.sd_theorem.specs.Since.{HasReceipt}
use Rattle.sd_theorem.specs.ThreadStops.{ComesBackSince, IsClosedBetween, ThreadStopTheorem, WasClosedSince}
use Rattle.sd_theorem.proofs.Closed.{began, closed_here, closed_with}
use Rattle.sd_world.specs.Deeds.{Answered, Deed, LeadsTo}
use Rattle.sd_world.specs.Honest.{AreHonest}
use Rattle.sd_world.specs.Kept.{IsClosedAt}
use Rattle.sd_world.specs.Matches.{Matches}
use Rattle.sd_world.specs.Stands.{StandsClosed}
use Rattle.sd_world.specs.Steps.{IsSound}
use Rattle.sd_world.specs.World.{BayView, IsOnline, WorldSession, WorldView, session_at}
use Rattle.sd_world.proofs.ClaimLemmas.{one_drive}
use Rattle.sd_world.proofs.DeedLemmas.{leads_join, leads_keep, leads_run}
use Rattle.sd_world.proofs.Moves.{moves_keep_closed}

-- If the drive of a session that stands closed is online, its spans are those that the drive's journal gives.
stood_spans : {D : Type 0} (w : WorldView D) (key : SessionKey) (spans : List Span) (e : WorldSession) (at : ℕ) (bay : BayView D) (d : DriveIs D) → StandsClosed w key spans
    → session_at key.id w.sessions ≡ Some e → IsOnline w e.drive at bay d → spans ≡ spans_of key (placements d.journal)
stood_spans {D} w key spans e at bay d s there online =
    let one : s.e ≡ e = some_one (sym s.there ∙ there) in
    let on : IsOnline w s.e.drive at bay d = subst (λ (x : WorldSession). IsOnline w x.drive at bay d) (sym one) online in
    elim s.holds.3 [
      | inl is ↦ is.4 ∙ ap (λ (k : SessionKey). spans_of k (placements is.2.journal)) s.key_is
          ∙ ap (λ (x : DriveIs D). spans_of key (placements x.journal)) (one_drive w s.e.drive at is.0 bay is.1 d is.2 on is.3)
      | inr off ↦
          let here : off.0 ≡ at = omega (arith, off.2, on.number) in
          let same : off.1 ≡ bay = some_one (sym off.3 ∙ ap (slice_get w.bays) here ∙ on.there) in
          absurd (none_some (sym off.4 ∙ ap (λ (y : BayView D). y.drive) same ∙ on.online))
    ]

-- What is known of the world in which the session was closed.
record AtClose {D : Type 0} (meaning : D → Meaning) (key : SessionKey) (spans : List Span) (w : WorldView D) : Type 0 where
  sound : IsSound meaning w
  honest : AreHonest meaning w
  m : Machine
  matches : Matches meaning w m
  closed : IsClosedAt w key spans

module _ {D Q S : Type 0} (Z : Type 0) (is : Meanings D Q S) (table : ℕ → TableId) (time : ℕ → ℕ) (line : LineIs) (ends : List EndIs) (receipts : List ReceiptIs) (first : WorldView D)
    (from : IsSettledFrom is.device table time line ends receipts first) (sound : IsSound is.device first) (key : SessionKey) (spans : List Span) (w : WorldView D)
    (c : WasClosedSince is.device first (machine_of from.settled from.told) receipts key spans w) where
  abbrev Began : Matches is.device first (machine_of from.settled from.told)
  Began = began is.device table time line ends receipts first from

  -- Closed before.

  -- the spans that were told of it later are those that it had
  asked_with : HasStatus (machine_of from.settled from.told) key status.Closed → LeadsTo is.device first c.after w → WereAsked key spans c.after → IsClosedAt first key spans
  asked_with has leads asked =
      let closed = closed_here is.device table time line ends receipts first from key has in
      let stood = stands_closed is.device first key (spans_of key (placements from.settled.drive.journal)) sound closed in
      let before = (leads_keep is.device first w c.after sound leads).1.closed key (spans_of key (placements from.settled.drive.journal)) stood in
      let after = asked_stood is.device first w key spans (spans_of key (placements from.settled.drive.journal)) c.after sound stood leads asked in
      subst (IsClosedAt first key)
      (stood_spans w key (spans_of key (placements from.settled.drive.journal)) c.e c.at c.bay c.d before c.there c.online
      ∙ sym (stood_spans w key spans c.e c.at c.bay c.d after c.there c.online))
      closed

  -- so it was closed with them
  was_closed : HasStatus (machine_of from.settled from.told) key status.Closed → LeadsTo is.device first c.after w → HasReceipt key spans receipts ⊎ WereAsked key spans c.after
      → IsClosedAt first key spans
  was_closed has leads (inl receipt) = closed_with is.device table time line ends receipts first from key spans has receipt
  was_closed has leads (inr asked) = asked_with has leads asked

  -- The close.

  at_close : (before : List Deed) (then : WorldView D) → LeadsTo is.device first before then → LeadsTo is.device then c.after w
      → IsClosedBetween (machine_of from.settled from.told) receipts key spans before c.after → AtClose is.device key spans then
  at_close before then leads goes_on (inl (none, has, told)) =
      let same : then ≡ first = subst (λ (ds : List Deed). LeadsTo is.device first ds then) none leads in
      subst (AtClose is.device key spans) (sym same) (record {
        sound = sound;
        honest = c.honest;
        m = machine_of from.settled from.told;
        matches = Began;
        closed = was_closed has (subst (λ (x : WorldView D). LeadsTo is.device x c.after w) same goes_on) told;
      })
  at_close before then leads goes_on (inr (ticket, earlier, split)) =
      let p = split_at is.device first then earlier (Answered (Close ticket) (Closed key spans) ∷ []) (subst (λ (ds : List Deed). LeadsTo is.device first ds then) split leads) in
      let kept = leads_keep is.device first p.0 earlier sound p.1 in
      let all = leads_keep is.device first then before sound leads in
      let run = leads_run is.device first then before (machine_of from.settled from.told) sound leads Began in
      let now : then ≡ p.2.0 = p.2.2 in
      record {
        sound = all.0;
        honest = all.1.honest c.honest;
        m = run.0;
        matches = run.2;
        closed = subst (λ (x : WorldView D). IsClosedAt x key spans) (sym now)
            (moves_keep_closed is.device p.0 p.2.0 (Close ticket) (Closed key spans) kept.0.rules p.2.1.moves).stands;
      }

  went_on : WentOn is.device key spans w
  went_on =
      let x = at_close c.before c.at_close c.leads c.goes_on c.closed in
      record {
        at_close = c.at_close;
        sound = x.sound;
        honest = all_for is.device c.at_close x.honest key;
        honest_now = all_for is.device w ((leads_keep is.device c.at_close w c.after x.sound c.goes_on).1.honest x.honest) key;
        m = x.m;
        matches = x.matches;
        closed = x.closed;
        after = c.after;
        goes_on = c.goes_on;
        unpurged = c.unpurged;
        e = c.e;
        there = c.there;
        at = c.at;
        bay = c.bay;
        d = c.d;
        online = c.online;
      }

  comes_back : ComesBackSince Z is first (machine_of from.settled from.told) receipts key spans w c
  unfolding went_on
  comes_back =
      let leads = leads_join is.device first c.at_close w c.before c.after c.leads c.goes_on in
      let run = leads_run is.device first w (c.before ++ c.after) (machine_of from.settled from.told) sound leads Began in
      let r = returns Z is key spans w went_on run.0 run.2 in
      record {
        m = run.0;
        run = run.1;
        has = r.has;
        bay_then = r.bay_then;
        d_then = r.d_then;
        online_then = r.online_then;
        returns = r.returns;
      }

pub thread_stop_theorem : {D Q S Z : Type 0} → ThreadStopTheorem D Q S Z
thread_stop_theorem {Z = Z} is table time line ends receipts first from sound key spans w c = comes_back Z is table time line ends receipts first from sound key spans w c
