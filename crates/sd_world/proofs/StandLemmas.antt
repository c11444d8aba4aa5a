-- Sessions that were closed stand closed with their spans, whatever happens afterwards.
use Rattle.std.proofs.Common.{◌≡◌, ℕ, ◌+◌, refl, sym, ap, subst, ◌∙◌, inl, inr, arith, Option, Some, None, List, [], slice_get, append-nil}
use Rattle.sd_driver.specs.Meaning.{Meaning}
use Rattle.sd_drive.specs.View.{DriveIs}
use Rattle.sd_journal.specs.Journal.{Entry, placements}
use Rattle.sd_machine.specs.declared.event.Event.{Event}
use Rattle.sd_machine.specs.declared.event.Event.TheVariants.{Media}
use Rattle.sd_machine.specs.declared.reply.Reply.{Reply}
use Rattle.sd_machine.specs.declared.reply.Reply.TheVariants as reply
use Rattle.sd_span.specs.declared.span.Span.{Span}
use Rattle.sd_world.specs.World.{WorldView, WorldSession, BayView, HasTicket, session_at}
use Rattle.sd_world.specs.Sessions.{SpansAt}
use Rattle.sd_world.specs.Moves.{Moves}
use Rattle.sd_world.specs.Rules.{IsWorld}
use Rattle.sd_world.specs.Kept.{ClosedStands, IsRetired, StatusesStay, SpansStay, ClaimsLast}
use Rattle.sd_world.proofs.Moves.{moves_keep_rules, moves_keep_closed}
use Rattle.sd_world.proofs.MoveLeaves.{moves_keep_claims}
use Rattle.sd_world.specs.Grows.{Grows, AllGrow}
use Rattle.sd_world.specs.Seats.{SeatsStay}
use Rattle.sd_world.specs.Stays.{AreClaimed}
use Rattle.sd_world.specs.Stands.{ClosedLast, ReplyStands, ToldAreClaimed, StepsKeepSpans}
use Rattle.sd_world.specs.Steps.{DrivesKeep}
use Rattle.sd_world.proofs.ClaimLemmas.{closed_is_found, placed_is_found}
use Rattle.sd_world.proofs.GrowLemmas.{journals_grow}
use Rattle.sd_world.proofs.SeatLemmas.{moves_keep_seats}
use Rattle.sd_world.proofs.SpanLemmas.{closed_has_span}

-- the volumes of some spans stay claimed
claimed_stay : {D : Type 0} (w w' : WorldView D) (drive : ℕ) (spans : List Span) → ClaimsLast w w' → AreClaimed w.desk drive spans → AreClaimed w'.desk drive spans
claimed_stay w w' drive spans stay claimed at s within = stay _ drive (claimed at s within)

-- a drive that is offline stays so
offline_stays : {D : Type 0} (w w' : WorldView D) (drive at : ℕ) (bay bay' : BayView D) → AllGrow w w' → drive ≡ at + 1 → slice_get w.bays at ≡ Some bay → bay.drive ≡ None
    → slice_get w'.bays at ≡ Some bay' → bay'.drive ≡ None
offline_stays {D} w w' drive at bay bay' grow number there off there' = whether bay'.drive refl
  where
    whether : (o : Option (DriveIs D)) → bay'.drive ≡ o → o ≡ None
    whether None is = refl
    whether (Some d) is =
        let was = grow drive at bay' d (record { number = number; there = there'; online = is }) in
        let same : was.0 ≡ bay = cc (sym was.2.there ∙ there) in
        let none : Some was.1 ≡ None = sym was.2.online ∙ ap (λ (b : BayView D). b.drive) same ∙ off in
        absurd (cc none)

-- what a step leaves of closed sessions
pub record Leaves {D : Type 0} (w w' : WorldView D) : Type 0 where
  pub rules : IsWorld w'
  pub statuses : StatusesStay w w'
  pub spans : SpansStay w w'
  pub seats : SeatsStay w w'
  pub grow : AllGrow w w'
  pub claims : ClaimsLast w w'

same_growth : (journal : List Entry) → Grows journal journal
same_growth journal = ([], sym (append-nil (placements journal)))

-- nothing changes
pub none_left : {D : Type 0} (w : WorldView D) → IsWorld w → Leaves w w
none_left w h = record {
  rules = h;
  statuses = λ key c. c;
  spans = λ key spans c. record { e = c.e; there = c.there; key_is = c.key_is; holds = inl c.holds };
  seats = λ ticket e there. (e, there, record { key_is = refl; drive_is = refl });
  grow = λ drive at bay d online. (bay, d, online, same_growth d.journal);
  claims = λ name drive claimed. claimed;
}

-- a session found before and after has its drive
same_drive : {D : Type 0} (w w' : WorldView D) (ticket : ℕ) (e e' : WorldSession) → SeatsStay w w' → session_at ticket w.sessions ≡ Some e
    → session_at ticket w'.sessions ≡ Some e' → e'.drive ≡ e.drive
same_drive w w' ticket e e' seats before after =
    let s = seats ticket e before in
    let is : s.0 ≡ e' = cc (sym s.1 ∙ after) in
    ap (λ (x : WorldSession). x.drive) (sym is) ∙ s.2.drive_is

-- a session whose drive was retired has it still, and it is retired
retired_stays : {D : Type 0} (w w' : WorldView D) (ticket : ℕ) (e e' : WorldSession) → IsWorld w' → AllGrow w w' → session_at ticket w'.sessions ≡ Some e'
    → e'.drive ≡ e.drive → IsRetired w e.drive → IsRetired w' e'.drive
retired_stays w w' ticket e e' rules grow there drive (at, bay, number, bay_is, offline) =
    let s = rules.seated ticket e' there in
    let same : s.at ≡ at = omega (arith, s.drive_is, number, drive) in
    let bay_there : slice_get w'.bays at ≡ Some s.bay = ap (slice_get w'.bays) (sym same) ∙ s.bay_there in
    (at, s.bay, drive ∙ number, bay_there, offline_stays w w' e.drive at bay s.bay grow number bay_is offline bay_there)

pub stands_on : {D : Type 0} (w w' : WorldView D) → Leaves w w' → ClosedLast w w'
stands_on {D} w w' l key spans s =
    let h = l.statuses key (record { e = s.e; there = s.there; key_is = s.key_is; holds = s.holds.0 }) in
    let drive : h.e.drive ≡ s.e.drive = same_drive w w' key.id s.e h.e l.seats s.there h.there in
    record {
      e = h.e;
      there = h.there;
      key_is = h.key_is;
      holds = (
        h.holds,
        s.holds.1,
        subst (λ n. AreClaimed w'.desk n spans) (sym drive) (claimed_stay w w' s.e.drive spans l.claims s.holds.2),
        elim s.holds.3 [
          | inl is ↦
              let c = l.spans key spans (record { e = s.e; there = s.there; key_is = s.key_is; holds = (s.holds.0, is) }) in
              let one : c.e ≡ h.e = cc (sym c.there ∙ h.there) in
              elim c.holds [
                | inl here ↦ inl (subst (λ x. SpansAt w' x spans) one here.1)
                | inr off ↦ inr (subst (λ (x : WorldSession). IsRetired w' x.drive) one off)
              ]
          | inr retired ↦ inr (retired_stays w w' key.id s.e h.e l.rules l.grow h.there drive retired)
        ],
      );
    }

pub closed_last : {D : Type 0} (meaning : D → Meaning) (w w' : WorldView D) (event : Event) (reply : Reply) → IsWorld w → Moves meaning w event reply w' → ClosedLast w w'
closed_last meaning w w' event reply h m =
    let k = moves_keep_closed meaning w w' event reply h m in
    stands_on w w' (record {
      rules = moves_keep_rules meaning w w' event reply h m;
      statuses = k.statuses;
      spans = k.spans;
      seats = moves_keep_seats meaning w w' event reply h m;
      grow = journals_grow meaning w w' event reply m;
      claims = moves_keep_claims meaning w w' event reply m;
    })

-- Replies.

-- the session that a reply closed stands closed
reply_stands : {D : Type 0} (meaning : D → Meaning) (w : WorldView D) (r : Reply) → IsWorld w → ClosedStands w r → DrivesKeep meaning w.bays → ReplyStands w r
reply_stands meaning w (reply.Closed key spans) h c keep =
    let s = c.holds.1 in
    record {
      e = c.e;
      there = c.there;
      key_is = c.key_is;
      holds = (
        inl c.holds.0,
        closed_has_span w key spans h c,
        closed_is_found meaning w key spans s.0 s.1 s.2 h c s.3 (keep s.0 s.1 s.2 s.3.there s.3.online),
        inl s,
      );
    }
reply_stands meaning w r h c keep = tt

-- the volumes of spans that were told are claimed
told_are_claimed : {D : Type 0} (meaning : D → Meaning) (w w' : WorldView D) (event : Event) (r : Reply) → IsWorld w' → Moves meaning w event r w'
    → DrivesKeep meaning w'.bays → ToldAreClaimed w' event r
told_are_claimed {D} meaning w w' (Media ticket) (reply.Media spans) h m keep = λ e' there.
    let told : (e : WorldSession) × HasTicket w' ticket e × SpansAt w' e spans =
    subst (λ (v : WorldView D). (e : WorldSession) × HasTicket v ticket e × SpansAt v e spans) (sym m.1) m.0 in
    let e = told.0 in
    let is : e ≡ e' = cc (sym told.1 ∙ there) in
    let s = told.2 in
    let ps = placements s.2.journal in
    subst (λ (x : WorldSession). AreClaimed w'.desk x.drive spans) is
    (subst (AreClaimed w'.desk e.drive) (sym s.4)
    (placed_is_found meaning w' e.session.key e.drive s.0 s.1 s.2 ps [] h s.3 (keep s.0 s.1 s.2 s.3.there s.3.online) (sym (append-nil ps))))
told_are_claimed meaning w w' event r h m keep = tt

pub steps_keep_spans : {D : Type 0} → StepsKeepSpans D
steps_keep_spans meaning w w' event r sound step = record {
  closed_last = closed_last meaning w w' event r sound.rules step.moves;
  stands = reply_stands meaning w' r step.sound.rules (moves_keep_closed meaning w w' event r sound.rules step.moves).stands step.sound.drives;
  told = told_are_claimed meaning w w' event r step.sound.rules step.moves step.sound.drives;
}
