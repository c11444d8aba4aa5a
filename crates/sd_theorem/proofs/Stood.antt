-- How closed sessions whose spans were told stand, and what is honest for them.
use Rattle.std.proofs.Common.{◌≡◌, ◌≢◌, ℕ, sym, ap, subst, ◌∙◌, inl, inr, arith, Some, List, [], slice_get}
use Rattle.sd_base.specs.declared.number.SessionKey.{SessionKey}
use Rattle.sd_driver.specs.Meaning.{Meaning}
use Rattle.sd_drive.specs.View.{DriveIs}
use Rattle.sd_journal.specs.Journal.{placements}
use Rattle.sd_machine.specs.declared.event.Event.{Event}
use Rattle.sd_machine.specs.declared.event.Event.TheVariants.{Close, Media}
use Rattle.sd_machine.specs.declared.reply.Reply.{Reply}
use Rattle.sd_machine.specs.declared.reply.Reply.TheVariants.{Closed, Media as Spans}
use Rattle.sd_span.specs.Spans.{spans_of}
use Rattle.sd_span.specs.declared.span.Span.{Span}
use Rattle.sd_world.specs.Honest.{AreHonest}
use Rattle.sd_world.specs.Sessions.{SpansAt}
use Rattle.sd_world.specs.World.{WorldView, WorldSession, BayView, HasTicket, IsOnline, session_at}
use Rattle.sd_world.specs.Deeds.{Deed, LeadsTo, StaysFrom}
use Rattle.sd_world.specs.Reads.{HasHonestDrive}
use Rattle.sd_world.specs.Stands.{StandsClosed}
use Rattle.sd_world.specs.Stays.{AreClaimed}
use Rattle.sd_world.specs.Steps.{IsSound, IsStep}
use Rattle.sd_world.proofs.ClaimLemmas.{one_drive}
use Rattle.sd_world.proofs.DeedLemmas.{leads_keep}
use Rattle.sd_world.proofs.StandLemmas.{steps_keep_spans}
use Rattle.sd_theorem.specs.ByDrive.{IsHonestFor}
use Rattle.sd_theorem.specs.Told.{WasClosedWith, WereAsked, WereToldClosed}
use Rattle.sd_theorem.proofs.Deeds.{GivenAt, given_at, split_at}

-- if all is honest, so is the drive of each session
pub all_for : {D : Type 0} (meaning : D → Meaning) (w : WorldView D) → AreHonest meaning w → (key : SessionKey) → IsHonestFor meaning w key
all_for meaning w honest key e there at bay d online = record {
  device = honest.devices e.drive at bay d online;
  lanes = λ place lane here. honest.lanes at place bay lane online.there here;
  sessions = λ ticket s here on. honest.sessions ticket s here;
}

-- the drive is online and honest
pub honest_drive : {D : Type 0} (meaning : D → Meaning) (w : WorldView D) (drive at : ℕ) (bay : BayView D) (d : DriveIs D) → IsSound meaning w → AreHonest meaning w
    → IsOnline w drive at bay d → HasHonestDrive meaning w drive at bay d
honest_drive meaning w drive at bay d sound honest online = record {
  online = online;
  kept = sound.drives at bay d online.there online.online;
  honest = record {
    device = honest.devices drive at bay d online;
    lanes = λ place lane there. honest.lanes at place bay lane online.there there;
    sessions = λ ticket e there on. honest.sessions ticket e there;
  };
}

-- What is known of the world at a reply, and how it goes on from there.
pub record IsThen {D : Type 0} (meaning : D → Meaning) (new : WorldView D) (asked now : WorldView D) (after : List Deed) : Type 0 where
  pub sound : IsSound meaning asked
  pub stays : StaysFrom meaning after now new

pub is_then : {D : Type 0} (meaning : D → Meaning) (old new : WorldView D) (event : Event) (reply : Reply) → IsSound meaning old → (g : GivenAt meaning old new event reply)
    → IsThen meaning new g.asked g.now g.after
is_then meaning old new event reply sound g = record {
  sound = (leads_keep meaning old g.asked g.before sound g.leads).0;
  stays = (leads_keep meaning g.now new g.after g.step.sound g.goes_on).1;
}

-- by a close
closed_stood : {D : Type 0} (meaning : D → Meaning) (old new : WorldView D) (key : SessionKey) (spans : List Span) (deeds : List Deed) → IsSound meaning old
    → LeadsTo meaning old deeds new → WasClosedWith key spans deeds → StandsClosed new key spans
closed_stood meaning old new key spans deeds sound leads (ticket, given) =
    let event = Close ticket in
    let reply = Closed key spans in
    let g = given_at meaning old new event reply deeds leads given in
    let t = is_then meaning old new event reply sound g in
    t.stays.closed key spans (steps_keep_spans meaning g.asked g.now event reply t.sound g.step).stands

-- What was told when spans were asked for: the session, its spans, and that their volumes are claimed.
pub record ToldOf {D : Type 0} (w : WorldView D) (key : SessionKey) (spans : List Span) : Type 0 where
  pub e : WorldSession
  pub there : session_at key.id w.sessions ≡ Some e
  pub spans_are : SpansAt w e spans
  pub claimed : AreClaimed w.desk e.drive spans

pub told_of : {D : Type 0} (meaning : D → Meaning) (asked now : WorldView D) (key : SessionKey) (spans : List Span) → IsSound meaning asked
    → IsStep meaning asked (Media key.id) (Spans spans) now → ToldOf now key spans
told_of {D} meaning asked now key spans sound step =
    let told : (e : WorldSession) × HasTicket now key.id e × SpansAt now e spans =
    subst (λ (v : WorldView D). (e : WorldSession) × HasTicket v key.id e × SpansAt v e spans) (sym step.moves.1) step.moves.0 in
    record {
      e = told.0;
      there = told.1;
      spans_are = told.2;
      claimed = (steps_keep_spans meaning asked now (Media key.id) (Spans spans) sound step).told told.0 told.1;
    }

-- the spans that are told of a session that stands closed are those that it stands closed with
one_list : {D : Type 0} (meaning : D → Meaning) (w : WorldView D) (key : SessionKey) (others spans : List Span) → (s : StandsClosed w key others) → SpansAt w s.e spans → others ≡ spans
one_list {D} meaning w key others spans s told = elim s.holds.3 [
  | inl is ↦ (
      let d : is.2 ≡ told.2 = one_drive w s.e.drive told.0 is.0 told.1 is.1 told.2 is.2 told.3 is.3 in
      is.4 ∙ ap (λ (x : DriveIs D). spans_of s.e.session.key (placements x.journal)) d ∙ sym told.4)
  | inr off ↦ (
      let place : off.0 ≡ told.0 = omega (arith, off.2, told.3.number) in
      let bay : off.1 ≡ told.1 = cc (sym off.3 ∙ ap (slice_get w.bays) place ∙ told.3.there) in
      absurd (cc (sym off.4 ∙ ap (λ (b : BayView D). b.drive) bay ∙ told.3.online)))
]

-- when spans were asked for after it was closed
pub asked_stood : {D : Type 0} (meaning : D → Meaning) (old new : WorldView D) (key : SessionKey) (spans others : List Span) (deeds : List Deed) → IsSound meaning old
    → StandsClosed old key others → LeadsTo meaning old deeds new → WereAsked key spans deeds → StandsClosed new key spans
asked_stood {D} meaning old new key spans others deeds sound stood leads given =
    let event = Media key.id in
    let reply = Spans spans in
    let g = given_at meaning old new event reply deeds leads given in
    let t = is_then meaning old new event reply sound g in
    let told = told_of meaning g.asked g.now key spans t.sound g.step in
    let before = (leads_keep meaning old g.asked g.before sound g.leads).1.closed key others stood in
    let s = (steps_keep_spans meaning g.asked g.now event reply t.sound g.step).closed_last key others before in
    let one : told.e ≡ s.e = cc (sym told.there ∙ s.there) in
    let spans_are : SpansAt g.now s.e spans = subst (λ x. SpansAt g.now x spans) one told.spans_are in
    let claimed : AreClaimed g.now.desk s.e.drive spans = subst (λ (x : WorldSession). AreClaimed g.now.desk x.drive spans) one told.claimed in
    let same : others ≡ spans = one_list meaning g.now key others spans s spans_are in
    t.stays.closed key spans (record {
      e = s.e;
      there = s.there;
      key_is = s.key_is;
      holds = (s.holds.0, subst (λ l. l ≢ []) same s.holds.1, claimed, inl spans_are);
    })

pub told_stood : {D : Type 0} (meaning : D → Meaning) (old new : WorldView D) (key : SessionKey) (spans : List Span) (deeds : List Deed) → IsSound meaning old
    → LeadsTo meaning old deeds new → WereToldClosed key spans deeds → StandsClosed new key spans
told_stood meaning old new key spans deeds sound leads (inl closed) = closed_stood meaning old new key spans deeds sound leads closed
told_stood {D} meaning old new key spans deeds sound leads (inr (first, later, others, split, closed, asked)) =
    let p = split_at meaning old new first later (subst (λ l. LeadsTo meaning old l new) split leads) in
    asked_stood meaning p.0 new key spans others later (leads_keep meaning old p.0 first sound p.1).0
    (closed_stood meaning old p.0 key others first sound p.1 closed) p.2 asked
