-- The sessions of a settled line, in its world: those that are closed, and those of which there is a receipt.
use Rattle.std.proofs.Common.{◌≡◌, ℕ, refl, sym, ap, subst, ◌∙◌, append-nil, Option, Some, None, List, [], slice_get}
use Rattle.atomic_table.specs.Seated.{TableId}
use Rattle.sd_base.specs.declared.number.SessionKey.{SessionKey}
use Rattle.sd_driver.specs.Meaning.{Meaning}
use Rattle.sd_drive.specs.Receipt.{ReceiptIs}
use Rattle.sd_drive.specs.View.{DriveIs}
use Rattle.sd_journal.specs.Journal.{placements}
use Rattle.sd_line.specs.Side.{LineIs}
use Rattle.sd_machine.specs.Machine.{Machine, MachineSession, session_of}
use Rattle.sd_line.specs.Ends.{EndIs}
use Rattle.sd_session.specs.declared.status.Status.TheVariants.{Closed}
use Rattle.sd_hub.specs.Settles.{IsGiven}
use Rattle.sd_hub.specs.Worlds.{IsSettledFrom, bay_of, machine_of}
use Rattle.sd_hub.proofs.SettledLemmas.{IsSettledWorld, entry_of, is_settled}
use Rattle.sd_hub.proofs.WorldMatches.{matches}
use Rattle.sd_hub.proofs.WorldRules.{bay_there}
use Rattle.sd_span.specs.Spans.{spans_of}
use Rattle.sd_span.specs.declared.span.Span.{Span}
use Rattle.sd_theorem.specs.Headline.{HasStatus}
use Rattle.sd_theorem.proofs.Stood.{ToldOf}
use Rattle.sd_theorem.specs.Since.{HasReceipt, HasSession}
use Rattle.sd_world.specs.Kept.{IsClosedAt}
use Rattle.sd_world.specs.Matches.{Matches, SessionMatches}
use Rattle.sd_world.specs.Sessions.{SpansAt}
use Rattle.sd_world.specs.Stays.{AreClaimed}
use Rattle.sd_world.specs.Steps.{IsSound}
use Rattle.sd_world.specs.World.{IsOnline, WorldSession, WorldView, session_at}
use Rattle.sd_world.proofs.ClaimLemmas.{placed_is_found}
use Rattle.sd_world.proofs.Sessions.{found_session, no_session_found}

-- a session of the world that matches this one of the machine
pub record SeenSession {D : Type 0} (meaning : D → Meaning) (w : WorldView D) (ticket : ℕ) (s : MachineSession) : Type 0 where
  pub e : WorldSession
  pub there : session_at ticket w.sessions ≡ Some e
  pub matches : SessionMatches meaning w e s

-- each session of the machine that the world matches is one of the world
pub seen_session : {D : Type 0} (meaning : D → Meaning) (w : WorldView D) (m : Machine) (ticket : ℕ) (s : MachineSession) → Matches meaning w m
    → session_of ticket m.sessions ≡ Some s → SeenSession meaning w ticket s
seen_session meaning w m ticket s pairs has = by (session_at ticket w.sessions) refl
  where
    by : (o : Option WorldSession) → session_at ticket w.sessions ≡ o → SeenSession meaning w ticket s
    by None none =
        let both : None ≡ Some s = sym (no_session_found meaning w ticket w.sessions m.sessions pairs.sessions none) ∙ has in
        absurd (cc both)
    by (Some e) there =
        let f = found_session meaning w ticket w.sessions m.sessions e pairs.sessions there in
        let same : f.session ≡ s = cc (sym f.there ∙ has) in
        record { e = e; there = there; matches = subst (λ x. SessionMatches meaning w e x) same f.matches }

module _ {D : Type 0} (meaning : D → Meaning) (table : ℕ → TableId) (time : ℕ → ℕ) (line : LineIs) (ends : List EndIs) (receipts : List ReceiptIs) (w : WorldView D)
    (from : IsSettledFrom meaning table time line ends receipts w) where
  -- The world.

  -- it is that of a settled line
  pub settled_world : IsSettledWorld meaning from.settled from.told w
  settled_world = is_settled meaning table time from.checked from.settled from.told w from.settles from.becomes

  -- it matches the machine of what the parts were told
  pub began : Matches meaning w (machine_of from.settled from.told)
  began = matches meaning from.settled from.told w settled_world

  -- Sessions.

  -- each is at the one drive
  online_here : (ticket : ℕ) (e : WorldSession) → session_at ticket w.sessions ≡ Some e → IsOnline w e.drive 0 (bay_of from.settled) from.settled.drive
  online_here ticket e there = record {
    number = (entry_of meaning from.settled from.told w settled_world ticket e there).settles.0;
    there = bay_there meaning from.settled from.told w settled_world;
    online = refl;
  }

  -- so its spans are those of its key in the one journal
  spans_here : (key : SessionKey) (e : WorldSession) → session_at key.id w.sessions ≡ Some e → e.session.key ≡ key → SpansAt w e (spans_of key (placements from.settled.drive.journal))
  spans_here key e there own =
      (0, bay_of from.settled, from.settled.drive, online_here key.id e there, ap (λ (k : SessionKey). spans_of k (placements from.settled.drive.journal)) (sym own))

  -- each that is closed in the machine is closed in the world, with its spans
  pub closed_here : (key : SessionKey) → HasStatus (machine_of from.settled from.told) key Closed → IsClosedAt w key (spans_of key (placements from.settled.drive.journal))
  closed_here key has =
      let x = seen_session meaning w (machine_of from.settled from.told) key.id has.s began has.there in
      let own : x.e.session.key ≡ key = sym x.matches.key_is ∙ has.key_is in
      record {
        e = x.e;
        there = x.there;
        key_is = own;
        holds = (sym x.matches.status_is ∙ has.status_is, spans_here key x.e x.there own);
      }

  -- Receipts.

  -- the journal gives each
  pub given : (at : ℕ) (r : ReceiptIs) → slice_get receipts at ≡ Some r → IsGiven from.settled.drive.journal r
  given at r there =
      subst (λ (d : DriveIs D). IsGiven d.journal r) (sym from.settles.drive_is)
      (from.settles.passes.given at r (ap (λ (rs : List ReceiptIs). slice_get rs at) from.receipts_are ∙ there))

  -- so its spans are those of its key
  receipt_spans : (key : SessionKey) (spans : List Span) → HasReceipt key spans receipts → spans_of key (placements from.settled.drive.journal) ≡ spans
  receipt_spans key spans (at, r, there, own, is) =
      ap (λ (k : SessionKey). spans_of k (placements from.settled.drive.journal)) (sym own) ∙ sym (given at r there).spans_are ∙ is

  -- a closed session is closed with the spans of its receipt
  pub closed_with : (key : SessionKey) (spans : List Span) → HasStatus (machine_of from.settled from.told) key Closed → HasReceipt key spans receipts → IsClosedAt w key spans
  closed_with key spans has receipt = subst (IsClosedAt w key) (receipt_spans key spans receipt) (closed_here key has)

  -- a receipt tells the spans of a session that is there, and their volumes are claimed
  pub told_by : IsSound meaning w → (key : SessionKey) (spans : List Span) → HasSession (machine_of from.settled from.told) key → HasReceipt key spans receipts → ToldOf w key spans
  told_by sound key spans (s, has, own) receipt =
      let x = seen_session meaning w (machine_of from.settled from.told) key.id s began has in
      let ps = placements from.settled.drive.journal in
      let on = online_here key.id x.e x.there in
      let same = receipt_spans key spans receipt in
      record {
        e = x.e;
        there = x.there;
        spans_are = subst (SpansAt w x.e) same (spans_here key x.e x.there (sym x.matches.key_is ∙ own));
        claimed = subst (AreClaimed w.desk x.e.drive) same
            (placed_is_found meaning w key x.e.drive 0 (bay_of from.settled) from.settled.drive ps [] sound.rules on
            (sound.drives 0 (bay_of from.settled) from.settled.drive on.there on.online) (sym (append-nil ps)));
      }
