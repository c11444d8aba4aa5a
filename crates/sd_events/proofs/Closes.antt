-- What a close does to a world.
use Rattle.std.proofs.Common.{◌≡◌, ◌≢◌, ◌⊎◌, ℕ, [], refl, sym, ap, subst, ◌∙◌, inl, inr, Option, Some, None, List, slice_set, Bor}
use Rattle.std.specs.Prelude.{IsSome, IsTrue}
use Rattle.std.specs.Option.{option_copied}
use Rattle.sd_base.specs.declared.number.SessionKey.{SessionKey}
use Rattle.sd_base.specs.declared.refusal.Refusal.{Refusal}
use Rattle.sd_base.specs.declared.refusal.Refusal.TheVariants.{Memory}
use Rattle.sd_drive.specs.View.{DriveIs}
use Rattle.sd_journal.specs.Journal.{progress_of, placements}
use Rattle.sd_span.specs.Spans.{spans_of}
use Rattle.sd_span.specs.declared.progress.Progress.{Progress}
use Rattle.sd_span.specs.declared.span.Span.{Span}
use Rattle.sd_session.specs.declared.status.Status.TheVariants.{Closed}
use Rattle.sd_session.specs.Session.{SessionView, parts_of, MayClose, ClosesSession, CloseRefused}
use Rattle.sd_world.specs.World.{WorldView, WorldSession, BayView, IsOnline}
use Rattle.sd_world.specs.Sessions.{CloseCauses, ClosesAt}
use Rattle.sd_events.proofs.Found.{IsReadAt}
use Rattle.sd_events.proofs.Seats.{IsSeatedAt, online_read}

-- what was copied from a reference is there
pub is_some_copied : {A : Type 0} (o : Option (Bor A)) (x : A) → option_copied o ≡ Some x → IsSome o
is_some_copied None x is = absurd (cc is)
is_some_copied (Some r) x is = refl

-- The drive that was asked how far the session's blocks are.
pub record IsAsked {D : Type 0} (w : WorldView D) (e : WorldSession) (place : ℕ) (bay : BayView D) (d : DriveIs D) (progress : Progress) : Type 0 where
  pub online : IsOnline w e.drive place bay d
  pub far : progress ≡ progress_of e.session.key d.journal

pub asked : {D : Type 0} {w : WorldView D} {ticket at place : ℕ} {e : WorldSession} {bay : BayView D} (o : Option (Bor (DriveIs D))) (r : Bor (DriveIs D)) (key : SessionKey) (progress : Progress)
    → IsSeatedAt w ticket at place e bay → option_copied o ≡ bay.drive → o ≡ Some r → progress ≡ progress_of key r.now.journal → key ≡ e.session.key
    → IsAsked w e place bay r.now progress
asked o r key progress s copied there told same = record {
  online = online_read r.now s (sym copied ∙ ap option_copied there);
  far = told ∙ ap (λ k. progress_of k r.now.journal) same;
}

-- why a session may not be closed that has its drive online
pub close_causes : {D : Type 0} {w : WorldView D} {e : WorldSession} {place : ℕ} {bay : BayView D} {d : DriveIs D} {progress : Progress} (why : Refusal)
    → IsAsked w e place bay d progress → CloseRefused e.session progress why → CloseCauses w why e
close_causes why a (inl r) = inl r
close_causes {place = place} {bay = bay} {d = d} why a (inr (inl r)) =
    inr (r.0, place, bay, d, a.online, inl (inr (inl (r.0, subst (λ (p : Progress). IsTrue p.failed) a.far r.1, r.2))))
close_causes {e = e} {place = place} {bay = bay} {d = d} why a (inr (inr r)) =
    inr (r.0, place, bay, d, a.online, inl (inr (inr (r.0, ap (λ (p : Progress). p.failed) (sym a.far) ∙ r.1, subst (λ (p : Progress). (parts_of e.session ≢ []) ⊎ (p.synced ≢ e.session.sent)) a.far r.2, r.3))))

-- out of memory, if it may be closed
pub close_memory : {D : Type 0} {w : WorldView D} {e : WorldSession} {place : ℕ} {bay : BayView D} {d : DriveIs D} {progress : Progress}
    → IsAsked w e place bay d progress → MayClose e.session progress → CloseCauses w Memory e
close_memory {e = e} {place = place} {bay = bay} {d = d} a may =
    inr (
      may.ended,
      place,
      bay,
      d,
      a.online,
      inr (
        (
          record e.session { status = Closed },
          record { may = subst (MayClose e.session) a.far may; is = refl },
        ),
        refl,
      ),
    )

-- the session at its place is closed
pub closes_at : {D : Type 0} {w : WorldView D} {ticket at place : ℕ} {e : WorldSession} {bay : BayView D} {d : DriveIs D} {progress : Progress} (new : SessionView) (key : SessionKey) (spans : List Span)
    → IsAsked w e place bay d progress → IsReadAt ticket w.sessions at e → ClosesSession e.session progress new
    → key ≡ e.session.key → spans ≡ spans_of key (placements d.journal)
    → ClosesAt w ticket key spans (record w { sessions = slice_set w.sessions at (record e { session = new }) })
closes_at {w = w} {place = place} {e = e} {bay = bay} {d = d} new key spans a f closes key_is spans_are = record {
  e = e;
  has = f.found;
  at = place;
  bay = bay;
  d = d;
  online = a.online;
  session = new;
  closes = subst (λ (p : Progress). ClosesSession e.session p new) a.far closes;
  key_is = key_is;
  spans_are = spans_are;
  new_is = ap (λ (es : List WorldSession). record w { sessions = es })
      (f.changes (record e { session = new }) (ap (λ (x : SessionView). x.key.id) closes.is ∙ f.id_is));
}
