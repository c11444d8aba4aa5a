-- What the step of one session does to the world around it.
use Rattle.std.proofs.Common.{◌≡◌, ℕ, refl, ap, subst, ◌∙◌, inl, inr, List, slice_set}
use Rattle.sd_base.specs.declared.refusal.Refusal.{Refusal}
use Rattle.sd_session.specs.Session.{SessionView}
use Rattle.sd_session.specs.Spooling.{SpoolRefused}
use Rattle.sd_session.specs.Sending.{DespoolRefused}
use Rattle.sd_world.specs.World.{WorldView, WorldSession}
use Rattle.sd_world.specs.Sessions.{ChangesSession, TicketRefused}
use Rattle.sd_world.proofs.Lookups.{set_same}
use Rattle.sd_events.proofs.Found.{IsReadAt}

-- the world in which the session at a place is this one
abbrev pub with_session_at : {D : Type 0} → ℕ → WorldSession → SessionView → WorldView D → WorldView D
with_session_at at e s w = record w { sessions = slice_set w.sessions at (record e { session = s }) }

-- the session at its place takes a step that keeps its number
pub changes_one : {D : Type 0} (w : WorldView D) (ticket at : ℕ) (e : WorldSession) (s : SessionView) (change : SessionView → SessionView → Type 0)
    → IsReadAt ticket w.sessions at e → change e.session s → s.key.id ≡ e.session.key.id → ChangesSession w ticket (with_session_at at e s w) change
changes_one w ticket at e s change f changed key =
    (e, s, f.found, changed, ap (λ (es : List WorldSession). record w { sessions = es }) (f.changes (record e { session = s }) (key ∙ f.id_is)))

-- the session at its place stays as it is
pub stays_as : {D : Type 0} (w : WorldView D) (ticket at : ℕ) (e : WorldSession) (s : SessionView)
    → IsReadAt ticket w.sessions at e → s ≡ e.session → with_session_at at e s w ≡ w
stays_as w ticket at e s f same =
    ap (λ (x : SessionView). record w { sessions = slice_set w.sessions at (record e { session = x }) }) same
    ∙ ap (λ (es : List WorldSession). record w { sessions = es }) (set_same w.sessions at e f.there)

-- the session at its place refuses the event
pub refuses_one : {D : Type 0} (w : WorldView D) (ticket at : ℕ) (e : WorldSession) (s : SessionView) (why : Refusal) (causes : WorldSession → Type 0)
    → IsReadAt ticket w.sessions at e → causes e → s ≡ e.session → TicketRefused w ticket why causes × (with_session_at at e s w ≡ w)
refuses_one w ticket at e s why causes f cause same = (inr (e, f.found, cause), stays_as w ticket at e s f same)

-- the session at its place refuses the event, and is there as it was read
pub refuses_read : {D : Type 0} (w : WorldView D) (ticket at : ℕ) (e read : WorldSession) (why : Refusal) (causes : WorldSession → Type 0)
    → IsReadAt ticket w.sessions at e → e ≡ read → causes e → TicketRefused w ticket why causes × (with_session_at at read read.session w ≡ w)
refuses_read w ticket at e read why causes f same cause =
    subst (λ (x : WorldSession). TicketRefused w ticket why causes × (with_session_at at x x.session w ≡ w)) same
    (refuses_one w ticket at e e.session why causes f cause refl)

-- a step of spooling that is refused keeps the session's number
pub spool_keeps_key : (old new : SessionView) (why : Refusal) → SpoolRefused old why new → new.key.id ≡ old.key.id
spool_keeps_key old new why (inl r) = ap (λ (x : SessionView). x.key.id) r.1
spool_keeps_key old new why (inr (inl r)) = ap (λ (x : SessionView). x.key.id) r.2.drops.is
spool_keeps_key old new why (inr (inr r)) = ap (λ (x : SessionView). x.key.id) r.2

-- a step of sending that is refused keeps the session's number
pub despool_keeps_key : (old new : SessionView) (why : Refusal) → DespoolRefused old why new → new.key.id ≡ old.key.id
despool_keeps_key old new why (inl r) = ap (λ (x : SessionView). x.key.id) r.1
despool_keeps_key old new why (inr (inl r)) = ap (λ (x : SessionView). x.key.id) r.2.drops.is
despool_keeps_key old new why (inr (inr r)) = ap (λ (x : SessionView). x.key.id) r.2
