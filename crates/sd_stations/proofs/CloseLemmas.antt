-- What a close does to a session, and why it is refused.
use Rattle.std.proofs.Common.{◌≡◌, ◌≢◌, ◌⊎◌, refl, sym, ap, subst, ◌∙◌, inl, inr, None, List}
use Rattle.std.specs.Prelude.{Ok, Err}
use Rattle.sd_base.specs.declared.refusal.Refusal.{Refusal}
use Rattle.sd_base.specs.declared.refusal.Refusal.TheVariants.{Busy, NotYet, SessionFailed, SpoolFault}
use Rattle.sd_drive.specs.Receipt.{ReceiptIs}
use Rattle.sd_journal.specs.Journal.{Entry}
use Rattle.sd_line.specs.Closes.{Closes, IsDue}
use Rattle.sd_line.specs.Parts.{PartIs, with_session}
use Rattle.sd_line.specs.declared.closing.Closing.TheVariants.{Closed}
use Rattle.sd_session.specs.Session.{SessionView, DropsParts, FailsSession, IsRunning, status_refusal}
use Rattle.sd_session.specs.declared.status.Status.TheVariants.{Ended, Failed}
use Rattle.sd_stations.specs.Sends.{ClosesNow, DueRefused, IsShut, NowRefused, RestRefused, SendRefused, SendsOn, ShutRefused}
use Rattle.sd_stations.proofs.SendLemmas.{sends_none, status_kept}

ended_runs : (s : SessionView) → s.status ≡ Ended → IsRunning s.status
ended_runs s is = inr is

-- What the drive's lock tells.

drops : (s v : SessionView) → s.status ≡ Ended → FailsSession s v → DropsParts s Failed v
drops s v ended (inl f) = f.1
drops s v ended (inr f) = absurd (f.0 (ended_runs s ended))

pub due_refused : (apart : Type 0) (journal : List Entry) (why : Refusal) (s v : SessionView) → IsDue apart journal s (Err why) v → DueRefused s why v
due_refused apart journal why s v (inl c) = inl c
due_refused apart journal why s v (inr (inl c)) = inr (inl (c.0, c.2, drops s v c.0 c.3))
due_refused apart journal why s v (inr (inr c)) = inr (inr (c.0.ended, c.2, c.3))

-- nothing was due, and the part stays
pub none_due : (apart : Type 0) (journal : List Entry) (p q : PartIs) → IsDue apart journal p.session (Ok None) q.session → q ≡ with_session p q.session
    → (p.session.status ≡ Ended) × (q ≡ p)
none_due apart journal p q due same = (due.0, same ∙ ap (with_session p) due.3)

pub closes_now : (apart : Type 0) (journal : List Entry) (r : ReceiptIs) (s v : SessionView) → Closes apart journal s (Ok (Closed r)) v → ClosesNow s v
closes_now apart journal r s v c = record { ended = c.0.may.ended; none_left = c.0.may.none_left; is = c.0.is }

-- A close.

-- All bodies of the session were sent on for this, which is ended; or nothing was done yet.
abbrev pub SentAll : SessionView → SessionView → Type 0
SentAll s v = (v ≡ s) ⊎ ((s.status ≡ Ended) × SendsOn s v)

pub sent_all : (s v w : SessionView) → SentAll s v → w ≡ v → SentAll s w
sent_all s v w (inl is) same = inl (same ∙ is)
sent_all s v w (inr t) same = inr (t.0, subst (λ (x : SessionView). SendsOn s x) (sym same) t.1)

-- so it is as it was, or bodies were sent on
sends_of : (s v : SessionView) → SentAll s v → v.status ≡ Ended → (s.status ≡ Ended) × SendsOn s v
sends_of s v (inl is) ended =
    let own : s.status ≡ Ended = subst (λ (x : SessionView). x.status ≡ Ended) is ended in
    (own, sends_none s v (ended_runs s own) is)
sends_of s v (inr t) ended = t

pub is_shut : (s v w : SessionView) → SentAll s v → ClosesNow v w → IsShut s w
is_shut s v w so_far c = record { before = v; sends = (sends_of s v so_far c.ended).1; ended = c.ended; none_left = c.none_left; is = c.is }

pub waits_still : (s v : SessionView) → SentAll s v → v.status ≡ Ended → ShutRefused s NotYet v
waits_still s v so_far ended =
    let sent = sends_of s v so_far ended in
    inr (inl (sent.0, sent.1, inl refl))

pub shut_refused : (s v w : SessionView) (why : Refusal) → SentAll s v → NowRefused v why w → ShutRefused s why w
shut_refused s v w why so_far (inr t) =
    let sent = sends_of s v so_far t.0 in
    inr (inl (sent.0, subst (λ (x : SessionView). SendsOn s x) (sym t.2) sent.1, inl t.1))
shut_refused s v w why (inl is) (inl (inl t)) =
    inl (subst (λ (x : SessionView). (x.status ≢ Ended) × (why ≡ status_refusal x.status) × (w ≡ x)) is t)
shut_refused s v w why (inr so_far) (inl (inl t)) = absurd (t.0 (status_kept s v so_far.1 ∙ so_far.0))
shut_refused s v w why so_far (inl (inr (inl t))) =
    let sent = sends_of s v so_far t.0 in
    inr (inr (sent.0, inr (record { before = v; sends = sent.1; fails = t.2 }), t.1))
shut_refused s v w why so_far (inl (inr (inr t))) =
    let sent = sends_of s v so_far t.0 in
    inr (inl (sent.0, subst (λ (x : SessionView). SendsOn s x) (sym t.2) sent.1, inr t.1))

pub rest_refused : (s v : SessionView) (why : Refusal) → s.status ≡ Ended → RestRefused NotYet SessionFailed s why v → ShutRefused s why v
rest_refused s v why ended (inl (inl t)) = inr (inl (ended, t.0, inr t.1))
rest_refused s v why ended (inl (inr t)) = inr (inr (ended, inl t.0, t.1))
rest_refused s v why ended (inr t) = inr (inl (ended, t.0, inl t.1))

-- What sending is refused for, in the words of a close, and of a record.

pub busy_told : (s v : SessionView) → RestRefused Busy SpoolFault s Busy v → RestRefused NotYet SessionFailed s NotYet v
busy_told s v (inl (inl t)) = absurd (cc t.1)
busy_told s v (inl (inr t)) = absurd (cc t.1)
busy_told s v (inr t) = inr (t.0, refl)

pub fault_told : (s v : SessionView) → SendRefused SpoolFault s SpoolFault v → SendRefused SessionFailed s SessionFailed v
fault_told s v (inl t) = absurd (cc t.1)
fault_told s v (inr t) = inr (t.0, refl)

pub rest_fault_told : (s v : SessionView) → RestRefused Busy SpoolFault s SpoolFault v → RestRefused NotYet SessionFailed s SessionFailed v
rest_fault_told s v (inl t) = inl (fault_told s v t)
rest_fault_told s v (inr t) = absurd (cc t.1)

pub other_told : (s v : SessionView) (why : Refusal) → why ≢ SpoolFault → SendRefused SpoolFault s why v → SendRefused SessionFailed s why v
other_told s v why other (inl t) = inl t
other_told s v why other (inr t) = absurd (other t.1)

pub rest_other_told : (s v : SessionView) (why : Refusal) → why ≢ Busy → why ≢ SpoolFault → RestRefused Busy SpoolFault s why v → RestRefused NotYet SessionFailed s why v
rest_other_told s v why other third (inl t) = inl (other_told s v why third t)
rest_other_told s v why other third (inr t) = absurd (other t.1)
