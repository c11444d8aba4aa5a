-- What sending does to a session, step by step, and what is refused after it.
use Rattle.std.proofs.Common.{◌≡◌, ◌≢◌, ◌⊎◌, ℕ, ◌+◌, refl, sym, ap, subst, ◌∙◌, inl, inr, Some, None, []}
use Rattle.sd_base.specs.Record.{Record}
use Rattle.sd_base.specs.declared.refusal.Refusal.{Refusal}
use Rattle.sd_base.specs.declared.refusal.Refusal.TheVariants.{Busy, SessionFailed, SpoolFault}
use Rattle.sd_line.specs.Parts.{SendsBy}
use Rattle.sd_line.specs.Side.{SeatIs}
use Rattle.sd_session.specs.Session.{SessionView, AppendRefused, IsRunning, MayTake, TakesRecord, status_refusal}
use Rattle.sd_session.specs.Sending.{DespoolRefused, Stations, TakesNext, goes_on, stations_of}
use Rattle.sd_session.specs.Spooling.{Spools, SpoolRefused}
use Rattle.sd_session.specs.declared.answer.Despooled.{Despooled}
use Rattle.sd_session.specs.declared.answer.Despooled.TheVariants.{Sent, LaneFull, Nothing, NotDue}
use Rattle.sd_session.specs.declared.answer.Spooling.{Spooling}
use Rattle.sd_session.specs.declared.answer.Spooling.TheVariants.{Spooled, SpoolFull, Nothing as NothingWaits, NoSpool}
use Rattle.sd_session.specs.declared.status.Status.{Status}
use Rattle.sd_session.specs.declared.status.Status.TheVariants.{Active, Ended, Closed, Cancelled, Failed, Purged}
use Rattle.sd_stations.specs.Sends.{AddRefused, Adds, FailsInSpool, RestRefused, SendRefused, SendsOn}

-- the session with what of another one sending may change
abbrev as_sent : SessionView → SessionView → SessionView
as_sent s v = record s { sent = v.sent; ready = v.ready; spool = v.spool; despooling = v.despooling; packer = v.packer }

sent_is : (s v x : SessionView) → v ≡ as_sent s x → v ≡ as_sent s v
sent_is s v x is = is ∙ ap (as_sent s) (sym is)

-- one that goes on, of which nothing was sent
pub sends_none : (s v : SessionView) → IsRunning s.status → v ≡ s → SendsOn s v
sends_none s v running is = record {
  running = running;
  is = sent_is s v s is;
  room_is = ap (λ (x : SessionView). x.packer.room) is;
  open_is = ap (λ (x : SessionView). x.packer.open_body) is;
}

pub status_kept : (s v : SessionView) → SendsOn s v → v.status ≡ s.status
status_kept s v g = ap (λ (x : SessionView). x.status) g.is

pub running_kept : (s v : SessionView) → SendsOn s v → IsRunning v.status
running_kept s v g = subst IsRunning (sym (status_kept s v g)) g.running

pub sends_then : (s v w : SessionView) → SendsOn s v → SendsOn v w → SendsOn s w
sends_then s v w g h = record {
  running = g.running;
  is = h.is ∙ ap (λ (x : SessionView). as_sent x w) g.is;
  room_is = h.room_is ∙ g.room_is;
  open_is = h.open_is ∙ g.open_is;
}

pub fails_then : (s v w : SessionView) → SendsOn s v → FailsInSpool v w → FailsInSpool s w
fails_then s v w g f = record { before = f.before; sends = sends_then s v f.before g f.sends; job = f.job; spool_is = f.spool_is; fails = f.fails }

pub refused_then : (told : Refusal) (s v w : SessionView) (why : Refusal) → SendsOn s v → SendRefused told v why w → SendRefused told s why w
refused_then told s v w why g (inl r) = inl (sends_then s v w g r.0, r.1)
refused_then told s v w why g (inr r) = inr (fails_then s v w g r.0, r.1)

pub rest_then : (waits told : Refusal) (s v w : SessionView) (why : Refusal) → SendsOn s v → RestRefused waits told v why w → RestRefused waits told s why w
rest_then waits told s v w why g (inl r) = inl (refused_then told s v w why g r)
rest_then waits told s v w why g (inr r) = inr (sends_then s v w g r.0, r.1)

-- A step of spooling.

pub spooled_on : (answer : Spooling) (s v : SessionView) → Spools answer s v → SendsOn s v
spooled_on Spooled s v t = record {
  running = t.running;
  is = sent_is s v (record s { spool = Some t.job'; packer = v.packer }) t.is;
  room_is = t.moves.room_is;
  open_is = t.moves.open_is;
}
spooled_on SpoolFull s v t = record {
  running = t.0;
  is = sent_is s v (record s { despooling = v.despooling }) (t.2 ∙ ap (λ (x : SessionView). record s { despooling = x.despooling }) (sym t.2));
  room_is = ap (λ (x : SessionView). x.packer.room) t.2;
  open_is = ap (λ (x : SessionView). x.packer.open_body) t.2;
}
spooled_on NothingWaits s v t = sends_none s v t.0 t.3
spooled_on NoSpool s v t = sends_none s v t.0 t.2

pub not_spooled : (why : Refusal) (s v : SessionView) → IsRunning s.status → SpoolRefused s why v → SendRefused SpoolFault s why v
not_spooled why s v running (inl t) = absurd (t.0.0 running)
not_spooled why s v running (inr (inl t)) =
    inr (record { before = s; sends = sends_none s s running refl; job = t.0.job; spool_is = t.0.spool_is; fails = t.2 }, t.1)
not_spooled why s v running (inr (inr t)) = inl (sends_none s v running t.2, t.1)

-- A step of sending.

-- the body that leaves was closed
packer_kept : {body : _} (old new : Stations) → TakesNext body old new → (new.packer.room ≡ old.packer.room) × (new.packer.open_body ≡ old.packer.open_body)
packer_kept old new (inl t) = (ap (λ (x : Stations). x.packer.room) t.1, ap (λ (x : Stations). x.packer.open_body) t.1)
packer_kept old new (inr (inl t)) = (ap (λ (x : Stations). x.packer.room) t.1.is, ap (λ (x : Stations). x.packer.open_body) t.1.is)
packer_kept old new (inr (inr t)) = (t.2.room_is, t.2.open_is)

sends_by : (answer : Despooled) (capacity : ℕ) (seat seat' : SeatIs) (s v : SessionView) → SendsBy answer capacity seat s seat' v → SendsOn s v
sends_by Sent capacity seat seat' s v t =
    let kept = packer_kept (stations_of s) t.0.between t.0.takes in
    let last = t.0.between in record {
      running = t.0.running;
      is = sent_is s v (record s { sent = s.sent + 1; ready = None; spool = last.spool; despooling = goes_on last.spool s.despooling; packer = last.packer }) t.0.is;
      room_is = ap (λ (x : SessionView). x.packer.room) t.0.is ∙ kept.0;
      open_is = ap (λ (x : SessionView). x.packer.open_body) t.0.is ∙ kept.1;
    }
sends_by LaneFull capacity seat seat' s v t =
    let kept = packer_kept (stations_of s) t.0.between t.0.takes in
    let last = t.0.between in record {
      running = t.0.running;
      is = sent_is s v (record s { ready = Some t.0.body; spool = last.spool; packer = last.packer }) t.0.is;
      room_is = ap (λ (x : SessionView). x.packer.room) t.0.is ∙ kept.0;
      open_is = ap (λ (x : SessionView). x.packer.open_body) t.0.is ∙ kept.1;
    }
sends_by Nothing capacity seat seat' s v t = sends_none s v t.0.0 t.0.3
sends_by NotDue capacity seat seat' s v t = sends_none s v t.0.0 t.0.2

pub pushes_on : (answer : Despooled) (capacity : ℕ) (seat seat' : SeatIs) (s v w : SessionView) → SendsOn s v → SendsBy answer capacity seat v seat' w → SendsOn s w
pushes_on answer capacity seat seat' s v w g t = sends_then s v w g (sends_by answer capacity seat seat' v w t)

not_sent : (why : Refusal) (s v : SessionView) → IsRunning s.status → DespoolRefused s why v → SendRefused SpoolFault s why v
not_sent why s v running (inl t) = absurd (t.0.0 running)
not_sent why s v running (inr (inl t)) =
    inr (record { before = s; sends = sends_none s s running refl; job = t.0.job; spool_is = t.0.spool_is; fails = t.2 }, t.1)
not_sent why s v running (inr (inr t)) = inl (sends_none s v running t.2, t.1)

pub not_pushed : (why : Refusal) (s v w : SessionView) → SendsOn s v → DespoolRefused v why w → SendRefused SpoolFault s why w
not_pushed why s v w g t = refused_then SpoolFault s v w why g (not_sent why v w (running_kept s v g) t)

-- A record.

-- Bodies of the session were sent on for this record, or nothing was done yet.
abbrev pub SentFor : Record → SessionView → SessionView → Type 0
SentFor r s v = (v ≡ s) ⊎ ((s.status ≡ Active) × MayTake s.count s.bytes s.last r × SendsOn s v)

-- that a session is busy says that it may take the record
never_busy : (status : Status) → Busy ≡ status_refusal status → ⊥
never_busy Active is = absurd (cc is)
never_busy Ended is = absurd (cc is)
never_busy Closed is = absurd (cc is)
never_busy Cancelled is = absurd (cc is)
never_busy Failed is = absurd (cc is)
never_busy Purged is = absurd (cc is)

pub may_take : (r : Record) (s : SessionView) → AppendRefused s r Busy → (s.status ≡ Active) × MayTake s.count s.bytes s.last r
may_take r s (inl t) = absurd (never_busy s.status t.1)
may_take r s (inr (inl t)) = absurd (cc t.2)
may_take r s (inr (inr (inl t))) = (t.0, t.1)
may_take r s (inr (inr (inr t))) = absurd (cc t.3)

pub busy_runs : (r : Record) (s : SessionView) → AppendRefused s r Busy → IsRunning s.status
busy_runs r s refused = inl (may_take r s refused).0

-- what was said of a session holds of it before bodies were sent on
taken_before : (r : Record) (s v : SessionView) → SendsOn s v → MayTake v.count v.bytes v.last r → MayTake s.count s.bytes s.last r
taken_before r s v g may = subst (λ (x : SessionView). MayTake x.count x.bytes x.last r) g.is may

taken_after : (r : Record) (s v : SessionView) → SendsOn s v → MayTake s.count s.bytes s.last r → MayTake v.count v.bytes v.last r
taken_after r s v g may = subst (λ (x : SessionView). MayTake x.count x.bytes x.last r) (sym g.is) may

pub sent_for : (r : Record) (s v w : SessionView) → SentFor r s v → AppendRefused v r Busy → SendsOn v w → SentFor r s w
sent_for r s v w (inl is) refused g =
    let may = may_take r v refused in
    inr (
      subst (λ (x : SessionView). x.status ≡ Active) is may.0,
      subst (λ (x : SessionView). MayTake x.count x.bytes x.last r) is may.1,
      subst (λ (x : SessionView). SendsOn x w) is g,
    )
sent_for r s v w (inr t) refused g = inr (t.0, t.1, sends_then s v w t.2 g)

pub adds : (r : Record) (n : ℕ) (s v w : SessionView) → SentFor r s v → TakesRecord v r n w → Adds s r n w
adds r n s v w (inl is) takes =
    record { before = v; sends = sends_none s v (inl (subst (λ (x : SessionView). x.status ≡ Active) is takes.active)) is; takes = takes }
adds r n s v w (inr t) takes = record { before = v; sends = t.2; takes = takes }

add_refused_now : (r : Record) (why : Refusal) (s : SessionView) → AppendRefused s r why → AddRefused s r why s
add_refused_now r why s (inl t) = inl (t.0, t.1, refl)
add_refused_now r why s (inr (inl t)) = inr (inl (t.0, t.1, t.2, refl))
add_refused_now r why s (inr (inr (inl t))) = inr (inr (inl (t.0, t.1, sends_none s s (inl t.0) refl, inl (t.2, t.3))))
add_refused_now r why s (inr (inr (inr t))) = inr (inr (inl (t.0, t.1, sends_none s s (inl t.0) refl, inr t.3)))

pub add_refused : (r : Record) (why : Refusal) (s v w : SessionView) → SentFor r s v → w ≡ v → AppendRefused v r why → AddRefused s r why w
add_refused r why s v w (inl is) same refused =
    subst (λ (x : SessionView). AddRefused s r why x) (sym (same ∙ is)) (add_refused_now r why s (subst (λ (x : SessionView). AppendRefused x r why) is refused))
add_refused r why s v w (inr t) same refused =
    let active : v.status ≡ Active = status_kept s v t.2 ∙ t.0 in
    let sent : SendsOn s w = subst (λ (x : SessionView). SendsOn s x) (sym same) t.2 in
    elim refused [
      | inl u ↦ absurd (u.0 active)
      | inr o ↦ elim o [
        | inl u ↦ absurd (u.1 (taken_after r s v t.2 t.1))
        | inr p ↦ elim p [
          | inl u ↦ inr (inr (inl (t.0, t.1, sent, inl (subst (λ (x : SessionView). x.packer.waiting ≢ []) (sym same) u.2, u.3))))
          | inr u ↦ inr (inr (inl (t.0, t.1, sent, inr u.3)))
        ]
      ]
    ]

pub send_refused : (r : Record) (why : Refusal) (s v w : SessionView) → SentFor r s v → AppendRefused v r Busy → SendRefused SessionFailed v why w → AddRefused s r why w
send_refused r why s v w (inl is) refused t =
    let may = may_take r v refused in
    let own : SendRefused SessionFailed s why w = subst (λ (x : SessionView). SendRefused SessionFailed x why w) is t in
    let active : s.status ≡ Active = subst (λ (x : SessionView). x.status ≡ Active) is may.0 in
    let takes : MayTake s.count s.bytes s.last r = subst (λ (x : SessionView). MayTake x.count x.bytes x.last r) is may.1 in
    elim own [
      | inl u ↦ inr (inr (inl (active, takes, u.0, inr u.1)))
      | inr u ↦ inr (inr (inr (active, takes, u.0, u.1)))
    ]
send_refused r why s v w (inr t) refused u =
    elim (refused_then SessionFailed s v w why t.2 u) [
      | inl x ↦ inr (inr (inl (t.0, t.1, x.0, inr x.1)))
      | inr x ↦ inr (inr (inr (t.0, t.1, x.0, x.1)))
    ]
