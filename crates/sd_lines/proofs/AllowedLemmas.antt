-- Each reply to an event of a talk's session is one that a step of the list machine may give.
use Rattle.std.proofs.Common.{◌≡◌, ◌≢◌, ℕ, ◌+◌, ℤ, sym, ap, subst, ◌∙◌, inl, inr, List, [], ◌∷◌, ◌++◌, length}
use Rattle.std.proofs.lemmas.List.{append-nil}
use Rattle.sd_base.specs.Record.{Record}
use Rattle.sd_base.specs.declared.refusal.Refusal.{Refusal}
use Rattle.sd_line.specs.Goes.{GoesOn}
use Rattle.sd_line.specs.Parts.{PartIs, KeepsPart, with_session}
use Rattle.sd_lines.specs.Allowed.{IsAllowed, RepliesAllowed, listed}
use Rattle.sd_lines.specs.Held.{Appends, Cancels, Ends, Shuts}
use Rattle.sd_machine.specs.Machine.{Machine, MachineSession, changed, last_index}
use Rattle.sd_machine.specs.Step.{HasSession, MayRefuse, SessionMayTake}
use Rattle.sd_machine.specs.declared.event.Event.TheVariants.{Append, End, Close, Cancel}
use Rattle.sd_machine.specs.declared.reply.Reply.{Reply}
use Rattle.sd_machine.specs.declared.reply.Reply.TheVariants.{Refused, Taken, Ended, Closed, Cancelled}
use Rattle.sd_session.specs.Session.{SessionView, MayTake, status_refusal}
use Rattle.sd_session.specs.declared.status.Status.{Status}
use Rattle.sd_session.specs.declared.status.Status.TheVariants.{Active as IsActive, Ended as IsEnded, Closed as IsClosed, Cancelled as IsCancelled, Failed as IsFailed}
use Rattle.sd_stations.specs.Sends.{AddRefused, FailsInSpool, FailsAtDrive, SendsOn, ShutRefused}

status_of : (s v : SessionView) → SendsOn s v → v.status ≡ s.status
status_of s v g = ap (λ (x : SessionView). x.status) g.is

-- what a part counts is what it was told
may_be_listed : (time : ℕ → ℕ) (p : PartIs) (r : Record) → KeepsPart time p → MayTake p.session.count p.session.bytes p.session.last r → SessionMayTake (listed p) r
may_be_listed time p r keeps may =
    subst (λ (n : ℕ). MayTake (length p.told) n (last_index p.told) r) (sym keeps.tells.bytes_are)
    (subst (λ (n : ℕ). MayTake n p.session.bytes (last_index p.told) r) (sym keeps.tells.count_is)
    (subst (λ (n : ℕ). MayTake p.session.count p.session.bytes n r) (sym keeps.tells.last_is) may))

told_of : (p q : PartIs) → GoesOn p [] q → q.told ≡ p.told
told_of p q g = g.told_is ∙ append-nil p.told

-- the session with these three
abbrev made : PartIs → List Record → Status → MachineSession
made p records status = record { key = p.session.key; records = records; status = status }

listed_is : (p q : PartIs) (records : List Record) (status : Status) → q.session.key ≡ p.session.key → q.told ≡ records → q.session.status ≡ status
    → listed q ≡ made p records status
listed_is p q records status key told is =
    ap (λ k. record { key = k; records = q.told; status = q.session.status }) key
    ∙ ap (λ (l : List Record). record { key = p.session.key; records = l; status = q.session.status }) told
    ∙ ap (made p records) is

not_failed : IsFailed ≢ IsActive
not_failed is = absurd (cc is)

not_failed_ended : IsFailed ≢ IsEnded
not_failed_ended is = absurd (cc is)

fails_in_spool : (s v : SessionView) → FailsInSpool s v → v.status ≡ IsFailed
fails_in_spool s v f = ap (λ (x : SessionView). x.status) f.fails.drops.is

fails_at_drive : (s v : SessionView) → FailsAtDrive s v → v.status ≡ IsFailed
fails_at_drive s v f = ap (λ (x : SessionView). x.status) f.fails.is

after : (time : ℕ → ℕ) (p q : PartIs) (r : Record) → KeepsPart time p → q.told ≡ p.told → MayTake p.session.count p.session.bytes p.session.last r
    → SessionMayTake (listed q) r
after time p q r keeps told may =
    subst (λ (l : List Record). SessionMayTake (made p l p.session.status) r) (sym told) (may_be_listed time p r keeps may)

before : (time : ℕ → ℕ) (p q : PartIs) (r : Record) → KeepsPart time p → q.told ≡ p.told → SessionMayTake (listed q) r
    → MayTake p.session.count p.session.bytes p.session.last r
before time p q r keeps told may =
    let own : SessionMayTake (listed p) r = subst (λ (l : List Record). SessionMayTake (made p l p.session.status) r) told may in
    subst (λ (n : ℕ). MayTake p.session.count p.session.bytes n r) keeps.tells.last_is
    (subst (λ (n : ℕ). MayTake n p.session.bytes (last_index p.told) r) keeps.tells.count_is
    (subst (λ (n : ℕ). MayTake (length p.told) n (last_index p.told) r) keeps.tells.bytes_are own))

-- A record.

refused_add : (time : ℕ → ℕ) (ticket : ℕ) (r : Record) (why : Refusal) (p q : PartIs) → KeepsPart time p → q.told ≡ p.told
    → AddRefused p.session r why q.session → (m : Machine) → HasSession m ticket (listed q) → MayRefuse m (Append ticket r) why
refused_add time ticket r why p q keeps told (inl t) m has =
    let same : q.session.status ≢ IsActive = subst (λ (x : SessionView). x.status ≢ IsActive) (sym t.2) t.0 in
    let cause : why ≡ status_refusal q.session.status = t.1 ∙ ap (λ (x : SessionView). status_refusal x.status) (sym t.2) in
    inl (inr (listed q, has, same, cause))
refused_add time ticket r why p q keeps told (inr (inl t)) m has =
    let active : q.session.status ≡ IsActive = ap (λ (x : SessionView). x.status) t.3 ∙ t.0 in
    inr (inl (listed q, has, active, (λ may. t.1 (before time p q r keeps told may), t.2)))
refused_add time ticket r why p q keeps told (inr (inr (inl t))) m has =
    let active : q.session.status ≡ IsActive = status_of p.session q.session t.2 ∙ t.0 in
    let may : SessionMayTake (listed q) r = after time p q r keeps told t.1 in
    elim t.3 [
      | inl busy ↦ inr (inr (listed q, has, active, (may, inl busy.1)))
      | inr memory ↦ inr (inr (listed q, has, active, (may, inr (inl memory))))
    ]
refused_add time ticket r why p q keeps told (inr (inr (inr t))) m has =
    let failed : q.session.status ≡ IsFailed = fails_in_spool p.session q.session t.2 in
    inl (inr (listed q, has, subst (λ (s : Status). s ≢ IsActive) (sym failed) not_failed, t.3 ∙ ap status_refusal (sym failed)))

appends : (time : ℕ → ℕ) (ticket : ℕ) (r : Record) (reply : Reply) (p q : PartIs) → KeepsPart time p → Appends r reply p q
    → IsAllowed ticket (Append ticket r) reply p q
appends time ticket r (Taken n) p q keeps a = λ m has.
    let between = a.1.before in
    let takes = a.1.takes in
    let counts = a.1.sends.is in
    let active : p.session.status ≡ IsActive = sym (status_of p.session between a.1.sends) ∙ takes.active in
    let may : MayTake p.session.count p.session.bytes p.session.last r = subst (λ (x : SessionView). MayTake x.count x.bytes x.last r) counts takes.may_take in
    let number : n ≡ length p.told + 1 = takes.number ∙ ap (λ (x : SessionView). x.count + 1) counts ∙ ap (λ (k : ℕ). k + 1) (sym keeps.tells.count_is) in
    let is : listed q ≡ made p (p.told ++ r ∷ []) p.session.status =
    listed_is p q (p.told ++ r ∷ []) p.session.status a.0.key_is a.0.told_is (ap (λ (x : SessionView). x.status) takes.is ∙ status_of p.session between a.1.sends) in
    (listed p, has, active, (may_be_listed time p r keeps may, number, ap (changed m) is))
appends time ticket r (Refused why) p q keeps a = λ m has. refused_add time ticket r why p q keeps (told_of p q a.0) a.1 m has
appends time ticket r reply p q keeps a = absurd a

-- An end, and a cancel.

with_status : (p q : PartIs) (status : Status) → q ≡ with_session p q.session → q.session.key ≡ p.session.key → q.session.status ≡ status
    → listed q ≡ made p p.told status
with_status p q status same key is = listed_is p q p.told status key (ap (λ (x : PartIs). x.told) same) is

ends : (ticket : ℕ) (moment : ℤ) (reply : Reply) (p q : PartIs) → Ends moment reply p q → IsAllowed ticket (End ticket moment) reply p q
ends ticket moment Ended p q a = λ m has.
    (listed p, has, a.0.active, ap (changed m) (with_status p q IsEnded a.1 (ap (λ (x : SessionView). x.key) a.0.is) (ap (λ (x : SessionView). x.status) a.0.is)))
ends ticket moment (Refused why) p q a = λ m has.
    let own : HasSession m ticket (listed p) = subst (λ (x : PartIs). HasSession m ticket (listed x)) a.1 has in
    elim a.0 [
      | inl t ↦ inl (inr (listed p, own, t.0, t.1))
      | inr t ↦ inr (listed p, own, t.0, inl t.1)
    ]
ends ticket moment reply p q a = absurd a

cancels : (ticket : ℕ) (reply : Reply) (p q : PartIs) → Cancels reply p q → IsAllowed ticket (Cancel ticket) reply p q
cancels ticket Cancelled p q a = λ m has.
    (listed p, has, a.0.running, ap (changed m) (with_status p q IsCancelled a.1 (ap (λ (x : SessionView). x.key) a.0.is) (ap (λ (x : SessionView). x.status) a.0.is)))
cancels ticket (Refused why) p q a = λ m has.
    let own : HasSession m ticket (listed p) = subst (λ (x : PartIs). HasSession m ticket (listed x)) a.1 has in
    inr (listed p, own, a.0.0, a.0.1)
cancels ticket reply p q a = absurd a

-- A close.

refused_shut : (ticket : ℕ) (why : Refusal) (p q : PartIs) → ShutRefused p.session why q.session → (m : Machine) → HasSession m ticket (listed q)
    → MayRefuse m (Close ticket) why
refused_shut ticket why p q (inl t) m has =
    let same : q.session.status ≢ IsEnded = subst (λ (x : SessionView). x.status ≢ IsEnded) (sym t.2) t.0 in
    let cause : why ≡ status_refusal q.session.status = t.1 ∙ ap (λ (x : SessionView). status_refusal x.status) (sym t.2) in
    inl (inr (listed q, has, same, cause))
refused_shut ticket why p q (inr (inl t)) m has =
    let ended : q.session.status ≡ IsEnded = status_of p.session q.session t.1 ∙ t.0 in
    elim t.2 [
      | inl not_yet ↦ inr (listed q, has, ended, inr (inl not_yet))
      | inr memory ↦ inr (listed q, has, ended, inr (inr (inl memory)))
    ]
refused_shut ticket why p q (inr (inr t)) m has =
    let failed : q.session.status ≡ IsFailed = elim t.1 [
      | inl spool ↦ fails_in_spool p.session q.session spool
      | inr drive ↦ fails_at_drive p.session q.session drive
    ] in
    inl (inr (listed q, has, subst (λ (s : Status). s ≢ IsEnded) (sym failed) not_failed_ended, t.2 ∙ ap status_refusal (sym failed)))

closes : (ticket : ℕ) (reply : Reply) (p q : PartIs) → Shuts reply p q → IsAllowed ticket (Close ticket) reply p q
closes ticket (Closed key spans) p q a = λ m has.
    let between = a.2.before in
    let ended : p.session.status ≡ IsEnded = sym (status_of p.session between a.2.sends) ∙ a.2.ended in
    let is : listed q ≡ made p p.told IsClosed = listed_is p q p.told IsClosed a.0.key_is (told_of p q a.0) (ap (λ (x : SessionView). x.status) a.2.is) in
    (listed p, has, ended, (a.1 ∙ a.0.key_is, ap (changed m) is))
closes ticket (Refused why) p q a = λ m has. refused_shut ticket why p q a.1 m has
closes ticket reply p q a = absurd a

pub all_allowed : RepliesAllowed
all_allowed = record { appends = appends; ends = ends; closes = closes; cancels = cancels }
