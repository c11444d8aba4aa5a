-- What a run of the list machine leaves of a session that is closed or was purged: all of it, but that it may be purged.
use Rattle.std.specs.List.{AllByRecursion}
use Rattle.std.proofs.Common.{◌≡◌, ◌≢◌, ◌⊎◌, ℕ, ◌==◌, cond, true, false, Some, List, [], ◌∷◌, ◌++◌, refl, sym, ap, subst, ◌∙◌, Option, None, map, inl, inr}
use Rattle.sd_base.specs.declared.number.SessionKey.{SessionKey}
use Rattle.sd_base.specs.declared.refusal.Refusal.TheVariants.{SpoolFault, DeviceFault}
use Rattle.sd_machine.specs.declared.event.Event.{Event}
use Rattle.sd_machine.specs.declared.event.Event.TheVariants.{Open, Append, End, Close, Cancel, Spool, Despool, Take, Place, Sync, Label, Adopt, Mount, Unmount, Seek, Retire, Purge, Media}
use Rattle.sd_machine.specs.declared.reply.Reply.{Reply}
use Rattle.sd_machine.specs.declared.reply.Reply.TheVariants.{Refused, Opened, Taken, Ended, Closed, Cancelled, InHand, HandFull, Idle, Placed, NeedVolume, VolumeFull, VolumeError, Synced, Labelled, Adopted, Mounted, Unmounted, Requested, NoNeed, Retired, Purged, Media as Spans}
use Rattle.sd_session.specs.declared.status.Status.{Status}
use Rattle.sd_session.specs.declared.status.Status.TheVariants.{Cancelled as IsCancelled, Failed as IsFailed, Purged as IsPurged}
use Rattle.sd_session.specs.Session.{IsRunning, status_refusal}
use Rattle.sd_machine.specs.Machine.{Machine, MachineSession, Strike, session_of, with_session, changed, opened, status_after, struck, with_strikes}
use Rattle.sd_machine.specs.Step.{Run, Turns, MayStrike, StrikeWith, StatusRefused, HasSession, Step}
use Rattle.sd_machine.specs.Kept.{IsClosedOrPurged, ClosedKeepTheirRecords, ClosedKeepTheirStatus}
use Rattle.sd_machine.proofs.Lookups.{chosen, not_over}

-- Lists of sessions.

session_id : (ticket : ℕ) (ss : List MachineSession) (s : MachineSession) → session_of ticket ss ≡ Some s → s.key.id ≡ ticket
session_id ticket [] s at = absurd (cc at)
session_id ticket (y ∷ ss) s at =
    chosen (λ o. o ≡ Some s → s.key.id ≡ ticket) y.key.id ticket (Some y) (session_of ticket ss)
    (λ p q. let is : y ≡ s = cc in ap (λ (z : MachineSession). z.key.id) (sym is) ∙ p)
    (λ n q. session_id ticket ss s q)
    at

-- another session of the list stays when one changes
session_of-with : (ticket : ℕ) (new : MachineSession) (ss : List MachineSession) → new.key.id ≢ ticket → session_of ticket (with_session new ss) ≡ session_of ticket ss
session_of-with ticket new [] other = refl
session_of-with ticket new (y ∷ ss) other =
    chosen (λ l. session_of ticket l ≡ session_of ticket (y ∷ ss)) y.key.id new.key.id (new ∷ ss) (y ∷ with_session new ss)
    (λ p. chosen (λ o. o ≡ session_of ticket (y ∷ ss)) new.key.id ticket (Some new) (session_of ticket ss)
    (λ q. absurd (other q))
    (λ n. chosen (λ o. session_of ticket ss ≡ o) y.key.id ticket (Some y) (session_of ticket ss) (λ q. absurd (other (sym p ∙ q))) (λ m. refl)))
    (λ n. ap (cond (y.key.id == ticket) (Some y)) (session_of-with ticket new ss other))

-- a session that is found stays so when one comes after it
session_of-more : (ticket : ℕ) (ss more : List MachineSession) (s : MachineSession) → session_of ticket ss ≡ Some s → session_of ticket (ss ++ more) ≡ Some s
session_of-more ticket [] more s at = absurd (cc at)
session_of-more ticket (y ∷ ss) more s at =
    (elim (y.key.id == ticket) as (λ b. cond b (Some y) (session_of ticket ss) ≡ Some s → cond b (Some y) (session_of ticket (ss ++ more)) ≡ Some s) [
      | true ↦ λ here. here
      | false ↦ λ later. session_of-more ticket ss more s later
    ]) at

-- Statuses.

-- the later status is the earlier one, or the session was purged
abbrev Follows : Status → Status → Type 0
Follows old new = (new ≡ old) ⊎ (new ≡ IsPurged)

follows_on : (a b c : Status) → Follows a b → Follows b c → Follows a c
follows_on a b c (inl p) (inl q) = inl (q ∙ p)
follows_on a b c (inr p) (inl q) = inr (q ∙ p)
follows_on a b c p (inr q) = inr q

still_over : (a b : Status) → IsClosedOrPurged a → Follows a b → IsClosedOrPurged b
still_over a b (inl over) (inl p) = inl (p ∙ over)
still_over a b (inr over) (inl p) = inr (p ∙ over)
still_over a b over (inr p) = inr p

still_purged : (a b : Status) → a ≡ IsPurged → Follows a b → b ≡ IsPurged
still_purged a b purged (inl p) = p ∙ purged
still_purged a b purged (inr p) = p

-- a strike that hits the session of this ticket purges it
abbrev OnlyPurges : ℕ → Strike → Type 0
OnlyPurges ticket x = x.ticket ≡ ticket → x.status ≡ IsPurged

-- so the session keeps its status, or is purged
only_purged : (strikes : List Strike) (ticket : ℕ) (status : Status)
    → AllByRecursion (OnlyPurges ticket) strikes → Follows status (status_after strikes ticket status)
only_purged [] ticket status all = inl refl
only_purged (x ∷ xs) ticket status all =
    let next = cond (x.ticket == ticket) x.status status in
    let one : Follows status next =
    chosen (Follows status) x.ticket ticket x.status status (λ same. inr (all.0 same)) (λ other. inl refl) in
    follows_on status next (status_after xs ticket next) one (only_purged xs ticket next all.1)

-- Strikes.

-- the session that was found, struck if it is among these
abbrev option_struck : List Strike → Option MachineSession → Option MachineSession
option_struck strikes None = None
option_struck strikes (Some s) = Some (struck strikes s)

-- who is found among the sessions is found among them once some were struck
pub session_of-struck : (strikes : List Strike) (ticket : ℕ) (ss : List MachineSession) (s : MachineSession)
    → session_of ticket ss ≡ Some s → session_of ticket (map (struck strikes) ss) ≡ Some (struck strikes s)
session_of-struck strikes ticket [] s at = absurd (cc at)
session_of-struck strikes ticket (y ∷ ss) s at =
    (elim (y.key.id == ticket) as (λ b. cond b (Some y) (session_of ticket ss) ≡ Some s
    → cond b (Some (struck strikes y)) (session_of ticket (map (struck strikes) ss)) ≡ Some (struck strikes s)) [
      | true ↦ λ same. ap (option_struck strikes) same
      | false ↦ λ later. session_of-struck strikes ticket ss s later
    ]) at

-- the machine has this session, as it was but that it may have been purged
record Kept (m : Machine) (ticket : ℕ) (s : MachineSession) : Type 0 where
  session : MachineSession
  there : session_of ticket m.sessions ≡ Some session
  key_is : session.key ≡ s.key
  records_are : session.records ≡ s.records
  status_is : Follows s.status session.status

-- each session of the one machine that is closed or purged is kept in the other
abbrev KeepsOver : Machine → Machine → Type 0
KeepsOver old new = (ticket : ℕ) (s : MachineSession)
    → session_of ticket old.sessions ≡ Some s → IsClosedOrPurged s.status → Kept new ticket s

as_it_was : (m : Machine) (ticket : ℕ) (s : MachineSession) → session_of ticket m.sessions ≡ Some s → Kept m ticket s
as_it_was m ticket s at = record { session = s; there = at; key_is = refl; records_are = refl; status_is = inl refl }

-- what is kept at first, and then as it was then, is kept
keeps_both : (b c : Machine) (ticket : ℕ) (s : MachineSession) → (one : Kept b ticket s) → Kept c ticket one.session → Kept c ticket s
keeps_both b c ticket s one two = record {
  session = two.session;
  there = two.there;
  key_is = two.key_is ∙ one.key_is;
  records_are = two.records_are ∙ one.records_are;
  status_is = follows_on s.status one.session.status two.session.status one.status_is two.status_is;
}

-- what is kept by one step and by the next is kept by both
keeps_on : (a b c : Machine) → KeepsOver a b → KeepsOver b c → KeepsOver a c
keeps_on a b c first second ticket s at over =
    let one = first ticket s at over in
    keeps_both b c ticket s one (second ticket one.session one.there (still_over s.status one.session.status over one.status_is))

-- Steps.

stays : (old new : Machine) → new ≡ old → KeepsOver old new
stays old new same ticket s at over =
    as_it_was new ticket s (subst (λ (m : Machine). session_of ticket m.sessions ≡ Some s) (sym same) at)

-- one session changes, which goes on
changes : (old new : Machine) (ticket : ℕ) (x y : MachineSession)
    → HasSession old ticket x → IsRunning x.status → y.key ≡ x.key → new ≡ changed old y → KeepsOver old new
changes old new ticket x y there running key is wanted s at over =
    let other : y.key.id ≢ wanted = λ same.
    let id : wanted ≡ ticket = sym same ∙ ap (λ (k : SessionKey). k.id) key ∙ session_id ticket old.sessions x there in
    let one : Some x ≡ Some s = sym there ∙ ap (λ n. session_of n old.sessions) (sym id) ∙ at in
    let both : x ≡ s = cc one in
    not_over s.status (subst (λ (z : MachineSession). IsRunning z.status) both running) over in
    as_it_was new wanted s (subst (λ (m : Machine). session_of wanted m.sessions ≡ Some s) (sym is)
    (session_of-with wanted y old.sessions other ∙ at))

opens : (old new : Machine) → new ≡ opened old → KeepsOver old new
opens old new is ticket s at over =
    as_it_was new ticket s (subst (λ (m : Machine). session_of ticket m.sessions ≡ Some s) (sym is)
    (session_of-more ticket old.sessions _ s at))

turn_keeps : (old new : Machine) (event : Event) (reply : Reply) → Turns old event reply new → KeepsOver old new
turn_keeps old new event (Refused why) turns = stays old new turns.1
turn_keeps old new (Open job pool media moment) (Opened ticket drive) turns = opens old new turns.2
turn_keeps old new (Append ticket r) (Taken n) turns =
    changes old new ticket turns.0 (record turns.0 { records = turns.0.records ++ r ∷ [] }) turns.1 (inl turns.2) refl turns.3.2
turn_keeps old new (End ticket moment) Ended turns = changes old new ticket turns.0 _ turns.1 (inl turns.2) refl turns.3
turn_keeps old new (Close ticket) (Closed key spans) turns = changes old new ticket turns.0 _ turns.1 (inr turns.2) refl turns.3.1
turn_keeps old new (Cancel ticket) Cancelled turns = changes old new ticket turns.0 _ turns.1 turns.2 refl turns.3
turn_keeps old new (Spool ticket) reply turns = stays old new turns.0.3
turn_keeps old new (Despool ticket) reply turns = stays old new turns.0.3
turn_keeps old new (Take drive) (InHand ticket seq) turns = stays old new turns
turn_keeps old new (Take drive) HandFull turns = stays old new turns
turn_keeps old new (Take drive) Idle turns = stays old new turns
turn_keeps old new (Place drive) (Placed volume start end) turns = stays old new turns
turn_keeps old new (Place drive) NeedVolume turns = stays old new turns
turn_keeps old new (Place drive) VolumeFull turns = stays old new turns
turn_keeps old new (Place drive) VolumeError turns = stays old new turns
turn_keeps old new (Place drive) Idle turns = stays old new turns
turn_keeps old new (Sync drive) Synced turns = stays old new turns
turn_keeps old new (Label drive name pool media moment) Labelled turns = stays old new turns
turn_keeps old new (Adopt drive name) (Adopted end next) turns = stays old new turns
turn_keeps old new (Mount drive name) (Mounted mounted) turns = stays old new turns.1
turn_keeps old new (Unmount drive) Unmounted turns = stays old new turns
turn_keeps old new (Seek drive) (Mounted mounted) turns = stays old new turns
turn_keeps old new (Seek drive) Requested turns = stays old new turns
turn_keeps old new (Seek drive) NoNeed turns = stays old new turns
turn_keeps old new (Retire drive) Retired turns = stays old new turns
turn_keeps old new (Purge drive name) Purged turns = stays old new turns
turn_keeps old new (Media ticket) (Spans spans) turns = stays old new turns.1
turn_keeps old new event reply turns = absurd turns

-- who is closed or was purged, by this ticket
record IsOver (m : Machine) (ticket : ℕ) : Type 0 where
  s : MachineSession
  there : session_of ticket m.sessions ≡ Some s
  over : IsClosedOrPurged s.status

-- a failure of a session that goes on doesn't hit who is closed or was purged
spared : (m : Machine) (ticket : ℕ) (strikes : List Strike) → IsOver m ticket → StrikeWith IsFailed IsRunning m strikes
    → AllByRecursion (OnlyPurges ticket) strikes
spared m ticket [] own hits = tt
spared m ticket (x ∷ xs) own hits = (
  λ same.
      let one : Some hits.0.1 ≡ Some own.s = sym hits.0.2 ∙ ap (λ n. session_of n m.sessions) same ∙ own.there in
      let is : hits.0.1 ≡ own.s = cc one in
      absurd (not_over own.s.status (subst (λ (z : MachineSession). IsRunning z.status) is hits.0.3) own.over),
  spared m ticket xs own hits.1,
)

-- no status refuses an event with a fault of the spool
no_fault : (status : Status) → SpoolFault ≡ status_refusal status → ⊥
no_fault IsCancelled e = cc
no_fault IsFailed e = cc
no_fault status e = cc

no_spool_fault : (m : Machine) (ticket : ℕ) → StatusRefused IsRunning m ticket SpoolFault → ⊥
no_spool_fault m ticket (inl unknown) = cc unknown.1
no_spool_fault m ticket (inr met) = no_fault met.0.status met.3

-- the failure of one session that goes on
spared_one : (m : Machine) (ticket hit : ℕ) (strikes : List Strike) (s : MachineSession) → IsOver m ticket
    → HasSession m hit s → IsRunning s.status → strikes ≡ record { ticket = hit; status = IsFailed } ∷ []
    → AllByRecursion (OnlyPurges ticket) strikes
spared_one m ticket hit strikes s own there runs is =
    subst (AllByRecursion (OnlyPurges ticket)) (sym is)
    (spared m ticket (record { ticket = hit; status = IsFailed } ∷ []) own ((refl, s, there, runs), tt))

-- purges purge
purges : (m : Machine) (ticket : ℕ) (allowed : Status → Type 0) (strikes : List Strike) → StrikeWith IsPurged allowed m strikes
    → AllByRecursion (OnlyPurges ticket) strikes
purges m ticket allowed [] hits = tt
purges m ticket allowed (x ∷ xs) hits = (λ same. hits.0.0, purges m ticket allowed xs hits.1)

-- Whichever sessions a step may strike, those that are closed or were purged are struck by purges alone.
strikes_spare : (m new : Machine) (ticket : ℕ) (event : Event) (reply : Reply) (strikes : List Strike) → IsOver m ticket
    → Turns m event reply new → MayStrike m event reply strikes → AllByRecursion (OnlyPurges ticket) strikes
strikes_spare m new ticket (Spool hit) (Refused SpoolFault) strikes own turns may =
    elim turns.0 [
      | inl refused ↦ absurd (no_spool_fault m hit refused)
      | inr met ↦ spared_one m ticket hit strikes met.0 own met.1 met.2 may
    ]
strikes_spare m new ticket (Despool hit) (Refused SpoolFault) strikes own turns may =
    elim turns.0 [
      | inl refused ↦ absurd (no_spool_fault m hit refused)
      | inr met ↦ spared_one m ticket hit strikes met.0 own met.1 met.2 may
    ]
strikes_spare m new ticket (Sync drive) (Refused DeviceFault) strikes own turns may = spared m ticket strikes own may
strikes_spare m new ticket (Mount drive name) (Refused DeviceFault) strikes own turns may = spared m ticket strikes own may
strikes_spare m new ticket (Unmount drive) (Refused DeviceFault) strikes own turns may = spared m ticket strikes own may
strikes_spare m new ticket (Seek drive) (Refused DeviceFault) strikes own turns may = spared m ticket strikes own may
strikes_spare m new ticket (Purge drive name) Purged strikes own turns may = purges m ticket _ strikes may
strikes_spare m new ticket (Purge drive name) (Refused DeviceFault) strikes own turns may = purges m ticket _ strikes may
strikes_spare m new ticket event reply strikes own turns may = subst (AllByRecursion (OnlyPurges ticket)) (sym may) tt

strikes_keep : (strikes : List Strike) (m : Machine) (ticket : ℕ) (s : MachineSession)
    → session_of ticket m.sessions ≡ Some s → AllByRecursion (OnlyPurges ticket) strikes → Kept (with_strikes strikes m) ticket s
strikes_keep strikes m ticket s at all = record {
  session = struck strikes s;
  there = session_of-struck strikes ticket m.sessions s at;
  key_is = refl;
  records_are = refl;
  status_is = only_purged strikes s.key.id s.status
      (subst (λ n. AllByRecursion (OnlyPurges n) strikes) (sym (session_id ticket m.sessions s at)) all);
}

-- a step keeps each session that is closed or purged, whichever sessions are struck
step_keeps : (strikes : List Strike) (old new : Machine) (event : Event) (reply : Reply)
    → Step strikes old event reply new → KeepsOver old new
step_keeps strikes old new event reply step ticket s at over =
    let turned = turn_keeps old step.between event reply step.turns ticket s at over in
    let spare = strikes_spare old step.between ticket event reply strikes (record { s = s; there = at; over = over }) step.turns step.strike in
    let hit = strikes_keep strikes step.between ticket turned.session turned.there spare in
    subst (λ (m : Machine). Kept m ticket s) (sym step.new_is) (keeps_both step.between (with_strikes strikes step.between) ticket s turned hit)

run_keeps : (m m' : Machine) (events : List Event) (replies : List Reply) → Run m events replies m' → KeepsOver m m'
run_keeps m m' [] [] run = stays m m' run
run_keeps m m' [] (reply ∷ replies) run = absurd run
run_keeps m m' (event ∷ events) [] run = absurd run
run_keeps m m' (event ∷ events) (reply ∷ replies) run =
    keeps_on m run.1 m' (step_keeps run.0 m run.1 event reply run.2) (run_keeps run.1 m' events replies run.3)

pub closed_keep_their_records : ClosedKeepTheirRecords
closed_keep_their_records m m' events replies run ticket s at over =
    let kept = run_keeps m m' events replies run ticket s at over in
    record { session = kept.session; there = kept.there; key_is = kept.key_is; records_are = kept.records_are }

pub closed_keep_their_status : ClosedKeepTheirStatus
closed_keep_their_status m m' events replies run = record {
  closed = λ ticket s at closed.
      let kept = run_keeps m m' events replies run ticket s at (inl closed) in
      (kept.session, kept.there, still_over s.status kept.session.status (inl closed) kept.status_is);
  purged = λ ticket s at purged.
      let kept = run_keeps m m' events replies run ticket s at (inr purged) in
      (kept.session, kept.there, still_purged s.status kept.session.status purged kept.status_is);
}
