-- A move of the world on an event of one session that goes no further than the session is a step of the list machine.
use Rattle.std.proofs.Common.{◌≡◌, ◌⊎◌, ℕ, ◌+◌, refl, sym, ap, subst, ◌∙◌, inl, inr, ℤ, Bool, true, Option, Some, None, List, [], ◌∷◌, ◌++◌, append-nil}
use Rattle.std.specs.Prelude.{IsTrue}
use Rattle.sd_base.specs.Record.{Record}
use Rattle.sd_base.specs.declared.number.SessionKey.{SessionKey}
use Rattle.sd_base.specs.declared.refusal.Refusal.{Refusal}
use Rattle.sd_base.specs.declared.refusal.Refusal.TheVariants.{SessionNotOpen, SessionCancelled, SessionFailed, SpoolFault, Memory}
use Rattle.sd_driver.specs.Meaning.{Meaning}
use Rattle.sd_machine.proofs.Lookups.{chosen, not_closed}
use Rattle.sd_machine.specs.Machine.{Machine, MachineSession, Strike, session_of, changed}
use Rattle.sd_machine.specs.Step.{Turns, MayStrike, MayRefuse, RefusedFor, StatusRefused, HasSession}
use Rattle.sd_machine.specs.declared.event.Event.{Event}
use Rattle.sd_machine.specs.declared.event.Event.TheVariants.{Append, End, Cancel, Spool, Media}
use Rattle.sd_machine.specs.declared.reply.Reply.{Reply}
use Rattle.sd_machine.specs.declared.reply.Reply.TheVariants.{Refused, Taken, Ended, Cancelled, Spooled, SpoolFull, Nothing, NoSpool, Media as Spans}
use Rattle.sd_session.specs.Session.{SessionView, SpoolIsHonest, IsRunning, NotRunning, AppendRefused, TakesRecord, EndsSession, EndRefused, CancelsSession, status_refusal, parts_of, store_of, home_of}
use Rattle.sd_session.specs.Spooling.{Spools, SpoolRefused, FailsBySpool}
use Rattle.sd_session.specs.declared.answer.Spooling.TheVariants as spooling
use Rattle.sd_session.specs.declared.answer.Spooling.{Spooling}
use Rattle.sd_session.specs.declared.status.Status.{Status}
use Rattle.sd_session.specs.declared.status.Status.TheVariants.{Active as IsActive, Ended as IsEnded, Closed as IsClosed, Cancelled as IsCancelled, Failed as IsFailed, Purged as IsPurged}
use Rattle.sd_spool.specs.Job.{JobView}
use Rattle.sd_world.specs.Moves.{Moves}
use Rattle.sd_world.specs.Rules.{IsWorld, NumbersRise}
use Rattle.sd_world.specs.Sessions.{TicketRefused, ChangesSession, RefusedWith, MediaCauses}
use Rattle.sd_world.specs.World.{WorldView, WorldSession, HasTicket, session_at, with_session}
use Rattle.sd_world.specs.Honest.{StoreIsTrue}
use Rattle.sd_world.specs.Matches.{SessionMatches, Matches}
use Rattle.sd_world.specs.MachineSteps.{StepsTo, failure, newly_struck}
use Rattle.sd_world.proofs.Changes.{entry_with, session_world, session_step, machine_may_take, world_may_take, takes_record, ends_session, cancels_session, MovesBodies, parts_moved, running_unstruck}
use Rattle.sd_world.proofs.Striking.{IsUnstruck, IsFailure, Struck, StruckOrStay, drops_struck, stays, struck_step, fails_strike, strikes_with, all_stay}
use Rattle.sd_world.proofs.Frames.{Framed, HonestBack, frame_unmoved}
use Rattle.sd_world.proofs.Honesty.{honest_back, with_stores}
use Rattle.sd_world.proofs.Sessions.{FoundSession, found_session, no_session_found, put_same, put_back}

-- the machine's session of a ticket that the world knows
pub found : {D : Type 0} (meaning : D → Meaning) (old : WorldView D) (m : Machine) (ticket : ℕ) (e : WorldSession) → Matches meaning old m → HasTicket old ticket e → FoundSession meaning old ticket m.sessions e
found meaning old m ticket e h there = found_session meaning old ticket old.sessions m.sessions e h.sessions there

-- What follows if a ticket is refused: from that it is unknown, or from the machine's session and the causes.
pub ticket_refused : {D : Type 0} (meaning : D → Meaning) (R : Type 0) (old : WorldView D) (m : Machine) (ticket : ℕ) (why : Refusal) (causes : WorldSession → Type 0) → Matches meaning old m
    → (session_of ticket m.sessions ≡ None → why ≡ SessionNotOpen → R)
    → ((e : WorldSession) (s : MachineSession) → HasSession m ticket s → SessionMatches meaning old e s → causes e → R)
    → TicketRefused old ticket why causes → R
ticket_refused meaning R old m ticket why causes h unknown known (inl r) = unknown (no_session_found meaning old ticket old.sessions m.sessions h.sessions r.0) r.1
ticket_refused meaning R old m ticket why causes h unknown known (inr r) =
    let f = found meaning old m ticket r.0 h r.1 in
    known r.0 f.session f.there f.matches r.2

-- Append.

append_taken : {D : Type 0} (meaning : D → Meaning) (old new : WorldView D) (ticket : ℕ) (r : Record) (n : ℕ) (m : Machine) → IsWorld old
    → ChangesSession old ticket new (λ s t. TakesRecord s r n t) → Matches meaning old m → StepsTo meaning m old (Append ticket r) (Taken n) new
append_taken meaning old new ticket r n m rules moves h =
    let e = moves.0 in
    let takes = moves.3 in
    let f = found meaning old m ticket e h moves.2 in
    let s = f.session in
    session_step meaning old new m ticket e moves.1 s (record s { records = s.records ++ r ∷ [] }) (Append ticket r) (Taken n) rules h moves.2 f.matches moves.4
    (running_unstruck moves.1.status (inl (ap (λ (x : SessionView). x.status) takes.is ∙ takes.active)))
    (subst StoreIsTrue (ap store_of takes.is))
    (takes_record meaning old e moves.1 s r n takes f.matches)
    (λ c. absurd (cc (sym c ∙ f.matches.status_is ∙ takes.active)))
    (s, f.there, f.matches.status_is ∙ takes.active, (machine_may_take meaning old e s r f.matches takes.may_take, takes.number ∙ ap (λ k. k + 1) (sym f.matches.count_is), refl))
    refl

append_refused : {D : Type 0} (meaning : D → Meaning) (old : WorldView D) (ticket : ℕ) (r : Record) (why : Refusal) (m : Machine)
    → TicketRefused old ticket why (λ e. AppendRefused e.session r why) → Matches meaning old m → MayRefuse m (Append ticket r) why
append_refused meaning old ticket r why m refused h =
    ticket_refused meaning (MayRefuse m (Append ticket r) why) old m ticket why (λ e. AppendRefused e.session r why) h
    (λ none is. inl (inl (none, is)))
    (λ e s there match causes. elim causes [
      | inl c ↦ inl (inr (s, there, (λ active. c.0 (sym match.status_is ∙ active)), c.1 ∙ ap status_refusal (sym match.status_is)))
      | inr (inl c) ↦ inr (inl (s, there, match.status_is ∙ c.0, ((λ may. c.1 (world_may_take meaning old e s r match may)), c.2)))
      | inr (inr (inl c)) ↦ inr (inr (s, there, match.status_is ∙ c.0, (machine_may_take meaning old e s r match c.1, inl c.3)))
      | inr (inr (inr c)) ↦ inr (inr (s, there, match.status_is ∙ c.0, (machine_may_take meaning old e s r match c.1, inr (inl c.3))))
    ])
    refused

pub append_steps : {D : Type 0} (meaning : D → Meaning) (old new : WorldView D) (ticket : ℕ) (r : Record) (reply : Reply) (m : Machine) → IsWorld old
    → Moves meaning old (Append ticket r) reply new → Matches meaning old m → StepsTo meaning m old (Append ticket r) reply new
append_steps meaning old new ticket r (Taken n) m rules moves h = append_taken meaning old new ticket r n m rules moves h
append_steps meaning old new ticket r (Refused why) m rules moves h =
    stays meaning old new m (Append ticket r) (Refused why) (append_refused meaning old ticket r why m moves.0 h, refl) refl h moves.1
append_steps meaning old new ticket r reply m rules moves h = absurd moves

-- End.

end_ended : {D : Type 0} (meaning : D → Meaning) (old new : WorldView D) (ticket : ℕ) (moment : ℤ) (m : Machine) → IsWorld old
    → ChangesSession old ticket new (λ s t. EndsSession s moment t) → Matches meaning old m → StepsTo meaning m old (End ticket moment) Ended new
end_ended meaning old new ticket moment m rules moves h =
    let e = moves.0 in
    let ends = moves.3 in
    let f = found meaning old m ticket e h moves.2 in
    let s = f.session in
    session_step meaning old new m ticket e moves.1 s (record s { status = IsEnded }) (End ticket moment) Ended rules h moves.2 f.matches moves.4
    (subst IsUnstruck (sym (ap (λ (x : SessionView). x.status) ends.is)) (refl, refl))
    (subst StoreIsTrue (ap store_of ends.is))
    (ends_session meaning old e moves.1 s moment ends f.matches)
    (λ c. absurd (cc c))
    (s, f.there, f.matches.status_is ∙ ends.active, refl)
    refl

end_refused : {D : Type 0} (meaning : D → Meaning) (old : WorldView D) (ticket : ℕ) (moment : ℤ) (why : Refusal) (m : Machine)
    → TicketRefused old ticket why (λ e. EndRefused e.session why) → Matches meaning old m → MayRefuse m (End ticket moment) why
end_refused meaning old ticket moment why m refused h =
    ticket_refused meaning (MayRefuse m (End ticket moment) why) old m ticket why (λ e. EndRefused e.session why) h
    (λ none is. inl (inl (none, is)))
    (λ e s there match causes. elim causes [
      | inl c ↦ inl (inr (s, there, (λ active. c.0 (sym match.status_is ∙ active)), c.1 ∙ ap status_refusal (sym match.status_is)))
      | inr c ↦ inr (s, there, match.status_is ∙ c.0, inl c.1)
    ])
    refused

pub end_steps : {D : Type 0} (meaning : D → Meaning) (old new : WorldView D) (ticket : ℕ) (moment : ℤ) (reply : Reply) (m : Machine) → IsWorld old
    → Moves meaning old (End ticket moment) reply new → Matches meaning old m → StepsTo meaning m old (End ticket moment) reply new
end_steps meaning old new ticket moment Ended m rules moves h = end_ended meaning old new ticket moment m rules moves h
end_steps meaning old new ticket moment (Refused why) m rules moves h =
    stays meaning old new m (End ticket moment) (Refused why) (end_refused meaning old ticket moment why m moves.0 h, refl) refl h moves.1
end_steps meaning old new ticket moment reply m rules moves h = absurd moves

-- Cancel.

cancel_cancelled : {D : Type 0} (meaning : D → Meaning) (old new : WorldView D) (ticket : ℕ) (m : Machine) → IsWorld old → ChangesSession old ticket new CancelsSession
    → Matches meaning old m → StepsTo meaning m old (Cancel ticket) Cancelled new
cancel_cancelled meaning old new ticket m rules moves h =
    let e = moves.0 in
    let cancels = moves.3 in
    let f = found meaning old m ticket e h moves.2 in
    let s = f.session in
    session_step meaning old new m ticket e moves.1 s (record s { status = IsCancelled }) (Cancel ticket) Cancelled rules h moves.2 f.matches moves.4
    (subst IsUnstruck (sym (ap (λ (x : SessionView). x.status) cancels.is)) (refl, refl))
    (subst StoreIsTrue (ap store_of cancels.is))
    (cancels_session meaning old e moves.1 s cancels f.matches)
    (λ c. absurd (cc c))
    (s, f.there, subst IsRunning (sym f.matches.status_is) cancels.running, refl)
    refl

-- an event that its status alone keeps from a session
pub not_running : {D : Type 0} (meaning : D → Meaning) (old : WorldView D) (m : Machine) (ticket : ℕ) (e : WorldSession) (why : Refusal) → Matches meaning old m → HasTicket old ticket e
    → NotRunning e.session why → StatusRefused IsRunning m ticket why
not_running meaning old m ticket e why h there c =
    let f = found meaning old m ticket e h there in
    inr (f.session, f.there, (λ runs. c.0 (subst IsRunning f.matches.status_is runs)), c.1 ∙ ap status_refusal (sym f.matches.status_is))

-- so of an unknown ticket
pub not_known : {D : Type 0} (meaning : D → Meaning) (old : WorldView D) (m : Machine) (ticket : ℕ) (why : Refusal) → Matches meaning old m → session_at ticket old.sessions ≡ None
    → why ≡ SessionNotOpen → StatusRefused IsRunning m ticket why
not_known meaning old m ticket why h none is = inl (no_session_found meaning old ticket old.sessions m.sessions h.sessions none, is)

cancel_refused : {D : Type 0} (meaning : D → Meaning) (old : WorldView D) (ticket : ℕ) (why : Refusal) (m : Machine)
    → TicketRefused old ticket why (λ e. NotRunning e.session why) → Matches meaning old m → StatusRefused IsRunning m ticket why
cancel_refused meaning old ticket why m (inl r) h = not_known meaning old m ticket why h r.0 r.1
cancel_refused meaning old ticket why m (inr r) h = not_running meaning old m ticket r.0 why h r.1 r.2

pub cancel_steps : {D : Type 0} (meaning : D → Meaning) (old new : WorldView D) (ticket : ℕ) (reply : Reply) (m : Machine) → IsWorld old
    → Moves meaning old (Cancel ticket) reply new → Matches meaning old m → StepsTo meaning m old (Cancel ticket) reply new
cancel_steps meaning old new ticket Cancelled m rules moves h = cancel_cancelled meaning old new ticket m rules moves h
cancel_steps meaning old new ticket (Refused why) m rules moves h =
    stays meaning old new m (Cancel ticket) (Refused why) (cancel_refused meaning old ticket why m moves.0 h, refl) refl h moves.1
cancel_steps meaning old new ticket reply m rules moves h = absurd moves

-- Media.

media_refused : {D : Type 0} (meaning : D → Meaning) (old : WorldView D) (ticket : ℕ) (why : Refusal) (m : Machine)
    → TicketRefused old ticket why (MediaCauses old why) → Matches meaning old m → MayRefuse m (Media ticket) why
media_refused meaning old ticket why m refused h =
    ticket_refused meaning (MayRefuse m (Media ticket) why) old m ticket why (MediaCauses old why) h
    (λ none is. inl (inl (none, is)))
    (λ e s there match causes. elim causes [
      | inl c ↦ inr (s, there, tt, inl c.5)
      | inr c ↦ inr (s, there, tt, inr (inl c.4))
    ])
    refused

pub media_steps : {D : Type 0} (meaning : D → Meaning) (old new : WorldView D) (ticket : ℕ) (reply : Reply) (m : Machine) → IsWorld old
    → Moves meaning old (Media ticket) reply new → Matches meaning old m → StepsTo meaning m old (Media ticket) reply new
media_steps meaning old new ticket (Spans spans) m rules moves h =
    let f = found meaning old m ticket moves.0.0 h moves.0.1 in
    stays meaning old new m (Media ticket) (Spans spans) ((f.session, f.there), refl) refl h moves.1
media_steps meaning old new ticket (Refused why) m rules moves h =
    stays meaning old new m (Media ticket) (Refused why) (media_refused meaning old ticket why m moves.0 h, refl) refl h moves.1
media_steps meaning old new ticket reply m rules moves h = absurd moves

-- Spool.

-- a session that goes on, of which bodies move in it: the machine stays
pub parts_step : {D : Type 0} (meaning : D → Meaning) (old new : WorldView D) (m : Machine) (ticket : ℕ) (e : WorldSession) (v : SessionView) (event : Event) (reply : Reply)
    → IsWorld old → Matches meaning old m → HasTicket old ticket e → new ≡ session_world old e v → MovesBodies e.session v → IsRunning e.session.status
    → (StoreIsTrue (store_of v) → StoreIsTrue (store_of e.session)) → (SpoolIsHonest e.session.spool → parts_of v ≡ parts_of e.session)
    → ((s : MachineSession) → HasSession m ticket s → IsRunning s.status → Turns m event reply m) → MayStrike m event reply [] → StepsTo meaning m old event reply new
parts_step meaning old new m ticket e v event reply rules h there is moves running store parts turns fail =
    let f = found meaning old m ticket e h there in
    let s = f.session in
    let runs = subst IsRunning (sym f.matches.status_is) running in
    let same : changed m s ≡ m = ap (λ ss. record m { sessions = ss }) (put_same ticket m.sessions s f.there (ap (λ (k : SessionKey). k.id) f.matches.key_is ∙ f.id_is)) in
    session_step meaning old new m ticket e v s s event reply rules h there f.matches is
    (running_unstruck v.status (subst IsRunning (sym moves.status_is) running)) store (parts_moved meaning old e v s moves running parts f.matches)
    (λ c. absurd (not_closed s.status runs c))
    (subst (Turns m event reply) (sym same) (turns s f.there runs)) fail

-- these of a session that is the same but for its spool, its packer, and whether it despools
pub moves_bodies : (old new : SessionView) (sent : ℕ) (ready : _) (spool : Option JobView) (despooling : Bool) (packer : _)
    → new ≡ record old { sent = sent; ready = ready; spool = spool; despooling = despooling; packer = packer }
    → packer.room ≡ old.packer.room → MovesBodies old new
moves_bodies old new sent ready spool despooling packer is room = record {
  key_is = ap (λ (x : SessionView). x.key) is;
  status_is = ap (λ (x : SessionView). x.status) is;
  count_is = ap (λ (x : SessionView). x.count) is;
  bytes_are = ap (λ (x : SessionView). x.bytes) is;
  last_is = ap (λ (x : SessionView). x.last) is;
  room_is = ap (λ (x : SessionView). x.packer.room) is ∙ room;
}

pub same_bodies : (old new : SessionView) → new ≡ old → MovesBodies old new
same_bodies old new is = subst (MovesBodies old) (sym is) (record { key_is = refl; status_is = refl; count_is = refl; bytes_are = refl; last_is = refl; room_is = refl })

-- a session that goes on and stays
pub session_stays : {D : Type 0} (meaning : D → Meaning) (old new : WorldView D) (m : Machine) (ticket : ℕ) (e : WorldSession) (v : SessionView) (event : Event) (reply : Reply)
    → IsWorld old → Matches meaning old m → HasTicket old ticket e → new ≡ session_world old e v → v ≡ e.session → IsRunning e.session.status
    → ((s : MachineSession) → HasSession m ticket s → IsRunning s.status → Turns m event reply m) → MayStrike m event reply [] → StepsTo meaning m old event reply new
session_stays meaning old new m ticket e v event reply rules h there is same running turns fail =
    parts_step meaning old new m ticket e v event reply rules h there is (same_bodies e.session v same) running
    (subst StoreIsTrue (ap store_of same)) (λ honest. ap parts_of same) turns fail

-- nothing changes if the event is refused, whoever goes on
pub session_same : {D : Type 0} (old new : WorldView D) (ticket : ℕ) (e : WorldSession) (v : SessionView) → HasTicket old ticket e → new ≡ session_world old e v → v ≡ e.session → new ≡ old
session_same {D} old new ticket e v there is same =
    is ∙ ap (λ (x : SessionView). session_world old e x) same ∙ ap (λ es. record old { sessions = es }) (put_back ticket old.sessions e there)

spool_store : (old new : SessionView) (job job' : JobView) → old.spool ≡ Some job → new.spool ≡ Some job' → job'.store ≡ job.store → store_of new ≡ store_of old
spool_store old new job job' was is store =
    ap (home_of new.store) is ∙ ap Some store ∙ sym (ap (home_of old.store) was)

-- what one step of spooling does
spool_moves : {D : Type 0} (meaning : D → Meaning) (old new : WorldView D) (m : Machine) (ticket : ℕ) (answer : Spooling) (event : Event) (reply : Reply)
    → IsWorld old → Matches meaning old m → ChangesSession old ticket new (Spools answer)
    → ((s : MachineSession) → HasSession m ticket s → IsRunning s.status → Turns m event reply m) → MayStrike m event reply [] → StepsTo meaning m old event reply new
spool_moves meaning old new m ticket spooling.Spooled event reply rules h moves turns fail =
    let e = moves.0 in
    let v = moves.1 in
    let spools = moves.3 in
    parts_step meaning old new m ticket e v event reply rules h moves.2 moves.4
    (moves_bodies e.session v e.session.sent e.session.ready (Some spools.job') e.session.despooling v.packer spools.is spools.moves.room_is) spools.running
    (subst StoreIsTrue (spool_store e.session v spools.job spools.job' spools.spool_is (ap (λ (x : SessionView). x.spool) spools.is) spools.moves.store_is))
    spools.bodies turns fail
spool_moves meaning old new m ticket spooling.SpoolFull event reply rules h moves turns fail =
    let e = moves.0 in
    let v = moves.1 in
    let finds = moves.3 in
    parts_step meaning old new m ticket e v event reply rules h moves.2 moves.4
    (moves_bodies e.session v e.session.sent e.session.ready e.session.spool true e.session.packer finds.2 refl) finds.0
    (subst StoreIsTrue (ap store_of finds.2)) (λ honest. ap parts_of finds.2) turns fail
spool_moves meaning old new m ticket spooling.Nothing event reply rules h moves turns fail =
    session_stays meaning old new m ticket moves.0 moves.1 event reply rules h moves.2 moves.4 moves.3.3 moves.3.0 turns fail
spool_moves meaning old new m ticket spooling.NoSpool event reply rules h moves turns fail =
    session_stays meaning old new m ticket moves.0 moves.1 event reply rules h moves.2 moves.4 moves.3.2 moves.3.0 turns fail

-- what holds of the three refusals by status holds of this one
of_status : (P : Refusal → Type 0) (status : Status) → P SessionNotOpen → P SessionCancelled → P SessionFailed → P (status_refusal status)
of_status P IsActive other cancelled failed = other
of_status P IsEnded other cancelled failed = other
of_status P IsClosed other cancelled failed = other
of_status P IsCancelled other cancelled failed = cancelled
of_status P IsFailed other cancelled failed = failed
of_status P IsPurged other cancelled failed = other

pub by_status : (P : Refusal → Type 0) (m : Machine) (ticket : ℕ) (why : Refusal) → P SessionNotOpen → P SessionCancelled → P SessionFailed → StatusRefused IsRunning m ticket why → P why
by_status P m ticket why other cancelled failed (inl r) = subst P (sym r.1) other
by_status P m ticket why other cancelled failed (inr r) = subst P (sym r.3) (of_status P r.0.status other cancelled failed)

-- one session fails or another stays
fall_with_one : {D : Type 0} (meaning : D → Meaning) (w w' : WorldView D) (ticket time least next : ℕ) (e f : WorldSession) (es : List WorldSession)
    → session_at ticket es ≡ Some e → f.session.key.id ≡ ticket → Struck IsFailure e f → ((x : WorldSession) → Framed meaning w w' x)
    → NumbersRise time least next es → StruckOrStay IsFailure meaning w w' es (with_session f es)
fall_with_one meaning w w' ticket time least next e f [] at id falls frames rise = tt
fall_with_one meaning w w' ticket time least next e f (x ∷ es) at id falls frames rise =
    chosen (StruckOrStay IsFailure meaning w w' (x ∷ es)) x.session.key.id f.session.key.id (f ∷ es) (x ∷ with_session f es)
    (λ p. chosen (λ o. o ≡ Some e → StruckOrStay IsFailure meaning w w' (x ∷ es) (f ∷ es)) x.session.key.id ticket (Some x) (session_at ticket es)
    (λ q r. let is : x ≡ e = cc r in (inl (subst (λ z. Struck IsFailure z f) (sym is) falls), all_stay IsFailure meaning w w' es frames))
    (λ n. absurd (n (p ∙ id))) at)
    (λ n. chosen (λ o. o ≡ Some e → StruckOrStay IsFailure meaning w w' (x ∷ es) (x ∷ with_session f es)) x.session.key.id ticket (Some x) (session_at ticket es)
    (λ q. absurd (n (q ∙ sym id)))
    (λ k r. (inr (refl, frames x), fall_with_one meaning w w' ticket time (x.session.key.id + 1) next e f es r id falls frames rise.2)) at)

-- A fault of its spool fails the session.
pub spool_fails : {D : Type 0} (meaning : D → Meaning) (old new : WorldView D) (m : Machine) (ticket : ℕ) (e : WorldSession) (v : SessionView) (job : JobView) (event : Event)
    → IsWorld old → Matches meaning old m → HasTicket old ticket e → new ≡ session_world old e v → e.session.spool ≡ Some job → FailsBySpool e.session job v
    → (((s : MachineSession) → HasSession m ticket s → IsRunning s.status → MayRefuse m event SpoolFault)) → ((strikes : List Strike) → strikes ≡ failure ticket ∷ [] → MayStrike m event (Refused SpoolFault) strikes)
    → StepsTo meaning m old event (Refused SpoolFault) new
spool_fails {D} meaning old new m ticket e v job event rules h there is spool fails turns fail =
    let f = entry_with e v in
    let w' = session_world old e v in
    let g = found meaning old m ticket e h there in
    let key = ap (λ (x : SessionView). x.key) fails.drops.is in
    let id : v.key.id ≡ ticket = ap (λ (k : SessionKey). k.id) key ∙ g.id_is in
    let falls : Struck IsFailure e f = drops_struck e v (Some fails.state) None fails.drops in
    let honest : StoreIsTrue (store_of v) → StoreIsTrue (store_of e.session) = λ true_now.
    let now : IsTrue fails.state.honest = subst StoreIsTrue (ap store_of fails.drops.is) true_now in
    subst (λ o. StoreIsTrue (home_of e.session.store o)) (sym spool) (subst IsTrue fails.has_failed.honest now) in
    let back : HonestBack meaning old w' = honest_back meaning old w' (with_stores old.sessions ticket e f there id refl honest) in
    let told : newly_struck old.sessions (with_session f old.sessions) ≡ failure ticket ∷ [] =
    ap (newly_struck old.sessions) (sym (append-nil (with_session f old.sessions))) ∙ strikes_with e f ticket old.sessions [] there id
    ∙ fails_strike ticket e.session.status v.status fails.drops.running (ap (λ (x : SessionView). x.status) fails.drops.is) in
    subst (λ w. StepsTo meaning m old event (Refused SpoolFault) w) (sym is)
    (struck_step IsFailure meaning old w' m event (Refused SpoolFault) refl refl rules.numbers
    (fall_with_one meaning old w' ticket old.limits.time 1 old.next e f old.sessions there id falls (λ x. frame_unmoved meaning old w' x refl back) rules.numbers)
    (turns g.session g.there (subst IsRunning (sym g.matches.status_is) fails.drops.running), refl)
    (fail (newly_struck old.sessions (with_session f old.sessions)) told) h)

-- why a step of spooling or of sending is refused: the status; a fault of the spool's store; out of memory
abbrev pub SpoolCauses : Refusal → WorldSession → SessionView → Type 0
SpoolCauses why e v =
    (NotRunning e.session why × (v ≡ e.session))
    ⊎ ((job : JobView) × (e.session.spool ≡ Some job) × (why ≡ SpoolFault) × FailsBySpool e.session job v)
    ⊎ (IsRunning e.session.status × (why ≡ Memory) × (v ≡ e.session))

-- what a refused step of spooling or of sending does, by its cause
pub refused_with : {D : Type 0} (meaning : D → Meaning) (old new : WorldView D) (m : Machine) (ticket : ℕ) (why : Refusal) (event : Event) (change : SessionView → SessionView → Type 0)
    → IsWorld old → Matches meaning old m → RefusedWith old ticket why new change
    → ((e : WorldSession) (v : SessionView) → change e.session v → SpoolCauses why e v)
    → ((r : Refusal) → RefusedFor (SpoolFault ∷ Memory ∷ []) IsRunning m ticket r → MayRefuse m event r)
    → ((strikes : List Strike) → strikes ≡ failure ticket ∷ [] → MayStrike m event (Refused SpoolFault) strikes)
    → MayStrike m event (Refused SessionNotOpen) [] → MayStrike m event (Refused SessionCancelled) [] → MayStrike m event (Refused SessionFailed) [] → MayStrike m event (Refused Memory) []
    → StepsTo meaning m old event (Refused why) new
refused_with meaning old new m ticket why event change rules h (inl r) cases may fault unopened cancelled failed memory =
    let refused = not_known meaning old m ticket why h r.0 r.1 in
    stays meaning old new m event (Refused why) (may why (inl refused), refl)
    (by_status (λ x. MayStrike m event (Refused x) []) m ticket why unopened cancelled failed refused) h r.2
refused_with {D} meaning old new m ticket why event change rules h (inr r) cases may fault unopened cancelled failed memory =
    let e = r.0 in
    let v = r.1 in
    let f = found meaning old m ticket e h r.2 in
    elim (cases e v r.3) [
      | inl c ↦
          let refused = not_running meaning old m ticket e why h r.2 c.0 in
          stays meaning old new m event (Refused why) (may why (inl refused), refl)
          (by_status (λ x. MayStrike m event (Refused x) []) m ticket why unopened cancelled failed refused) h (session_same old new ticket e v r.2 r.4 c.1)
      | inr (inl c) ↦
          subst (λ x. StepsTo meaning m old event (Refused x) new) (sym c.2)
          (spool_fails meaning old new m ticket e v c.0 event rules h r.2 r.4 c.1 c.3 (λ s there runs. may SpoolFault (inr (s, there, runs, inl refl))) fault)
      | inr (inr c) ↦
          subst (λ x. StepsTo meaning m old event (Refused x) new) (sym c.1)
          (stays meaning old new m event (Refused Memory) (may Memory (inr (f.session, f.there, subst IsRunning (sym f.matches.status_is) c.0, inr (inl refl))), refl) memory h
          (session_same old new ticket e v r.2 r.4 c.2))
    ]

-- a refused step of spooling
spool_causes : (why : Refusal) (e : WorldSession) (v : SessionView) → SpoolRefused e.session why v → SpoolCauses why e v
spool_causes why e v (inl c) = inl c
spool_causes why e v (inr (inl c)) = inr (inl (c.0.job, c.0.spool_is, c.1, c.2))
spool_causes why e v (inr (inr c)) = inr (inr (c.0.running, c.1, c.2))

pub spool_steps : {D : Type 0} (meaning : D → Meaning) (old new : WorldView D) (ticket : ℕ) (reply : Reply) (m : Machine) → IsWorld old
    → Moves meaning old (Spool ticket) reply new → Matches meaning old m → StepsTo meaning m old (Spool ticket) reply new
spool_steps meaning old new ticket Spooled m rules moves h = spool_moves meaning old new m ticket spooling.Spooled (Spool ticket) Spooled rules h moves (λ s there runs. ((s, there, runs, refl), inl refl)) refl
spool_steps meaning old new ticket SpoolFull m rules moves h = spool_moves meaning old new m ticket spooling.SpoolFull (Spool ticket) SpoolFull rules h moves (λ s there runs. ((s, there, runs, refl), inr (inl refl))) refl
spool_steps meaning old new ticket Nothing m rules moves h = spool_moves meaning old new m ticket spooling.Nothing (Spool ticket) Nothing rules h moves (λ s there runs. ((s, there, runs, refl), inr (inr (inl refl)))) refl
spool_steps meaning old new ticket NoSpool m rules moves h = spool_moves meaning old new m ticket spooling.NoSpool (Spool ticket) NoSpool rules h moves (λ s there runs. ((s, there, runs, refl), inr (inr (inr (inl refl))))) refl
spool_steps meaning old new ticket (Refused why) m rules moves h =
    refused_with meaning old new m ticket why (Spool ticket) (λ s t. SpoolRefused s why t) rules h moves (spool_causes why)
    (λ r may. may) (λ strikes is. is) refl refl refl refl
spool_steps meaning old new ticket reply m rules moves h = absurd moves
