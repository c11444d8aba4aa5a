-- A move of the world that sends bodies of a session to the queue before its drive is a step of the list machine.
use Rattle.std.proofs.Common.{◌≡◌, ◌≢◌, ℕ, ◌+◌, refl, sym, ap, subst, ◌∙◌, arith, inl, inr, Option, Some, None, List, [], ◌∷◌, ◌++◌, append_assoc, map, option_to_list, slice_get, slice_set}
use Rattle.std.proofs.lemmas.List.{map-append}
use Rattle.sd_base.specs.declared.number.SessionKey.{SessionKey}
use Rattle.sd_base.specs.declared.refusal.Refusal.{Refusal}
use Rattle.sd_driver.specs.Meaning.{Meaning}
use Rattle.sd_drive.specs.View.{DriveIs}
use Rattle.sd_lane.specs.Queue.{LanesView, queued}
use Rattle.sd_lane.specs.declared.piece.Queued.{Queued}
use Rattle.sd_machine.proofs.Lookups.{not_closed}
use Rattle.sd_machine.specs.Machine.{Machine, MachineSession, changed}
use Rattle.sd_machine.specs.declared.event.Event.TheVariants.{Despool}
use Rattle.sd_machine.specs.declared.reply.Reply.{Reply}
use Rattle.sd_machine.specs.declared.reply.Reply.TheVariants.{Refused, Nothing, Sent, LaneFull, NotDue}
use Rattle.sd_pack.specs.Body.{PackedBody}
use Rattle.sd_session.specs.Session.{SessionView, IsRunning, parts_of, store_of, home_of}
use Rattle.sd_session.specs.Sending.{Stations, stations_of, TakesNext, DespoolRefused, goes_on}
use Rattle.sd_session.specs.declared.answer.Despooled.TheVariants as despooled
use Rattle.sd_spool.specs.Job.{StoreState}
use Rattle.sd_world.specs.Moves.{Moves}
use Rattle.sd_world.specs.Rules.{IsWorld}
use Rattle.sd_world.specs.Sessions.{DespoolsSession}
use Rattle.sd_world.specs.World.{WorldView, WorldSession, BayView, IsOnline, with_session}
use Rattle.sd_world.proofs.Lookups.{set_same}
use Rattle.sd_world.specs.Honest.{StoreIsTrue}
use Rattle.sd_world.specs.Matches.{HasBodies, SessionMatches, Matches, IsHonestAt, IsOnTheWay, body_of_piece, bodies_with, bodies_in, sent_to, queued_bodies}
use Rattle.sd_world.specs.MachineSteps.{StepsTo, newly_struck}
use Rattle.sd_world.proofs.Bodies.{bodies_with_own, bodies_with_other, sent_behind, bodies_queued}
use Rattle.sd_world.proofs.Changes.{entry_with, session_world, MovesBodies, running_bodies, running_unstruck, spool_is_honest}
use Rattle.sd_world.proofs.Striking.{steps, unstruck_with}
use Rattle.sd_world.proofs.Frames.{Framed, BayChange, online_after, frame_in_bay}
use Rattle.sd_world.proofs.Honesty.{StoresBack, honest_back, honest_here, with_stores}
use Rattle.sd_world.proofs.SessionSteps.{SpoolCauses, found, parts_step, session_stays, moves_bodies, refused_with}
use Rattle.sd_world.proofs.Sessions.{one_changed, put_same}

-- The body that is sent next.

-- the store stays where it is
pub next_store : (store : Option StoreState) (body : PackedBody) (old between : Stations) → TakesNext body old between → home_of store between.spool ≡ home_of store old.spool
next_store store body old between (inl t) = ap (λ (s : Stations). home_of store s.spool) t.1
next_store store body old between (inr (inl t)) =
    ap (λ (s : Stations). home_of store s.spool) t.1.is ∙ ap Some t.1.store_is ∙ sym (ap (home_of store) t.1.spool_is)
next_store store body old between (inr (inr t)) = ap (λ (s : Stations). home_of store s.spool) t.2.is

-- and so does the room of bodies
pub next_room : (body : PackedBody) (old between : Stations) → TakesNext body old between → between.packer.room ≡ old.packer.room
next_room body old between (inl t) = ap (λ (s : Stations). s.packer.room) t.1
next_room body old between (inr (inl t)) = ap (λ (s : Stations). s.packer.room) t.1.is
next_room body old between (inr (inr t)) = t.2.room_is

-- The queue stays.

-- only the session changes
queue_stays : {D : Type 0} (old : WorldView D) (e : WorldSession) (v : SessionView) (at : ℕ) (bay : BayView D) (queue : LanesView) → slice_get old.bays at ≡ Some bay → queue ≡ bay.queue
    → record old { sessions = with_session (entry_with e v) old.sessions; bays = slice_set old.bays at (record bay { queue = queue }) } ≡ session_world old e v
queue_stays {D} old e v at bay queue there same =
    let made : List (BayView D) → WorldView D = λ bays. record old { sessions = with_session (entry_with e v) old.sessions; bays = bays } in
    ap (λ q. made (slice_set old.bays at (record bay { queue = q }))) same ∙ ap made (set_same old.bays at bay there)

despool_full : {D : Type 0} (meaning : D → Meaning) (old new : WorldView D) (m : Machine) (ticket : ℕ) → IsWorld old → Matches meaning old m
    → DespoolsSession despooled.LaneFull old ticket new → StepsTo meaning m old (Despool ticket) LaneFull new
despool_full meaning old new m ticket rules h moves =
    let e = moves.e in
    let v = moves.session in
    let finds = moves.step.step in
    parts_step meaning old new m ticket e v (Despool ticket) LaneFull rules h moves.has
    (moves.new_is ∙ queue_stays old e v moves.at moves.bay moves.queue moves.online.there (moves.step.else_same (λ x. absurd (cc x))))
    (moves_bodies e.session v e.session.sent (Some finds.body) finds.between.spool e.session.despooling finds.between.packer finds.is
    (next_room finds.body (stations_of e.session) finds.between finds.takes)) finds.running
    (subst StoreIsTrue (ap store_of finds.is ∙ next_store e.session.store finds.body (stations_of e.session) finds.between finds.takes))
    finds.bodies
    (λ s there runs. ((s, there, runs, refl), inr (inl refl))) refl

despool_nothing : {D : Type 0} (meaning : D → Meaning) (old new : WorldView D) (m : Machine) (ticket : ℕ) → IsWorld old → Matches meaning old m
    → DespoolsSession despooled.Nothing old ticket new → StepsTo meaning m old (Despool ticket) Nothing new
despool_nothing meaning old new m ticket rules h moves =
    session_stays meaning old new m ticket moves.e moves.session (Despool ticket) Nothing rules h moves.has
    (moves.new_is ∙ queue_stays old moves.e moves.session moves.at moves.bay moves.queue moves.online.there (moves.step.else_same (λ x. absurd (cc x))))
    moves.step.step.3 moves.step.step.0 (λ s there runs. ((s, there, runs, refl), inr (inr (inl refl)))) refl

despool_not_due : {D : Type 0} (meaning : D → Meaning) (old new : WorldView D) (m : Machine) (ticket : ℕ) → IsWorld old → Matches meaning old m
    → DespoolsSession despooled.NotDue old ticket new → StepsTo meaning m old (Despool ticket) NotDue new
despool_not_due meaning old new m ticket rules h moves =
    session_stays meaning old new m ticket moves.e moves.session (Despool ticket) NotDue rules h moves.has
    (moves.new_is ∙ queue_stays old moves.e moves.session moves.at moves.bay moves.queue moves.online.there (moves.step.else_same (λ x. absurd (cc x))))
    moves.step.step.2 moves.step.step.0 (λ s there runs. ((s, there, runs, refl), inr (inr (inr (inl refl))))) refl

-- A body is sent.

-- a piece at the end of the queue is on the way of its own session alone
way_other : {D : Type 0} (d : DriveIs D) (queue queue' : LanesView) (q : Queued) (key : SessionKey) → queue'.held ≡ queue.held ++ q ∷ [] → key.id ≢ q.piece.key.id
    → IsOnTheWay d queue' key → IsOnTheWay d queue key
way_other d queue queue' q key held apart way none =
    let hand = map body_of_piece (option_to_list d.hand) in
    way (ap (λ qs. bodies_with key (hand ++ bodies_queued qs)) held
    ∙ ap (λ l. bodies_with key (hand ++ l)) (map-append (λ (x : Queued). body_of_piece x.piece) queue.held (q ∷ []))
    ∙ ap (bodies_with key) (sym (append_assoc hand (queued_bodies queue) (body_of_piece q.piece ∷ [])))
    ∙ bodies_with_other key (hand ++ queued_bodies queue) (body_of_piece q.piece) apart
    ∙ none)

-- the body goes from the front of the session's parts to the end of those sent
sent_on : {D : Type 0} (meaning : D → Meaning) (d : DriveIs D) (queue queue' : LanesView) (q : Queued) (old new : SessionView) → queue'.held ≡ queue.held ++ q ∷ []
    → q.piece.key ≡ old.key → new.key ≡ old.key → parts_of old ≡ q.piece.body ∷ parts_of new
    → bodies_in (meaning d.device).shelf d queue' new ≡ bodies_in (meaning d.device).shelf d queue old
sent_on meaning d queue queue' q old new held own key parts =
    let shelf = (meaning d.device).shelf in
    let sent = sent_to shelf d queue in
    ap (λ k. bodies_with k (sent_to shelf d queue') ++ parts_of new) key
    ∙ ap (λ l. bodies_with old.key l ++ parts_of new) (sent_behind shelf d queue queue' q held)
    ∙ ap (λ l. l ++ parts_of new) (bodies_with_own old.key sent (body_of_piece q.piece) own)
    ∙ append_assoc (bodies_with old.key sent) (q.piece.body ∷ []) (parts_of new)
    ∙ ap (λ l. bodies_with old.key sent ++ l) (sym parts)

-- the session matches if one of its bodies was sent
own_sent : {D : Type 0} (meaning : D → Meaning) (old w' : WorldView D) (ticket at : ℕ) (bay : BayView D) (d : DriveIs D) (queue : LanesView) (q : Queued)
    (e : WorldSession) (v : SessionView) (s : MachineSession) → IsOnline old e.drive at bay d → w'.bays ≡ slice_set old.bays at (record bay { queue = queue })
    → (IsHonestAt meaning w' at (record bay { queue = queue }) d → IsHonestAt meaning old at bay d)
    → MovesBodies e.session v → IsRunning e.session.status
    → (IsHonestAt meaning old at bay d → bodies_in (meaning d.device).shelf d queue v ≡ bodies_in (meaning d.device).shelf d bay.queue e.session)
    → SessionMatches meaning old e s → SessionMatches meaning w' (entry_with e v) s
own_sent {D} meaning old w' ticket at bay d queue q e v s on bays back moves running same h =
    let runs = subst IsRunning (sym h.status_is) running in
    let bay' : BayView D = record bay { queue = queue } in
    let now : ℕ → BayView D → DriveIs D → Type 0 = λ n b z. IsHonestAt meaning w' n b z
    → HasBodies v.packer.room (bodies_with v.key (sent_to (meaning z.device).shelf z b.queue)) (bodies_in (meaning z.device).shelf z b.queue v) s.status s.records in
    let here : now at bay' d = λ honest. running_bodies e.session.packer.room v.packer.room (bodies_with e.session.key (sent_to (meaning d.device).shelf d bay.queue))
    (bodies_with v.key (sent_to (meaning d.device).shelf d queue))
    (bodies_in (meaning d.device).shelf d bay.queue e.session) (bodies_in (meaning d.device).shelf d queue v) s.status s.records runs moves.room_is (same (back honest))
    (h.bodies_are at bay d on (back honest)) in
    record {
      key_is = h.key_is ∙ sym moves.key_is;
      status_is = h.status_is ∙ sym moves.status_is;
      count_is = h.count_is ∙ sym moves.count_is;
      bytes_are = h.bytes_are ∙ sym moves.bytes_are;
      last_is = h.last_is ∙ sym moves.last_is;
      bodies_are = λ place other o online honest. elim (online_after old w' e.drive at bay' d bays on.online place other o online) [
        | inl p ↦ subst (λ n. now n other o) (sym p.0) (subst (λ b. now at b o) (sym p.1) (subst (λ z. now at bay' z) (sym p.2) here)) honest
        | inr p ↦ absurd (p.0 (omega (arith, online.number, on.number)))
      ];
      closed = λ c. absurd (not_closed s.status runs c);
    }

despool_sent : {D : Type 0} (meaning : D → Meaning) (old new : WorldView D) (m : Machine) (ticket : ℕ) → IsWorld old → Matches meaning old m
    → DespoolsSession despooled.Sent old ticket new → StepsTo meaning m old (Despool ticket) Sent new
despool_sent {D} meaning old new m ticket rules h moves =
    let e = moves.e in
    let v = moves.session in
    let at = moves.at in
    let bay = moves.bay in
    let d = moves.d in
    let queue = moves.queue in
    let sends = moves.step.step in
    let f = found meaning old m ticket e h moves.has in
    let s = f.session in
    let q : Queued = queued e.session.lane (record { key = e.session.key; seq = e.session.sent + 1; body = sends.body }) in
    let bay' : BayView D = record bay { queue = queue } in
    let w' : WorldView D = record old { sessions = with_session (entry_with e v) old.sessions; bays = slice_set old.bays at bay' } in
    let held : queue.held ≡ bay.queue.held ++ q ∷ [] = sends.puts_in.held refl in
    let moved = moves_bodies e.session v (e.session.sent + 1) None sends.between.spool (goes_on sends.between.spool e.session.despooling) sends.between.packer sends.is
    (next_room sends.body (stations_of e.session) sends.between sends.takes) in
    let id : v.key.id ≡ ticket = ap (λ (k : SessionKey). k.id) moved.key_is ∙ f.id_is in
    let stores : StoresBack old.sessions w'.sessions = with_stores old.sessions ticket e (entry_with e v) moves.has id refl
    (subst StoreIsTrue (ap store_of sends.is ∙ next_store e.session.store sends.body (stations_of e.session) sends.between sends.takes)) in
    let back : IsHonestAt meaning w' at bay' d → IsHonestAt meaning old at bay d = honest_here meaning old w' at bay bay' d d stores refl refl in
    let change : BayChange meaning old w' at bay bay' d d = record {
      there = moves.online.there;
      online = moves.online.online;
      bays = refl;
      online_now = moves.online.online;
      here = back;
      elsewhere = λ place other o n honest. honest_back meaning old w' stores place other o honest;
    } in
    let others : (x : WorldSession) → x.session.key.id ≢ ticket → Framed meaning old w' x = λ x n.
    let apart : x.session.key.id ≢ e.session.key.id = λ p. n (p ∙ f.id_is) in
    frame_in_bay meaning old w' at bay bay' d d x change
    (λ here honest. ap (bodies_with x.session.key) (sent_behind (meaning d.device).shelf d bay.queue queue q held)
    ∙ bodies_with_other x.session.key (sent_to (meaning d.device).shelf d bay.queue) (body_of_piece q.piece) apart)
    (λ here u. elim u [
      | inl way ↦ inl (way_other d bay.queue queue q x.session.key held apart way)
      | inr unsynced ↦ inr unsynced
    ]) in
    let own = own_sent meaning old w' ticket at bay d queue q e v s moves.online refl back moved sends.running
    (λ honest. sent_on meaning d bay.queue queue q e.session v held refl moved.key_is
    (sends.bodies (spool_is_honest e.session (honest.sessions ticket e moves.has moves.online.number)))) f.matches in
    let same : changed m s ≡ m = ap (λ ss. record m { sessions = ss }) (put_same ticket m.sessions s f.there (ap (λ (k : SessionKey). k.id) f.matches.key_is ∙ f.id_is)) in
    steps meaning old new m m (Despool ticket) Sent
    (ap (λ w. newly_struck old.sessions w.sessions) moves.new_is
    ∙ unstruck_with e (entry_with e v) ticket old.sessions moves.has id (running_unstruck v.status (subst IsRunning (sym moved.status_is) sends.running)))
    ((s, f.there, subst IsRunning (sym f.matches.status_is) sends.running, refl), inl refl) refl
    (subst (λ w. Matches meaning w m) (sym moves.new_is)
    (subst (λ n. Matches meaning w' n) same
    (one_changed meaning old w' m ticket (entry_with e v) s refl refl refl rules.numbers id own others h)))

-- Refused.

despool_causes : (why : Refusal) (e : WorldSession) (v : SessionView) → DespoolRefused e.session why v → SpoolCauses why e v
despool_causes why e v (inl c) = inl c
despool_causes why e v (inr (inl c)) = inr (inl (c.0.job, c.0.spool_is, c.1, c.2))
despool_causes why e v (inr (inr c)) = inr (inr (c.0.running, c.1, c.2))

pub despool_steps : {D : Type 0} (meaning : D → Meaning) (old new : WorldView D) (ticket : ℕ) (reply : Reply) (m : Machine) → IsWorld old
    → Moves meaning old (Despool ticket) reply new → Matches meaning old m → StepsTo meaning m old (Despool ticket) reply new
despool_steps meaning old new ticket Sent m rules moves h = despool_sent meaning old new m ticket rules h moves
despool_steps meaning old new ticket LaneFull m rules moves h = despool_full meaning old new m ticket rules h moves
despool_steps meaning old new ticket Nothing m rules moves h = despool_nothing meaning old new m ticket rules h moves
despool_steps meaning old new ticket NotDue m rules moves h = despool_not_due meaning old new m ticket rules h moves
despool_steps meaning old new ticket (Refused why) m rules moves h =
    refused_with meaning old new m ticket why (Despool ticket) (λ s t. DespoolRefused s why t) rules h moves (despool_causes why)
    (λ r may. may) (λ strikes is. is) refl refl refl refl
despool_steps meaning old new ticket reply m rules moves h = absurd moves
