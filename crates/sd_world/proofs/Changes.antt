-- What a session that an event changed matches: the machine's session that the event changed.
use Rattle.std.proofs.Common.{◌≡◌, ℕ, ◌+◌, refl, sym, ap, subst, subst₂, ◌∙◌, inl, inr, ℤ, Option, Some, None, List, [], ◌∷◌, ◌++◌, length}
use Rattle.std.proofs.lemmas.List.{length_push}
use Rattle.std.proofs.lemmas.List.Sums.{sum_by_push}
use Rattle.sd_base.specs.Record.{Record}
use Rattle.sd_base.specs.declared.number.SessionKey.{SessionKey}
use Rattle.sd_driver.specs.Meaning.{Meaning}
use Rattle.sd_label.specs.Cutting.{Between, AtEnd, total_bytes}
use Rattle.sd_machine.specs.Machine.{Machine, MachineSession, last_index, changed}
use Rattle.sd_machine.specs.Step.{SessionMayTake, Turns, MayStrike}
use Rattle.sd_machine.specs.declared.event.Event.{Event}
use Rattle.sd_machine.specs.declared.reply.Reply.{Reply}
use Rattle.sd_pack.specs.Body.{PackedBody}
use Rattle.sd_pack.specs.Packing.{Packs}
use Rattle.sd_session.specs.Session.{SessionView, IsRunning, SpoolIsHonest, MayTake, TakesRecord, EndsSession, CancelsSession, parts_of, store_of, home_of}
use Rattle.sd_session.specs.declared.status.Status.{Status}
use Rattle.sd_session.specs.declared.status.Status.TheVariants.{Active as IsActive, Ended as IsEnded, Closed as IsClosed, Cancelled as IsCancelled}
use Rattle.sd_spool.specs.Job.{JobView, StoreState}
use Rattle.sd_world.specs.Rules.{IsWorld}
use Rattle.sd_world.specs.World.{WorldView, WorldSession, HasTicket, with_session}
use Rattle.sd_world.proofs.Lookups.{session_id}
use Rattle.sd_world.specs.Honest.{StoreIsTrue}
use Rattle.sd_world.specs.Matches.{sent_to, bodies_with, HasBodies, BeginsPacked, SessionMatches, Matches, IsOutstanding}
use Rattle.sd_world.specs.MachineSteps.{StepsTo, newly_struck}
use Rattle.sd_world.proofs.Striking.{IsUnstruck, steps, unstruck_with}
use Rattle.sd_world.proofs.Frames.{HonestBack, online_back, frame_unmoved}
use Rattle.sd_world.proofs.Honesty.{honest_back, with_stores}
use Rattle.sd_world.proofs.Sessions.{one_changed}

-- the session of the world, changed
abbrev pub entry_with : WorldSession → SessionView → WorldSession
entry_with e v = record e { session = v }

-- the world with one session changed
abbrev pub session_world : {D : Type 0} → WorldView D → WorldSession → SessionView → WorldView D
session_world w e v = record w { sessions = with_session (entry_with e v) w.sessions }

-- if the store is honest, so is the spool
spool_in : (store : Option StoreState) (spool : Option JobView) → StoreIsTrue (home_of store spool) → SpoolIsHonest spool
spool_in store None h = tt
spool_in store (Some j) h = h

pub spool_is_honest : (s : SessionView) → StoreIsTrue (store_of s) → SpoolIsHonest s.spool
spool_is_honest s h = spool_in s.store s.spool h

-- What changes of a session, in the world and in the machine. Its own spool, if it has one, may be taken for honest.
pub record OwnChange (e : WorldSession) (v : SessionView) (s s' : MachineSession) : Type 0 where
  pub key_is : v.key ≡ e.session.key
  pub key_same : s'.key ≡ s.key
  pub status_is : s'.status ≡ v.status
  pub count_is : length s'.records ≡ v.count
  pub bytes_are : total_bytes s'.records ≡ v.bytes
  pub last_is : last_index s'.records ≡ v.last
  pub bodies : SpoolIsHonest e.session.spool → (sent : List PackedBody)
      → HasBodies e.session.packer.room sent (sent ++ parts_of e.session) s.status s.records
      → HasBodies v.packer.room sent (sent ++ parts_of v) s'.status s'.records

-- the changed session matches
pub own_changed : {D : Type 0} (meaning : D → Meaning) (old : WorldView D) (ticket : ℕ) (e : WorldSession) (v : SessionView) (s s' : MachineSession)
    → HasTicket old ticket e → HonestBack meaning old (session_world old e v) → OwnChange e v s s'
    → (s'.status ≡ IsClosed → IsOutstanding (session_world old e v) (entry_with e v) → ⊥)
    → SessionMatches meaning old e s → SessionMatches meaning (session_world old e v) (entry_with e v) s'
own_changed {D} meaning old ticket e v s s' there back c closed h = record {
  key_is = c.key_same ∙ h.key_is ∙ sym c.key_is;
  status_is = c.status_is;
  count_is = c.count_is;
  bytes_are = c.bytes_are;
  last_is = c.last_is;
  bodies_are = λ at bay d online honest.
      let on = online_back old (session_world old e v) refl e.drive at bay d online in
      let was = back at bay d honest in
      let sent = λ (k : SessionKey). bodies_with k (sent_to (meaning d.device).shelf d bay.queue) in
      subst (λ k. HasBodies v.packer.room (sent k) (sent k ++ parts_of v) s'.status s'.records) (sym c.key_is)
      (c.bodies (spool_is_honest e.session (was.sessions ticket e there on.number)) (sent e.session.key) (h.bodies_are at bay d on was));
  closed = closed;
}

-- One session changes in both, and nothing else, and it isn't struck: what is left is what changes of it.
pub session_step : {D : Type 0} (meaning : D → Meaning) (old new : WorldView D) (m : Machine) (ticket : ℕ) (e : WorldSession) (v : SessionView) (s s' : MachineSession)
    (event : Event) (reply : Reply) → IsWorld old → Matches meaning old m → HasTicket old ticket e → SessionMatches meaning old e s
    → new ≡ session_world old e v → IsUnstruck v.status → (StoreIsTrue (store_of v) → StoreIsTrue (store_of e.session)) → OwnChange e v s s'
    → (s'.status ≡ IsClosed → IsOutstanding (session_world old e v) (entry_with e v) → ⊥)
    → Turns m event reply (changed m s') → MayStrike m event reply [] → StepsTo meaning m old event reply new
session_step meaning old new m ticket e v s s' event reply rules h there match is ok store c closed turns fail =
    let f = entry_with e v in
    let w' = session_world old e v in
    let id : v.key.id ≡ ticket = ap (λ (k : SessionKey). k.id) c.key_is ∙ session_id ticket old.sessions e there in
    let back : HonestBack meaning old w' = honest_back meaning old w' (with_stores old.sessions ticket e f there id refl store) in
    let none : newly_struck old.sessions (with_session f old.sessions) ≡ [] =
    unstruck_with e f ticket old.sessions there id ok in
    steps meaning old new m (changed m s') event reply (ap (λ w. newly_struck old.sessions w.sessions) is ∙ none) turns fail
    (subst (λ w. Matches meaning w (changed m s')) (sym is)
    (one_changed meaning old w' m ticket f s' refl refl refl rules.numbers id (own_changed meaning old ticket e v s s' there back c closed match)
    (λ x n. frame_unmoved meaning old w' x refl back) h))

-- A record more.

last_index-push : (rs : List Record) (r : Record) → last_index (rs ++ r ∷ []) ≡ r.index
last_index-push [] r = refl
last_index-push (x ∷ []) r = refl
last_index-push (x ∷ y ∷ rs) r = last_index-push (y ∷ rs) r

may_take_same : (count bytes last count' bytes' last' : ℕ) (r : Record) → count ≡ count' → bytes ≡ bytes' → last ≡ last' → MayTake count bytes last r → MayTake count' bytes' last' r
may_take_same count bytes last count' bytes' last' r c b l h =
    subst (λ n. MayTake n bytes' last' r) c (subst (λ n. MayTake count n last' r) b (subst (λ n. MayTake count bytes n r) l h))

-- the machine's session may take a record exactly if the world's may
pub machine_may_take : {D : Type 0} (meaning : D → Meaning) (w : WorldView D) (e : WorldSession) (s : MachineSession) (r : Record) → SessionMatches meaning w e s
    → MayTake e.session.count e.session.bytes e.session.last r → SessionMayTake s r
machine_may_take meaning w e s r h may = may_take_same _ _ _ _ _ _ r (sym h.count_is) (sym h.bytes_are) (sym h.last_is) may

pub world_may_take : {D : Type 0} (meaning : D → Meaning) (w : WorldView D) (e : WorldSession) (s : MachineSession) (r : Record) → SessionMatches meaning w e s
    → SessionMayTake s r → MayTake e.session.count e.session.bytes e.session.last r
world_may_take meaning w e s r h may = may_take_same _ _ _ _ _ _ r h.count_is h.bytes_are h.last_is may

pub takes_record : {D : Type 0} (meaning : D → Meaning) (w : WorldView D) (e : WorldSession) (v : SessionView) (s : MachineSession) (r : Record) (n : ℕ)
    → TakesRecord e.session r n v → SessionMatches meaning w e s → OwnChange e v s (record s { records = s.records ++ r ∷ [] })
takes_record meaning w e v s r n takes h =
    let active : s.status ≡ IsActive = h.status_is ∙ takes.active in
    record {
      key_is = ap (λ (x : SessionView). x.key) takes.is;
      key_same = refl;
      status_is = h.status_is ∙ sym (ap (λ (x : SessionView). x.status) takes.is);
      count_is = length_push s.records r ∙ ap (λ k. k + 1) h.count_is ∙ sym (ap (λ (x : SessionView). x.count) takes.is);
      bytes_are = sum_by_push (λ (x : Record). length x.bytes) s.records r ∙ ap (λ k. k + length r.bytes) h.bytes_are ∙ sym (ap (λ (x : SessionView). x.bytes) takes.is);
      last_is = last_index-push s.records r ∙ sym (ap (λ (x : SessionView). x.last) takes.is);
      bodies = λ honest sent b.
          let packs : Packs e.session.packer.room (sent ++ parts_of e.session) s.records Between =
          subst (λ status. HasBodies e.session.packer.room sent (sent ++ parts_of e.session) status s.records) active b in
          subst₂ (λ status room. HasBodies room sent (sent ++ parts_of v) status (s.records ++ r ∷ [])) (sym active) (sym takes.room_is) (takes.packs sent s.records packs);
    }

-- Another status.

-- a session whose status changes, and its bodies with it
pub status_changes : {D : Type 0} (meaning : D → Meaning) (w : WorldView D) (e : WorldSession) (v : SessionView) (s : MachineSession) (status : Status)
    → v.key ≡ e.session.key → v.status ≡ status → v.count ≡ e.session.count → v.bytes ≡ e.session.bytes → v.last ≡ e.session.last
    → ((sent : List PackedBody) → HasBodies e.session.packer.room sent (sent ++ parts_of e.session) s.status s.records → HasBodies v.packer.room sent (sent ++ parts_of v) status s.records)
    → SessionMatches meaning w e s → OwnChange e v s (record s { status = status })
status_changes meaning w e v s status key is count bytes last bodies h = record {
  key_is = key;
  key_same = refl;
  status_is = sym is;
  count_is = h.count_is ∙ sym count;
  bytes_are = h.bytes_are ∙ sym bytes;
  last_is = h.last_is ∙ sym last;
  bodies = λ honest sent b. bodies sent b;
}

pub ends_session : {D : Type 0} (meaning : D → Meaning) (w : WorldView D) (e : WorldSession) (v : SessionView) (s : MachineSession) (moment : ℤ)
    → EndsSession e.session moment v → SessionMatches meaning w e s → OwnChange e v s (record s { status = IsEnded })
ends_session meaning w e v s moment ends h =
    status_changes meaning w e v s IsEnded (ap (λ (x : SessionView). x.key) ends.is) (ap (λ (x : SessionView). x.status) ends.is) (ap (λ (x : SessionView). x.count) ends.is)
    (ap (λ (x : SessionView). x.bytes) ends.is) (ap (λ (x : SessionView). x.last) ends.is)
    (λ sent b. subst (λ room. Packs room (sent ++ parts_of v) s.records AtEnd) (sym ends.room_is)
    (ends.packs sent s.records h.count_is h.bytes_are
    (subst (λ status. HasBodies e.session.packer.room sent (sent ++ parts_of e.session) status s.records) (h.status_is ∙ ends.active) b)))
    h

-- what was sent of a session that goes on begins a cutting of its records
running_begins : (room : ℕ) (sent parts : List PackedBody) (status : Status) (records : List Record) → IsRunning status
    → HasBodies room sent (sent ++ parts) status records → BeginsPacked room sent records
running_begins room sent parts status records (inl is) h = record { dropped = parts; packs = inl (subst (λ status. HasBodies room sent (sent ++ parts) status records) is h) }
running_begins room sent parts status records (inr is) h = record { dropped = parts; packs = inr (subst (λ status. HasBodies room sent (sent ++ parts) status records) is h) }

pub cancels_session : {D : Type 0} (meaning : D → Meaning) (w : WorldView D) (e : WorldSession) (v : SessionView) (s : MachineSession)
    → CancelsSession e.session v → SessionMatches meaning w e s → OwnChange e v s (record s { status = IsCancelled })
cancels_session meaning w e v s cancels h =
    status_changes meaning w e v s IsCancelled (ap (λ (x : SessionView). x.key) cancels.is) (ap (λ (x : SessionView). x.status) cancels.is) (ap (λ (x : SessionView). x.count) cancels.is)
    (ap (λ (x : SessionView). x.bytes) cancels.is) (ap (λ (x : SessionView). x.last) cancels.is)
    (λ sent b. subst (λ room. BeginsPacked room sent s.records) (sym cancels.room_is)
    (running_begins e.session.packer.room sent (parts_of e.session) s.status s.records (subst IsRunning (sym h.status_is) cancels.running) b))
    h

-- Another place of its bodies.

-- a session is the same, but for where its bodies are
pub record MovesBodies (old new : SessionView) : Type 0 where
  pub key_is : new.key ≡ old.key
  pub status_is : new.status ≡ old.status
  pub count_is : new.count ≡ old.count
  pub bytes_are : new.bytes ≡ old.bytes
  pub last_is : new.last ≡ old.last
  pub room_is : new.packer.room ≡ old.packer.room

-- the bodies of a session that goes on are the same in the whole
pub running_bodies : (room room' : ℕ) (sent sent' all all' : List PackedBody) (status : Status) (records : List Record) → IsRunning status → room' ≡ room → all' ≡ all
    → HasBodies room sent all status records → HasBodies room' sent' all' status records
running_bodies room room' sent sent' all all' status records (inl is) rooms alls h =
    subst (λ x. HasBodies room' sent' all' x records) (sym is)
    (subst₂ (λ n bodies. Packs n bodies records Between) (sym rooms) (sym alls) (subst (λ x. HasBodies room sent all x records) is h))
running_bodies room room' sent sent' all all' status records (inr is) rooms alls h =
    subst (λ x. HasBodies room' sent' all' x records) (sym is)
    (subst₂ (λ n bodies. Packs n bodies records AtEnd) (sym rooms) (sym alls) (subst (λ x. HasBodies room sent all x records) is h))

pub parts_moved : {D : Type 0} (meaning : D → Meaning) (w : WorldView D) (e : WorldSession) (v : SessionView) (s : MachineSession) → MovesBodies e.session v → IsRunning e.session.status
    → (SpoolIsHonest e.session.spool → parts_of v ≡ parts_of e.session) → SessionMatches meaning w e s → OwnChange e v s s
parts_moved meaning w e v s moves running parts h = record {
  key_is = moves.key_is;
  key_same = refl;
  status_is = h.status_is ∙ sym moves.status_is;
  count_is = h.count_is ∙ sym moves.count_is;
  bytes_are = h.bytes_are ∙ sym moves.bytes_are;
  last_is = h.last_is ∙ sym moves.last_is;
  bodies = λ honest sent b. running_bodies e.session.packer.room v.packer.room sent sent (sent ++ parts_of e.session) (sent ++ parts_of v) s.status s.records
      (subst IsRunning (sym h.status_is) running) moves.room_is (ap (λ l. sent ++ l) (parts honest)) b;
}

pub running_unstruck : (status : Status) → IsRunning status → IsUnstruck status
running_unstruck status (inl is) = subst IsUnstruck (sym is) (refl, refl)
running_unstruck status (inr is) = subst IsUnstruck (sym is) (refl, refl)
