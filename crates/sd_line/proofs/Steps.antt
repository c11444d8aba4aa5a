-- What each step of a session leaves of what it was told.
use Rattle.std.proofs.Common.{◌≡◌, ◌≢◌, ℕ, ◌≤◌, ℤ, refl, sym, ap, subst, ◌∙◌, inl, inr, Bool, true, Some, None, List, [], ◌∷◌, ◌++◌, IsSome, IsTrue}
use Rattle.sd_base.specs.Record.{Record}
use Rattle.sd_base.specs.declared.refusal.Refusal.{Refusal}
use Rattle.sd_machine.specs.Machine.{MachineSession}
use Rattle.sd_pack.specs.Body.{PackedBody}
use Rattle.sd_session.specs.Session.{SessionView, SpoolIsHonest, IsRunning, TakesRecord, EndsSession, DropsParts, CancelsSession, FailsSession, ClosesSession, parts_of, store_of, home_of}
use Rattle.sd_session.specs.Sending.{QueueView, stations_of, FindsLaneFull, DespoolRefused}
use Rattle.sd_session.specs.Spooling.{Spools, FailsBySpool, SpoolRefused}
use Rattle.sd_session.specs.declared.answer.Spooling.{Spooling}
use Rattle.sd_session.specs.declared.answer.Spooling.TheVariants.{Spooled, SpoolFull, Nothing, NoSpool}
use Rattle.sd_session.specs.declared.status.Status.TheVariants.{Active, Ended, Closed, Cancelled, Failed, Purged}
use Rattle.sd_span.specs.declared.progress.Progress.{Progress}
use Rattle.sd_spool.specs.Job.{JobView}
use Rattle.sd_world.specs.Honest.{StoreIsTrue}
use Rattle.sd_world.specs.Matches.{HasBodies}
use Rattle.sd_world.proofs.Changes.{OwnChange, MovesBodies, takes_record, ends_session, cancels_session, status_changes, parts_moved}
use Rattle.sd_world.proofs.SessionSteps.{moves_bodies}
use Rattle.sd_world.proofs.Despool.{next_store, next_room}
use Rattle.sd_line.specs.Ends.{TellsAll}
use Rattle.sd_line.proofs.ToldLemmas.{nowhere, no_meaning, entry_of, machine_of, told, Rests, matches, told_on, StepsOn, not_closed, not_purged, next_unspooled}

-- a step that does nothing
pub stays : (s v : SessionView) (records : List Record) → v ≡ s → StepsOn s records v records
stays s v records is = subst (λ x. StepsOn s records x records) (sym is) (record {
  key_is = refl;
  lane_is = refl;
  store_back = λ honest. honest;
  store_there = λ some. some;
  unspooled = λ none. none;
  tells = λ spools sent none h. h;
})

-- A step of a session that changes in the machine too, keeps its store, and goes on or is given up.
step : (s v : SessionView) (records : List Record) (m : MachineSession) → v.key ≡ s.key → v.lane ≡ s.lane → v.sent ≡ s.sent
    → store_of v ≡ store_of s → (s.spool ≡ None → v.spool ≡ None) → (v.status ≡ Closed → (parts_of v ≡ []) × (1 ≤ v.sent)) → v.status ≢ Purged
    → ((spools : Bool) (sent : List PackedBody) → TellsAll (Rests spools s) (told spools s records) sent → OwnChange (entry_of s) v (machine_of (told spools s records)) m)
    → StepsOn s records v m.records
step s v records m key lane same store unspooled closed not own = record {
  key_is = key;
  lane_is = lane;
  store_back = subst StoreIsTrue store;
  store_there = subst IsSome (sym store);
  unspooled = unspooled;
  tells = λ spools sent none h. told_on (told spools s records) v m sent (own spools sent h) same (subst StoreIsTrue store) none closed not h;
}

pub appended : (s v : SessionView) (records : List Record) (r : Record) (n : ℕ) → TakesRecord s r n v → StepsOn s records v (records ++ r ∷ [])
appended s v records r n t =
    let active : v.status ≡ Active = ap (λ (x : SessionView). x.status) t.is ∙ t.active in
    step s v records (record (machine_of (told true s records)) { records = records ++ r ∷ [] })
    (ap (λ (x : SessionView). x.key) t.is) (ap (λ (x : SessionView). x.lane) t.is) (ap (λ (x : SessionView). x.sent) t.is) (ap store_of t.is) (λ none. ap (λ (x : SessionView). x.spool) t.is ∙ none)
    (λ c. absurd (not_closed v.status (inl active) c)) (not_purged v.status (inl active))
    (λ spools sent h. takes_record no_meaning nowhere (entry_of s) v (machine_of (told spools s records)) r n t (matches (Rests spools s) (told spools s records) sent h))

pub ended : (s v : SessionView) (records : List Record) (moment : ℤ) → EndsSession s moment v → StepsOn s records v records
ended s v records moment t =
    let status : v.status ≡ Ended = ap (λ (x : SessionView). x.status) t.is in
    step s v records (record (machine_of (told true s records)) { status = Ended })
    (ap (λ (x : SessionView). x.key) t.is) (ap (λ (x : SessionView). x.lane) t.is) (ap (λ (x : SessionView). x.sent) t.is) (ap store_of t.is) (λ none. ap (λ (x : SessionView). x.spool) t.is ∙ none)
    (λ c. absurd (not_closed v.status (inr status) c)) (not_purged v.status (inr status))
    (λ spools sent h. ends_session no_meaning nowhere (entry_of s) v (machine_of (told spools s records)) moment t (matches (Rests spools s) (told spools s records) sent h))

pub cancelled : (s v : SessionView) (records : List Record) → CancelsSession s v → StepsOn s records v records
cancelled s v records t =
    let status : v.status ≡ Cancelled = ap (λ (x : SessionView). x.status) t.is in
    step s v records (record (machine_of (told true s records)) { status = Cancelled })
    (ap (λ (x : SessionView). x.key) t.is) (ap (λ (x : SessionView). x.lane) t.is) (ap (λ (x : SessionView). x.sent) t.is) (ap store_of t.is) (λ none. ap (λ (x : SessionView). x.spool) t.is)
    (λ c. absurd (cc (status, c))) (λ c. cc (status, c))
    (λ spools sent h. cancels_session no_meaning nowhere (entry_of s) v (machine_of (told spools s records)) t (matches (Rests spools s) (told spools s records) sent h))

-- Failing.

-- a session that lost its parts, and which store it has now
dropped : (s t v : SessionView) (records : List Record) → DropsParts t Failed v → t.key ≡ s.key → t.lane ≡ s.lane → t.sent ≡ s.sent
    → t.count ≡ s.count → t.bytes ≡ s.bytes → t.last ≡ s.last
    → (StoreIsTrue (store_of t) → StoreIsTrue (store_of s)) → (IsSome (store_of s) → IsSome (store_of t)) → StepsOn s records v records
dropped s t v records d key lane same count bytes last back there =
    let status : v.status ≡ Failed = ap (λ (x : SessionView). x.status) d.is in
    let store : store_of v ≡ store_of t = ap store_of d.is in
    record {
      key_is = ap (λ (x : SessionView). x.key) d.is ∙ key;
      lane_is = ap (λ (x : SessionView). x.lane) d.is ∙ lane;
      store_back = λ honest. back (subst StoreIsTrue store honest);
      store_there = λ some. subst IsSome (sym store) (there some);
      unspooled = λ none. ap (λ (x : SessionView). x.spool) d.is;
      tells = λ spools sent none h. record {
        count_is = h.count_is ∙ sym count ∙ sym (ap (λ (x : SessionView). x.count) d.is);
        bytes_are = h.bytes_are ∙ sym bytes ∙ sym (ap (λ (x : SessionView). x.bytes) d.is);
        last_is = h.last_is ∙ sym last ∙ sym (ap (λ (x : SessionView). x.last) d.is);
        sent_is = h.sent_is ∙ sym same ∙ sym (ap (λ (x : SessionView). x.sent) d.is);
        bodies_are = λ honest. subst (λ x. HasBodies v.packer.room sent (sent ++ parts_of v) x records) (sym status) tt;
        closed = λ c. absurd (cc (status, c));
        not_purged = λ c. cc (status, c);
      };
    }

pub failed : (s v : SessionView) (records : List Record) → FailsSession s v → StepsOn s records v records
failed s v records (inl t) = dropped s s v records t.1 refl refl refl refl refl refl (λ honest. honest) (λ some. some)
failed s v records (inr t) = stays s v records t.1

-- a store is as honest as it was, even if the spool that had it is gone
fails_by_spool : (s v : SessionView) (records : List Record) (job : JobView) → s.spool ≡ Some job → FailsBySpool s job v → StepsOn s records v records
fails_by_spool s v records job there f =
    let had : store_of s ≡ Some job.store = ap (home_of s.store) there in
    dropped s (record s { store = Some f.state; spool = None }) v records f.drops refl refl refl refl refl refl
    (λ honest. subst StoreIsTrue (sym had) (subst IsTrue f.has_failed.honest honest)) (λ some. refl)

-- Bodies that move.

-- the session is the same but for where its bodies are, and where its store is
moved : (s v : SessionView) (records : List Record) → MovesBodies s v → v.lane ≡ s.lane → v.sent ≡ s.sent → store_of v ≡ store_of s
    → (s.spool ≡ None → v.spool ≡ None) → IsRunning s.status → (SpoolIsHonest s.spool → parts_of v ≡ parts_of s) → StepsOn s records v records
moved s v records moves lane same store unspooled running parts =
    let runs : IsRunning v.status = subst IsRunning (sym moves.status_is) running in
    step s v records (machine_of (told true s records)) moves.key_is lane same store unspooled
    (λ c. absurd (not_closed v.status runs c)) (not_purged v.status runs)
    (λ spools sent h. parts_moved no_meaning nowhere (entry_of s) v (machine_of (told spools s records)) moves running parts (matches (Rests spools s) (told spools s records) sent h))

pub spooled : (answer : Spooling) (s v : SessionView) (records : List Record) → Spools answer s v → StepsOn s records v records
spooled Spooled s v records t =
    let store : store_of v ≡ store_of s = ap store_of t.is ∙ ap Some t.moves.store_is ∙ sym (ap (home_of s.store) t.spool_is) in
    moved s v records (moves_bodies s v s.sent s.ready (Some t.job') s.despooling v.packer t.is t.moves.room_is)
    (ap (λ (x : SessionView). x.lane) t.is) (ap (λ (x : SessionView). x.sent) t.is) store (λ none. absurd (cc (sym none ∙ t.spool_is))) t.running t.bodies
spooled SpoolFull s v records t =
    moved s v records (moves_bodies s v s.sent s.ready s.spool true s.packer t.2 refl)
    (ap (λ (x : SessionView). x.lane) t.2) (ap (λ (x : SessionView). x.sent) t.2) (ap store_of t.2) (λ none. ap (λ (x : SessionView). x.spool) t.2 ∙ none) t.0 (λ honest. ap parts_of t.2)
spooled Nothing s v records t = stays s v records t.3
spooled NoSpool s v records t = stays s v records t.2

pub not_spooled : (s v : SessionView) (records : List Record) (why : Refusal) → SpoolRefused s why v → StepsOn s records v records
not_spooled s v records why (inl t) = stays s v records t.1
not_spooled s v records why (inr (inl t)) = fails_by_spool s v records t.0.job t.0.spool_is t.2
not_spooled s v records why (inr (inr t)) = stays s v records t.2

pub found_full : (s v : SessionView) (records : List Record) (queue queue' : QueueView) → FindsLaneFull s queue v queue' → StepsOn s records v records
found_full s v records queue queue' t =
    moved s v records (moves_bodies s v s.sent (Some t.body) t.between.spool s.despooling t.between.packer t.is (next_room t.body (stations_of s) t.between t.takes))
    (ap (λ (x : SessionView). x.lane) t.is) (ap (λ (x : SessionView). x.sent) t.is)
    (ap store_of t.is ∙ next_store s.store t.body (stations_of s) t.between t.takes)
    (λ none. ap (λ (x : SessionView). x.spool) t.is ∙ next_unspooled t.body (stations_of s) t.between t.takes none) t.running t.bodies

pub not_sent : (s v : SessionView) (records : List Record) (why : Refusal) → DespoolRefused s why v → StepsOn s records v records
not_sent s v records why (inl t) = stays s v records t.1
not_sent s v records why (inr (inl t)) = fails_by_spool s v records t.0.job t.0.spool_is t.2
not_sent s v records why (inr (inr t)) = stays s v records t.2

-- Closing.

pub closed : (s v : SessionView) (records : List Record) (progress : Progress) → ClosesSession s progress v → StepsOn s records v records
closed s v records progress t =
    let status : v.status ≡ Closed = ap (λ (x : SessionView). x.status) t.is in
    let none : parts_of v ≡ [] = ap parts_of t.is ∙ t.may.none_left in
    let some : 1 ≤ v.sent = subst (λ n. 1 ≤ n) (sym (ap (λ (x : SessionView). x.sent) t.is)) t.may.some_sent in
    step s v records (record (machine_of (told true s records)) { status = Closed })
    (ap (λ (x : SessionView). x.key) t.is) (ap (λ (x : SessionView). x.lane) t.is) (ap (λ (x : SessionView). x.sent) t.is) (ap store_of t.is) (λ n. ap (λ (x : SessionView). x.spool) t.is ∙ n)
    (λ c. (none, some)) (λ c. cc (status, c))
    (λ spools sent h. status_changes no_meaning nowhere (entry_of s) v (machine_of (told spools s records)) Closed
    (ap (λ (x : SessionView). x.key) t.is) status (ap (λ (x : SessionView). x.count) t.is) (ap (λ (x : SessionView). x.bytes) t.is) (ap (λ (x : SessionView). x.last) t.is)
    (λ bodies b. subst (λ (x : SessionView). HasBodies x.packer.room bodies (bodies ++ parts_of x) Closed records) (sym t.is)
    (subst (λ status. HasBodies s.packer.room bodies (bodies ++ parts_of s) status records) t.may.ended b))
    (matches (Rests spools s) (told spools s records) sent h))
