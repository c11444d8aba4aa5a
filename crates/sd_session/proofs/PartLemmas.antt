-- What the calls on a session's bodies do: its spool's, its packer's.
use Rattle.std.proofs.Common.{◌≡◌, ◌≢◌, ◌⊎◌, inl, inr, ◌+◌, ◌<◌, Bool, true, false, refl, sym, ap, subst, ◌∙◌, List, [], ◌∷◌, ◌++◌, length, arith}
use Rattle.std.specs.Prelude.{◌↔◌, Option, Some, None, IsSome, slice_get}
use Rattle.std.specs.Option.{option_to_list, MatchOption}
use Rattle.sd_pack.specs.Body.{PackedBody}
use Rattle.sd_pack.specs.Packing.{PackerView, bodies_of, unless_empty}
use Rattle.sd_spool.specs.Meaning.{Meaning}
use Rattle.sd_spool.specs.Job.{JobView, StoreState, BodyShape, state_of, FailsToClear}
use Rattle.sd_spool.specs.declared.store.SpoolStoreFault.{SpoolStoreFault}
use Rattle.sd_spool.specs.declared.store.SpoolStoreFault.TheVariants.{Device}
use Rattle.sd_lane.specs.Queue.{queued}
use Rattle.sd_session.proofs.SessionLemmas.{none_left}
use Rattle.sd_session.specs.declared.status.Status.TheVariants.{Failed}
use Rattle.sd_session.specs.Session.{SessionView, spooled_in, SpoolIsHonest, home_of, IsRunning}
use Rattle.sd_session.specs.Spooling.{StaysOut, WouldGoIn, HasFailed, FailsBySpool}
use Rattle.sd_session.specs.Sending.{QueueView, PutsIn, IsFull, Stations, stations, stations_of, TakesNext, HasNoNext, NoneIn, IsDueToSend, goes_on, goes_on_with, SendsBody, FindsLaneFull, ReadsSpool, FailsToTakeNext}

-- what is first in a list
pub first_waits : (waiting : List PackedBody) (body : PackedBody) → Some body ≡ slice_get waiting 0 → (rest : List PackedBody) × (waiting ≡ body ∷ rest)
first_waits [] body is = absurd (cc is)
first_waits (b ∷ bs) body is = (bs, let same : body ≡ b = cc is in ap (λ x. x ∷ bs) (sym same))

pub none_waits : (waiting : List PackedBody) → None ≡ slice_get waiting 0 → waiting ≡ []
none_waits [] is = refl
none_waits (b ∷ bs) is = absurd (cc is)

-- the first body stays out of the spool
pub stays_out : (despooling : Bool) (job : JobView) (waiting : List PackedBody) (body : PackedBody) → Some body ≡ slice_get waiting 0
    → (despooling ≡ true) ⊎ (job.limit < job.used + length body.bytes) → StaysOut despooling job waiting
stays_out despooling job waiting body is full =
    let first = first_waits waiting body is in
    record { body = body; rest = first.0; waits = first.1; full = full }

-- the first body would go in
pub would_go_in : (despooling : Bool) (job : JobView) (waiting : List PackedBody) (body : PackedBody) → Some body ≡ slice_get waiting 0
    → despooling ≡ false → (job.limit < job.used + length body.bytes → ⊥) → WouldGoIn despooling job waiting
would_go_in despooling job waiting body is not_despooling fits =
    let first = first_waits waiting body is in
    (body, first.0, record { waits = first.1; not_despooling = not_despooling; fits = omega arith })

same_view : (p q : PackerView) → p.room ≡ q.room → p.waiting ≡ q.waiting → p.open_body ≡ q.open_body → p ≡ q
same_view p q room waiting open_body =
    ap (λ n. let p' : PackerView = record { room = n; waiting = p.waiting; open_body = p.open_body } in p') room
    ∙ ap (λ l. let p' : PackerView = record { room = q.room; waiting = l; open_body = p.open_body } in p') waiting
    ∙ ap (λ b. let p' : PackerView = record { room = q.room; waiting = q.waiting; open_body = b } in p') open_body

-- with no ready body and no spool, the body that has waited longest is next
pub takes_waiting : (found ready ready' : Option PackedBody) (spool : Option JobView) (packer packer' : PackerView)
    → ready ≡ None → ready' ≡ None → spool ≡ None
    → (IsSome found ↔ (packer.waiting ≢ [])) → packer.waiting ≡ option_to_list found ++ packer'.waiting
    → packer'.open_body ≡ packer.open_body → packer'.room ≡ packer.room
    → MatchOption found
    (HasNoNext (stations ready spool packer) × (stations ready' spool packer' ≡ stations ready spool packer))
    (λ body. TakesNext body (stations ready spool packer) (stations ready' spool packer'))
takes_waiting (Some body) ready ready' spool packer packer' none none' no_spool is first open_is room_is =
    inr (inr (
      none,
      no_spool,
      record {
        waiting = first;
        open_is = open_is;
        room_is = room_is;
        is = ap (λ r. stations r spool packer') (none' ∙ sym none);
      },
    ))
takes_waiting None ready ready' spool packer packer' none none' no_spool is first open_is room_is =
    let nothing = first ∙ none_left None packer.waiting packer'.waiting is first in
    let same = same_view packer' packer room_is (sym first) open_is in
    ((none, subst (λ o. NoneIn o packer) (sym no_spool) nothing), ap (λ r. stations r spool packer') (none' ∙ sym none) ∙ ap (λ p. stations ready spool p) same)

-- what is known of a body that was found
pub found_body : (found : Option PackedBody) (body : PackedBody) (P : Type 0) (Q : PackedBody → Type 0) → found ≡ Some body → MatchOption found P Q → Q body
found_body (Some b) body P Q is known = let same : b ≡ body = cc is in subst Q same known
found_body None body P Q is known = absurd (cc is)

-- Whether there is a closed body.

pub due_ready : (ready : Option PackedBody) (rest : List PackedBody) → IsSome ready → option_to_list ready ++ rest ≢ []
due_ready (Some b) rest some = λ e. cc
due_ready None rest some = absurd (cc some)

pub due_spooled : (ready : Option PackedBody) (spooled rest : List PackedBody) → spooled ≢ [] → option_to_list ready ++ (spooled ++ rest) ≢ []
due_spooled (Some b) spooled rest some = λ e. cc
due_spooled None [] rest some = absurd (some refl)
due_spooled None (b ∷ bs) rest some = λ e. cc

pub due_waiting : (ready : Option PackedBody) (spooled waiting : List PackedBody) → ready ≡ None → spooled ≡ []
    → option_to_list ready ++ (spooled ++ waiting) ≡ waiting
due_waiting ready spooled waiting none none' =
    ap (λ r. option_to_list r ++ (spooled ++ waiting)) none ∙ ap (λ l. l ++ waiting) none'

-- A session fails by its spool: `now` is the session before it, as is `old`.
pub fails_by_spool : (old now : SessionView) (job : JobView) (state : StoreState) (ready : Option PackedBody) (store : Option StoreState) (spool : Option JobView) (packer : PackerView)
    → old ≡ now → IsRunning now.status → HasFailed job.store state
    → ready ≡ None → store ≡ Some state → spool ≡ None → bodies_of packer ≡ [] → packer.room ≡ old.packer.room
    → FailsBySpool now job (record old { status = Failed; ready = ready; store = store; spool = spool; despooling = false; packer = packer })
fails_by_spool old now job state ready store spool packer now-is running failed none-ready store-is none-spooled none room =
    subst (λ (v : SessionView). IsRunning v.status → FailsBySpool v job (record old { status = Failed; ready = ready; store = store; spool = spool; despooling = false; packer = packer })) now-is
    (λ is_running. record {
      state = state;
      has_failed = failed;
      drops = record {
        running = is_running;
        is = ap (λ (r : Option PackedBody). let s : SessionView = record old { status = Failed; ready = r; store = store; spool = spool; despooling = false; packer = packer } in s) none-ready
            ∙ ap (λ (t : Option StoreState). let s : SessionView = record old { status = Failed; ready = None; store = t; spool = spool; despooling = false; packer = packer } in s) store-is
            ∙ ap (λ (j : Option JobView). let s : SessionView = record old { status = Failed; ready = None; store = Some state; spool = j; despooling = false; packer = packer } in s) none-spooled;
        room_is = room;
        none_left = ap (λ (r : Option PackedBody). option_to_list r ++ (spooled_in spool ++ bodies_of packer)) none-ready
            ∙ ap (λ (j : Option JobView). spooled_in j ++ bodies_of packer) none-spooled
            ∙ none;
      };
    })
    running

-- a store that could not be cleared has counted that
pub cleared_fails : (store store' : Meaning) → FailsToClear Device store store' → HasFailed (state_of store) (state_of store')
cleared_fails store store' fails = record {
  honest = fails.counts.honest;
  failures = fails.counts.failures.later;
  cause = fails.counts.failures.rose.0 refl;
}

-- What sending does.

-- the bodies of the stations, in order
abbrev pub bodies_at : Stations → List PackedBody
bodies_at s = option_to_list s.ready ++ (spooled_in s.spool ++ bodies_of s.packer)

-- no body is ready once the next one is taken
pub none_ready : (body : PackedBody) (s t : Stations) → TakesNext body s t → t.ready ≡ None
none_ready body s t (inl (ready, is)) = ap (λ (x : Stations). x.ready) is
none_ready body s t (inr (inl (none, leaves))) = ap (λ (x : Stations). x.ready) leaves.is ∙ none
none_ready body s t (inr (inr (none, no_spool, stops))) = ap (λ (x : Stations). x.ready) stops.is ∙ none

-- it was the first of them, with an honest store
takes_first : (body : PackedBody) (s t : Stations) → TakesNext body s t → SpoolIsHonest s.spool → bodies_at s ≡ body ∷ bodies_at t
takes_first body s t (inl (ready, is)) honest =
    ap (λ (r : Option PackedBody). option_to_list r ++ (spooled_in s.spool ++ bodies_of s.packer)) ready
    ∙ ap (λ (l : List PackedBody). body ∷ l) (sym (ap bodies_at is))
takes_first body s t (inr (inl (none, leaves))) honest =
    let out = leaves.takes.bodies (subst SpoolIsHonest leaves.spool_is honest) in
    ap (λ (r : Option PackedBody). option_to_list r ++ (spooled_in s.spool ++ bodies_of s.packer)) none
    ∙ ap (λ (j : Option JobView). spooled_in j ++ bodies_of s.packer) leaves.spool_is
    ∙ ap (λ (l : List PackedBody). l ++ bodies_of s.packer) out
    ∙ ap (λ (l : List PackedBody). body ∷ l) (sym (ap bodies_at leaves.is
    ∙ ap (λ (r : Option PackedBody). option_to_list r ++ (leaves.job'.bodies ++ bodies_of s.packer)) none))
takes_first body s t (inr (inr (none, no_spool, stops))) honest =
    let open_of = λ (b : PackedBody). unless_empty b.bytes b in
    ap (λ (r : Option PackedBody). option_to_list r ++ (spooled_in s.spool ++ bodies_of s.packer)) none
    ∙ ap (λ (j : Option JobView). spooled_in j ++ bodies_of s.packer) no_spool
    ∙ ap (λ (l : List PackedBody). l ++ unless_empty s.packer.open_body.bytes s.packer.open_body) stops.waiting
    ∙ ap (λ (b : PackedBody). body ∷ (t.packer.waiting ++ unless_empty b.bytes b)) (sym stops.open_is)
    ∙ ap (λ (l : List PackedBody). body ∷ l) (sym (ap bodies_at stops.is
    ∙ ap (λ (r : Option PackedBody). option_to_list r ++ (spooled_in s.spool ++ bodies_of t.packer)) none
    ∙ ap (λ (j : Option JobView). spooled_in j ++ bodies_of t.packer) no_spool))

-- The body is sent; `now` is the session before it, as is `old`.
pub sends_body : (old now : SessionView) (queue queue' : QueueView) (body : PackedBody) (between : Stations) (despooling : Bool)
    → old ≡ now → IsRunning now.status → IsDueToSend now → TakesNext body (stations_of old) between
    → PutsIn queue (queued old.lane (record { key = old.key; seq = old.sent + 1; body = body })) queue'
    → despooling ≡ goes_on between.spool old.despooling
    → SendsBody now queue (record old { sent = old.sent + 1; ready = between.ready; spool = between.spool; despooling = despooling; packer = between.packer }) queue'
sends_body old now queue queue' body between despooling now-is running due takes puts_in on =
    subst (λ (v : SessionView). IsRunning v.status → IsDueToSend v → SendsBody v queue (record old { sent = old.sent + 1; ready = between.ready; spool = between.spool; despooling = despooling; packer = between.packer }) queue') now-is
    (λ is_running is_due. record {
      running = is_running;
      due = is_due;
      body = body;
      between = between;
      takes = takes;
      puts_in = puts_in;
      is = ap (λ (r : Option PackedBody). let s : SessionView = record old { sent = old.sent + 1; ready = r; spool = between.spool; despooling = despooling; packer = between.packer } in s) (none_ready body (stations_of old) between takes)
          ∙ ap (λ (d : Bool). let s : SessionView = record old { sent = old.sent + 1; ready = None; spool = between.spool; despooling = d; packer = between.packer } in s) on;
      bodies = takes_first body (stations_of old) between takes;
    })
    running due

-- The queue is full; the body that comes back is ready.
pub finds_lane_full : (old now : SessionView) (queue queue' : QueueView) (body back : PackedBody) (between : Stations)
    → old ≡ now → IsRunning now.status → IsDueToSend now → TakesNext body (stations_of old) between
    → IsFull queue queue' → back ≡ body
    → FindsLaneFull now queue (record old { ready = Some back; spool = between.spool; packer = between.packer }) queue'
finds_lane_full old now queue queue' body back between now-is running due takes is_full same =
    subst (λ (v : SessionView). IsRunning v.status → IsDueToSend v → FindsLaneFull v queue (record old { ready = Some back; spool = between.spool; packer = between.packer }) queue') now-is
    (λ is_running is_due. record {
      running = is_running;
      due = is_due;
      body = body;
      between = between;
      takes = takes;
      is_full = is_full;
      is = ap (λ (b : PackedBody). let s : SessionView = record old { ready = Some b; spool = between.spool; packer = between.packer } in s) same;
      bodies = λ honest. ap (λ (b : PackedBody). b ∷ (spooled_in between.spool ++ bodies_of between.packer)) same
          ∙ sym (takes_first body (stations_of old) between takes honest
          ∙ ap (λ (r : Option PackedBody). body ∷ (option_to_list r ++ (spooled_in between.spool ++ bodies_of between.packer))) (none_ready body (stations_of old) between takes));
    })
    running due

-- The store of the spool fails as a body is to come out; `now` is the session before it, as is `old`.
pub fails_by_despooling : (old now : SessionView) (fault : SpoolStoreFault) (after : Stations) (ready : Option PackedBody) (store : Option StoreState) (spool : Option JobView) (packer : PackerView)
    → old ≡ now → IsRunning now.status → IsDueToSend now → fault ≡ Device → FailsToTakeNext fault (stations_of old) after
    → ready ≡ None → store ≡ home_of old.store after.spool → spool ≡ None → bodies_of packer ≡ [] → packer.room ≡ after.packer.room
    → (reads : ReadsSpool now) × FailsBySpool now reads.job (record old { status = Failed; ready = ready; store = store; spool = spool; despooling = false; packer = packer })
fails_by_despooling old now fault after ready store spool packer now-is running due device fails none-ready store-is none-spooled none room = (
  record {
    running = running;
    due = due;
    none_ready = sym (ap (λ (v : SessionView). v.ready) now-is) ∙ fails.none_ready;
    job = fails.job;
    spool_is = sym (ap (λ (v : SessionView). v.spool) now-is) ∙ fails.spool_is;
    some_there = fails.some_there;
  },
  fails_by_spool old now fails.job fails.job'.store ready store spool packer now-is running (fails.device device) none-ready
      (store-is ∙ ap (home_of old.store) (ap (λ (x : Stations). x.spool) fails.is))
      none-spooled none (room ∙ ap (λ (x : Stations). x.packer.room) fails.is),
)

-- Despooling goes on while bodies are in the spool.

more : (shapes : List BodyShape) (despooling : Bool) → shapes ≢ [] → goes_on_with shapes despooling ≡ despooling
more [] despooling some = absurd (some refl)
more (s ∷ ss) despooling some = refl

pub goes_on_more : (spool : Option JobView) (job : JobView) (despooling : Bool) → spool ≡ Some job → job.shapes ≢ [] → goes_on spool despooling ≡ despooling
goes_on_more spool job despooling is some = ap (λ (j : Option JobView). goes_on j despooling) is ∙ more job.shapes despooling some
