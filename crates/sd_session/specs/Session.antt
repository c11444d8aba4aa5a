-- One session, as data, and what each of its own steps does to it.
use Rattle.std.specs.Prelude.{◌≡◌, ◌≢◌, ◌⊎◌, ℕ, zero, suc, ◌+◌, ◌^◌, ◌<◌, ◌≤◌, ℤ, Bool, false, IsTrue, Option, Some, None, List, [], ◌∷◌, ◌++◌, length}
use Rattle.std.specs.Option.{option_to_list}
use Rattle.sd_base.specs.Record.{Record}
use Rattle.sd_base.specs.declared.number.SessionKey.{SessionKey}
use Rattle.sd_base.specs.declared.refusal.Refusal.{Refusal}
use Rattle.sd_base.specs.declared.refusal.Refusal.TheVariants.{SessionNotOpen, BadFileIndex, SessionFailed, SessionCancelled, NotYet, Busy, SpoolFault, Memory}
use Rattle.sd_record.specs.Fragment.{Fragment, fragments_bytes, Fragments}
use Rattle.sd_label.specs.declared.label.SessionLabel.{SessionLabel}
use Rattle.sd_label.specs.Label.{session_label_bytes}
use Rattle.sd_label.specs.Cutting.{Standing, Between, AtEnd, total_bytes}
use Rattle.sd_pack.specs.Body.{PackedBody, empty_body}
use Rattle.sd_pack.specs.Packing.{PackerView, Packs, HasOpen, bodies_of, all_bytes}
use Rattle.sd_span.specs.declared.progress.Progress.{Progress}
use Rattle.sd_spool.specs.Meaning.{Meaning}
use Rattle.sd_spool.specs.Job.{JobView, StoreState, StoreIsHonest, empty_on, FailsToClear}
use Rattle.sd_spool.specs.declared.store.SpoolStoreFault.{SpoolStoreFault}
use Rattle.sd_spool.specs.declared.store.SpoolStoreFault.TheVariants.{Device, Memory as OutOfMemory}
use Rattle.sd_session.specs.declared.opening.Opening.{Opening}
use Rattle.sd_session.specs.declared.status.Status.{Status}
use Rattle.sd_session.specs.declared.status.Status.TheVariants.{Active, Ended, Closed, Cancelled, Failed, Purged}

-- A session: whose it is, its lane, job, pool and media; its status; how many records and data bytes it took, and the last index;
-- how many bodies it sent; the one that a full queue left ready; the lane's store, while unused; its spool, if it spools; whether
-- it despools, so that nothing goes into the spool; its packer.
pub record SessionView : Type 0 where
  pub key : SessionKey
  pub lane : ℕ
  pub job : ℕ
  pub pool : List ℕ
  pub media : List ℕ
  pub status : Status
  pub count : ℕ
  pub bytes : ℕ
  pub last : ℕ
  pub sent : ℕ
  pub ready : Option PackedBody
  pub store : Option StoreState
  pub spool : Option JobView
  pub despooling : Bool
  pub packer : PackerView

-- the bodies in the spool, oldest first; none if there is no spool
abbrev pub spooled_in : Option JobView → List PackedBody
spooled_in None = []
spooled_in (Some j) = j.bodies

-- the closed bodies that the session itself has, in order: the ready one, those in the spool, those that wait
abbrev pub due_of : SessionView → List PackedBody
due_of s = option_to_list s.ready ++ (spooled_in s.spool ++ s.packer.waiting)

-- the bodies that the session itself has, in order: the ready one, those in the spool, those that wait, the
-- open one. With those that were sent before them they are all its bodies.
abbrev pub parts_of : SessionView → List PackedBody
parts_of s = option_to_list s.ready ++ (spooled_in s.spool ++ bodies_of s.packer)

-- its spool, if it has one, gives back what it was given
abbrev pub SpoolIsHonest : Option JobView → Type 0
SpoolIsHonest None = Unit {0}
SpoolIsHonest (Some j) = StoreIsHonest j

-- no put into the spool has failed
abbrev pub IsWhole : Option JobView → Type 0
IsWhole None = Unit {0}
IsWhole (Some j) = j.torn ≡ false

-- the lane's store: in the spool if there is one, else unused, or given back
abbrev pub home_of : Option StoreState → Option JobView → Option StoreState
home_of store None = store
home_of store (Some j) = Some j.store

-- the lane's store, while the session has it
abbrev pub store_of : SessionView → Option StoreState
store_of s = home_of s.store s.spool

-- the refusal if an event finds a session that its status keeps from it
abbrev pub status_refusal : Status → Refusal
status_refusal Cancelled = SessionCancelled
status_refusal Failed = SessionFailed
status_refusal status = SessionNotOpen

-- the session goes on, with its end label or without
abbrev pub IsRunning : Status → Type 0
IsRunning status = (status ≡ Active) ⊎ (status ≡ Ended)

-- why a step of a session that goes on is refused: its status alone
abbrev pub NotRunning : SessionView → Refusal → Type 0
NotRunning s why = (IsRunning s.status → ⊥) × (why ≡ status_refusal s.status)

-- A session of so many records and data bytes, the last of them of index `last` (0 for none), may take the
-- record: its index is 1 or more, and the last or the last plus one, and neither count runs out.
pub record MayTake (count bytes last : ℕ) (r : Record) : Type 0 where
  pub index_least : 1 ≤ r.index
  pub index_is : (r.index ≡ last) ⊎ (r.index ≡ last + 1)
  pub count_fits : count + 1 < 2 ^ 64
  pub bytes_fit : bytes + length r.bytes < 2 ^ 64

-- the label at the start of a session
abbrev pub start_label : Opening → SessionLabel
start_label o = record { job = o.job; pool = o.pool; media = o.media; moment = o.moment; totals = None }

-- the label at its end, with its totals
abbrev pub end_label : SessionView → ℤ → SessionLabel
end_label s moment = record { job = s.job; pool = s.pool; media = s.media; moment = moment; totals = Some (record { records = s.count; bytes = s.bytes }) }

-- how the bodies of a session that goes on stand: between two records, or after its end label
abbrev pub standing_of : Status → Standing
standing_of Active = Between
standing_of status = AtEnd

-- how many bodies are in the spool
abbrev pub spooled_count : Option JobView → ℕ
spooled_count None = 0
spooled_count (Some j) = length j.shapes

-- no closed body is left to the session: none is ready, in the spool, or waits
pub record HasNoneDue (s : SessionView) : Type 0 where
  pub none_ready : s.ready ≡ None
  pub none_spooled : spooled_count s.spool ≡ 0
  pub none_waits : s.packer.waiting ≡ []

-- All that was packed, whatever a store makes of it: the bodies that left the packer, of which each was sent, is
-- ready or is in the spool; then those in the packer. They hold as many records and data bytes as the session
-- counted, so that there are fewer bodies than 64 bits can count.
pub record IsPacked (s : SessionView) : Type 0 where
  pub left : List PackedBody
  pub records : List Record
  pub count_is : length records ≡ s.count
  pub bytes_are : total_bytes records ≡ s.bytes
  pub room_least : 1000 ≤ s.packer.room
  pub packs : Packs s.packer.room (left ++ bodies_of s.packer) records (standing_of s.status)
  pub left_are : length left ≡ s.sent + (length (option_to_list s.ready) + spooled_count s.spool)

-- what a session keeps: an active one has an open body, no other has; its spool is whole; and while it goes on,
-- its bodies hold what it took
pub record IsSessionView (s : SessionView) : Type 0 where
  pub active_open : s.status ≡ Active → HasOpen s.packer
  pub else_closed : s.status ≢ Active → s.packer.open_body ≡ empty_body
  pub whole : IsWhole s.spool
  pub packed : IsRunning s.status → IsPacked s

-- Opening.

-- with a limit of 0 nothing is spooled, and the store lies unused
abbrev pub unused_store : ℕ → StoreState → Option StoreState
unused_store zero store = Some store
unused_store (suc n) store = None

-- with any other limit there is an empty spool on the store
abbrev pub new_spool : ℕ → StoreState → Option JobView
new_spool zero store = None
new_spool (suc n) store = Some (empty_on store (suc n))

-- a new session over a store in this state: no record, and its start label packed, in a body that is open
pub record StartsSession (o : Opening) (room limit : ℕ) (store : StoreState) (s : SessionView) : Type 0 where
  pub is : s ≡ record {
    key = o.key;
    lane = o.lane;
    job = o.job;
    pool = o.pool;
    media = o.media;
    status = Active;
    count = 0;
    bytes = 0;
    last = 0;
    sent = 0;
    ready = None;
    store = unused_store limit store;
    spool = new_spool limit store;
    despooling = false;
    packer = s.packer;
  }
  pub room_is : s.packer.room ≡ room
  pub body_open : HasOpen s.packer
  pub packs : Packs room (parts_of s) [] Between
  pub bytes_are : all_bytes (parts_of s) ≡ session_label_bytes (start_label o)

-- what a fault of the store is to whoever opens a session
abbrev pub store_refusal : SpoolStoreFault → Refusal
store_refusal Device = SpoolFault
store_refusal OutOfMemory = Memory

-- Why no session is opened: out of memory, which leaves the store as it was; or, last of all, the store could
-- not be cleared for a spool.
abbrev pub StartRefused : ℕ → Meaning → Refusal → Meaning → Type 0
StartRefused limit store why store' =
    ((why ≡ Memory) × (store' ≡ store))
    ⊎ ((limit ≢ 0) × (why ≡ SpoolFault) × FailsToClear Device store store')

-- Records.

-- The record is added: its fragments come after all bytes that were there, and after whatever was sent
-- before, the bodies pack one record more; the last of them is open.
pub record TakesRecord (old : SessionView) (r : Record) (n : ℕ) (new : SessionView) : Type 0 where
  pub active : old.status ≡ Active
  pub may_take : MayTake old.count old.bytes old.last r
  pub none_waits : old.packer.waiting ≡ []
  pub number : n ≡ old.count + 1
  pub is : new ≡ record old { count = old.count + 1; bytes = old.bytes + length r.bytes; last = r.index; packer = new.packer }
  pub room_is : new.packer.room ≡ old.packer.room
  pub body_open : HasOpen new.packer
  pub fragments : List Fragment
  pub fragments_are : Fragments r fragments
  pub bytes_are : all_bytes (parts_of new) ≡ all_bytes (parts_of old) ++ fragments_bytes fragments
  pub packs : (before : List PackedBody) (records : List Record)
      → Packs old.packer.room (before ++ parts_of old) records Between
      → Packs old.packer.room (before ++ parts_of new) (records ++ r ∷ []) Between

-- why the record is not added: the status, then the index or the counts, then a closed body that waits, then out of
-- memory
abbrev pub AppendRefused : SessionView → Record → Refusal → Type 0
AppendRefused s r why =
    ((s.status ≢ Active) × (why ≡ status_refusal s.status))
    ⊎ ((s.status ≡ Active) × (MayTake s.count s.bytes s.last r → ⊥) × (why ≡ BadFileIndex))
    ⊎ ((s.status ≡ Active) × MayTake s.count s.bytes s.last r × (s.packer.waiting ≢ []) × (why ≡ Busy))
    ⊎ ((s.status ≡ Active) × MayTake s.count s.bytes s.last r × (s.packer.waiting ≡ []) × (why ≡ Memory))

-- The end.

-- the end label is packed and the last body closed: none is open
pub record EndsSession (old : SessionView) (moment : ℤ) (new : SessionView) : Type 0 where
  pub active : old.status ≡ Active
  pub is : new ≡ record old { status = Ended; packer = new.packer }
  pub room_is : new.packer.room ≡ old.packer.room
  pub none_open : new.packer.open_body ≡ empty_body
  pub packs : (before : List PackedBody) (records : List Record)
      → length records ≡ old.count → total_bytes records ≡ old.bytes
      → Packs old.packer.room (before ++ parts_of old) records Between
      → Packs old.packer.room (before ++ parts_of new) records AtEnd
  pub bytes_are : all_bytes (parts_of new) ≡ all_bytes (parts_of old) ++ session_label_bytes (end_label old moment)

-- why a session is not ended: the status, then out of memory
abbrev pub EndRefused : SessionView → Refusal → Type 0
EndRefused s why = ((s.status ≢ Active) × (why ≡ status_refusal s.status)) ⊎ ((s.status ≡ Active) × (why ≡ Memory))

-- with this status, what is ready, in the spool, waiting or open is dropped; what was sent stays sent
pub record DropsParts (old : SessionView) (status : Status) (new : SessionView) : Type 0 where
  pub running : IsRunning old.status
  pub is : new ≡ record old { status = status; ready = None; store = store_of old; spool = None; despooling = false; packer = new.packer }
  pub room_is : new.packer.room ≡ old.packer.room
  pub none_left : parts_of new ≡ []

-- a session that goes on is given up
abbrev pub CancelsSession : SessionView → SessionView → Type 0
CancelsSession old new = DropsParts old Cancelled new

-- a session that goes on fails; no other does
abbrev pub FailsSession : SessionView → SessionView → Type 0
FailsSession old new = (IsRunning old.status × DropsParts old Failed new) ⊎ ((IsRunning old.status → ⊥) × (new ≡ old))

-- a session that goes on no more is purged; no other is
abbrev pub PurgesSession : SessionView → SessionView → Type 0
PurgesSession old new =
    ((IsRunning old.status → ⊥) × (new ≡ record old { status = Purged })) ⊎ (IsRunning old.status × (new ≡ old))

-- it may be closed: it has its end label, doesn't fail, has no body left, and all that it sent, a body at least, is synced
pub record MayClose (s : SessionView) (progress : Progress) : Type 0 where
  pub ended : s.status ≡ Ended
  pub sound : progress.failed ≡ false
  pub none_left : parts_of s ≡ []
  pub all_synced : progress.synced ≡ s.sent
  pub some_sent : 1 ≤ s.sent

-- the session is closed, which it may be
pub record ClosesSession (old : SessionView) (progress : Progress) (new : SessionView) : Type 0 where
  pub may : MayClose old progress
  pub is : new ≡ record old { status = Closed }

-- why a session isn't closed: the status; its volume failed; it has a body left itself, or not all that was sent of it is synced
abbrev pub CloseRefused : SessionView → Progress → Refusal → Type 0
CloseRefused s progress why =
    ((s.status ≢ Ended) × (why ≡ status_refusal s.status))
    ⊎ ((s.status ≡ Ended) × IsTrue progress.failed × (why ≡ SessionFailed))
    ⊎ ((s.status ≡ Ended) × (progress.failed ≡ false) × ((parts_of s ≢ []) ⊎ (progress.synced ≢ s.sent)) × (why ≡ NotYet))

-- the session gives the lane's store back, and has none from then on; all else stays
pub record GivesBack (old : SessionView) (store : StoreState) (new : SessionView) : Type 0 where
  pub over : IsRunning old.status → ⊥
  pub store_is : store_of old ≡ Some store
  pub is : new ≡ record old { store = None; spool = None }

-- it gives none: it goes on, or has none any more
abbrev pub KeepsStore : SessionView → SessionView → Type 0
KeepsStore old new = (IsRunning old.status ⊎ (store_of old ≡ None)) × (new ≡ old)
