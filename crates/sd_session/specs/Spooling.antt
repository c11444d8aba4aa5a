-- What one step of spooling does to a session.
use Rattle.std.specs.Prelude.{◌≡◌, ◌⊎◌, ◌+◌, ◌<◌, ◌≤◌, Bool, true, false, Some, None, IsSome, List, [], ◌∷◌, length}
use Rattle.sd_base.specs.Count.{Rose}
use Rattle.sd_base.specs.declared.refusal.Refusal.{Refusal}
use Rattle.sd_base.specs.declared.refusal.Refusal.TheVariants.{SpoolFault, Memory}
use Rattle.sd_pack.specs.Body.{PackedBody}
use Rattle.sd_pack.specs.Packing.{PackerView}
use Rattle.sd_spool.specs.Job.{JobView, StoreState, Puts}
use Rattle.sd_session.specs.declared.answer.Spooling.{Spooling}
use Rattle.sd_session.specs.declared.answer.Spooling.TheVariants.{Spooled, SpoolFull, Nothing, NoSpool}
use Rattle.sd_session.specs.declared.status.Status.TheVariants.{Failed}
use Rattle.sd_session.specs.Session.{SessionView, SpoolIsHonest, IsRunning, NotRunning, parts_of, DropsParts}

-- the body waited longest, and goes into the spool: the session isn't despooling, and the body is within the limit
pub record GoesIn (despooling : Bool) (job : JobView) (waiting : List PackedBody) (body : PackedBody) (rest : List PackedBody) : Type 0 where
  pub waits : waiting ≡ body ∷ rest
  pub not_despooling : despooling ≡ false
  pub fits : job.used + length body.bytes ≤ job.limit

-- a body waits that goes in
abbrev pub WouldGoIn : Bool → JobView → List PackedBody → Type 0
WouldGoIn despooling job waiting = (body : PackedBody) × (rest : List PackedBody) × GoesIn despooling job waiting body rest

-- it doesn't: the session despools, or the body would pass the limit
pub record StaysOut (despooling : Bool) (job : JobView) (waiting : List PackedBody) : Type 0 where
  pub body : PackedBody
  pub rest : List PackedBody
  pub waits : waiting ≡ body ∷ rest
  pub full : (despooling ≡ true) ⊎ (job.limit < job.used + length body.bytes)

-- The body is the last in the spool, and waits no longer. No failure was counted.
pub record MovesIn (despooling : Bool) (job : JobView) (packer : PackerView) (job' : JobView) (packer' : PackerView) : Type 0 where
  pub body : PackedBody
  pub goes_in : GoesIn despooling job packer.waiting body packer'.waiting
  pub puts : Puts body job job'
  pub store_is : job'.store ≡ job.store
  pub open_is : packer'.open_body ≡ packer.open_body
  pub room_is : packer'.room ≡ packer.room

-- the store is as honest as it was, and has counted a failure, or can't count any more
pub record HasFailed (old new : StoreState) : Type 0 where
  pub honest : new.honest ≡ old.honest
  pub failures : old.failures ≤ new.failures
  pub cause : Rose old.failures new.failures

-- The body that waited longest is the spool's last. With an honest store the session has the bodies that it had.
pub record SpoolsBody (old new : SessionView) : Type 0 where
  pub running : IsRunning old.status
  pub job : JobView
  pub job' : JobView
  pub spool_is : old.spool ≡ Some job
  pub moves : MovesIn old.despooling job old.packer job' new.packer
  pub is : new ≡ record old { spool = Some job'; packer = new.packer }
  pub bodies : SpoolIsHonest old.spool → parts_of new ≡ parts_of old

-- What one step of spooling did to a session that goes on: a body went in; one waits that stays out, so that the session despools
-- from now on; no closed body waits; the session doesn't spool.
abbrev pub Spools : Spooling → SessionView → SessionView → Type 0
Spools Spooled old new = SpoolsBody old new
Spools SpoolFull old new = IsRunning old.status
    × ((job : JobView) × (old.spool ≡ Some job) × StaysOut old.despooling job old.packer.waiting) × (new ≡ record old { despooling = true })
Spools Nothing old new = IsRunning old.status × IsSome old.spool × (old.packer.waiting ≡ []) × (new ≡ old)
Spools NoSpool old new = IsRunning old.status × (old.spool ≡ None) × (new ≡ old)

-- A fault of the spool's store, which counted it: the session fails, and its parts are dropped.
pub record FailsBySpool (old : SessionView) (job : JobView) (new : SessionView) : Type 0 where
  -- what of the store outlasts its bytes, after the fault
  pub state : StoreState
  pub has_failed : HasFailed job.store state
  pub drops : DropsParts (record old { store = Some state; spool = None }) Failed new

-- the body that has waited longest would go into this spool
pub record WouldSpool (s : SessionView) : Type 0 where
  pub running : IsRunning s.status
  pub job : JobView
  pub spool_is : s.spool ≡ Some job
  pub goes_in : WouldGoIn s.despooling job s.packer.waiting

-- Why nothing is spooled: the status; else, if a body would go in, the store's fault, which fails the session, or memory.
abbrev pub SpoolRefused : SessionView → Refusal → SessionView → Type 0
SpoolRefused old why new =
    (NotRunning old why × (new ≡ old))
    ⊎ ((would : WouldSpool old) × (why ≡ SpoolFault) × FailsBySpool old would.job new)
    ⊎ (WouldSpool old × (why ≡ Memory) × (new ≡ old))

-- One step of a spool that is there.

-- what it did
abbrev pub PutsWaiting : Spooling → Bool → JobView → PackerView → JobView → PackerView → Type 0
PutsWaiting Spooled despooling job packer job' packer' = MovesIn despooling job packer job' packer'
PutsWaiting SpoolFull despooling job packer job' packer' = StaysOut despooling job packer.waiting × (job' ≡ job) × (packer' ≡ packer)
PutsWaiting Nothing despooling job packer job' packer' = (packer.waiting ≡ []) × (job' ≡ job) × (packer' ≡ packer)
PutsWaiting NoSpool despooling job packer job' packer' = ⊥
