-- What a session's spool is: the bodies in it, and how much of its limit they use.
use Rattle.std.specs.Prelude.{◌≡◌, ◌≢◌, ℕ, ◌+◌, ◌≤◌, ◌<◌, Bool, true, false, List, [], ◌∷◌, ◌++◌, length, map, take, drop, Err, IsTrue}
use Rattle.std.specs.List.{AllByRecursion}
use Rattle.sd_base.specs.Limits.{least_body, most_body}
use Rattle.sd_pack.specs.Body.{PackedBody}
use Rattle.sd_base.specs.Count.{Rose}
use Rattle.sd_spool.specs.Meaning.{Meaning, IsHonest, CountsFailures, MayClear}
use Rattle.sd_spool.specs.declared.entry.SpoolEntry.{SpoolEntry}
use Rattle.sd_spool.specs.declared.entry.Extent.{Extent}
use Rattle.sd_spool.specs.declared.store.SpoolStoreFault.{SpoolStoreFault}
use Rattle.sd_spool.specs.declared.store.SpoolStoreFault.TheVariants.{Memory}

-- what a spool knows of a body without its store: how long it is, and its first and last FileIndex
pub record BodyShape : Type 0 where
  pub length : ℕ
  pub first : ℕ
  pub last : ℕ

-- what a spool knows of this body
abbrev pub shape_of : PackedBody → BodyShape
shape_of body = record { length = length body.bytes; first = body.first; last = body.last }

-- what of a store outlasts its bytes
pub record StoreState : Type 0 where
  -- it gives back what it was given
  pub honest : Bool
  pub failures : ℕ

-- what of this store outlasts its bytes
abbrev pub state_of : Meaning → StoreState
state_of store = record { honest = store.honest; failures = store.failures }

-- all that clauses say of a spool
pub record JobView : Type 0 where
  pub store : StoreState
  -- the bodies in it, oldest first, by what the spool itself knows of them
  pub shapes : List BodyShape
  -- these bodies, with the bytes that the store has for them
  pub bodies : List PackedBody
  -- the bytes of all bodies put since the spool was last empty: those taken out since then count too
  pub used : ℕ
  -- the most that `used` may come to
  pub limit : ℕ
  -- the store failed a put while bodies were in it, and the spool hasn't been empty since. Those bodies
  -- are as they were, but what is put after them may come back as other bytes
  pub torn : Bool

-- the spool's store is honest
abbrev pub StoreIsHonest : JobView → Type 0
StoreIsHonest view = IsTrue view.store.honest

-- what counts towards the limit while these bodies are in the spool: nothing if none is
abbrev pub used_with : List BodyShape → ℕ → ℕ
used_with [] used = 0
used_with (s ∷ ss) used = used

-- whether a failed put is felt while these bodies are in the spool: not if none is
abbrev pub torn_with : List BodyShape → Bool → Bool
torn_with [] torn = false
torn_with (s ∷ ss) torn = torn

-- if no failed put is felt, an honest store under a spool that isn't empty holds as many bytes as count towards
-- the limit: the bodies since the spool was last empty, and nothing from before
abbrev pub HoldsUsed : JobView → Meaning → Type 0
HoldsUsed view store = IsHonest store → view.torn ≡ false → view.shapes ≢ [] → length store.bytes ≡ view.used

-- what a spool knows of the body of an entry
abbrev pub entry_shape : SpoolEntry → BodyShape
entry_shape entry = record { length = entry.length; first = entry.first; last = entry.last }

-- that body, with the bytes at its place
abbrev pub entry_body : List ℕ → SpoolEntry → PackedBody
entry_body bytes entry = record {
  bytes = take entry.length (drop entry.at bytes);
  first = entry.first;
  last = entry.last;
}

-- the view of a spool by its parts
abbrev pub view_of : Meaning → List SpoolEntry → Extent → ℕ → JobView
view_of store entries extent limit = record {
  store = state_of store;
  shapes = map entry_shape entries;
  bodies = map (entry_body store.bytes) entries;
  used = used_with (map entry_shape entries) extent.end;
  limit = limit;
  torn = torn_with (map entry_shape entries) extent.torn;
}

-- an entry is of a body that a block can hold, and its bytes end at or before this place
pub record IsEntry (end : ℕ) (entry : SpoolEntry) : Type 0 where
  pub least : least_body ≤ entry.length
  pub most : entry.length ≤ most_body
  pub within : entry.at + entry.length ≤ end

-- if no call failed to change an honest store, it holds just the bytes up to the end
abbrev pub EndsAt : Meaning → Extent → Type 0
EndsAt store extent = IsHonest store → extent.torn ≡ false → length store.bytes ≡ extent.end

-- what the parts of a spool keep
pub record IsKept (store : Meaning) (entries : List SpoolEntry) (extent : Extent) (limit : ℕ) : Type 0 where
  pub each : AllByRecursion (IsEntry extent.end) entries
  pub within : extent.end ≤ limit
  pub ends : EndsAt store extent

-- where a put begins: where things stand, or at the start if no body is in the spool and it is cleared
abbrev pub begin_extent : Bool → Extent → Extent
begin_extent true extent = record { end = 0; torn = false }
begin_extent false extent = extent

-- the bytes after which a put begins, in the same way
abbrev pub begin_bytes : Bool → List ℕ → List ℕ
begin_bytes true bytes = []
begin_bytes false bytes = bytes

-- what calls do

-- an empty spool on a store in this state
abbrev pub empty_on : StoreState → ℕ → JobView
empty_on store limit = record {
  store = store;
  shapes = [];
  bodies = [];
  used = 0;
  limit = limit;
  torn = false;
}

-- a store that could not be cleared, with the fault
pub record FailsToClear (fault : SpoolStoreFault) (old new : Meaning) : Type 0 where
  pub counts : CountsFailures {T = Unit {0}} (Err fault) old new
  pub memory : fault ≡ Memory → new ≡ old
  pub bytes : IsHonest old → MayClear old.bytes new.bytes

-- no call changes whether the store is honest; its failures don't fall; the call answers a fault of the store only
-- if one was counted, or if the count can't rise any more, and it does if one was counted
pub record HasCause (fault : Type 0) (old new : StoreState) : Type 0 where
  pub honest : new.honest ≡ old.honest
  pub failures : old.failures ≤ new.failures
  pub cause : fault → Rose old.failures new.failures
  pub counted : old.failures < new.failures → fault

-- the body is the last in the spool
pub record Puts (body : PackedBody) (old new : JobView) : Type 0 where
  pub shapes : new.shapes ≡ old.shapes ++ shape_of body ∷ []
  pub bodies : StoreIsHonest old → old.torn ≡ false → new.bodies ≡ old.bodies ++ body ∷ []
  pub used : new.used ≡ old.used + length body.bytes
  pub limit : new.limit ≡ old.limit
  pub torn : new.torn ≡ old.torn

-- the body isn't in the spool; if others are, it is torn
pub record FailsToPut (old new : JobView) : Type 0 where
  pub shapes : new.shapes ≡ old.shapes
  pub bodies : StoreIsHonest old → old.torn ≡ false → new.bodies ≡ old.bodies
  pub used : new.used ≡ old.used
  pub limit : new.limit ≡ old.limit
  pub torn : new.torn ≡ torn_with old.shapes true

-- the body was the oldest in the spool, and is out
pub record Takes (body : PackedBody) (old new : JobView) : Type 0 where
  pub shapes : old.shapes ≡ shape_of body ∷ new.shapes
  pub bodies : StoreIsHonest old → old.bodies ≡ body ∷ new.bodies
  pub used : new.used ≡ used_with new.shapes old.used
  pub limit : new.limit ≡ old.limit
  pub torn : new.torn ≡ torn_with new.shapes old.torn

-- the same bodies are in the spool
pub record FailsToTake (old new : JobView) : Type 0 where
  pub shapes : new.shapes ≡ old.shapes
  pub bodies : StoreIsHonest old → new.bodies ≡ old.bodies
  pub used : new.used ≡ old.used
  pub limit : new.limit ≡ old.limit
  pub torn : new.torn ≡ old.torn
