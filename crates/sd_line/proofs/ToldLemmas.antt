-- What a step of the list machine leaves of what a session was told. It is the machine's step in a world without drives, where a
-- session matches by its counts alone.
use Rattle.std.proofs.Common.{◌≡◌, ◌≢◌, ◌≤◌, Bool, true, false, refl, sym, ap, subst, ◌∙◌, inl, inr, None, List, [], ◌++◌, IsSome}
use Rattle.sd_base.specs.Record.{Record}
use Rattle.sd_driver.specs.Meaning.{Meaning}
use Rattle.sd_machine.specs.Machine.{MachineSession}
use Rattle.sd_pack.specs.Body.{PackedBody}
use Rattle.sd_session.specs.Session.{SessionView, SpoolIsHonest, IsRunning, parts_of, store_of}
use Rattle.sd_session.specs.Sending.{Stations, TakesNext}
use Rattle.sd_session.specs.declared.status.Status.{Status}
use Rattle.sd_session.specs.declared.status.Status.TheVariants.{Closed, Purged}
use Rattle.sd_world.specs.Honest.{StoreIsTrue}
use Rattle.sd_world.specs.Matches.{HasBodies, SessionMatches}
use Rattle.sd_world.specs.World.{WorldView, WorldSession}
use Rattle.sd_world.proofs.Changes.{OwnChange, spool_is_honest}
use Rattle.sd_line.specs.Ends.{ToldSession, TellsAll, RestsOn}

-- a world without drives
abbrev pub nowhere : WorldView ⊥
nowhere = record {
  limits = record { block = 0; volume = 0; spool = 0; time = 0; host = None };
  queue = 0;
  next = 0;
  sessions = [];
  bays = [];
  desk = record { claims = []; requests = [] };
}

abbrev pub no_meaning : ⊥ → Meaning
no_meaning d = absurd d

-- the session in it
abbrev pub entry_of : SessionView → WorldSession
entry_of s = record { session = s; drive = 0 }

-- the session of a list machine
abbrev pub machine_of : ToldSession → MachineSession
machine_of s = record { key = s.session.key; records = s.told; status = s.session.status }

-- these records of a session
abbrev pub told : Bool → SessionView → List Record → ToldSession
told spools s records = record { session = s; told = records; spools = spools }

-- what a session rests on
abbrev pub Rests : Bool → SessionView → Type 0
Rests spools s = RestsOn spools (StoreIsTrue (store_of s))

-- so its spool is honest, if it has one
pub spool_rests : (spools : Bool) (s : SessionView) → (spools ≡ false → s.spool ≡ None) → Rests spools s → SpoolIsHonest s.spool
spool_rests true s none h = spool_is_honest s (h refl)
spool_rests false s none h = subst SpoolIsHonest (sym (none refl)) tt

pub matches : (honest : Type 0) (s : ToldSession) (sent : List PackedBody) → TellsAll honest s sent → SessionMatches no_meaning nowhere (entry_of s.session) (machine_of s)
matches honest s sent h = record {
  key_is = refl;
  status_is = refl;
  count_is = h.count_is;
  bytes_are = h.bytes_are;
  last_is = h.last_is;
  bodies_are = λ at bay d online honest. absurd d.device;
  closed = λ c o. elim o [ inl parts ↦ parts (h.closed c).0 | inr x ↦ absurd x.2.device ];
}

-- what is told of a session after a step that sends nothing
pub told_on : (s : ToldSession) (v : SessionView) (m : MachineSession) (sent : List PackedBody)
    → OwnChange (entry_of s.session) v (machine_of s) m → v.sent ≡ s.session.sent
    → (StoreIsTrue (store_of v) → StoreIsTrue (store_of s.session)) → (s.spools ≡ false → s.session.spool ≡ None)
    → (v.status ≡ Closed → (parts_of v ≡ []) × (1 ≤ v.sent)) → v.status ≢ Purged
    → TellsAll (Rests s.spools s.session) s sent → TellsAll (Rests s.spools v) (told s.spools v m.records) sent
told_on s v m sent c same back none closed not h = record {
  count_is = c.count_is;
  bytes_are = c.bytes_are;
  last_is = c.last_is;
  sent_is = h.sent_is ∙ sym same;
  bodies_are = λ honest.
      let was : Rests s.spools s.session = λ spools. back (honest spools) in
      subst (λ status. HasBodies v.packer.room sent (sent ++ parts_of v) status m.records) c.status_is
      (c.bodies (spool_rests s.spools s.session none was) sent (h.bodies_are was));
  closed = closed;
  not_purged = not;
}

-- What becomes of a session by a step of its own, and of what it was told.
pub record StepsOn (s : SessionView) (records : List Record) (v : SessionView) (records' : List Record) : Type 0 where
  pub key_is : v.key ≡ s.key
  pub lane_is : v.lane ≡ s.lane
  pub store_back : StoreIsTrue (store_of v) → StoreIsTrue (store_of s)
  pub store_there : IsSome (store_of s) → IsSome (store_of v)
  pub unspooled : s.spool ≡ None → v.spool ≡ None
  pub tells : (spools : Bool) (sent : List PackedBody) → (spools ≡ false → s.spool ≡ None) → TellsAll (Rests spools s) (told spools s records) sent
      → TellsAll (Rests spools v) (told spools v records') sent

pub not_closed : (status : Status) → IsRunning status → status ≡ Closed → ⊥
not_closed status (inl is) c = cc
not_closed status (inr is) c = cc

pub not_purged : (status : Status) → IsRunning status → status ≡ Purged → ⊥
not_purged status (inl is) c = cc
not_purged status (inr is) c = cc

-- with no spool there is none after a body left either
pub next_unspooled : (body : PackedBody) (old between : Stations) → TakesNext body old between → old.spool ≡ None → between.spool ≡ None
next_unspooled body old between (inl t) none = ap (λ (s : Stations). s.spool) t.1 ∙ none
next_unspooled body old between (inr (inl t)) none = absurd (cc (sym none ∙ t.1.spool_is))
next_unspooled body old between (inr (inr t)) none = ap (λ (s : Stations). s.spool) t.2.is ∙ none
