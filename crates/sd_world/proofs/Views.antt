-- What a change of one session leaves of it: whose it is and where it sits; and the statuses that go on.
use Rattle.std.proofs.Common.{◌≡◌, true, false, refl, sym, ap, subst, ◌∙◌, inl, inr, Some, IsSome}
use Rattle.std.specs.Prelude.{IsTrue}
use Rattle.sd_base.specs.Record.{Record}
use Rattle.sd_base.specs.declared.refusal.Refusal.{Refusal}
use Rattle.sd_machine.proofs.Lookups.{not_over}
use Rattle.sd_machine.specs.Kept.{IsClosedOrPurged}
use Rattle.sd_session.specs.declared.answer.Spooling.{Spooling}
use Rattle.sd_session.specs.declared.answer.Spooling.TheVariants.{Spooled, SpoolFull, Nothing, NoSpool}
use Rattle.sd_session.specs.declared.status.Status.{Status}
use Rattle.sd_session.specs.declared.status.Status.TheVariants.{Active, Ended, Closed, Cancelled, Failed, Purged}
use Rattle.sd_session.specs.Session.{SessionView, IsRunning, TakesRecord, EndsSession, DropsParts, CancelsSession, FailsSession, GivesBack, home_of, store_of}
use Rattle.sd_session.specs.Spooling.{Spools, SpoolRefused, FailsBySpool}
use Rattle.sd_session.specs.Sending.{DespoolRefused}
use Rattle.sd_spool.specs.Job.{StoreState, JobView}
use Rattle.sd_world.specs.Drives.{is_running}
use Rattle.sd_world.specs.Honest.{StoreIsTrue}

-- a session that failed, is cancelled, closed or purged doesn't go on
pub failed_not_running : IsRunning Failed → ⊥
failed_not_running (inl is) = cc
failed_not_running (inr is) = cc

pub cancelled_not_running : IsRunning Cancelled → ⊥
cancelled_not_running (inl is) = cc
cancelled_not_running (inr is) = cc

pub closed_not_running : IsRunning Closed → ⊥
closed_not_running (inl is) = cc
closed_not_running (inr is) = cc

pub purged_not_running : IsRunning Purged → ⊥
purged_not_running (inl is) = cc
purged_not_running (inr is) = cc

-- who goes on wasn't purged
pub not_purged : (status : Status) → IsRunning status → status ≡ Purged → ⊥
not_purged status running purged = not_over status running (inr purged)

-- the test tells of who goes on
pub runs : (status : Status) → IsRunning status → is_running status ≡ true
runs status (inl is) = ap is_running is
runs status (inr is) = ap is_running is

-- and of no other
pub running_is : (status : Status) → is_running status ≡ true → IsRunning status
running_is Active is = inl refl
running_is Ended is = inr refl
running_is Closed is = absurd (cc is)
running_is Cancelled is = absurd (cc is)
running_is Failed is = absurd (cc is)
running_is Purged is = absurd (cc is)

pub not_running : (status : Status) → (IsRunning status → ⊥) → is_running status ≡ false
not_running Active over = absurd (over (inl refl))
not_running Ended over = absurd (over (inr refl))
not_running Closed over = refl
not_running Cancelled over = refl
not_running Failed over = refl
not_running Purged over = refl

-- The session is whose it was, in its lane, and as many pieces were sent of it; it goes on only if it did, and is
-- closed, or purged, exactly if it was.
pub record SessionStays (s t : SessionView) : Type 0 where
  pub key_is : t.key ≡ s.key
  pub lane_is : t.lane ≡ s.lane
  pub sent_is : t.sent ≡ s.sent
  pub running : IsRunning t.status → IsRunning s.status
  pub was_closed : t.status ≡ Closed → s.status ≡ Closed
  pub stays_closed : s.status ≡ Closed → t.status ≡ Closed
  pub was_purged : t.status ≡ Purged → s.status ≡ Purged
  pub stays_purged : s.status ≡ Purged → t.status ≡ Purged

-- it has the lane's store, if it had
abbrev pub StoreStays : SessionView → SessionView → Type 0
StoreStays s t = IsSome (store_of s) → IsSome (store_of t)

-- if the store was true that it had, so is the one that it has now
abbrev pub StaysTrue : SessionView → SessionView → Type 0
StaysTrue s t = StoreIsTrue (store_of s) → StoreIsTrue (store_of t)

-- all of it
pub record StaysWhole (s t : SessionView) : Type 0 where
  pub stays : SessionStays s t
  pub store : StoreStays s t
  pub honest : StaysTrue s t

-- of the same status
pub alike_stays : (s t : SessionView) → t.key ≡ s.key → t.lane ≡ s.lane → t.sent ≡ s.sent → t.status ≡ s.status → SessionStays s t
alike_stays s t key lane sent status = record {
  key_is = key;
  lane_is = lane;
  sent_is = sent;
  running = λ r. subst IsRunning status r;
  was_closed = λ is. sym status ∙ is;
  stays_closed = λ is. status ∙ is;
  was_purged = λ is. sym status ∙ is;
  stays_purged = λ is. status ∙ is;
}

-- who went on, and is of another status now
turned_stays : (s t : SessionView) → t.key ≡ s.key → t.lane ≡ s.lane → t.sent ≡ s.sent → IsRunning s.status → (IsClosedOrPurged t.status → ⊥) → SessionStays s t
turned_stays s t key lane sent runs other = record {
  key_is = key;
  lane_is = lane;
  sent_is = sent;
  running = λ r. runs;
  was_closed = λ is. absurd (other (inl is));
  stays_closed = λ is. absurd (not_over s.status runs (inl is));
  was_purged = λ is. absurd (other (inr is));
  stays_purged = λ is. absurd (not_over s.status runs (inr is));
}

pub same_stays : (s : SessionView) → SessionStays s s
same_stays s = alike_stays s s refl refl refl refl

pub same_whole : (s t : SessionView) → t ≡ s → StaysWhole s t
same_whole s t is = subst (StaysWhole s) (sym is) (record { stays = same_stays s; store = λ h. h; honest = λ h. h })

pub takes_record : (s t : SessionView) (r : Record) (n : _) → TakesRecord s r n t → StaysWhole s t
takes_record s t r n h = subst (StaysWhole s) (sym h.is) (record { stays = alike_stays s _ refl refl refl refl; store = λ h. h; honest = λ h. h })

-- an ended or failed session is neither closed nor purged
ended_not_over : IsClosedOrPurged Ended → ⊥
ended_not_over (inl is) = cc is
ended_not_over (inr is) = cc is

failed_not_over : IsClosedOrPurged Failed → ⊥
failed_not_over (inl is) = cc is
failed_not_over (inr is) = cc is

cancelled_not_over : IsClosedOrPurged Cancelled → ⊥
cancelled_not_over (inl is) = cc is
cancelled_not_over (inr is) = cc is

pub ends : (s t : SessionView) (moment : _) → EndsSession s moment t → StaysWhole s t
ends s t moment h = subst (StaysWhole s) (sym h.is)
    (record { stays = turned_stays s _ refl refl refl (inl h.active) ended_not_over; store = λ h. h; honest = λ h. h })

-- parts are dropped with a status that is neither closed nor purged
pub drops : (s t : SessionView) (status : Status) → (IsClosedOrPurged status → ⊥) → DropsParts s status t → StaysWhole s t
drops s t status other h = subst (StaysWhole s) (sym h.is)
    (record { stays = turned_stays s _ refl refl refl h.running other; store = λ h. h; honest = λ h. h })

pub cancels : (s t : SessionView) → CancelsSession s t → StaysWhole s t
cancels s t h = drops s t Cancelled cancelled_not_over h

pub fails : (s t : SessionView) → FailsSession s t → StaysWhole s t
fails s t (inl h) = drops s t Failed failed_not_over h.1
fails s t (inr h) = same_whole s t h.1

-- the session fails by its spool, whose store it keeps
pub fails_by_spool : (s t : SessionView) (job : JobView) → s.spool ≡ Some job → FailsBySpool s job t → StaysWhole s t
fails_by_spool s t job spool_is h = subst (StaysWhole s) (sym h.drops.is) (record {
  stays = turned_stays s _ refl refl refl h.drops.running failed_not_over;
  store = λ some. refl;
  honest = λ true_store. subst IsTrue (sym h.has_failed.honest) (subst StoreIsTrue (ap (home_of s.store) spool_is) true_store);
})

-- a spool is there before and after
spool_changes : (s t : SessionView) (job job' : JobView) → s.spool ≡ Some job → job'.store ≡ job.store → t ≡ record s { spool = Some job'; packer = t.packer } → StaysWhole s t
spool_changes s t job job' spool_is store_is is = subst (StaysWhole s) (sym is) (record {
  stays = alike_stays s _ refl refl refl refl;
  store = λ h. refl;
  honest = λ true_store. subst (λ (state : StoreState). IsTrue state.honest) (sym store_is) (subst StoreIsTrue (ap (home_of s.store) spool_is) true_store);
})

pub spools : (answer : Spooling) (s t : SessionView) → Spools answer s t → StaysWhole s t
spools Spooled s t h = spool_changes s t h.job h.job' h.spool_is h.moves.store_is h.is
spools SpoolFull s t h = subst (StaysWhole s) (sym h.2) (record {
  stays = alike_stays s _ refl refl refl refl;
  store = λ h. h;
  honest = λ h. h;
})
spools Nothing s t h = same_whole s t h.3
spools NoSpool s t h = same_whole s t h.2

pub spool_refused : (s t : SessionView) (why : Refusal) → SpoolRefused s why t → StaysWhole s t
spool_refused s t why (inl h) = same_whole s t h.1
spool_refused s t why (inr (inl h)) = fails_by_spool s t h.0.job h.0.spool_is h.2
spool_refused s t why (inr (inr h)) = same_whole s t h.2

pub despool_refused : (s t : SessionView) (why : Refusal) → DespoolRefused s why t → StaysWhole s t
despool_refused s t why (inl h) = same_whole s t h.1
despool_refused s t why (inr (inl h)) = fails_by_spool s t h.0.job h.0.spool_is h.2
despool_refused s t why (inr (inr h)) = same_whole s t h.2

-- the session that gives the lane's store back is else as it was
pub gives_back : (s t : SessionView) (store : StoreState) → GivesBack s store t → SessionStays s t
gives_back s t store h = subst (SessionStays s) (sym h.is)
    (alike_stays s _ refl refl refl refl)

-- who failed, or didn't go on, doesn't
pub failed_over : (s t : SessionView) → FailsSession s t → IsRunning t.status → ⊥
failed_over s t (inl h) r = failed_not_running (subst IsRunning (ap (λ (x : SessionView). x.status) h.1.is) r)
failed_over s t (inr h) r = h.0 (subst (λ (x : SessionView). IsRunning x.status) h.1 r)
