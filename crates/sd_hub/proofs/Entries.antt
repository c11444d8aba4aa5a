-- What becomes of a session of a line in the world, and where it lies there.
use Rattle.std.proofs.Common.{◌≡◌, ◌⊎◌, ℕ, zero, suc, ◌==◌, if◌then◌else◌, refl, ap, subst, ◌∙◌, inl, inr, arith, Bool, true, false, Some, List, [], ◌∷◌, slice_get}
use Rattle.std.specs.List.{Contains}
use Rattle.std.specs.List.Sorted.{IsPermutation}
use Rattle.std.proofs.lemmas.List.Sorted.{Contains-permutation, IsPermutation-sym, sum_by-IsPermutation}
use Rattle.std.proofs.lemmas.Option.{get_or_from_slice_get, slice_get-get_or, slice_get_within}
use Rattle.sd_base.specs.Key.{is_key}
use Rattle.sd_journal.specs.Journal.{Entry, fails}
use Rattle.sd_line.specs.Ends.{ToldSession}
use Rattle.sd_session.specs.Session.{DropsParts, IsRunning, SessionView, store_of}
use Rattle.sd_session.specs.declared.status.Status.{Status}
use Rattle.sd_session.specs.declared.status.Status.TheVariants.{Active, Ended, Closed, Cancelled, Failed, Purged}
use Rattle.sd_hub.specs.Settles.{AreDistinct, times_of}
use Rattle.sd_world.specs.World.{WorldSession, session_at}
use Rattle.sd_hub.specs.Worlds.{SettlesEach, SettlesOne, failed_status, machine_session}

-- What stays of a session.

-- what a session has still, whether it failed or not
pub record StaysOf (s v : SessionView) : Type 0 where
  pub key_is : v.key ≡ s.key
  pub lane_is : v.lane ≡ s.lane
  pub count_is : v.count ≡ s.count
  pub bytes_are : v.bytes ≡ s.bytes
  pub last_is : v.last ≡ s.last
  pub sent_is : v.sent ≡ s.sent
  pub room_is : v.packer.room ≡ s.packer.room
  pub store_is : store_of v ≡ store_of s

-- one that is the same has it all
stays_same : (s v : SessionView) → v ≡ s → StaysOf s v
stays_same s v is = record {
  key_is = ap (λ (x : SessionView). x.key) is;
  lane_is = ap (λ (x : SessionView). x.lane) is;
  count_is = ap (λ (x : SessionView). x.count) is;
  bytes_are = ap (λ (x : SessionView). x.bytes) is;
  last_is = ap (λ (x : SessionView). x.last) is;
  sent_is = ap (λ (x : SessionView). x.sent) is;
  room_is = ap (λ (x : SessionView). x.packer.room) is;
  store_is = ap store_of is;
}

-- one whose parts were dropped has it all
stays_dropped : (s v : SessionView) (status : Status) → DropsParts s status v → StaysOf s v
stays_dropped s v status d = record {
  key_is = ap (λ (x : SessionView). x.key) d.is;
  lane_is = ap (λ (x : SessionView). x.lane) d.is;
  count_is = ap (λ (x : SessionView). x.count) d.is;
  bytes_are = ap (λ (x : SessionView). x.bytes) d.is;
  last_is = ap (λ (x : SessionView). x.last) d.is;
  sent_is = ap (λ (x : SessionView). x.sent) d.is;
  room_is = d.room_is;
  store_is = ap store_of d.is;
}

-- Whether it fails.

-- it is as it was told, and lost nothing while it goes on
pub record IsAsTold (journal : List Entry) (s : ToldSession) (e : WorldSession) : Type 0 where
  pub same : e.session ≡ s.session
  pub sound : IsRunning s.session.status → fails s.session.key journal ≡ false
  pub status_is : (machine_session journal s).status ≡ s.session.status

-- it failed
pub record HasFailed (journal : List Entry) (s : ToldSession) (e : WorldSession) : Type 0 where
  pub drops : DropsParts s.session Failed e.session
  pub status_is : (machine_session journal s).status ≡ Failed

-- who goes on fails
running_fails : (status : Status) → IsRunning status → failed_status status ≡ Failed
running_fails status (inl is) = ap failed_status is
running_fails status (inr is) = ap failed_status is

-- who goes on no more doesn't
over_stays : (status : Status) → (IsRunning status → ⊥) → failed_status status ≡ status
over_stays Active over = absurd (over (inl refl))
over_stays Ended over = absurd (over (inr refl))
over_stays Closed over = refl
over_stays Cancelled over = refl
over_stays Failed over = refl
over_stays Purged over = refl

-- the status in the machine, by whether the drive lost a block
abbrev status_by : Status → Bool → Status
status_by status lost = if lost then failed_status status else status

-- each session is as it was told, or has failed
pub told_or_failed : (journal : List Entry) (s : ToldSession) (e : WorldSession) → SettlesOne journal s e → IsAsTold journal s e ⊎ HasFailed journal s e
told_or_failed journal s e (drive, inl (lost, inl (running, drops))) =
    inr (record { drops = drops; status_is = ap (status_by s.session.status) lost ∙ running_fails s.session.status running })
told_or_failed journal s e (drive, inl (lost, inr (over, same))) =
    inl (record { same = same; sound = λ running. absurd (over running); status_is = ap (status_by s.session.status) lost ∙ over_stays s.session.status over })
told_or_failed journal s e (drive, inr (none, same)) =
    inl (record { same = same; sound = λ running. none; status_is = ap (status_by s.session.status) none })

-- what stays of it either way
pub stays_of : (journal : List Entry) (s : ToldSession) (e : WorldSession) → SettlesOne journal s e → StaysOf s.session e.session
stays_of journal s e one = elim (told_or_failed journal s e one) [
  | inl t ↦ stays_same s.session e.session t.same
  | inr f ↦ stays_dropped s.session e.session Failed f.drops
]

-- Places.

-- the session of the world is this one of those that were told
pub record IsEntry (journal : List Entry) (told : List ToldSession) (e : WorldSession) : Type 0 where
  pub place : ℕ
  pub s : ToldSession
  pub there : slice_get told place ≡ Some s
  pub settles : SettlesOne journal s e

-- so is each at its place
pub entry_at : (journal : List Entry) (ss : List ToldSession) (es : List WorldSession) (at : ℕ) (e : WorldSession) → SettlesEach journal ss es → slice_get es at ≡ Some e → IsEntry journal ss e
entry_at journal [] [] at e each there = absurd (cc there)
entry_at journal [] (x ∷ es) at e each there = absurd each
entry_at journal (s ∷ ss) [] at e each there = absurd each
entry_at journal (s ∷ ss) (x ∷ es) zero e each there =
    let same : x ≡ e = cc there in
    record { place = 0; s = s; there = refl; settles = subst (SettlesOne journal s) same each.0 }
entry_at journal (s ∷ ss) (x ∷ es) (suc at) e each there =
    let i = entry_at journal ss es at e each.1 there in
    record { place = suc i.place; s = i.s; there = i.there; settles = i.settles }

-- and each that was told is in the world, at its place
pub in_world : (journal : List Entry) (ss : List ToldSession) (es : List WorldSession) (at : ℕ) (s : ToldSession) → SettlesEach journal ss es → slice_get ss at ≡ Some s
    → (e : WorldSession) × (slice_get es at ≡ Some e) × SettlesOne journal s e
in_world journal [] es at s each there = absurd (cc there)
in_world journal (x ∷ ss) [] at s each there = absurd each
in_world journal (x ∷ ss) (e ∷ es) zero s each there =
    let same : x ≡ s = cc there in
    (e, refl, subst (λ (y : ToldSession). SettlesOne journal y e) same each.0)
in_world journal (x ∷ ss) (e ∷ es) (suc at) s each there = in_world journal ss es at s each.1 there

-- one that is found by its ticket is at some place
pub index_of : (ticket : ℕ) (es : List WorldSession) (e : WorldSession) → session_at ticket es ≡ Some e → (at : ℕ) × (slice_get es at ≡ Some e)
index_of ticket [] e found = absurd (cc found)
index_of ticket (x ∷ es) e found = by (λ is. index_of ticket es e is) (x.session.key.id == ticket) found
  where
    by : (session_at ticket es ≡ Some e → (at : ℕ) × (slice_get es at ≡ Some e)) → (own : Bool) → (if own then Some x else session_at ticket es) ≡ Some e
        → (at : ℕ) × (slice_get (x ∷ es) at ≡ Some e)
    by behind true is = (0, is)
    by behind false is = let p = behind is in (suc p.0, p.1)

-- In another order.

-- what is in a list is in each that has its elements
pub moved : {A : Type 0} (xs ys : List A) (at : ℕ) (x : A) → IsPermutation xs ys → slice_get xs at ≡ Some x → (k : ℕ) × (slice_get ys k ≡ Some x)
moved xs ys at x all there =
    let here : Contains xs x = (at, slice_get_within xs at x there, get_or_from_slice_get xs at x x there) in
    let c = Contains-permutation xs ys x all here in
    (c.0, slice_get-get_or ys c.0 x c.1 ∙ ap Some c.2)

-- and the other way round
pub moved_back : {A : Type 0} (xs ys : List A) (at : ℕ) (x : A) → IsPermutation xs ys → slice_get ys at ≡ Some x → (k : ℕ) × (slice_get xs k ≡ Some x)
moved_back xs ys at x all there = moved ys xs at x (IsPermutation-sym xs ys all) there

-- sessions that have distinct keys have them in any order
pub distinct_moved : (xs ys : List ToldSession) → IsPermutation xs ys → AreDistinct xs → AreDistinct ys
distinct_moved xs ys all apart at s there =
    let k = moved_back xs ys at s all there in
    let same : times_of s.session.key ys ≡ times_of s.session.key xs = sum_by-IsPermutation (λ (x : ToldSession). if is_key x.session.key s.session.key then 1 else 0) xs ys all in
    let most = apart k.0 s k.1 in
    omega (arith, same, most)
