-- The drive and the lane that a new session gets.
use Rattle.std.proofs.Common.{◌≡◌, ℕ, suc, ◌+◌, ◌≤◌, ◌<◌, refl, sym, inl, inr, get_or, ap, subst, ◌∙◌, arith, Bool, true, false, cond, not, count_by, List, [], ◌∷◌, length, take, map, Option, Some, None, option_map, slice_get, slice_set, MatchOption}
use Rattle.std.specs.Prelude.{IsTrue, IsSome}
use Rattle.std.proofs.lemmas.List.{length-map}
use Rattle.std.proofs.lemmas.List.Sums.{sum_by-cons}
use Rattle.std.proofs.lemmas.Option.{slice_get-map, slice_get-get_or}
use Rattle.sd_base.specs.Choice.{FirstOf, NoneOf}
use Rattle.sd_drive.specs.View.{DriveIs}
use Rattle.sd_base.specs.declared.refusal.Refusal.{Refusal}
use Rattle.sd_journal.specs.Journal.{Entry}
use Rattle.sd_reserve.specs.Refusals.{refusal_of_reserve}
use Rattle.sd_reserve.specs.Reserve.{TakesMedia, IsOnline, IsCandidate, Precedes}
use Rattle.sd_reserve.specs.declared.drive.ReserveFault.{ReserveFault}
use Rattle.sd_reserve.specs.declared.drive.ReserveFault.TheVariants.{NoDriveOfMedia, DriveOffline, NoFreeLane}
use Rattle.sd_reserve.specs.declared.drive.DriveView.{DriveView}
use Rattle.sd_world.specs.Sessions.{NoneReserved}
use Rattle.sd_world.specs.World.{WorldView, WorldSession, BayView, LaneView, drives_for, bay_for, busy_lanes, free_lanes, lane_is_free}
use Rattle.sd_events.proofs.Seats.{some_of}
use Rattle.sd_world.proofs.Lookups.{one_or_two, get_set-same, get_set-other}

-- the first of a list, if each is what it should be
pub first_are : {A B : Type 0} (f : A → B) (xs : List A) (ys : List B) → length xs ≤ length ys
    → ((k : ℕ) (x : A) → slice_get xs k ≡ Some x → slice_get ys k ≡ Some (f x)) → take (length xs) ys ≡ map f xs
first_are f [] ys long each = refl
first_are f (x ∷ xs) [] long each = absurd (omega (arith, long))
first_are f (x ∷ xs) (y ∷ ys) long each =
    let same : y ≡ f x = cc (each 0 x refl) in
    let rest = first_are f xs ys (omega (arith, long)) (λ k z there. each (suc k) z there) in
    ap (λ z. z ∷ take (length xs) ys) same ∙ ap (λ l. f x ∷ l) rest

-- one more is what it should be
pub made_more : {A B : Type 0} (f : A → B) (xs : List A) (ys : List B) (place : ℕ) (x : A) (y : B) → place < length ys → slice_get xs place ≡ Some x → y ≡ f x
    → ((k : ℕ) (z : A) → k < place → slice_get xs k ≡ Some z → slice_get ys k ≡ Some (f z))
    → (k : ℕ) (z : A) → k < place + 1 → slice_get xs k ≡ Some z → slice_get (slice_set ys place y) k ≡ Some (f z)
made_more f xs ys place x y within stands is before k z below there =
    elim (one_or_two k place) [
      | inl same ↦
          let one : x ≡ z = cc (sym stands ∙ ap (slice_get xs) (sym same) ∙ there) in
          ap (slice_get (slice_set ys place y)) same ∙ get_set-same ys place y (get_or ys place y) (slice_get-get_or ys place y within) ∙ ap Some (is ∙ ap f one)
      | inr apart ↦ get_set-other ys place k y apart ∙ before k z (omega (arith, below, apart)) there
    ]

-- if none is free, each is counted
pub none_free : (frees : List Bool) → NoneOf IsTrue frees → count_by not frees ≡ length frees
none_free [] none = refl
none_free (true ∷ bs) none = absurd (none 0 true refl refl)
none_free (false ∷ bs) none =
    let more = sum_by-cons (λ (b : Bool). cond (not b) 1 0) false bs in
    let rest = none_free bs (λ k b there is. none (suc k) b there is) in
    omega (arith, more, rest)

-- if not all are busy, one is the lowest free
pub some_lowest : (sessions : List WorldSession) (journal : List Entry) (lanes : List LaneView) (frees : List Bool) (P : ℕ → Type 0) (lowest : Option ℕ)
    → frees ≡ free_lanes sessions journal lanes → count_by not (free_lanes sessions journal lanes) < length lanes
    → MatchOption lowest (NoneOf IsTrue frees) P → IsSome lowest
some_lowest sessions journal lanes frees P (Some lane) are free told = refl
some_lowest sessions journal lanes frees P None are free told =
    let all = none_free frees told in
    let free_of : LaneView → Bool = λ l. lane_is_free sessions journal l.holder in
    let long = ap length are ∙ length-map lanes free_of in
    let same = ap (count_by not) are in
    absurd (omega (arith, all, long, same, free))

-- the refusals of a reservation
pub none_reserved : {D : Type 0} (w : WorldView D) (pool media : List ℕ) (drives : List DriveView) (fault : ReserveFault) (why : Refusal)
    → drives ≡ drives_for w → why ≡ refusal_of_reserve fault
    → (fault ≡ NoDriveOfMedia → NoneOf (TakesMedia media) drives)
    → (fault ≡ DriveOffline → (NoneOf (TakesMedia media) drives → ⊥) × NoneOf (IsOnline media) drives)
    → (fault ≡ NoFreeLane → (NoneOf (IsOnline media) drives → ⊥) × NoneOf (IsCandidate pool media) drives)
    → NoneReserved w pool media why
none_reserved w pool media drives NoDriveOfMedia why are is no_drive offline no_lane =
    inl (subst (NoneOf (TakesMedia media)) are (no_drive refl), is)
none_reserved w pool media drives DriveOffline why are is no_drive offline no_lane =
    let p = subst (λ (ds : List DriveView). (NoneOf (TakesMedia media) ds → ⊥) × NoneOf (IsOnline media) ds) are (offline refl) in
    inr (inl (p.0, p.1, is))
none_reserved w pool media drives NoFreeLane why are is no_drive offline no_lane =
    let p = subst (λ (ds : List DriveView). (NoneOf (IsOnline media) ds → ⊥) × NoneOf (IsCandidate pool media) ds) are (no_lane refl) in
    inr (inr (p.0, p.1, is))

-- what a function gave of something that is there
pub was_there : {A B : Type 0} (f : A → B) (o : Option A) (y : B) → option_map f o ≡ Some y → (x : A) × (o ≡ Some x) × (f x ≡ y)
was_there f None y is = absurd (cc is)
was_there f (Some x) y is = (x, refl, cc is)

-- the drive that was chosen is online, and not every lane of it is busy
pub record IsChosen {D : Type 0} (w : WorldView D) (at : ℕ) : Type 0 where
  pub bay : BayView D
  pub d : DriveIs D
  pub there : slice_get w.bays at ≡ Some bay
  pub on : bay.drive ≡ Some d
  pub free : count_by not (free_lanes w.sessions d.journal bay.lanes) < length bay.lanes

pub is_chosen : {D : Type 0} (w : WorldView D) (pool media : List ℕ) (at : ℕ) → FirstOf (IsCandidate pool media) (Precedes pool) (drives_for w) at
    → IsChosen w at
is_chosen {D} w pool media at f =
    let found = was_there (bay_for w.sessions) (slice_get w.bays at) f.first (sym (slice_get-map (bay_for w.sessions) w.bays at) ∙ f.there) in
    let bay = found.0 in
    let candidate : IsCandidate pool media (bay_for w.sessions bay) = subst (IsCandidate pool media) (sym found.2) f.is_candidate in
    let drive = some_of bay.drive candidate.online.online in
    record {
      bay = bay;
      d = drive.0;
      there = found.1;
      on = drive.1;
      free = subst (λ (o : Option (DriveIs D)). busy_lanes w.sessions o bay.lanes < length bay.lanes) drive.1 candidate.lane_free;
    }
