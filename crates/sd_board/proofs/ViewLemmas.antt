-- What decides of each drive whether it takes a session.
use Rattle.std.proofs.Common.{◌≡◌, ℕ, zero, suc, ◌+◌, ◌≤◌, ◌<◌, refl, sym, ap, subst, ◌∙◌, inl, inr, arith, Bool, Some, None, List, [], ◌∷◌, length, take, get_or, slice_get, slice_set}
use Rattle.std.specs.Prelude.{◌↔◌, IsTrue}
use Rattle.std.proofs.lemmas.Bool.{cases_lt}
use Rattle.std.proofs.lemmas.Option.{slice_get-get_or, slice_get_within}
use Rattle.sd_base.proofs.ChoiceLemmas.{same_some}
use Rattle.sd_base.specs.Choice.{FirstOf, NoneOf}
use Rattle.sd_base.specs.declared.refusal.Refusal.{Refusal}
use Rattle.sd_reserve.specs.Refusals.{refusal_of_reserve}
use Rattle.sd_reserve.specs.Reserve.{TakesMedia, IsOnline, IsCandidate, Precedes}
use Rattle.sd_reserve.specs.declared.drive.DriveView.{DriveView}
use Rattle.sd_reserve.specs.declared.drive.ReserveFault.{ReserveFault}
use Rattle.sd_reserve.specs.declared.drive.ReserveFault.TheVariants.{NoDriveOfMedia, DriveOffline, NoFreeLane}
use Rattle.sd_world.proofs.Lookups.{one_or_two, get_set-same, get_set-other}
use Rattle.sd_board.specs.Opening.{IsFirst, NoneTakes, view_of, views_of}
use Rattle.sd_board.specs.Slots.{DriveLanesIs}
use Rattle.sd_board.specs.declared.seen.DriveSeen.{DriveSeen}

-- Views as they are made.

-- the first of a list, if each is what decides of its drive
pub are_views : (ds : List DriveLanesIs) (seen : List DriveSeen) (ys : List DriveView) → length ds ≤ length ys
    → ((k : ℕ) (d : DriveLanesIs) → slice_get ds k ≡ Some d → slice_get ys k ≡ Some (view_of d (slice_get seen k))) → take (length ds) ys ≡ views_of ds seen
are_views [] seen ys long each = refl
are_views (d ∷ ds) seen [] long each = absurd (omega (arith, long))
are_views (d ∷ ds) [] (y ∷ ys) long each =
    let same : y ≡ view_of d None = same_some (each 0 d refl) in
    let rest = are_views ds [] ys (omega (arith, long)) (λ k z there. each (suc k) z there) in
    ap (λ (z : DriveView). z ∷ take (length ds) ys) same ∙ ap (λ (l : List DriveView). view_of d None ∷ l) rest
are_views (d ∷ ds) (s ∷ seen) (y ∷ ys) long each =
    let same : y ≡ view_of d (Some s) = same_some (each 0 d refl) in
    let rest = are_views ds seen ys (omega (arith, long)) (λ k z there. each (suc k) z there) in
    ap (λ (z : DriveView). z ∷ take (length ds) ys) same ∙ ap (λ (l : List DriveView). view_of d (Some s) ∷ l) rest

-- one more is what it should be
pub made_more : {A B : Type 0} (f : ℕ → A → B) (xs : List A) (ys : List B) (place : ℕ) (x : A) (y : B) → place < length ys → slice_get xs place ≡ Some x → y ≡ f place x
    → ((k : ℕ) (z : A) → k < place → slice_get xs k ≡ Some z → slice_get ys k ≡ Some (f k z))
    → (k : ℕ) (z : A) → k < place + 1 → slice_get xs k ≡ Some z → slice_get (slice_set ys place y) k ≡ Some (f k z)
made_more f xs ys place x y within stands is before k z below there =
    elim (one_or_two k place) [
      | inl same ↦
          let one : x ≡ z = same_some (sym stands ∙ ap (slice_get xs) (sym same) ∙ there) in
          ap (slice_get (slice_set ys place y)) same ∙ get_set-same ys place y (get_or ys place y) (slice_get-get_or ys place y within)
          ∙ ap Some (is ∙ ap (f place) one ∙ ap (λ n. f n z) (sym same))
      | inr apart ↦ get_set-other ys place k y apart ∙ before k z (omega (arith, below, apart)) there
    ]

-- Views as they are read.

-- what decides of the drive at a place
pub record IsViewed (ds : List DriveLanesIs) (seen : List DriveSeen) (place : ℕ) (v : DriveView) : Type 0 where
  pub lanes : DriveLanesIs
  pub there : slice_get ds place ≡ Some lanes
  pub is : v ≡ view_of lanes (slice_get seen place)

pub viewed : (ds : List DriveLanesIs) (seen : List DriveSeen) (place : ℕ) (v : DriveView) → slice_get (views_of ds seen) place ≡ Some v → IsViewed ds seen place v
viewed [] seen place v there = absurd (cc there)
viewed (d ∷ ds) [] zero v there = record { lanes = d; there = refl; is = sym (same_some there) }
viewed (d ∷ ds) [] (suc k) v there = let r = viewed ds [] k v there in record { lanes = r.lanes; there = r.there; is = r.is }
viewed (d ∷ ds) (s ∷ seen) zero v there = record { lanes = d; there = refl; is = sym (same_some there) }
viewed (d ∷ ds) (s ∷ seen) (suc k) v there = let r = viewed ds seen k v there in record { lanes = r.lanes; there = r.there; is = r.is }

-- each drive is online, so one of the media is one of those online
pub all_online : (ds : List DriveLanesIs) (seen : List DriveSeen) (media : List ℕ) → NoneOf (IsOnline media) (views_of ds seen) → NoneOf (TakesMedia media) (views_of ds seen)
all_online ds seen media none place v there takes =
    let r = viewed ds seen place v there in
    none place v there (record { takes = takes; online = ap (λ (x : DriveView). x.online) r.is })

-- so no open is refused since its drives are offline
pub none_takes : (ds : List DriveLanesIs) (seen : List DriveSeen) (pool media : List ℕ) (views : List DriveView) (fault : ReserveFault) (why : Refusal)
    → views ≡ views_of ds seen → why ≡ refusal_of_reserve fault
    → (fault ≡ NoDriveOfMedia → NoneOf (TakesMedia media) views)
    → (fault ≡ DriveOffline → (NoneOf (TakesMedia media) views → ⊥) × NoneOf (IsOnline media) views)
    → (fault ≡ NoFreeLane → (NoneOf (IsOnline media) views → ⊥) × NoneOf (IsCandidate pool media) views)
    → NoneTakes (views_of ds seen) pool media why
none_takes ds seen pool media views NoDriveOfMedia why are is no_drive offline no_lane =
    inl (subst (NoneOf (TakesMedia media)) are (no_drive refl), is)
none_takes ds seen pool media views DriveOffline why are is no_drive offline no_lane =
    let p = subst (λ (vs : List DriveView). (NoneOf (TakesMedia media) vs → ⊥) × NoneOf (IsOnline media) vs) are (offline refl) in
    absurd (p.0 (all_online ds seen media p.1))
none_takes ds seen pool media views NoFreeLane why are is no_drive offline no_lane =
    let p = subst (λ (vs : List DriveView). (NoneOf (IsOnline media) vs → ⊥) × NoneOf (IsCandidate pool media) vs) are (no_lane refl) in
    inr (λ none. p.0 (λ place v there online. none place v there online.takes), p.1, is)

-- Whether a drive takes a session.

-- there is one first candidate
one_first : {A : Type 0} (C : A → Type 0) (P : A → A → Type 0) (xs : List A) (a b : ℕ) → FirstOf C P xs a → FirstOf C P xs b → a ≡ b
one_first C P xs a b f g = elim (one_or_two a b) [
  | inl same ↦ same
  | inr apart ↦ elim (cases_lt a b) [
    | inl lt ↦ absurd (f.behind b g.first lt g.there g.is_candidate (g.before a f.first lt f.there f.is_candidate))
    | inr le ↦ (let lt : b < a = omega (arith, le, apart) in absurd (g.behind a f.first lt f.there f.is_candidate (f.before b g.first lt g.there g.is_candidate)))
  ]
]

-- this is the drive that takes it exactly if it is the one that was found
module _ (ds : List DriveLanesIs) (seen : List DriveSeen) (pool media : List ℕ) (drive : ℕ) where
  pub found : (first : ℕ) (b : Bool) → (place : ℕ) × (first ≡ place + 1) × IsFirst (views_of ds seen) pool media place → IsTrue b ↔ (first ≡ drive)
      → IsTrue b ↔ ((place : ℕ) × (drive ≡ place + 1) × IsFirst (views_of ds seen) pool media place)
  found first b told by = (
    λ yes. (told.0, sym (by.0 yes) ∙ told.1, told.2),
    λ (place, is, takes).
        let same = one_first (IsCandidate pool media) (Precedes pool) (views_of ds seen) told.0 place told.2 takes in
        by.1 (told.1 ∙ ap (λ n. n + 1) same ∙ sym is),
  )

  -- if none takes it, this one doesn't
  pub found_none : (why : Refusal) → NoneTakes (views_of ds seen) pool media why
      → ((place : ℕ) × (drive ≡ place + 1) × IsFirst (views_of ds seen) pool media place) → ⊥
  found_none why (inl none) (place, is, first) = none.0 place first.first first.there first.is_candidate.online.takes
  found_none why (inr none) (place, is, first) = none.1 place first.first first.there first.is_candidate

-- The drive that takes a session.
pub record IsReached (ds : List DriveLanesIs) (seen : List DriveSeen) (pool media : List ℕ) (drive place : ℕ) : Type 0 where
  pub number_is : drive ≡ place + 1
  pub first : IsFirst (views_of ds seen) pool media place
  pub lanes : DriveLanesIs
  pub there : slice_get ds place ≡ Some lanes
  pub within : place < length ds

pub reached : (ds : List DriveLanesIs) (seen : List DriveSeen) (pool media : List ℕ) (drive place : ℕ) → drive ≡ place + 1
    → (at : ℕ) × (drive ≡ at + 1) × IsFirst (views_of ds seen) pool media at → IsReached ds seen pool media drive place
reached ds seen pool media drive place is told =
    let same : told.0 ≡ place = omega (arith, is, told.1) in
    let first = subst (IsFirst (views_of ds seen) pool media) same told.2 in
    let r = viewed ds seen place first.first first.there in
    record { number_is = is; first = first; lanes = r.lanes; there = r.there; within = slice_get_within ds place r.lanes r.there }
