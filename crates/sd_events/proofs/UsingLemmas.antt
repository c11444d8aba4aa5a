-- Whether a drive is in use, and how it goes offline.
use Rattle.std.proofs.Common.{◌≡◌, ◌≢◌, ◌⊎◌, ℕ, ◌+◌, Bool, true, false, ◌||◌, cond, refl, sym, ap, subst, ◌∙◌, arith, inl, inr, List, [], ◌∷◌, None}
use Rattle.std.specs.Prelude.{not}
use Rattle.std.specs.List.{count_by, list_any}
use Rattle.std.proofs.lemmas.List.Sums.{sum_by-cons}
use Rattle.sd_drive.specs.View.{DriveIs}
use Rattle.sd_world.specs.World.{WorldView, WorldSession, BayView, LaneView, IsOnline, with_bay}
use Rattle.sd_world.specs.Drives.{IsInUse, RetiresDrive}

-- if a test that tells of `false` tells of one, one is counted
any_counts : (busy : Bool → Bool) (bs : List Bool) → busy true ≡ false → busy false ≡ true → list_any busy bs ≡ true → count_by not bs ≢ 0
any_counts busy [] unset set any none = absurd (cc any)
any_counts busy (true ∷ bs) unset set any none = any_counts busy bs unset set (sym (ap (λ b. b || list_any busy bs) unset) ∙ any) none
any_counts busy (false ∷ bs) unset set any none =
    let more : count_by not (false ∷ bs) ≡ 1 + count_by not bs = sum_by-cons (λ (b : Bool). cond (not b) 1 0) false bs in
    absurd (omega (arith, none, more))

-- if one is counted, the test tells of one
count_any : (busy : Bool → Bool) (bs : List Bool) → busy true ≡ false → busy false ≡ true → count_by not bs ≢ 0 → list_any busy bs ≡ true
count_any busy [] unset set some = absurd (some refl)
count_any busy (true ∷ bs) unset set some = ap (λ b. b || list_any busy bs) unset ∙ count_any busy bs unset set some
count_any busy (false ∷ bs) unset set some = ap (λ b. b || list_any busy bs) set

-- the answer of such a test
pub busy_told : (busy : Bool → Bool) (told : Bool) (read frees : List Bool) → told ≡ list_any busy read → read ≡ frees → busy true ≡ false → busy false ≡ true
    → (told ≡ true → count_by not frees ≢ 0) × (count_by not frees ≢ 0 → told ≡ true)
busy_told busy told read frees is same unset set =
    let all : told ≡ list_any busy frees = is ∙ ap (list_any busy) same in
    (λ t. any_counts busy frees unset set (sym all ∙ t), λ some. all ∙ count_any busy frees unset set some)

-- of four only the first may be
pub only_first : {A B C E : Type 0} → A ⊎ B ⊎ C ⊎ E → (B → ⊥) → (C → ⊥) → (E → ⊥) → A
only_first (inl a) b c e = a
only_first (inr (inl x)) b c e = absurd (b x)
only_first (inr (inr (inl x))) b c e = absurd (c x)
only_first (inr (inr (inr x))) b c e = absurd (e x)

-- a drive is in use in its world exactly as it was read
pub used_there : {D : Type 0} (w : WorldView D) (drive at : ℕ) (bay : BayView D) (d : DriveIs D) (sessions : List WorldSession) (lanes : List LaneView)
    → IsOnline w drive at bay d → sessions ≡ w.sessions → lanes ≡ bay.lanes → IsInUse sessions d lanes bay.queue.held → IsInUse w.sessions d bay.lanes bay.queue.held
used_there w drive at bay d sessions lanes on had laned used =
    subst (λ (es : List WorldSession). IsInUse es d bay.lanes bay.queue.held) had (subst (λ (ls : List LaneView). IsInUse sessions d ls bay.queue.held) laned used)

pub used_here : {D : Type 0} (w : WorldView D) (drive at : ℕ) (bay : BayView D) (d : DriveIs D) (sessions : List WorldSession) (lanes : List LaneView)
    → IsOnline w drive at bay d → sessions ≡ w.sessions → lanes ≡ bay.lanes → IsInUse w.sessions d bay.lanes bay.queue.held → IsInUse sessions d lanes bay.queue.held
used_here w drive at bay d sessions lanes on had laned used =
    subst (λ (es : List WorldSession). IsInUse es d lanes bay.queue.held) (sym had)
    (subst (λ (ls : List LaneView). IsInUse w.sessions d ls bay.queue.held) (sym laned) used)

-- the drive goes offline
pub retires : {D : Type 0} (w new : WorldView D) (drive at : ℕ) (bay : BayView D) (d : DriveIs D)
    → IsOnline w drive at bay d → (IsInUse w.sessions d bay.lanes bay.queue.held → ⊥) → new ≡ with_bay at (record bay { drive = None }) w → RetiresDrive w drive new
retires w new drive at bay d on unused is = record { at = at; bay = bay; d = d; online = on; unused = unused; new_is = is }
