-- The drives of a new world, one after another.
use Rattle.std.proofs.Common.{◌≡◌, ◌<◌, ℕ, zero, suc, ◌++◌, ◌∷◌, [], List, None, Some, length, map, get_or, slice_get, refl, sym, subst, arith}
use Rattle.std.specs.List.{AllZip}
use Rattle.std.proofs.lemmas.List.Elements.{AllZip-push}
use Rattle.std.proofs.lemmas.Option.{slice_get_read}
use Rattle.sd_driver.specs.Meaning.{Meaning, IsHonest}
use Rattle.sd_drive.specs.Shelf.{LeavesStable}
use Rattle.sd_drive.specs.View.{DriveIs}
use Rattle.sd_drive.specs.declared.limits.Limits.{Limits}
use Rattle.sd_core.specs.Fresh.{StaysDevice, IsNewDrive, AreNewDrives}
use Rattle.sd_core.proofs.NewBays.{same_device}

-- the drive that was made, with the media that was copied from its place
pub is_new : {D : Type 0} (meaning : D → Meaning) (limits : Limits) (media media' : List ℕ) (device : D) (d : DriveIs D)
    → d ≡ record { device = d.device; media = media; limits = limits; volumes = []; loaded = None; pool = None; hand = None; journal = []; ready = [] }
    → media ≡ media' → StaysDevice meaning device d.device → (IsHonest (meaning device) → LeavesStable (meaning device).shelf)
    → IsNewDrive meaning limits media' device d
is_new meaning limits media media' device d is same stays stable =
    subst (λ m. IsNewDrive meaning limits m device d) same (record { is = is; stays = stays; stable = stable })

-- one drive more
new_push : {D : Type 0} (meaning : D → Meaning) (limits : Limits) (medias : List (List ℕ × ℕ)) (devices : List D) (drives : List (DriveIs D))
    (n : ℕ) (m : List ℕ × ℕ) (device : D) (d : DriveIs D)
    → AreNewDrives meaning limits medias devices drives → n ≡ length devices → slice_get medias n ≡ Some m → IsNewDrive meaning limits m.0 device d
    → AreNewDrives meaning limits medias (devices ++ device ∷ []) (drives ++ d ∷ [])
new_push meaning limits [] [] [] n m device d made is there new = absurd (cc there)
new_push meaning limits (b ∷ ms) [] [] zero m device d made is there new =
    let one : m ≡ b = cc there in (subst (λ (k : List ℕ × ℕ). IsNewDrive meaning limits k.0 device d) one new, tt)
new_push meaning limits (b ∷ ms) [] [] (suc n) m device d made is there new = absurd (omega (arith, is))
new_push meaning limits medias [] (y ∷ ds) n m device d made is there new = absurd made
new_push meaning limits medias (x ∷ xs) [] n m device d made is there new = absurd made
new_push meaning limits [] (x ∷ xs) (y ∷ ds) n m device d made is there new = absurd made
new_push meaning limits (b ∷ ms) (x ∷ xs) (y ∷ ds) zero m device d made is there new = absurd (omega (arith, is))
new_push meaning limits (b ∷ ms) (x ∷ xs) (y ∷ ds) (suc n) m device d made is there new =
    (made.0, new_push meaning limits ms xs ds n m device d made.1 (omega (arith, is)) there new)

-- so the drives that were made of the first devices, and of the last
pub made_push : {D : Type 0} (meaning : D → Meaning) (limits : Limits) (medias : List (List ℕ × ℕ)) (given devices : List D) (drives all : List (DriveIs D))
    (n : ℕ) (m : List ℕ × ℕ) (device : D) (d : DriveIs D)
    → AreNewDrives meaning limits medias devices drives → given ≡ devices ++ device ∷ [] → all ≡ drives ++ d ∷ []
    → n ≡ length devices → n < length medias → m ≡ get_or medias n m → IsNewDrive meaning limits m.0 device d
    → AreNewDrives meaning limits medias given all
made_push meaning limits medias given devices drives all n m device d made given_is all_is is within read new =
    let there = slice_get_read medias (length medias) n m refl within read in
    let more = new_push meaning limits medias devices drives n m device d made is there new in
    subst (λ l. AreNewDrives meaning limits medias l all) (sym given_is)
    (subst (λ l. AreNewDrives meaning limits medias (devices ++ device ∷ []) l) (sym all_is) more)

-- the devices of drives that were made are as they were
pub made_stay : {D : Type 0} (meaning : D → Meaning) (limits : Limits) (medias : List (List ℕ × ℕ)) (devices : List D) (drives : List (DriveIs D))
    → AreNewDrives meaning limits medias devices drives → AllZip (StaysDevice meaning) devices (map (λ (d : DriveIs D). d.device) drives)
made_stay meaning limits medias [] [] made = tt
made_stay meaning limits medias [] (y ∷ ds) made = absurd made
made_stay meaning limits medias (x ∷ xs) [] made = absurd made
made_stay meaning limits [] (x ∷ xs) (y ∷ ds) made = absurd made
made_stay meaning limits (b ∷ ms) (x ∷ xs) (y ∷ ds) made = (made.0.stays, made_stay meaning limits ms xs ds made.1)

-- the last device comes after those that are there again
pub again_push : {D : Type 0} (meaning : D → Meaning) (given front again all : List D) (x y : D)
    → given ≡ front ++ x ∷ [] → all ≡ again ++ y ∷ [] → AllZip (StaysDevice meaning) front again → y ≡ x
    → AllZip (StaysDevice meaning) given all
again_push meaning given front again all x y given_is all_is stay same =
    let own : StaysDevice meaning x y = subst (StaysDevice meaning x) (sym same) (same_device meaning x) in
    subst (λ l. AllZip (StaysDevice meaning) l all) (sym given_is)
    (subst (λ l. AllZip (StaysDevice meaning) (front ++ x ∷ []) l) (sym all_is) (AllZip-push (StaysDevice meaning) front again x y stay own))
