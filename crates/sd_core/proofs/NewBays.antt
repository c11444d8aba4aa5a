-- The bays of a new world, one after another.
use Rattle.std.proofs.Common.{◌≡◌, ◌≤◌, ℕ, ◌++◌, ◌∷◌, [], List, Option, Some, Result, Ok, Err, OnErr, Vec, length, option_to_list, vec_capacity, refl, sym, ap, subst, ◌∙◌, arith}
use Rattle.std.specs.List.{AllZip}
use Rattle.sd_driver.specs.Meaning.{Meaning}
use Rattle.sd_drive.specs.View.{DriveIs}
use Rattle.sd_lane.specs.Queue.{LanesView}
use Rattle.sd_spool.specs.Meaning.{Meaning as StoreMeaning}
use Rattle.sd_world.specs.World.{BayView}
use Rattle.sd_base.proofs.ZipLemmas.{zip_push}
use Rattle.sd_core.specs.Fresh.{StaysDevice, HasRoom, new_bay, new_bays}

-- the last element that is unwrapped
pub last_is : {A : Type 0} (all front : List A) (o : Option A) (x : A) → all ≡ front ++ option_to_list o → o ≡ Some x → all ≡ front ++ x ∷ []
last_is all front o x is there = subst (λ l. all ≡ front ++ option_to_list l) there is

-- and without the last of each
pub zip_pop : {A B : Type 0} (R : A → B → Type 0) (xs : List A) (ys : List B) (x : A) (y : B) → AllZip R (xs ++ x ∷ []) (ys ++ y ∷ []) → AllZip R xs ys × R x y
zip_pop R [] [] x y h = (tt, h.0)
zip_pop R [] (b ∷ []) x y h = absurd h.1
zip_pop R [] (b ∷ c ∷ ys) x y h = absurd h.1
zip_pop R (a ∷ []) [] x y h = absurd h.1
zip_pop R (a ∷ c ∷ xs) [] x y h = absurd h.1
zip_pop R (a ∷ xs) (b ∷ ys) x y h = let more = zip_pop R xs ys x y h.1 in ((h.0, more.0), more.1)

-- a list of lanes more
pub room_push : {S L Z : Type 0} (spools front : List (Vec S Z)) (rooms all : List (Vec L Z)) (stores : Vec S Z) (lanes : Vec L Z)
    → spools ≡ front ++ stores ∷ [] → all ≡ rooms ++ lanes ∷ [] → AllZip HasRoom front rooms → lanes.items ≡ [] → length stores.items ≤ vec_capacity lanes
    → AllZip HasRoom spools all
room_push spools front rooms all stores lanes spools_are all_are reserved none room =
    subst (λ l. AllZip HasRoom l all) (sym spools_are)
    (subst (λ l. AllZip HasRoom (front ++ stores ∷ []) l) (sym all_are) (zip_push HasRoom front rooms stores lanes reserved (none, room)))

-- the lists of lanes without the last, and the last
pub room_pop : {S L Z : Type 0} (spools front : List (Vec S Z)) (rooms all : List (Vec L Z)) (stores : Vec S Z) (lanes : Vec L Z)
    → spools ≡ front ++ stores ∷ [] → all ≡ rooms ++ lanes ∷ [] → AllZip HasRoom spools all → AllZip HasRoom front rooms × HasRoom stores lanes
room_pop spools front rooms all stores lanes spools_are all_are reserved =
    zip_pop HasRoom front rooms stores lanes
    (subst (λ l. AllZip HasRoom (front ++ stores ∷ []) l) all_are (subst (λ l. AllZip HasRoom l all) spools_are reserved))

-- one bay more
bay_push : {D Q S Z : Type 0} (queue : Q → LanesView) (store : S → StoreMeaning) (ds : List (DriveIs D)) (qs : List Q) (ss : List (Vec S Z))
    (d : DriveIs D) (q : Q) (s : Vec S Z) → length qs ≡ length ds → length ss ≡ length ds
    → new_bays queue store (ds ++ d ∷ []) (qs ++ q ∷ []) (ss ++ s ∷ []) ≡ new_bays queue store ds qs ss ++ new_bay store d (queue q) s ∷ []
bay_push queue store [] [] [] d q s many_q many_s = refl
bay_push queue store [] (b ∷ qs) ss d q s many_q many_s = absurd (omega (arith, many_q))
bay_push queue store [] [] (b ∷ ss) d q s many_q many_s = absurd (omega (arith, many_s))
bay_push queue store (a ∷ ds) [] ss d q s many_q many_s = absurd (omega (arith, many_q))
bay_push queue store (a ∷ ds) (b ∷ qs) [] d q s many_q many_s = absurd (omega (arith, many_s))
bay_push queue store (a ∷ ds) (b ∷ qs) (c ∷ ss) d q s many_q many_s =
    ap (λ l. new_bay store a (queue b) c ∷ l) (bay_push queue store ds qs ss d q s (omega (arith, many_q)) (omega (arith, many_s)))

-- so the bays of the first drives, and of the last
pub bays_push : {D Q S Z : Type 0} (queue : Q → LanesView) (store : S → StoreMeaning) (drives ds : List (DriveIs D)) (queues qs : List Q)
    (spools ss : List (Vec S Z)) (d : DriveIs D) (q : Q) (s : Vec S Z) (bays all : List (BayView D)) (bay : BayView D)
    → drives ≡ ds ++ d ∷ [] → queues ≡ qs ++ q ∷ [] → spools ≡ ss ++ s ∷ [] → length qs ≡ length ds → length ss ≡ length ds
    → bays ≡ new_bays queue store ds qs ss → all ≡ bays ++ bay ∷ [] → bay ≡ new_bay store d (queue q) s
    → all ≡ new_bays queue store drives queues spools
bays_push queue store drives ds queues qs spools ss d q s bays all bay drives_are queues_are spools_are many_q many_s made all_are bay_is =
    all_are
    ∙ ap (λ l. l ++ bay ∷ []) made
    ∙ ap (λ b. new_bays queue store ds qs ss ++ b ∷ []) bay_is
    ∙ sym (bay_push queue store ds qs ss d q s many_q many_s)
    ∙ ap (λ l. new_bays queue store l (qs ++ q ∷ []) (ss ++ s ∷ [])) (sym drives_are)
    ∙ ap (λ l. new_bays queue store drives l (ss ++ s ∷ [])) (sym queues_are)
    ∙ ap (λ l. new_bays queue store drives queues l) (sym spools_are)

-- a bay with the media of its drive, and lanes if there were none
pub bay_made : {D S Z : Type 0} (store : S → StoreMeaning) (d : DriveIs D) (queue : LanesView) (stores : Vec S Z) (bay : BayView D)
    (media : List ℕ) (none lanes : List _) → bay ≡ record { media = media; drive = Some d; lanes = lanes; queue = queue }
    → media ≡ d.media → lanes ≡ none ++ (new_bay store d queue stores).lanes → none ≡ [] → bay ≡ new_bay store d queue stores
bay_made store d queue stores bay media none lanes is same lanes_are empty =
    is
    ∙ ap (λ m. record { media = m; drive = Some d; lanes = lanes; queue = queue }) same
    ∙ ap (λ l. record { media = d.media; drive = Some d; lanes = l; queue = queue }) (lanes_are ∙ ap (λ l. l ++ (new_bay store d queue stores).lanes) empty)

-- a device that was left alone stays
pub same_device : {D : Type 0} (meaning : D → Meaning) (x : D) → StaysDevice meaning x x
same_device meaning x = record {
  counts = record { honest = refl; failures = refl; told = refl };
  same = λ honest name. refl;
  later = λ since name bytes lasts. lasts;
}

-- so do several
pub all_stay : {D : Type 0} (meaning : D → Meaning) (devices : List D) → AllZip (StaysDevice meaning) devices devices
all_stay meaning [] = tt
all_stay meaning (x ∷ xs) = (same_device meaning x, all_stay meaning xs)

-- what is so anyway is so if a call was refused
pub where_refused : {A E : Type 0} (r : Result A E) (X : Type 0) → X → OnErr r X
where_refused (Ok x) X h = tt
where_refused (Err e) X h = h
