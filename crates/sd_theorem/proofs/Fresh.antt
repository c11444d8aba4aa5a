-- What a world that was just made has of its devices and stores.
use Rattle.std.proofs.Common.{◌≡◌, ℕ, suc, zero, refl, sym, ap, subst, ◌∙◌, Some, None, List, [], ◌∷◌, map, Vec, slice_get}
use Rattle.std.specs.Prelude.{IsTrue}
use Rattle.sd_driver.specs.Meaning.{Meaning, IsHonest}
use Rattle.sd_drive.specs.Shelf.{LeavesStable}
use Rattle.sd_drive.specs.View.{DriveIs}
use Rattle.sd_drive.specs.declared.limits.Limits.{Limits}
use Rattle.sd_lane.specs.Queue.{LanesView}
use Rattle.sd_spool.specs.Meaning.{Meaning as StoreMeaning, IsHonest as StoreIsHonest}
use Rattle.sd_world.specs.Honest.{StoreIsTrue, AreHonest}
use Rattle.sd_world.specs.World.{WorldView, BayView, LaneView, session_at}
use Rattle.sd_core.specs.Fresh.{StaysDevice, AreNewDrives, new_lane, new_bay, new_bays}
use Rattle.sd_theorem.specs.Start.{Meanings, Start, IsMadeOf, StartsHonest}

-- what is known of the drive over a device
pub record IsMadeWith {D : Type 0} (meaning : D → Meaning) (device : D) (d : DriveIs D) : Type 0 where
  pub stays : StaysDevice meaning device d.device
  pub stable : IsHonest (meaning device) → LeavesStable (meaning device).shelf

-- what is known of a bay that was just made: the drive and the stores that it has are at its place
record IsMadeAt {D S Z : Type 0} (store : S → StoreMeaning) (drives : List (DriveIs D)) (spools : List (Vec S Z)) (at : ℕ) (bay : BayView D) : Type 0 where
  d : DriveIs D
  stores : Vec S Z
  drive_there : slice_get drives at ≡ Some d
  stores_there : slice_get spools at ≡ Some stores
  drive_is : bay.drive ≡ Some d
  lanes_are : bay.lanes ≡ map (λ s. new_lane (store s)) stores.items

made_at : {D Q S Z : Type 0} (queue : Q → LanesView) (store : S → StoreMeaning) (drives : List (DriveIs D)) (queues : List Q) (spools : List (Vec S Z)) (at : ℕ) (bay : BayView D)
    → slice_get (new_bays queue store drives queues spools) at ≡ Some bay → IsMadeAt store drives spools at bay
made_at queue store [] queues spools at bay there = absurd (cc there)
made_at queue store (x ∷ drives) [] spools at bay there = absurd (cc there)
made_at queue store (x ∷ drives) (q ∷ queues) [] at bay there = absurd (cc there)
made_at {D} queue store (x ∷ drives) (q ∷ queues) (s ∷ spools) zero bay there =
    let same : new_bay store x (queue q) s ≡ bay = cc there in
    record {
      d = x;
      stores = s;
      drive_there = refl;
      stores_there = refl;
      drive_is = ap (λ (b : BayView D). b.drive) (sym same);
      lanes_are = ap (λ (b : BayView D). b.lanes) (sym same);
    }
made_at queue store (x ∷ drives) (q ∷ queues) (s ∷ spools) (suc at) bay there =
    let m = made_at queue store drives queues spools at bay there in
    record { d = m.d; stores = m.stores; drive_there = m.drive_there; stores_there = m.stores_there; drive_is = m.drive_is; lanes_are = m.lanes_are }

-- each drive is over the device at its place
record IsOver {D : Type 0} (meaning : D → Meaning) (devices : List D) (at : ℕ) (d : DriveIs D) : Type 0 where
  device : D
  there : slice_get devices at ≡ Some device
  made : IsMadeWith meaning device d

drive_over : {D : Type 0} (meaning : D → Meaning) (limits : Limits) (medias : List (List ℕ × ℕ)) (devices : List D) (drives : List (DriveIs D)) (at : ℕ) (d : DriveIs D)
    → AreNewDrives meaning limits medias devices drives → slice_get drives at ≡ Some d → IsOver meaning devices at d
drive_over meaning limits medias [] [] at d made there = absurd (cc there)
drive_over meaning limits medias [] (y ∷ ys) at d made there = absurd made
drive_over meaning limits medias (x ∷ xs) [] at d made there = absurd made
drive_over meaning limits [] (x ∷ xs) (y ∷ ys) at d made there = absurd made
drive_over {D} meaning limits (b ∷ bs) (x ∷ xs) (y ∷ ys) zero d made there =
    let is : y ≡ d = cc there in
    subst (IsOver meaning (x ∷ xs) zero) is (record { device = x; there = refl; made = record { stays = made.0.stays; stable = made.0.stable } })
drive_over meaning limits (b ∷ bs) (x ∷ xs) (y ∷ ys) (suc at) d made there =
    let o = drive_over meaning limits bs xs ys at d made.1 there in
    record { device = o.device; there = o.there; made = o.made }

-- the lanes have stores that are true
lanes_true : {S : Type 0} (store : S → StoreMeaning) (stores : List S) (place : ℕ) (lane : LaneView)
    → ((n : ℕ) (s : S) → slice_get stores n ≡ Some s → StoreIsHonest (store s)) → slice_get (map (λ s. new_lane (store s)) stores) place ≡ Some lane → StoreIsTrue lane.store
lanes_true store [] place lane honest there = absurd (cc there)
lanes_true store (x ∷ xs) zero lane honest there =
    let is : new_lane (store x) ≡ lane = cc there in
    subst (λ (l : LaneView). StoreIsTrue l.store) is (honest zero x refl)
lanes_true store (x ∷ xs) (suc place) lane honest there = lanes_true store xs place lane (λ n s here. honest (suc n) s here) there

module _ {D Q S Z : Type 0} (is : Meanings D Q S) (start : Start D Q S Z) (w : WorldView D) (made : IsMadeOf is start w) where
  bay_made : (at : ℕ) (bay : BayView D) → slice_get w.bays at ≡ Some bay → IsMadeAt is.store made.fresh.drives start.spools at bay
  bay_made at bay there = made_at is.queue is.store made.fresh.drives start.queues start.spools at bay (ap (λ bs. slice_get bs at) (sym made.fresh.bays_are) ∙ there)

  drive_made : (at : ℕ) (bay : BayView D) (d : DriveIs D) → slice_get w.bays at ≡ Some bay → bay.drive ≡ Some d → IsOver is.device start.devices at d
  drive_made at bay d there online =
      let b = bay_made at bay there in
      let same : b.d ≡ d = cc (sym b.drive_is ∙ online) in
      drive_over is.device _ _ start.devices made.fresh.drives at d made.fresh.drives_are (b.drive_there ∙ ap Some same)

  -- the drive at a device's place is over it
  pub made_with : (at : ℕ) (bay : BayView D) (device : D) (d : DriveIs D) → slice_get start.devices at ≡ Some device → slice_get w.bays at ≡ Some bay → bay.drive ≡ Some d → IsMadeWith is.device device d
  made_with at bay device d given there online =
      let o = drive_made at bay d there online in
      let same : o.device ≡ device = cc (sym o.there ∙ given) in
      subst (λ x. IsMadeWith is.device x d) same o.made

  -- if all that it was made of is honest, so is the world
  pub made_honest : StartsHonest is start → AreHonest is.device w
  made_honest honest = record {
    devices = λ drive at bay d on.
        let o = drive_made at bay d on.there on.online in
        subst IsTrue (sym o.made.stays.counts.honest) (honest.devices at o.device o.there);
    lanes = λ at place bay lane there stands.
        let b = bay_made at bay there in
        lanes_true is.store b.stores.items place lane (λ n s here. honest.stores at n b.stores s b.stores_there here)
        (ap (λ ls. slice_get ls place) (sym b.lanes_are) ∙ stands);
    sessions = λ ticket e there.
        let none : None ≡ Some e = ap (session_at ticket) (sym made.fresh.no_session) ∙ there in
        absurd (cc none);
  }
