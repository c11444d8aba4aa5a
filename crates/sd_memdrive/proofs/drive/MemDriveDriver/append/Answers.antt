use Rattle.std.proofs.Common.{◌≡◌, ◌+◌, ℕ, List, length, Option, Some, Result, Ok, Err, OnOk, ap, inl, inr, refl, arith, rules}
use Rattle.std.proofs.lemmas.Bool.{cases_lt}
use Rattle.sd_driver.specs.Shelf.{Held}
use Rattle.sd_memdrive.specs.Volumes.{Volume, volume_of}
use Rattle.sd_memdrive.specs.Drive.{HasRoom, LacksRoom}
use Rattle.sd_memdrive.proofs.Changes.{read_at}
use Rattle.sd_memdrive.proofs.drive.MemDriveDriver.append.Goals as goal

-- what lies under the loaded name is one volume
same_held : (vs : List Volume) (loaded : Option (List ℕ)) (own name : List ℕ) (first held : Held) → loaded ≡ Some own → loaded ≡ Some name → volume_of vs own ≡ Some first → volume_of vs name ≡ Some held → first ≡ held
same_held vs loaded own name first held a b there here = (let e : own ≡ name = cc in let f = ap (volume_of vs) e in cc)

on_ok : {T E : Type 0} (r : Result T E) (P : Type 0) → P → OnOk r P
on_ok (Ok value) P p = p
on_ok (Err error) P p = tt

-- the volume lacks room if the test says so
lacks : goal.returns-then-not-has_room-clause-no_room
lacks c = λ e name held loaded there.
    let here = read_at _ _ _ _ c.loaded_place-name.ensures.place c.index.ensures in
    let same = same_held _ _ _ name _ held c.loaded_place-name.ensures.loaded loaded here.1 there in
    let lengths = ap (λ (h : Held). length h.bytes) same in
    elim (cases_lt c.args.self.now.capacity (length held.bytes + length c.args.bytes.now)) [
      | inl less ↦ less
      | inr fits ↦ absurd (let t = c.has_room.ensures.1 (omega (arith, lengths)) in let f = c.if-not-has_room.true in cc)
    ]

pub returns-then-not-has_room-clause-no_room : goal.returns-then-not-has_room-clause-no_room
returns-then-not-has_room-clause-no_room c = lacks c

pub returns-then-not-has_room-clause-plan : goal.returns-then-not-has_room-clause-plan
returns-then-not-has_room-clause-plan c = let full : LacksRoom c.args.bytes.now c.args.self.now = lacks c refl in search rules

pub returns-clause-room : goal.returns-clause-room
returns-clause-room c = on_ok c.finish.result (HasRoom c.args.bytes.now c.args.self.now) (λ name held loaded there.
    let here = read_at _ _ _ _ c.loaded_place-name.ensures.place c.index.ensures in
    let same = same_held _ _ _ name _ held c.loaded_place-name.ensures.loaded loaded here.1 there in
    let room = c.has_room.ensures.0 c.if-not-has_room.false in
    omega (arith, room, ap (λ (h : Held). length h.bytes) same))

pub returns-clause-plan : goal.returns-clause-plan
returns-clause-plan c =
    let here = read_at _ _ _ _ c.loaded_place-name.ensures.place c.index.ensures in
    let room = c.has_room.ensures.0 c.if-not-has_room.false in
    let fits : LacksRoom c.args.bytes.now c.args.self.now → ⊥ = λ full.
    (let t = full _ _ c.loaded_place-name.ensures.loaded here.1 in omega (arith, room)) in
    search rules

pub returns-then-not-has_room-clause-part : goal.returns-then-not-has_room-clause-part
returns-then-not-has_room-clause-part c = let full : LacksRoom c.args.bytes.now c.args.self.now = lacks c refl in search rules

pub returns-clause-part : goal.returns-clause-part
returns-clause-part c =
    let here = read_at _ _ _ _ c.loaded_place-name.ensures.place c.index.ensures in
    let room = c.has_room.ensures.0 c.if-not-has_room.false in
    let fits : LacksRoom c.args.bytes.now c.args.self.now → ⊥ = λ full.
    (let t = full _ _ c.loaded_place-name.ensures.loaded here.1 in omega (arith, room)) in
    search rules
