-- The log's room: for the entry of each sync that may follow, and what a push on it gives.
use Rattle.std.proofs.Common.{◌≡◌, ℕ, if◌then◌else◌, List, [], ◌∷◌, ◌++◌, ◌+◌, ◌<◌, ◌≤◌, length, slice_set, get_or, nat_lt, cond, false, refl, ap, sym, ◌∙◌, arith, Result, Ok, Err, is_ok, IsOk}
use Rattle.std.proofs.lemmas.List.Sums.{sum_by-set, sum_by-append, count_by-le-length}
use Rattle.std.proofs.lemmas.Bool.{lt-ltb}
use Rattle.std.proofs.lemmas.Bool.Decides.{nat_tests}
use Rattle.std.proofs.Math.ListN.{length-set}
use Rattle.sd_driver.specs.Shelf.{Held}
use Rattle.sd_memdrive.specs.declared.change_log.Change.{Change}
use Rattle.sd_memdrive.specs.Volumes.{Volume, unsynced}

-- how many entries of syncs the log needs room for

abbrev counted : Volume → ℕ
counted v = cond {A = ℕ} (nat_lt v.held.stable (length v.held.bytes)) 1 0

pub room-first : (vs : List Volume) (n len all : ℕ) {room : ℕ} → n ≡ all → length vs ≡ all → len + n ≤ room → len + unsynced vs ≤ room
room-first vs n len all is whole free = omega (arith, count_by-le-length (λ v. nat_lt v.held.stable (length v.held.bytes)) vs)

pub room-reserved : (vs : List Volume) (place : ℕ) (v' : Volume) (n len len' cap cap' : ℕ) → n ≡ length vs → len + (n + 1) ≤ cap → len' ≤ len + 1 → cap ≤ cap' → len' + unsynced (slice_set vs place v') ≤ cap'
room-reserved vs place v' n len len' cap cap' all room one more =
    omega (arith, count_by-le-length (λ v. nat_lt v.held.stable (length v.held.bytes)) (slice_set vs place v'), length-set vs place v')

pub room-created : (vs : List Volume) (v : Volume) (n len len' cap cap' : ℕ) → n ≡ length vs → len + (n + 1) ≤ cap → len' ≤ len + 1 → cap ≤ cap' → v.held ≡ record { bytes = []; stable = 0 } → len' + unsynced (vs ++ v ∷ []) ≤ cap'
room-created vs v n len len' cap cap' all room one more empty =
    let none : unsynced (v ∷ []) ≡ 0 = one_by v.held empty in
    omega (arith, count_by-le-length (λ v. nat_lt v.held.stable (length v.held.bytes)) vs, sum_by-append counted vs (v ∷ []))
  where
    one_by : (h : Held) → h ≡ record { bytes = []; stable = 0 } → 0 + cond {A = ℕ} (nat_lt h.stable (length h.bytes)) 1 0 ≡ 0
    one_by h e = let f : Held → ℕ = λ h. 0 + cond {A = ℕ} (nat_lt h.stable (length h.bytes)) 1 0 in ap f e

unsynced-set : (vs : List Volume) (place : ℕ) (v v' : Volume) → place < length vs → v ≡ get_or vs place v → v.held.stable < length v.held.bytes → v'.held.stable ≡ length v'.held.bytes → unsynced (slice_set vs place v') + 1 ≡ unsynced vs
unsynced-set vs place v v' within read less all =
    let was : counted (get_or vs place v) ≡ 1 = ap counted (sym read) ∙ ap (λ b. cond {A = ℕ} b 1 0) (lt-ltb _ _ less) in
    let is : counted v' ≡ 0 = ap (λ b. cond {A = ℕ} b 1 0) (not_lt v'.held.stable (length v'.held.bytes) all) in
    omega (arith, sum_by-set counted vs place v' v within)
  where
    not_lt : (a b : ℕ) → a ≡ b → nat_lt a b ≡ false
    not_lt a b e = grind (arith, nat_tests)

pub room-synced : (vs : List Volume) (place : ℕ) (v v' : Volume) (len len' cap cap' : ℕ) → place < length vs → v ≡ get_or vs place v → v.held.stable < length v.held.bytes → v'.held.stable ≡ length v'.held.bytes
    → len + unsynced vs ≤ cap → len' ≤ len + 1 → cap ≤ cap' → len' + unsynced (slice_set vs place v') ≤ cap'
room-synced vs place v v' len len' cap cap' within read less all room one more =
    omega (arith, unsynced-set vs place v v' within read less all)

pub room-for_sync : (vs : List Volume) (place : ℕ) (v : Volume) (len cap : ℕ) → place < length vs → v ≡ get_or vs place v → v.held.stable < length v.held.bytes → len + unsynced vs ≤ cap → len < cap
room-for_sync vs place v len cap within read less room =
    omega (arith, unsynced-set vs place v (record { name = []; held = record { bytes = []; stable = 0 } }) within read less refl)

-- a push adds one entry, or none
pub pushed_len : {E : Type 0} (r : Result (Unit {0}) E) (n n' : ℕ) → n' ≡ (if is_ok r then n + 1 else n) → n' ≤ n + 1
pushed_len (Ok u) n n' e = omega arith
pushed_len (Err e') n n' e = omega arith

-- a successful push on what was kept by a reserve
pub pushed : {E : Type 0} (r : Result (Unit {0}) E) (xs xs' cs : List Change) (c : Change) → IsOk r → xs' ≡ (if is_ok r then xs ++ c ∷ [] else xs) → xs ≡ cs → xs' ≡ cs ++ c ∷ []
pushed r xs xs' cs c done gives same = gives ∙ ap (λ b. if b then xs ++ c ∷ [] else xs) done ∙ ap (λ (l : List Change). l ++ c ∷ []) same
