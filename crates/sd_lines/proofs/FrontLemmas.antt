-- What lies under the desk's lock.
use Rattle.std.proofs.Common.{◌≡◌, ℕ, zero, suc, refl, sym, ap, ◌∙◌, arith, Option, Some, None, List, [], ◌∷◌, length, slice_get}
use Rattle.std.specs.Prelude.{Result, Ok, Err, IfErr, OnOk}
use Rattle.sd_base.proofs.ChoiceLemmas.{same_some}
use Rattle.sd_line.specs.Ends.{EndIs}
use Rattle.sd_board.specs.declared.seen.DriveSeen.{DriveSeen}
use Rattle.sd_lines.specs.Pools.{seen_of}

-- what takes an end exactly if it may lie there has it then
pub rests_by : {T : Type 0} (r : Result T EndIs) (e : EndIs) (May Lies : Type 0) → OnOk r Lies → IfErr r (λ (back : EndIs). (back ≡ e) × (May → ⊥)) → May → Lies
rests_by (Ok x) e May Lies ok back may = ok
rests_by (Err x) e May Lies ok back may = absurd (back.1 may)

-- the pool of the volume in the drive at a place, if there is one
abbrev loaded_at : List (Option (List ℕ)) → ℕ → Option (List ℕ)
loaded_at [] k = None
loaded_at (v ∷ vs) zero = v
loaded_at (v ∷ vs) (suc k) = loaded_at vs k

-- what is seen of the drive at a place with this pool
abbrev pub seen_at : List (Option (List ℕ)) → ℕ → Option (List ℕ) → DriveSeen
seen_at loaded k pool = record { loaded = loaded_at loaded k; pool = pool }

-- as it was read there
pub seen_read : (loaded : List (Option (List ℕ))) (k : ℕ) (v pool : Option (List ℕ)) (s : DriveSeen) → slice_get loaded k ≡ Some v → s ≡ record { loaded = v; pool = pool }
    → s ≡ seen_at loaded k pool
seen_read loaded k v pool s there is = is ∙ ap (λ w. record { loaded = w; pool = pool }) (read loaded k there)
  where
    read : (vs : List (Option (List ℕ))) (n : ℕ) → slice_get vs n ≡ Some v → v ≡ loaded_at vs n
    read [] n at = absurd (cc at)
    read (w ∷ vs) zero at = sym (same_some at)
    read (w ∷ vs) (suc n) at = read vs n at

-- if so for each drive, it is what is seen of all
pub are_seen : (pools loaded : List (Option (List ℕ))) (ys : List DriveSeen) → length ys ≡ length pools → length loaded ≡ length pools
    → ((k : ℕ) (p : Option (List ℕ)) → slice_get pools k ≡ Some p → slice_get ys k ≡ Some (seen_at loaded k p)) → ys ≡ seen_of pools loaded
are_seen [] loaded [] long many each = refl
are_seen [] loaded (y ∷ ys) long many each = absurd (omega (arith, long))
are_seen (p ∷ pools) loaded [] long many each = absurd (omega (arith, long))
are_seen (p ∷ pools) [] (y ∷ ys) long many each = absurd (omega (arith, many))
are_seen (p ∷ pools) (v ∷ loaded) (y ∷ ys) long many each =
    ap (λ (z : DriveSeen). z ∷ ys) (same_some (each 0 p refl))
    ∙ ap (λ (l : List DriveSeen). seen_at (v ∷ loaded) 0 p ∷ l) (are_seen pools loaded ys (omega (arith, long)) (omega (arith, many)) (λ k q there. each (suc k) q there))
