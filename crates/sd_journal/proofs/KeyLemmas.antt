-- Keys of sessions.
use Rattle.std.proofs.Common.{◌≡◌, ℕ, Bool, true, false, ap₂, sym, refl}
use Rattle.std.specs.Prelude.{◌==◌, ◌&&◌}
use Rattle.std.proofs.lemmas.Bool.{eqb-true, eqb-false, eq-eqb, ne_eqb, and_parts}
use Rattle.sd_base.specs.Key.{is_key}
use Rattle.sd_base.specs.declared.number.SessionKey.{SessionKey}

key_with : ℕ → ℕ → SessionKey
key_with time id = record { time = time; id = id }

pub key_same : (a b : SessionKey) → is_key a b ≡ true → a ≡ b
unfolding key_with
key_same a b same =
    let parts = and_parts (a.time == b.time) (a.id == b.id) same in
    ap₂ key_with (eqb-true a.time b.time parts.0) (eqb-true a.id b.id parts.1)

eqb_turned : (a b : ℕ) (t : Bool) → (a == b) ≡ t → (b == a) ≡ t
eqb_turned a b true same = eq-eqb b a (sym (eqb-true a b same))
eqb_turned a b false apart = ne_eqb b a (λ e. eqb-false a b apart (sym e))

-- either way round
pub key_turned : (a b : SessionKey) → is_key b a ≡ is_key a b
key_turned a b = ap₂ (λ x y. x && y) (eqb_turned a.time b.time (a.time == b.time) refl) (eqb_turned a.id b.id (a.id == b.id) refl)

-- a key is itself
pub key_same_self : (a : SessionKey) → is_key a a ≡ true
key_same_self a = ap₂ (λ x y. x && y) (eq-eqb a.time a.time refl) (eq-eqb a.id a.id refl)
