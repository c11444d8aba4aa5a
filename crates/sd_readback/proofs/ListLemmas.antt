-- Lists: what std has no lemma for.
use Rattle.std.proofs.Common.{◌≡◌, ◌≢◌, refl, ap, List, [], ◌∷◌, ◌++◌, map}
use Rattle.std.specs.Prelude.{Bool, true, false, cond}
use Rattle.sd_label.proofs.CuttingLemmas.{back_nil}

pub nil_unless : {X : Type 0} (xs : List X) → (xs ≢ [] → ⊥) → xs ≡ []
nil_unless [] none = refl
nil_unless (x ∷ xs) none = absurd (none (λ e. cc e))

pub push_not_nil : {X : Type 0} (xs : List X) (x : X) → xs ++ x ∷ [] ≡ [] → ⊥
push_not_nil xs x e = cc (back_nil xs (x ∷ []) e)

pub nil_from_map : {X Y : Type 0} (f : X → Y) (xs : List X) → map f xs ≡ [] → xs ≡ []
nil_from_map f [] e = refl
nil_from_map f (x ∷ xs) e = cc

-- one element, put in front of a list if a test says so
pub cond_map : {X Y : Type 0} (f : X → Y) (b : Bool) (x : X) (xs : List X) (ys : List Y) → ys ≡ map f xs → cond b (f x ∷ ys) ys ≡ map f (cond b (x ∷ xs) xs)
cond_map f true x xs ys e = ap (λ l. f x ∷ l) e
cond_map f false x xs ys e = e
