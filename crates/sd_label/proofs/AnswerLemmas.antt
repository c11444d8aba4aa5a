-- What an answer is, and what it is not.
use Rattle.std.proofs.Common.{◌≡◌, refl, Ok, Err, Result}
use Rattle.std.specs.Prelude.{◌↔◌, IfOk, IsOk, IsErr}
use Rattle.std.proofs.lemmas.Bool.{false≢true}

-- equal answers hold equal values, and an Err is no answer
pub same_ok : {X E : Type 0} (x y : X) → ◌≡◌ {A = Result X E} (Ok x) (Ok y) → x ≡ y
same_ok x y e = cc

pub never_ok : {X E : Type 0} (e : E) (x : X) → ◌≡◌ {A = Result X E} (Err e) (Ok x) → ⊥
never_ok e x same = cc

-- an answer is there exactly if there is what it says
pub ours_from : {L E : Type 0} (r : Result L E) (P Q : L → Type 0) → IfOk r (λ l. P l × Q l) → ((l : L) → P l → Q l → r ≡ Ok l)
    → IsOk r ↔ ((l : L) × P l × Q l)
ours_from (Ok x) P Q label read_back = ((λ e. (x, label.0, label.1)), (λ found. refl))
ours_from (Err e) P Q label read_back = ((λ ok. absurd (false≢true ok)), (λ found. absurd (never_ok _ found.0 (read_back found.0 found.1 found.2))))

-- and if there is none, there is no such thing
pub none_ours : {L E : Type 0} (r : Result L E) (P Q : L → Type 0) → IsErr r → ((l : L) → P l → Q l → ⊥) → IsOk r ↔ ((l : L) × P l × Q l)
none_ours (Ok x) P Q err none = absurd (false≢true err)
none_ours (Err e) P Q err none = ((λ ok. absurd (false≢true ok)), (λ found. absurd (none found.0 found.1 found.2)))
