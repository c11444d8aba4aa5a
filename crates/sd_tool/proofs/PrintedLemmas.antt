-- Looking through closed sessions for the last one of a key.
use Rattle.std.proofs.Common.{◌≡◌, ◌+◌, ◌<◌, ℕ, cond, Option, Some, List, [], ◌∷◌, ◌++◌, take, length, get_or, refl, ap, ◌∙◌}
use Rattle.sd_base.specs.Key.{is_key}
use Rattle.sd_base.specs.declared.number.SessionKey.{SessionKey}
use Rattle.sd_tool.specs.Printed.{last_printed}
use Rattle.sd_tool.specs.declared.printed.Closed.{Closed}
use Rattle.sd_tool.proofs.MakingLemmas.{taken_more}

last-append : (key : SessionKey) (before : Option Closed) (cs : List Closed) (c : Closed)
    → last_printed key before (cs ++ c ∷ []) ≡ cond (is_key key c.key) (Some c) (last_printed key before cs)
last-append key before [] c = refl
last-append key before (x ∷ cs) c = last-append key (cond (is_key key x.key) (Some x) before) cs c

-- by one more
pub last_more : (key : SessionKey) (before : Option Closed) (cs : List Closed) (n : ℕ) (c : Closed) → c ≡ get_or cs n c → n < length cs
    → last_printed key before (take (n + 1) cs) ≡ cond (is_key key c.key) (Some c) (last_printed key before (take n cs))
last_more key before cs n c is within = ap (last_printed key before) (taken_more cs n c is within) ∙ last-append key before (take n cs) c
