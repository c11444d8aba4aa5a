-- The law.
use Rattle.sd_hub.specs.Laws.{SettledWorld}
use Rattle.sd_hub.proofs.SettledLemmas.{is_settled}
use Rattle.sd_hub.proofs.WorldMatches.{matches}
use Rattle.sd_hub.proofs.WorldRules.{is_sound}

-- the world of a settled line is sound, and matches the machine of what its parts were told
pub settled_world : {D : Type 0} → SettledWorld D
settled_world meaning table time c settled told w h kept becomes =
    let s = is_settled meaning table time c settled told w h becomes in
    (is_sound meaning settled told w s kept, matches meaning settled told w s)
