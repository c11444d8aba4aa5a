-- What becomes of the other files of a spool's folder.
use Rattle.std.proofs.Common.{◌≡◌, List, ℕ, ◌∙◌}
use Rattle.sd_folder.specs.Meaning.{FolderMeaning}
use Rattle.sd_spool.specs.Opened.{OthersStay}

-- two calls, of which the second names the file as it was opened
pub others_stay : (under name : List ℕ) (a b c : FolderMeaning) → under ≡ name → OthersStay name a b → OthersStay under b c → OthersStay name a c
others_stay under name a b c same first second other differs = second other (λ e. differs (e ∙ same)) ∙ first other differs
