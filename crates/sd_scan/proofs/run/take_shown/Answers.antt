use Rattle.std.proofs.Common.{◌++◌, ◌∷◌, [], ℕ, List, subst}
use Rattle.std.specs.Prelude.{OnOk}
use Rattle.sd_scan.specs.Found.{Found}
use Rattle.sd_scan.specs.Sessions.{Keeps}
use Rattle.sd_scan.proofs.RunLemmas.{block_long}
use Rattle.sd_scan.proofs.run.take_shown.Goals as goal

pub split_at-requires : goal.split_at-requires
split_at-requires c = block_long c.args.block.now c.args.head.now c.requires.block

pub returns : goal.returns
returns c =
    subst
    (λ (l : List ℕ). OnOk c.take.result ((found : List Found) → Keeps found c.args.sessions.now
    → Keeps (found ++ record { volume = c.args.name.now; start = c.args.start; block = record { key = c.args.head.now.key; body = l } } ∷ []) c.take.new.self))
    c.split_at.ensures.back c.take.ensures
