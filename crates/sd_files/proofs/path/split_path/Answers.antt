use Rattle.std.proofs.Common.{inr}
use Rattle.sd_files.proofs.PathLemmas.{at_slash}
use Rattle.sd_files.proofs.path.split_path.Goals as goal

pub returns-in-Some : goal.returns-in-Some
returns-in-Some c =
    let s = at_slash c.args.path.now c.in-Some.front.now c.in-Some.name.now c.in-Some.ensures.cases in
    (s.0, inr (c.in-Some.front.now, s.1, c.folder_before.ensures))
