use Rattle.std.proofs.Common.{arith}
use Rattle.sd_folder.specs.Meaning.{IsHonest}
use Rattle.sd_folder.specs.Steps.{MayMake}
use Rattle.sd_filedrive.proofs.Changing.{by_result, honest_before, Knows-made, IsOpen-made, MayMake-of, MayMake-keeps}
use Rattle.sd_filedrive.proofs.Torn.{Covers-made}
use Rattle.sd_filedrive.proofs.volumes.Volumes.create.Goals as goal

pub invariant_of-self-in-Break-1 : goal.invariant_of-self-in-Break-1
invariant_of-self-in-Break-1 g c =
    let made = c.create_file.ensures in
    let may : IsHonest (g.F.Folder.meaning c.args.self.now.folder) → MayMake c.args.name.now (g.F.Folder.meaning c.args.self.now.folder) (g.F.Folder.meaning c.create_file.new.folder) =
    λ h. by_result c.create_file.result _ _ _ (made.ok h) (made.err h) (MayMake-of _ _ _) (λ m. m) in
    let old = honest_before _ _ made.goes in
    record {
      knows = λ h l is. Knows-made _ l _ _ _ (may (old h)) (c.args.self.now.knows (old h) l is);
      opened = λ h o is. IsOpen-made _ _ _ _ _ (may (old h)) (c.args.self.now.opened (old h) o is);
      covers = λ h. rw c.reserve.ensures.items (Covers-made _ _ _ _ (may (old h)) (c.args.self.now.covers (old h)));
      room = λ l is t. omega (arith, c.reserve.ensures.len, c.in-Ok.ensures.ok);
    }

pub returns-in_err-file-clause-stable : goal.returns-in_err-file-clause-stable
returns-in_err-file-clause-stable g c = λ h. MayMake-keeps _ _ _ (c.in_err-file.ensures.err h)

pub returns-clause-stable : goal.returns-clause-stable
returns-clause-stable g c = λ h. MayMake-keeps _ _ _ (MayMake-of _ _ _ (c.in_ok-file.ensures.ok h))
