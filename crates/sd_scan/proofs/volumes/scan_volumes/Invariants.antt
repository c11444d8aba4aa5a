use Rattle.std.proofs.Common.{ℕ, List, ◌++◌, take}
use Rattle.sd_driver.specs.Meaning.{IsHonest}
use Rattle.sd_scan.specs.Found.{Found}
use Rattle.sd_scan.specs.Sessions.{Keeps}
use Rattle.sd_text.specs.Says.{Says, said_view}
use Rattle.sd_volume.specs.Device.{OnlyReads}
use Rattle.sd_scan.specs.Scan.{ScansVolumes}
use Rattle.sd_scan.proofs.volumes.scan_volumes.Given as goal

abbrev pub invariant-loop-name : goal.invariant-loop-name
invariant-loop-name g l =
    let old = g.D.Driver.meaning l.initial.driver in
    record {
      device : OnlyReads ⊥ old (g.D.Driver.meaning l.driver);
      scans : (due : List ℕ) × Says (said_view g.W.Write.contents l.initial.out) (said_view g.W.Write.contents l.out) due
          × ((more : List Found) × ((found : List Found) → Keeps found l.initial.sessions → Keeps (found ++ more) l.sessions)
          × (IsHonest old → ScansVolumes l.told old.shelf (take l.name-index l.names) more due l.undamaged));
    }
