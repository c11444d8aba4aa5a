use Rattle.std.proofs.Common.{◌≡◌, ◌-◌, List, length}
use Rattle.std.specs.Prelude.{Some}
use Rattle.sd_driver.specs.Meaning.{IsHonest}
use Rattle.sd_driver.specs.Shelf.{Held}
use Rattle.sd_volume.specs.Device.{OnlyReads}
use Rattle.sd_volume.specs.Reader.{Shows}
use Rattle.sd_salvage.specs.Readable.{Piece}
use Rattle.sd_salvage.specs.Salvage.{Takes}
use Rattle.sd_salvage.proofs.ReadableLemmas.{GoesFrom}
use Rattle.sd_salvage.proofs.span.salvage_part.Given as goal

abbrev pub invariant-loop-whole : goal.invariant-loop-whole
invariant-loop-whole g l =
    let old = g.D.Driver.meaning l.initial.driver in
    let now = g.D.Driver.meaning l.driver in
    record {
      key : l.salvager.key ≡ l.initial.salvager.key;
      name : l.volume.name ≡ l.initial.volume.name;
      device : OnlyReads ⊥ old now;
      shows : IsHonest old → Shows l.initial.volume old.shelf → Shows l.volume now.shelf;
      takes : IsHonest old → Shows l.initial.volume old.shelf → (held : Held) → old.shelf.volume l.initial.volume.name ≡ Some held → l.size ≡ length held.bytes
          → (done : List Piece) × GoesFrom l.span.volume held.bytes l.span.start l.span.end l.at l.last done
          × Takes l.initial.salvager.key l.initial.salvager l.salvager done
          (g.S.Salvaged.got l.initial.sink) (g.S.Salvaged.got l.sink) (g.S.Salvaged.lost l.initial.sink) (g.S.Salvaged.lost l.sink);
    }

abbrev pub decreases-loop-whole : goal.decreases-loop-whole
decreases-loop-whole g l = l.span.end - l.at
