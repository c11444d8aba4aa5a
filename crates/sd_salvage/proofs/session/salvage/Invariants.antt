use Rattle.std.proofs.Common.{◌≡◌, List, take}
use Rattle.sd_driver.specs.Meaning.{IsHonest}
use Rattle.sd_readback.specs.Reading.{volumes_on}
use Rattle.sd_volume.specs.Device.{OnlyReads}
use Rattle.sd_salvage.specs.Readable.{FindsInSpans, Piece}
use Rattle.sd_salvage.specs.Salvage.{Takes}
use Rattle.sd_salvage.proofs.session.salvage.Given as goal

abbrev pub invariant-loop-span : goal.invariant-loop-span
invariant-loop-span g l =
    let old = g.D.Driver.meaning l.initial.driver in
    let now = g.D.Driver.meaning l.driver in
    record {
      key : l.salvager.key ≡ l.initial.salvager.key;
      device : OnlyReads ⊥ old now;
      takes : IsHonest old → (pieces : List Piece) × FindsInSpans (volumes_on old.shelf) (take l.span-index l.spans) pieces
          × Takes l.initial.salvager.key l.initial.salvager l.salvager pieces
          (g.S.Salvaged.got l.initial.sink) (g.S.Salvaged.got l.sink) (g.S.Salvaged.lost l.initial.sink) (g.S.Salvaged.lost l.sink);
    }
