use Rattle.std.proofs.Common.{List, sym, subst}
use Rattle.sd_salvage.specs.Readable.{Piece}
use Rattle.sd_salvage.specs.Salvage.{Takes}
use Rattle.sd_salvage.proofs.ReadableLemmas.{none_rest}
use Rattle.sd_salvage.proofs.SalvageLemmas.{takes_none}
use Rattle.sd_salvage.proofs.span.tell_rest.Goals as goal

pub returns-else-at-end-clause-takes : goal.returns-else-at-end-clause-takes
returns-else-at-end-clause-takes g c =
    subst (λ (l : List Piece). Takes c.args.salvager.now.key c.args.salvager.now c.args.salvager.now l (g.S.Salvaged.got c.args.sink.now) (g.S.Salvaged.got c.args.sink.now) (g.S.Salvaged.lost c.args.sink.now) (g.S.Salvaged.lost c.args.sink.now))
    (sym (none_rest c.args.volume.now c.args.at c.args.end c.if-at-end.false)) (takes_none c.args.salvager.now.key c.args.salvager.now _ _)
