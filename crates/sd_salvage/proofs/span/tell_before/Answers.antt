use Rattle.std.proofs.Common.{List, [], sym, subst, ◌∙◌}
use Rattle.sd_salvage.specs.Readable.{Piece, stored}
use Rattle.sd_salvage.specs.Salvage.{Takes}
use Rattle.sd_salvage.proofs.ReadableLemmas.{none_before_due}
use Rattle.sd_salvage.proofs.SalvageLemmas.{takes_none}
use Rattle.sd_salvage.proofs.span.tell_before.Goals as goal

pub returns-then-is_due-clause-takes : goal.returns-then-is_due-clause-takes
returns-then-is_due-clause-takes g c =
    let b = stored c.args.whole.now.at c.args.whole.now.head [] in
    let none = none_before_due c.args.volume.now c.args.at c.args.last b c.if-whole-at.true (sym c.is_due.ensures ∙ c.if-is_due.true) in
    subst (λ (l : List Piece). Takes c.args.salvager.now.key c.args.salvager.now c.args.salvager.now l (g.S.Salvaged.got c.args.sink.now) (g.S.Salvaged.got c.args.sink.now) (g.S.Salvaged.lost c.args.sink.now) (g.S.Salvaged.lost c.args.sink.now))
    (sym none) (takes_none c.args.salvager.now.key c.args.salvager.now _ _)
