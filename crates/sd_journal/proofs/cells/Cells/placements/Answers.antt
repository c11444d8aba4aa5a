use Rattle.std.proofs.Common.{◌≡◌, ◌∙◌, map, ap, sym, subst}
use Rattle.std.specs.Prelude.{All, IfOk}
use Rattle.sd_journal.specs.Noted.{IsNamed, placement_of}
use Rattle.sd_journal.proofs.WalkLemmas.{own_placed, own_holds}
use Rattle.sd_journal.proofs.cells.Cells.placements.Goals as goal

pub placements_of-requires : goal.placements_of-requires
placements_of-requires c =
    let names = c.args.names.now.names in
    let is = c.deref.ensures.value ∙ c.in_ok-own.ensures in
    subst (All (IsNamed names)) (sym is) (own_holds (IsNamed names) c.args.key c.args.self.now.noted c.requires)

pub returns : goal.returns
returns c =
    let names = c.args.names.now.names in
    let is = c.deref.ensures.value ∙ c.in_ok-own.ensures in
    subst (λ l. IfOk c.placements_of.result (λ own. own ≡ l)) (ap (map (placement_of names)) is ∙ own_placed c.args.key names c.args.self.now.noted) c.placements_of.ensures
