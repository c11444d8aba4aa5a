use Rattle.std.proofs.Common.{◌≡◌, true, refl, sym, ◌∙◌, true≢false}
use Rattle.sd_salvage.proofs.SalvageLemmas.{ends_as}
use Rattle.sd_salvage.proofs.salvager.Salvager.end.Goals.{else-self-via-then-self+else-not-self, else-self-via-else-self}
use Rattle.sd_salvage.proofs.salvager.Salvager.end.Goals as goal

pub returns-clause-ok : goal.returns-clause-ok
returns-clause-ok c = λ course come.
    let found : c.args.self.now.sound ≡ true → c.args.self.now.found ≡ true = elim c.else-self.branch [
      | else-self-via-then-self+else-not-self w ↦ λ s. w.if-not-self.false
      | else-self-via-else-self w ↦ λ s. absurd (true≢false (sym s ∙ w.if-self.false))
    ] in
    ends_as c.args.self.now _ refl c.ended.ensures found course come
