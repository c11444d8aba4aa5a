use Rattle.std.proofs.Common.{ap, ◌∙◌, arith, ◌++◌, [], ◌∷◌}
use Rattle.sd_pack.proofs.KeptLemmas.{finished_packer}
use Rattle.sd_pack.proofs.packer.Packer.finish.Goals as goal

pub invariant_of-self : goal.invariant_of-self
invariant_of-self c =
    let p = c.self.inside in
    finished_packer p.room p.waiting.items c.push_back_reserved.new.self.items p.open_body c.replace-last.new.dest _ _ c.self.invariant (omega arith)
    (c.push_back_reserved.ensures.items ∙ ap (λ b. p.waiting.items ++ b ∷ []) (c.close.ensures ∙ c.replace-last.ensures.value))
    (c.replace-last.ensures.after ∙ c.empty.ensures)
