use Rattle.std.proofs.Common.{sym, ap, ◌∙◌}
use Rattle.sd_lines.proofs.over.leave.Goals as goal

pub invariant_of-result : goal.invariant_of-result
invariant_of-result g c =
    let is = c.of-part.ensures ∙ c.part.ensures in
    record {
      id = ap (λ k. k.id) c.key-key.ensures ∙ ap (λ s. s.key.id) c.session-session.ensures ∙ ap (λ p. p.session.key.id) (c.part-2.ensures ∙ sym is);
      why = rw is c.requires;
    }
