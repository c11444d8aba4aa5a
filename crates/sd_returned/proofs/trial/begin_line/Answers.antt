use Rattle.std.proofs.Common.{sym, ap, ◌∙◌}
use Rattle.sd_line.specs.Side.{LineIs}
use Rattle.sd_returned.proofs.trial.begin_line.Goals as goal

pub returns : goal.returns
returns g c = λ k seat is.
    let new = c.in-Ok.ensures.new k seat is in
    (new.0 ∙ sym (ap (λ (l : LineIs). l.no) c.in-Ok.ensures.line), new.1)
