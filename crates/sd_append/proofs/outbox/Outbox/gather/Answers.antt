use Rattle.std.proofs.Common.{◌++◌, List, ℕ, sym, ap, ◌∙◌}
use Rattle.std.proofs.lemmas.List.{append_assoc}
use Rattle.sd_append.proofs.OutLemmas.{puts_then}
use Rattle.sd_append.proofs.outbox.Outbox.gather.Goals as goal

pub loop-rest-preserved : goal.loop-rest-preserved
loop-rest-preserved g c =
    let before = c.loop-rest.invariant in
    let more = c.put_front-rest.ensures.puts in (
      before.0 ++ more.0,
      before.1 ∙ ap (λ (l : List ℕ). before.0 ++ l) more.1 ∙ sym (append_assoc before.0 more.0 _),
      puts_then _ _ _ before.0 more.0 before.2 more.2,
    )
