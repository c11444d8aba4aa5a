use Rattle.std.proofs.Common.{◌++◌, List, ℕ, sym, ap₂, ◌∙◌}
use Rattle.std.proofs.lemmas.List.{take-append-drop}
use Rattle.sd_append.proofs.OutLemmas.{puts_nothing_then}
use Rattle.sd_append.proofs.outbox.Outbox.put_front.Goals as goal

pub returns-clause-puts : goal.returns-clause-puts
returns-clause-puts g c =
    let s = c.split_at.ensures in (
      c.split_at.result.0.now,
      sym (ap₂ (λ (x y : List ℕ). x ++ y) s.front s.back ∙ take-append-drop _ c.args.bytes.now),
      puts_nothing_then _ _ _ c.split_at.result.0.now c.room-room.ensures.puts c.keep.ensures,
    )
