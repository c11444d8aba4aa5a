use Rattle.std.proofs.Common.{rules, ltb, sym, ◌∙◌, inl, inr, refl}
use Rattle.std.proofs.lemmas.List.Sorted.{IsPartitionPoint-from_clause, IsPartitionedBy-ltb}
use Rattle.std.proofs.lemmas.Option.{slice_get_read}
use Rattle.sd_events.proofs.Numbers.{number_of, never_fall, found_at, missing}
use Rattle.sd_events.proofs.entry.find.Goals.{else-at-sessions-via-then-at-sessions+else-number-get, else-at-sessions-via-else-at-sessions}
use Rattle.sd_events.proofs.entry.find.Goals as goal

pub returns-then-number-get-clause-found : goal.returns-then-number-get-clause-found
returns-then-number-get-clause-found g c =
    let there = slice_get_read c.args.sessions.now _ c.partition_point-at.result c.index-sessions-at.result refl c.if-at-sessions.true c.index-sessions-at.is in
    found_at c.requires.rise.0 c.requires.rise.1 c.args.sessions.now c.partition_point-at.result c.args.ticket c.index-sessions-at.result
    c.requires.rise.2 there (cc (c.number.ensures, c.get.ensures.value, c.if-number-get.true))

pub returns-else-at-sessions-clause-unknown : goal.returns-else-at-sessions-clause-unknown
returns-else-at-sessions-clause-unknown g c =
    let es = c.args.sessions.now in
    let parted = IsPartitionedBy-ltb number_of es c.args.ticket (never_fall c.requires.rise.0 1 c.requires.rise.1 es c.requires.rise.2) in
    let point = IsPartitionPoint-from_clause (λ e. ltb (number_of e) c.args.ticket) _ _ c.partition_point-at.ensures.partitioned parted (λ a r q k. search rules) in
    missing c.requires.rise.0 c.requires.rise.1 c.args.ticket es c.partition_point-at.result c.requires.rise.2 point
    (elim c.else-at-sessions.branch [
      | else-at-sessions-via-then-at-sessions+else-number-get w ↦
          let there = slice_get_read es _ c.partition_point-at.result w.index-sessions-at.result refl w.if-at-sessions.true w.index-sessions-at.is in
          inr (w.index-sessions-at.result, there, λ same. w.if-number-get.false (w.number.ensures ∙ same ∙ sym w.get.ensures.value))
      | else-at-sessions-via-else-at-sessions w ↦ inl w.if-at-sessions.false
    ])
