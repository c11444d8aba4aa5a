use Rattle.std.proofs.Common.{ℕ, ltb, rules, refl, sym, ◌∙◌, arith}
use Rattle.std.proofs.lemmas.List.Sorted.{IsPartitionPoint-from_clause, IsPartitionedBy-ltb}
use Rattle.std.proofs.lemmas.Option.{get_or_from_slice_get, slice_get_read}
use Rattle.sd_core.proofs.Tickets.{ends_below, rise_never_fall, stands_listed}
use Rattle.sd_core.proofs.listing.place_for.Goals.{else-at-tickets-via-then-at-tickets+else-get, else-at-tickets-via-else-at-tickets}
use Rattle.sd_core.proofs.listing.place_for.Goals as goal

pub returns-then-get-clause-listed : goal.returns-then-get-clause-listed
returns-then-get-clause-listed c =
    stands_listed c.args.tickets.now c.partition_point-at.result c.args.ticket c.index-tickets-at.result c.if-at-tickets.true
    (sym c.index-tickets-at.is ∙ sym c.get.ensures.value ∙ c.if-get.true ∙ c.get-then-at-tickets.ensures.value)

pub returns-else-at-tickets-clause-at : goal.returns-else-at-tickets-clause-at
returns-else-at-tickets-clause-at c =
    let ts = c.args.tickets.now in
    let at = c.partition_point-at.result in
    let parted = IsPartitionedBy-ltb (λ (t : ℕ). t) ts c.args.ticket (rise_never_fall 0 ts c.requires.rise) in
    let point = IsPartitionPoint-from_clause (λ (t : ℕ). ltb t c.args.ticket) _ _ c.partition_point-at.ensures.partitioned parted (λ a r q k. search rules) in
    ends_below ts at c.args.ticket c.requires.rise c.partition_point-at.ensures.bound point (λ d within.
    (elim c.else-at-tickets.branch [
      | else-at-tickets-via-then-at-tickets+else-get w ↦ λ same.
          let there = slice_get_read ts _ at w.index-tickets-at.result refl w.if-at-tickets.true w.index-tickets-at.is in
          w.if-get.false (w.get.ensures.value ∙ sym (get_or_from_slice_get ts at w.index-tickets-at.result d there) ∙ same ∙ sym w.get-then-at-tickets.ensures.value)
      | else-at-tickets-via-else-at-tickets w ↦ absurd (omega (arith, w.if-at-tickets.false, within))
    ]))
