use Rattle.std.proofs.Common.{rules, ap}
use Rattle.std.specs.Cmp.Lexicographic.{slice_cmp}
use Rattle.std.specs.Ordering.{nat_cmp, is_lt}
use Rattle.std.proofs.lemmas.Cmp.{nat_list_cmp_total}
use Rattle.std.proofs.lemmas.List.MinMax.{ranks_by}
use Rattle.std.proofs.lemmas.Fn.{always_returns_same}
use Rattle.sd_notes.specs.Order.{sort_key}
use Rattle.sd_notes.proofs.order.in_order.Goals as goal

pub returns-clause-order : goal.returns-clause-order
returns-clause-order c =
    c.sort_unstable_by.ensures.sorted (λ x y. is_lt (slice_cmp nat_cmp (sort_key x) (sort_key y))) (ranks_by nat_list_cmp_total sort_key)
    (always_returns_same _ _ _ (λ a r f' k. (ap is_lt (search rules), search rules)))
