use Rattle.std.proofs.Common.{arith, drop}
use Rattle.sd_scan.proofs.RunLemmas.{size_of_block}
use Rattle.sd_salvage.proofs.ReadableLemmas.{first_next, none_left, none_within}
use Rattle.sd_salvage.proofs.span.next_within.Goals as goal

pub returns-in_default-clause-none : goal.returns-in_default-clause-none
returns-in_default-clause-none g c = λ honest shows held there limit.
    none_left held.bytes c.args.from c.args.limit c.args.end limit (rw c.in_default.is at (c.in_ok-whole.ensures.none honest shows held there))

pub returns-then-whole-saturating_sub-clause-none : goal.returns-then-whole-saturating_sub-clause-none
returns-then-whole-saturating_sub-clause-none g c = λ honest shows held there limit.
    let whole = c.in-Some.whole in
    let shown = c.next_whole.new.reader.shown in
    let first = rw c.in-Some.is at (c.in_ok-whole.ensures.found honest shows held there) in
    let begins = rw c.in-Some.is at (c.in_ok-whole.ensures.there honest shows held there) in
    let size = size_of_block shown whole.head (rw c.in-Some.is at c.in_ok-whole.ensures.block) in
    none_within held.bytes c.args.from whole.at whole.head.number c.args.end whole.head.key (drop 24 shown) first begins (omega (arith, size, c.saturating_sub.ensures, c.if-whole-saturating_sub.true))

pub returns-clause-within : goal.returns-clause-within
returns-clause-within g c =
    let within = rw c.in-Some.is at c.in_ok-whole.ensures.within in
    let size = size_of_block c.next_whole.new.reader.shown c.in-Some.whole.head (rw c.in-Some.is at c.in_ok-whole.ensures.block) in
    (within.0, omega (arith, size, c.saturating_sub.ensures, c.if-whole-saturating_sub.false))

pub returns-clause-next : goal.returns-clause-next
returns-clause-next g c = λ honest shows held there.
    let whole = c.in-Some.whole in
    let shown = c.next_whole.new.reader.shown in
    let first = rw c.in-Some.is at (c.in_ok-whole.ensures.found honest shows held there) in
    let begins = rw c.in-Some.is at (c.in_ok-whole.ensures.there honest shows held there) in
    let size = size_of_block shown whole.head (rw c.in-Some.is at c.in_ok-whole.ensures.block) in
    first_next held.bytes c.args.from whole.at whole.head.number c.args.end whole.head.key (drop 24 shown) first begins (omega (arith, size, c.saturating_sub.ensures, c.if-whole-saturating_sub.false))
