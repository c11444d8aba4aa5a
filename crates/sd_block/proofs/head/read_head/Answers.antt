use Rattle.std.proofs.Common.{arith, ◌≡◌, ap}
use Rattle.sd_block.specs.declared.head.Head.{Head}
use Rattle.sd_block.proofs.HeaderLemmas.{SaysFields-same, SaysSize-same}
use Rattle.sd_block.proofs.head.read_head.Goals as goal

pub returns-then-head-lt-LEAST_BLOCK-clause-found : goal.returns-then-head-lt-LEAST_BLOCK-clause-found
returns-then-head-lt-LEAST_BLOCK-clause-found c = λ head is.
    let same = SaysFields-same c.args.bytes.now c.in-Ok.head head c.in-Ok.ensures.fields is.fields in
    let same_size : c.in-Ok.head.size ≡ head.size = ap (λ (h : Head). h.size) same in
    absurd (omega arith)

pub returns-clause-found : goal.returns-clause-found
returns-clause-found c = λ head is.
    let same = SaysFields-same c.args.bytes.now c.in-Ok.head head c.in-Ok.ensures.fields is.fields in cc

pub returns-clause-bad_size : goal.returns-clause-bad_size
returns-clause-bad_size c = (
  λ e. cc,
  λ h.
      let same = SaysSize-same c.args.bytes.now h.2.0 c.in-Ok.head.size h.2.1.0 (c.in-Ok.ensures.fields.fits.size_fits, c.in-Ok.ensures.fields.size) in
      let bad = h.2.1.1 in
      absurd (omega (arith, bad)),
)
