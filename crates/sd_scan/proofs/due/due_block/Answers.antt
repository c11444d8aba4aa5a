use Rattle.std.proofs.Common.{◌≡◌, ℕ, drop, ap, ◌∙◌, subst, arith, Some}
use Rattle.sd_volume.specs.Image.{BeginsWithBlock}
use Rattle.sd_volume.proofs.ImageLemmas.{length-image}
use Rattle.sd_volume.proofs.AdoptLemmas.{one_block_begins, shown_stands}
use Rattle.sd_scan.proofs.RunLemmas.{shown_begins}
use Rattle.sd_scan.proofs.due.due_block.Goals as goal

pub returns-then-head-number-clause-none : goal.returns-then-head-number-clause-none
returns-then-head-number-clause-none g c = λ honest shows held there whole key body begins.
    let ensures = c.in_ok-head.ensures in
    let volume = (g.D.Driver.meaning c.next_block.new.driver).shelf.volume in
    let there_still : volume c.next_block.new.reader.name ≡ Some held = ap volume ensures.name ∙ (ensures.device.same honest _ ∙ there) in
    let block = rw c.in-Some.is at ensures.block in
    let shown = (rw c.in-Some.is at (ensures.there honest shows)) held there_still in
    let stands = shown_stands held.bytes c.next_block.new.reader.shown c.args.at c.in-Some.head shown block in
    absurd (c.if-head-number.true (one_block_begins (drop c.args.at held.bytes) c.in-Some.head.key key c.in-Some.head.number c.args.number stands.0 body stands.1 begins))

pub returns-clause-block : goal.returns-clause-block
returns-clause-block g c = rw c.in-Some.is at c.in_ok-head.ensures.block

pub returns-clause-within : goal.returns-clause-within
returns-clause-within g c =
    let block = rw c.in-Some.is at c.in_ok-head.ensures.block in
    let image = block.image in
    let long = length-image c.next_block.new.reader.shown c.in-Some.head.key c.in-Some.head.number block.body image in
    (omega (arith, long, image.least, block.size_is), omega (arith, c.if-head-size.false, c.requires))

pub returns-clause-there : goal.returns-clause-there
returns-clause-there g c = λ honest shows held there.
    let ensures = c.in_ok-head.ensures in
    let volume = (g.D.Driver.meaning c.next_block.new.driver).shelf.volume in
    let there_still : volume c.next_block.new.reader.name ≡ Some held = ap volume ensures.name ∙ (ensures.device.same honest _ ∙ there) in
    let block = rw c.in-Some.is at ensures.block in
    let shown = (rw c.in-Some.is at (ensures.there honest shows)) held there_still in
    let P : ℕ → Type 0 = λ n. BeginsWithBlock (drop c.args.at held.bytes) c.in-Some.head.key n (drop 24 c.next_block.new.reader.shown) in
    subst P c.if-head-number.false (shown_begins (drop c.args.at held.bytes) c.next_block.new.reader.shown c.in-Some.head shown block)
