use Rattle.std.proofs.Common.{refl, sym, ◌∙◌}
use Rattle.std.proofs.lemmas.Bool.{false≢true}
use Rattle.sd_readback.specs.Reading.{blocks_of}
use Rattle.sd_readback.proofs.ListLemmas.{nil_unless}
use Rattle.sd_readback.proofs.ReaderLemmas.{whole_ended}
use Rattle.sd_readback.proofs.reader.Reader.finish.Goals as goal

pub returns-then-not-self-clause-none : goal.returns-then-not-self-clause-none
returns-then-not-self-clause-none c =
    (refl, λ key blocks taken r. nil_unless (blocks_of key blocks) (λ some. false≢true (sym c.if-not-self.true ∙ r.found_is.1 some)))

pub returns-clause-ok : goal.returns-clause-ok
returns-clause-ok c = λ key blocks taken r.
    let some = r.found_is.0 c.if-not-self.false in
    (some, whole_ended key blocks taken c.args.self.now c.ended.result r some c.ended.ensures, r.records_are, r.bytes_are)
