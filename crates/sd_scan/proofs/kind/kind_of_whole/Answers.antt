use Rattle.std.proofs.Common.{inl, inr, refl}
use Rattle.sd_scan.proofs.KindLemmas.{none_opened}
use Rattle.sd_scan.proofs.kind.kind_of_whole.Goals as goal

pub returns-in-Ok : goal.returns-in-Ok
returns-in-Ok c = inl (refl, record { key = _; number = _; body = _; block = c.in-Ok.ensures.block })

pub returns-in-Err : goal.returns-in-Err
returns-in-Err c = inr (refl, none_opened c.args.bytes.now c.in-Err.field-0 c.in-Err.ensures.found)
