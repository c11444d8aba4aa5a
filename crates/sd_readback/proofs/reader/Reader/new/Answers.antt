use Rattle.std.proofs.Common.{refl}
use Rattle.sd_readback.proofs.ReaderLemmas.{has_read_none}
use Rattle.sd_readback.proofs.reader.Reader.new.Goals as goal

pub returns : goal.returns
returns c = has_read_none _ c.new.ensures.unpacks c.new.ensures.damage refl refl refl
