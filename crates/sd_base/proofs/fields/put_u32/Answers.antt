use Rattle.std.proofs.Common.{arith}
use Rattle.sd_base.specs.Field.{u32_bytes}
use Rattle.sd_base.proofs.FieldLemmas.{put_field}
use Rattle.sd_base.proofs.fields.put_u32.Goals as goal

pub returns : goal.returns
unfolding u32_bytes
returns c = rw c.write_u32.ensures (put_field c.args.at 4 c.args.into.now _ (omega arith))
