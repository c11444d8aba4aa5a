use Rattle.std.proofs.Common.{arith}
use Rattle.sd_base.specs.Field.{u64_bytes}
use Rattle.sd_base.proofs.FieldLemmas.{put_field}
use Rattle.sd_base.proofs.fields.put_u64.Goals as goal

pub returns : goal.returns
unfolding u64_bytes
returns c = rw c.write_u64.ensures (put_field c.args.at 8 c.args.into.now _ (omega arith))
