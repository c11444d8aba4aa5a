use Rattle.clap.specs.Matches.{found_of}
use Rattle.sd_arguments.proofs.ValueLemmas.{flag_is}
use Rattle.sd_arguments.proofs.tool.is_given.Goals as goal

pub returns : goal.returns
returns c = flag_is (found_of c.args.given.now) c.args.flag.now c.get_flag.result c.get_flag.ensures.none c.get_flag.ensures.value c.get_flag.ensures.other
