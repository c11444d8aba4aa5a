use Rattle.clap.specs.Matches.{found_of}
use Rattle.sd_arguments.proofs.ValueLemmas.{word_is}
use Rattle.sd_arguments.proofs.tool.word_if_given.Goals as goal

pub returns : goal.returns
returns c = word_is (found_of c.args.given.now) c.args.argument.now c.get_str.result c.get_str.ensures
