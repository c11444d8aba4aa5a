use Rattle.clap.specs.Matches.{found_of}
use Rattle.sd_arguments.proofs.ValueLemmas.{text_is, text_there}
use Rattle.sd_arguments.proofs.tool.word.Goals as goal

pub returns : goal.returns
returns c = text_is (found_of c.args.given.now) c.args.argument.now c.get_str.result _ c.get_str.ensures c.unwrap.ensures

pub unwrap-requires : goal.unwrap-requires
unwrap-requires c = text_there (found_of c.args.given.now) c.args.argument.now c.get_str.result c.get_str.ensures c.requires
