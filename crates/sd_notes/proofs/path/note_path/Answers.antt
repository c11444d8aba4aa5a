use Rattle.std.proofs.Common.{rules}
use Rattle.sd_notes.proofs.NameLemmas.{IsFileName-note}
use Rattle.sd_notes.proofs.path.note_path.Goals as goal

pub returns : goal.returns
returns c = let rule = IsFileName-note c.args.name.now (rw c.as_str-name.ensures.spelled at c.as_str-name.ensures.rule) in search (rules, rule)
