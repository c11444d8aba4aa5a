use Rattle.std.proofs.Common.{◌++◌, sym, ap, ◌∙◌}
use Rattle.sd_append.proofs.CommandLemmas.{keyed_some, keyed_none}
use Rattle.sd_append.proofs.read.keyed.Goals as goal

pub returns-in-Some : goal.returns-in-Some
returns-in-Some c =
    let s = c.in-Some.ensures.cases in
    keyed_some c.args.key.now c.args.words.now c.in_ok-word.word.now c.in-Some.value.now c.word.new.self c.in_ok-word.ensures
    (s.1.1 ∙ ap (λ t. c.args.key.now ++ t) (sym s.2))

pub returns-in-None : goal.returns-in-None
returns-in-None c =
    keyed_none c.args.key.now c.args.words.now c.in_ok-word.word.now c.word.new.self c.in_ok-word.ensures c.in-None.ensures.cases
