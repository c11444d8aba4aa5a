use Rattle.std.proofs.Common.{◌∙◌, ap, map, [], None, Some}
use Rattle.std.specs.Option.{unwrap_or}
use Rattle.std.proofs.lemmas.Result.{IfOk-weaker}
use Rattle.clap.specs.Matches.{found_of}
use Rattle.sd_arguments.proofs.ValueLemmas.{texts_are}
use Rattle.sd_arguments.proofs.tool.words_of.Goals as goal

pub returns-in-Some : goal.returns-in-Some
returns-in-Some c = IfOk-weaker c.from_slice.result _ _ (λ v h. ap (map (λ w. w.now)) h
    ∙ ap (λ o. unwrap_or o []) (texts_are (found_of c.args.given.now) c.args.argument.now (Some c.in-Some.words) c.in-Some.ensures)) c.from_slice.ensures.items

pub returns-in-None : goal.returns-in-None
returns-in-None c = ap (map (λ w. w.now)) c.new.ensures.items
    ∙ ap (λ o. unwrap_or o []) (texts_are (found_of c.args.given.now) c.args.argument.now None c.in-None.ensures)
