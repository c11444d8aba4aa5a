use Rattle.std.proofs.Common.{◌∙◌, ap, subst, [], None, Some, codes}
use Rattle.std.specs.Option.{unwrap_or}
use Rattle.std.proofs.lemmas.Result.{IfErr-weaker, IfOk-weaker}
use Rattle.clap.specs.Matches.{found_of}
use Rattle.sd_arguments.specs.Daemon.{IsBadName}
use Rattle.sd_arguments.proofs.ValueLemmas.{texts_are}
use Rattle.sd_arguments.proofs.adopting.names_of.Goals as goal

pub returns-in-Some-clause-ok : goal.returns-in-Some-clause-ok
returns-in-Some-clause-ok c = IfOk-weaker c.names_in.result _ _ (λ names h. h
    ∙ ap (λ o. unwrap_or o []) (texts_are (found_of c.args.given.now) (codes "adopt-damaged") (Some c.in-Some.words) c.in-Some.ensures)) c.names_in.ensures.ok

pub returns-in-Some-clause-err : goal.returns-in-Some-clause-err
returns-in-Some-clause-err c = IfErr-weaker c.names_in.result _ _ (λ misuse h. subst (IsBadName misuse)
    (ap (λ o. unwrap_or o []) (texts_are (found_of c.args.given.now) (codes "adopt-damaged") (Some c.in-Some.words) c.in-Some.ensures)) h) c.names_in.ensures.err

pub returns-in-None-clause-ok : goal.returns-in-None-clause-ok
returns-in-None-clause-ok c = c.new.ensures.items
    ∙ ap (λ o. unwrap_or o []) (texts_are (found_of c.args.given.now) (codes "adopt-damaged") None c.in-None.ensures)
