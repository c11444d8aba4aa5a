use Rattle.std.proofs.Common.{◌∙◌, codes, refl, subst, sym}
use Rattle.clap.specs.Matches.{found_of}
use Rattle.clap.specs.Walk.{one_of, rows_of}
use Rattle.std.specs.Str.Parse.{ExplainsUnsignedError, HasUnsignedDigitsIfOk, ParsesUnsigned}
use Rattle.std.specs.declared.num.ParseIntError.{ParseIntError}
use Rattle.sd_arguments.specs.Lines.{IsFlagOf}
use Rattle.sd_arguments.proofs.ValueLemmas.{count_is, flag_is, text_is, text_there, word_is}
use Rattle.sd_arguments.proofs.daemon.asked_of.Goals as goal

pub returns-clause-ok : goal.returns-clause-ok
returns-clause-ok c = record {
  path = text_is (found_of c.args.given.now) (codes "CONF") c.get_str.result _ c.get_str.ensures c.unwrap.ensures;
  talks = count_is ParseIntError (λ bs r. ParsesUnsigned 32 10 bs r × ExplainsUnsignedError 10 bs r × HasUnsignedDigitsIfOk bs r) (λ u x g. g.0) (found_of c.args.given.now) (codes "talks") c.get_one.result _ c.get_one.ensures.none c.get_one.ensures.value c.unwrap_or.ensures;
  wait = count_is ParseIntError (λ bs r. ParsesUnsigned 32 10 bs r × ExplainsUnsignedError 10 bs r × HasUnsignedDigitsIfOk bs r) (λ u x g. g.0) (found_of c.args.given.now) (codes "wait") c.get_one-2.result _ c.get_one-2.ensures.none c.get_one-2.ensures.value c.unwrap_or-2.ensures;
  metrics = word_is (found_of c.args.given.now) (codes "metrics") c.get_str-2.result c.get_str-2.ensures;
  until = word_is (found_of c.args.given.now) (codes "until") c.get_str-3.result c.get_str-3.ensures;
  log = flag_is (found_of c.args.given.now) (codes "log") _ c.get_flag.ensures.none c.get_flag.ensures.value c.get_flag.ensures.other;
  adopt = flag_is (found_of c.args.given.now) (codes "adopt") _ c.get_flag-adopt.ensures.none c.get_flag-adopt.ensures.value c.get_flag-adopt.ensures.other;
  adopt_damaged = c.in_ok-adopt_damaged.ensures.ok;
  adopting = λ e. sym c.deref.ensures.value ∙ c.if-lacks_adopt.ensures.complete refl e;
}

pub returns-then-lacks_adopt-clause-err : goal.returns-then-lacks_adopt-clause-err
returns-then-lacks_adopt-clause-err c =
    let both = c.if-lacks_adopt.ensures.lacks refl in (
      (λ e. both.1 (c.deref.ensures.value ∙ (c.in_ok-adopt_damaged.ensures.ok ∙ e))),
      subst (IsFlagOf (one_of (codes "adopt") (rows_of (found_of c.args.given.now)))) both.0
          (flag_is (found_of c.args.given.now) (codes "adopt") _ c.get_flag-adopt.ensures.none c.get_flag-adopt.ensures.value c.get_flag-adopt.ensures.other),
    )

pub unwrap-requires : goal.unwrap-requires
unwrap-requires c = text_there (found_of c.args.given.now) (codes "CONF") c.get_str.result c.get_str.ensures c.requires
