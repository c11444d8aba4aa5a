use Rattle.std.proofs.Common.{refl, inl, inr, arith}
use Rattle.std.specs.declared.num.ParseIntError.{ParseIntError}
use Rattle.sd_text.proofs.NumberLemmas.{refused_sign, refused_text, refused_range, accepted}
use Rattle.sd_text.proofs.words.number_of.Goals as goal
use Rattle.sd_text.proofs.words.number_of.Goals.{then-value-least-via-then-value-least, then-value-least-via-else-value-least+then-value-most}

pub returns-then-not-is_plain-clause-read : goal.returns-then-not-is_plain-clause-read
returns-then-not-is_plain-clause-read c =
    refused_sign c.args.least c.args.most c.args.word.now (omega arith) (λ plain. cc (c.if-not-is_plain.ensures.1 plain))

pub returns-in_default-clause-read : goal.returns-in_default-clause-read
returns-in_default-clause-read c =
    refused_text c.args.least c.args.most c.args.word.now c.in_default.field-0 (omega arith) (c.if-not-is_plain.ensures.0 refl) c.in_default.ensures.value.0

pub returns-then-value-least-clause-read : goal.returns-then-value-least-clause-read
returns-then-value-least-clause-read c =
    refused_range ParseIntError c.args.least c.args.most c.args.word.now c.in-Ok.value (c.if-not-is_plain.ensures.0 refl) c.in-Ok.ensures.value.0
    (elim c.then-value-least.branch [
      | then-value-least-via-then-value-least w ↦ inl (omega arith)
      | then-value-least-via-else-value-least+then-value-most w ↦ inr (omega arith)
    ])

pub returns-clause-read : goal.returns-clause-read
returns-clause-read c =
    accepted ParseIntError c.args.least c.args.most c.args.word.now c.in-Ok.value (c.if-not-is_plain.ensures.0 refl) c.in-Ok.ensures.value.0 (omega arith) (omega arith)
