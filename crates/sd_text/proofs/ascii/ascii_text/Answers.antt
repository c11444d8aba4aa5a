use Rattle.std.proofs.lemmas.Str.{IsUtf8-from_ascii}
use Rattle.std.proofs.lemmas.Str.Ascii.{IsAscii-from_all}
use Rattle.sd_text.proofs.ascii.ascii_text.Goals as goal

pub returns-in_default-clause-none : goal.returns-in_default-clause-none
returns-in_default-clause-none c ascii =
    c.in_default.ensures.cases.0 (IsUtf8-from_ascii c.args.bytes.now (IsAscii-from_all c.args.bytes.now ascii))
