use Rattle.std.proofs.Common.{◌≡◌, MutBor, List, ℕ, Option, ◌++◌, take, ap, subst}
use Rattle.std.specs.Io.KnownBytes.{IsAtEnd}
use Rattle.std.specs.Option.{option_map}
use Rattle.std.specs.Prelude.{IfSome}
use Rattle.std.specs.Io.BufRead.{take_through}
use Rattle.sd_tool.proofs.LineLemmas.{at_end, first_comes}
use Rattle.sd_tool.proofs.lines.Lines.read_bytes.Goals as goal

pub returns-in-Ok-eq0-clause-first : goal.returns-in-Ok-eq0-clause-first
returns-in-Ok-eq0-clause-first g c =
    let limited = c.take-limited.result in
    let same : g.R.Read.remaining limited.inner.now ≡ g.R.Read.remaining c.args.reader.now =
    ap (λ (r : MutBor g.row.R.Denot). g.R.Read.remaining r.now) c.take-limited.ensures.inner in
    let Ends : Option (List ℕ) → Type 0 = λ o. IsAtEnd (option_map (take limited.limit) o) in
    at_end (g.R.Read.remaining c.args.reader.now) limited.limit 4000037 c.take-limited.ensures.limit (subst Ends same ((rw c.in-Ok-eq0.is at c.read_until.ensures.end) c.in-Ok-eq0.field-0-test))

pub returns-in-Ok-clause-first : goal.returns-in-Ok-clause-first
returns-in-Ok-clause-first g c =
    let limited = c.take-limited.result in
    let same : g.R.Read.remaining limited.inner.now ≡ g.R.Read.remaining c.args.reader.now =
    ap (λ (r : MutBor g.row.R.Denot). g.R.Read.remaining r.now) c.take-limited.ensures.inner in
    let read = c.read_until.new.buf.items in
    let Bytes : Option (List ℕ) → Type 0 = λ o. IfSome (option_map (take limited.limit) o) (λ xs. read ≡ c.clear.new.self.items ++ take_through 10 xs) in
    first_comes (g.R.Read.remaining c.args.reader.now) limited.limit c.clear.new.self.items read c.without_newline.new.self.bytes c.without_newline.result
    c.take-limited.ensures.limit c.clear.ensures.items (subst Bytes same c.in-Ok.ensures.bytes) c.without_newline.ensures.line
