use Rattle.std.proofs.Common.{◌≡◌, ◌∷◌, [], ◌++◌, List, ℕ, Err, sym, ap, subst, ◌∙◌}
use Rattle.sd_text.specs.Lines.{line}
use Rattle.sd_span.specs.JobMedia.{IsJobMedia, session_text}
use Rattle.sd_span.specs.declared.jobmedia.JobMediaFault.TheVariants.{BadSpan}
use Rattle.sd_append.proofs.SpanLemmas.{line_alone, span_alone, some_key, some_fits}
use Rattle.sd_append.proofs.spans.read_span.Goals as goal

pub returns-in-Ok-read-clause-ok : goal.returns-in-Ok-read-clause-ok
returns-in-Ok-read-clause-ok c =
    let read = c.in-Ok-read._spans in
    let same : c.in-Ok.alone ≡ line (session_text some_key) ++ line c.args.more.now = c.in-Ok.ensures ∙ ap (λ (l : List ℕ). l ++ line c.args.more.now) c.new.ensures in
    line_alone some_key read.key c.args.more.now read.spans some_fits c.requires
    (subst (λ (text : List ℕ). IsJobMedia text read.key read.spans) same c.in-Ok-read.ensures.ok)

pub returns-clause-bad_span : goal.returns-clause-bad_span
returns-clause-bad_span c bad says =
    let same : c.in-Ok.alone ≡ line (session_text some_key) ++ line c.args.more.now = c.in-Ok.ensures ∙ ap (λ (l : List ℕ). l ++ line c.args.more.now) c.new.ensures in
    let is_bad : c.in-Err.fault ≡ BadSpan = cc bad in
    c.in-Err.ensures.bad_span (ap Err is_bad) some_key (says.0 ∷ [])
    (subst (λ (text : List ℕ). IsJobMedia text some_key (says.0 ∷ [])) (sym same) (span_alone some_key c.args.more.now says.0 some_fits says.1 says.2))
