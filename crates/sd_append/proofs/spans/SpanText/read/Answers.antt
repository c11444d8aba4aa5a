use Rattle.std.proofs.Common.{◌≡◌, List, ℕ, sym, subst, ◌∙◌}
use Rattle.std.specs.Prelude.{IfOk}
use Rattle.sd_span.specs.JobMedia.{IsJobMedia}
use Rattle.sd_append.proofs.ReadLemmas.{whole_text}
use Rattle.sd_append.proofs.spans.SpanText.read.Goals as goal

pub returns-in-Ok-clause-ok : goal.returns-in-Ok-clause-ok
returns-in-Ok-clause-ok c =
    let same : c.deref.result.now ≡ c.args.self.now = c.deref.ensures ∙ c.in-Ok.ensures.ok ∙ whole_text _ _ _ ∙ c.self.view_is in
    subst (λ (text : List ℕ). IfOk c.read_jobmedia.result (λ read. IsJobMedia text read.key read.spans)) same c.read_jobmedia.ensures.ok

pub returns-in-Ok-clause-bad_span : goal.returns-in-Ok-clause-bad_span
returns-in-Ok-clause-bad_span c bad key spans says =
    let same : c.deref.result.now ≡ c.args.self.now = c.deref.ensures ∙ c.in-Ok.ensures.ok ∙ whole_text _ _ _ ∙ c.self.view_is in
    c.read_jobmedia.ensures.bad_span.0 bad key spans (subst (λ (text : List ℕ). IsJobMedia text key spans) (sym same) says)
