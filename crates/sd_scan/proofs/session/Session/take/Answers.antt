use Rattle.std.proofs.Common.{◌++◌, ◌∷◌, [], sym, ap, subst, ◌∙◌}
use Rattle.std.specs.Prelude.{Vec}
use Rattle.sd_span.proofs.SpanLemmas.{stretches_grow}
use Rattle.sd_span.specs.Spans.{grown}
use Rattle.sd_scan.specs.Session.{IsStartOf}
use Rattle.sd_scan.proofs.SessionLemmas.{on_ok}
use Rattle.sd_scan.proofs.session.Session.take.Goals as goal

pub returns-clause-stands : goal.returns-clause-stands
returns-clause-stands c =
    on_ok c.unpack.result
    (λ took first own bodies stands. record {
      start_is = subst (IsStartOf first) (sym c.unpack.ensures.start) stands.start_is;
      stretches_are = ap (λ v. v.items) c.unpack.ensures.stretches ∙ c.in_ok-grow.ensures.ok ∙ ap (λ s. grown s c.args.placement.now) stands.stretches_are
          ∙ sym (stretches_grow own c.args.placement.now);
      took = took bodies stands.took;
    })
    c.unpack.ensures.took
