use Rattle.std.proofs.Common.{◌≡◌, ◌<◌, inl, inr, refl, sym, ap, ◌∙◌, arith, length, slice_get}
use Rattle.std.proofs.lemmas.Option.{slice_get_read}
use Rattle.sd_base.specs.declared.number.SessionKey.{SessionKey}
use Rattle.sd_jobs.proofs.EachLemmas.{get_below}
use Rattle.sd_line.specs.Ends.{ToldSession}
use Rattle.sd_world.proofs.Lookups.{one_or_two}
use Rattle.sd_returned.proofs.alone.has_number.Goals as goal

pub loop-at-preserved : goal.loop-at-preserved
loop-at-preserved g c = λ k s below is own.
    let sessions = c.args.sessions.now in
    let at = c.loop-at.at in
    let test = c.loop-at-test.true in
    let end = c.loop-at.auto.at-end in
    let inside : at < length sessions = omega (arith, test, end) in
    let there = slice_get_read sessions (length sessions) at c.index-sessions-at.result refl inside c.index-sessions-at.is in
    elim (one_or_two k at) [
      | inl same ↦
          let one : c.index-sessions-at.result ≡ s = cc (sym there ∙ ap (slice_get sessions) (sym same) ∙ is) in
          c.if-key-number.false (ap (λ (x : SessionKey). x.id) c.key.ensures ∙ ap (λ (t : ToldSession). t.session.key.id) (c.told.view_is ∙ one) ∙ own)
      | inr apart ↦ c.loop-at.invariant k s (omega (arith, below, apart)) is own
    ]

pub returns : goal.returns
returns g c = λ is k s there own.
    let below = get_below c.args.sessions.now k s there in
    c.loop-at.invariant k s (omega (arith, below)) there own
