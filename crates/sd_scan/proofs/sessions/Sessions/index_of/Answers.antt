use Rattle.std.proofs.Common.{◌≡◌, ◌-◌, ◌<◌, inl, inr, false, length, refl, sym, ap, ◌∙◌, arith}
use Rattle.std.proofs.lemmas.Bool.{cases_lt}
use Rattle.std.proofs.lemmas.Option.{slice_get_read}
use Rattle.sd_base.specs.Key.{is_key}
use Rattle.sd_scan.proofs.TableLemmas.{same_item}
use Rattle.sd_journal.proofs.KeyLemmas.{key_same}
use Rattle.sd_scan.specs.declared.session.Session.{Session}
use Rattle.sd_scan.proofs.sessions.Sessions.index_of.Goals as goal

pub returns-then-eq-clause-some : goal.returns-then-eq-clause-some
returns-then-eq-clause-some c =
    let items = c.args.self.now.found.items in
    let one = c.index.result.now in
    let within = c.loop-at.invariant.within in
    let there = slice_get_read items (length items) (c.loop-at.at - 1) one refl (omega (arith, within, c.loop-at-test.true)) c.index.ensures in
    (one, there, sym (key_same c.args.key one.key (sym c.eq.ensures ∙ c.if-eq.true)))

pub loop-at-preserved : goal.loop-at-preserved
loop-at-preserved c =
    let items = c.args.self.now.found.items in
    let one = c.index.result.now in
    let at = c.loop-at.at - 1 in
    let within = c.loop-at.invariant.within in
    let there = slice_get_read items (length items) at one refl (omega (arith, within, c.loop-at-test.true)) c.index.ensures in
    let apart : is_key c.args.key one.key ≡ false = sym c.eq.ensures ∙ c.if-eq.false in
    record {
      within = omega (arith, within);
      none = λ place other past e. elim (cases_lt at place) [
        | inl behind ↦ c.loop-at.invariant.none place other (omega (arith, behind)) e
        | inr before ↦ (let same : place ≡ at = omega (arith, past, before) in ap (λ (s : Session). is_key c.args.key s.key) (sym (same_item items at place one other same there e)) ∙ apart)
      ];
    }
