use Rattle.std.proofs.Common.{[], List, refl, sym, ap, subst, ◌∙◌}
use Rattle.std.specs.Vec.{with_items}
use Rattle.std.proofs.lemmas.List.{with_items_is}
use Rattle.sd_append.specs.Port.{WasRead}
use Rattle.sd_lines.specs.Held.{last_of}
use Rattle.sd_lines.specs.Port.{LinePortIs}
use Rattle.sd_lines.specs.Reading.{ReadsTalk}
use Rattle.sd_lines.specs.Taken.{taken_last}
use Rattle.sd_lines.proofs.HeldLemmas.{keeps_still}
use Rattle.sd_lines.proofs.port.LinePort.read.Goals as goal

pub invariant_of-self : goal.invariant_of-self
invariant_of-self g c =
    let last = last_of c.self.inside.held in
    keeps_still c.self.inside.exchanges (WasRead c.args.key c.args.spans.now c.read-read.result.handed c.read-read.result.answer) last last c.self.invariant refl (λ so_far. refl)
    ∙ ap taken_last (sym c.was_read.ensures)

pub returns : goal.returns
returns g c =
    let readers = with_items_is c.self.inside.readers c.read-read.new.readers (c.read-read.auto.readers ∙ c.deref_mut.ensures.len) in
    let own = c.deref_mut.ensures.value ∙ ap (λ (p : LinePortIs g.row.D.Denot). p.readers) c.self.view_is in (
      c.read-read.result.handed,
      c.read-read.ensures.got,
      subst
          (λ (old : List g.row.D.Denot). ReadsTalk (λ d. g.D.Driver.meaning d) c.args.key c.args.spans.now [] c.read-read.result.handed c.read-read.result.answer old (with_items c.self.inside.readers c.read-read.new.readers).items)
          own
          (subst
          (λ (new : List g.row.D.Denot). ReadsTalk (λ d. g.D.Driver.meaning d) c.args.key c.args.spans.now [] c.read-read.result.handed c.read-read.result.answer c.deref_mut.result.now new)
          (sym readers) c.read-read.ensures.reads),
      rw (← c.self.view_is, c.was_read.ensures) refl,
    )
