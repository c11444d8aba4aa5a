use Rattle.std.proofs.Common.{◌≡◌, ◌∙◌, cond, take, ◌+◌, ap, sym, get_or}
use Rattle.std.specs.Prelude.{◌==◌, ◌&&◌, ◌||◌}
use Rattle.std.proofs.lemmas.Bool.{eq-eqb, ne_eqb}
use Rattle.std.proofs.lemmas.List.{take_all}
use Rattle.std.proofs.lemmas.List.Folds.{list_any_more}
use Rattle.sd_base.specs.Key.{is_key}
use Rattle.sd_journal.specs.Share.{share_of, lies, with_marks}
use Rattle.sd_journal.specs.declared.lying.Lying.{Lying}
use Rattle.sd_journal.proofs.KeyLemmas.{key_turned}
use Rattle.sd_journal.proofs.MarkLemmas.{nowhere, marked_again, step_other}
use Rattle.sd_journal.proofs.lying.mark_lying.Goals as goal
use Rattle.sd_journal.proofs.lying.mark_lying.Goals.{then-volume-one, else-volume-one}

pub loop-one-preserved : goal.loop-one-preserved
loop-one-preserved c = λ key.
    let all = c.args.all.now in
    let i = c.loop-one.one-index in
    let volume = c.args.volume in
    let mark = c.args.mark in
    let one = get_or all i nowhere in
    let was = share_of c.args.shares.now key in
    let more : lies key volume (take (i + 1) all) ≡ (lies key volume (take i all) || ((volume == one.volume) && is_key key one.key)) =
    list_any_more (λ (l : Lying). (volume == l.volume) && is_key key l.key) all i nowhere c.loop-one-test.true in
    elim c.if-volume-one.branch [
      | then-volume-one w ↦
          (let here = eq-eqb volume one.volume w.if-volume-one.true in
          ap (λ s. share_of s key) w.shares-is ∙ w.mark.ensures key
          ∙ marked_again mark volume (lies key volume (take i all)) (is_key one.key key) was (share_of c.loop-one.shares key) (c.loop-one.invariant key)
          ∙ ap (λ b. cond (lies key volume (take i all) || b) (with_marks mark volume was) was) (sym (ap (λ b. b && is_key key one.key) here ∙ key_turned one.key key))
          ∙ ap (λ b. cond b (with_marks mark volume was) was) (sym more))
      | else-volume-one w ↦
          (let off = ne_eqb volume one.volume w.if-volume-one.false in
          ap (λ s. share_of s key) w.shares-is ∙ c.loop-one.invariant key
          ∙ ap (λ b. cond b (with_marks mark volume was) was) (sym (more ∙ step_other (lies key volume (take i all)) (volume == one.volume) (is_key key one.key) off)))
    ]

pub returns : goal.returns
returns c = λ key.
    c.loop-one.invariant key
    ∙ ap (λ l. cond (lies key c.args.volume l) (with_marks c.args.mark c.args.volume (share_of c.args.shares.now key)) (share_of c.args.shares.now key))
    (take_all c.loop-one.one-index c.args.all.now c.loop-one-test.false)
