use Rattle.std.proofs.Common.{◌≡◌, ◌∙◌, ◌≤◌, ◌++◌, length, ap, ap₂, sym, arith}
use Rattle.std.specs.List.{flat_map, fold}
use Rattle.std.specs.Vec.{vec_items}
use Rattle.std.proofs.lemmas.List.{take_all}
use Rattle.std.proofs.lemmas.List.Sums.{fold-append}
use Rattle.sd_journal.specs.Noted.{own_of}
use Rattle.sd_journal.specs.Walk.{walk_of, walk_step}
use Rattle.sd_journal.proofs.WalkLemmas.{unwalked, walked_own}
use Rattle.sd_journal.proofs.cells.Cells.own.Goals as goal

pub returns : goal.returns
returns c =
    let whole = c.self.inside.whole.items in
    let key = c.args.key in
    let full = c.self.inside.full.items in
    let cells = c.self.inside.cells.items in
    let i = c.loop-chunk.chunk-index in
    let same = ap length c.deref-chunk-items.ensures.value in
    let test = c.loop-chunk-test.false in
    let over : length full ≤ i = omega (arith, same, test) in
    let before : walk_of c.loop-chunk.walked ≡ fold (walk_step whole key) unwalked (flat_map vec_items full) =
    c.loop-chunk.invariant ∙ ap (λ l. fold (walk_step whole key) unwalked (flat_map vec_items l)) (take_all i full over) in
    ap (λ w. w.own)
    (c.in_ok-walk-2.ensures ∙ ap₂ (λ w l. fold (walk_step w key) (walk_of c.loop-chunk.walked) l) c.deref-2.ensures.value c.deref-3.ensures.value
    ∙ ap (λ w. fold (walk_step whole key) w cells) before ∙ sym (fold-append (walk_step whole key) unwalked (flat_map vec_items full) cells))
    ∙ walked_own whole key (flat_map vec_items full ++ cells) ∙ ap (λ v. own_of key v.noted) c.self.view_is
