use Rattle.std.proofs.Common.{◌≡◌, ◌∙◌, ◌-◌, ◌++◌, ◌∷◌, [], append_assoc, length, ap, ap₂, sym, arith}
use Rattle.std.specs.List.{flat_map}
use Rattle.std.specs.Vec.{vec_items}
use Rattle.std.proofs.lemmas.List.{length_push}
use Rattle.sd_journal.specs.Noted.{last_index}
use Rattle.sd_journal.specs.Cells.{tail_of, told, told_by}
use Rattle.sd_journal.proofs.CellLemmas.{told_with, there_with, tail_more, cells_view}
use Rattle.sd_journal.proofs.cells.Cells.push.Goals as goal

pub invariant_of-self : goal.invariant_of-self
invariant_of-self c =
    let whole = c.self.inside.whole.items in
    let whole' = c.cell_of-cell.new.whole.items in
    let front = flat_map vec_items c.self.inside.full.items in
    let cells = front ++ c.self.inside.cells.items in
    let cell = c.cell_of-cell.result in
    let noted = c.args.noted in
    let pushed : front ++ c.push_reserved.new.self.items ≡ cells ++ cell ∷ [] = ap (λ l. front ++ l) c.push_reserved.ensures.items ∙ sym (append_assoc front c.self.inside.cells.items (cell ∷ [])) in
    let was = c.requires.was ∙ ap (λ v. last_index noted.key v.noted) (sym c.self.view_is) in
    let is : told_by whole' cell (last_index noted.key (told whole cells)) (tail_of (told whole cells)) ≡ noted =
    ap₂ (told_by whole' cell) (sym was) (sym c.self.invariant.ends) ∙ c.cell_of-cell.ensures.told in
    let more : told whole' (front ++ c.push_reserved.new.self.items) ≡ told whole cells ++ noted ∷ [] =
    ap (told whole') pushed ∙ told_with whole whole' cells noted cell c.self.invariant.there c.cell_of-cell.ensures.whole c.cell_of-cell.ensures.key is in
    let room = c.requires.room in
    let view = ap (λ v. v.room) c.self.view_is in
    let count = c.cell_of-cell.ensures.count in
    let capacity = c.cell_of-cell.ensures.capacity in
    let len = c.push_reserved.ensures.len in
    let kept = c.push_reserved.ensures.capacity in
    let memory = c.self.invariant.memory in
    let memory_whole = c.self.invariant.memory_whole in
    let places = c.self.invariant.places in
    let few = c.self.invariant.few in
    let counted = c.self.invariant.counted in
    let long = ap length more ∙ length_push (told whole cells) noted in
    record {
      there = rw pushed (there_with whole whole' cells noted cell c.self.invariant.there c.cell_of-cell.ensures.whole c.cell_of-cell.ensures.there);
      counted = omega (arith, counted, long);
      few = omega (arith, few, room, view);
      ends = c.behind-self-inside.ensures ∙ sym (ap tail_of more ∙ tail_more (told whole cells) noted);
      memory = omega (arith, memory, len, kept, room, view);
      memory_whole = omega (arith, memory_whole, count, capacity, room, view);
      places = omega (arith, places, count, room, view);
    }

pub returns : goal.returns
returns c =
    let whole = c.self.inside.whole.items in
    let whole' = c.cell_of-cell.new.whole.items in
    let front = flat_map vec_items c.self.inside.full.items in
    let cells = front ++ c.self.inside.cells.items in
    let cell = c.cell_of-cell.result in
    let noted = c.args.noted in
    let pushed : front ++ c.push_reserved.new.self.items ≡ cells ++ cell ∷ [] = ap (λ l. front ++ l) c.push_reserved.ensures.items ∙ sym (append_assoc front c.self.inside.cells.items (cell ∷ [])) in
    let was = c.requires.was ∙ ap (λ v. last_index noted.key v.noted) (sym c.self.view_is) in
    let is : told_by whole' cell (last_index noted.key (told whole cells)) (tail_of (told whole cells)) ≡ noted =
    ap₂ (told_by whole' cell) (sym was) (sym c.self.invariant.ends) ∙ c.cell_of-cell.ensures.told in
    ap₂ cells_view
    (ap (told whole') pushed ∙ told_with whole whole' cells noted cell c.self.invariant.there c.cell_of-cell.ensures.whole c.cell_of-cell.ensures.key is
    ∙ ap (λ v. v.noted ++ noted ∷ []) c.self.view_is)
    (ap (λ v. v.room - 1) c.self.view_is)
