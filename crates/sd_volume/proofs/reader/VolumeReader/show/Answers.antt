use Rattle.std.proofs.Common.{◌-◌, List, ℕ, ap, take, arith}
use Rattle.std.proofs.lemmas.List.{length-take}
use Rattle.sd_volume.specs.Reader.{ReaderView}
use Rattle.sd_volume.proofs.ReaderLemmas.{shown_of_held}
use Rattle.sd_volume.proofs.reader.VolumeReader.show.Goals as goal

with_shown : ReaderView → List ℕ → ReaderView
with_shown r bytes = record r { shown = bytes }

pub returns : goal.returns
unfolding with_shown
returns c =
    let r = c.self.inside in
    let within = (rw (← c.self.view_is) at c.requires).within in
    let long = length-take r.held r.buffer.items in
    rw (← c.self.view_is) (ap (with_shown (record { name = r.name; from = r.from; bytes = take r.held r.buffer.items; shown = take r.held r.buffer.items })) (shown_of_held r.buffer.items r.held (c.args.at - r.from) c.args.count c.min-self-inside.result c.min-self-inside.ensures (omega arith)))
