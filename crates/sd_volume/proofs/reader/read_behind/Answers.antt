use Rattle.std.proofs.Common.{◌≡◌, ◌-◌, length, take, drop, arith}
use Rattle.std.proofs.lemmas.List.{length-take, length-drop}
use Rattle.std.proofs.lemmas.Result.{IfOk-weaker}
use Rattle.sd_volume.proofs.ReaderLemmas.{read_there}
use Rattle.sd_volume.proofs.reader.read_behind.Goals as goal

pub returns-clause-bytes : goal.returns-clause-bytes
returns-clause-bytes g c = λ honest volume there begins.
    let buffer = c.args.buffer.now in
    let room : length (take (length buffer - c.args.held) (drop c.args.held buffer)) ≡ length buffer - c.args.held = omega (arith, length-take (length buffer - c.args.held) (drop c.args.held buffer), length-drop c.args.held buffer) in
    IfOk-weaker c.read_at.result _ _
    (λ count tells. read_there c.args.name.now _ volume buffer c.read_at.new.into _ c.args.at c.args.held _ count there c.requires.held room c.read_at.auto.into begins tells)
    (c.read_at.ensures.ok honest)
