use Rattle.std.proofs.Common.{◌≡◌, ap, ◌∙◌, arith, length, ◌++◌, [], ◌∷◌}
use Rattle.sd_base.specs.Record.{IsRecord}
use Rattle.sd_unpack.specs.Stage.{due_record}
use Rattle.sd_unpack.proofs.StageLemmas.{Starts}
use Rattle.sd_unpack.proofs.BatchLemmas.{stands_whole}
use Rattle.sd_unpack.proofs.batch.Batch.take_record.Goals as goal

pub returns-clause-stands : goal.returns-clause-stands
returns-clause-stands c =
    let f = c.args.fragment.now in
    let due = c.in_ok-due.due in
    let said = c.in_ok-due.ensures in
    let part : c.fragment.inside.part.now ≡ f.part = ap (λ g. g.part) c.fragment.view_is in
    let same : length c.fragment.inside.part.now ≡ length f.part = ap length part in
    let whole : length f.part ≡ due.left = let within = c.requires.fragment.part_within in let size = said.left.0 in let long = c.if-part-due.false in omega arith in
    let starts : Starts due f = record { index_is = said.index.0; stream_is = said.stream.0; size_is = said.left.0 } in
    let is : IsRecord (due_record due f.part) = record {
      index_least = said.index.1;
      index_most = said.index.2;
      stream_least = said.stream.1;
      stream_most = said.stream.2;
      data_most = let most = said.left.1 in omega arith;
    } in
    let items = c.in_ok-push_back.ensures.items ∙ ap (λ l. c.args.self.now.records.items ++ due_record due l ∷ []) (c.in_ok-bytes.ensures ∙ part) in
    λ fs records s. stands_whole fs records c.args.self.now _ due f (length c.fragment.inside.part.now) s c.requires.whole c.requires.whole items c.totals_with-self.ensures same starts whole is
