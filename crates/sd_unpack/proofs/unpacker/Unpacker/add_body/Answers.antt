use Rattle.std.proofs.Common.{◌≡◌, ◌≢◌, List, [], sym, subst, rules, length}
use Rattle.std.specs.Prelude.{Err}
use Rattle.std.proofs.lemmas.List.{nil_from_length}
use Rattle.sd_base.specs.Record.{Record}
use Rattle.sd_record.specs.Fragment.{Fragment}
use Rattle.sd_unpack.specs.declared.batch.Batch.{Batch}
use Rattle.sd_unpack.specs.Stage.{IsAtRest, Reaches, AreTotalsOf}
use Rattle.sd_unpack.specs.Unpacking.{Unpacking, Unpacks}
use Rattle.sd_unpack.specs.Batch.{Brings}
use Rattle.sd_unpack.proofs.UnpackerLemmas.{empty_damaged, read_damaged, keeps}
use Rattle.sd_unpack.proofs.BatchLemmas.{damaged_too}
use Rattle.sd_unpack.proofs.unpacker.Unpacker.add_body.Goals as goal

pub returns-then-is_empty-clause-why : goal.returns-then-is_empty-clause-why
returns-then-is_empty-clause-why c =
    let zero : length c.args.body.now ≡ 0 = search rules in
    λ bodies taken u. empty_damaged bodies taken c.args.self.now c.args.body.now u (nil_from_length c.args.body.now zero)

pub returns-in_err-batch-clause-why : goal.returns-in_err-batch-clause-why
returns-in_err-batch-clause-why c =
    let rest : IsAtRest c.self.inside.stage = search rules in
    let answer : c.from_residual.result ≡ Err c.in_err-batch.field-0.0 = search rules in
    damaged_too (Unit {0}) Batch c.from_residual.result c.in_err-batch.field-0.0 _ _ answer
    (λ damage why bodies taken u. read_damaged bodies taken _ c.args.body.now damage (subst (Unpacks bodies taken) (sym c.self.view_is) u) rest why)
    c.in_err-batch.ensures.damaged

pub returns-clause-unpacks : goal.returns-clause-unpacks
returns-clause-unpacks c =
    let some : c.args.body.now ≢ [] = search rules in
    let rest : IsAtRest c.args.self.now.stage = search rules in
    let B : Unpacking → Type 0 = (λ v. (fs : List Fragment) (records : List Record) → Reaches v.stage fs records [] → AreTotalsOf v.totals records
    → Brings fs records c.args.body.now [] c.in_ok-batch.batch) in
    let brings = subst B c.self.view_is c.in_ok-batch.ensures.brings in
    λ bodies taken u. subst (Unpacks _ taken) (sym c.in_ok-keep.ensures.ok) (keeps bodies taken c.args.self.now c.args.body.now c.in_ok-batch.batch u rest some brings)
