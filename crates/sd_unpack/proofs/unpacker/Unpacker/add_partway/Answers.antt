use Rattle.std.proofs.Common.{◌≡◌, ◌≢◌, ◌+◌, ◌<◌, ◌≤◌, inl, inr, [], ◌∷◌, ◌++◌, ap, sym, subst, ◌∙◌, rules, arith, length, drop}
use Rattle.std.specs.Prelude.{Err}
use Rattle.std.proofs.lemmas.List.{nil_from_length}
use Rattle.sd_record.specs.Fragment.{StandsAt}
use Rattle.sd_unpack.specs.declared.damage.AddFault.TheVariants.{Damaged}
use Rattle.sd_unpack.specs.declared.damage.Damage.TheVariants.{BadContinuation}
use Rattle.sd_unpack.specs.declared.batch.Batch.{Batch}
use Rattle.sd_unpack.specs.Stage.{due_record}
use Rattle.sd_unpack.specs.Unpacking.{Unpacks}
use Rattle.sd_unpack.specs.Damage.{Continues, CantStand}
use Rattle.sd_unpack.proofs.UnpackerLemmas.{empty_damaged, first_damaged, keeps_part, finish_damaged, finishes, kept}
use Rattle.sd_unpack.proofs.BatchLemmas.{AddsRecord, stands_first, stands_some, damaged_by, damaged_too}
use Rattle.sd_unpack.proofs.unpacker.Unpacker.add_partway.Goals as goal

pub returns-in_err-fragment-clause-why : goal.returns-in_err-fragment-clause-why
returns-in_err-fragment-clause-why c =
    let answer : c.from_residual.result ≡ Err (Damaged c.in_err-fragment.field-0.0) = search rules in
    let why = c.in_err-fragment.ensures.err in
    let below : 0 < length c.args.body.now = search rules in
    let some : c.args.body.now ≢ [] = (λ none. let zero : length c.args.body.now ≡ 0 = ap length none in absurd (omega arith)) in
    damaged_by c.from_residual.result c.in_err-fragment.field-0.0 _ answer (λ bodies taken u. first_damaged bodies taken c.args.self.now c.args.body.now _ u some (inl why))

pub returns-in_default-clause-why : goal.returns-in_default-clause-why
returns-in_default-clause-why c =
    let none : length c.args.body.now ≤ 0 = search rules in
    λ bodies taken u. empty_damaged bodies taken c.args.self.now c.args.body.now u (nil_from_length c.args.body.now (omega arith))

pub returns-then-not-continues-clause-why : goal.returns-then-not-continues-clause-why
returns-then-not-continues-clause-why c =
    let found : StandsAt c.args.body.now 0 c.in-Some.fragment c.in-Some.next = search rules in
    let other : Continues c.args.due c.in-Some.fragment → ⊥ = search rules in
    λ bodies taken u. first_damaged bodies taken c.args.self.now c.args.body.now BadContinuation u (stands_some c.args.body.now 0 c.in-Some.next c.in-Some.fragment found)
    (subst (λ stage. CantStand BadContinuation stage (taken ++ c.args.self.now.ready) c.args.body.now) (sym c.requires)
    (inr (c.in-Some.fragment, drop c.in-Some.next c.args.body.now, stands_first c.args.body.now 0 c.in-Some.next c.in-Some.fragment found, other)))

pub returns-then-part-due-clause-unpacks : goal.returns-then-part-due-clause-unpacks
returns-then-part-due-clause-unpacks c =
    let f = c.in-Some.fragment in
    let found : StandsAt c.args.body.now 0 f c.in-Some.next = search rules in
    let goes : Continues c.args.due f = search rules in
    let part : c.fragment.inside.part.now ≡ f.part = ap (λ g. g.part) c.fragment.view_is in
    let same : length c.fragment.inside.part.now ≡ length f.part = ap length part in
    let short : length f.part < c.args.due.left = omega arith in
    let stage = ap (λ v. v.stage) c.self.view_is ∙ c.requires in
    λ bodies taken u. rw (c.after.ensures, c.in_ok-extend_from_slice.ensures.items, part)
    (keeps_part bodies taken _ c.args.body.now c.args.due c.in-Some.next f (subst (Unpacks bodies taken) (sym c.self.view_is) u) stage
    (stands_some c.args.body.now 0 c.in-Some.next f found) found goes short)

pub returns-in_err-batch-clause-why : goal.returns-in_err-batch-clause-why
returns-in_err-batch-clause-why c =
    let f = c.in-Some.fragment in
    let found : StandsAt c.args.body.now 0 f c.in-Some.next = search rules in
    let goes : Continues c.args.due f = search rules in
    let part : c.fragment.inside.part.now ≡ f.part = ap (λ g. g.part) c.fragment.view_is in
    let same : length c.fragment.inside.part.now ≡ length f.part = ap length part in
    let whole : length f.part ≡ c.args.due.left = let size = goes.size_is in let within = found.fragment.part_within in let long = c.if-part-due.false in omega arith in
    let stage = ap (λ v. v.stage) c.self.view_is ∙ c.requires in
    let size : c.len.result + length c.fragment.inside.part.now ≡ length c.self.inside.so_far.items + length f.part = let long : c.len.result ≡ length c.self.inside.so_far.items = search rules in omega arith in
    let answer : c.from_residual-in_err-batch.result ≡ Err c.in_err-batch.field-0.0 = search rules in
    damaged_too (Unit {0}) Batch c.from_residual-in_err-batch.result c.in_err-batch.field-0.0 _ _ answer
    (λ damage why bodies taken u. finish_damaged bodies taken _ c.args.body.now c.args.due c.in-Some.next f c.totals_with-totals.result _ damage
    (subst (Unpacks bodies taken) (sym c.self.view_is) u) stage found goes whole c.totals_with-totals.ensures size why)
    c.in_err-batch.ensures.damaged

pub returns-clause-unpacks : goal.returns-clause-unpacks
returns-clause-unpacks c =
    let f = c.in-Some.fragment in
    let found : StandsAt c.args.body.now 0 f c.in-Some.next = search rules in
    let goes : Continues c.args.due f = search rules in
    let part : c.fragment.inside.part.now ≡ f.part = ap (λ g. g.part) c.fragment.view_is in
    let same : length c.fragment.inside.part.now ≡ length f.part = ap length part in
    let whole : length f.part ≡ c.args.due.left = let size = goes.size_is in let within = found.fragment.part_within in let long = c.if-part-due.false in omega arith in
    let finish = c.in_ok-finish.ensures.ok in
    let long : c.len.result ≡ length c.self.inside.so_far.items = search rules in
    let before : length c.self.inside.so_far.items ≡ length c.args.self.now.so_far = ap (λ v. length v.so_far) c.self.view_is in
    let adds = subst (λ v. AddsRecord v.totals c.totals_with-totals.result (c.len.result + length c.fragment.inside.part.now)) c.self.view_is c.totals_with-totals.ensures in
    λ bodies taken u. subst (Unpacks (bodies ++ c.args.body.now ∷ []) taken) (sym finish)
    (subst (λ p. Unpacks (bodies ++ c.args.body.now ∷ []) taken (kept c.args.self.now (c.args.self.now.ready ++ due_record c.args.due (c.args.self.now.so_far ++ p) ∷ []) c.in_ok-batch.batch)) (sym part)
    (finishes bodies taken c.args.self.now c.args.body.now c.args.due c.in-Some.next f c.totals_with-totals.result (c.len.result + length c.fragment.inside.part.now) c.in_ok-batch.batch u c.requires
    (stands_some c.args.body.now 0 c.in-Some.next f found) found goes whole adds (omega arith) c.in_ok-batch.ensures.brings))
