use Rattle.std.proofs.Common.{◌++◌, ◌∷◌, [], ◌∙◌}
use Rattle.sd_salvage.proofs.salvager.unpack.Goals as goal

pub returns-in-Ok : goal.returns-in-Ok
returns-in-Ok c = λ bodies taken sound u.
    let added = c.in-Ok.ensures.unpacks bodies taken u in
    (c.let_go.ensures.damage ∙ c.in-Ok.ensures.undamaged.1, c.let_go.ensures.unpacks (bodies ++ c.args.body.now ∷ []) taken added)

pub returns-in-Err-Damaged : goal.returns-in-Err-Damaged
returns-in-Err-Damaged c = λ bodies taken sound u follows.
    let never = rw c.in-Err-Damaged.field-0-is at c.in-Err-Damaged.ensures.no_cutting in
    never bodies taken follows.0 follows.1 sound u follows.2
