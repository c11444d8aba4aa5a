use Rattle.std.proofs.Common.{◌≡◌, cond, take}
use Rattle.sd_base.specs.declared.number.SessionKey.{SessionKey}
use Rattle.sd_journal.specs.Share.{share_of, lies, with_marks}
use Rattle.sd_journal.proofs.lying.mark_lying.Given as goal

abbrev pub invariant-loop-one : goal.invariant-loop-one
invariant-loop-one l = (key : SessionKey)
    → share_of l.shares key ≡ cond (lies key l.volume (take l.one-index l.all)) (with_marks l.mark l.volume (share_of l.fn.shares key)) (share_of l.fn.shares key)
