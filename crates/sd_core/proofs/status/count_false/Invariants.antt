use Rattle.std.proofs.Common.{◌≡◌, ◌≤◌, not, take}
use Rattle.std.specs.List.{count_by}
use Rattle.sd_core.proofs.status.count_false.Given as goal

-- those that are false so far
abbrev pub invariant-loop-answer : goal.invariant-loop-answer
invariant-loop-answer l = record {
  counted : l.count ≡ count_by not (take l.answer-index l.answers);
  few : l.count ≤ l.answer-index;
}
