use Rattle.std.proofs.Common.{◌≡◌, ◌≤◌, length, map, take}
use Rattle.std.specs.Vec.{vec_capacity}
use Rattle.sd_line.specs.Side.{LineIs}
use Rattle.sd_jobs.proofs.jobs.places_of.Given as goal

-- the places of the lines so far
abbrev pub invariant-loop-line : goal.invariant-loop-line
invariant-loop-line g l = record {
  places : l.places.items ≡ map (λ (line : LineIs). line.no) (take l.line-index l.lines);
  room : length l.lines ≤ vec_capacity l.places;
}
