use Rattle.std.proofs.Common.{◌≡◌, ℕ, List, length}
use Rattle.sd_base.specs.Record.{Record}
use Rattle.sd_unpack.specs.Unpacking.{Unpacks}
use Rattle.sd_salvage.proofs.salvager.let_go.Given as goal

abbrev pub invariant-loop-rec : goal.invariant-loop-rec
invariant-loop-rec l = record {
  damage : l.unpacker.damage ≡ l.initial.unpacker.damage;
  unpacks : (bodies : List (List ℕ)) (taken : List Record) → Unpacks bodies taken l.initial.unpacker → (more : List Record) × Unpacks bodies more l.unpacker;
}

abbrev pub decreases-loop-rec : goal.decreases-loop-rec
decreases-loop-rec l = length l.unpacker.ready
