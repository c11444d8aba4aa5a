-- What a step of a talk does to the port and to what goes out.
use Rattle.std.specs.Prelude.{◌≡◌, List, ◌++◌}
use Rattle.sd_bnet.specs.Stream.{stream_of}
use Rattle.sd_bnet.specs.declared.packet.Packet.{Packet}
use Rattle.sd_append.specs.Out.{OutView, PutsOut}
use Rattle.sd_append.specs.Port.{Exchange}

-- The port was asked something more, and packets went out, so that the outcome holds of them.
pub record Does (outcome : List Exchange → List Packet → Type 0) (before after : List Exchange) (old new : OutView) : Type 0 where
  pub asked : List Exchange
  pub out : List Packet
  pub outcome_is : outcome asked out
  pub after_is : after ≡ before ++ asked
  pub puts : PutsOut old new (stream_of out)
