-- What a port was asked, as exchanges.
use Rattle.std.specs.Prelude.{List, map}
use Rattle.sd_append.specs.Port.{Exchange, Stepped, WasRead, Said}
use Rattle.sd_append.specs.declared.exchanges.Seen.{Seen}
use Rattle.sd_append.specs.declared.exchanges.Seen.TheVariants as seen

-- the exchange that was seen
abbrev pub exchange_of : Seen → Exchange
exchange_of (seen.Stepped event reply) = Stepped event.value reply.value
exchange_of (seen.WasRead key spans records answer) = WasRead key spans records answer.value
exchange_of (seen.Said moment line answer) = Said moment line answer.value

-- all exchanges that were seen
abbrev pub asked_of : List Seen → List Exchange
asked_of = map exchange_of
