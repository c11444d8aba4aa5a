-- Where a daemon listens.
use Rattle.std.specs.Prelude.{◌≡◌, [], ◌∷◌}
use Rattle.std.specs.Net.Addr.{IsV4And, ipv4_octets}
use Rattle.std.specs.declared.net.ip_addr.IpAddr.{IpAddr}

-- the address is 127.0.0.1, which clients of this machine alone reach
abbrev pub IsLocalhost : IpAddr → Type 0
IsLocalhost ip = IsV4And ip (λ four. ipv4_octets four ≡ 127 ∷ 0 ∷ 0 ∷ 1 ∷ [])
