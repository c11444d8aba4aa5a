-- The limits and the defaults of a configuration that are no limits of the formats.
use Rattle.std.specs.Prelude.{ℕ, List, codes}

-- the block limit if none is given
abbrev pub default_block : ℕ
default_block = 64512

-- how many blocks wait before a drive if none are given
abbrev pub default_queue : ℕ
default_queue = 8

-- the greatest port
abbrev pub most_port : ℕ
most_port = 65535

-- the port if none is given
abbrev pub default_port : ℕ
default_port = 9103

-- the host if none is given
abbrev pub default_host : List ℕ
default_host = codes "localhost"

-- the lanes of a drive if none are given
abbrev pub default_lanes : ℕ
default_lanes = 4
