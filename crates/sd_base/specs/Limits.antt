-- The limits of the formats, as numbers of their own: a constant of the code that differs from its
-- limit here breaks the proofs of what it serves.
use Rattle.std.specs.Prelude.{ℕ, ◌≤◌}

-- the most characters of a name
abbrev pub most_name : ℕ
most_name = 127

-- the greatest FileIndex, Stream, JobId, VolSessionId and VolSessionTime
abbrev pub most_number : ℕ
most_number = 2147483647

-- from 1 to the greatest FileIndex, Stream, job, ticket and time
abbrev pub IsNumber : ℕ → Type 0
IsNumber n = (1 ≤ n) × (n ≤ most_number)

-- the most data bytes of a record, and of the payload of a packet
abbrev pub most_data : ℕ
most_data = 4000000

-- the bytes of a block's header
abbrev pub block_header : ℕ
block_header = 24

-- the least bytes of a body, which are those of a record's header
abbrev pub least_body : ℕ
least_body = 12

-- the most bytes of a body
abbrev pub most_body : ℕ
most_body = 1048552

-- the least bytes of a block, its header included
abbrev pub least_block : ℕ
least_block = 36

-- the most bytes of a block, its header included, and the greatest block limit of a daemon
abbrev pub most_block : ℕ
most_block = 1048576

-- the least block limit of a daemon
abbrev pub least_block_limit : ℕ
least_block_limit = 1024

-- the most bytes of a volume, and the greatest volume limit of a daemon
abbrev pub most_volume : ℕ
most_volume = 68719476736

-- the most drives of a daemon, which are numbered from 1
abbrev pub most_drives : ℕ
most_drives = 8

-- the most lanes of a drive, which are numbered from 1
abbrev pub most_lanes : ℕ
most_lanes = 32

-- the most pieces that the queue before a drive has room for
abbrev pub most_queue : ℕ
most_queue = 1024
