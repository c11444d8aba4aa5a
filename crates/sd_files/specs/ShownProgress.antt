-- When a reading is told of.
use Rattle.std.specs.Prelude.{ℕ, ◌*◌, ◌-◌, ◌/◌, ◌^◌, min, max, Bool, nat_lt}
use Rattle.sd_files.specs.declared.watched.ShownProgress.{ShownProgress}
use Rattle.sd_files.specs.declared.watched.ShownProgress.TheVariants.{Silent, Told, Of}

-- how many bytes are read from one line to the next: 256 MB
abbrev pub step : ℕ
step = 256000000

-- between these counts of bytes lies a multiple of that, or it is the second count itself
abbrev pub is_due : ℕ → ℕ → Bool
is_due before after = nat_lt (before / step) (after / step)

-- how a reading of so many bytes is told of, if it is told of at all
abbrev pub of_total : ShownProgress → ℕ → ShownProgress
of_total Silent total = Silent
of_total Told total = Of total
of_total (Of other) total = Of total

-- how many bytes a second these are, in so many milliseconds, as far as 64 bits say it
abbrev pub rate_of : ℕ → ℕ → ℕ
rate_of bytes millis = min (bytes / max millis 1 * 1000) (2 ^ 64 - 1)

-- how many seconds so many bytes take at that rate
abbrev pub seconds_left : ℕ → ℕ → ℕ
seconds_left bytes rate = bytes / max rate 1
