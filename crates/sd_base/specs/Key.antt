-- The key of a session: the time of its run, and its number in it.
use Rattle.std.specs.Prelude.{◌==◌, ◌&&◌, Bool}
use Rattle.sd_base.specs.declared.number.SessionKey.{SessionKey}

-- the two keys are one
abbrev pub is_key : SessionKey → SessionKey → Bool
is_key a b = (a.time == b.time) && (a.id == b.id)
