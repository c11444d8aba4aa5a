-- One talk after another, over what a reader has and a port.
use Rattle.std.specs.Prelude.{◌≡◌, ℕ, ℤ, zero, suc, List, Option, Result}
use Rattle.std.specs.Io.KnownBytes.{Keeps}
use Rattle.std.specs.declared.alloc.AllocError.{AllocError}
use Rattle.sd_append.specs.Port.{Exchange}
use Rattle.sd_append.specs.Talks.{Talks}
use Rattle.sd_append.specs.declared.end.TalkEnd.{TalkEnd}

-- A talk was held, at this moment, of what the reader has left: what it took of that, and what the port was asked, are a
-- conversation's. What was written isn't known here.
pub record HoldsTalk (moment : ℤ) (left remains : Option (List ℕ)) (before after : List Exchange) : Type 0 where
  pub begins : Option (List ℕ)
  pub held : Option (List ℕ)
  pub holds : Option (List ℕ)
  pub end : Result TalkEnd AllocError
  pub bytes : List ℕ
  pub kept : Keeps left begins
  pub talks : Talks moment begins remains before after held holds end bytes

-- So many talks were held, all at one moment: each began with what the one before it had left, and the port was asked
-- nothing else.
abbrev pub HeldTalks : ℤ → ℕ → Option (List ℕ) → Option (List ℕ) → List Exchange → List Exchange → Type 0
HeldTalks moment zero left remains before after = (remains ≡ left) × (after ≡ before)
HeldTalks moment (suc n) left remains before after =
    (between : Option (List ℕ)) × (asked : List Exchange) × HeldTalks moment n left between before asked × HoldsTalk moment between remains asked after
