-- Talks, one after the other.
use Rattle.std.proofs.Common.{◌≡◌, ℕ, suc, List, Option, None, Some, refl, subst}
use Rattle.std.specs.Prelude.{ℤ, Result}
use Rattle.std.specs.Io.KnownBytes.{Keeps}
use Rattle.std.specs.declared.alloc.AllocError.{AllocError}
use Rattle.sd_append.specs.Port.{Exchange}
use Rattle.sd_append.specs.Talks.{Talks}
use Rattle.sd_append.specs.declared.end.TalkEnd.{TalkEnd}
use Rattle.sd_plain.specs.Talks.{HeldTalks}

-- what isn't read stays
pub keeps_same : (left : Option (List ℕ)) → Keeps left left
keeps_same None = tt
keeps_same (Some xs) = refl

-- one talk more, at the moment of those before it
pub held_more : (moment : ℤ) (first left remains : Option (List ℕ)) (before after : List Exchange) (count : ℕ)
    {now : ℤ} {begins held holds : Option (List ℕ)} {asked : List Exchange} {end : Result TalkEnd AllocError} {bytes : List ℕ}
    → now ≡ moment → HeldTalks moment count first left before asked → Keeps left begins → Talks now begins remains asked after held holds end bytes
    → HeldTalks moment (suc count) first remains before after
held_more moment first left remains before after count {begins = begins} {held = held} {holds = holds} {asked = asked} {end = end} {bytes = bytes} is talks kept talk = (
  left,
  asked,
  talks,
  record {
    begins = begins;
    held = held;
    holds = holds;
    end = end;
    bytes = bytes;
    kept = kept;
    talks = subst (λ m. Talks m begins remains asked after held holds end bytes) is talk;
  },
)
