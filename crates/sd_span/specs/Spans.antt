-- Where the blocks of sessions lie: placements, and the spans of one session.
use Rattle.std.specs.Prelude.{◌≡◌, ℕ, ◌+◌, ◌<◌, ◌^◌, List, [], ◌∷◌, ◌++◌, if◌then◌else◌}
use Rattle.std.specs.Str.{bytes_eq}
use Rattle.sd_base.specs.Key.{is_key}
use Rattle.sd_base.specs.FileIndex.{first_nonzero}
use Rattle.sd_base.specs.declared.number.SessionKey.{SessionKey}
use Rattle.sd_span.specs.declared.span.Span.{Span}
use Rattle.sd_span.specs.declared.placement.Placement.{Placement}

-- where the block ends fits its field
abbrev pub EndFits : Placement → Type 0
EndFits p = p.start + p.length < 2 ^ 64

-- a session's own placements, in order
abbrev pub placements_of : SessionKey → List Placement → List Placement
placements_of key [] = []
placements_of key (p ∷ ps) = if is_key key p.key then p ∷ placements_of key ps else placements_of key ps

-- The stretch of one placement. Its number is 0: stretches are numbered once all of them are there.
abbrev pub stretch_of : Placement → Span
stretch_of p = record { volume = p.volume; vol_index = 0; first = p.first; last = p.last; start = p.start; end = p.start + p.length }

-- a placement in front of stretches: it begins the first of them if that is on its volume, else one of its own
abbrev pub in_front : Placement → List Span → List Span
in_front p [] = stretch_of p ∷ []
in_front p (s ∷ ss) =
    if bytes_eq p.volume s.volume
    then record s { first = first_nonzero p.first s.first; last = first_nonzero s.last p.last; start = p.start } ∷ ss
    else stretch_of p ∷ s ∷ ss

-- The longest stretches of placements that are on one volume one after another, each with its first and last
-- FileIndex that is not 0, 0 and 0 if none. A volume that comes again after another begins a stretch anew.
abbrev pub stretches : List Placement → List Span
stretches [] = []
stretches (p ∷ ps) = in_front p (stretches ps)

-- stretches numbered from `index` on
abbrev pub numbered_from : ℕ → List Span → List Span
numbered_from index [] = []
numbered_from index (s ∷ ss) = record s { vol_index = index } ∷ numbered_from (index + 1) ss

-- the spans of a session: the longest stretches of its own placements on one volume, numbered 1, 2 and on
abbrev pub spans_of : SessionKey → List Placement → List Span
spans_of key ps = numbered_from 1 (stretches (placements_of key ps))

-- a stretch up to the end of one placement more
abbrev pub stretch_with : Span → Placement → Span
stretch_with s p = record s { first = first_nonzero s.first p.first; last = first_nonzero p.last s.last; end = p.start + p.length }

-- stretches with one placement more after them: it ends the last of them if that is on its volume, else it is a
-- stretch of its own
abbrev pub grown : List Span → Placement → List Span
grown [] p = stretch_of p ∷ []
grown (s ∷ []) p = if bytes_eq s.volume p.volume then stretch_with s p ∷ [] else s ∷ stretch_of p ∷ []
grown (s ∷ t ∷ ss) p = s ∷ grown (t ∷ ss) p

-- Laws.

-- stretches that grow by one placement at a time at their end are those of the whole list
abbrev pub StretchesGrow : Type 0
StretchesGrow = (ps : List Placement) (p : Placement) → stretches (ps ++ p ∷ []) ≡ grown (stretches ps) p
