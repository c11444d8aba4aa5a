-- What a read handed over before it met a fault.
use Rattle.std.specs.Prelude.{◌≡◌, ◌⊎◌, ℕ, Bool, Some, List, [], ◌∷◌, ◌++◌}
use Rattle.std.specs.List.{flat_map}
use Rattle.sd_base.specs.Record.{Record}
use Rattle.sd_base.specs.declared.number.SessionKey.{SessionKey}
use Rattle.sd_label.specs.Cutting.{Standing, Holds}
use Rattle.sd_span.specs.declared.span.Span.{Span}
use Rattle.sd_volume.specs.Image.{Block, images, AreImages}
use Rattle.sd_readback.specs.Reading.{Volumes, blocks_of, IsPartOf, AllHold, Reads}
use Rattle.sd_readback.specs.Faults.{AreSpans}

-- the sink got the first of these records more
pub record GotFirstOf (records got got' : List Record) : Type 0 where
  pub more : List Record
  pub others : List Record
  pub got_is : got' ≡ got ++ more
  pub records_are : records ≡ more ++ others

-- from the start of the span on lie the images of these blocks, without a gap, their numbers rising by one
pub record SpanBegins (volumes : Volumes) (s : Span) (blocks : List Block) : Type 0 where
  pub bytes : List ℕ
  pub part : List ℕ
  pub number : ℕ
  pub rest : List ℕ
  pub there : volumes s.volume ≡ Some bytes
  pub part_is : IsPartOf bytes s part
  pub begins : part ≡ images number blocks ++ rest
  pub blocks_are : AreImages number blocks

-- the blocks lie in the first of the spans, from its start on, or there are none
abbrev pub NextBegins : Volumes → List Span → List Block → Type 0
NextBegins volumes [] blocks = blocks ≡ []
NextBegins volumes (s ∷ ss) blocks = (blocks ≡ []) ⊎ SpanBegins volumes s blocks

-- the records are none, or the first of those that the bodies hold whole
abbrev pub AreHeldFirst : List (List ℕ) → List Record → Type 0
AreHeldFirst bodies records = (records ≡ []) ⊎ ((others : List Record) × (standing : Standing) × Holds bodies (records ++ others) standing)

-- A sink got some records more before a fault. If the spans themselves are bad, there are none. Else they are the first
-- of those that the session's bodies hold whole among some blocks which come first in the spans: all those of some
-- spans, from the first span on, and then some of the next one, from its start on.
pub record HandsOverFront (volumes : Volumes) (key : SessionKey) (spans : List Span) (got got' : List Record) : Type 0 where
  pub more : List Record
  pub got_is : got' ≡ got ++ more
  pub bad_spans : (AreSpans spans → ⊥) → more ≡ []
  pub before : List Span
  pub after : List Span
  pub spans_are : spans ≡ before ++ after
  pub held : List (List Block)
  pub last : List Block
  pub hold : AllHold volumes before held
  pub begins : NextBegins volumes after last
  pub records_first : AreHeldFirst (blocks_of key (flat_map (λ bs. bs) held ++ last)) more

-- Laws.

-- what a read handed over of spans that read to a list are the first of its records
abbrev pub HandedOverAreFirst : Type 0
HandedOverAreFirst =
    (volumes : Volumes) (key : SessionKey) (spans : List Span) (got got' records : List Record) (ended : Bool)
    → HandsOverFront volumes key spans got got'
    → Reads volumes key spans records ended
    → GotFirstOf records got got'
