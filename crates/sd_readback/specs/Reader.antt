-- What a reader has made of the blocks that it was given.
use Rattle.std.specs.Prelude.{◌≡◌, ◌≢◌, ◌↔◌, ◌⊎◌, ℕ, None, Some, IsTrue, List, [], ◌∷◌, ◌++◌, length}
use Rattle.sd_base.specs.Record.{Record}
use Rattle.sd_base.specs.declared.number.SessionKey.{SessionKey}
use Rattle.sd_label.specs.Cutting.{total_bytes}
use Rattle.sd_unpack.specs.Unpacking.{Unpacks}
use Rattle.sd_readback.specs.declared.reader.Reader.{Reader}
use Rattle.sd_volume.specs.Image.{Block, images, AreImages}
use Rattle.sd_span.specs.declared.span.Span.{Span}
use Rattle.sd_readback.specs.Reading.{Volumes, blocks_of, IsPartOf}
use Rattle.sd_readback.specs.Faults.{AreCountable}
use Rattle.sd_readback.specs.HandsOver.{AreHeldFirst}

-- the reader was given these blocks, and handed over all records that those of its session hold whole
pub record HasRead (key : SessionKey) (blocks : List Block) (taken : List Record) (reader : Reader) : Type 0 where
  pub key_is : reader.key ≡ key
  pub unpacks : Unpacks (blocks_of key blocks) taken reader.unpacker
  pub none_waits : reader.unpacker.ready ≡ []
  pub undamaged : reader.unpacker.damage ≡ None
  pub records_are : reader.records ≡ length taken
  pub bytes_are : reader.bytes ≡ total_bytes taken
  pub countable : AreCountable taken
  pub found_is : IsTrue reader.found ↔ (blocks_of key blocks ≢ [])

-- the reader was given these blocks more, and handed over what they make whole
pub record ReadsOn (old new : Reader) (got got' : List Record) (blocks : List Block) : Type 0 where
  pub more : List Record
  pub got_is : got' ≡ got ++ more
  pub goes_on : (key : SessionKey) (before : List Block) (taken : List Record)
      → HasRead key before taken old → HasRead key (before ++ blocks) (taken ++ more) new

-- What a sink got of the reader before a fault.

-- no record, or with those before the first of what the session's bodies hold whole, up to this block
pub record HandsOverInBlock (reader : Reader) (got got' : List Record) (block : Block) : Type 0 where
  pub more : List Record
  pub got_is : got' ≡ got ++ more
  pub first : (more ≡ []) ⊎ ((key : SessionKey) (before : List Block) (taken : List Record)
      → HasRead key before taken reader → AreHeldFirst (blocks_of key (before ++ block ∷ [])) (taken ++ more))

-- with those before, the first of what the session's bodies hold whole, up to a block of the part
pub record HandsOverInPart (reader : Reader) (got got' : List Record) (part : List ℕ) : Type 0 where
  pub done : List Block
  pub number : ℕ
  pub rest : List ℕ
  pub part_is : part ≡ images number done ++ rest
  pub done_are : AreImages number done
  pub more : List Record
  pub got_is : got' ≡ got ++ more
  pub first : (key : SessionKey) (before : List Block) (taken : List Record)
      → HasRead key before taken reader → AreHeldFirst (blocks_of key (before ++ done)) (taken ++ more)

-- none, or the first records of the bytes that the span names
abbrev pub HandsOverInSpan : Volumes → Span → Reader → List Record → List Record → Type 0
HandsOverInSpan volumes s reader got got' =
    (got' ≡ got)
    ⊎ ((bytes : List ℕ) × (part : List ℕ) × (volumes s.volume ≡ Some bytes) × IsPartOf bytes s part
    × HandsOverInPart reader got got' part)
