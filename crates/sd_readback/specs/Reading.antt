-- What spans read to.
use Rattle.std.specs.Prelude.{◌≡◌, ◌≢◌, ℕ, ◌+◌, ◌<◌, Bool, if◌then◌else◌, Option, Some, None, List, [], ◌∷◌, ◌++◌, length, take, All}
use Rattle.std.specs.List.{flat_map, AllZip}
use Rattle.sd_base.specs.Key.{is_key}
use Rattle.sd_base.specs.Record.{Record}
use Rattle.sd_base.specs.declared.number.SessionKey.{SessionKey}
use Rattle.sd_driver.specs.Shelf.{Shelf, Held, BeginsWith}
use Rattle.sd_label.specs.Cutting.{WholeOf}
use Rattle.sd_span.specs.declared.span.Span.{Span}
use Rattle.sd_volume.specs.Image.{Block, images, AreImages}

-- The volumes by their names: which bytes each one has, if there is one.
abbrev pub Volumes : Type 0
Volumes = List ℕ → Option (List ℕ)

-- the bytes of a volume, if there is one
abbrev pub bytes_of : Option Held → Option (List ℕ)
bytes_of None = None
bytes_of (Some held) = Some held.bytes

-- the volumes on the shelf of a device
abbrev pub volumes_on : Shelf → Volumes
volumes_on shelf name = bytes_of (shelf.volume name)

-- the bodies of one session among blocks, in order
abbrev pub blocks_of : SessionKey → List Block → List (List ℕ)
blocks_of key [] = []
blocks_of key (b ∷ bs) = if is_key key b.key then b.body ∷ blocks_of key bs else blocks_of key bs

-- each span begins below its end, and their numbers are `index` and on
abbrev pub AreNumbered : ℕ → List Span → Type 0
AreNumbered index [] = Unit {0}
AreNumbered index (s ∷ ss) = (s.vol_index ≡ index) × (s.start < s.end) × AreNumbered (index + 1) ss

-- these are the bytes from the start of the span to its end
pub record IsPartOf (bytes : List ℕ) (s : Span) (part : List ℕ) : Type 0 where
  pub front : List ℕ
  pub back : List ℕ
  pub bytes_are : bytes ≡ front ++ (part ++ back)
  pub start_is : length front ≡ s.start
  pub end_is : s.start + length part ≡ s.end

-- from the start of the span to its end lie the images of these blocks, without a gap, their numbers rising by one
pub record SpanHolds (volumes : Volumes) (s : Span) (blocks : List Block) : Type 0 where
  pub bytes : List ℕ
  pub number : ℕ
  pub there : volumes s.volume ≡ Some bytes
  pub part_is : IsPartOf bytes s (images number blocks)
  pub blocks_are : AreImages number blocks

-- each span holds its own
abbrev pub AllHold : Volumes → List Span → List (List Block) → Type 0
AllHold volumes spans blocks = AllZip (SpanHolds volumes) spans blocks

-- The spans read to these records of the session: their numbers are 1, 2 and on; from the start to the end
-- of each lie whole blocks; those of the session, in the order of the spans, begin a cutting with its
-- start label, and the records are those that they hold whole. `ended` says that the end label is there.
pub record Reads (volumes : Volumes) (key : SessionKey) (spans : List Span) (records : List Record) (ended : Bool) : Type 0 where
  pub some_span : spans ≢ []
  pub numbered : AreNumbered 1 spans
  pub blocks : List (List Block)
  pub hold : AllHold volumes spans blocks
  pub some_block : blocks_of key (flat_map (λ bs. bs) blocks) ≢ []
  pub whole : WholeOf (blocks_of key (flat_map (λ bs. bs) blocks)) records ended

-- each span's volume still begins with the bytes that it had up to the span's end, whatever comes after them
abbrev pub KeepSpans : List Span → Volumes → Volumes → Type 0
KeepSpans spans old new =
    All (λ s. (bytes : List ℕ) → old s.volume ≡ Some bytes
    → (after : List ℕ) × (new s.volume ≡ Some after) × BeginsWith after (take s.end bytes)) spans

-- Laws.

-- spans read to one list of records, and in one way
abbrev pub ReadsToOneList : Type 0
ReadsToOneList = (volumes : Volumes) (key : SessionKey) (spans : List Span) (records others : List Record) (ended ended' : Bool)
    → Reads volumes key spans records ended → Reads volumes key spans others ended' → (records ≡ others) × (ended ≡ ended')

-- spans that read to a list read to it as long as their bytes stay, whatever else comes to the volumes
abbrev pub KeptSpansRead : Type 0
KeptSpansRead =
    (old new : Volumes) (key : SessionKey) (spans : List Span) (records : List Record) (ended : Bool)
    → KeepSpans spans old new
    → Reads old key spans records ended
    → Reads new key spans records ended
