-- What a packer holds, and how a session's labels and records lie in bodies of one room.
use Rattle.std.specs.Prelude.{◌≡◌, ◌≢◌, ℕ, List, [], ◌∷◌, ◌++◌, map, None}
use Rattle.std.specs.List.{flat_map}
use Rattle.sd_base.specs.Record.{Record}
use Rattle.sd_record.specs.Fragment.{Fragment, fragments_bytes, Fragments}
use Rattle.sd_label.specs.declared.label.SessionLabel.{SessionLabel}
use Rattle.sd_label.specs.Label.{session_label_bytes}
use Rattle.sd_label.specs.Cutting.{Standing, Between, AtEnd, IsEnd, HoldsBy, AreTight, Holds, HoldsTightly}
use Rattle.sd_pack.specs.Body.{PackedBody, body_of}

-- the most bytes of a body, the closed bodies that wait, and the open body, without bytes if none is open
pub record PackerView : Type 0 where
  pub room : ℕ
  pub waiting : List PackedBody
  pub open_body : PackedBody

-- a body is open
abbrev pub HasOpen : PackerView → Type 0
HasOpen view = view.open_body.bytes ≢ []

-- the body, left out if these bytes are none
abbrev pub unless_empty : List ℕ → PackedBody → List PackedBody
unless_empty [] body = []
unless_empty (byte ∷ bytes) body = body ∷ []

-- the bodies that wait, then the open one
abbrev pub bodies_of : PackerView → List PackedBody
bodies_of view = view.waiting ++ unless_empty view.open_body.bytes view.open_body

-- the bytes of each body
abbrev pub bytes_of : List PackedBody → List (List ℕ)
bytes_of bodies = map (λ body. body.bytes) bodies

-- the bytes of all the bodies, one body after another
abbrev pub all_bytes : List PackedBody → List ℕ
all_bytes bodies = flat_map (λ body. body.bytes) bodies

-- the bodies hold a session so far, tightly in at most `room` bytes each, with the first and last FileIndex in each
pub record Packs (room : ℕ) (bodies : List PackedBody) (records : List Record) (standing : Standing)
    : Type 0 where
  -- the fragments of each body
  pub fragments : List (List Fragment)
  pub holds_by : HoldsBy fragments (bytes_of bodies) records standing
  pub tight : AreTight room fragments
  pub bodies_are : bodies ≡ map body_of fragments

-- a label without totals, put where nothing was, starts the bodies of a session
abbrev pub PacksStart : PackerView → PackerView → SessionLabel → Type 0
PacksStart old new label =
    bodies_of old ≡ [] → label.totals ≡ None → Packs new.room (bodies_of new) [] Between

-- after the bodies that were taken before, the new bodies pack one record more than the old; said if a
-- body is open, so that there is one to go on in
abbrev pub PacksRecord : PackerView → PackerView → Record → Type 0
PacksRecord old new r = (taken : List PackedBody) (records : List Record)
    → Packs old.room (taken ++ bodies_of old) records Between
    → Packs new.room (taken ++ bodies_of new) (records ++ r ∷ []) Between

-- after the bodies that were taken before, the new bodies end with a label that has the totals of all
-- records; said if a body is open
abbrev pub PacksEnd : PackerView → PackerView → SessionLabel → Type 0
PacksEnd old new label = (taken : List PackedBody) (records : List Record) → IsEnd label records
    → Packs old.room (taken ++ bodies_of old) records Between
    → Packs new.room (taken ++ bodies_of new) records AtEnd

-- all bytes stay, and the record's fragments come after them
pub record AddsRecord (old new : PackerView) (r : Record) : Type 0 where
  pub parts : List Fragment
  pub parts_are : Fragments r parts
  pub bytes_are : all_bytes (bodies_of new) ≡ all_bytes (bodies_of old) ++ fragments_bytes parts

-- all bytes stay, and the label's come after them
abbrev pub AddsLabel : PackerView → PackerView → SessionLabel → Type 0
AddsLabel old new label =
    all_bytes (bodies_of new) ≡ all_bytes (bodies_of old) ++ session_label_bytes label

-- Laws.

-- packed bodies hold their session tightly, so they are a cutting of its records
abbrev pub PackedBodiesHold : Type 0
PackedBodiesHold = (room : ℕ) (bodies : List PackedBody) (records : List Record)
    (standing : Standing)
    → Packs room bodies records standing
    → HoldsTightly room (bytes_of bodies) records standing
    × Holds (bytes_of bodies) records standing
