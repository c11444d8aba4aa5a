-- What a drive is to its callers: its device, its volumes, the piece in its hand, its journal.
use Rattle.std.specs.Prelude.{ℕ, ◌+◌, List, ◌++◌, length, map, Option, slice_get}
use Rattle.std.specs.Option.{option_to_list, option_and_then}
use Rattle.sd_base.specs.Limits.{block_header}
use Rattle.sd_base.specs.declared.number.SessionKey.{SessionKey}
use Rattle.sd_journal.specs.Journal.{Entry, Item, items_of, placements}
use Rattle.sd_lane.specs.declared.piece.Piece.{Piece}
use Rattle.sd_volume.specs.Image.{Block}
use Rattle.sd_volume.specs.Volume.{VolumeView}
use Rattle.sd_drive.specs.declared.limits.Limits.{Limits}

-- all that clauses say of a drive
pub record DriveIs (D : Type 0) : Type 0 where
  pub device : D
  pub media : List ℕ
  pub limits : Limits
  -- in the order in which they were labelled or adopted
  pub volumes : List VolumeView
  -- which of them is loaded, by its place among them
  pub loaded : Option ℕ
  -- the pool of the session that it served last
  pub pool : Option (List ℕ)
  pub hand : Option Piece
  pub journal : List Entry
  -- the sessions for whose next placement its journal has room
  pub ready : List SessionKey

-- the names of volumes, in order
abbrev pub names : List VolumeView → List (List ℕ)
names volumes = map (λ v. v.name) volumes

-- the name of the loaded volume
abbrev pub name_loaded : List VolumeView → Option ℕ → Option (List ℕ)
name_loaded volumes loaded = option_and_then (λ at. slice_get (names volumes) at) loaded

-- the length of a piece's block
abbrev pub block_length : Piece → ℕ
block_length piece = block_header + length piece.body.bytes

-- what a placement has of this piece
abbrev pub item_of_piece : Piece → Item
item_of_piece piece = record {
  key = piece.key;
  first = piece.body.first;
  last = piece.body.last;
  length = block_length piece;
}

-- the block that a piece becomes
abbrev pub block_of_piece : Piece → Block
block_of_piece piece = record { key = piece.key; body = piece.body.bytes }

-- what the journal's placements and then the hand have of their pieces, in the order of the pieces given
abbrev pub items : List Entry → Option Piece → List Item
items journal hand = items_of (placements journal) ++ map item_of_piece (option_to_list hand)
