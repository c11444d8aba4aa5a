-- What is salvaged of a session.
use Rattle.std.specs.Prelude.{◌≡◌, ◌⊎◌, ℕ, Bool, true, false, Option, Some, None, List, [], ◌∷◌, ◌++◌}
use Rattle.sd_base.specs.Key.{is_key}
use Rattle.sd_base.specs.Record.{Record}
use Rattle.sd_base.specs.declared.number.SessionKey.{SessionKey}
use Rattle.sd_collect.specs.Collect.{AreTokensOf, GoesOn}
use Rattle.sd_collect.specs.Whole.{AreWholeIn, Gap, Place, Token}
use Rattle.sd_label.specs.Cutting.{Holds, Standing, WholeOf}
use Rattle.sd_readback.specs.Reading.{Volumes}
use Rattle.sd_span.specs.declared.span.Span.{Span}
use Rattle.sd_unpack.specs.Unpacking.{Unpacking, Unpacks}
use Rattle.sd_volume.specs.Image.{Block}
use Rattle.sd_salvage.specs.Readable.{FindsInSpans, Lost, Piece, Read}
use Rattle.sd_salvage.specs.declared.salvager.Salvager.{Salvager}
use Rattle.sd_salvage.specs.declared.session.SalvageEnd.{SalvageEnd}

-- the body can follow the bodies: with it they hold a session so far
abbrev pub Follows : List (List ℕ) → List ℕ → Type 0
Follows bodies body = (records : List Record) × (standing : Standing) × Holds (bodies ++ body ∷ []) records standing

-- The bodies of a session so far, as long as nothing of it was lost and each followed those before it; none after that.
abbrev pub Course : Type 0
Course = Option (List (List ℕ))

-- What is told of a body after a course, and how it goes on: that some may be lost if the body isn't fragments to its end; or,
-- as long as nothing was lost, if it can't follow those before it.
abbrev pub IsTold : Bool → Place → List ℕ → Course → Course → List Place → Type 0
IsTold false at body before after told = (after ≡ None) × (told ≡ at ∷ [])
IsTold true at body None after told = (after ≡ None) × (told ≡ [])
IsTold true at body (Some bodies) after told =
    (Follows bodies body × (after ≡ Some (bodies ++ body ∷ [])) × (told ≡ []))
    ⊎ (¬ Follows bodies body × (after ≡ None) × (told ≡ at ∷ []))

-- a block gives the tokens of its body, if it is the session's; another's gives none
abbrev pub GivesIn : Bool → Place → Block → Course → Course → List Token → List Place → Type 0
GivesIn false at b before after tokens told = (tokens ≡ []) × (after ≡ before) × (told ≡ [])
GivesIn true at b before after tokens told = (sound : Bool) × AreTokensOf b.body sound tokens × IsTold sound at b.body before after told

-- what a piece gives of the session, what is told of it, and how the course goes on
abbrev pub Gives : SessionKey → Piece → Course → Course → List Token → List Place → Type 0
Gives key (Lost at) before after tokens told = (tokens ≡ Gap ∷ []) × (after ≡ None) × (told ≡ at ∷ [])
Gives key (Read at b) before after tokens told = GivesIn (is_key key b.key) at b before after tokens told

-- what pieces give of the session, one after another
abbrev pub GiveAll : SessionKey → List Piece → Course → Course → List Token → List Place → Type 0
GiveAll key [] before after tokens told = (tokens ≡ []) × (after ≡ before) × (told ≡ [])
GiveAll key (p ∷ ps) before after tokens told =
    (between : Course) × (here : List Token) × (others : List Token) × (told_here : List Place) × (told_others : List Place)
    × Gives key p before between here told_here × GiveAll key ps between after others told_others
    × (tokens ≡ here ++ others) × (told ≡ told_here ++ told_others)

-- How a salvage ends: something was lost, or nothing was; then there are bodies of the session, and it is ended if its end
-- label is among them.
abbrev pub IsEndOf : Course → SalvageEnd → Type 0
IsEndOf None end = end.sound ≡ false
IsEndOf (Some bodies) end = (end.sound ≡ true) × ((records : List Record) × WholeOf bodies records end.ended)

-- These records are salvaged of the session, it is told from which places on some may be lost, and it ends so. Each record is
-- whole in the bodies of the session's blocks that can be read, in order, once, and none over a place where some may be lost;
-- and none that is whole is left out.
pub record Salvages (volumes : Volumes) (key : SessionKey) (spans : List Span) (records : List Record) (told : List Place) (end : SalvageEnd) : Type 0 where
  pub pieces : List Piece
  pub tokens : List Token
  pub course : Course
  pub found : FindsInSpans volumes spans pieces
  pub give : GiveAll key pieces (Some []) course tokens told
  pub whole : AreWholeIn tokens records
  pub end_is : IsEndOf course end

-- nothing of the spans was lost, and no block in them is the session's
pub record HasNone (volumes : Volumes) (key : SessionKey) (spans : List Span) : Type 0 where
  pub pieces : List Piece
  pub tokens : List Token
  pub told : List Place
  pub found : FindsInSpans volumes spans pieces
  pub give : GiveAll key pieces (Some []) (Some []) tokens told

-- What a salvager has come to.

-- whether there is a body
abbrev pub some_body : List (List ℕ) → Bool
some_body [] = false
some_body (body ∷ bodies) = true

-- the salvager has come so far
abbrev pub HasCome : Course → Salvager → Type 0
HasCome None s = s.sound ≡ false
HasCome (Some bodies) s =
    (s.sound ≡ true) × (s.found ≡ some_body bodies) × (s.unpacker.damage ≡ None) × ((taken : List Record) × Unpacks bodies taken s.unpacker)

-- an unpacker of these bodies was given one more: it took it, or that can't follow them
abbrev pub Unpacked : List (List ℕ) → List ℕ → Bool → Unpacking → Type 0
Unpacked bodies body true view = (view.damage ≡ None) × ((taken : List Record) × Unpacks (bodies ++ body ∷ []) taken view)
Unpacked bodies body false view = ¬ Follows bodies body

-- it is told that some may be lost there, unless the session goes on
abbrev pub told_unless : Bool → Place → List Place
told_unless true at = []
told_unless false at = at ∷ []

-- from one state of the salvager to another these pieces were taken: what was got, and what was told
pub record Takes (key : SessionKey) (old new : Salvager) (pieces : List Piece) (got got' : List Record) (told told' : List Place) : Type 0 where
  pub tokens : List Token
  pub records : List Record
  pub more : List Place
  pub give : (before : Course) → HasCome before old → (after : Course) × HasCome after new × GiveAll key pieces before after tokens more
  pub got_is : got' ≡ got ++ records
  pub told_is : told' ≡ told ++ more
  pub goes_on : GoesOn old.collector new.collector tokens records
