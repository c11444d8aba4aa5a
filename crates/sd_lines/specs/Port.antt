-- What contracts see of the port of a talk, and what it keeps.
use Rattle.std.specs.Prelude.{◌≡◌, ℤ, List, [], ◌∷◌, ◌++◌, Option, None}
use Rattle.sd_append.specs.Port.{Exchange}
use Rattle.sd_line.specs.Parts.{PartIs}
use Rattle.sd_line.specs.Side.{ToldTokenIs}
use Rattle.sd_lines.specs.Held.{told_in}
use Rattle.sd_lines.specs.Taken.{taken_last}

-- A port: the part of the session that its talk opened last, if it opened one; the devices by which it reads sessions back; the
-- moment of what happens now; what it was asked, with the answers; and what shows that the session closed last was told closed.
pub record LinePortIs (D : Type 0) : Type 0 where
  pub last : Option PartIs
  pub readers : List D
  pub moment : ℤ
  pub asked : List Exchange
  pub told : Option (ToldTokenIs D)

-- a port that was asked nothing yet
abbrev pub new_port : {D : Type 0} → List D → ℤ → LinePortIs D
new_port readers moment = record { last = None; readers = readers; moment = moment; asked = []; told = None }

-- the port after one exchange more, with the part as it is then
abbrev pub behind : {D : Type 0} → Exchange → Option PartIs → LinePortIs D → LinePortIs D
behind exchange last p = record p { last = last; asked = p.asked ++ exchange ∷ [] }

-- What a port keeps: of the session that its talk opened last, the records that it answered to be taken, in order, are
-- those that the session's part was told.
abbrev pub KeepsPort : {D : Type 0} → LinePortIs D → Type 0
KeepsPort p = told_in p.last ≡ taken_last p.asked
