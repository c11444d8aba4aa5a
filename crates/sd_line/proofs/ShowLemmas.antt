-- That a token shows the close that was told last.
use Rattle.std.proofs.Common.{◌≡◌, ℕ, refl, sym, ap, subst, ◌∙◌, List, [], ◌∷◌, ◌++◌, length, Option, Some, None, Result, slice_get}
use Rattle.std.specs.Prelude.{Ok, Err, IfOk, IfSome}
use Rattle.sd_base.specs.declared.refusal.Refusal.{Refusal}
use Rattle.sd_drive.specs.Receipt.{ReceiptIs}
use Rattle.sd_lane.specs.declared.piece.Piece.{Piece}
use Rattle.sd_ledger.specs.Ledger.{IsAmong}
use Rattle.sd_line.specs.Side.{CloseIs, SideIs, ToldTokenIs}
use Rattle.sd_line.specs.Tells.{IsOfOwn, ShowsClose, tells_close, told_due}

last_there : {E : Type 0} (xs : List E) (x : E) → slice_get (xs ++ x ∷ []) (length xs) ≡ Some x
last_there [] x = refl
last_there (y ∷ ys) x = last_there ys x

-- all that was told at this side is shown
abbrev pub shown_of : {D : Type 0} → SideIs D → ToldTokenIs D
shown_of side = record { no = side.no; shown = record { id = side.book.id; shown = side.book.entries } }

shows_close : {D : Type 0} (side : SideIs D) (sent : List Piece) (r : ReceiptIs) → IsOfOwn r sent → ShowsClose (shown_of (tells_close side sent r)) side.no sent r
shows_close side sent r own = record {
  no_is = refl;
  before = side.told;
  drive = side.drive;
  shown = (length side.book.entries, last_there side.book.entries (side.told ++ record { drive = side.drive; sent = sent; receipt = r } ∷ []));
  own = own;
}

pub shows_due : {D : Type 0} (side new : SideIs D) (token : ToldTokenIs D) (sent : List Piece) (r : ReceiptIs)
    → new ≡ told_due side sent (Ok (Some r)) → IsOfOwn r sent → token ≡ shown_of new → ShowsClose token side.no sent r
shows_due side new token sent r is own shows =
    subst (λ t. ShowsClose t side.no sent r) (sym (shows ∙ ap shown_of is)) (shows_close side sent r own)
