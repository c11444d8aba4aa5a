-- What was told closed comes back, at every moment under the lock.
use Rattle.std.proofs.Common.{◌≡◌, ℕ, ◌+◌, refl, sym, ap, subst, ◌∙◌, arith, List, [], ◌∷◌, ◌++◌, length, length-append, append-nil, Some, slice_get}
use Rattle.sd_base.specs.declared.number.SessionKey.{SessionKey}
use Rattle.sd_closes.proofs.Pieces.{keyed-append}
use Rattle.sd_closes.proofs.Told.{told_comes_back}
use Rattle.sd_closes.specs.Pieces.{bodies_in, keyed}
use Rattle.sd_closes.specs.Stands.{StandsTold}
use Rattle.sd_hub.proofs.Lines.{all_at}
use Rattle.sd_hub.proofs.Pieces.{bodies_from}
use Rattle.sd_driver.specs.Meaning.{IsHonest}
use Rattle.sd_label.specs.Cutting.{AtEnd}
use Rattle.sd_lane.specs.declared.piece.Piece.{Piece}
use Rattle.sd_line.proofs.TellLemmas.{keyed-own, length_from}
use Rattle.sd_line.specs.Ends.{RestsOn, pieces_from}
use Rattle.sd_line.specs.Parts.{KeepsPart, PartIs}
use Rattle.sd_line.specs.Side.{CloseIs, SideIs, TellsStand, told_close}
use Rattle.sd_line.specs.Tells.{IsOfOwn}
use Rattle.sd_pack.specs.Body.{PackedBody}
use Rattle.sd_pack.specs.Packing.{Packs}
use Rattle.sd_session.specs.Session.{parts_of, store_of}
use Rattle.sd_session.specs.declared.status.Status.{Status}
use Rattle.sd_session.specs.declared.status.Status.TheVariants.{Closed}
use Rattle.sd_world.specs.Honest.{StoreIsTrue}
use Rattle.sd_world.specs.Matches.{HasBodies}
use Rattle.sd_theorem.specs.Returns.{Returns}
use Rattle.sd_theorem.specs.Start.{Meanings}
use Rattle.sd_theorem.specs.ToldCloses.{ShownClosesComeBack, ToldClosesComeBack}
use Rattle.sd_theorem.proofs.Returns.{returns_of}

none : (ps : List Piece) → length ps ≡ 0 → ps ≡ []
none [] e = refl
none (p ∷ ps) e = absurd (omega (arith, e))

-- if as many pieces of a lane have the session's key as it sent, they are those of its bodies
own_bodies : (key : SessionKey) (before : List Piece) (bodies : List PackedBody) → length (keyed key (before ++ pieces_from key 1 bodies)) ≡ length bodies
    → bodies_in (keyed key (before ++ pieces_from key 1 bodies)) ≡ bodies
own_bodies key before bodies many =
    let both : keyed key (before ++ pieces_from key 1 bodies) ≡ keyed key before ++ pieces_from key 1 bodies =
    keyed-append key before (pieces_from key 1 bodies) ∙ ap (λ l. keyed key before ++ l) (keyed-own key 1 bodies) in
    let count : length (keyed key before) + length (pieces_from key 1 bodies) ≡ length bodies = sym (length-append (keyed key before) (pieces_from key 1 bodies)) ∙ ap length (sym both) ∙ many in
    let long = length_from key 1 bodies in
    let no_more : keyed key before ≡ [] = none (keyed key before) (omega (arith, count, long)) in
    ap bodies_in (both ∙ ap (λ (l : List Piece). l ++ pieces_from key 1 bodies) no_more) ∙ bodies_from key 1 bodies

-- a close that stands at the device returns, if it is of this part
comes_back : {D Q S Z : Type 0} (is : Meanings D Q S) (time : ℕ → ℕ) (side : SideIs D) (part : PartIs) (c : CloseIs D)
    → StandsTold (is.device side.drive.device) (told_close is.device c)
    → KeepsPart time part → part.session.status ≡ Closed → c.sent ≡ part.seat.seat.sent → c.receipt.key ≡ part.session.key
    → c.receipt.blocks ≡ part.session.sent → IsOfOwn c.receipt c.sent
    → IsHonest (is.device side.drive.device) → RestsOn part.spools (StoreIsTrue (store_of part.session))
    → Returns Z is c.receipt.key c.receipt.spans part.told (is.device c.drive.device).shelf (is.device side.drive.device).shelf
comes_back {D} {Q} {S} {Z} is time side part c stands h closed sent_is key_is blocks_are of_own honest store =
    let key = part.session.key in
    let own : keyed c.receipt.key c.sent ≡ keyed key (h.sent_before ++ pieces_from key 1 h.sent) =
    ap (λ (k : SessionKey). keyed k c.sent) key_is ∙ ap (keyed key) (sent_is ∙ h.sent_are) in
    let many : length (keyed key (h.sent_before ++ pieces_from key 1 h.sent)) ≡ length h.sent = ap length (sym own) ∙ of_own ∙ blocks_are ∙ sym h.tells.sent_is in
    let bodies : bodies_in (keyed c.receipt.key c.sent) ≡ h.sent = ap bodies_in own ∙ own_bodies key h.sent_before h.sent many in
    let room = part.session.packer.room in
    let whole : h.sent ++ parts_of part.session ≡ h.sent = ap (λ l. h.sent ++ l) (h.tells.closed closed).0 ∙ append-nil h.sent in
    let packs : Packs room h.sent part.told AtEnd =
    subst (λ l. Packs room l part.told AtEnd) whole
    (subst (λ (s : Status). HasBodies room h.sent (h.sent ++ parts_of part.session) s part.told) closed (h.tells.bodies_are store)) in
    let told = told_close is.device c in
    let device = is.device side.drive.device in
    let packed : Packs room told.bodies part.told AtEnd = subst (λ l. Packs room l part.told AtEnd) (sym bodies) packs in
    let back = told_comes_back device told room part.told honest packed stands in
    let kept = stands.stands honest in
    returns_of Z is c.receipt.key c.receipt.spans part.told (is.device c.drive.device).shelf device.shelf kept.0 back.mark kept.1 (kept.2 room part.told packed)

pub told_closes_come_back : {D Q S Z : Type 0} → ToldClosesComeBack D Q S Z
told_closes_come_back {D} is table time side part c w honest store =
    let device = is.device side.drive.device in
    let stands : StandsTold device (told_close is.device c) =
    all_at (λ (x : CloseIs D). StandsTold device (told_close is.device x)) side.told w.place c w.keeps.stands w.among in
    comes_back is time side part c stands w.part_keeps w.closed w.sent_is w.key_is w.blocks_are w.own honest store

-- the last of these stands, if each does
last_at : {E : Type 0} (xs : List E) (x : E) → slice_get (xs ++ x ∷ []) (length xs) ≡ Some x
last_at [] x = refl
last_at (y ∷ ys) x = last_at ys x

pub shown_closes_come_back : {D Q S Z : Type 0} → ShownClosesComeBack D Q S Z
shown_closes_come_back {D} is time side token part r w honest store =
    let device = is.device side.drive.device in
    let c : CloseIs D = record { drive = w.shows.drive; sent = part.seat.seat.sent; receipt = r } in
    let all : TellsStand is.device side.drive.device (w.shows.before ++ c ∷ []) = w.stands (w.shows.before ++ c ∷ []) w.shows.shown in
    let stands : StandsTold device (told_close is.device c) =
    all_at (λ (x : CloseIs D). StandsTold device (told_close is.device x)) (w.shows.before ++ c ∷ []) (length w.shows.before) c all (last_at w.shows.before c) in
    comes_back is time side part c stands w.part_keeps w.receipt_is.closed_by.closed refl w.receipt_is.key_is w.receipt_is.blocks_are w.shows.own honest store
