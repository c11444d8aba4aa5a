-- What a close tells under the lock of its line, and why it stands.
use Rattle.std.proofs.Common.{◌≡◌, ◌≤◌, ◌+◌, ℕ, suc, arith, refl, sym, ap, subst, ◌∙◌, true, List, [], ◌∷◌, ◌++◌, length, append_assoc, option_to_list}
use Rattle.std.specs.List.{AllByRecursion}
use Rattle.atomic_table.specs.Seated.{TableId}
use Rattle.sd_base.specs.Key.{is_key}
use Rattle.sd_base.specs.declared.number.SessionKey.{SessionKey}
use Rattle.sd_closes.proofs.Pieces.{keyed_all, own_only}
use Rattle.sd_closes.proofs.Taken.{bodies_are, placed_are}
use Rattle.sd_closes.proofs.Told.{close_stands}
use Rattle.sd_closes.specs.Pieces.{bodies_in, keyed, pieces_in}
use Rattle.sd_closes.specs.Stands.{StandsTold}
use Rattle.sd_drive.specs.Receipt.{ReceiptIs}
use Rattle.sd_drive.specs.Shelf.{Kept}
use Rattle.sd_drive.specs.View.{DriveIs}
use Rattle.sd_driver.specs.Meaning.{Meaning}
use Rattle.sd_journal.proofs.KeyLemmas.{key_same_self}
use Rattle.sd_journal.specs.Journal.{Entry, placed_of, placements, synced_of}
use Rattle.sd_lane.specs.Queue.{pieces_of}
use Rattle.sd_lane.specs.declared.piece.Piece.{Piece}
use Rattle.sd_line.specs.Closes.{MayCloseBy}
use Rattle.sd_line.specs.Ends.{pieces_from}
use Rattle.sd_line.specs.Parts.{KeepsPart, PartIs}
use Rattle.sd_ledger.specs.Ledger.{LedgerIs}
use Rattle.sd_line.specs.Side.{CloseIs, KeepsSide, SideIs, TellsStand, closes_at, closes_of, told_close}
use Rattle.sd_line.proofs.SideLemmas.{side_told, stand_more, with_told, without_told, written_more}
use Rattle.sd_line.specs.Tells.{IsOfOwn, IsOfSent}
use Rattle.sd_pack.specs.Body.{PackedBody}
use Rattle.sd_pack.specs.Packing.{bytes_of}
use Rattle.sd_ruled.specs.Seats.{DriveSeatIs, LaneSeatIs}
use Rattle.sd_session.specs.Session.{SessionView}
use Rattle.sd_span.specs.Spans.{spans_of}

-- The pieces of a session's bodies.

-- all of them are the session's
pub own_from : (key : SessionKey) (n : ℕ) (bs : List PackedBody) → AllByRecursion (λ (p : Piece). is_key key p.key ≡ true) (pieces_from key n bs)
own_from key n [] = tt
own_from key n (b ∷ bs) = (key_same_self key, own_from key (n + 1) bs)

pub keyed-own : (key : SessionKey) (n : ℕ) (bs : List PackedBody) → keyed key (pieces_from key n bs) ≡ pieces_from key n bs
keyed-own key n bs = keyed_all key (pieces_from key n bs) (own_from key n bs)

-- they are as many
pub length_from : (key : SessionKey) (n : ℕ) (bs : List PackedBody) → length (pieces_from key n bs) ≡ length bs
length_from key n [] = refl
length_from key n (b ∷ bs) = ap suc (length_from key (n + 1) bs)

-- The log of closes.

closes-append : {D : Type 0} (is js : List (DriveIs D × List (LaneSeatIs × ReceiptIs))) → closes_of (is ++ js) ≡ closes_of is ++ closes_of js
closes-append [] js = refl
closes-append (i ∷ is) js = ap (λ l. closes_at i.0 i.1 ++ l) (closes-append is js) ∙ sym (append_assoc (closes_at i.0 i.1) (closes_of is) (closes_of js))

pub closes-more : {D : Type 0} (is : List (DriveIs D × List (LaneSeatIs × ReceiptIs))) (d : DriveIs D) (seat : LaneSeatIs) (r : ReceiptIs) (one : List (LaneSeatIs × ReceiptIs))
    → one ≡ (seat, r) ∷ [] → closes_of (is ++ (d, one) ∷ []) ≡ closes_of is ++ record { drive = d; sent = seat.sent; receipt = r } ∷ []
closes-more is d seat r one same = closes-append is ((d, one) ∷ []) ∙ ap (λ l. closes_of is ++ (closes_at d l ++ [])) same

-- A close.

-- a session that may be closed by a receipt sent the last pieces of its lane
pub own_of : (time : ℕ → ℕ) (p : PartIs) (journal : List Entry) (r : ReceiptIs) → KeepsPart time p → MayCloseBy journal p.session r → IsOfSent journal p.seat.seat.sent r
own_of time p journal r h may =
    let key : r.key ≡ p.session.key = ap (λ (x : ReceiptIs). x.key) may.receipt_is in
    let own = pieces_from p.session.key 1 h.sent in
    let many : length own ≡ p.session.sent = length_from p.session.key 1 h.sent ∙ h.tells.sent_is in
    record {
      before = h.sent_before;
      own = own;
      sent_are = h.sent_are;
      own_are = subst (λ (k : SessionKey). AllByRecursion (λ (x : Piece). is_key k x.key ≡ true) own) (sym key) (own_from p.session.key 1 h.sent);
      some_sent = omega (arith, many, may.may.some_sent);
      placed_are = ap (λ k. placed_of k journal) key ∙ may.placed_are ∙ sym many;
      synced_are = ap (λ k. synced_of k journal) key ∙ may.may.all_synced ∙ sym many;
      spans_are = ap (λ (x : ReceiptIs). x.spans) may.receipt_is ∙ ap (λ k. spans_of k (placements journal)) (sym key);
    }

-- If the drive took all that the lane sent, and has no piece of the session in its hand, what the close tells stands.
pub close_is : {D : Type 0} (meaning : D → Meaning) (table : ℕ → TableId) (time : ℕ → ℕ) (s : SideIs D) (lane : ℕ) (sent : List Piece) (r : ReceiptIs)
    → KeepsSide meaning table time s → Kept (meaning s.drive.device) s.drive.volumes s.drive.loaded s.drive.journal
    → IsOfSent s.drive.journal sent r → pieces_of lane s.seat.taken ≡ sent → keyed r.key (option_to_list s.drive.hand) ≡ []
    → StandsTold (meaning s.drive.device) (told_close meaning (record { drive = s.drive; sent = sent; receipt = r }))
close_is meaning table time s lane sent r h kept i taken none =
    let journal = s.drive.journal in
    let count = placed_are r.key journal s.drive.hand s.seat.taken none h.follows in
    let own = own_only r.key lane s.seat.taken i.before i.own (taken ∙ i.sent_are) i.own_are (sym count ∙ i.placed_are) in
    let same : keyed r.key (pieces_in s.seat.taken) ≡ keyed r.key sent = own.0 ∙ sym own.1 ∙ ap (keyed r.key) (sym i.sent_are) in
    let some : 1 ≤ placed_of r.key journal = omega (arith, i.some_sent, i.placed_are) in
    close_stands (meaning s.drive.device) s.drive.volumes s.drive.loaded journal (told_close meaning (record { drive = s.drive; sent = sent; receipt = r }))
    kept (i.synced_are ∙ sym i.placed_are) some
    (λ honest. bodies_are r.key (meaning s.drive.device).shelf journal s.drive.hand s.seat.taken none (h.none_gone r.key) (h.holds honest)
    ∙ ap (λ ps. bytes_of (bodies_in ps)) same)
    i.spans_are refl

-- and the pieces of its key that the lane sent are as many as the drive placed
pub own_count : {D : Type 0} (meaning : D → Meaning) (table : ℕ → TableId) (time : ℕ → ℕ) (s : SideIs D) (lane : ℕ) (sent : List Piece) (r : ReceiptIs)
    → KeepsSide meaning table time s → IsOfSent s.drive.journal sent r → pieces_of lane s.seat.taken ≡ sent → keyed r.key (option_to_list s.drive.hand) ≡ []
    → length (keyed r.key sent) ≡ placed_of r.key s.drive.journal
own_count meaning table time s lane sent r h i taken none =
    let count = placed_are r.key s.drive.journal s.drive.hand s.seat.taken none h.follows in
    let own = own_only r.key lane s.seat.taken i.before i.own (taken ∙ i.sent_are) i.own_are (sym count ∙ i.placed_are) in
    ap length (ap (keyed r.key) i.sent_are ∙ own.1) ∙ sym i.placed_are

-- and so as many as the receipt tells
pub own_blocks : {D : Type 0} (d seen : DriveIs D) (sent : List Piece) (s : SessionView) (r : ReceiptIs) → seen ≡ d → MayCloseBy seen.journal s r
    → length (keyed r.key sent) ≡ placed_of r.key d.journal → IsOfOwn r sent
own_blocks {D} d seen sent s r same may count =
    count ∙ ap (λ (x : DriveIs D). placed_of r.key x.journal) (sym same) ∙ ap (λ k. placed_of k seen.journal) (ap (λ (x : ReceiptIs). x.key) may.receipt_is)
    ∙ may.placed_are ∙ sym (ap (λ (x : ReceiptIs). x.blocks) may.receipt_is)

-- what lies under the lock keeps what it kept, with that close told
pub tell_keeps : {D : Type 0} (meaning : D → Meaning) (table : ℕ → TableId) (time : ℕ → ℕ) (own : ℕ) (book book' : LedgerIs (List (CloseIs D))) (d : DriveIs D) (seat seat' : DriveSeatIs)
    (told told' : List (CloseIs D)) (lane : ℕ) (sent : List Piece) (r : ReceiptIs)
    → KeepsSide meaning table time (side_told own book d seat told) → Kept (meaning d.device) d.volumes d.loaded d.journal
    → IsOfSent d.journal sent r → pieces_of lane seat.taken ≡ sent → keyed r.key (option_to_list d.hand) ≡ []
    → seat' ≡ seat → told' ≡ told ++ record { drive = d; sent = sent; receipt = r } ∷ [] → book' ≡ record book { entries = book.entries ++ told' ∷ [] }
    → KeepsSide meaning table time (side_told own book' d seat' told')
tell_keeps {D} meaning table time own book book' d seat seat' told told' lane sent r h kept i taken none same more wrote =
    let c : CloseIs D = record { drive = d; sent = sent; receipt = r } in
    let is = close_is meaning table time (side_told own book d seat told) lane sent r h kept i taken none in
    let stand = subst (TellsStand meaning d.device) (sym more) (stand_more meaning d.device told c h.stands is) in
    subst (λ (b : LedgerIs (List (CloseIs D))). KeepsSide meaning table time (side_told own b d seat' told')) (sym wrote)
    (subst (λ (x : DriveSeatIs). KeepsSide meaning table time (side_told own (record book { entries = book.entries ++ told' ∷ [] }) d x told')) (sym same)
    (with_told meaning table time own book.id d seat told' (book.entries ++ told' ∷ []) stand (written_more meaning d.device book.entries told' h.written stand)
    (without_told meaning table time own book.id d seat told book.entries h)))
