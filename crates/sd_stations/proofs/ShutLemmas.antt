-- A part that is closed by the receipt that was due.
use Rattle.std.proofs.Common.{◌≡◌, sym, ap, subst, ◌∙◌, Option, Some, List, []}
use Rattle.std.specs.Prelude.{Ok, IfSome}
use Rattle.sd_drive.specs.Receipt.{ReceiptIs}
use Rattle.sd_line.proofs.GoLemmas.{closes_on, goes_first}
use Rattle.sd_line.proofs.ReceiptLemmas.{receipt_of}
use Rattle.sd_line.specs.Goes.{GoesOn, IsReceiptOf}
use Rattle.sd_journal.specs.Journal.{Entry}
use Rattle.sd_line.specs.Closes.{Closes, MayCloseBy}
use Rattle.sd_line.specs.Parts.{PartIs, with_session}
use Rattle.sd_line.specs.Side.{SeatIs, ToldTokenIs}
use Rattle.sd_line.specs.Tells.{ShowsClose}
use Rattle.sd_line.specs.declared.closing.Closing.TheVariants.{Closed}

-- the part is as it was, and may be closed by this receipt
abbrev MayBy : PartIs → PartIs → ReceiptIs → Type 0
MayBy p q r = (q ≡ p) × (j : List Entry) × MayCloseBy j p.session r

-- the part goes on, and the receipt is that of its session
pub closes_by : {E : Type 0} (of : E → ReceiptIs) (p q z : PartIs) (due : Option E) (d : E) → due ≡ Some d
    → IfSome due (λ (x : E). MayBy p q (of x))
    → z ≡ with_session q z.session
    → ((j : List Entry) → MayCloseBy j q.session (of d) → Closes ⊥ j q.session (Ok (Closed (of d))) z.session)
    → GoesOn p [] q → GoesOn p [] z × IsReceiptOf z.session (of d)
closes_by {E} of p q z due d is may same by goes =
    let own : MayBy p q (of d) = subst (λ (x : Option E). IfSome x (λ (y : E). MayBy p q (of y))) is may in
    let closes : Closes ⊥ own.1 q.session (Ok (Closed (of d))) z.session = by own.1 (subst (λ (x : PartIs). MayCloseBy own.1 x.session (of d)) (sym own.0) own.2) in
    (goes_first p q z [] goes (closes_on q z (Ok (Closed (of d))) same ⊥ own.1 closes), (receipt_of ⊥ own.1 (of d) q.session z.session closes).0)

-- what was shown of the part as it was is shown of it as it is
pub shows_still : {D E : Type 0} (of : E → ReceiptIs) (by : E → ToldTokenIs D) (p q z : PartIs) (due : Option E) (d : E) → due ≡ Some d
    → IfSome due (λ (x : E). MayBy p q (of x))
    → IfSome due (λ (x : E). ShowsClose (by x) p.seat.no p.seat.seat.sent (of x))
    → z ≡ with_session q z.session
    → ShowsClose (by d) z.seat.no z.seat.seat.sent (of d)
shows_still {E = E} of by p q z due d is may shown same =
    let own : MayBy p q (of d) = subst (λ (x : Option E). IfSome x (λ (y : E). MayBy p q (of y))) is may in
    let known : ShowsClose (by d) p.seat.no p.seat.seat.sent (of d) =
    subst (λ (x : Option E). IfSome x (λ (y : E). ShowsClose (by y) p.seat.no p.seat.seat.sent (of y))) is shown in
    let seats : p.seat ≡ z.seat = sym (ap (λ (x : PartIs). x.seat) (same ∙ ap (λ (x : PartIs). with_session x z.session) own.0)) in
    subst (λ (s : SeatIs). ShowsClose (by d) s.no s.seat.sent (of d)) seats known
