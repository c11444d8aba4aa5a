use Rattle.std.proofs.Common.{refl, sym, ap, subst, ◌∙◌, List}
use Rattle.sd_drive.specs.Receipt.{ReceiptIs}
use Rattle.sd_line.specs.Side.{LineIs}
use Rattle.sd_line.specs.Ends.{EndIs}
use Rattle.sd_hub.specs.Settles.{FaultOf, Passes, checked_of, line_of}
use Rattle.sd_hub.proofs.checking.check.Goals as goal

pub invariant_of-result : goal.invariant_of-result
invariant_of-result g c =
    let p = c.into_parts-parts.result in
    let line = line_of p.no p.media p.limits p.queue in
    let ok = c.in-Ok.ensures in
    record {
      passes = subst (λ (rs : List ReceiptIs). Passes (checked_of line p.side c.args.ends.items rs)) (sym ok.same)
          (subst (λ (es : List EndIs). Passes (checked_of line p.side es c.args.receipts.items)) c.as_slice.ensures.value (ok.passes line refl));
      none = ok.none;
      room = ok.room;
    }

pub returns-in-Err-clause-err : goal.returns-in-Err-clause-err
returns-in-Err-clause-err g c =
    let p = c.into_parts-parts.result in
    let line = c.into_parts-parts.ensures.line in (
      sym line,
      refl,
      (
        c.know.ensures.side,
        subst (λ (es : List EndIs). FaultOf (checked_of c.args.line p.side es c.args.receipts.items) c.in-Err.fault c.look.new.receipts.items) c.as_slice.ensures.value
            (c.in-Err.ensures.fault c.args.line (ap (λ (l : LineIs). l.no) line)),
      ),
    )
