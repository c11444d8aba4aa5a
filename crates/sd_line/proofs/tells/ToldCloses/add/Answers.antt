use Rattle.std.proofs.Common.{ap, ◌∙◌, ◌++◌, ◌∷◌, [], map}
use Rattle.std.proofs.lemmas.List.{map-append}
use Rattle.sd_line.specs.Side.{closes_of}
use Rattle.sd_line.proofs.TellLemmas.{closes-more}
use Rattle.sd_line.proofs.tells.ToldCloses.add.Goals as goal

pub returns : goal.returns
returns g c =
    let seat = c.args.seat.now in
    let receipt = c.args.receipt.now in
    let items = c.self.inside.told.items in
    ap (λ l. closes_of (map (λ i. (i.0, i.1.items)) l)) c.and-self-inside.ensures
    ∙ ap closes_of (map-append (λ i. (i.0, i.1.items)) items ((c.args.drive.now, c.and-close.result) ∷ []))
    ∙ closes-more (map (λ i. (i.0, i.1.items)) items) c.args.drive.now seat receipt c.and-close.result.items (c.and-close.ensures ∙ ap (λ l. l ++ (seat, receipt) ∷ []) c.new.ensures)
    ∙ ap (λ l. l ++ record { drive = c.args.drive.now; sent = seat.sent; receipt = receipt } ∷ []) c.self.view_is
