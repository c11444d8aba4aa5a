use Rattle.std.proofs.Common.{arith, refl, sym, ap, ◌∙◌, ◌≡◌, ◌+◌, [], ◌∷◌, ◌++◌, Some, length, slice_get}
use Rattle.std.proofs.lemmas.List.{get_or-append-add, length-append}
use Rattle.std.proofs.lemmas.Option.{slice_get_read}
use Rattle.sd_scarce.proofs.jobs.with_first.Goals as goal

pub returns : goal.returns
returns g c =
    let rest = c.pop.new.self.items in
    let seat = c.in_ok-seat.seat in
    let all = rest ++ seat ∷ [] in
    let there : slice_get all (length rest + 0) ≡ Some seat =
    slice_get_read all (length all) (length rest + 0) seat refl (omega (arith, length-append rest (seat ∷ []))) (sym (get_or-append-add rest (seat ∷ []) 0 seat)) in
    c.requires (length rest + 0) seat (ap (λ l. slice_get l (length rest + 0)) c.in_ok-seat.ensures.items ∙ there)
