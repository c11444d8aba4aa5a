use Rattle.std.proofs.Common.{◌≡◌, ◌+◌, ◌<◌, ℕ, sym, ap, subst, ◌∙◌, List, [], ◌∷◌, ◌++◌, length}
use Rattle.sd_base.specs.Limits.{most_drives}
use Rattle.sd_board.specs.Board.{BoardIs}
use Rattle.sd_board.specs.Slots.{AreNew, DriveLanesIs}
use Rattle.sd_board.proofs.BoardLemmas.{keeps_push}
use Rattle.sd_board.proofs.board.Board.add_drive.Goals as goal

pub of_ends-lanes-requires-clause-new : goal.of_ends-lanes-requires-clause-new
of_ends-lanes-requires-clause-new g c κs within =
    let next : c.next_number-no.result ≡ length c.args.self.now.drives + 1 =
    c.next_number-no.ensures ∙ ap (λ (ds : List DriveLanesIs). length ds + 1) (c.deref.ensures.value ∙ c.reserve.ensures.items) ∙ ap (λ (b : BoardIs). length b.drives + 1) c.self.view_is in
    subst (λ (n : ℕ). AreNew n c.args.ends.items) (sym next) c.requires.new

pub invariant_of-self-2 : goal.invariant_of-self-2
invariant_of-self-2 g c =
    let b : BoardIs = record { names = c.self.inside.names; drives = c.self.inside.drives.items; lines = c.self.inside.lines } in
    let few = subst (λ (x : BoardIs). length x.drives < most_drives) (sym c.self.view_is) c.requires.drives_most in
    let lanes = c.of_ends-lanes.result in
    let drives : List DriveLanesIs = c.push_reserved.new.self.items in
    let next : c.next_number-no.result ≡ length b.drives + 1 =
    c.next_number-no.ensures ∙ ap (λ (ds : List DriveLanesIs). length ds + 1) (c.deref.ensures.value ∙ c.reserve.ensures.items) in
    let more : drives ≡ b.drives ++ lanes ∷ [] = c.push_reserved.ensures.items ∙ ap (λ (ds : List DriveLanesIs). ds ++ lanes ∷ []) c.reserve.ensures.items in
    keeps_push b lanes drives c.self.invariant few (ap (λ (d : DriveLanesIs). d.no) c.of_ends-lanes.ensures ∙ next) more
