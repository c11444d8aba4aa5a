-- The lines of the board: the nth is that of number n.
use Rattle.std.proofs.Common.{◌≡◌, ℕ, ◌+◌, sym, ap, ◌∙◌, inl, inr, arith, Some, List, [], slice_get, slice_set}
use Rattle.sd_drive.proofs.Places.{length_set}
use Rattle.sd_world.proofs.Lookups.{get_set-tells}
use Rattle.sd_board.specs.Lines.{KeepsLines}
use Rattle.sd_board.specs.declared.posted.Posted.{Posted}

-- each line has the number of its place
abbrev pub HaveTickets : List Posted → Type 0
HaveTickets ps = (at : ℕ) (p : Posted) → slice_get ps at ≡ Some p → p.ticket ≡ at + 1

-- another of its number in a line's place
pub keeps_said : (ps : List Posted) (promised at : ℕ) (p new : Posted) → KeepsLines (record { sessions = ps; promised = promised }) → slice_get ps at ≡ Some p → new.ticket ≡ p.ticket
    → KeepsLines (record { sessions = slice_set ps at new; promised = promised })
keeps_said ps promised at p new h there same = record {
  most = (let long = length_set ps at new in let most = h.most in omega (arith, long, most));
  tickets = λ k x stands. elim (get_set-tells ps at k new x stands) [
    | inl q ↦ ap (λ (y : Posted). y.ticket) q.1 ∙ same ∙ h.tickets at p there ∙ ap (λ n. n + 1) (sym q.0)
    | inr q ↦ h.tickets k x q.1
  ];
}
