use Rattle.std.proofs.Common.{◌≡◌, ◌⊎◌, ℕ, List, sym, subst, arith}
use Rattle.sd_core.specs.Listing.{TicketsRise, IsListed, EndsBelow}
use Rattle.sd_core.proofs.Tickets.{listed_again, put_rises, put_lists}
use Rattle.sd_core.proofs.listing.list_ticket.Goals as goal

pub returns-in_default-clause-listed : goal.returns-in_default-clause-listed
returns-in_default-clause-listed c =
    listed_again c.args.tickets.now.items c.args.ticket (subst (λ (l : List ℕ). IsListed c.args.ticket l) c.deref.ensures.value c.in_default.ensures.listed)

pub returns-clause-rise : goal.returns-clause-rise
returns-clause-rise c =
    let ends = subst (λ (l : List ℕ). EndsBelow l c.args.ticket c.in-Some.at) c.deref.ensures.value c.in-Some.ensures.at in
    subst (λ (l : List ℕ). TicketsRise 0 l) (sym c.in_ok-insert.ensures.items)
    (put_rises 0 c.args.ticket c.args.tickets.now.items c.in-Some.at c.requires.rise (omega arith) ends.within ends.before ends.behind)

pub returns-clause-listed : goal.returns-clause-listed
returns-clause-listed c = λ t.
    let P : List ℕ → Type 0 = λ l. (IsListed t l → (c.args.ticket ≡ t) ⊎ IsListed t c.args.tickets.now.items) × ((c.args.ticket ≡ t) ⊎ IsListed t c.args.tickets.now.items → IsListed t l) in
    subst P (sym c.in_ok-insert.ensures.items) (put_lists c.args.ticket t c.args.tickets.now.items c.in-Some.at)
