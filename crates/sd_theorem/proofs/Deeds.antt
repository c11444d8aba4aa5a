-- Where in its deeds a world gave a reply.
use Rattle.std.proofs.Common.{refl, sym, subst, inl, inr, List, [], ◌∷◌, ◌++◌}
use Rattle.sd_driver.specs.Meaning.{Meaning}
use Rattle.sd_machine.specs.declared.event.Event.{Event}
use Rattle.sd_machine.specs.declared.reply.Reply.{Reply}
use Rattle.sd_world.specs.World.{WorldView}
use Rattle.sd_world.specs.Deeds.{Deed, IsDone, LeadsTo}
use Rattle.sd_world.specs.Steps.{IsStep}
use Rattle.sd_theorem.specs.Told.{WasGiven}

-- the deeds up to the reply, the step that gave it, and those after it
pub record GivenAt {D : Type 0} (meaning : D → Meaning) (old new : WorldView D) (event : Event) (reply : Reply) : Type 0 where
  pub before : List Deed
  pub asked : WorldView D
  pub leads : LeadsTo meaning old before asked
  pub now : WorldView D
  pub step : IsStep meaning asked event reply now
  pub after : List Deed
  pub goes_on : LeadsTo meaning now after new

pub given_at : {D : Type 0} (meaning : D → Meaning) (old new : WorldView D) (event : Event) (reply : Reply) (deeds : List Deed)
    → LeadsTo meaning old deeds new → WasGiven event reply deeds → GivenAt meaning old new event reply
given_at meaning old new event reply [] leads given = absurd given
given_at meaning old new event reply (deed ∷ deeds) leads (inl is) = record {
  before = [];
  asked = old;
  leads = refl;
  now = leads.0;
  step = subst (λ done. IsDone meaning done old leads.0) (sym is) leads.1;
  after = deeds;
  goes_on = leads.2;
}
given_at meaning old new event reply (deed ∷ deeds) leads (inr later) =
    let g = given_at meaning leads.0 new event reply deeds leads.2 later in
    record { before = deed ∷ g.before; asked = g.asked; leads = (leads.0, leads.1, g.leads); now = g.now; step = g.step; after = g.after; goes_on = g.goes_on }

-- the world between some deeds and others
pub split_at : {D : Type 0} (meaning : D → Meaning) (old new : WorldView D) (first later : List Deed) → LeadsTo meaning old (first ++ later) new
    → (middle : WorldView D) × LeadsTo meaning old first middle × LeadsTo meaning middle later new
split_at meaning old new [] later leads = (old, refl, leads)
split_at meaning old new (d ∷ first) later leads =
    let p = split_at meaning leads.0 new first later leads.2 in
    (p.0, (leads.0, leads.1, p.1), p.2)
