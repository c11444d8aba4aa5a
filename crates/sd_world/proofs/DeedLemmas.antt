-- What deeds keep of a world, and the run that they are.
use Rattle.std.proofs.Common.{ℕ, refl, sym, ap, subst, ◌∙◌, List, [], ◌∷◌, ◌++◌}
use Rattle.sd_driver.specs.Meaning.{Meaning}
use Rattle.sd_machine.specs.declared.event.Event.{Event}
use Rattle.sd_machine.specs.declared.reply.Reply.{Reply}
use Rattle.sd_world.specs.Kept.{PurgesName}
use Rattle.sd_world.specs.World.{WorldView}
use Rattle.sd_world.proofs.HonestSteps.{moves_keep_honesty}
use Rattle.sd_world.proofs.MoveLeaves.{leaves, moves_keep_claims}
use Rattle.sd_world.proofs.Moves.{moves_keep_closed}
use Rattle.sd_world.specs.Matches.{Matches}
use Rattle.sd_world.specs.MachineSteps.{newly_struck}
use Rattle.sd_world.proofs.MovesSteps.{moves_steps}
use Rattle.sd_world.specs.Deeds.{Deed, IsDone, LeadsTo, NonePurges, StaysFrom, StepsLead, LeadsJoin, LeadsKeep, LeadsRun}
use Rattle.sd_world.specs.Steps.{IsSound, IsStep}
use Rattle.sd_world.proofs.GrowLemmas.{journals_grow, growths_join, moves_go_on, going_on_joins, devices_as, devices_go_on, all_stay}
use Rattle.sd_world.proofs.ReadKeeps.{read_matches, read_leaves, read_unpurged, read_goes_on, read_honest}
use Rattle.sd_world.proofs.SeatLemmas.{moves_keep_seats}
use Rattle.sd_world.proofs.StandLemmas.{closed_last, none_left, stands_on}

-- Deeds.

pub steps_lead : {D : Type 0} → StepsLead D
steps_lead meaning w w' [] [] same = (same, refl, refl)
steps_lead meaning w w' [] (r ∷ rs) along = absurd along
steps_lead meaning w w' (e ∷ es) [] along = absurd along
steps_lead meaning w w' (e ∷ es) (r ∷ rs) along =
    let rest = steps_lead meaning along.0 w' es rs along.2 in
    ((along.0, along.1, rest.0), ap (λ l. e ∷ l) rest.1, ap (λ l. r ∷ l) rest.2)

pub leads_join : {D : Type 0} → LeadsJoin D
leads_join meaning a b c [] second same leads = subst (λ x. LeadsTo meaning x second c) same leads
leads_join meaning a b c (d ∷ ds) second first leads = (first.0, first.1, leads_join meaning first.0 b c ds second first.2 leads)

-- What is kept.

-- what neither the first deeds purged nor the others
none_split : (first second : List Deed) (name : List ℕ) → NonePurges (first ++ second) name → NonePurges first name × NonePurges second name
none_split [] second name none = (tt, none)
none_split (Deed.Answered event reply ∷ ds) second name none = let rest = none_split ds second name none.1 in ((none.0, rest.0), rest.1)
none_split (Deed.ReadBack key spans got got' result ∷ ds) second name none = none_split ds second name none

stays_same : {D : Type 0} (meaning : D → Meaning) (w : WorldView D) → IsSound meaning w → StaysFrom meaning [] w w
stays_same meaning w sound =
    let none = none_left w sound.rules in
    record {
      statuses = none.statuses;
      closed = λ key spans s. s;
      seats = none.seats;
      grow = none.grow;
      claims = none.claims;
      unpurged = λ name none is. is;
      devices = devices_go_on meaning (NonePurges []) w w (all_stay meaning (NonePurges []) w w refl);
      honest = λ h. h;
    }

stays_join : {D : Type 0} (meaning : D → Meaning) (ds es : List Deed) (a b c : WorldView D) → StaysFrom meaning ds a b → StaysFrom meaning es b c → StaysFrom meaning (ds ++ es) a c
stays_join meaning ds es a b c first then = record {
  statuses = λ key s. then.statuses key (first.statuses key s);
  closed = λ key spans s. then.closed key spans (first.closed key spans s);
  seats = λ ticket x there.
      let p = first.seats ticket x there in
      let q = then.seats ticket p.0 p.1 in
      (q.0, q.1, record { key_is = q.2.key_is ∙ p.2.key_is; drive_is = q.2.drive_is ∙ p.2.drive_is });
  grow = growths_join a b c first.grow then.grow;
  claims = λ name drive claimed. then.claims name drive (first.claims name drive claimed);
  unpurged = λ name none is. (let split = none_split ds es name none in first.unpurged name split.0 (then.unpurged name split.1 is));
  devices = devices_as meaning (λ name. NonePurges ds name × NonePurges es name) (NonePurges (ds ++ es)) a c (none_split ds es)
      (going_on_joins meaning (NonePurges ds) (NonePurges es) a b c first.devices then.devices);
  honest = λ h. then.honest (first.honest h);
}

pub step_keeps : {D : Type 0} (meaning : D → Meaning) (w w' : WorldView D) (event : Event) (reply : Reply) → IsSound meaning w → IsStep meaning w event reply w' → StaysFrom meaning (Deed.Answered event reply ∷ []) w w'
step_keeps meaning w w' event reply sound step =
    let m = step.moves in
    record {
      statuses = (moves_keep_closed meaning w w' event reply sound.rules m).statuses;
      closed = closed_last meaning w w' event reply sound.rules m;
      seats = moves_keep_seats meaning w w' event reply sound.rules m;
      grow = journals_grow meaning w w' event reply m;
      claims = moves_keep_claims meaning w w' event reply m;
      unpurged = λ name none is. (leaves meaning w w' event reply m).purged name none.0 is;
      devices = devices_as meaning (λ name. PurgesName event reply name → ⊥) (NonePurges (Deed.Answered event reply ∷ [])) w w' (λ name none. none.0)
          (moves_go_on meaning w w' event reply m);
      honest = moves_keep_honesty meaning w w' event reply sound.rules m;
    }

deed_keeps : {D : Type 0} (meaning : D → Meaning) (deed : Deed) (w w' : WorldView D) → IsSound meaning w → IsDone meaning deed w w' → IsSound meaning w' × StaysFrom meaning (deed ∷ []) w w'
deed_keeps meaning (Deed.Answered event reply) w w' sound step = (step.sound, step_keeps meaning w w' event reply sound step)
deed_keeps meaning (Deed.ReadBack key spans got got' result) w w' sound read =
    let left = read_leaves meaning key spans got got' result w w' sound.rules read.reads in (
      read.sound,
      record {
        statuses = left.statuses;
        closed = stands_on w w' left;
        seats = left.seats;
        grow = left.grow;
        claims = left.claims;
        unpurged = λ name none is. read_unpurged meaning key spans got got' result w w' read.reads name is;
        devices = read_goes_on meaning key spans got got' result w w' (NonePurges (Deed.ReadBack key spans got got' result ∷ [])) read.reads;
        honest = read_honest meaning key spans got got' result w w' read.reads;
      },
    )

pub leads_keep : {D : Type 0} → LeadsKeep D
leads_keep meaning w w' [] sound same = subst (λ x. IsSound meaning x × StaysFrom meaning [] w x) (sym same) (sound, stays_same meaning w sound)
leads_keep meaning w w' (d ∷ ds) sound leads =
    let first = deed_keeps meaning d w leads.0 sound leads.1 in
    let rest = leads_keep meaning leads.0 w' ds first.0 leads.2 in
    (rest.0, stays_join meaning (d ∷ []) ds w leads.0 w' first.1 rest.1)

-- The run.

pub leads_run : {D : Type 0} → LeadsRun D
leads_run meaning w w' [] m sound same pairs = (m, refl, subst (λ x. Matches meaning x m) (sym same) pairs)
leads_run meaning w w' (Deed.Answered e r ∷ ds) m sound leads pairs =
    let mid = leads.0 in
    let s = moves_steps meaning w mid e r m sound.rules leads.1.moves pairs in
    let rest = leads_run meaning mid w' ds s.0 leads.1.sound leads.2 s.2 in
    (rest.0, (newly_struck w.sessions mid.sessions, s.0, s.1, rest.1), rest.2)
leads_run meaning w w' (Deed.ReadBack key spans got got' result ∷ ds) m sound leads pairs =
    leads_run meaning leads.0 w' ds m leads.1.sound leads.2 (read_matches meaning key spans got got' result w leads.0 m leads.1.reads pairs)
