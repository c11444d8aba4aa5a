-- One deed more of a port.
use Rattle.std.proofs.Common.{◌≡◌, ℕ, refl, sym, ap, subst, ◌∙◌, List, [], ◌∷◌, ◌++◌}
use Rattle.std.proofs.lemmas.List.{append-nil}
use Rattle.std.specs.Prelude.{IfOk, OnErr, Result, Ok, Err}
use Rattle.sd_base.specs.declared.refusal.Refusal.{Refusal}
use Rattle.sd_append.specs.Port.{Exchange}
use Rattle.sd_driver.specs.Meaning.{Meaning}
use Rattle.sd_machine.specs.declared.event.Event.{Event}
use Rattle.sd_machine.specs.declared.reply.Reply.{Reply}
use Rattle.sd_world.specs.World.{WorldView}
use Rattle.sd_core.specs.declared.headway.Round.{Round}
use Rattle.sd_core.specs.Rounds.{PlaysRound}
use Rattle.sd_port.specs.Port.{PortDeed, Exchanged, Played, IsPortDeed, IsOver, PortLeadsTo, PortView, asked_in}

leads_more : {D : Type 0} (meaning : D → Meaning) (rounds : ℕ) (a b c : WorldView D) (ds : List PortDeed) (d : PortDeed) → PortLeadsTo meaning rounds a ds b
    → IsPortDeed meaning rounds d b c → PortLeadsTo meaning rounds a (ds ++ d ∷ []) c
leads_more {D} meaning rounds a b c [] d p q = (c, subst (λ (w : WorldView D). IsPortDeed meaning rounds d w c) p q, refl)
leads_more meaning rounds a b c (x ∷ ds) d p q = (p.0, p.1, leads_more meaning rounds p.0 b c ds d p.2 q)

asked_more : (ds : List PortDeed) (d : PortDeed) → asked_in (ds ++ d ∷ []) ≡ asked_in ds ++ asked_in (d ∷ [])
asked_more [] d = refl
asked_more (Exchanged x es rs ∷ ds) d = ap (λ (xs : List Exchange). x ∷ xs) (asked_more ds d)
asked_more (Played es rs ∷ ds) d = asked_more ds d

-- one exchange more
pub over_exchange : {D : Type 0} (meaning : D → Meaning) (p : PortView D) (x : Exchange) (es : List Event) (rs : List Reply) (w : WorldView D) (asked : List Exchange) → IsOver meaning p
    → IsPortDeed meaning p.rounds (Exchanged x es rs) p.world w → asked ≡ p.asked ++ x ∷ [] → IsOver meaning (record p { world = w; asked = asked })
over_exchange meaning p x es rs w asked over done is =
    let d : PortDeed = Exchanged x es rs in record {
      opens = over.opens;
      deeds = over.deeds ++ d ∷ [];
      leads = leads_more meaning p.rounds p.opening p.world w over.deeds d over.leads done;
      asked_are = is ∙ ap (λ (xs : List Exchange). xs ++ x ∷ []) over.asked_are ∙ sym (asked_more over.deeds d);
    }

-- one round more
over_round : {D : Type 0} (meaning : D → Meaning) (p : PortView D) (round : Round) (w : WorldView D) → IsOver meaning p → PlaysRound meaning p.world round w
    → IsOver meaning (record p { world = w })
over_round meaning p round w over plays =
    let d : PortDeed = Played plays.events plays.replies in record {
      opens = over.opens;
      deeds = over.deeds ++ d ∷ [];
      leads = leads_more meaning p.rounds p.opening p.world w over.deeds d over.leads (plays.is_kind, plays.along);
      asked_are = over.asked_are ∙ sym (asked_more over.deeds d ∙ append-nil (asked_in over.deeds));
    }

-- the world stayed
over_stay : {D : Type 0} (meaning : D → Meaning) (p : PortView D) (w : WorldView D) → IsOver meaning p → w ≡ p.world → IsOver meaning (record p { world = w })
over_stay {D} meaning p w over same = subst (λ (v : WorldView D). IsOver meaning (record p { world = v })) (sym same) over

-- a round was played, or there was no memory for one
pub over_played : {D : Type 0} (meaning : D → Meaning) (p : PortView D) (result : Result Round Refusal) (w : WorldView D) → IsOver meaning p
    → IfOk result (λ round. PlaysRound meaning p.world round w) → OnErr result (w ≡ p.world) → IsOver meaning (record p { world = w })
over_played meaning p (Ok round) w over plays stays = over_round meaning p round w over plays
over_played meaning p (Err why) w over plays stays = over_stay meaning p w over stays
