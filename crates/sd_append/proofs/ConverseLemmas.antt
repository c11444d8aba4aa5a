-- Packets of a talk, one after another.
use Rattle.std.proofs.Common.{ℤ, refl, sym, ap, subst, ◌∙◌, List, [], ◌∷◌, ◌++◌}
use Rattle.std.proofs.lemmas.List.{append_assoc, append-nil}
use Rattle.sd_bnet.specs.declared.packet.Packet.{Packet}
use Rattle.sd_append.specs.declared.stage.TalkStage.{TalkStage}
use Rattle.sd_append.specs.Conversation.{Converses}
use Rattle.sd_append.specs.Does.{Does}
use Rattle.sd_append.specs.Out.{OutView}
use Rattle.sd_append.specs.Port.{Exchange}
use Rattle.sd_append.specs.Talk.{Takes}
use Rattle.sd_append.proofs.OutLemmas.{puts_none}
use Rattle.sd_append.proofs.TalkLemmas.{says_then}

-- one packet more
converses-more : (moment : ℤ) (old : TalkStage) (packets : List Packet) (packet : Packet) (a b : List Exchange) (x y : List Packet) (mid new : TalkStage) → Converses moment old packets a x mid → Takes moment mid packet b y new
    → Converses moment old (packets ++ packet ∷ []) (a ++ b) (x ++ y) new
converses-more moment old [] packet a b x y mid new (asked, says, stands) takes = (
  new,
  b,
  [],
  y,
  [],
  subst (λ (s : TalkStage). Takes moment s packet b y new) stands takes,
  (refl, refl, refl),
  ap (λ (l : List Exchange). l ++ b) asked ∙ sym (append-nil b),
  ap (λ (l : List Packet). l ++ y) says ∙ sym (append-nil y),
)
converses-more moment old (p ∷ ps) packet a b x y mid new (between, first, more, says, later, taken, rest, asked_is, says_is) takes = (
  between,
  first,
  more ++ b,
  says,
  later ++ y,
  taken,
  converses-more moment between ps packet more b later y mid new rest takes,
  ap (λ (l : List Exchange). l ++ b) asked_is ∙ append_assoc first more b,
  ap (λ (l : List Packet). l ++ y) says_is ∙ append_assoc says later y,
)

-- packets after others
converses-append : (moment : ℤ) (old : TalkStage) (ps qs : List Packet) (a b : List Exchange) (x y : List Packet) (mid new : TalkStage) → Converses moment old ps a x mid → Converses moment mid qs b y new
    → Converses moment old (ps ++ qs) (a ++ b) (x ++ y) new
converses-append moment old [] qs a b x y mid new (asked, says, stands) more =
    subst (λ (s : TalkStage). Converses moment s qs (a ++ b) (x ++ y) new) stands
    (subst (λ (l : List Exchange). Converses moment mid qs l (x ++ y) new) (sym (ap (λ (l : List Exchange). l ++ b) asked))
    (subst (λ (l : List Packet). Converses moment mid qs b l new) (sym (ap (λ (l : List Packet). l ++ y) says)) more))
converses-append moment old (p ∷ ps) qs a b x y mid new (between, first, more, says, later, taken, rest, asked_is, says_is) next = (
  between,
  first,
  more ++ b,
  says,
  later ++ y,
  taken,
  converses-append moment between ps qs more b later y mid new rest next,
  ap (λ (l : List Exchange). l ++ b) asked_is ∙ append_assoc first more b,
  ap (λ (l : List Packet). l ++ y) says_is ∙ append_assoc says later y,
)

-- no packet yet
pub converses_none : (moment : ℤ) (stage : TalkStage) (asked : List Exchange) (v : OutView) → Does (λ more out. Converses moment stage [] more out stage) asked asked v v
converses_none moment stage asked v = record { asked = []; out = []; outcome_is = (refl, refl, refl); after_is = sym (append-nil asked); puts = puts_none v }

-- a packet after others
pub converses_then : (moment : ℤ) (old mid new : TalkStage) (packets : List Packet) (packet : Packet) (before between after : List Exchange) (a b c : OutView)
    → Does (λ asked out. Converses moment old packets asked out mid) before between a b → Does (λ asked out. Takes moment mid packet asked out new) between after b c
    → Does (λ asked out. Converses moment old (packets ++ packet ∷ []) asked out new) before after a c
converses_then moment old mid new packets packet before between after a b c first next = record {
  asked = first.asked ++ next.asked;
  out = first.out ++ next.out;
  outcome_is = converses-more moment old packets packet first.asked next.asked first.out next.out mid new first.outcome_is next.outcome_is;
  after_is = next.after_is ∙ ap (λ (l : List Exchange). l ++ next.asked) first.after_is ∙ append_assoc before first.asked next.asked;
  puts = says_then a b c first.out next.out first.puts next.puts;
}

-- packets after others
pub does_then : (moment : ℤ) (old mid new : TalkStage) (ps qs : List Packet) (before between after : List Exchange) (a b c : OutView)
    → Does (λ asked out. Converses moment old ps asked out mid) before between a b → Does (λ asked out. Converses moment mid qs asked out new) between after b c
    → Does (λ asked out. Converses moment old (ps ++ qs) asked out new) before after a c
does_then moment old mid new ps qs before between after a b c first next = record {
  asked = first.asked ++ next.asked;
  out = first.out ++ next.out;
  outcome_is = converses-append moment old ps qs first.asked next.asked first.out next.out mid new first.outcome_is next.outcome_is;
  after_is = next.after_is ∙ ap (λ (l : List Exchange). l ++ next.asked) first.after_is ∙ append_assoc before first.asked next.asked;
  puts = says_then a b c first.out next.out first.puts next.puts;
}
