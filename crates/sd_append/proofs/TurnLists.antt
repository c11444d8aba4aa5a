-- Turns, put before others.
use Rattle.std.proofs.Common.{◌≡◌, ◌≢◌, ◌⊎◌, ℤ, negsuc, refl, sym, ap, subst, ◌∙◌, inl, inr, List, [], ◌∷◌, ◌++◌, append_assoc}
use Rattle.std.specs.List.{flat_map}
use Rattle.sd_bnet.specs.declared.packet.Packet.{Packet}
use Rattle.sd_bnet.specs.declared.packet.Packet.TheVariants.{Signal}
use Rattle.sd_append.specs.Port.{Exchange}
use Rattle.sd_append.specs.Sessions.{Known, known_behind}
use Rattle.sd_append.specs.Turns.{IsLast, IsOfTurns, IsTurn, LiesAt, Place, Between, Within, Ended, Turn, signal_said}

-- Where a talk is, by what isn't heard any more.

-- it is where it stands; or the client has ended it
abbrev pub LeavesOut : Place → Place → List Packet → Type 0
LeavesOut stands place left_out =
    ((place ≡ stands) × (left_out ≡ [])) ⊎ ((place ≡ Ended) × ((more : List Packet) × (left_out ≡ Signal (negsuc 3) ∷ more)))

lies_between : (place : Place) (left_out : List Packet) → LeavesOut Between place left_out → LiesAt place [] left_out
lies_between place left_out (inl (is, none)) = subst (λ (p : Place). LiesAt p [] left_out) (sym is) (refl, none)
lies_between place left_out (inr (is, more)) = subst (λ (p : Place). LiesAt p [] left_out) (sym is) more

pub lies_within : (place : Place) (packets left_out : List Packet) → packets ≢ [] → LeavesOut Within place left_out → LiesAt place packets left_out
lies_within place packets left_out some (inl (is, none)) = subst (λ (p : Place). LiesAt p packets left_out) (sym is) (some, none)
lies_within place packets left_out some (inr (is, more)) = subst (λ (p : Place). LiesAt p packets left_out) (sym is) more

-- Lists of turns.

-- lists that are equal to those of turns are of these turns too
pub of_turns_at : (moment : ℤ) (place : Place) (known : Known) (ps qs : List Packet) (xs ys : List Exchange) (out says : List Packet) → ps ≡ qs → xs ≡ ys → out ≡ says
    → IsOfTurns moment place known qs ys says → IsOfTurns moment place known ps xs out
of_turns_at moment place known ps qs xs ys out says packets asked said t = record {
  turns = t.turns;
  last = t.last;
  are_turns = t.are_turns;
  packets_are = packets ∙ t.packets_are;
  asked_is = asked ∙ t.asked_is;
  out_is = said ∙ t.out_is;
}

-- a turn before others
pub turn_then : (moment : ℤ) (place : Place) (known : Known) (turn : Turn) (packets : List Packet) (asked : List Exchange) (out : List Packet) → IsTurn moment known turn
    → IsOfTurns moment place (known_behind known turn.asked) packets asked out → IsOfTurns moment place known (turn.packets ++ packets) (turn.asked ++ asked) (turn.says ++ out)
turn_then moment place known turn packets asked out is t = record {
  turns = turn ∷ t.turns;
  last = t.last;
  are_turns = (is, t.are_turns);
  packets_are = ap (λ (l : List Packet). turn.packets ++ l) t.packets_are ∙ sym (append_assoc turn.packets (flat_map (λ (x : Turn). x.packets) t.turns) t.last.packets);
  asked_is = ap (λ (l : List Exchange). turn.asked ++ l) t.asked_is ∙ sym (append_assoc turn.asked (flat_map (λ (x : Turn). x.asked) t.turns) t.last.asked);
  out_is = ap (λ (l : List Packet). turn.says ++ l) t.out_is ∙ sym (append_assoc turn.says (flat_map (λ (x : Turn). x.says) t.turns) t.last.says);
}

-- the last turn alone
pub last_alone : (moment : ℤ) (place : Place) (known : Known) (turn : Turn) → IsLast place known turn → IsOfTurns moment place known turn.packets turn.asked turn.says
last_alone moment place known turn is = record {
  turns = [];
  last = turn;
  are_turns = is;
  packets_are = refl;
  asked_is = refl;
  out_is = refl;
}

-- nothing is heard any more
pub nothing_more : (moment : ℤ) (place : Place) (known : Known) (left_out : List Packet) → LeavesOut Between place left_out → IsOfTurns moment place known left_out [] []
nothing_more moment place known left_out is =
    let turn : Turn = record { packets = left_out; asked = []; says = [] } in
    last_alone moment place known turn (record { packets = []; left_out = left_out; packets_are = refl; lies = lies_between place left_out is; begun = inl (refl, refl, refl) })

-- a signal
pub signal_then : (moment : ℤ) (place : Place) (known : Known) (number : ℤ) (packets : List Packet) (asked : List Exchange) (out : List Packet) → number ≢ negsuc 3
    → IsOfTurns moment place known packets asked out → IsOfTurns moment place known (Signal number ∷ packets) asked (signal_said number ++ out)
signal_then moment place known number packets asked out goes_on t =
    let turn : Turn = record { packets = Signal number ∷ []; asked = []; says = signal_said number } in
    turn_then moment place known turn packets asked out (inl (record { number = number; goes_on = goes_on; packets_are = refl; asked_is = refl; says_is = refl })) t
