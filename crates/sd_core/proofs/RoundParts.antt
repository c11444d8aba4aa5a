-- The parts of a round, and what rounds leave of the drives.
use Rattle.std.proofs.Common.{◌≡◌, ℕ, zero, suc, ◌+◌, ◌-◌, ◌≤◌, ◌<◌, ◌||◌, true, false, Bool, inl, inr, length, List, [], ◌∷◌, ◌++◌, Some, None, is_some, filter, take, slice_get, get_or, refl, sym, ap, subst, ◌∙◌, arith, add-zero, append-nil, append_assoc}
use Rattle.std.specs.Option.{option_map}
use Rattle.std.specs.List.{range_with_len}
use Rattle.std.proofs.lemmas.List.{take_more}
use Rattle.std.proofs.lemmas.Option.{slice_get-map}
use Rattle.std.proofs.lemmas.List.Elements.{filter-append}
use Rattle.sd_base.specs.Limits.{most_drives}
use Rattle.sd_driver.specs.Meaning.{Meaning}
use Rattle.sd_machine.specs.declared.event.Event.{Event}
use Rattle.sd_machine.specs.declared.event.Event.TheVariants.{Spool, Despool, Take, Place, Sync, Label, Adopt, Mount, Unmount, Seek, Retire}
use Rattle.sd_machine.specs.declared.reply.Reply.{Reply}
use Rattle.sd_machine.specs.declared.reply.Reply.TheVariants.{Refused, Retired, NeedVolume, Mounted}
use Rattle.sd_world.specs.Steps.{StepsAlong}
use Rattle.sd_world.specs.Drives.{DriveMissing}
use Rattle.sd_world.specs.Moves.{Moves}
use Rattle.sd_world.specs.World.{WorldView, BayView, IsOnline}
use Rattle.sd_world.proofs.Framed.{none_there}
use Rattle.sd_core.specs.declared.headway.Round.{Round}
use Rattle.sd_core.specs.Rounds.{AreSends, AreTurns, IsRound, IsTurn, PlaysOn, PlaysRounds, Tells, drives_online, is_online, is_set, online_flags, placing, sends}
use Rattle.sd_base.specs.Count.{counted}
use Rattle.sd_core.proofs.Online.{DrivesStay, IsNoRetiring, drives_same, drives_then, moves_stay}
use Rattle.sd_core.proofs.Played.{on_and, on_none}
use Rattle.sd_core.specs.View.{running_tickets}

-- Which drives are online, along a round.

-- none of the events retires a drive
abbrev pub RetiresNone : Event → Type 0
RetiresNone (Retire drive) = ⊥
RetiresNone event = Unit {0}

abbrev pub RetireNone : List Event → Type 0
RetireNone [] = Unit {0}
RetireNone (e ∷ es) = RetiresNone e × RetireNone es

-- only a retirement is answered so
only_retiring : {D : Type 0} (meaning : D → Meaning) (w w' : WorldView D) (event : Event) (reply : Reply) → RetiresNone event → Moves meaning w event reply w' → IsNoRetiring reply
only_retiring meaning w w' (Retire drive) reply h m = absurd h
only_retiring meaning w w' (Take drive) Retired h m = absurd (none_there m tt)
only_retiring meaning w w' (Place drive) Retired h m = absurd (none_there m tt)
only_retiring meaning w w' (Sync drive) Retired h m = absurd (none_there m tt)
only_retiring meaning w w' (Label drive name pool media moment) Retired h m = absurd (none_there m tt)
only_retiring meaning w w' (Adopt drive name) Retired h m = absurd (none_there m tt)
only_retiring meaning w w' (Mount drive name) Retired h m = absurd (none_there m tt)
only_retiring meaning w w' (Unmount drive) Retired h m = absurd (none_there m tt)
only_retiring meaning w w' (Seek drive) Retired h m = absurd (none_there m tt)
only_retiring meaning w w' event Retired h m = absurd m
only_retiring meaning w w' event reply h m = tt

pub along_stay : {D : Type 0} (meaning : D → Meaning) (w w' : WorldView D) (es : List Event) (rs : List Reply) → RetireNone es → StepsAlong meaning w es rs w' → DrivesStay w w'
along_stay meaning w w' [] [] h p = drives_same w w' p
along_stay meaning w w' [] (r ∷ rs) h p = absurd p
along_stay meaning w w' (e ∷ es) [] h p = absurd p
along_stay meaning w w' (e ∷ es) (r ∷ rs) h p =
    drives_then w p.0 w' (moves_stay meaning w p.0 e r (only_retiring meaning w p.0 e r h.0 p.1.moves) p.1.moves) (along_stay meaning p.0 w' es rs h.1 p.2)

pub sends_retire_none : (tickets : List ℕ) → RetireNone (sends tickets)
sends_retire_none [] = tt
sends_retire_none (t ∷ ts) = (tt, (tt, sends_retire_none ts))

retire_none-append : (es fs : List Event) → RetireNone es → RetireNone fs → RetireNone (es ++ fs)
retire_none-append [] fs p q = q
retire_none-append (e ∷ es) fs p q = (p.0, retire_none-append es fs p.1 q)

placing_retires_none : (drive : ℕ) (rs : List Reply) → RetireNone (placing drive rs)
placing_retires_none drive (NeedVolume ∷ Mounted name ∷ rs) = (tt, (tt, (tt, tt)))
placing_retires_none drive (NeedVolume ∷ rs) = (tt, (tt, tt))
placing_retires_none drive rs = (tt, tt)

turn_retires_none : (drive : ℕ) (es : List Event) (rs : List Reply) → IsTurn drive es rs → RetireNone es
turn_retires_none drive es rs t =
    subst RetireNone (sym t.events_are) (tt, retire_none-append (placing drive t.placed) (Sync drive ∷ []) (placing_retires_none drive t.placed) (tt, tt))

pub turns_retire_none : (drives : List ℕ) (es : List Event) (rs : List Reply) → AreTurns drives es rs → RetireNone es
turns_retire_none [] es rs t = subst RetireNone (sym t.0) tt
turns_retire_none (d ∷ ds) es rs t =
    subst RetireNone (sym t.6) (retire_none-append t.0 t.2 (turn_retires_none d t.0 t.1 t.4) (turns_retire_none ds t.2 t.3 t.5))

-- The sessions' part, session by session.

sends-append : (ts us : List ℕ) → sends (ts ++ us) ≡ sends ts ++ sends us
sends-append [] us = refl
sends-append (t ∷ ts) us = ap (λ l. Spool t ∷ Despool t ∷ l) (sends-append ts us)

-- one session's steps more
pub sent_more : {D : Type 0} (meaning : D → Meaning) (a b c : WorldView D) (tickets : List ℕ) (n ticket : ℕ) (sent here sum : Round)
    → ticket ≡ get_or tickets n ticket → n < length tickets
    → PlaysOn meaning (AreSends (take n tickets)) a sent b → PlaysOn meaning (AreSends (ticket ∷ [])) b here c
    → sum.moved ≡ (sent.moved || here.moved) → sum.placed ≡ counted (sent.placed + here.placed)
    → PlaysOn meaning (AreSends (take (n + 1) tickets)) a sum c
sent_more meaning a b c tickets n ticket sent here sum is within p q moved placed =
    let more : sends (take (n + 1) tickets) ≡ sends (take n tickets) ++ sends (ticket ∷ []) =
    ap sends (take_more tickets n ticket within ∙ ap (λ t. take n tickets ++ t ∷ []) (sym is)) ∙ sends-append (take n tickets) (ticket ∷ []) in
    on_and meaning (AreSends (take n tickets)) (AreSends (ticket ∷ [])) (AreSends (take (n + 1) tickets)) a b c sent here sum p q moved placed
    (λ es fs rs ss x y. rw (x, y, more))

-- The drives' part, drive by drive.

range_more : (a n : ℕ) → range_with_len a (suc n) ≡ range_with_len a n ++ (a + n) ∷ []
range_more a zero = ap (λ m. m ∷ []) (sym (add-zero a))
range_more a (suc n) =
    let here : a + 1 + n ≡ a + suc n = omega arith in
    ap (λ l. a ∷ l) (range_more (a + 1) n ∙ ap (λ m. range_with_len (a + 1) n ++ m ∷ []) here)

-- which of the first so many drives are online
abbrev pub online_below : List Bool → ℕ → List ℕ
online_below flags number = filter (is_online flags) (range_with_len 1 (number - 1))

-- which of this one drive is
abbrev pub online_one : List Bool → ℕ → List ℕ
online_one flags drive = filter (is_online flags) (drive ∷ [])

below_more : (flags : List Bool) (number : ℕ) → 1 ≤ number → online_below flags (number + 1) ≡ online_below flags number ++ online_one flags number
below_more flags number low =
    let count : number + 1 - 1 ≡ suc (number - 1) = omega arith in
    let here : 1 + (number - 1) ≡ number = omega arith in
    ap (λ n. filter (is_online flags) (range_with_len 1 n)) count ∙ ap (filter (is_online flags)) (range_more 1 (number - 1))
    ∙ filter-append (is_online flags) (range_with_len 1 (number - 1)) ((1 + (number - 1)) ∷ [])
    ∙ ap (λ n. online_below flags number ++ online_one flags n) here

turns-append : (ds ds' : List ℕ) (es fs : List Event) (rs ss : List Reply)
    → AreTurns ds es rs → AreTurns ds' fs ss → AreTurns (ds ++ ds') (es ++ fs) (rs ++ ss)
turns-append [] ds' es fs rs ss p q = rw (p.0, p.1) q
turns-append (d ∷ ds) ds' es fs rs ss p q = (
  p.0,
  p.1,
  p.2 ++ fs,
  p.3 ++ ss,
  p.4,
  turns-append ds ds' p.2 fs p.3 ss p.5 q,
  ap (λ l. l ++ fs) p.6 ∙ append_assoc p.0 p.2 fs,
  ap (λ l. l ++ ss) p.7 ∙ append_assoc p.1 p.3 ss,
)

one_turn : (drive : ℕ) (es : List Event) (rs : List Reply) → IsTurn drive es rs → AreTurns (drive ∷ []) es rs
one_turn drive es rs t = (es, rs, [], [], t, (refl, refl), sym (append-nil es), sym (append-nil rs))

-- a drive's turn is that of the drives that are online, if it is one
pub turn_online : (flags : List Bool) (drive : ℕ) (es : List Event) (rs : List Reply) → is_online flags drive ≡ true
    → IsTurn drive es rs → AreTurns (online_one flags drive) es rs
turn_online flags drive es rs on t = rw on (one_turn drive es rs t)

-- and if it is none, there is no turn
pub turn_offline : (flags : List Bool) (drive : ℕ) → is_online flags drive ≡ false → AreTurns (online_one flags drive) [] []
turn_offline flags drive off = rw off (refl, refl)

flag_at : {D : Type 0} (w : WorldView D) (drive at : ℕ) (bay : BayView D) (b : Bool) → drive ≡ at + 1 → slice_get w.bays at ≡ Some bay → is_some bay.drive ≡ b
    → is_online (online_flags w) drive ≡ b
flag_at {D} w drive at bay b number there is =
    let F : BayView D → Bool = λ x. is_some x.drive in
    let place : drive - 1 ≡ at = omega arith in
    ap is_set (ap (slice_get (online_flags w)) place ∙ slice_get-map F w.bays at ∙ ap (option_map F) there) ∙ is

no_flag : {D : Type 0} (w : WorldView D) (drive at : ℕ) → drive ≡ at + 1 → slice_get w.bays at ≡ None → is_online (online_flags w) drive ≡ false
no_flag {D} w drive at number none =
    let F : BayView D → Bool = λ x. is_some x.drive in
    let place : drive - 1 ≡ at = omega arith in
    ap is_set (ap (slice_get (online_flags w)) place ∙ slice_get-map F w.bays at ∙ ap (option_map F) none)

online_is : {D : Type 0} (w : WorldView D) (drive at : ℕ) (bay : BayView D) (d : _) → IsOnline w drive at bay d → is_online (online_flags w) drive ≡ true
online_is w drive at bay d on = flag_at w drive at bay true on.number on.there (ap is_some on.online)

missing_is : {D : Type 0} (w : WorldView D) (drive : ℕ) (why : _) → DriveMissing w drive why → is_online (online_flags w) drive ≡ false
missing_is w drive why (at, number, inl p) = no_flag w drive at number p.0
missing_is w drive why (at, number, inr p) = flag_at w drive at p.0 false number p.1 (ap is_some p.2)

-- a take that is refused: the drive isn't there, or not online, and nothing changed
pub take_refused : {D : Type 0} (meaning : D → Meaning) (w w' : WorldView D) (drive : ℕ) (why : _) → Moves meaning w (Take drive) (Refused why) w'
    → (is_online (online_flags w) drive ≡ false) × (w' ≡ w)
take_refused meaning w w' drive why (inl m) = (missing_is w drive m.0 m.2, m.3)
take_refused meaning w w' drive why (inr a) = absurd a.moves

-- a take that is answered: the drive is online
pub take_answered : {D : Type 0} (meaning : D → Meaning) (w w' : WorldView D) (drive : ℕ) (reply : Reply) → ((why : _) → reply ≡ Refused why → ⊥)
    → Moves meaning w (Take drive) reply w' → is_online (online_flags w) drive ≡ true
take_answered meaning w w' drive reply other (inl m) = absurd (other m.0 m.1)
take_answered meaning w w' drive reply other (inr a) = online_is w drive a.at a.bay a.d a.online

-- The drives below a number have had their turns.
pub record TurnedBelow {D : Type 0} (meaning : D → Meaning) (old : WorldView D) (number : ℕ) (turned : Round) (world : WorldView D) : Type 0 where
  pub plays : PlaysOn meaning (AreTurns (online_below (online_flags old) number)) old turned world
  pub flags : online_flags world ≡ online_flags old

pub turned_none : {D : Type 0} (meaning : D → Meaning) (w : WorldView D) (turned : Round) → Tells turned [] → TurnedBelow meaning w 1 turned w
turned_none meaning w turned tells = record { plays = on_none meaning (AreTurns []) w turned tells (refl, refl); flags = refl }

pub turned_more : {D : Type 0} (meaning : D → Meaning) (old world new : WorldView D) (number : ℕ) (turned here sum : Round) → 1 ≤ number
    → TurnedBelow meaning old number turned world → PlaysOn meaning (AreTurns (online_one (online_flags world) number)) world here new
    → sum.moved ≡ (turned.moved || here.moved) → sum.placed ≡ counted (turned.placed + here.placed)
    → TurnedBelow meaning old (number + 1) sum new
turned_more meaning old world new number turned here sum low p q moved placed =
    let flags = online_flags old in
    let Turns : List ℕ → List Event → List Reply → Type 0 = AreTurns in
    let one : PlaysOn meaning (Turns (online_one flags number)) world here new =
    subst (λ fs. PlaysOn meaning (Turns (online_one fs number)) world here new) p.flags q in
    record {
      plays = on_and meaning (Turns (online_below flags number)) (Turns (online_one flags number)) (Turns (online_below flags (number + 1)))
          old world new turned here sum p.plays one moved placed
          (λ es fs rs ss x y. subst (λ ds. Turns ds (es ++ fs) (rs ++ ss)) (sym (below_more flags number low))
          (turns-append (online_below flags number) (online_one flags number) es fs rs ss x y));
      flags = (along_stay meaning world new q.events q.replies (turns_retire_none _ q.events q.replies q.is_kind) q.along).flags ∙ p.flags;
    }

-- A round of both parts.

pub round_of : {D : Type 0} (meaning : D → Meaning) (old between new : WorldView D) (sent turned sum : Round)
    → PlaysOn meaning (AreSends (running_tickets old.sessions)) old sent between
    → PlaysOn meaning (AreTurns (drives_online between)) between turned new
    → sum.moved ≡ (sent.moved || turned.moved) → sum.placed ≡ counted (sent.placed + turned.placed)
    → PlaysOn meaning (IsRound old) old sum new
round_of meaning old between new sent turned sum p q moved placed =
    let flags = (along_stay meaning old between p.events p.replies (subst RetireNone (sym p.is_kind) (sends_retire_none (running_tickets old.sessions))) p.along).flags in
    on_and meaning (AreSends (running_tickets old.sessions)) (AreTurns (drives_online between)) (IsRound old) old between new sent turned sum p q moved placed
    (λ es fs rs ss x y. record {
      sent = rs;
      turns = fs;
      turned = ss;
      are_turns = subst (λ f. AreTurns (filter (is_online f) (range_with_len 1 most_drives)) fs ss) flags y;
      events_are = ap (λ l. l ++ fs) x;
      replies_are = refl;
    })

-- What rounds leave of the drives.

round_retires_none : {D : Type 0} (w : WorldView D) (es : List Event) (rs : List Reply) → IsRound w es rs → RetireNone es
round_retires_none w es rs r =
    subst RetireNone (sym r.events_are)
    (retire_none-append (sends (running_tickets w.sessions)) r.turns (sends_retire_none (running_tickets w.sessions)) (turns_retire_none (drives_online w) r.turns r.turned r.are_turns))

pub rounds_stay : {D : Type 0} (meaning : D → Meaning) (a b : WorldView D) (rounds : List (List Reply)) → PlaysRounds meaning a rounds b → DrivesStay a b
rounds_stay meaning a b [] p = drives_same a b p
rounds_stay meaning a b (rs ∷ rounds) p =
    drives_then a p.0 b (along_stay meaning a p.0 p.1.events rs (round_retires_none a p.1.events rs p.1.is_round) p.1.along) (rounds_stay meaning p.0 b rounds p.2)
