-- Each step on the queue keeps its rule.
use Rattle.std.proofs.Common.{◌≡◌, ◌≢◌, ◌⊎◌, ◌≤◌, ◌<◌, ℕ, zero, suc, ◌==◌, ◌-◌, eq-eqb, ne_eqb, true, false, true≢false, List, [], ◌∷◌, ◌++◌, length, set, sym, refl, ap, ◌∙◌, subst, ⊎_elim, inl, inr, append_assoc, lt_of_not-le, arith}
use Rattle.std.proofs.lemmas.List.{append-nil}
use Rattle.std.specs.Prelude.{if◌then◌else◌}
use native.Mathlib.Decide.{ℕ_discrete, dec_le}
use mathlib.Core.Option.{some, some-ne-none, some-injective}
use lib.ListN.{get_elem?}
use Rattle.crossbeam_queue.specs.Fifo.{Pushes, Pops, Forks, Merges, Learns}
use Rattle.crossbeam_queue.proofs.Lists.{at_set}
use Rattle.sd_lane.specs.declared.piece.Piece.{Piece}
use Rattle.sd_lane.specs.declared.piece.Queued.{Queued}
use Rattle.sd_lane.specs.Queue.{queued, pieces_of, LanesFollow, AreOfLanes}
use Rattle.sd_lane.proofs.QueueLemmas.{pieces_of-append}
use Rattle.sd_ruled.specs.Passes.{PassView, of_nobody, of_lane, of_drive, of_owner, one_lane_more, without_lane, only_lane, with_lane, at_rest, with_guest, without_guest, guest_alone}
use Rattle.sd_ruled.specs.Rule.{Fits, Keeps}
use Rattle.sd_ruled.specs.Seats.{StartsWith}
use Rattle.sd_ruled.specs.Steps.{Tells, Sent, Took, Put, Got, Lifted}
use Rattle.sd_ruled.proofs.Pieces.{of_here, of_other, others_as, own_is, lanes_more, lanes_behind, lane_within, from_1, none_left}

-- ---- views

abbrev All : (ℕ → PassView → Type 0) → List PassView → Type 0
All F views = (port : ℕ) (v : PassView) → get_elem? views port ≡ some v → F port v

all_set : (F : ℕ → PassView → Type 0) (views : List PassView) (port : ℕ) (w : PassView) → F port w → ((j : ℕ) (u : PassView) → j ≢ port → get_elem? views j ≡ some u → F j u) → All F (set views port w)
all_set F views port w mine others j u e = ⊎_elim (λ (x : (j ≡ port) × (w ≡ u)). subst (λ (y : ℕ × PassView). F y.0 y.1) (λ i. (sym x.0 i, x.1 i)) mine)
    (λ (x : (j ≢ port) × (get_elem? views j ≡ some u)). others j u x.0 x.1) (at_set views port j w u e)

at_new : (l : List PassView) (a b : PassView) (j : ℕ) → get_elem? (l ++ a ∷ []) j ≡ some b → (get_elem? l j ≡ some b) ⊎ ((j ≡ length l) × (a ≡ b))
at_new [] a b zero e = inr (refl, some-injective a b e)
at_new [] a b (suc j) e = absurd (some-ne-none b (sym e))
at_new (x ∷ xs) a b zero e = inl e
at_new (x ∷ xs) a b (suc j) e = ⊎_elim (λ t. inl t) (λ t. inr (ap suc t.0, t.1)) (at_new xs a b j e)

all_new : (F : ℕ → PassView → Type 0) (views : List PassView) (a : PassView) → F (length views) a → All F views → All F (views ++ a ∷ [])
all_new F views a mine others j u e = ⊎_elim (λ t. others j u t) (λ (t : (j ≡ length views) × (a ≡ u)). subst (λ (y : ℕ × PassView). F y.0 y.1) (λ i. (sym t.0 i, t.1 i)) mine) (at_new views a u j e)

off : {A : Type 0} → false ≡ true → A
off e = absurd (true≢false (sym e))

suc_of : (l : ℕ) → 1 ≤ l → (j : ℕ) × (l ≡ suc j)
suc_of zero least = absurd (omega (arith, least))
suc_of (suc j) least = (j, refl)

knows_nothing : (lanes : ℕ) (owner : ℕ → ℕ) (sent : ℕ → List Piece) (drive : ℕ) (taken held : List Queued) (pass : ℕ) → Fits lanes owner sent drive taken held pass of_nobody
knows_nothing lanes owner sent drive taken held pass = record { lane = off; drives = off; mine = off; knows = off; sees = off; hosts = off }

pub begins : Keeps [] (of_owner 0 [] [] ∷ [])
begins = record {
  lanes = 0;
  owner = λ _. 0;
  sent = λ _. [];
  drive = 0;
  taken = [];
  follows = λ k. refl;
  of_lanes = tt;
  fits = one;
}
  where
    one : (by : ℕ) (v : PassView) → get_elem? (of_owner 0 [] [] ∷ []) by ≡ some v → Fits 0 (λ _. 0) (λ _. []) 0 [] [] by v
    one zero v e = subst (Fits 0 (λ _. 0) (λ _. []) 0 [] [] 0) (some-injective _ _ e)
        (record { lane = off; drives = λ _. (refl, refl, refl); mine = λ _ j _. (refl, refl); knows = λ _ k. ([], refl); sees = λ _. (refl, refl, refl); hosts = off })
    one (suc by) v e = absurd (some-ne-none v (sym e))

-- ---- a push

starts_more : (s f : List Piece) (more : List Piece) → StartsWith s f → StartsWith (s ++ more) f
starts_more s f more h = (h.0 ++ more, ap (λ l. l ++ more) h.1 ∙ append_assoc f h.0 more)

starts_self : (s f : List Piece) → s ≡ f → StartsWith s f
starts_self s f e = ([], e ∙ sym (append-nil f))

-- what others know stays when a lane that is this pass's sends one more
others_push : (lanes : ℕ) (owner : ℕ → ℕ) (sent : ℕ → List Piece) (drive : ℕ) (taken held : List Queued) (pass : ℕ) (q : Queued) (j : ℕ) (u : PassView) → j ≢ pass → 1 ≤ q.lane → owner q.lane ≡ pass
    → Fits lanes owner sent drive taken held j u → Fits lanes owner (λ k. sent k ++ pieces_of k (q ∷ [])) drive taken (held ++ q ∷ []) j u
others_push lanes owner sent drive taken held pass q j u apart least own f =
    let same = λ (k : ℕ) (o : owner k ≡ j). let e : pieces_of k (q ∷ []) ≡ [] = of_other q k [] (λ x. apart (sym o ∙ (ap owner (sym x) ∙ own))) in sym (ap (λ l. sent k ++ l) e ∙ append-nil (sent k)) in
    let i = suc_of q.lane least in
    record {
      lane = λ s. let r = f.lane s in (r.0, r.1, r.2, r.3, r.4 ∙ same u.lane r.3);
      drives = f.drives;
      mine = λ t k m. let r = f.mine t k m in (r.0, r.1 ∙ same (suc k) r.0);
      knows = λ t k. starts_more (sent k) (pieces_of k u.before) (pieces_of k (q ∷ [])) (f.knows t k);
      sees = λ s. let r = f.sees s in absurd (apart (sym (f.mine r.1 i.0 (omega (arith, r.2))).0 ∙ (ap owner (sym i.1) ∙ own)));
      hosts = λ s. let r = f.hosts s in (r.0, r.1, r.2, r.3, r.4, r.5 ∙ same u.guest_lane r.1, r.6);
    }

follows_push : (sent : ℕ → List Piece) (taken held : List Queued) (q : Queued) → LanesFollow sent taken held → LanesFollow (λ k. sent k ++ pieces_of k (q ∷ [])) taken (held ++ q ∷ [])
follows_push sent taken held q h k = ap (λ l. l ++ pieces_of k (q ∷ [])) (h k) ∙ (sym (pieces_of-append k (taken ++ held) (q ∷ [])) ∙ ap (pieces_of k) (append_assoc taken held (q ∷ [])))

lanes_push : (lanes : ℕ) (taken held : List Queued) (q : Queued) → AreOfLanes lanes (taken ++ held) → 1 ≤ q.lane → q.lane ≤ lanes → AreOfLanes lanes (taken ++ (held ++ q ∷ []))
lanes_push lanes taken held q h least most = subst (AreOfLanes lanes) (append_assoc taken held (q ∷ [])) (lanes_more lanes (taken ++ held) q h least most)

sends_at : (n pass lanes l : ℕ) (s : List Piece) (x : Piece) → Pushes Keeps n pass (of_lane lanes l s) (queued l x) (λ w. w ≡ of_lane lanes l (s ++ x ∷ []))
sends_at n pass lanes l s x held views _ h at =
    let q = queued l x in
    let mine = (h.fits pass (of_lane lanes l s) at).lane refl in
    let w = of_lane lanes l (s ++ x ∷ []) in
    let F = Fits h.lanes h.owner (λ k. h.sent k ++ pieces_of k (q ∷ [])) h.drive h.taken (held ++ q ∷ []) in (
      w,
      record {
        lanes = h.lanes;
        owner = h.owner;
        sent = λ k. h.sent k ++ pieces_of k (q ∷ []);
        drive = h.drive;
        taken = h.taken;
        follows = follows_push h.sent h.taken held q h.follows;
        of_lanes = lanes_push h.lanes h.taken held q h.of_lanes mine.1 mine.2;
        fits = all_set F views pass w
            (record {
              lane = λ _. (mine.0, mine.1, mine.2, mine.3, ap (λ y. y ++ x ∷ []) mine.4 ∙ ap (λ y. h.sent l ++ y) (sym (of_here q l [] refl)));
              drives = off;
              mine = off;
              knows = off;
              sees = off;
              hosts = off;
            })
            (λ j u apart e. others_push h.lanes h.owner h.sent h.drive h.taken held pass q j u apart mine.1 mine.3 (h.fits j u e));
      },
      refl,
    )

pub sends : (n pass : ℕ) (v : PassView) (l : ℕ) (x : Piece) → v ≡ of_lane v.lanes l v.sent → Pushes Keeps n pass v (queued l x) (Sent v (queued l x))
sends n pass v l x is = subst (λ (u : PassView). Pushes Keeps n pass u (queued l x) (Sent u (queued l x))) (sym is) (sends_at n pass v.lanes l v.sent x)

puts_at : (n pass lanes : ℕ) (taken held : List Queued) (q : Queued) → 1 ≤ q.lane → q.lane ≤ lanes → Pushes Keeps n pass (of_owner lanes taken held) q (λ w. w ≡ of_owner lanes taken (held ++ q ∷ []))
puts_at n pass lanes taken held q least most items views _ h at =
    let f = h.fits pass (of_owner lanes taken held) at in
    let w = of_owner lanes taken (held ++ q ∷ []) in
    let i = suc_of q.lane least in
    let drives = f.drives refl in
    let sent_is = λ (k : ℕ). h.follows k ∙ (ap (λ l. pieces_of k (l ++ items)) (sym drives.2) ∙ ap (λ l. pieces_of k (taken ++ l)) (sym (f.sees refl).0)) in
    let own : h.owner q.lane ≡ pass = ap h.owner i.1 ∙ (f.mine refl i.0 (omega arith)).0 in
    let all = λ (k : ℕ) (s : List Piece) (e : pieces_of k (taken ++ held) ≡ s). ap (pieces_of k) (sym (append_assoc taken held (q ∷ []))) ∙ (pieces_of-append k (taken ++ held) (q ∷ []) ∙ ap (λ l. l ++ pieces_of k (q ∷ [])) e) in
    let F = Fits h.lanes h.owner (λ k. h.sent k ++ pieces_of k (q ∷ [])) h.drive h.taken (items ++ q ∷ []) in (
      w,
      record {
        lanes = h.lanes;
        owner = h.owner;
        sent = λ k. h.sent k ++ pieces_of k (q ∷ []);
        drive = h.drive;
        taken = h.taken;
        follows = follows_push h.sent h.taken items q h.follows;
        of_lanes = lanes_push h.lanes h.taken items q h.of_lanes least (subst (λ n. q.lane ≤ n) drives.0 most);
        fits = all_set F views pass w
            (record {
              lane = off;
              drives = f.drives;
              mine = λ t j m. let r = f.mine t j m in (r.0, all (suc j) (h.sent (suc j)) r.1);
              knows = λ t k. starts_self (h.sent k ++ pieces_of k (q ∷ [])) (pieces_of k (taken ++ (held ++ q ∷ []))) (sym (all k (h.sent k) (sym (sent_is k))));
              sees = λ s. (ap (λ l. l ++ q ∷ []) (f.sees s).0, refl, refl);
              hosts = off;
            })
            (λ j u apart e. others_push h.lanes h.owner h.sent h.drive h.taken items pass q j u apart least own (h.fits j u e));
      },
      refl,
    )

pub puts : (n pass : ℕ) (v : PassView) (lanes : ℕ) (q : Queued) → v ≡ of_owner lanes v.taken v.held → 1 ≤ q.lane → q.lane ≤ lanes → Pushes Keeps n pass v q (Put v q)
puts n pass v lanes q is least most = subst (λ (u : PassView). Pushes Keeps n pass u q (Put u q)) (sym is) (puts_at n pass lanes v.taken v.held q least most)

-- ---- a take

-- what others know stays when the drive's pass takes
others_pop : (lanes : ℕ) (owner : ℕ → ℕ) (sent : ℕ → List Piece) (drive : ℕ) (taken now held rest : List Queued) (pass : ℕ) (j : ℕ) (u : PassView) → j ≢ pass → drive ≡ pass
    → Fits lanes owner sent drive taken held j u → Fits lanes owner sent drive now rest j u
others_pop lanes owner sent drive taken now held rest pass j u apart own f =
    let no = λ (t : u.takes ≡ true). apart (sym (f.drives t).1 ∙ own) in
    record { lane = f.lane; drives = λ t. absurd (no t); mine = λ t. absurd (no t); knows = λ t. absurd (no t); sees = λ s. absurd (no (f.sees s).1); hosts = λ s. absurd (no (f.hosts s).0) }

follows_pop : (sent : ℕ → List Piece) (taken held : List Queued) (q : Queued) → LanesFollow sent taken (q ∷ held) → LanesFollow sent (taken ++ q ∷ []) held
follows_pop sent taken held q h k = h k ∙ ap (pieces_of k) (sym (append_assoc taken (q ∷ []) held))

lanes_pop : (lanes : ℕ) (taken held : List Queued) (q : Queued) → AreOfLanes lanes (taken ++ q ∷ held) → AreOfLanes lanes ((taken ++ q ∷ []) ++ held)
lanes_pop lanes taken held q h = subst (AreOfLanes lanes) (sym (append_assoc taken (q ∷ []) held)) h

pub takes : (pass : ℕ) (v : PassView) → v.takes ≡ true → Pops Keeps pass v (Took v)
takes pass v drives q held views h at =
    let f = h.fits pass v at in
    let mine = f.drives drives in
    let within = lane_within h.lanes h.taken q held h.of_lanes in
    let w = of_drive v.lanes v.away v.before (v.taken ++ q ∷ []) in
    let F = Fits h.lanes h.owner h.sent h.drive (h.taken ++ q ∷ []) held in (
      w,
      record {
        lanes = h.lanes;
        owner = h.owner;
        sent = h.sent;
        drive = h.drive;
        taken = h.taken ++ q ∷ [];
        follows = follows_pop h.sent h.taken held q h.follows;
        of_lanes = lanes_pop h.lanes h.taken held q h.of_lanes;
        fits = all_set F views pass w
            (record { lane = off; drives = λ _. (mine.0, mine.1, ap (λ y. y ++ q ∷ []) mine.2); mine = λ _. f.mine drives; knows = λ _. f.knows drives; sees = off; hosts = off })
            (λ j u apart e. others_pop h.lanes h.owner h.sent h.drive h.taken (h.taken ++ q ∷ []) (q ∷ held) held pass j u apart mine.1 (h.fits j u e));
      },
      (refl, within.0, subst (λ n. q.lane ≤ n) (sym mine.0) within.1),
    )

gets_at : (pass lanes : ℕ) (taken held : List Queued) → Pops Keeps pass (of_owner lanes taken held) (Got (of_owner lanes taken held))
gets_at pass lanes taken held q items views h at =
    let f = h.fits pass (of_owner lanes taken held) at in
    let mine = f.drives refl in
    let front = (f.sees refl).0 in
    let w = of_owner lanes (taken ++ q ∷ []) items in
    let as_was : (k : ℕ) → pieces_of k ((taken ++ q ∷ []) ++ items) ≡ pieces_of k (taken ++ held) = λ k. ap (pieces_of k) (append_assoc taken (q ∷ []) items ∙ ap (λ l. taken ++ l) (sym front)) in
    let F = Fits h.lanes h.owner h.sent h.drive (h.taken ++ q ∷ []) items in (
      w,
      record {
        lanes = h.lanes;
        owner = h.owner;
        sent = h.sent;
        drive = h.drive;
        taken = h.taken ++ q ∷ [];
        follows = follows_pop h.sent h.taken items q h.follows;
        of_lanes = lanes_pop h.lanes h.taken items q h.of_lanes;
        fits = all_set F views pass w
            (record {
              lane = off;
              drives = λ _. (mine.0, mine.1, ap (λ y. y ++ q ∷ []) mine.2);
              mine = λ t j m. let r = f.mine t j m in (r.0, as_was (suc j) ∙ r.1);
              knows = λ t k. let r = f.knows t k in (r.0, r.1 ∙ ap (λ l. l ++ r.0) (sym (as_was k)));
              sees = λ _. (refl, refl, refl);
              hosts = off;
            })
            (λ j u apart e. others_pop h.lanes h.owner h.sent h.drive h.taken (h.taken ++ q ∷ []) (q ∷ items) items pass j u apart mine.1 (h.fits j u e));
      },
      record { now = refl; front = front },
    )

pub gets : (pass : ℕ) (v : PassView) (lanes : ℕ) → v ≡ of_owner lanes v.taken v.held → Pops Keeps pass v (Got v)
gets pass v lanes is = subst (λ (u : PassView). Pops Keeps pass u (Got u)) (sym is) (gets_at pass lanes v.taken v.held)

lanes_less : (lanes : ℕ) (taken : List Queued) (q : Queued) (held : List Queued) → AreOfLanes lanes (taken ++ q ∷ held) → AreOfLanes lanes (taken ++ held)
lanes_less lanes [] q held h = h.1
lanes_less lanes (t ∷ ts) q held h = (h.0, lanes_less lanes ts q held h.1)

-- if one pass has all lanes and takes, the others know nothing
others_none : (lanes more : ℕ) (owner : ℕ → ℕ) (sent now : ℕ → List Piece) (drive : ℕ) (taken later held rest : List Queued) (pass : ℕ) (j : ℕ) (u : PassView) → j ≢ pass → drive ≡ pass → ((i : ℕ) → owner (suc i) ≡ pass)
    → Fits lanes owner sent drive taken held j u → Fits more owner now drive later rest j u
others_none lanes more owner sent now drive taken later held rest pass j u apart own all f =
    let no = λ (t : u.takes ≡ true). apart (sym (f.drives t).1 ∙ own) in
    let not = λ (s : u.sends ≡ true). let r = f.lane s in let i = suc_of u.lane r.1 in apart (sym r.3 ∙ (ap owner i.1 ∙ all i.0)) in
    record { lane = λ s. absurd (not s); drives = λ t. absurd (no t); mine = λ t. absurd (no t); knows = λ t. absurd (no t); sees = λ s. absurd (no (f.sees s).1); hosts = λ s. absurd (no (f.hosts s).0) }

pub lifts : (pass : ℕ) (v : PassView) → v.takes ≡ true → v.away ≡ 0 → Pops Keeps pass v (Lifted v)
lifts pass v takes none_away q held views h at =
    let f = h.fits pass v at in
    let mine = f.drives takes in
    let all = λ (j : ℕ). f.mine takes j (omega (arith, none_away)) in
    let now = λ (k : ℕ). pieces_of k (v.taken ++ held) in
    let w = of_owner v.lanes v.taken held in
    let are : AreOfLanes v.lanes (v.taken ++ q ∷ held) = subst (λ (x : ℕ × List Queued). AreOfLanes x.0 (x.1 ++ q ∷ held)) (λ i. (sym mine.0 i, sym mine.2 i)) h.of_lanes in
    let F = Fits h.lanes h.owner now h.drive h.taken held in (
      w,
      record {
        lanes = h.lanes;
        owner = h.owner;
        sent = now;
        drive = h.drive;
        taken = h.taken;
        follows = λ k. ap (λ l. pieces_of k (l ++ held)) mine.2;
        of_lanes = lanes_less h.lanes h.taken q held h.of_lanes;
        fits = all_set F views pass w
            (record { lane = off; drives = λ _. mine; mine = λ t j m. ((all j).0, refl); knows = λ t k. starts_self (now k) (now k) refl; sees = λ _. (refl, refl, refl); hosts = off })
            (λ j u apart e. others_none h.lanes h.lanes h.owner h.sent now h.drive h.taken h.taken (q ∷ held) held pass j u apart mine.1 (λ i. (all i).0) (h.fits j u e));
      },
      record {
        now = refl;
        front = λ s. (f.sees s).0;
        of_lanes = are;
        total = λ j. ap (λ l. pieces_of (suc j) (l ++ q ∷ held)) mine.2 ∙ (sym (h.follows (suc j)) ∙ sym (all j).1);
      },
    )

-- ---- what a pass learns

pub learns : (pass : ℕ) (v : PassView) → Learns Keeps pass v (Tells v)
learns pass v held views h at =
    let f = h.fits pass v at in
    record {
      exact = λ s. (f.sees s).0;
      last = λ s.
          let r = f.lane s in (
            subst (λ n. AreOfLanes n held) (sym r.0) (lanes_behind h.lanes h.taken held h.of_lanes),
            pieces_of v.lane h.taken,
            r.4 ∙ (h.follows v.lane ∙ pieces_of-append v.lane h.taken held),
          );
      of_lanes = λ t. let r = f.drives t in subst (λ (x : ℕ × List Queued). AreOfLanes x.0 (x.1 ++ held)) (λ i. (sym r.0 i, sym r.2 i)) h.of_lanes;
      after = λ t k. let r = f.knows t k in (r.0, ap (λ l. pieces_of k (l ++ held)) (f.drives t).2 ∙ (sym (h.follows k) ∙ r.1));
      total = λ t j m. ap (λ l. pieces_of (suc j) (l ++ held)) (f.drives t).2 ∙ (sym (h.follows (suc j)) ∙ sym (f.mine t j m).1);
      hosts = λ s. let r = f.hosts s in ap (λ l. pieces_of v.guest_lane (l ++ held)) (f.drives r.0).2 ∙ (sym (h.follows v.guest_lane) ∙ sym r.5);
    }

-- ---- splits and joins

pub opens : (pass : ℕ) (v : PassView) → v ≡ of_owner v.lanes [] [] → Forks Keeps pass v (one_lane_more v) of_nobody
opens pass v is held views h at =
    let f = h.fits pass v at in
    let takes : v.takes ≡ true = ap (λ (u : PassView). u.takes) is in
    let mine = f.drives takes in
    let sees = f.sees (ap (λ (u : PassView). u.sure) is) in
    let none : held ≡ [] = sym sees.0 ∙ ap (λ (u : PassView). u.held) is in
    let none_taken : h.taken ≡ [] = sym mine.2 ∙ ap (λ (u : PassView). u.taken) is in
    let all = λ (j : ℕ). f.mine takes j (omega (arith, sees.2)) in
    let w = one_lane_more v in
    let sent_is = λ (k : ℕ). h.follows k ∙ (ap (λ l. pieces_of k (l ++ held)) (sym mine.2) ∙ ap (λ l. pieces_of k (v.taken ++ l)) (sym sees.0)) in
    let F = Fits (suc h.lanes) h.owner h.sent h.drive h.taken held in
    record {
      lanes = suc h.lanes;
      owner = h.owner;
      sent = h.sent;
      drive = h.drive;
      taken = h.taken;
      follows = h.follows;
      of_lanes = subst (λ (x : List Queued × List Queued). AreOfLanes (suc h.lanes) (x.0 ++ x.1)) (λ i. (sym none_taken i, sym none i)) tt;
      fits = all_new F (set views pass w) of_nobody (knows_nothing (suc h.lanes) h.owner h.sent h.drive h.taken held (length (set views pass w)))
          (all_set F views pass w
          (record {
            lane = off;
            drives = λ _. (ap suc mine.0, mine.1, mine.2);
            mine = λ t j m. ((all j).0, sym (sent_is (suc j)));
            knows = λ t k. starts_self (h.sent k) (pieces_of k (v.taken ++ v.held)) (sent_is k);
            sees = λ _. (sees.0, refl, refl);
            hosts = off;
          })
          (λ j u apart e. others_none h.lanes (suc h.lanes) h.owner h.sent h.sent h.drive h.taken h.taken held held pass j u apart mine.1 (λ i. (all i).0) (h.fits j u e)));
    }

pub rests : (pass : ℕ) (v : PassView) → v.takes ≡ true → v.away ≡ 0 → AreOfLanes v.lanes v.taken → ((j : ℕ) → pieces_of (suc j) v.taken ≡ pieces_of (suc j) v.before) → Forks Keeps pass v (at_rest v) of_nobody
rests pass v takes none_away are done held views h at =
    let f = h.fits pass v at in
    let mine = f.drives takes in
    let all = λ (j : ℕ). f.mine takes j (omega (arith, none_away)) in
    let same = from_1 h.lanes v.lanes (v.taken ++ held) v.taken (subst (λ l. AreOfLanes h.lanes (l ++ held)) (sym mine.2) h.of_lanes) are
    (λ j. ap (λ l. pieces_of (suc j) (l ++ held)) mine.2 ∙ (sym (h.follows (suc j)) ∙ (sym (all j).1 ∙ sym (done j)))) in
    let empty = none_left v.taken held same in
    let sent_is = λ (k : ℕ). h.follows k ∙ (ap (λ l. pieces_of k (l ++ held)) (sym mine.2) ∙ ap (λ l. pieces_of k (v.taken ++ l)) empty) in
    let w = at_rest v in
    let F = Fits h.lanes h.owner h.sent h.drive h.taken held in
    record {
      lanes = h.lanes;
      owner = h.owner;
      sent = h.sent;
      drive = h.drive;
      taken = h.taken;
      follows = h.follows;
      of_lanes = h.of_lanes;
      fits = all_new F (set views pass w) of_nobody (knows_nothing h.lanes h.owner h.sent h.drive h.taken held (length (set views pass w)))
          (all_set F views pass w
          (record {
            lane = off;
            drives = λ _. mine;
            mine = λ t j m. ((all j).0, sym (sent_is (suc j)));
            knows = λ t k. starts_self (h.sent k) (pieces_of k (v.taken ++ [])) (sent_is k);
            sees = λ _. (sym empty, refl, refl);
            hosts = off;
          })
          (λ j u apart e. h.fits j u e));
    }

-- one lane gets another owner
abbrev given : (ℕ → ℕ) → ℕ → ℕ → ℕ → ℕ
given owner lane pass k = if lane == k then pass else owner k

given_here : (owner : ℕ → ℕ) (lane pass k : ℕ) → lane ≡ k → given owner lane pass k ≡ pass
given_here owner lane pass k e = ap (λ b. if b then pass else owner k) (eq-eqb lane k e)

given_else : (owner : ℕ → ℕ) (lane pass k : ℕ) → lane ≢ k → given owner lane pass k ≡ owner k
given_else owner lane pass k n = ap (λ b. if b then pass else owner k) (ne_eqb lane k n)

-- others keep what they know when a lane that isn't theirs gets another owner
others_given : (lanes : ℕ) (owner : ℕ → ℕ) (sent : ℕ → List Piece) (drive : ℕ) (taken held : List Queued) (lane new : ℕ) (j : ℕ) (u : PassView) → owner lane ≢ j → drive ≢ j
    → Fits lanes owner sent drive taken held j u → Fits lanes (given owner lane new) sent drive taken held j u
others_given lanes owner sent drive taken held lane new j u apart drive_apart f =
    let no = λ (t : u.takes ≡ true). drive_apart (f.drives t).1 in
    record {
      lane = λ s. let r = f.lane s in (r.0, r.1, r.2, given_else owner lane new u.lane (λ e. apart (ap owner e ∙ r.3)) ∙ r.3, r.4);
      drives = λ t. absurd (no t);
      mine = λ t. absurd (no t);
      knows = λ t. absurd (no t);
      sees = λ s. absurd (no (f.sees s).1);
      hosts = λ s. absurd (no (f.hosts s).0);
    }

pub cuts : (pass : ℕ) (v : PassView) → v.takes ≡ true → v.away < v.lanes → Forks Keeps pass v (without_lane v) (only_lane v)
cuts pass v takes some_left held views h at =
    let f = h.fits pass v at in
    let mine = f.drives takes in
    let l = suc v.away in
    let turn = f.mine takes v.away (omega arith) in
    let w = without_lane v in
    let n = length (set views pass w) in
    let owner = given h.owner l n in
    let F = Fits h.lanes owner h.sent h.drive h.taken held in
    record {
      lanes = h.lanes;
      owner = owner;
      sent = h.sent;
      drive = h.drive;
      taken = h.taken;
      follows = h.follows;
      of_lanes = h.of_lanes;
      fits = all_new F (set views pass w) (only_lane v)
          (record {
            lane = λ _. (mine.0, omega arith, omega (arith, some_left, mine.0), given_here h.owner l n l refl, turn.1);
            drives = off;
            mine = off;
            knows = off;
            sees = off;
            hosts = off;
          })
          (all_set F views pass w
          (record {
            lane = off;
            drives = λ _. mine;
            mine = λ t j m. let r = f.mine takes j (omega (arith, m)) in (given_else h.owner l n (suc j) (λ e. absurd (omega (arith, e, m))) ∙ r.0, r.1);
            knows = λ _. f.knows takes;
            sees = off;
            hosts = off;
          })
          (λ j u apart e. others_given h.lanes h.owner h.sent h.drive h.taken held l n j u (λ x. apart (sym x ∙ turn.0)) (λ x. apart (sym x ∙ mine.1)) (h.fits j u e)));
    }

pub meets : (pass : ℕ) (v : PassView) (other : ℕ) (u : PassView) → v.takes ≡ true → u.sends ≡ true → v.away ≡ u.lane → Merges Keeps pass v other u (with_lane v u) of_nobody
meets pass v other u takes speaks last held views h at two at' =
    let w = with_lane v u in
    let l = u.lane in
    let f = h.fits pass v at in
    let mine = f.drives takes in
    let vs = set views pass w in
    let was : get_elem? views other ≡ some u = ⊎_elim (λ x. absurd (two x.0)) (λ x. x.1) (at_set views pass other w u at') in
    let theirs = (h.fits other u was).lane speaks in
    let owner = given h.owner l pass in
    let F = Fits h.lanes owner h.sent h.drive h.taken held in
    let known = λ (k : ℕ). elim (ℕ_discrete l k) as (λ _. StartsWith (h.sent k) (pieces_of k w.before)) [
      | yes e ↦ starts_self (h.sent k) (pieces_of k w.before) (sym (ap (λ x. pieces_of x w.before) (sym e) ∙ (own_is l v.before u.sent ∙ (theirs.4 ∙ ap h.sent e))))
      | no n ↦ (let r = f.knows takes k in (r.0, r.1 ∙ ap (λ y. y ++ r.0) (sym (others_as l k v.before u.sent n))))
    ] in
    let here = λ (j : ℕ) (m : v.away - 1 ≤ j). elim (ℕ_discrete l (suc j)) as (λ _. (owner (suc j) ≡ pass) × (pieces_of (suc j) w.before ≡ h.sent (suc j))) [
      | yes e ↦ (given_here h.owner l pass (suc j) e, ap (λ x. pieces_of x w.before) (sym e) ∙ (own_is l v.before u.sent ∙ (theirs.4 ∙ ap h.sent e)))
      | no n ↦ (
          let r = f.mine takes j (behind v.away l j last m n) in (
            given_else h.owner l pass (suc j) n ∙ r.0,
            others_as l (suc j) v.before u.sent n ∙ r.1,
          )
          )
    ] in
    record {
      lanes = h.lanes;
      owner = owner;
      sent = h.sent;
      drive = h.drive;
      taken = h.taken;
      follows = h.follows;
      of_lanes = h.of_lanes;
      fits = all_set F vs other of_nobody (knows_nothing h.lanes owner h.sent h.drive h.taken held other)
          (λ j x apart e. ⊎_elim
          (λ (t : (j ≡ pass) × (w ≡ x)). subst (λ (y : ℕ × PassView). F y.0 y.1) (λ i. (sym t.0 i, t.1 i)) (record { lane = off; drives = λ _. mine; mine = λ _. here; knows = λ _. known; sees = off; hosts = off }))
          (λ (t : (j ≢ pass) × (get_elem? views j ≡ some x)). others_given h.lanes h.owner h.sent h.drive h.taken held l pass j x (λ y. apart (sym y ∙ theirs.3)) (λ y. t.0 (sym y ∙ mine.1)) (h.fits j x t.1))
          (at_set views pass j w x e));
    }
  where
    behind : (away l j : ℕ) → away ≡ l → away - 1 ≤ j → l ≢ suc j → away ≤ j
    behind away l j e m n = omega (arith, e, m, n)

-- ---- a visit

pub visits : (pass : ℕ) (v : PassView) (other : ℕ) (u : PassView) → v.takes ≡ true → u.sends ≡ true → Merges Keeps pass v other u (with_guest v u) of_nobody
visits pass v other u takes speaks held views h at two at' =
    let w = with_guest v u in
    let l = u.lane in
    let f = h.fits pass v at in
    let mine = f.drives takes in
    let vs = set views pass w in
    let was : get_elem? views other ≡ some u = ⊎_elim (λ x. absurd (two x.0)) (λ x. x.1) (at_set views pass other w u at') in
    let theirs = (h.fits other u was).lane speaks in
    let owner = given h.owner l pass in
    let F = Fits h.lanes owner h.sent h.drive h.taken held in
    let i = suc_of l theirs.1 in
    let within = elim (dec_le l v.away) as (λ _. l ≤ v.away) [
      | yes y ↦ y
      | no n ↦ absurd (two (sym theirs.3 ∙ (ap h.owner i.1 ∙ (f.mine takes i.0 (omega (arith, lt_of_not-le n, i.1))).0)))
    ] in
    let own = λ (k : ℕ) (e : h.owner k ≡ pass). elim (ℕ_discrete l k) as (λ _. owner k ≡ pass) [
      | yes y ↦ given_here h.owner l pass k y
      | no n ↦ given_else h.owner l pass k n ∙ e
    ] in
    record {
      lanes = h.lanes;
      owner = owner;
      sent = h.sent;
      drive = h.drive;
      taken = h.taken;
      follows = h.follows;
      of_lanes = h.of_lanes;
      fits = all_set F vs other of_nobody (knows_nothing h.lanes owner h.sent h.drive h.taken held other)
          (λ j x apart e. ⊎_elim
          (λ (t : (j ≡ pass) × (w ≡ x)). subst (λ (y : ℕ × PassView). F y.0 y.1) (λ i. (sym t.0 i, t.1 i)) (record {
            lane = off;
            drives = λ _. mine;
            mine = λ _ k m. let r = f.mine takes k m in (own (suc k) r.0, r.1);
            knows = λ _. f.knows takes;
            sees = off;
            hosts = λ _. (refl, given_here h.owner l pass l refl, theirs.1, within, theirs.2, theirs.4, theirs.0);
          }))
          (λ (t : (j ≢ pass) × (get_elem? views j ≡ some x)). others_given h.lanes h.owner h.sent h.drive h.taken held l pass j x (λ y. apart (sym y ∙ theirs.3)) (λ y. t.0 (sym y ∙ mine.1)) (h.fits j x t.1))
          (at_set views pass j w x e));
    }

pub goes : (pass : ℕ) (v : PassView) → v.takes ≡ true → v.guest ≡ true → Forks Keeps pass v (without_guest v) (guest_alone v)
goes pass v takes guest held views h at =
    let f = h.fits pass v at in
    let mine = f.drives takes in
    let r = f.hosts guest in
    let l = v.guest_lane in
    let w = without_guest v in
    let n = length (set views pass w) in
    let owner = given h.owner l n in
    let F = Fits h.lanes owner h.sent h.drive h.taken held in
    record {
      lanes = h.lanes;
      owner = owner;
      sent = h.sent;
      drive = h.drive;
      taken = h.taken;
      follows = h.follows;
      of_lanes = h.of_lanes;
      fits = all_new F (set views pass w) (guest_alone v)
          (record {
            lane = λ _. (r.6, r.2, r.4, given_here h.owner l n l refl, r.5);
            drives = off;
            mine = off;
            knows = off;
            sees = off;
            hosts = off;
          })
          (all_set F views pass w
          (record {
            lane = off;
            drives = λ _. mine;
            mine = λ _ j m. let q = f.mine takes j m in (given_else h.owner l n (suc j) (λ e. absurd (omega (arith, e, m, r.3))) ∙ q.0, q.1);
            knows = λ _. f.knows takes;
            sees = off;
            hosts = off;
          })
          (λ j u apart e. others_given h.lanes h.owner h.sent h.drive h.taken held l n j u (λ x. apart (sym x ∙ r.1)) (λ x. apart (sym x ∙ mine.1)) (h.fits j u e)));
    }

pub blanks : (pass : ℕ) (v : PassView) → Forks Keeps pass v v of_nobody
blanks pass v held views h at =
    let F = Fits h.lanes h.owner h.sent h.drive h.taken held in
    record {
      lanes = h.lanes;
      owner = h.owner;
      sent = h.sent;
      drive = h.drive;
      taken = h.taken;
      follows = h.follows;
      of_lanes = h.of_lanes;
      fits = all_new F (set views pass v) of_nobody (knows_nothing h.lanes h.owner h.sent h.drive h.taken held (length (set views pass v)))
          (all_set F views pass v (h.fits pass v at) (λ j u apart e. h.fits j u e));
    }
