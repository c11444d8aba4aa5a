-- Bodies of fragments, and what is at the place where a body is damaged.
use Rattle.std.proofs.Common.{◌≡◌, ◌≢◌, inl, inr, ℕ, refl, sym, ap, subst, ◌∙◌, List, [], ◌∷◌, ◌++◌, map}
use Rattle.std.specs.Prelude.{Some}
use Rattle.std.proofs.lemmas.List.{append_assoc, append-nil, map-append, append_cancel_left}
use Rattle.std.proofs.lemmas.Grind.{flat_map-append}
use Rattle.sd_base.specs.Record.{Record}
use Rattle.sd_record.specs.Fragment.{Fragment, fragment_bytes, fragments_bytes, IsFragment, GoesOn, FitTogether}
use Rattle.sd_record.proofs.FragmentLemmas.{fragment_apart, never_empty}
use Rattle.sd_record.proofs.RecordLemmas.{first_same, rest_same}
use Rattle.sd_label.specs.Cutting.{Standing, Between, Within, AtEnd, AreBodies, joined, IsSession, HoldsBy, Holds}
use Rattle.sd_label.proofs.CuttingLemmas.{AreBodies-append, AreBodies-front, cut_bodies, bodies_apart, front_nil, holds_one}
use Rattle.sd_unpack.specs.declared.damage.Damage.{Damage}
use Rattle.sd_unpack.specs.declared.stage.Stage.{Stage}
use Rattle.sd_unpack.specs.declared.stage.Stage.TheVariants.{Fresh, Whole, Partway, Closed}
use Rattle.sd_unpack.specs.Stage.{Reaches, AreTotalsOf, standing_at}
use Rattle.sd_unpack.specs.Damage.{CantStand, AreWhole, StopsAt, IsDamaged}
use Rattle.sd_unpack.specs.Unpacking.{Unpacking, Unpacks, UnpackedAreWhole, CuttingIsUnpacked}
use Rattle.sd_unpack.proofs.NextLemmas.{opens_unfinished}
use Rattle.sd_unpack.proofs.LabelLemmas.{cant_follow}

-- whole fragments and one more fit together
pub whole_fit : (fs : List Fragment) (f : Fragment) → AreWhole fs → IsFragment f → FitTogether (fs ++ f ∷ [])
whole_fit [] f whole is = (is, (λ more. refl), tt)
whole_fit (g ∷ fs) f whole is = (whole.0, (λ more. absurd (whole.1 more)), whole_fit fs f whole.2 is)

pub whole_more : (fs : List Fragment) (f : Fragment) → AreWhole fs → IsFragment f → (GoesOn f → ⊥) → AreWhole (fs ++ f ∷ [])
whole_more [] f whole is last = (is, last, tt)
whole_more (g ∷ fs) f whole is last = (whole.0, whole.1, whole_more fs f whole.2 is last)

pub fragments_bytes-append : (fs gs : List Fragment) → fragments_bytes (fs ++ gs) ≡ fragments_bytes fs ++ fragments_bytes gs
fragments_bytes-append fs gs = flat_map-append fragment_bytes fs gs

-- whole fragments at the front of a body's bytes are the first of its fragments
whole_front : (front gs : List Fragment) (rest : List ℕ) → AreWhole front → FitTogether gs → fragments_bytes gs ≡ fragments_bytes front ++ rest
    → (more : List Fragment) × (gs ≡ front ++ more) × FitTogether more × (fragments_bytes more ≡ rest)
whole_front [] gs rest whole fit e = (gs, refl, fit, e)
whole_front (f ∷ front) [] rest whole fit e =
    absurd (never_empty f front (front_nil (fragments_bytes (f ∷ front)) rest (sym e)))
whole_front (f ∷ front) (g ∷ gs) rest whole fit e =
    let flat : fragment_bytes g ++ fragments_bytes gs ≡ fragment_bytes f ++ (fragments_bytes front ++ rest) =
    e ∙ append_assoc (fragment_bytes f) (fragments_bytes front) rest in
    let first = fragment_apart g f (fragments_bytes gs) (fragments_bytes front ++ rest) fit.0 whole.0
    (λ more. ap fragments_bytes (fit.1 more)) (λ more. absurd (whole.1 more)) flat in
    let later = whole_front front gs rest whole.2 fit.2 first.1 in
    (later.0, ap (λ x. x ∷ gs) first.0 ∙ ap (λ l. f ∷ l) later.1, later.2, later.3)

bytes_of_some : (gs : List Fragment) → gs ≢ [] → fragments_bytes gs ≡ [] → ⊥
bytes_of_some [] some e = some refl
bytes_of_some (g ∷ gs) some e = never_empty g gs e

-- if the rest can't come next, no fragments of a session are the rest
rest_cant : (damage : Damage) (stage : Stage) (fs more : List Fragment) (records records' : List Record) (so_far rest : List ℕ) (standing : Standing)
    → Reaches stage fs records so_far → CantStand damage stage records rest → FitTogether more → more ≢ [] → fragments_bytes more ≡ rest
    → IsSession (fs ++ more) records' standing → ⊥
rest_cant damage stage fs [] records records' so_far rest standing r c fit some e t = some refl
rest_cant damage stage fs (g ∷ more) records records' so_far rest standing r c fit some e t =
    let g_last : GoesOn g → fragments_bytes more ≡ [] = (λ goes. ap fragments_bytes (fit.1 goes)) in
    elim c [
      | inl none ↦ none.1 g (fragments_bytes more) (record { fragment_is = fit.0; bytes_are = sym e; last = g_last })
      | inr h ↦
          let same = fragment_apart h.0 g h.1 (fragments_bytes more) h.2.fragment_is fit.0 h.2.last g_last (sym h.2.bytes_are ∙ sym e) in
          cant_follow damage stage fs records records' so_far standing h.0 more r h.3
          (subst (λ x. IsSession (fs ++ x ∷ more) records' standing) (sym same.0) t)
    ]

-- if a body's fragments stop, no session has it
stops_no_session : (fs gs : List Fragment) (body : List ℕ) (damage : Damage) (records : List Record) (standing : Standing) → StopsAt fs body damage
    → FitTogether gs → fragments_bytes gs ≡ body → IsSession (fs ++ gs) records standing → ⊥
stops_no_session fs gs body damage records standing s fit e t =
    let cut = whole_front s.front gs s.rest s.front_is fit (e ∙ s.bytes_are) in
    let session : IsSession ((fs ++ s.front) ++ cut.0) records standing =
    subst (λ l. IsSession l records standing) (ap (λ l. fs ++ l) cut.1 ∙ sym (append_assoc fs s.front cut.0)) t in
    let some_left : cut.0 ≢ [] = (λ none. s.rest_left (sym cut.3 ∙ ap fragments_bytes none)) in
    rest_cant damage s.stage (fs ++ s.front) cut.0 s.records records s.so_far s.rest standing s.reaches s.stops cut.2 some_left cut.3 session

-- Bodies.

pub joined-more : (fragments : List (List Fragment)) (fs : List Fragment) → joined (fragments ++ fs ∷ []) ≡ joined fragments ++ fs
joined-more fragments fs = flat_map-append (λ l. l) fragments (fs ∷ []) ∙ ap (λ l. joined fragments ++ l) (append-nil fs)

-- the fragments of the last body go on with those of the bodies before it
last_of_fragments : (fragments front back : List (List Fragment)) (fs : List Fragment) → fragments ≡ front ++ back → back ≡ fs ∷ [] → joined fragments ≡ joined front ++ fs
last_of_fragments fragments front back fs split one = ap joined (split ∙ ap (λ l. front ++ l) one) ∙ joined-more front fs

AreBodies-back : (xs ys : List (List Fragment)) → AreBodies (xs ++ ys) → AreBodies ys
AreBodies-back [] ys are = are
AreBodies-back (x ∷ xs) ys are = AreBodies-back xs ys are.2

-- the last body's fragments, if there is one last body
last_is_one : (back : List (List Fragment)) (body : List ℕ) → map fragments_bytes back ≡ body ∷ [] → (fs : List Fragment) × (back ≡ fs ∷ []) × (fragments_bytes fs ≡ body)
last_is_one [] body e = absurd (cc e)
last_is_one (fs ∷ []) body e = (fs, refl, first_same (fragments_bytes fs) body [] [] e)
last_is_one (fs ∷ gs ∷ back) body e = absurd (cc (rest_same (fragments_bytes fs) body (fragments_bytes gs ∷ map fragments_bytes back) [] e))

last_body : (bodies : List (List ℕ)) (body : List ℕ) (damage : Damage) (records : List Record) (standing : Standing) (fragments front back : List (List Fragment))
    → IsDamaged bodies body damage → fragments ≡ front ++ back → bodies ≡ map fragments_bytes front → map fragments_bytes back ≡ body ∷ []
    → HoldsBy fragments (bodies ++ body ∷ []) records standing → ⊥
last_body bodies body damage records standing fragments front back d split bytes last p =
    let one = last_is_one back body last in
    let are = subst AreBodies split p.bodies_are in
    let fit = subst AreBodies one.1 (AreBodies-back front back are) in
    let same : front ≡ d.fragments = bodies_apart front d.fragments (AreBodies-front front back are) d.bodies_are (sym bytes ∙ d.bytes_are) in
    let order : joined fragments ≡ joined d.fragments ++ one.0 = last_of_fragments fragments front back one.0 split one.1 ∙ ap (λ l. joined l ++ one.0) same in
    elim d.stops [
      | inl none ↦ bytes_of_some one.0 fit.0 (one.2 ∙ none.0)
      | inr stops ↦ stops_no_session (joined d.fragments) one.0 body damage records standing stops fit.1 one.2 (subst (λ l. IsSession l records standing) order p.session_is)
    ]

-- no cutting begins with the bodies and one that is damaged
pub damaged_no_cutting : (bodies : List (List ℕ)) (body : List ℕ) (damage : Damage) (records : List Record) (standing : Standing) → IsDamaged bodies body damage
    → Holds (bodies ++ body ∷ []) records standing → ⊥
damaged_no_cutting bodies body damage records standing d h =
    let cut = cut_bodies bodies (body ∷ []) h.fragments h.holds_by.bytes_are in
    let all : map fragments_bytes cut.0 ++ map fragments_bytes cut.1 ≡ map fragments_bytes cut.0 ++ body ∷ [] =
    sym (map-append fragments_bytes cut.0 cut.1) ∙ ap (map fragments_bytes) (sym cut.2) ∙ sym h.holds_by.bytes_are ∙ ap (λ l. l ++ body ∷ []) cut.3 in
    last_body bodies body damage records standing h.fragments cut.0 cut.1 d cut.2 cut.3 (append_cancel_left (map fragments_bytes cut.0) (map fragments_bytes cut.1) (body ∷ []) all) h.holds_by

-- One body more.

pub unpacks_more : (bodies : List (List ℕ)) (taken : List Record) (view : Unpacking) (body : List ℕ) (old : Unpacking) (fs : List Fragment)
    → (u : Unpacks bodies taken old) → FitTogether fs → body ≢ [] → body ≡ fragments_bytes fs
    → Reaches view.stage (joined u.fragments ++ fs) (taken ++ view.ready) view.so_far → AreTotalsOf view.totals (taken ++ view.ready)
    → Unpacks (bodies ++ body ∷ []) taken view
unpacks_more bodies taken view body old fs u fit some bytes reaches totals = record {
  fragments = u.fragments ++ fs ∷ [];
  bytes_are = ap (λ l. l ++ body ∷ []) u.bytes_are ∙ ap (λ b. map fragments_bytes u.fragments ++ b ∷ []) bytes ∙ sym (map-append fragments_bytes u.fragments (fs ∷ []));
  bodies_are = AreBodies-append u.fragments (fs ∷ []) u.bodies_are ((λ none. some (bytes ∙ ap fragments_bytes none)), fit, tt);
  reaches = subst (λ l. Reaches view.stage l (taken ++ view.ready) view.so_far) (sym (joined-more u.fragments fs)) reaches;
  totals_are = totals;
}

-- The laws.

reached_session : (stage : Stage) (fs : List Fragment) (records : List Record) (so_far : List ℕ) (standing : Standing) → Reaches stage fs records so_far
    → standing_at stage ≡ Some standing → IsSession fs records standing
reached_session Fresh fs records so_far standing r e = absurd (cc e)
reached_session Whole fs records so_far standing r e =
    let same : Between ≡ standing = cc e in subst (IsSession fs records) same r
reached_session (Partway due) fs records so_far standing r e = let same : Within ≡ standing = cc e in subst (IsSession fs records) same (record {
  start = r.start;
  parts = r.parts;
  behind = r.behind;
  order = r.order;
  start_is = r.start_is;
  records_are = r.records_are;
  parts_are = r.parts_are;
  behind_is = opens_unfinished r.behind due so_far r.behind_is;
})
reached_session Closed fs records so_far standing r e =
    let same : AtEnd ≡ standing = cc e in subst (IsSession fs records) same r

pub unpacked_whole : UnpackedAreWhole
unpacked_whole bodies taken view standing u e = record {
  fragments = u.fragments;
  holds_by = record {
    bytes_are = u.bytes_are;
    bodies_are = u.bodies_are;
    session_is = reached_session view.stage (joined u.fragments) (taken ++ view.ready) view.so_far standing u.reaches e;
  };
}

-- the stage says what standing a session has
stage_of : (stage : Stage) (bodies : List (List ℕ)) (records taken : List Record) (view : Unpacking) (standing : Standing) → view.stage ≡ stage → Unpacks bodies taken view
    → Holds bodies records standing → (records ≡ taken ++ view.ready) × (standing_at stage ≡ Some standing)
stage_of Fresh bodies records taken view standing is u h =
    let r = subst (λ s. Reaches s (joined u.fragments) (taken ++ view.ready) view.so_far) is u.reaches in
    let same = bodies_apart h.fragments u.fragments h.holds_by.bodies_are u.bodies_are (sym h.holds_by.bytes_are ∙ u.bytes_are) in
    absurd (cc (sym r.0 ∙ ap joined (sym same) ∙ h.holds_by.session_is.order))
stage_of Whole bodies records taken view standing is u h =
    let one = holds_one bodies records (taken ++ view.ready) standing Between h (unpacked_whole bodies taken view Between u (ap standing_at is)) in
    (one.0, ap (λ s. Some s) (sym one.1))
stage_of (Partway due) bodies records taken view standing is u h =
    let one = holds_one bodies records (taken ++ view.ready) standing Within h (unpacked_whole bodies taken view Within u (ap standing_at is)) in
    (one.0, ap (λ s. Some s) (sym one.1))
stage_of Closed bodies records taken view standing is u h =
    let one = holds_one bodies records (taken ++ view.ready) standing AtEnd h (unpacked_whole bodies taken view AtEnd u (ap standing_at is)) in
    (one.0, ap (λ s. Some s) (sym one.1))

closed_of : (stage : Stage) → standing_at stage ≡ Some AtEnd → stage ≡ Closed
closed_of Fresh e = absurd (cc e)
closed_of Whole e = absurd (cc e)
closed_of (Partway due) e = absurd (cc e)
closed_of Closed e = refl

pub cutting_unpacked : CuttingIsUnpacked
cutting_unpacked bodies records taken view u = (
  (λ h. (stage_of view.stage bodies records taken view Between refl u h).0),
  (λ h. let s = stage_of view.stage bodies records taken view AtEnd refl u h in (s.0, closed_of view.stage s.1)),
)
