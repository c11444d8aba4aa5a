-- A cutting has one list and one end, and what begins it holds a beginning of its list.
use Rattle.std.proofs.Common.{◌≡◌, ◌≢◌, ℕ, refl, sym, ap, subst, ◌∙◌, arith, inl, inr, ◌⊎◌, List, [], ◌∷◌, ◌++◌, length, map, Bool, true, false}
use Rattle.std.specs.Prelude.{pos, Some, None}
use Rattle.std.proofs.lemmas.List.{append_assoc, append-nil, length-append, append_cancel_left, nil_from_length, map-append}
use Rattle.std.proofs.lemmas.Grind.{flat_map-append}
use Rattle.std.specs.List.{AllByRecursion}
use Rattle.sd_base.specs.Record.{Record, IsRecord}
use Rattle.sd_record.specs.Fragment.{Fragment, fragments_bytes, Fragments, FragmentsOfAll}
use Rattle.sd_record.proofs.FragmentLemmas.{fragments_apart}
use Rattle.sd_record.proofs.RecordLemmas.{first_same, rest_same, fragments_of_one, AreFragments, AreFragments-back, record_fragments, FragmentsOfAll-more}
use Rattle.sd_label.specs.declared.label.SessionLabel.{SessionLabel}
use Rattle.sd_label.specs.Label.{session_label_fragment, session_label_index}
use Rattle.sd_label.specs.Cutting.{Standing, Between, Within, AtEnd, Unfinished, Behind, IsSession, AreBodies, joined, HoldsBy, Holds, HoldsFront, BeginsCutting, Cuts}

-- a label's index is negative, a record's is not
pub label_is_no_record : (label : SessionLabel) (index : ℕ) → (session_label_fragment label).index ≡ pos index → ⊥
label_is_no_record label index e = elim label.totals as (λ t. session_label_index t ≡ pos index → ⊥) [ None ↦ (λ e. cc) | Some t ↦ (λ e. cc) ] e

-- a record has a fragment, whose index is the record's
first_fragment : (r : Record) (fs : List Fragment) → Fragments r fs → (f : Fragment) × (rest : List Fragment) × (fs ≡ f ∷ rest) × (f.index ≡ pos r.index)
first_fragment r [] c = absurd c
first_fragment r (f ∷ fs) c = (f, fs, refl, c.0.index_is)

pub front_nil : {X : Type 0} (xs ys : List X) → xs ++ ys ≡ [] → xs ≡ []
front_nil [] ys e = refl
front_nil (x ∷ xs) ys e = cc

append_longer : {X : Type 0} (xs ys zs : List X) → (xs ++ ys) ++ zs ≡ xs → ys ≡ []
append_longer xs ys zs e =
    nil_from_length ys (omega (arith, ap length e, length-append (xs ++ ys) zs, length-append xs ys))

-- what comes after the whole records begins with no whole record
pub behind_no_record : (all : List Record) (standing : Standing) (r : Record) (behind first rest : List Fragment)
    → Behind all standing behind → Fragments r first → behind ≡ first ++ rest → ⊥
behind_no_record all Between r behind first rest b c e =
    let g = first_fragment r first c in
    let none : first ≡ [] = front_nil first rest (sym e ∙ b) in
    cc (sym none ∙ g.2)
behind_no_record all Within r behind first rest b c e =
    let whole : first ++ (rest ++ b.remaining) ≡ (behind ++ b.remaining) ++ [] =
    sym (append_assoc first rest b.remaining) ∙ ap (λ l. l ++ b.remaining) (sym e) ∙ sym (append-nil (behind ++ b.remaining)) in
    let same = fragments_of_one r b.unfinished first (behind ++ b.remaining) (rest ++ b.remaining) [] c b.fragments_are whole in
    b.some_remain (append_longer behind b.remaining rest (sym (ap (λ l. l ++ rest) same.1) ∙ sym e))
behind_no_record all AtEnd r behind first rest b c e =
    let g = first_fragment r first c in
    let heads : session_label_fragment b.0 ∷ [] ≡ g.0 ∷ (g.1 ++ rest) = sym b.2 ∙ e ∙ ap (λ l. l ++ rest) g.2 in
    label_is_no_record b.0 r.index (ap (λ f. f.index) (first_same _ g.0 [] (g.1 ++ rest) heads) ∙ g.3)

-- a record's fragments do not begin with a label
unfinished_label : (fs : List Fragment) (label : SessionLabel) → Unfinished fs → fs ≡ session_label_fragment label ∷ [] → ⊥
unfinished_label fs label b e =
    let g = first_fragment b.unfinished (fs ++ b.remaining) b.fragments_are in
    let heads : session_label_fragment label ∷ b.remaining ≡ g.0 ∷ g.1 = ap (λ l. l ++ b.remaining) (sym e) ∙ g.2 in
    label_is_no_record label b.unfinished.index (ap (λ f. f.index) (first_same _ g.0 b.remaining g.1 heads) ∙ g.3)

-- what comes after the whole records tells the session's standing
behind_apart : (all all' : List Record) (standing standing' : Standing) (fs : List Fragment) → Behind all standing fs → Behind all' standing' fs → standing ≡ standing'
behind_apart all all' Between Between fs b c = refl
behind_apart all all' Between Within fs b c = absurd (c.some_there b)
behind_apart all all' Between AtEnd fs b c = absurd (cc (sym b ∙ c.2))
behind_apart all all' Within Between fs b c = absurd (b.some_there c)
behind_apart all all' Within Within fs b c = refl
behind_apart all all' Within AtEnd fs b c = absurd (unfinished_label fs c.0 b c.2)
behind_apart all all' AtEnd Between fs b c = absurd (cc (sym c ∙ b.2))
behind_apart all all' AtEnd Within fs b c = absurd (unfinished_label fs b.0 c b.2)
behind_apart all all' AtEnd AtEnd fs b c = refl

-- the whole records of one list of fragments are one list, and so is what comes after them
pub records_apart : (all all' rs rs' : List Record) (standing standing' : Standing) (parts parts' behind behind' : List Fragment)
    → FragmentsOfAll rs parts → FragmentsOfAll rs' parts' → Behind all standing behind → Behind all' standing' behind'
    → parts ++ behind ≡ parts' ++ behind' → (rs ≡ rs') × (behind ≡ behind')
records_apart all all' [] [] standing standing' parts parts' behind behind' c d b b' e =
    (refl, ap (λ l. l ++ behind) (sym c) ∙ e ∙ ap (λ l. l ++ behind') d)
records_apart all all' [] (r ∷ rs') standing standing' parts parts' behind behind' c d b b' e =
    absurd (behind_no_record all standing r behind d.0 (d.1 ++ behind') b d.3
    (ap (λ l. l ++ behind) (sym c) ∙ e ∙ ap (λ l. l ++ behind') d.2 ∙ append_assoc d.0 d.1 behind'))
records_apart all all' (r ∷ rs) [] standing standing' parts parts' behind behind' c d b b' e =
    absurd (behind_no_record all' standing' r behind' c.0 (c.1 ++ behind) b' c.3
    (ap (λ l. l ++ behind') (sym d) ∙ sym e ∙ ap (λ l. l ++ behind) c.2 ∙ append_assoc c.0 c.1 behind))
records_apart all all' (r ∷ rs) (s ∷ rs') standing standing' parts parts' behind behind' c d b b' e =
    let flat : c.0 ++ (c.1 ++ behind) ≡ d.0 ++ (d.1 ++ behind') =
    sym (append_assoc c.0 c.1 behind) ∙ ap (λ l. l ++ behind) (sym c.2) ∙ e ∙ ap (λ l. l ++ behind') d.2 ∙ append_assoc d.0 d.1 behind' in
    let one = fragments_of_one r s c.0 d.0 (c.1 ++ behind) (d.1 ++ behind') c.3 d.3 flat in
    let ih = records_apart all all' rs rs' standing standing' c.1 d.1 behind behind' c.4 d.4 b b' one.2 in
    (ap (λ x. x ∷ rs) one.0 ∙ ap (λ l. s ∷ l) ih.0, ih.1)

-- bodies are the bytes of one list of fragments each
pub bodies_apart : (fragments fragments' : List (List Fragment)) → AreBodies fragments → AreBodies fragments'
    → map fragments_bytes fragments ≡ map fragments_bytes fragments' → fragments ≡ fragments'
bodies_apart [] [] b b' e = refl
bodies_apart [] (gs ∷ fragments') b b' e = absurd (cc e)
bodies_apart (fs ∷ fragments) [] b b' e = absurd (cc e)
bodies_apart (fs ∷ fragments) (gs ∷ fragments') b b' e =
    let first = fragments_apart fs gs b.1 b'.1 (first_same _ _ _ _ e) in
    let rest = bodies_apart fragments fragments' b.2 b'.2 (rest_same (fragments_bytes fs) (fragments_bytes gs) _ _ e) in
    ap (λ x. x ∷ fragments) first ∙ ap (λ l. gs ∷ l) rest

-- one list of fragments is one session
pub session_apart : (fs : List Fragment) (rs rs' : List Record) (standing standing' : Standing)
    → IsSession fs rs standing → IsSession fs rs' standing' → (rs ≡ rs') × (standing ≡ standing')
session_apart fs rs rs' standing standing' s t =
    let flat = rest_same _ _ (s.parts ++ s.behind) (t.parts ++ t.behind) (sym s.order ∙ t.order) in
    let one = records_apart rs rs' rs rs' standing standing' s.parts t.parts s.behind t.behind s.parts_are t.parts_are s.behind_is t.behind_is flat in
    (one.0, behind_apart rs rs' standing standing' t.behind (subst (Behind rs standing) one.1 s.behind_is) t.behind_is)

-- bodies hold one list of whole records, and have one standing
pub holds_one : (bodies : List (List ℕ)) (rs rs' : List Record) (standing standing' : Standing)
    → Holds bodies rs standing → Holds bodies rs' standing' → (rs ≡ rs') × (standing ≡ standing')
holds_one bodies rs rs' standing standing' h h' =
    let same = bodies_apart h.fragments h'.fragments h.holds_by.bodies_are h'.holds_by.bodies_are (sym h.holds_by.bytes_are ∙ h'.holds_by.bytes_are) in
    session_apart (joined h'.fragments) rs rs' standing standing'
    (subst (λ p. IsSession (joined p) rs standing) same h.holds_by.session_is) h'.holds_by.session_is

-- The front of a session.

-- two lists that begin one list: one of them begins the other
pub fronts : {X : Type 0} (xs ys xs' ys' : List X) → xs ++ ys ≡ xs' ++ ys' → ((more : List X) × (xs ≡ xs' ++ more)) ⊎ ((more : List X) × (more ≢ []) × (xs' ≡ xs ++ more))
fronts [] ys [] ys' e = inl ([], refl)
fronts [] ys (x ∷ xs') ys' e = inr (x ∷ xs', (λ n. cc n), refl)
fronts (x ∷ xs) ys [] ys' e = inl (x ∷ xs, refl)
fronts (x ∷ xs) ys (y ∷ xs') ys' e =
    let same = first_same x y (xs ++ ys) (xs' ++ ys') e in
    elim (fronts xs ys xs' ys' (rest_same x y (xs ++ ys) (xs' ++ ys') e)) [
      | inl h ↦ inl (h.0, ap (λ a. a ∷ xs) same ∙ ap (λ l. y ∷ l) h.1)
      | inr h ↦ inr (h.0, h.1, ap (λ a. a ∷ xs') (sym same) ∙ ap (λ l. x ∷ l) h.2)
    ]

-- what the front of a session's fragments holds, where `all` are the records of the whole
record Front (all rs : List Record) (pre : List Fragment) : Type 0 where
  whole : List Record
  others : List Record
  standing : Standing
  parts : List Fragment
  behind : List Fragment
  records_split : rs ≡ whole ++ others
  order : pre ≡ parts ++ behind
  parts_are : FragmentsOfAll whole parts
  behind_is : Behind all standing behind
  ended_is_all : standing ≡ AtEnd → others ≡ []

front_of_nothing : (all rs : List Record) → Front all rs []
front_of_nothing all rs = record {
  whole = [];
  others = rs;
  standing = Between;
  parts = [];
  behind = [];
  records_split = refl;
  order = refl;
  parts_are = refl;
  behind_is = refl;
  ended_is_all = (λ e. absurd (cc e));
}

-- the first fragments of a record, not all of them
front_within : (all rs : List Record) (r : Record) (pre more : List Fragment) → IsRecord r → more ≢ [] → Fragments r (pre ++ more) → Front all rs pre
front_within all rs r [] more is_record some c = front_of_nothing all rs
front_within all rs r (f ∷ pre) more is_record some c = record {
  whole = [];
  others = rs;
  standing = Within;
  parts = [];
  behind = f ∷ pre;
  records_split = refl;
  order = refl;
  parts_are = refl;
  behind_is = record { unfinished = r; remaining = more; record_is = is_record; some_there = (λ n. cc n); some_remain = some; fragments_are = c };
  ended_is_all = (λ e. absurd (cc e));
}

pub back_nil : {X : Type 0} (xs ys : List X) → xs ++ ys ≡ [] → ys ≡ []
back_nil [] ys e = e
back_nil (x ∷ xs) ys e = cc

only_one : (f g : Fragment) (pre post : List Fragment) → f ∷ (pre ++ post) ≡ g ∷ [] → f ∷ pre ≡ g ∷ []
only_one f g pre post e =
    ap (λ h. h ∷ pre) (first_same f g (pre ++ post) [] e) ∙ ap (λ l. g ∷ l) (front_nil pre post (rest_same f g (pre ++ post) [] e))

-- the front of what comes after the whole records
front_of_behind : (all : List Record) (standing : Standing) (pre post behind : List Fragment) → Behind all standing behind → pre ++ post ≡ behind → Front all [] pre
front_of_behind all Between pre post behind b e =
    subst (Front all []) (sym (front_nil pre post (e ∙ b))) (front_of_nothing all [])
front_of_behind all Within pre post behind b e =
    let whole : Fragments b.unfinished (pre ++ (post ++ b.remaining)) =
    subst (Fragments b.unfinished) (ap (λ l. l ++ b.remaining) (sym e) ∙ append_assoc pre post b.remaining) b.fragments_are in
    front_within all [] b.unfinished pre (post ++ b.remaining) b.record_is (λ none. b.some_remain (back_nil post b.remaining none)) whole
front_of_behind all AtEnd [] post behind b e = front_of_nothing all []
front_of_behind all AtEnd (f ∷ pre) post behind b e = record {
  whole = [];
  others = [];
  standing = AtEnd;
  parts = [];
  behind = f ∷ pre;
  records_split = refl;
  order = refl;
  parts_are = refl;
  behind_is = (b.0, b.1, only_one f _ pre post (e ∙ b.2));
  ended_is_all = (λ e. refl);
}

-- the front of a session's fragments after the start label
front_of_session : (all rs : List Record) (standing : Standing) (pre post parts behind : List Fragment) → AllByRecursion IsRecord rs
    → FragmentsOfAll rs parts → Behind all standing behind → pre ++ post ≡ parts ++ behind → Front all rs pre
front_of_session all [] standing pre post parts behind are c b e =
    front_of_behind all standing pre post behind b (e ∙ ap (λ l. l ++ behind) c)
front_of_session all (r ∷ rs) standing pre post parts behind are c b e =
    let flat : pre ++ post ≡ c.0 ++ (c.1 ++ behind) = e ∙ ap (λ l. l ++ behind) c.2 ∙ append_assoc c.0 c.1 behind in
    elim (fronts pre post c.0 (c.1 ++ behind) flat) [
      | inl h ↦
          let rest : h.0 ++ post ≡ c.1 ++ behind =
          append_cancel_left c.0 (h.0 ++ post) (c.1 ++ behind) (sym (append_assoc c.0 h.0 post) ∙ ap (λ l. l ++ post) (sym h.1) ∙ flat) in
          let more = front_of_session all rs standing h.0 post c.1 behind are.1 c.4 b rest in
          record {
            whole = r ∷ more.whole;
            others = more.others;
            standing = more.standing;
            parts = c.0 ++ more.parts;
            behind = more.behind;
            records_split = ap (λ l. r ∷ l) more.records_split;
            order = h.1 ∙ ap (λ l. c.0 ++ l) more.order ∙ sym (append_assoc c.0 more.parts more.behind);
            parts_are = (c.0, more.parts, refl, c.3, more.parts_are);
            behind_is = more.behind_is;
            ended_is_all = more.ended_is_all;
          }
      | inr h ↦ front_within all (r ∷ rs) r pre h.0 are.0 h.1 (subst (Fragments r) h.2 c.3)
    ]

records-front : (xs ys : List Record) → AllByRecursion IsRecord (xs ++ ys) → AllByRecursion IsRecord xs
records-front [] ys are = tt
records-front (x ∷ xs) ys are = (are.0, records-front xs ys are.1)

pub AreBodies-front : (xs ys : List (List Fragment)) → AreBodies (xs ++ ys) → AreBodies xs
AreBodies-front [] ys are = tt
AreBodies-front (x ∷ xs) ys are = (are.0, are.1, AreBodies-front xs ys are.2)

-- the totals of the whole list serve if the front is the whole
behind_of_front : (rs whole others : List Record) (standing : Standing) (behind : List Fragment) → rs ≡ whole ++ others
    → (standing ≡ AtEnd → others ≡ []) → Behind rs standing behind → Behind whole standing behind
behind_of_front rs whole others Between behind split all b = b
behind_of_front rs whole others Within behind split all b = b
behind_of_front rs whole others AtEnd behind split all b =
    subst (λ l. Behind l AtEnd behind) (split ∙ ap (λ l. whole ++ l) (all refl) ∙ append-nil whole) b

-- a list of fragments for each body, cut where the bodies are
pub cut_bodies : (xs ys : List (List ℕ)) (fragments : List (List Fragment)) → xs ++ ys ≡ map fragments_bytes fragments
    → (front : List (List Fragment)) × (back : List (List Fragment)) × (fragments ≡ front ++ back) × (xs ≡ map fragments_bytes front)
cut_bodies [] ys fragments e = ([], fragments, refl, refl)
cut_bodies (x ∷ xs) ys [] e = absurd (cc e)
cut_bodies (x ∷ xs) ys (fs ∷ fragments) e =
    let more = cut_bodies xs ys fragments (rest_same _ _ _ _ e) in (
      fs ∷ more.0,
      more.1,
      ap (λ l. fs ∷ l) more.2,
      ap (λ b. b ∷ xs) (first_same x (fragments_bytes fs) (xs ++ ys) (map fragments_bytes fragments) e) ∙ ap (λ l. fragments_bytes fs ∷ l) more.3,
    )

-- the fragments of the front hold the front
front_held : (xs : List (List ℕ)) (rs : List Record) (standing : Standing) (fragments front back : List (List Fragment)) (bodies : List (List ℕ))
    → fragments ≡ front ++ back → xs ≡ map fragments_bytes front → front ≢ [] → HoldsBy fragments bodies rs standing → HoldsFront xs rs
front_held xs rs standing fragments [] back bodies split bytes some p = absurd (some refl)
front_held xs rs standing fragments ([] ∷ front) back bodies split bytes some p =
    let are = subst AreBodies split p.bodies_are in absurd (are.0 refl)
front_held xs rs standing fragments ((f ∷ fs) ∷ front) back bodies split bytes some p =
    let s = p.session_is in
    let are = subst AreBodies split p.bodies_are in
    let all : f ∷ ((fs ++ joined front) ++ joined back) ≡ session_label_fragment s.start ∷ (s.parts ++ s.behind) =
    ap (λ l. f ∷ l) (append_assoc fs (joined front) (joined back)) ∙ ap (λ l. f ∷ (fs ++ l)) (sym (flat_map-append (λ l. l) front back))
    ∙ ap joined (sym split) ∙ s.order in
    let held = front_of_session rs rs standing (fs ++ joined front) (joined back) s.parts s.behind s.records_are s.parts_are s.behind_is (rest_same _ _ _ _ all) in
    record {
      whole = held.whole;
      others = held.others;
      standing = held.standing;
      records_split = held.records_split;
      holds = record {
        fragments = (f ∷ fs) ∷ front;
        holds_by = record {
          bytes_are = bytes;
          bodies_are = AreBodies-front ((f ∷ fs) ∷ front) back are;
          session_is = record {
            start = s.start;
            parts = held.parts;
            behind = held.behind;
            order = ap (λ g. g ∷ (fs ++ joined front)) (first_same _ _ _ _ all) ∙ ap (λ l. session_label_fragment s.start ∷ l) held.order;
            start_is = s.start_is;
            records_are = records-front held.whole held.others (subst (AllByRecursion IsRecord) held.records_split s.records_are);
            parts_are = held.parts_are;
            behind_is = behind_of_front rs held.whole held.others held.standing held.behind held.records_split held.ended_is_all held.behind_is;
          };
        };
      };
    }

-- bodies that begin bodies hold a beginning of their list
pub holds_front : (xs ys : List (List ℕ)) (rs : List Record) (standing : Standing) → xs ≢ [] → Holds (xs ++ ys) rs standing → HoldsFront xs rs
holds_front [] ys rs standing some h = absurd (some refl)
holds_front (x ∷ xs) ys rs standing some h =
    let p = h.holds_by in
    let cut = cut_bodies (x ∷ xs) ys h.fragments p.bytes_are in
    front_held (x ∷ xs) rs standing h.fragments cut.0 cut.1 ((x ∷ xs) ++ ys) cut.2 cut.3 (λ none. cc (cut.3 ∙ ap (map fragments_bytes) none)) p

-- What begins a cutting.

-- one fragment in each body
abbrev alone : List Fragment → List (List Fragment)
alone [] = []
alone (f ∷ fs) = (f ∷ []) ∷ alone fs

joined-alone : (fs : List Fragment) → joined (alone fs) ≡ fs
joined-alone [] = refl
joined-alone (f ∷ fs) = ap (λ l. f ∷ l) (joined-alone fs)

alone_bodies : (fs : List Fragment) → AreFragments fs → AreBodies (alone fs)
alone_bodies [] are = tt
alone_bodies (f ∷ fs) are = ((λ none. cc none), (are.0, (λ more. refl), tt), alone_bodies fs are.1)

pub AreBodies-append : (xs ys : List (List Fragment)) → AreBodies xs → AreBodies ys → AreBodies (xs ++ ys)
AreBodies-append [] ys a b = b
AreBodies-append (x ∷ xs) ys a b = (a.0, a.1, AreBodies-append xs ys a.2 b)

pub records-more : (rs : List Record) (r : Record) → AllByRecursion IsRecord rs → IsRecord r → AllByRecursion IsRecord (rs ++ r ∷ [])
records-more [] r are is = (is, tt)
records-more (x ∷ xs) r are is = (are.0, records-more xs r are.1 is)

nothing_without_bodies : (fragments : List (List Fragment)) → map fragments_bytes fragments ≡ [] → fragments ≡ []
nothing_without_bodies [] e = refl
nothing_without_bodies (fs ∷ fragments) e = cc

-- no bodies hold no start label
session_with_bodies : (fragments : List (List Fragment)) (rs : List Record) {standing : Standing} → fragments ≡ [] → IsSession (joined fragments) rs standing → ⊥
session_with_bodies fragments rs none s = cc (ap joined (sym none) ∙ s.order)

-- bodies with an unfinished record become a cutting once its other fragments are in bodies of their own
unfinished_begins : (bodies : List (List ℕ)) (rs : List Record) (fragments : List (List Fragment)) (p : HoldsBy fragments bodies rs Within) → BeginsCutting bodies
unfinished_begins bodies rs fragments p =
    let s = p.session_is in
    let u = s.behind_is in
    let all : joined (fragments ++ alone u.remaining) ≡ session_label_fragment s.start ∷ ((s.parts ++ (s.behind ++ u.remaining)) ++ []) =
    flat_map-append (λ l. l) fragments (alone u.remaining) ∙ ap (λ l. joined fragments ++ l) (joined-alone u.remaining)
    ∙ ap (λ l. l ++ u.remaining) s.order
    ∙ ap (λ l. session_label_fragment s.start ∷ l) (append_assoc s.parts s.behind u.remaining ∙ sym (append-nil (s.parts ++ (s.behind ++ u.remaining)))) in
    record {
      more = map fragments_bytes (alone u.remaining);
      records = rs ++ u.unfinished ∷ [];
      ended = false;
      some_there = (λ none. session_with_bodies fragments rs (nothing_without_bodies fragments (sym p.bytes_are ∙ none)) s);
      cuts = record {
        fragments = fragments ++ alone u.remaining;
        holds_by = record {
          bytes_are = ap (λ l. l ++ map fragments_bytes (alone u.remaining)) p.bytes_are ∙ sym (map-append fragments_bytes fragments (alone u.remaining));
          bodies_are = AreBodies-append fragments (alone u.remaining) p.bodies_are (alone_bodies u.remaining (AreFragments-back s.behind u.remaining (record_fragments u.unfinished (s.behind ++ u.remaining) u.record_is u.fragments_are)));
          session_is = record {
            start = s.start;
            parts = s.parts ++ (s.behind ++ u.remaining);
            behind = [];
            order = all;
            start_is = s.start_is;
            records_are = records-more rs u.unfinished s.records_are u.record_is;
            parts_are = FragmentsOfAll-more rs u.unfinished s.parts (s.behind ++ u.remaining) s.parts_are u.fragments_are;
            behind_is = refl;
          };
        };
      };
    }

-- bodies that hold a session begin a cutting
pub holds_begins : (bodies : List (List ℕ)) (rs : List Record) (standing : Standing) → Holds bodies rs standing → BeginsCutting bodies
holds_begins bodies rs Between h = record {
  more = [];
  records = rs;
  ended = false;
  some_there = (λ none. session_with_bodies h.fragments rs (nothing_without_bodies h.fragments (sym h.holds_by.bytes_are ∙ none)) h.holds_by.session_is);
  cuts = subst (λ l. Holds l rs Between) (sym (append-nil bodies)) h;
}
holds_begins bodies rs Within h = unfinished_begins bodies rs h.fragments h.holds_by
holds_begins bodies rs AtEnd h = record {
  more = [];
  records = rs;
  ended = true;
  some_there = (λ none. session_with_bodies h.fragments rs (nothing_without_bodies h.fragments (sym h.holds_by.bytes_are ∙ none)) h.holds_by.session_is);
  cuts = subst (λ l. Holds l rs AtEnd) (sym (append-nil bodies)) h;
}

front_cut : (xs ys : List (List ℕ)) (rs : List Record) (ended : Bool) → xs ≢ [] → Cuts (xs ++ ys) rs ended → HoldsFront xs rs
front_cut xs ys rs false some c = holds_front xs ys rs Between some c
front_cut xs ys rs true some c = holds_front xs ys rs AtEnd some c

-- and bodies that begin a cutting hold a session
pub begins_holds : (bodies : List (List ℕ)) → (b : BeginsCutting bodies) → HoldsFront bodies b.records
begins_holds bodies b = front_cut bodies b.more b.records b.ended b.some_there b.cuts
