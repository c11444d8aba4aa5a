-- Packed bodies with a record more, fragment by fragment, or with a label.
use Rattle.std.proofs.Common.{◌≡◌, ◌≢◌, ℕ, ◌+◌, ◌<◌, ◌≤◌, refl, sym, ap, subst, ◌∙◌, arith, inl, List, [], ◌∷◌, ◌++◌, take, drop, length, map}
use Rattle.std.specs.Prelude.{ℤ, pos, neg_ℤ}
use Rattle.std.proofs.lemmas.List.{append_assoc, append-nil, length-append, length-take-le, take-append-drop, drop_all, map-append}
use Rattle.std.specs.List.{AllByRecursion}
use Rattle.sd_base.specs.Record.{Record, IsRecord}
use Rattle.sd_record.specs.Fragment.{Fragment, fragment_bytes, fragments_bytes, IsFragment, GoesOn, BeginsData, Continue, Fragments, FragmentsOfAll}
use Rattle.sd_record.proofs.FragmentLemmas.{length-fragment_bytes}
use Rattle.sd_record.proofs.RecordLemmas.{first_same, rest_same, record_fragments, AreFragments-back, FragmentsOfAll-more}
use Rattle.sd_label.specs.declared.label.SessionLabel.{SessionLabel}
use Rattle.sd_label.specs.Label.{session_label_fragment}
use Rattle.sd_label.specs.Cutting.{Standing, Between, IsStart, IsSession, joined, LastGoesOn, AreBodies, AreTight}
use Rattle.sd_label.proofs.CuttingLemmas.{records-more}
use Rattle.sd_pack.specs.Body.{PackedBody, body_of, with_fragment, empty_body}
use Rattle.sd_pack.specs.Packing.{Packs, bytes_of}
use Rattle.sd_pack.specs.RecordParts.{first_fragment, later_fragment, FitsAlone, FitAlone, bodies_alone, LaterBodies}
use Rattle.sd_pack.proofs.BodyLemmas.{some_length, fragments_bytes-push, body_of-push, body_of-one, bytes_of-bodies}
use Rattle.sd_pack.proofs.TightLemmas.{LastGoesOn-back, LastGoesOn-push, last_whole, StandTightly, stand_last, stand_behind, joined-last, joined-behind}

-- the fragments of the last body, apart from those before it
split_last : (front : List PackedBody) (body : PackedBody) (fragments : List (List Fragment)) → front ++ body ∷ [] ≡ map body_of fragments
    → (lists : List (List Fragment)) × (last : List Fragment) × (fragments ≡ lists ++ last ∷ []) × (front ≡ map body_of lists) × (body ≡ body_of last)
split_last [] body [] e = absurd (cc e)
split_last [] body (fs ∷ []) e = ([], fs, refl, refl, first_same body (body_of fs) [] [] e)
split_last [] body (fs ∷ gs ∷ fragments) e = absurd (cc (rest_same body (body_of fs) [] (body_of gs ∷ map body_of fragments) e))
split_last (b ∷ front) body [] e = absurd (cc e)
split_last (b ∷ front) body (fs ∷ fragments) e =
    let more = split_last front body fragments (rest_same b (body_of fs) (front ++ body ∷ []) (map body_of fragments) e) in (
      fs ∷ more.0,
      more.1,
      ap (λ l. fs ∷ l) more.2,
      ap (λ x. x ∷ front) (first_same b (body_of fs) (front ++ body ∷ []) (map body_of fragments) e) ∙ ap (λ l. body_of fs ∷ l) more.3,
      more.4,
    )

-- packed bodies between two records, the last of them apart
pub record PacksBetween (room : ℕ) (front : List PackedBody) (body : PackedBody) (records : List Record) : Type 0 where
  pub lists : List (List Fragment)
  pub last : List Fragment
  pub front_is : front ≡ map body_of lists
  pub body_is : body ≡ body_of last
  pub tightly : StandTightly room (lists ++ last ∷ [])
  pub session : IsSession (joined (lists ++ last ∷ [])) records Between

pub packs_between : (room : ℕ) (front : List PackedBody) (body : PackedBody) (records : List Record) → Packs room (front ++ body ∷ []) records Between
    → PacksBetween room front body records
packs_between room front body records p =
    let s = split_last front body p.fragments p.bodies_are in
    record {
      lists = s.0;
      last = s.1;
      front_is = s.3;
      body_is = s.4;
      tightly = record { bodies_are = subst (λ l. AreBodies l) s.2 p.holds_by.bodies_are; tight = subst (λ l. AreTight room l) s.2 p.tight };
      session = subst (λ l. IsSession (joined l) records Between) s.2 p.holds_by.session_is;
    }

pub packs_tightly : (room : ℕ) (bodies : List PackedBody) (records : List Record) (standing : Standing) (fragments : List (List Fragment))
    → bodies ≡ map body_of fragments → StandTightly room fragments → IsSession (joined fragments) records standing → Packs room bodies records standing
packs_tightly room bodies records standing fragments are is session = record {
  fragments = fragments;
  holds_by = record { bytes_are = ap bytes_of are ∙ bytes_of-bodies fragments; bodies_are = is.bodies_are; session_is = session };
  tight = is.tight;
  bodies_are = are;
}

pub bodies-last : (lists : List (List Fragment)) (last : List Fragment) (front : List PackedBody) (body : PackedBody) (f : Fragment) → front ≡ map body_of lists
    → body ≡ body_of last → front ++ with_fragment body f ∷ [] ≡ map body_of (lists ++ (last ++ f ∷ []) ∷ [])
bodies-last lists last front body f are is =
    ap (λ l. l ++ with_fragment body f ∷ []) are ∙ ap (λ b. map body_of lists ++ with_fragment b f ∷ []) is
    ∙ ap (λ b. map body_of lists ++ b ∷ []) (sym (body_of-push last f)) ∙ sym (map-append body_of lists ((last ++ f ∷ []) ∷ []))

pub bodies-behind : (fragments : List (List Fragment)) (bodies : List PackedBody) (f : Fragment) → bodies ≡ map body_of fragments
    → bodies ++ body_of (f ∷ []) ∷ [] ≡ map body_of (fragments ++ (f ∷ []) ∷ [])
bodies-behind fragments bodies f are = ap (λ l. l ++ body_of (f ∷ []) ∷ []) are ∙ sym (map-append body_of fragments ((f ∷ []) ∷ []))

pub bodies_and_last : (lists : List (List Fragment)) (last : List Fragment) (front : List PackedBody) (body : PackedBody) → front ≡ map body_of lists
    → body ≡ body_of last → front ++ body ∷ [] ≡ map body_of (lists ++ last ∷ [])
bodies_and_last lists last front body are is =
    ap (λ l. l ++ body ∷ []) are ∙ ap (λ b. map body_of lists ++ b ∷ []) is ∙ sym (map-append body_of lists (last ∷ []))

-- A record on its way: bodies that pack these records and the front of one more, of whose data `left` remain.
pub record PacksPart (room : ℕ) (bodies : List PackedBody) (records : List Record) (r : Record) (left : List ℕ) : Type 0 where
  pub lists : List (List Fragment)
  pub last : List Fragment
  pub start : SessionLabel
  pub parts : List Fragment
  pub begun : List Fragment
  pub bodies_are : bodies ≡ map body_of (lists ++ last ∷ [])
  pub tightly : StandTightly room (lists ++ last ∷ [])
  pub order : joined (lists ++ last ∷ []) ≡ session_label_fragment start ∷ (parts ++ begun)
  pub start_is : IsStart start
  pub records_are : AllByRecursion IsRecord records
  pub parts_are : FragmentsOfAll records parts
  pub record_is : IsRecord r
  pub completes : (more : List Fragment) → Continue (pos r.index) (pos r.stream) left more → Fragments r (begun ++ more)
  pub goes_on : left ≢ [] → LastGoesOn last
  pub full : LastGoesOn last → length (fragments_bytes last) ≡ room

-- once nothing remains the record is packed
part_done : (room : ℕ) (bodies : List PackedBody) (records : List Record) (r : Record) → PacksPart room bodies records r [] → Packs room bodies (records ++ r ∷ []) Between
part_done room bodies records r p =
    packs_tightly room bodies (records ++ r ∷ []) Between (p.lists ++ p.last ∷ []) p.bodies_are p.tightly (record {
      start = p.start;
      parts = p.parts ++ p.begun;
      behind = [];
      order = p.order ∙ ap (λ l. session_label_fragment p.start ∷ l) (sym (append-nil (p.parts ++ p.begun)));
      start_is = p.start_is;
      records_are = records-more records r p.records_are p.record_is;
      parts_are = FragmentsOfAll-more records r p.parts p.begun p.parts_are (subst (Fragments r) (append-nil p.begun) (p.completes [] refl));
      behind_is = refl;
    })

-- if the last fragment of a list goes on, it does so itself
one_goes_on : (fs : List Fragment) (f : Fragment) → LastGoesOn (fs ++ f ∷ []) → GoesOn f
one_goes_on fs f more = LastGoesOn-back fs f [] more

pub length-one : (f : Fragment) → length (fragments_bytes (f ∷ [])) ≡ length (fragment_bytes f)
length-one f = ap length (append-nil (fragment_bytes f))

-- data of which more remain than a fragment has make it go on
data_go_on : (f : Fragment) (index stream : ℤ) (left : List ℕ) → BeginsData f index stream left → drop (length f.part) left ≢ [] → GoesOn f
data_go_on f index stream left begins some =
    let size = begins.size_is in
    let more = some_length (drop (length f.part) left) some in
    let long = ap length begins.part_first ∙ length-append f.part (drop (length f.part) left) in
    omega arith

-- The first fragment.

-- the part of a fragment, and what it leaves
part_long : (count : ℕ) (left : List ℕ) → count ≤ length left → drop (length (take count left)) left ≡ drop count left
part_long count left within = ap (λ n. drop n left) (length-take-le count left within)

part_begins : (count : ℕ) (left : List ℕ) → count ≤ length left → left ≡ take count left ++ drop (length (take count left)) left
part_begins count left within = sym (ap (λ l. take count left ++ l) (part_long count left within) ∙ take-append-drop count left)

first_begins : (r : Record) (count : ℕ) → count ≤ length r.bytes → BeginsData (first_fragment r count) (pos r.index) (pos r.stream) r.bytes
first_begins r count within = record { index_is = refl; stream_is = refl; size_is = refl; part_first = part_begins count r.bytes within }

later_begins : (r : Record) (left : List ℕ) (count : ℕ) → count ≤ length left → BeginsData (later_fragment r left count) (pos r.index) (neg_ℤ (pos r.stream)) left
later_begins r left count within = record { index_is = refl; stream_is = refl; size_is = refl; part_first = part_begins count left within }

-- all the data that are left as one fragment, or none
completion : (r : Record) (left : List ℕ) → (more : List Fragment) × Continue (pos r.index) (pos r.stream) left more
completion r [] = ([], refl)
completion r (x ∷ left) =
    let all : length (take (length (x ∷ left)) (x ∷ left)) ≡ length (x ∷ left) = length-take-le (length (x ∷ left)) (x ∷ left) (omega arith) in (
      later_fragment r (x ∷ left) (length (x ∷ left)) ∷ [],
      (
        later_begins r (x ∷ left) (length (x ∷ left)) (omega arith),
        (λ none. cc none),
        drop_all (length (take (length (x ∷ left)) (x ∷ left))) (x ∷ left) (omega arith),
      ),
    )

-- a record's first fragment completed by later ones is the record's
pub first_completes : (r : Record) (count : ℕ) (more : List Fragment) → count ≤ length r.bytes → Continue (pos r.index) (pos r.stream) (drop count r.bytes) more
    → Fragments r (first_fragment r count ∷ more)
first_completes r count more within c =
    (first_begins r count within, subst (λ l. Continue (pos r.index) (pos r.stream) l more) (sym (part_long count r.bytes within)) c)

first_is_fragment : (r : Record) (count : ℕ) → IsRecord r → count ≤ length r.bytes → IsFragment (first_fragment r count)
first_is_fragment r count is within =
    let rest = completion r (drop count r.bytes) in
    (record_fragments r (first_fragment r count ∷ rest.0) is (first_completes r count rest.0 within rest.1)).0

pub first_length : (r : Record) (count : ℕ) → count ≤ length r.bytes → length (fragment_bytes (first_fragment r count)) ≡ 12 + count
first_length r count within = length-fragment_bytes (first_fragment r count) ∙ ap (λ n. 12 + n) (length-take-le count r.bytes within)

first_more : (r : Record) (count : ℕ) → count ≤ length r.bytes → drop count r.bytes ≢ [] → GoesOn (first_fragment r count)
first_more r count within some =
    data_go_on (first_fragment r count) (pos r.index) (pos r.stream) r.bytes (first_begins r count within) (λ none. some (sym (part_long count r.bytes within) ∙ none))

-- whether a first fragment goes on, in numbers
first_on : (r : Record) (count : ℕ) → count ≤ length r.bytes → GoesOn (first_fragment r count) → count < length r.bytes
first_on r count within more = omega (arith, length-take-le count r.bytes within)

-- a record begins in the last body
pub begins_last : (room : ℕ) (front : List PackedBody) (body : PackedBody) (records : List Record) (r : Record) (count : ℕ)
    → IsRecord r → count ≤ length r.bytes → length body.bytes + (12 + count) ≤ room → (count < length r.bytes → length body.bytes + (12 + count) ≡ room)
    → Packs room (front ++ body ∷ []) records Between
    → PacksPart room (front ++ with_fragment body (first_fragment r count) ∷ []) records r (drop count r.bytes)
begins_last room front body records r count is within fits fills packs =
    let p = packs_between room front body records packs in
    let s = p.session in
    let f = first_fragment r count in
    let long = first_length r count within in
    let old : length body.bytes ≡ length (fragments_bytes p.last) = ap (λ b. length b.bytes) p.body_is in
    let whole : length (fragments_bytes (p.last ++ f ∷ [])) ≡ length (fragments_bytes p.last) + length (fragment_bytes f) =
    ap length (fragments_bytes-push p.last f) ∙ length-append (fragments_bytes p.last) (fragment_bytes f) in
    record {
      lists = p.lists;
      last = p.last ++ f ∷ [];
      start = s.start;
      parts = s.parts;
      begun = f ∷ [];
      bodies_are = bodies-last p.lists p.last front body f p.front_is p.body_is;
      tightly = stand_last room p.lists p.last f p.tightly (last_whole p.lists p.last records s) (first_is_fragment r count is within) (omega arith);
      order = joined-last p.lists p.last f ∙ ap (λ l. l ++ f ∷ []) (s.order ∙ ap (λ l. session_label_fragment s.start ∷ (s.parts ++ l)) s.behind_is ∙ ap (λ l. session_label_fragment s.start ∷ l) (append-nil s.parts));
      start_is = s.start_is;
      records_are = s.records_are;
      parts_are = s.parts_are;
      record_is = is;
      completes = (λ more c. first_completes r count more within c);
      goes_on = (λ some. LastGoesOn-push p.last f (first_more r count within some));
      full = (λ more. let filled = fills (first_on r count within (one_goes_on p.last f more)) in omega arith);
    }

-- a record begins after a body that has no room for its header
pub begins_behind : (room : ℕ) (front : List PackedBody) (body : PackedBody) (records : List Record) (r : Record) (count : ℕ)
    → IsRecord r → count ≤ length r.bytes → room < length body.bytes + 12 → 12 + count ≤ room → (count < length r.bytes → 12 + count ≡ room)
    → Packs room (front ++ body ∷ []) records Between
    → PacksPart room ((front ++ body ∷ []) ++ with_fragment empty_body (first_fragment r count) ∷ []) records r (drop count r.bytes)
begins_behind room front body records r count is within narrow fits fills packs =
    let p = packs_between room front body records packs in
    let s = p.session in
    let f = first_fragment r count in
    let long = first_length r count within in
    let old : length body.bytes ≡ length (fragments_bytes p.last) = ap (λ b. length b.bytes) p.body_is in
    let whole = last_whole p.lists p.last records s in
    record {
      lists = p.lists ++ p.last ∷ [];
      last = f ∷ [];
      start = s.start;
      parts = s.parts;
      begun = f ∷ [];
      bodies_are = ap (λ b. (front ++ body ∷ []) ++ b ∷ []) (sym (body_of-one f)) ∙ bodies-behind (p.lists ++ p.last ∷ []) (front ++ body ∷ []) f (bodies_and_last p.lists p.last front body p.front_is p.body_is);
      tightly = stand_behind room p.lists p.last f p.tightly (record { going_on = (λ more. absurd (whole more)); else_closed = (λ none. inl (omega arith)) }) (first_is_fragment r count is within) (omega arith);
      order = joined-behind (p.lists ++ p.last ∷ []) f ∙ ap (λ l. l ++ f ∷ []) (s.order ∙ ap (λ l. session_label_fragment s.start ∷ (s.parts ++ l)) s.behind_is ∙ ap (λ l. session_label_fragment s.start ∷ l) (append-nil s.parts));
      start_is = s.start_is;
      records_are = s.records_are;
      parts_are = s.parts_are;
      record_is = is;
      completes = (λ more c. first_completes r count more within c);
      goes_on = (λ some. first_more r count within some);
      full = (λ more. let filled = fills (first_on r count within more) in omega (arith, length-one f));
    }

-- The later fragments, each in a body of its own.

part_none : (part left rest : List ℕ) → left ≡ part ++ rest → left ≡ [] → part ≡ []
part_none [] left rest e none = refl
part_none (x ∷ part) left rest e none = absurd (cc (sym e ∙ none))

continues : (room : ℕ) (bodies : List PackedBody) (records : List Record) (r : Record) (left : List ℕ) (f : Fragment) (fs : List Fragment)
    → PacksPart room bodies records r left → Continue (pos r.index) (pos r.stream) left (f ∷ fs) → FitsAlone room f
    → PacksPart room (bodies ++ body_of (f ∷ []) ∷ []) records r (drop (length f.part) left)
continues room bodies records r left f fs p c alone =
    let is = AreFragments-back p.begun (f ∷ fs) (record_fragments r (p.begun ++ f ∷ fs) p.record_is (p.completes (f ∷ fs) c)) in
    let some : left ≢ [] = (λ (none : left ≡ []). c.1 (part_none f.part left (drop (length f.part) left) c.0.part_first none)) in
    let on = p.goes_on some in
    record {
      lists = p.lists ++ p.last ∷ [];
      last = f ∷ [];
      start = p.start;
      parts = p.parts;
      begun = p.begun ++ f ∷ [];
      bodies_are = bodies-behind (p.lists ++ p.last ∷ []) bodies f p.bodies_are;
      tightly = stand_behind room p.lists p.last f p.tightly (record { going_on = p.full; else_closed = (λ whole. absurd (whole on)) }) is.0 alone.fits;
      order = joined-behind (p.lists ++ p.last ∷ []) f ∙ ap (λ l. l ++ f ∷ []) p.order ∙ ap (λ l. session_label_fragment p.start ∷ l) (append_assoc p.parts p.begun (f ∷ []));
      start_is = p.start_is;
      records_are = p.records_are;
      parts_are = p.parts_are;
      record_is = p.record_is;
      completes = (λ more d. subst (Fragments r) (sym (append_assoc p.begun (f ∷ []) more)) (p.completes (f ∷ more) (c.0, c.1, d)));
      goes_on = (λ rest. data_go_on f (pos r.index) (neg_ℤ (pos r.stream)) left c.0 rest);
      full = (λ more. length-one f ∙ alone.fills more);
    }

pub all_later : (room : ℕ) (bodies : List PackedBody) (records : List Record) (r : Record) (left : List ℕ) (fs : List Fragment)
    → PacksPart room bodies records r left → Continue (pos r.index) (pos r.stream) left fs → FitAlone room fs
    → Packs room (bodies ++ bodies_alone fs) (records ++ r ∷ []) Between
all_later room bodies records r left [] p c fit =
    subst (λ l. Packs room l (records ++ r ∷ []) Between) (sym (append-nil bodies)) (part_done room bodies records r (subst (PacksPart room bodies records r) c p))
all_later room bodies records r left (f ∷ fs) p c fit =
    subst (λ l. Packs room l (records ++ r ∷ []) Between) (append_assoc bodies (body_of (f ∷ []) ∷ []) (bodies_alone fs))
    (all_later room (bodies ++ body_of (f ∷ []) ∷ []) records r (drop (length f.part) left) fs (continues room bodies records r left f fs p c fit.0) c.2 fit.1)

-- The bodies of later fragments, made one after another.

FitAlone-push : (room : ℕ) (fs : List Fragment) (f : Fragment) → FitAlone room fs → FitsAlone room f → FitAlone room (fs ++ f ∷ [])
FitAlone-push room [] f fit alone = (alone, tt)
FitAlone-push room (g ∷ fs) f fit alone = (fit.0, FitAlone-push room fs f fit.1 alone)

pub later_length : (r : Record) (left : List ℕ) (count : ℕ) → count ≤ length left → length (fragment_bytes (later_fragment r left count)) ≡ 12 + count
later_length r left count within = length-fragment_bytes (later_fragment r left count) ∙ ap (λ n. 12 + n) (length-take-le count left within)

pub one_later : (room : ℕ) (r : Record) (left rest : List ℕ) (bodies : List PackedBody) (count : ℕ) → LaterBodies room r left rest bodies
    → 0 < count → count ≤ length rest → 12 + count ≤ room → (count < length rest → 12 + count ≡ room)
    → LaterBodies room r left (drop count rest) (bodies ++ with_fragment empty_body (later_fragment r rest count) ∷ [])
one_later room r left rest bodies count h some within fits fills =
    let f = later_fragment r rest count in
    let long = later_length r rest count within in
    let part : length f.part ≡ count = length-take-le count rest within in
    record {
      parts = h.parts ++ f ∷ [];
      bodies_are = ap (λ b. bodies ++ b ∷ []) (sym (body_of-one f)) ∙ ap (λ l. l ++ body_of (f ∷ []) ∷ []) h.bodies_are ∙ sym (map-append (λ g. body_of (g ∷ [])) h.parts (f ∷ []));
      fit = FitAlone-push room h.parts f h.fit (record { fits = omega arith; fills = (λ more. let filled = fills (omega arith) in omega arith) });
      go_on = (λ more c. subst (Continue (pos r.index) (pos r.stream) left) (sym (append_assoc h.parts (f ∷ []) more))
          (h.go_on (f ∷ more) (later_begins r rest count within, (λ none. let zero = ap length none in absurd (omega arith)), subst (λ l. Continue (pos r.index) (pos r.stream) l more) (sym (part_long count rest within)) c)));
    }

-- A record put, as what the packer holds.

-- a record that begins in the open body
pub packs_in : (room : ℕ) (taken waiting waiting' : List PackedBody) (body body' : PackedBody) (later : List PackedBody) (records : List Record) (r : Record) (count : ℕ)
    → IsRecord r → count ≤ length r.bytes → length body.bytes + (12 + count) ≤ room → (count < length r.bytes → length body.bytes + (12 + count) ≡ room)
    → LaterBodies room r (drop count r.bytes) [] later
    → waiting' ++ body' ∷ [] ≡ (waiting ++ with_fragment body (first_fragment r count) ∷ []) ++ later
    → Packs room (taken ++ (waiting ++ body ∷ [])) records Between → Packs room (taken ++ (waiting' ++ body' ∷ [])) (records ++ r ∷ []) Between
packs_in room taken waiting waiting' body body' later records r count is within fits fills h order packs =
    let begun = begins_last room (taken ++ waiting) body records r count is within fits fills (subst (λ l. Packs room l records Between) (sym (append_assoc taken waiting (body ∷ []))) packs) in
    let all = all_later room ((taken ++ waiting) ++ with_fragment body (first_fragment r count) ∷ []) records r (drop count r.bytes) h.parts begun
    (subst (Continue (pos r.index) (pos r.stream) (drop count r.bytes)) (append-nil h.parts) (h.go_on [] refl)) h.fit in
    subst (λ l. Packs room l (records ++ r ∷ []) Between)
    (ap (λ l. ((taken ++ waiting) ++ with_fragment body (first_fragment r count) ∷ []) ++ l) (sym h.bodies_are)
    ∙ ap (λ l. l ++ later) (append_assoc taken waiting (with_fragment body (first_fragment r count) ∷ []))
    ∙ append_assoc taken (waiting ++ with_fragment body (first_fragment r count) ∷ []) later ∙ ap (λ l. taken ++ l) (sym order))
    all

-- a record that begins after the open body
pub packs_behind : (room : ℕ) (taken waiting waiting' : List PackedBody) (body body' : PackedBody) (later : List PackedBody) (records : List Record) (r : Record) (count : ℕ)
    → IsRecord r → count ≤ length r.bytes → room < length body.bytes + 12 → 12 + count ≤ room → (count < length r.bytes → 12 + count ≡ room)
    → LaterBodies room r (drop count r.bytes) [] later
    → waiting' ++ body' ∷ [] ≡ (waiting ++ body ∷ []) ++ with_fragment empty_body (first_fragment r count) ∷ later
    → Packs room (taken ++ (waiting ++ body ∷ [])) records Between → Packs room (taken ++ (waiting' ++ body' ∷ [])) (records ++ r ∷ []) Between
packs_behind room taken waiting waiting' body body' later records r count is within narrow fits fills h order packs =
    let next = with_fragment empty_body (first_fragment r count) in
    let begun = begins_behind room (taken ++ waiting) body records r count is within narrow fits fills (subst (λ l. Packs room l records Between) (sym (append_assoc taken waiting (body ∷ []))) packs) in
    let all = all_later room (((taken ++ waiting) ++ body ∷ []) ++ next ∷ []) records r (drop count r.bytes) h.parts begun
    (subst (Continue (pos r.index) (pos r.stream) (drop count r.bytes)) (append-nil h.parts) (h.go_on [] refl)) h.fit in
    subst (λ l. Packs room l (records ++ r ∷ []) Between)
    (ap (λ l. (((taken ++ waiting) ++ body ∷ []) ++ next ∷ []) ++ l) (sym h.bodies_are)
    ∙ append_assoc ((taken ++ waiting) ++ body ∷ []) (next ∷ []) later
    ∙ ap (λ l. l ++ next ∷ later) (append_assoc taken waiting (body ∷ []))
    ∙ append_assoc taken (waiting ++ body ∷ []) (next ∷ later) ∙ ap (λ l. taken ++ l) (sym order))
    all

-- the fragments of the record, the first and the later
pub parts_of_record : (room : ℕ) (r : Record) (count : ℕ) (later : List PackedBody) → count ≤ length r.bytes → (h : LaterBodies room r (drop count r.bytes) [] later)
    → Fragments r (first_fragment r count ∷ h.parts)
parts_of_record room r count later within h =
    first_completes r count h.parts within (subst (Continue (pos r.index) (pos r.stream) (drop count r.bytes)) (append-nil h.parts) (h.go_on [] refl))
