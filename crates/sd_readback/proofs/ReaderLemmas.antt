-- What a reader has read, with one block more, and once there is no more.
use Rattle.std.proofs.Common.{◌≡◌, ◌≢◌, ℕ, ◌+◌, ◌<◌, ◌≤◌, ◌^◌, refl, sym, ap, subst, ◌∙◌, arith, inl, inr, ◌⊎◌, List, [], ◌∷◌, ◌++◌, length, map, Bool, true, false, cond}
use Rattle.std.specs.Prelude.{Some, None, Result, Ok, Err, IfOk, IfErr, OnOk, IsTrue, ◌↔◌, not}
use Rattle.std.proofs.lemmas.Bool.{false≢true}
use Rattle.std.proofs.lemmas.List.{append-nil, length-append}
use Rattle.sd_base.specs.Record.{Record}
use Rattle.sd_base.specs.declared.number.SessionKey.{SessionKey}
use Rattle.sd_label.specs.Cutting.{Standing, Between, Within, AtEnd, Holds, total_bytes, WholeOf, joined, AreBodies, is_ended}
use Rattle.sd_record.specs.Fragment.{Fragment, fragments_bytes}
use Rattle.sd_unpack.specs.declared.stage.Stage.{Stage}
use Rattle.sd_unpack.specs.declared.stage.Stage.TheVariants.{Fresh, Whole, Partway, Closed}
use Rattle.sd_unpack.specs.Stage.{Reaches, AreTotalsOf, standing_at}
use Rattle.sd_unpack.specs.Unpacking.{Unpacking, Unpacks}
use Rattle.sd_label.proofs.CuttingLemmas.{front_nil, holds_one}
use Rattle.sd_unpack.proofs.BodyLemmas.{unpacked_whole}
use Rattle.sd_unpack.specs.Damage.{IfDamaged}
use Rattle.sd_unpack.specs.declared.damage.Damage.{Damage}
use Rattle.sd_unpack.specs.declared.damage.AddFault.{AddFault}
use Rattle.sd_unpack.specs.declared.damage.AddFault.TheVariants as adding
use Rattle.sd_readback.specs.declared.fault.ReadFault.{ReadFault}
use Rattle.sd_readback.specs.declared.fault.ReadFault.TheVariants.{DamagedBlock, Memory}
use Rattle.sd_readback.specs.declared.reader.Reader.{Reader}
use Rattle.sd_volume.specs.Image.{Block}
use Rattle.sd_readback.specs.Reading.{blocks_of}
use Rattle.sd_base.specs.Key.{is_key}
use Rattle.sd_readback.specs.Faults.{fault_of, AreCountable, AreReadable}
use Rattle.sd_readback.specs.Reader.{HasRead, ReadsOn}
use Rattle.sd_readback.proofs.ListLemmas.{push_not_nil, nil_from_map}
use Rattle.sd_readback.proofs.ReadingLemmas.{blocks_of-append}
use Rattle.sd_readback.proofs.FaultLemmas.{total_bytes-append}

-- What was handed over so far, of the records that waited.
pub record HandedOver (old new : Reader) (got got' : List Record) : Type 0 where
  pub more : List Record
  pub got_is : got' ≡ got ++ more
  pub ready_is : old.unpacker.ready ≡ more ++ new.unpacker.ready
  pub reader_is : new ≡ record old {
    unpacker = record old.unpacker { ready = new.unpacker.ready };
    records = old.records + length more;
    bytes = old.bytes + total_bytes more;
  }
  pub counted : old.records < 2 ^ 64 → old.bytes < 2 ^ 64 → (new.records < 2 ^ 64) × (new.bytes < 2 ^ 64)

-- The bodies of a session with one block more.

pub body_more : (key : SessionKey) (before : List Block) (b : Block) → is_key key b.key ≡ true → blocks_of key (before ++ b ∷ []) ≡ blocks_of key before ++ b.body ∷ []
body_more key before b same =
    blocks_of-append key before (b ∷ []) ∙ ap (λ v. blocks_of key before ++ cond v (b.body ∷ []) []) same

pub body_other : (key : SessionKey) (before : List Block) (b : Block) → is_key key b.key ≡ false → blocks_of key (before ++ b ∷ []) ≡ blocks_of key before
body_other key before b other =
    blocks_of-append key before (b ∷ []) ∙ ap (λ v. blocks_of key before ++ cond v (b.body ∷ []) []) other ∙ append-nil (blocks_of key before)

-- another session's block changes nothing
pub reads_other : (reader : Reader) (got : List Record) (b : Block) → ((key : SessionKey) → reader.key ≡ key → is_key key b.key ≡ false)
    → ReadsOn reader reader got got (b ∷ [])
reads_other reader got b other = record {
  more = [];
  got_is = sym (append-nil got);
  goes_on = λ key before taken r.
      let same = body_other key before b (other key r.key_is) in
      subst (λ l. HasRead key (before ++ b ∷ []) l reader) (sym (append-nil taken)) (record {
        key_is = r.key_is;
        unpacks = subst (λ bodies. Unpacks bodies taken reader.unpacker) (sym same) r.unpacks;
        none_waits = r.none_waits;
        undamaged = r.undamaged;
        records_are = r.records_are;
        bytes_are = r.bytes_are;
        countable = r.countable;
        found_is = subst (λ (bodies : List (List ℕ)). IsTrue reader.found ↔ (bodies ≢ [])) (sym same) r.found_is;
      });
}

-- the unpacker with nothing left to take
abbrev pub emptied : Unpacking → Unpacking
emptied view = record view { ready = [] }

unpacks_emptied : (bodies : List (List ℕ)) (taken : List Record) (view : Unpacking) → Unpacks bodies taken view → Unpacks bodies (taken ++ view.ready) (emptied view)
unpacks_emptied bodies taken view u =
    let all = sym (append-nil (taken ++ view.ready)) in
    record {
      fragments = u.fragments;
      bytes_are = u.bytes_are;
      bodies_are = u.bodies_are;
      reaches = subst (λ l. Reaches view.stage (joined u.fragments) l view.so_far) all u.reaches;
      totals_are = subst (AreTotalsOf view.totals) all u.totals_are;
    }

-- the reader once the records that waited are handed over
abbrev pub handed : Reader → Unpacking → Reader
handed old view = record old {
  unpacker = emptied view;
  records = old.records + length view.ready;
  bytes = old.bytes + total_bytes view.ready;
  found = true;
}

fits_more : (taken ready : List Record) (records bytes : ℕ) → records ≡ length taken → bytes ≡ total_bytes taken
    → records + length ready < 2 ^ 64 → bytes + total_bytes ready < 2 ^ 64 → AreCountable (taken ++ ready)
fits_more taken ready records bytes r b few small =
    let long = length-append taken ready in
    let large = total_bytes-append taken ready in
    (omega arith, omega arith)

has_read_own : (key : SessionKey) (before : List Block) (taken : List Record) (old : Reader) (view : Unpacking) (b : Block)
    → HasRead key before taken old → is_key key b.key ≡ true
    → Unpacks (blocks_of key before ++ b.body ∷ []) taken view → view.damage ≡ None
    → old.records + length view.ready < 2 ^ 64 → old.bytes + total_bytes view.ready < 2 ^ 64
    → HasRead key (before ++ b ∷ []) (taken ++ view.ready) (handed old view)
has_read_own key before taken old view b r same u sound few small =
    let bodies = body_more key before b same in
    record {
      key_is = r.key_is;
      unpacks = unpacks_emptied (blocks_of key (before ++ b ∷ [])) taken view (subst (λ l. Unpacks l taken view) (sym bodies) u);
      none_waits = refl;
      undamaged = sound;
      records_are = ap (λ n. n + length view.ready) r.records_are ∙ sym (length-append taken view.ready);
      bytes_are = ap (λ n. n + total_bytes view.ready) r.bytes_are ∙ sym (total_bytes-append taken view.ready);
      countable = fits_more taken view.ready old.records old.bytes r.records_are r.bytes_are few small;
      found_is = (λ so none. push_not_nil (blocks_of key before) b.body (sym bodies ∙ none), λ some. refl);
    }

-- a block of the session, whose records were handed over
pub reads_own : (old new : Reader) (got got' : List Record) (view : Unpacking) (b : Block)
    → ((key : SessionKey) → old.key ≡ key → is_key key b.key ≡ true)
    → ((bodies : List (List ℕ)) (taken : List Record) → Unpacks bodies taken old.unpacker → Unpacks (bodies ++ b.body ∷ []) taken view)
    → view.damage ≡ None → got' ≡ got ++ view.ready → new ≡ handed old view
    → (old.records < 2 ^ 64 → old.bytes < 2 ^ 64 → (new.records < 2 ^ 64) × (new.bytes < 2 ^ 64))
    → ReadsOn old new got got' (b ∷ [])
reads_own old new got got' view b same unpacks sound sink is counted = record {
  more = view.ready;
  got_is = sink;
  goes_on = λ key before taken r.
      let fit = counted (let e = r.records_are in let few = r.countable.0 in omega arith) (let e = r.bytes_are in let few = r.countable.1 in omega arith) in
      let records : new.records ≡ old.records + length view.ready = ap (λ (x : Reader). x.records) is in
      let bytes : new.bytes ≡ old.bytes + total_bytes view.ready = ap (λ (x : Reader). x.bytes) is in
      subst (HasRead key (before ++ b ∷ []) (taken ++ view.ready)) (sym is)
      (has_read_own key before taken old view b r (same key r.key_is) (unpacks (blocks_of key before) taken r.unpacks) sound (omega arith) (omega arith));
}

-- Why a block of the session is refused.

pub stands : (stage : Stage) (fs : List Fragment) (records : List Record) (so_far : List ℕ) → Reaches stage fs records so_far → fs ≢ [] → (standing : Standing) × (standing_at stage ≡ Some standing)
stands Fresh fs records so_far r some = absurd (some r.0)
stands Whole fs records so_far r some = (Between, refl)
stands (Partway due) fs records so_far r some = (Within, refl)
stands Closed fs records so_far r some = (AtEnd, refl)

some_joined : (placed : List (List Fragment)) → AreBodies placed → map fragments_bytes placed ≢ [] → joined placed ≢ []
some_joined [] are some e = some refl
some_joined (fs ∷ rest) are some e = are.0 (front_nil fs (joined rest) e)

-- an unpacker that was given some body holds a session
pub unpacked_holds : (bodies : List (List ℕ)) (taken : List Record) (view : Unpacking) → Unpacks bodies taken view → bodies ≢ []
    → (standing : Standing) × (standing_at view.stage ≡ Some standing) × Holds bodies (taken ++ view.ready) standing
unpacked_holds bodies taken view u some =
    let parts = some_joined u.fragments u.bodies_are (λ none. some (u.bytes_are ∙ none)) in
    let at = stands view.stage (joined u.fragments) (taken ++ view.ready) view.so_far u.reaches parts in
    (at.0, at.1, unpacked_whole bodies taken view at.0 u at.1)

-- what was read so far can be read
pub has_read_readable : (key : SessionKey) (blocks : List Block) (taken : List Record) (reader : Reader) → HasRead key blocks taken reader → AreReadable (blocks_of key blocks)
has_read_readable key blocks taken reader r = readable_so (blocks_of key blocks) taken reader.unpacker r.unpacks r.none_waits r.countable
  where
    readable_so : (bodies : List (List ℕ)) (taken : List Record) (view : Unpacking) → Unpacks bodies taken view → view.ready ≡ [] → AreCountable taken → AreReadable bodies
    readable_so [] taken view u none are = inl refl
    readable_so (x ∷ xs) taken view u none are =
        let h = unpacked_holds (x ∷ xs) taken view u (λ e. cc) in
        inr (taken, h.0, subst (λ l. Holds (x ∷ xs) l h.0) (ap (λ l. taken ++ l) none ∙ append-nil taken) h.2, are)

-- no beginning of a cutting whose records can be counted has the body
pub refused_so : (key : SessionKey) (before : List Block) (b : Block) → is_key key b.key ≡ true
    → ((records : List Record) (standing : Standing) → Holds (blocks_of key before ++ b.body ∷ []) records standing → AreCountable records → ⊥)
    → AreReadable (blocks_of key (before ++ b ∷ [])) → ⊥
refused_so key before b same none (inl empty) = push_not_nil (blocks_of key before) b.body (sym (body_more key before b same) ∙ empty)
refused_so key before b same none (inr h) = none h.0 h.1 (subst (λ bodies. Holds bodies h.0 h.1) (body_more key before b same) h.2) h.3

-- with what waits there are too many records or bytes
abbrev pub AreTooMany : Reader → Unpacking → Type 0
AreTooMany old view = (2 ^ 64 ≤ old.records + length view.ready) ⊎ (2 ^ 64 ≤ old.bytes + total_bytes view.ready)

too_many : (taken ready : List Record) (records bytes : ℕ) → records ≡ length taken → bytes ≡ total_bytes taken
    → (2 ^ 64 ≤ records + length ready) ⊎ (2 ^ 64 ≤ bytes + total_bytes ready) → AreCountable (taken ++ ready) → ⊥
too_many taken ready records bytes r b many are =
    let long = length-append taken ready in
    let large = total_bytes-append taken ready in
    let few = are.0 in
    let small = are.1 in
    omega (arith, many)

pub refused_uncountable : (key : SessionKey) (before : List Block) (taken : List Record) (old : Reader) (view : Unpacking) (b : Block)
    → HasRead key before taken old → is_key key b.key ≡ true
    → Unpacks (blocks_of key before ++ b.body ∷ []) taken view → AreTooMany old view
    → AreReadable (blocks_of key (before ++ b ∷ [])) → ⊥
refused_uncountable key before taken old view b r same u many =
    refused_so key before b same (λ records standing h are.
    let own = unpacked_holds (blocks_of key before ++ b.body ∷ []) taken view u (push_not_nil (blocks_of key before) b.body) in
    let one = holds_one (blocks_of key before ++ b.body ∷ []) records (taken ++ view.ready) standing own.0 h own.2 in
    too_many taken view.ready old.records old.bytes r.records_are r.bytes_are many (subst AreCountable one.0 are))

-- the test of the keys, turned about
pub other_key : (same answer : Bool) → answer ≡ not same → answer ≡ true → same ≡ false
other_key true answer e so = absurd (false≢true (sym e ∙ so))
other_key false answer e so = refl

pub own_key : (same answer : Bool) → answer ≡ not same → answer ≡ false → same ≡ true
own_key true answer e so = refl
own_key false answer e so = absurd (false≢true (sym so ∙ e))

-- what is known of a body that the unpacker refuses
abbrev pub NoCutting : Unpacking → List ℕ → Damage → Type 0
NoCutting view body damage =
    (bodies : List (List ℕ)) (taken records : List Record) (standing : Standing)
    → view.damage ≡ None → Unpacks bodies taken view → Holds (bodies ++ body ∷ []) records standing → ⊥

-- a body that the unpacker refuses can't be read with those before it
pub refused_added : (added : AddFault) (fault : ReadFault) (key : SessionKey) (before : List Block) (taken : List Record) (old : Reader) (b : Block)
    → fault ≡ fault_of added → fault ≢ Memory → HasRead key before taken old → is_key key b.key ≡ true
    → IfDamaged {X = Unit {0}} (Err added) (NoCutting old.unpacker b.body)
    → (fault ≡ DamagedBlock) × (AreReadable (blocks_of key (before ++ b ∷ [])) → ⊥)
refused_added (adding.Damaged damage) fault key before taken old b is other r same none = (
  is,
  refused_so key before b same (λ records standing h are. none (blocks_of key before) taken records standing r.undamaged r.unpacks h),
)
refused_added adding.Memory fault key before taken old b is other r same none = absurd (other is)

-- the answer, from what it is
pub if_err : {X : Type 0} (answer : Result X ReadFault) (fault : ReadFault) (P : ReadFault → Type 0) → answer ≡ Err fault → P fault → IfErr answer P
if_err answer fault P e p = subst (λ r. IfErr r P) (sym e) p

pub on_ok_three : {X P Q R S : Type 0} (answer : Result X ReadFault) → (P → Q → R → S) → OnOk answer P → OnOk answer Q → OnOk answer R → OnOk answer S
on_ok_three (Ok x) f p q r = f p q r
on_ok_three (Err e) f p q r = tt

-- What was read, once there is no more.

reaches_nil : (stage : Stage) (fs : List Fragment) (records : List Record) (so_far : List ℕ) → fs ≡ [] → Reaches stage fs records so_far → records ≡ []
reaches_nil Fresh fs records so_far none r = r.1
reaches_nil Whole fs records so_far none r = let some = r.order in cc
reaches_nil (Partway due) fs records so_far none r = let some = r.order in cc
reaches_nil Closed fs records so_far none r = let some = r.order in cc

-- if there are no bodies, there are no fragments
pub no_fragments : (placed : List (List Fragment)) → map fragments_bytes placed ≡ [] → joined placed ≡ []
no_fragments placed e = ap joined (nil_from_map fragments_bytes placed e)

-- no record was handed out and none waits if no body was given
pub nothing_held : (taken : List Record) (view : Unpacking) → Unpacks [] taken view → taken ++ view.ready ≡ []
nothing_held taken view u = reaches_nil view.stage (joined u.fragments) (taken ++ view.ready) view.so_far (no_fragments u.fragments (sym u.bytes_are)) u.reaches

pub has_read_none : (reader : Reader) → Unpacks [] [] reader.unpacker → reader.unpacker.damage ≡ None
    → reader.records ≡ 0 → reader.bytes ≡ 0 → reader.found ≡ false → HasRead reader.key [] [] reader
has_read_none reader u sound records bytes found = record {
  key_is = refl;
  unpacks = u;
  none_waits = nothing_held [] reader.unpacker u;
  undamaged = sound;
  records_are = records;
  bytes_are = bytes;
  countable = (omega arith, omega arith);
  found_is = (λ so. absurd (false≢true (sym found ∙ so)), λ some. absurd (some refl));
}

pub whole_ended : (key : SessionKey) (blocks : List Block) (taken : List Record) (reader : Reader) (ended : Bool) → HasRead key blocks taken reader → blocks_of key blocks ≢ []
    → (IsTrue ended ↔ (standing_at reader.unpacker.stage ≡ Some AtEnd)) → WholeOf (blocks_of key blocks) taken ended
whole_ended key blocks taken reader ended r some tells =
    let h = unpacked_holds (blocks_of key blocks) taken reader.unpacker r.unpacks some in
    (h.0, subst (λ l. Holds (blocks_of key blocks) l h.0) (ap (λ l. taken ++ l) r.none_waits ∙ append-nil taken) h.2, end_told h.0 ended reader.unpacker.stage h.1 tells)
  where
    end_told : (standing : Standing) (ended : Bool) (stage : Stage) → standing_at stage ≡ Some standing → (IsTrue ended ↔ (standing_at stage ≡ Some AtEnd)) → ended ≡ is_ended standing
    end_told AtEnd ended stage at tells = tells.1 at
    end_told Between true stage at tells = let so = tells.0 refl in cc
    end_told Between false stage at tells = refl
    end_told Within true stage at tells = let so = tells.0 refl in cc
    end_told Within false stage at tells = refl

pub on_ok_one : {X P Q : Type 0} (answer : Result X ReadFault) → (P → Q) → OnOk answer P → OnOk answer Q
on_ok_one (Ok x) f p = f p
on_ok_one (Err e) f p = tt

pub if_ok_one : {X E : Type 0} (answer : Result X E) (P Q : X → Type 0) → ((x : X) → P x → Q x) → IfOk answer P → IfOk answer Q
if_ok_one (Ok x) P Q f p = f x p
if_ok_one (Err e) P Q f p = tt

pub if_ok_never : {X E : Type 0} (answer : Result X E) (error : E) (P : X → Type 0) → answer ≡ Err error → IfOk answer P
if_ok_never answer error P e = subst (λ r. IfOk r P) (sym e) tt
