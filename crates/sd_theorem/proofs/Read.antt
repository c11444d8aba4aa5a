-- What a read gives if spans are claimed for a drive.
use Rattle.std.proofs.Common.{◌≡◌, ◌≢◌, ℕ, suc, ◌+◌, ◌<◌, ◌^◌, cond, refl, sym, ap, subst, ◌∙◌, inl, inr, arith, zero, true, false, Bool, Option, Some, None, Result, Ok, Err, List, [], ◌∷◌, ◌++◌, length, slice_get}
use Rattle.std.specs.Prelude.{◌⊎◌, ◌==◌, ◌&&◌, ◌||◌, not, IfOk, IfErr, OnErr}
use Rattle.std.proofs.lemmas.List.Sums.{AllPass-from_list_all, list_all-from_AllPass}
use Rattle.std.proofs.lemmas.Bool.{eq-eqb, eqb-true}
use Rattle.std.specs.Option.{option_map_or}
use Rattle.sd_base.specs.Key.{is_key}
use Rattle.sd_base.specs.Record.{Record}
use Rattle.sd_base.specs.declared.number.SessionKey.{SessionKey}
use Rattle.sd_base.specs.declared.refusal.Refusal.{Refusal}
use Rattle.sd_base.specs.declared.refusal.Refusal.TheVariants.{DeviceFault, DriveOffline, Memory, VolumeNotOnShelf, VolumePurged}
use Rattle.sd_desk.specs.Desk.{DeskView, claimed_by}
use Rattle.sd_driver.specs.Meaning.{Meaning, IsHonest}
use Rattle.sd_drive.specs.View.{DriveIs}
use Rattle.sd_label.specs.Cutting.{total_bytes}
use Rattle.sd_machine.specs.Machine.{Machine, MachineSession, session_of}
use Rattle.sd_readback.specs.Faults.{fault_refusal}
use Rattle.sd_readback.specs.HandsOver.{HandsOverFront}
use Rattle.sd_readback.specs.Reading.{Reads, volumes_on}
use Rattle.sd_readback.specs.declared.fault.ReadFault.{ReadFault}
use Rattle.sd_readback.specs.declared.fault.ReadFault.TheVariants as fault
use Rattle.sd_readback.specs.declared.read.ReadEnd.{ReadEnd}
use Rattle.sd_readback.proofs.HandsOverLemmas.{front_of_records}
use Rattle.sd_readback.proofs.ReadingLemmas.{reads_one}
use Rattle.sd_span.specs.declared.span.Span.{Span}
use Rattle.sd_journal.proofs.KeyLemmas.{key_same, key_same_self}
use Rattle.sd_world.specs.Drives.{was_purged}
use Rattle.sd_world.specs.Rules.{IsWorld}
use Rattle.sd_world.specs.World.{WorldView, WorldSession, BayView, IsOnline, session_at}
use Rattle.sd_world.specs.Matches.{Matches}
use Rattle.sd_world.proofs.Pairs.{is_numbered}
use Rattle.sd_world.proofs.Sessions.{found_session}
use Rattle.sd_world.specs.Deeds.{CountsFit}
use Rattle.sd_world.specs.Reading.{is_at_drive, are_at_drive, is_purged_session, any_purged_at, is_gone, due_with, due_at, read_due, ReadsDrive, ReadsWorld}
use Rattle.sd_world.specs.Kept.{IsRetired}
use Rattle.sd_world.specs.Stays.{AreClaimed}
use Rattle.sd_world.proofs.ClaimLemmas.{one_drive}
use Rattle.sd_theorem.specs.Gives.{GivesAll, ReadsOnline, IsAnsweredOffline, IsAnsweredPurged}

-- Where the spans are.

-- volumes that are claimed for a drive are at it
claimed_at : (desk : DeskView) (drive : ℕ) (spans : List Span) → AreClaimed desk drive spans → are_at_drive desk drive spans ≡ true
claimed_at desk drive spans claimed =
    list_all-from_AllPass (λ (s : Span). is_at_drive drive (claimed_by desk s.volume)) spans
    (λ at s within. ap (is_at_drive drive) (claimed at s within) ∙ eq-eqb drive drive refl)

-- a drive at which a claimed volume is, is the one for which it is claimed
at_claimed : (drive other : ℕ) (o : Option ℕ) → o ≡ Some other → is_at_drive drive o ≡ true → other ≡ drive
at_claimed drive other o is at = eqb-true other drive (ap (is_at_drive drive) (sym is) ∙ at)

-- the first of some spans is at the drive if all are
first_at : (desk : DeskView) (drive : ℕ) (s : Span) (ss : List Span) → are_at_drive desk drive (s ∷ ss) ≡ true → is_at_drive drive (claimed_by desk s.volume) ≡ true
first_at desk drive s ss all = AllPass-from_list_all (λ (x : Span). is_at_drive drive (claimed_by desk x.volume)) (s ∷ ss) all zero s (omega arith)

-- which refusal is due of spans that are claimed for a drive, by whether it is online
due_claimed : {D : Type 0} (w : WorldView D) (key : SessionKey) (drive at : ℕ) (bay : BayView D) (s : Span) (ss : List Span) → AreClaimed w.desk drive (s ∷ ss) → drive ≡ at + 1
    → slice_get w.bays at ≡ Some bay → read_due w key (s ∷ ss) ≡ due_with (is_gone w key (s ∷ ss)) w.desk drive (s ∷ ss) bay.drive
due_claimed w key drive at bay s ss claimed number there =
    let place : drive ≡ suc at = omega (arith, number) in
    let gone = is_gone w key (s ∷ ss) in
    ap (due_at w key (s ∷ ss)) (claimed zero s (omega arith) ∙ ap Some place)
    ∙ ap (λ found. option_map_or (λ (b : BayView _). due_with gone w.desk (suc at) (s ∷ ss) b.drive) found (Some VolumeNotOnShelf)) there
    ∙ ap (λ n. due_with gone w.desk n (s ∷ ss) bay.drive) (sym place)

-- none is due of a drive that is online, if nothing that is read is gone
none_due : {D : Type 0} (w : WorldView D) (key : SessionKey) (drive at : ℕ) (bay : BayView D) (d : DriveIs D) (s : Span) (ss : List Span) → AreClaimed w.desk drive (s ∷ ss)
    → IsOnline w drive at bay d → is_gone w key (s ∷ ss) ≡ false → read_due w key (s ∷ ss) ≡ None
none_due w key drive at bay d s ss claimed online here =
    due_claimed w key drive at bay s ss claimed online.number online.there
    ∙ ap (due_with (is_gone w key (s ∷ ss)) w.desk drive (s ∷ ss)) online.online
    ∙ ap (λ b. cond b (Some VolumePurged) (cond (are_at_drive w.desk drive (s ∷ ss)) None (Some VolumeNotOnShelf))) here
    ∙ ap (λ b. cond b None (Some VolumeNotOnShelf)) (claimed_at w.desk drive (s ∷ ss) claimed)

-- The drive reads.

-- the read of a drive, whose volumes have the spans
record ReadHere {D : Type 0} (meaning : D → Meaning) (key : SessionKey) (spans : List Span) (got got' : List Record) (result : Result ReadEnd Refusal) (d : DriveIs D) : Type 0 where
  pub after : DriveIs D
  pub reads : ReadsDrive meaning key spans got got' result d after

-- if spans are claimed for a drive that is online, that drive reads them
reads_here : {D : Type 0} (meaning : D → Meaning) (w w' : WorldView D) (key : SessionKey) (spans : List Span) (got got' : List Record) (result : Result ReadEnd Refusal)
    (drive at : ℕ) (bay : BayView D) (d : DriveIs D) → spans ≢ [] → AreClaimed w.desk drive spans → IsOnline w drive at bay d
    → is_gone w key spans ≡ false → ReadsWorld meaning key spans got got' result w w' → ReadHere meaning key spans got got' result d
reads_here meaning w w' key [] got got' result drive at bay d some claimed online here r = absurd (some refl)
reads_here meaning w w' key (s ∷ ss) got got' result drive at bay d some claimed online here (inl r) =
    absurd (let both : None ≡ Some r.0 = sym (none_due w key drive at bay d s ss claimed online here) ∙ r.1 in cc both)
reads_here {D} meaning w w' key (s ∷ ss) got got' result drive at bay d some claimed online here (inr r) =
    let same : drive ≡ r.1 = at_claimed r.1 drive (claimed_by w.desk s.volume) (claimed zero s (omega arith)) (first_at w.desk r.1 s ss r.9) in
    let on : IsOnline w drive r.2 r.3 r.4 = subst (λ n. IsOnline w n r.2 r.3 r.4) (sym same) r.6 in
    let one : r.4 ≡ d = one_drive w drive at r.2 bay r.3 d r.4 online on in
    record { after = r.5; reads = subst (λ (x : DriveIs D). ReadsDrive meaning key (s ∷ ss) got got' result x r.5) one r.7 }

-- what a refusal is of a reader that met none but a device's fault or out of memory
no_fault : (why : ReadFault) → (why ≡ fault.Device) ⊎ (why ≡ fault.Memory) → (fault_refusal why ≡ DeviceFault) ⊎ (fault_refusal why ≡ Memory)
no_fault why (inl is) = inl (ap fault_refusal is)
no_fault why (inr is) = inr (ap fault_refusal is)

-- what an honest drive gives, on whose shelf the spans read to these records
pub drive_gives : {D : Type 0} (meaning : D → Meaning) (key : SessionKey) (spans : List Span) (records : List Record) (ended : Bool) (got got' : List Record) (result : Result ReadEnd Refusal)
    (d after : DriveIs D) → IsHonest (meaning d.device) → Reads (volumes_on (meaning d.device).shelf) key spans records ended → length records < 2 ^ 64
    → total_bytes records < 2 ^ 64 → ReadsDrive meaning key spans got got' result d after → GivesAll records ended got got' result
drive_gives {D} meaning key spans records ended got got' result d after honest reads few small rd = told rd.answer refl
  where
    told : (a : Result ReadEnd ReadFault) → rd.answer ≡ a → GivesAll records ended got got' result
    told (Ok end) is =
        let volumes = volumes_on (meaning d.device).shelf in
        let A : Result ReadEnd ReadFault → Type 0 = λ a. IfOk a (λ x. result ≡ Ok x) in
        let R : Result ReadEnd ReadFault → Type 0 = λ a. IfOk a (λ x. Reads volumes key spans rd.more x.ended) in
        let N : Result ReadEnd ReadFault → Type 0 = λ a. IfOk a (λ x. (x.records ≡ length rd.more) × (x.bytes ≡ total_bytes rd.more)) in
        let told_is : result ≡ Ok end = subst A is rd.ok in
        let same = reads_one volumes key spans rd.more records end.ended ended (subst R is (rd.reads honest)) reads in
        let counts = subst N is rd.counts in
        subst (GivesAll records ended got got') (sym told_is) (record {
          whole = (rd.adds ∙ ap (λ l. got ++ l) same.0, counts.0 ∙ ap length same.0, counts.1 ∙ ap total_bytes same.0, same.1);
          refused = tt;
          first = tt;
        })
    told (Err why) is =
        let volumes = volumes_on (meaning d.device).shelf in
        let A : Result ReadEnd ReadFault → Type 0 = λ a. IfErr a (λ x. result ≡ Err (fault_refusal x)) in
        let F : Result ReadEnd ReadFault → Type 0 = λ a. IfErr a (λ x. (x ≡ fault.Device) ⊎ (x ≡ fault.Memory)) in
        let H : Result ReadEnd ReadFault → Type 0 = λ a. OnErr a (HandsOverFront volumes key spans got got') in
        let told_is : result ≡ Err (fault_refusal why) = subst A is rd.err in
        subst (GivesAll records ended got got') (sym told_is) (record {
          whole = tt;
          refused = no_fault why (subst F is (rd.found honest records ended few small reads));
          first = front_of_records volumes key spans got got' records ended (subst H is (rd.handed_over honest)) reads;
        })

-- the world gives them, if the spans are claimed for the drive
pub world_gives : {D : Type 0} (meaning : D → Meaning) (w w' : WorldView D) (key : SessionKey) (spans : List Span) (records : List Record) (ended : Bool) (got got' : List Record)
    (result : Result ReadEnd Refusal) (drive at : ℕ) (bay : BayView D) (d : DriveIs D) → IsOnline w drive at bay d → AreClaimed w.desk drive spans → IsHonest (meaning d.device)
    → is_gone w key spans ≡ false → Reads (volumes_on (meaning d.device).shelf) key spans records ended → length records < 2 ^ 64 → total_bytes records < 2 ^ 64
    → ReadsWorld meaning key spans got got' result w w' → ReadsOnline meaning w drive key spans records ended got got' result
world_gives meaning w w' key spans records ended got got' result drive at bay d online claimed honest here reads few small r =
    let read = reads_here meaning w w' key spans got got' result drive at bay d reads.some_span claimed online here r in
    record {
      at = at;
      bay = bay;
      d = d;
      online = online;
      reads = reads;
      gives = drive_gives meaning key spans records ended got got' result d read.after honest reads few small read.reads;
    }

-- the drive was retired
pub world_refuses : {D : Type 0} (meaning : D → Meaning) (w w' : WorldView D) (key : SessionKey) (spans : List Span) (got got' : List Record)
    (result : Result ReadEnd Refusal) (drive : ℕ) → IsRetired w drive → AreClaimed w.desk drive spans → spans ≢ [] → ReadsWorld meaning key spans got got' result w w'
    → IsAnsweredOffline w drive got got' result
world_refuses meaning w w' key [] got got' result drive retired claimed some r = absurd (some refl)
world_refuses {D} meaning w w' key (s ∷ ss) got got' result drive (at, bay, number, there, offline) claimed some r =
    let due : read_due w key (s ∷ ss) ≡ Some DriveOffline =
    due_claimed w key drive at bay s ss claimed number there ∙ ap (due_with (is_gone w key (s ∷ ss)) w.desk drive (s ∷ ss)) offline in
    elim r [
      | inl x ↦ let same : x.0 ≡ DriveOffline = cc (sym x.1 ∙ due) in ((at, bay, number, there, offline), x.2 ∙ ap Err same, x.3)
      | inr x ↦ absurd (let both : None ≡ Some DriveOffline = sym x.0 ∙ due in cc both)
    ]

-- the session is purged, and its drive online
pub world_purged : {D : Type 0} (meaning : D → Meaning) (w w' : WorldView D) (key : SessionKey) (spans : List Span) (got got' : List Record)
    (result : Result ReadEnd Refusal) (drive at : ℕ) (bay : BayView D) (d : DriveIs D) → IsOnline w drive at bay d → AreClaimed w.desk drive spans → spans ≢ []
    → is_gone w key spans ≡ true → ReadsWorld meaning key spans got got' result w w' → IsAnsweredPurged got got' result
world_purged meaning w w' key [] got got' result drive at bay d online claimed some gone r = absurd (some refl)
world_purged {D} meaning w w' key (s ∷ ss) got got' result drive at bay d online claimed some gone r =
    let due : read_due w key (s ∷ ss) ≡ Some VolumePurged =
    due_claimed w key drive at bay s ss claimed online.number online.there
    ∙ ap (due_with (is_gone w key (s ∷ ss)) w.desk drive (s ∷ ss)) online.online
    ∙ ap (λ b. cond b (Some VolumePurged) (cond (are_at_drive w.desk drive (s ∷ ss)) None (Some VolumeNotOnShelf))) gone in
    elim r [
      | inl x ↦ let same : x.0 ≡ VolumePurged = cc (sym x.1 ∙ due) in (x.2 ∙ ap Err same, x.3)
      | inr x ↦ absurd (let both : None ≡ Some VolumePurged = sym x.0 ∙ due in cc both)
    ]

-- What is gone.

-- a session of this run that isn't purged isn't gone, and a purged one is
pub own_gone : {D : Type 0} (w : WorldView D) (key : SessionKey) (spans : List Span) (e : WorldSession) → IsWorld w → session_at key.id w.sessions ≡ Some e → e.session.key ≡ key
    → is_gone w key spans ≡ was_purged e.session.status
own_gone w key spans e rules there own =
    let run : key.time ≡ w.limits.time = ap (λ (k : SessionKey). k.time) (sym own) ∙ (is_numbered w.limits.time 1 w.next key.id w.sessions e rules.numbers there).time_is in
    let first : is_purged_session key (session_at key.id w.sessions) ≡ was_purged e.session.status =
    ap (is_purged_session key) there ∙ ap (λ b. b && was_purged e.session.status) (ap (is_key key) own ∙ key_same_self key) in
    ap (λ b. is_purged_session key (session_at key.id w.sessions) || (not b && any_purged_at w.desk spans)) (eq-eqb key.time w.limits.time run)
    ∙ or_false (is_purged_session key (session_at key.id w.sessions)) ∙ first
  where
    or_false : (b : Bool) → (b || false) ≡ b
    or_false true = refl
    or_false false = refl

-- what is of another run is gone only with a volume of a span
pub foreign_gone : {D : Type 0} (w : WorldView D) (key : SessionKey) (spans : List Span) → IsWorld w → key.time ≢ w.limits.time → any_purged_at w.desk spans ≡ false
    → is_gone w key spans ≡ false
foreign_gone w key spans rules other none =
    ap (λ b. is_purged_session key (session_at key.id w.sessions) || (not (key.time == w.limits.time) && b)) none
    ∙ ap (λ b. is_purged_session key (session_at key.id w.sessions) || b) (and_false (not (key.time == w.limits.time)))
    ∙ ap (λ b. b || false) (found (session_at key.id w.sessions) refl)
  where
    and_false : (b : Bool) → (b && false) ≡ false
    and_false true = refl
    and_false false = refl

    found : (o : Option WorldSession) → session_at key.id w.sessions ≡ o → is_purged_session key o ≡ false
    found None is = refl
    found (Some e) is = same (is_key key e.session.key) refl
      where
        same : (b : Bool) → is_key key e.session.key ≡ b → (b && was_purged e.session.status) ≡ false
        same true own =
            absurd (other (ap (λ (k : SessionKey). k.time) (key_same key e.session.key own) ∙ (is_numbered w.limits.time 1 w.next key.id w.sessions e rules.numbers is).time_is))
        same false own = refl

-- the counts of a session of the machine are those of the world's
pub counts_small : {D : Type 0} (meaning : D → Meaning) (w : WorldView D) (m : Machine) (key : SessionKey) (e : WorldSession) (s : MachineSession) → Matches meaning w m
    → session_at key.id w.sessions ≡ Some e → session_of key.id m.sessions ≡ Some s → CountsFit w.sessions key
    → (length s.records < 2 ^ 64) × (total_bytes s.records < 2 ^ 64)
counts_small meaning w m key e s pairs there has fit =
    let f = found_session meaning w key.id w.sessions m.sessions e pairs.sessions there in
    let same : f.session ≡ s = cc (sym f.there ∙ has) in
    let n = fit e there in
    let count = n.0 in
    let bytes = n.1 in (
      subst (λ (x : MachineSession). length x.records < 2 ^ 64) same (omega (arith, f.matches.count_is, count)),
      subst (λ (x : MachineSession). total_bytes x.records < 2 ^ 64) same (omega (arith, f.matches.bytes_are, bytes)),
    )
