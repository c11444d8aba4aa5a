use Rattle.std.proofs.Common.{◌≡◌, sym, ap, ◌∙◌, subst, refl, arith, List, ℕ, Some, Err}
use Rattle.std.specs.Prelude.{IsTrue}
use Rattle.std.proofs.lemmas.Result.{err_from_is_err_and}
use Rattle.sd_volume.specs.Adopt.{IsVolumeOf}
use Rattle.sd_volume.specs.Noted.{IsTrusted}
use Rattle.sd_volume.proofs.DeviceLemmas.{OnlyReads-trans, OnlyReads-as, OnlyReads-adopting}
use Rattle.sd_volume.proofs.ImageLemmas.{label_block-least}
use Rattle.sd_volume.proofs.DueLemmas.{due_behind_label, adoptable_of}
use Rattle.sd_volume.proofs.NotedLemmas.{found_ends, IsTrusted-same}
use Rattle.sd_volume.proofs.adoption.find_volume.Goals as goal

pub invariant_of-result : goal.invariant_of-result
invariant_of-result g c =
    let k = c.in_ok-known.ensures in
    let e = c.in_ok-end.ensures in
    record {
      first_least = omega (arith, rw c.in-Some.is at c.in_ok-found.ensures.first, label_block-least c.in-Some.found.label);
      first_most = omega (arith, k.first, e.first);
      end_most = omega (arith, e.end, c.requires.most);
      next_least = e.least;
      next_most = e.next;
    }

pub returns-in_err-known-clause-device : goal.returns-in_err-known-clause-device
returns-in_err-known-clause-device g c =
    let p = err_from_is_err_and c.from_residual-in_err-known.result c.from_residual-in_err-known.ensures.1 in
    rw (p.1, p.2) (OnlyReads-trans _ _ _ _ _ (λ f. cc) c.in_ok-found.ensures.device (OnlyReads-adopting c.in_err-known.field-0.0 _ _ c.in_err-known.ensures.faults c.in_err-known.ensures.device))

pub returns-in_err-end-clause-device : goal.returns-in_err-end-clause-device
returns-in_err-end-clause-device g c =
    let p = err_from_is_err_and c.from_residual-in_err-end.result c.from_residual-in_err-end.ensures.1 in
    rw (p.1, p.2) (OnlyReads-trans _ _ _ (g.D.Driver.meaning c.read_label.new.driver) _ (λ f. cc) c.in_ok-found.ensures.device
    (OnlyReads-trans _ _ _ (g.D.Driver.meaning c.known_end.new.driver) _ (λ f. cc) c.in_ok-known.ensures.device (OnlyReads-as _ _ _ _ (λ f. cc) (λ f. cc) c.in_err-end.ensures.device)))

pub returns-clause-device : goal.returns-clause-device
returns-clause-device g c =
    OnlyReads-trans _ _ _ (g.D.Driver.meaning c.read_label.new.driver) _ (λ f. cc) c.in_ok-found.ensures.device
    (OnlyReads-trans _ _ _ (g.D.Driver.meaning c.known_end.new.driver) _ (λ f. cc) c.in_ok-known.ensures.device (OnlyReads-as _ _ _ _ (λ f. cc) (λ f. cc) c.in_ok-end.ensures.device))

pub returns-then-not-is_same-clause-due : goal.returns-then-not-is_same-clause-due
returns-then-not-is_same-clause-due g c = λ honest shows trusted held there whole a b.
    let read = c.in_ok-found.ensures in
    let shelf = (g.D.Driver.meaning c.args.driver.now).shelf in
    let there_0 : shelf.volume c.args.reader.now.name ≡ Some held = ap shelf.volume c.requires.name ∙ there in
    let begins = rw c.in-Some.is at (read.begins honest shows held there_0) in
    let ours : IsVolumeOf c.args.name.now held.bytes c.in-Some.found.label = record { label_is = rw c.in-Some.is at read.label; name_is = rw c.in-Some.is at read.named; begins = begins; most = omega (arith, c.requires.most, whole) } in
    (held, there, (c.in-Some.found.label, ours, λ same. (let so = c.if-not-is_same.ensures.1 same in absurd cc)))

pub returns-in_err-end-clause-due : goal.returns-in_err-end-clause-due
returns-in_err-end-clause-due g c = λ honest shows trusted held there whole.
    let p = err_from_is_err_and c.from_residual-in_err-end.result c.from_residual-in_err-end.ensures.1 in
    let label = c.in-Some.found.label in
    let read = c.in_ok-found.ensures in
    let known = c.in_ok-known.ensures in
    let shelf = (g.D.Driver.meaning c.args.driver.now).shelf in
    let mid = (g.D.Driver.meaning c.read_label.new.driver).shelf in
    let late = (g.D.Driver.meaning c.known_end.new.driver).shelf in
    let named : c.read_label.new.reader.name ≡ c.args.name.now = read.name ∙ c.requires.name in
    let there_0 : shelf.volume c.args.reader.now.name ≡ Some held = ap shelf.volume c.requires.name ∙ there in
    let there_1 : mid.volume c.read_label.new.reader.name ≡ Some held = ap mid.volume named ∙ (read.device.same honest _ ∙ there) in
    let honest_1 = subst IsTrue (sym read.device.counted.honest) honest in
    let honest_2 = subst IsTrue (sym known.device.counted.honest) honest_1 in
    let shows_1 = read.shows honest shows in
    let shows_2 = known.shows honest_1 shows_1 in
    let there_2 : late.volume c.known_end.new.reader.name ≡ Some held = ap late.volume known.name ∙ (known.device.same honest_1 _ ∙ there_1) in
    let begins = rw c.in-Some.is at (read.begins honest shows held there_0) in
    let ours : IsVolumeOf c.args.name.now held.bytes label = record { label_is = rw c.in-Some.is at read.label; name_is = rw c.in-Some.is at read.named; begins = begins; most = omega (arith, c.requires.most, whole) } in
    let trusted_1 = subst (λ (n : List ℕ). IsTrusted c.args.note n c.args.start_time mid) (sym named) (IsTrusted-same c.args.note c.args.name.now c.args.start_time shelf mid (read.device.same honest) trusted) in
    let goes = known.goes honest_1 shows_1 held there_1 whole (subst (λ (n : List ℕ). IsVolumeOf n held.bytes label) (sym named) ours) trusted_1 in
    rw (p.1, p.2) (λ a b. due_behind_label c.in_err-end.field-0.0 c.args.name.now c.args.media.now c.args.start_time shelf held label c.in_err-end.ensures.faults there ours (c.if-not-is_same.ensures.0 refl)
    (λ e. c.in_err-end.ensures.this_run honest_2 shows_2 held there_2 label goes (ap Err e))
    (λ e. sym (read.device.same honest _) ∙ (ap mid.volume (sym named) ∙ (sym (known.device.same honest_1 _) ∙ (ap late.volume (sym known.name) ∙ c.in_err-end.ensures.not_there honest_2 (ap Err e))))) a b)

pub returns-clause-found : goal.returns-clause-found
returns-clause-found g c = λ honest shows held there whole.
    let label = c.in-Some.found.label in
    let read = c.in_ok-found.ensures in
    let known = c.in_ok-known.ensures in
    let shelf = (g.D.Driver.meaning c.args.driver.now).shelf in
    let mid = (g.D.Driver.meaning c.read_label.new.driver).shelf in
    let late = (g.D.Driver.meaning c.known_end.new.driver).shelf in
    let named : c.read_label.new.reader.name ≡ c.args.name.now = read.name ∙ c.requires.name in
    let there_0 : shelf.volume c.args.reader.now.name ≡ Some held = ap shelf.volume c.requires.name ∙ there in
    let there_1 : mid.volume c.read_label.new.reader.name ≡ Some held = ap mid.volume named ∙ (read.device.same honest _ ∙ there) in
    let honest_1 = subst IsTrue (sym read.device.counted.honest) honest in
    let honest_2 = subst IsTrue (sym known.device.counted.honest) honest_1 in
    let shows_1 = read.shows honest shows in
    let shows_2 = known.shows honest_1 shows_1 in
    let there_2 : late.volume c.known_end.new.reader.name ≡ Some held = ap late.volume known.name ∙ (known.device.same honest_1 _ ∙ there_1) in
    let begins = rw c.in-Some.is at (read.begins honest shows held there_0) in
    let ours : IsVolumeOf c.args.name.now held.bytes label = record { label_is = rw c.in-Some.is at read.label; name_is = rw c.in-Some.is at read.named; begins = begins; most = omega (arith, c.requires.most, whole) } in
    let ends = c.in_ok-end.ensures in
    let first_is = rw c.in-Some.is at read.first in
    record {
      label = label;
      ours = ours;
      media_is = c.if-not-is_same.ensures.0 refl;
      pool_is = c.copy-2.ensures;
      first_is = first_is;
      ends = found_ends c.args.start_time held.bytes _ c.in-Some.found.first _ _ _ _ _ _ (ends.stands honest_2 shows_2 held there_2) (known.stands honest_1 shows_1 held there_1 whole) first_is;
      ended = ends.ended honest_2 shows_2 held there_2 whole;
    }

pub returns-clause-adoptable : goal.returns-clause-adoptable
returns-clause-adoptable g c = λ honest shows trusted held there whole.
    let label = c.in-Some.found.label in
    let read = c.in_ok-found.ensures in
    let known = c.in_ok-known.ensures in
    let shelf = (g.D.Driver.meaning c.args.driver.now).shelf in
    let mid = (g.D.Driver.meaning c.read_label.new.driver).shelf in
    let late = (g.D.Driver.meaning c.known_end.new.driver).shelf in
    let named : c.read_label.new.reader.name ≡ c.args.name.now = read.name ∙ c.requires.name in
    let there_0 : shelf.volume c.args.reader.now.name ≡ Some held = ap shelf.volume c.requires.name ∙ there in
    let there_1 : mid.volume c.read_label.new.reader.name ≡ Some held = ap mid.volume named ∙ (read.device.same honest _ ∙ there) in
    let honest_1 = subst IsTrue (sym read.device.counted.honest) honest in
    let honest_2 = subst IsTrue (sym known.device.counted.honest) honest_1 in
    let shows_1 = read.shows honest shows in
    let shows_2 = known.shows honest_1 shows_1 in
    let there_2 : late.volume c.known_end.new.reader.name ≡ Some held = ap late.volume known.name ∙ (known.device.same honest_1 _ ∙ there_1) in
    let begins = rw c.in-Some.is at (read.begins honest shows held there_0) in
    let ours : IsVolumeOf c.args.name.now held.bytes label = record { label_is = rw c.in-Some.is at read.label; name_is = rw c.in-Some.is at read.named; begins = begins; most = omega (arith, c.requires.most, whole) } in
    let trusted_1 = subst (λ (n : List ℕ). IsTrusted c.args.note n c.args.start_time mid) (sym named) (IsTrusted-same c.args.note c.args.name.now c.args.start_time shelf mid (read.device.same honest) trusted) in
    let goes = known.goes honest_1 shows_1 held there_1 whole (subst (λ (n : List ℕ). IsVolumeOf n held.bytes label) (sym named) ours) trusted_1 in
    let ends = c.in_ok-end.ensures in
    adoptable_of c.args.name.now c.args.media.now c.args.start_time held.bytes _ label ours (c.if-not-is_same.ensures.0 refl) c.copy-2.ensures (rw c.in-Some.is at read.first)
    (ends.goes honest_2 shows_2 held there_2 label goes) (ends.ended honest_2 shows_2 held there_2 whole)
