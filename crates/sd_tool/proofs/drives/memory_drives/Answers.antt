use Rattle.std.proofs.Common.{◌≡◌, ◌+◌, ap, sym, subst, ◌∙◌, arith, length, [], ◌∷◌}
use Rattle.std.proofs.lemmas.List.{length-append}
use Rattle.sd_tool.specs.MemDrives.{AreSetUp, IsSetUp}
use Rattle.sd_tool.proofs.SettingLemmas.{set_up_more}
use Rattle.sd_tool.proofs.drives.memory_drives.Goals as goal

pub loop-number-preserved : goal.loop-number-preserved
loop-number-preserved c =
    let v = c.args.values.now in
    let ds = c.loop-number.drives.items in
    let d = c.in_ok-new.field-0 in
    let number : c.unwrap-drive.result ≡ length ds + 1 = (rw c.unwrap-drive.ensures at c.new.ensures.value) ∙ sym c.loop-number.invariant.count in
    let here : IsSetUp v (length ds + 1) d = subst (λ n. IsSetUp v n d) number (record {
      unused = c.in_ok-new.ensures.unused;
      capacity = c.in_ok-new.ensures.capacity ∙ c.capacity.ensures;
      plan = c.in_ok-new.ensures.plan ∙ c.deref.ensures.value ∙ c.in_ok-plan.ensures;
    }) in
    record {
      count = (let n = ap length c.in_ok-push.ensures.items ∙ length-append ds (d ∷ []) in let k = c.loop-number.invariant.count in omega (arith, n, k));
      set_up = subst (AreSetUp v) (sym c.in_ok-push.ensures.items) (set_up_more v ds d c.loop-number.invariant.set_up here);
    }
