use Rattle.std.proofs.Common.{◌≡◌, ℕ, ◌+◌, ◌-◌, List, ◌++◌, length, take, drop, ap, ◌∙◌, arith}
use Rattle.std.proofs.lemmas.List.{append_assoc, take_at, drop_at, length-append, length-drop, length-take, length-take-le}
use Rattle.sd_spool.proofs.job.read_body.Goals as goal

-- after the room for a header comes what was read there
body_read : (size end : ℕ) (room read after rest : List ℕ) → length room ≡ 24 → length read ≡ size → end ≡ 24 + size
    → drop 24 (take end ((room ++ (read ++ after)) ++ rest)) ≡ read
body_read size end room read after rest room_is read_is end_is =
    let both : length (room ++ read) ≡ end = length-append room read ∙ omega (arith, room_is, read_is, end_is) in
    let apart : (room ++ (read ++ after)) ++ rest ≡ (room ++ read) ++ (after ++ rest) = simp append_assoc in
    ap (λ (bytes : List ℕ). drop 24 (take end bytes)) apart ∙ (ap (drop 24) (take_at (room ++ read) (after ++ rest) end both) ∙ drop_at room read 24 room_is)

pub returns-clause-size : goal.returns-clause-size
returns-clause-size g c =
    let D = c.deref_mut.result.now in
    let N = c.in-Ok.ensures.len in
    let long : length D ≡ 24 + c.args.size = c.deref_mut.ensures.len ∙ N in
    let read : length c.read_at.new.into ≡ c.args.size =
    c.read_at.auto.into ∙ (length-take (length D - 24) (drop 24 D) ∙ omega (arith, length-drop 24 D, long)) in
    ap length (c.from_frame.ensures ∙ body_read c.args.size c.in-Ok.frame.len (take 24 D) c.read_at.new.into _ _ (length-take-le 24 D (omega (arith, long))) read N) ∙ read

pub returns-clause-ok : goal.returns-clause-ok
returns-clause-ok g c = λ honest.
    let D = c.deref_mut.result.now in
    let N = c.in-Ok.ensures.len in
    let long : length D ≡ 24 + c.args.size = c.deref_mut.ensures.len ∙ N in
    let came : length (take (length D - 24) (drop 24 D)) ≡ c.args.size =
    length-take (length D - 24) (drop 24 D) ∙ omega (arith, length-drop 24 D, long) in
    let read : length c.read_at.new.into ≡ c.args.size = c.read_at.auto.into ∙ came in
    c.from_frame.ensures ∙ (body_read c.args.size c.in-Ok.frame.len (take 24 D) c.read_at.new.into _ _ (length-take-le 24 D (omega (arith, long))) read N
    ∙ (c.in_ok-read_at.ensures.ok honest ∙ ap (λ (n : ℕ). take n (drop c.args.at (g.S.SpoolStore.meaning c.args.store.now).bytes)) came))
