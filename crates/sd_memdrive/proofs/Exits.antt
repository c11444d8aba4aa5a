-- What a call leaves that did nothing, or that did its work and then failed.
use Rattle.std.proofs.Common.{◌≡◌, ◌≤◌, ℕ, List, [], take, drop, min, Option, ap, sym, ◌∙◌, subst, append-nil, arith}
use Rattle.std.proofs.lemmas.List.{take-append-drop}
use Rattle.sd_driver.proofs.Lasting.{BeginsWith-same, BeginsWith-own_take}
use Rattle.sd_driver.specs.Shelf.{Held, Shelf, SameShelf, KeepsStableTo, BeginsWith, stable_bytes, Changes, Appends, MayAppend, Truncates, MayTruncate}

-- nothing happened

may_same : (step : Held → Held → Type 0) (loaded : Option (List ℕ)) (old new : Shelf) → ((held : Held) → step held held) → SameShelf old new → Changes step loaded old new
may_same step loaded old new stays same = record {
  here = λ name held e there. (held, stays held, same name ∙ there);
  others = λ name o. same name;
}

pub may_append_same : (loaded : Option (List ℕ)) (old new : Shelf) → SameShelf old new → MayAppend loaded old new
may_append_same loaded old new same = may_same _ loaded old new (λ held. ([], ap (λ (x : List ℕ). record { bytes = x; stable = held.stable }) (sym (append-nil held.bytes)))) same

pub may_cut_same : (to : ℕ) (loaded : Option (List ℕ)) (old new : Shelf) → SameShelf old new → MayTruncate to loaded old new
may_cut_same to loaded old new same = may_same _ loaded old new (λ held. (drop to held.bytes, sym (take-append-drop to held.bytes), omega arith)) same

-- the work was done

may_done : (step may : Held → Held → Type 0) (loaded : Option (List ℕ)) (old new : Shelf) → ((held after : Held) → step held after → may held after) → Changes step loaded old new → Changes may loaded old new
may_done step may loaded old new then changes = record {
  here = λ name held e there. (let r = changes.here name held e there in (r.0, then held r.0 r.1, r.2));
  others = changes.others;
}

pub may_append_done : (more : List ℕ) (loaded : Option (List ℕ)) (old new : Shelf) → Appends more loaded old new → MayAppend loaded old new
may_append_done more loaded old new done = may_done _ _ loaded old new (λ held after e. (more, e)) done

pub may_cut_done : (to : ℕ) (loaded : Option (List ℕ)) (old new : Shelf) → Truncates to loaded old new → MayTruncate to loaded old new
may_cut_done to loaded old new done =
    may_done _ _ loaded old new
    (λ held after e. ([], ap (λ (h : Held). h.bytes) e ∙ sym (append-nil (take to held.bytes)), least held after (ap (λ (h : Held). h.stable) e))) done
  where
    least : (held after : Held) → after.stable ≡ min to held.stable → min to held.stable ≤ after.stable
    least held after e = omega arith

-- nothing stable is lost

pub keeps_to_same : (to : ℕ) (loaded : Option (List ℕ)) (old new : Shelf) → SameShelf old new → KeepsStableTo to loaded old new
keeps_to_same to loaded old new same = record {
  front = λ name. (let P : List ℕ → Type 0 = λ x. BeginsWith x (take to (stable_bytes (old.volume name))) in subst P (sym (ap stable_bytes (same name))) (BeginsWith-own_take (stable_bytes (old.volume name)) to));
  others = λ name o. BeginsWith-same _ _ (ap stable_bytes (same name));
}
