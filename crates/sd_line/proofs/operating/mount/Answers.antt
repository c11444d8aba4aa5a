use Rattle.std.proofs.Common.{◌≡◌, Some, None, refl, sym, ap, ◌∙◌, inl, inr}
use Rattle.sd_drive.specs.Moves.{mount_due}
use Rattle.sd_line.specs.Operates.{desk_of}
use Rattle.sd_line.proofs.AnswerLemmas.{called_well, called_refused, due_or}
use Rattle.sd_world.proofs.CallLemmas.{drive_rests, device_fails}
use Rattle.sd_line.proofs.ClaimLemmas.{answered, answers}
use Rattle.sd_line.proofs.operating.mount.Goals as goal

pub returns-in-Ok : goal.returns-in-Ok
returns-in-Ok g c = λ own queue requests.
    let e = c.in-Ok.ensures in
    let d = c.args.drive.now in
    let desk = desk_of own d requests in
    elim (due_or (mount_due d c.args.name.now)) [
      | inl none ↦
          let m = e.mounts none in (
            answered own desk,
            None,
            (
              c.copy.ensures,
              record {
                place = m.0;
                due = none;
                place_is = m.1;
                mounts = m.2;
                calls = called_well (λ x. g.D.Driver.meaning x) _ _ _ e.counted e.keeps e.later;
                answers = answers own desk;
                is = refl;
              },
            ),
          )
      | inr p ↦ absurd (let x = e.refused p.0 p.1 in cc x)
    ]

pub returns-in-Err : goal.returns-in-Err
returns-in-Err g c = λ own queue requests.
    let e = c.in-Err.ensures in
    let d = c.args.drive.now in
    let after = c.mount.new.self in
    let desk = desk_of own d requests in
    let why = c.in-Err.why in
    elim (due_or (mount_due d c.args.name.now)) [
      | inl none ↦
          elim (e.mounts none).2 [
            | inl u ↦ (
              desk,
              None,
              inr (inr (
                none,
                u.1,
                (λ honest. e.on_shelf honest none),
                (u.0, called_refused (λ x. g.D.Driver.meaning x) why _ _ e.counted e.keeps e.later, refl),
              )),
            )
            | inr f ↦ (
              desk,
              Some f.0.volume.name,
              inr (inl (none, f.1, device_fails (λ x. g.D.Driver.meaning x) d after queue desk why f.0 f.1 e.counted e.keeps e.later)),
            )
          ]
      | inr p ↦
          let is : why ≡ p.0 = (let x = e.refused p.0 p.1 in cc x) in (
            desk,
            None,
            inl (p.1 ∙ ap Some (sym is), drive_rests d after queue desk (e.unchanged (λ n. (let s = p.1 in cc (n, s))))),
          )
    ]
