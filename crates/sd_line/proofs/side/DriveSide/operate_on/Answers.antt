use Rattle.sd_driver.specs.Meaning.{Meaning}
use Rattle.sd_line.proofs.OperateLemmas.{operated, operated_goes_on, own_last}
use Rattle.sd_line.proofs.SideLemmas.{calls_keep, told_keep}
use Rattle.sd_line.proofs.side.DriveSide.operate_on.Goals as goal

pub invariant_of-self : goal.invariant_of-self
invariant_of-self g c =
    let meaning : g.row.D.Denot → Meaning = λ d. g.D.Driver.meaning d in
    let p = c.self.inside in
    let l = operated meaning _ _ _ _ _ c.operate.ensures in
    record {
      keeps = told_keep meaning g.N.Naming.table g.N.Naming.time p.no p.book.id p.drive c.operate.new.drive p.seat p.seat p.told p.book.entries
          (operated_goes_on _ meaning _ _ l)
          (calls_keep meaning _ _ _ _ _ _ _ l.stays.limits l.stays.keeps l.stays.gone) c.self.invariant.keeps;
      counted = c.self.invariant.counted;
    }

pub returns-clause-operates : goal.returns-clause-operates
returns-clause-operates g c = rw (← c.self.view_is) c.operate.ensures

pub returns-clause-goes_on : goal.returns-clause-goes_on
returns-clause-goes_on g c =
    rw (← c.self.view_is) (operated_goes_on _ (λ d. g.D.Driver.meaning d) _ _ (operated (λ d. g.D.Driver.meaning d) _ _ _ _ _ c.operate.ensures))

pub returns-clause-own_last : goal.returns-clause-own_last
returns-clause-own_last g c = rw (← c.self.view_is) (own_last (λ d. g.D.Driver.meaning d) _ _ _ _ _ c.operate.ensures)
