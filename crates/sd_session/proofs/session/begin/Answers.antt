use Rattle.std.proofs.Common.{rules, refl, arith, []}
use Rattle.sd_session.proofs.session.begin.Goals as goal

pub invariant_of-result : goal.invariant_of-result
invariant_of-result g c = record {
  active_open = search rules;
  else_closed = search rules;
  whole = search rules;
  packed = λ _. record {
    left = [];
    records = [];
    count_is = refl;
    bytes_are = refl;
    room_least = c.requires.room;
    packs = c.requires.packs;
    left_are = (let none = c.requires.none_spooled in omega arith);
  };
}
