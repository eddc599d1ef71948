-- What is inherited, and then what is stated.
use Rattle.std.specs.BTreeMap.{get}
use Rattle.std.specs.Ordering.{nat_cmp}
use Rattle.joined_properties.proofs.inheriting.Inheriting.joined.Goals as goal

pub returns : goal.returns
returns c = λ q. record {
  own = get nat_cmp c.in_ok-own.own q;
  inherited = get nat_cmp c.in_ok-joined.joined q;
  own_is = c.in_ok-own.ensures q;
  inherited_is = c.in_ok-joined.ensures q;
  is_joined = c.in_ok-join_many.ensures q;
}
