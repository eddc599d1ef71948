-- The packages that are mandatory, and then those that are conditional.
use Rattle.joined_properties.proofs.PutLaws.{own_chain}
use Rattle.joined_properties.proofs.inheriting.Inheriting.own.Goals as goal

pub returns : goal.returns
returns c = λ q.
    own_chain c.args.self.now.values.items.now c.args.self.now.stated.now c.args.class.now q c.new-own.result
    c.join_packages.new.own c.join_packages-2.new.own c.as_slice.result.now c.as_slice-2.result.now
    c.new-own.ensures.empty c.as_slice.ensures.value c.as_slice-2.ensures.value (c.in_ok-join_packages.ensures q)
    (c.in_ok-join_packages-2.ensures q)
