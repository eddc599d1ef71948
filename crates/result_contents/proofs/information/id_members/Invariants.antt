-- What was made of the front of the list so far.
use Rattle.std.proofs.Common.{◌≡◌, false, take}
use Rattle.std.specs.Prelude.{map}
use Rattle.term_values.specs.Der.{encoded}
use Rattle.term_values.specs.Oid.{oid_contents}
use Rattle.term_values.specs.Tag.{context}
use Rattle.result_contents.proofs.information.id_members.Given as goal

abbrev pub invariant-loop-id : goal.invariant-loop-id
invariant-loop-id l =
    l.members.items ≡ map (λ id. encoded false (context 0) (oid_contents id)) (take l.id-index l.ids)
