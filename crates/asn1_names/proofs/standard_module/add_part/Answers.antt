use Rattle.std.proofs.Common.{ap, ◌∙◌, [], ◌∷◌}
use Rattle.asn1_names.proofs.PartsLaws.{front_of_both}
use Rattle.asn1_names.proofs.standard_module.add_part.Goals as goal
use Rattle.asn1_names.specs.PartsInFront.{in_front}

pub returns-clause-appended : goal.returns-clause-appended
returns-clause-appended c rest =
    ap (λ xs. in_front xs rest) c.in_ok-push.ensures.items
    ∙ front_of_both c.args.into.now.items (c.in_ok-part_of.field-0 ∷ []) rest
    ∙ ap (in_front c.args.into.now.items) (c.in_ok-part_of.ensures rest)
