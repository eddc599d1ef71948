-- The one that is named in the role.
use Rattle.std.proofs.Common.{◌∷◌, []}
use Rattle.std.proofs.Math.Path.{subst}
use Rattle.std.proofs.Common.{◌∙◌, ap, get_or, refl}
use Rattle.gdmo_names.specs.InStep.{AreEach}
use Rattle.gdmo_linking.specs.Linkers.{LinksMention}
use Rattle.gdmo_linking.proofs.StepLaws.{each_number}
use Rattle.gdmo_linking.proofs.linking.Linker.first_in_role.Goals as goal

pub returns : goal.returns
returns c = λ parts x is named.
    each_number (LinksMention parts c.args.found.now.document) (x ∷ []) c.in_ok-places.places.items 0 x
    c.number_at.result
    (subst (λ xs. AreEach (LinksMention parts c.args.found.now.document) xs c.in_ok-places.places.items) named
    (c.in_ok-places.ensures parts is)) refl
    (c.number_at.ensures ∙ ap (λ ys. get_or ys 0 0) c.as_slice.ensures.value)
