-- The numbers that the type states.
use Rattle.std.proofs.Common.{◌≡◌, ◌∙◌, List, ap, option_map, sym}
use Rattle.asn1_names.specs.TermViews.{bound_term}
use Rattle.asn1_names.specs.TypeBase.{number_called}
use Rattle.asn1_names.proofs.NamedLaws.{called_none}
use Rattle.asn1_names.proofs.NumberLaws.{empty_found}
use Rattle.asn1_names.proofs.named_numbers.number_map.Goals as goal

pub returns-in-None : goal.returns-in-None
returns-in-None c = λ name. ap (option_map (λ bound. bound_term bound.now))
    (empty_found c.new.result name c.new.ensures.empty) ∙ sym (ap (number_called name) c.in-None.ensures ∙
    called_none name)
