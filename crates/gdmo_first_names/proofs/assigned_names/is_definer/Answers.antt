-- The three tests.
use Rattle.std.proofs.Common.{◌≡◌, true}
use Rattle.std.specs.Prelude.{◌↔◌}
use Rattle.std.proofs.Math.Path.{subst}
use Rattle.asn1_names.specs.CodeMeanings.{IsValueNumber}
use Rattle.asn1_names.specs.NameMeaning.{assigned_in}
use Rattle.asn1_names.specs.TermViews.{module_terms}
use Rattle.gdmo_first_names.proofs.NameSteps.{all_define}
use Rattle.gdmo_first_names.proofs.assigned_names.is_definer.Goals as goal

pub returns : goal.returns
returns c = λ parts has a is named. all_define parts c.args.numbers.now c.args.number c.args.home a c.args.name.now
    c.is_no_root.result c.is_first_value.result c.has_identifier_type.result c.all_hold.result has is
    c.is_no_root.ensures
    (subst (λ ms. (c.is_first_value.result ≡ true) ↔ IsValueNumber (module_terms ms) c.args.number
    (assigned_in (module_terms ms) c.args.home c.args.name.now)) c.tables.ensures c.is_first_value.ensures)
    c.has_identifier_type.ensures c.all_hold.ensures
