-- The octets of the identifiers are the one form of their SET OF.
use Rattle.std.proofs.Common.{pos, ap, ◌∙◌}
use Rattle.std.specs.Prelude.{Some}
use Rattle.result_contents.proofs.FailureForms.{ids_written}
use Rattle.result_contents.proofs.ResultForms.{turned_alone}
use Rattle.result_contents.proofs.errors.missing_attribute_value.Goals as goal

pub returns : goal.returns
returns c =
    c.with_parameter.ensures
    ∙ ap (λ xs. record { code = pos 18; parameter = Some xs })
    (turned_alone _ c.new-turned.ensures.items c.in_ok-write_ids.ensures.written
    ∙ ids_written c.args.attributes.now)
