-- What the invariant tells of the table.
use Rattle.std.proofs.Common.{◌∙◌, ap, sym}
use Rattle.std.proofs.Math.Path.{subst}
use Rattle.asn1_names.specs.CodeMeanings.{IsTypeOf}
use Rattle.asn1_names.specs.TermViews.{module_terms}
use Rattle.asn1_numbers.specs.NumberedBases.{numbers_at}
use Rattle.asn1_numbers.proofs.number_tables.Numbers.stated.Goals as goal

pub returns : goal.returns
returns c = λ m of is. c.bound_called.ensures ∙
    ap (λ maps. numbers_at maps c.args.number c.args.name.now) c.as_slice.ensures.value ∙
    c.self.invariant.stated c.args.number m of
    (subst (λ v. IsTypeOf (module_terms v) c.args.number m of) (sym c.self.view_is) is) c.args.name.now
