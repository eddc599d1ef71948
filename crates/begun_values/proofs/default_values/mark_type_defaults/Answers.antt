-- What is told of the type is the syntax that it denotes.
use Rattle.std.proofs.Common.{sym}
use Rattle.std.proofs.Math.Path.{subst}
use Rattle.asn1_names.specs.TermViews.{module_terms, type_term}
use Rattle.begun_values.specs.MeantSyntaxes.{DenotesThis}
use Rattle.begun_values.proofs.ModuleLaws.{told_denoted}
use Rattle.begun_values.proofs.default_values.mark_type_defaults.Goals as goal

pub returns : goal.returns
returns c = λ m type.
    let ms = module_terms c.args.modules.now.types.now in
    let of = type_term c.args.of.now in
    c.mark_defaults.ensures ms m (subst (DenotesThis ms m of) (sym c.as_ref.ensures.value)
    (told_denoted ms m of type.meant c.in_ok-syntax.syntax type.has type.is_there
    (c.in_ok-syntax.ensures type.meant type.means)))
