-- The sizes of a list.
use Rattle.std.proofs.Common.{◌∙◌, ap, option_map, sym}
use Rattle.std.proofs.Math.Path.{subst}
use Rattle.asn1_syntax.specs.declared.type_text.StructureText.{StructureText}
use Rattle.asn1_syntax.specs.declared.type_text.TypeText.{TypeText}
use Rattle.asn1_syntax.specs.declared.type_text.TypeText.TheVariants.{Structured}
use Rattle.asn1_names.specs.ModuleTerms.TypeTerm.{Repeated}
use Rattle.asn1_names.specs.TermViews.{module_terms, range_terms, type_term}
use Rattle.asn1_resolve.specs.FaultSets.{In, IsFirstOf}
use Rattle.asn1_resolve.specs.TypeFaults.{ConstraintFaults}
use Rattle.asn1_resolve.proofs.ConstraintLaws.{list_names_none}
use Rattle.asn1_resolve.proofs.constraint_faults.judge_constraints.Goals as goal

pub returns-in-ListOf : goal.returns-in-ListOf
returns-in-ListOf c =
    let ms = module_terms c.args.numbers.now in
    let word = c.in-Structured.word in
    let element = type_term c.in-ListOf.of.value in
    subst (λ (t : TypeText). IsFirstOf (In c.args.home.document (ConstraintFaults ms c.args.home.module (type_term t)))
    c.judge_size.result) (sym (c.in-Structured.is ∙ ap (λ (x : StructureText). Structured word x) c.in-ListOf.is))
    (c.judge_size.ensures (Repeated word (option_map range_terms c.in-ListOf.size) element)
    (list_names_none ms c.args.home.module word (option_map range_terms c.in-ListOf.size) element))
