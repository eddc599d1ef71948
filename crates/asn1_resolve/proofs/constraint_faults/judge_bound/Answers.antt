-- What was found of the bound.
use Rattle.std.proofs.Common.{◌∙◌, ap, sym}
use Rattle.std.proofs.Math.Path.{subst}
use Rattle.token_grammar.specs.declared.token.Token.{Token}
use Rattle.asn1_names.specs.declared.first_fault.FaultKind.TheVariants as noted
use Rattle.asn1_names.specs.ModuleTerms.{NumberTerm}
use Rattle.asn1_names.specs.NumbersFound.{text_term}
use Rattle.asn1_names.specs.TermViews.{module_terms}
use Rattle.asn1_resolve.specs.FaultSets.{In, IsFirstOf, found_fault}
use Rattle.asn1_resolve.specs.TypeFaults.{BoundFaults}
use Rattle.asn1_resolve.proofs.ConstraintLaws.{bound_judged}
use Rattle.asn1_resolve.proofs.constraint_faults.judge_bound.Goals as goal

pub returns : goal.returns
returns c = λ of names.
    let ms = module_terms c.args.numbers.now in
    let number = text_term c.bound_text-text.result in
    subst (λ (n : NumberTerm). IsFirstOf (In c.args.home.document (BoundFaults ms c.args.home.module of n))
    c.judge_found.result) c.bound_text-text.ensures
    (subst (λ r. IsFirstOf (In c.args.home.document (BoundFaults ms c.args.home.module of number)) r)
    (sym (c.judge_found.ensures ∙ ap (λ (t : Token). found_fault c.args.home.document t.at noted.WideNumber
    c.bound-found.result) c.number_token.ensures))
    (bound_judged ms c.args.home.document c.args.home.module of number c.bound-found.result
    (c.bound-found.ensures of names)))
