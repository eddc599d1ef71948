-- The end, and the parts with the document number 0.
use Rattle.std.proofs.Common.{◌≡◌, sym, ap, refl, subst}
use Rattle.token_grammar.proofs.Exits.{exit_reads}
use Rattle.token_grammar.proofs.Parts.{spelt_as}
use Rattle.gdmo_members.specs.Trees.{ending_tree}
use Rattle.gdmo_members.specs.MemberTrees.{attribute_tree, template_tree, attribute_clauses_tree}
use Rattle.gdmo_members.specs.declared.attribute.AttributeTemplate.{AttributeTemplate}
use Rattle.gdmo_members.proofs.attribute.end_attribute.Goals as goal

pub returns-in_err-registration-clause-reads : goal.returns-in_err-registration-clause-reads
returns-in_err-registration-clause-reads c =
    exit_reads _ c.from_residual.result c.from_residual.ensures.1 c.in_err-registration.ensures

pub returns : goal.returns
returns c = record {
  reads =
      spelt_as (ap (λ (x : AttributeTemplate). ending_tree x.registration) c.in_ok-template.ensures.ok)
      c.in_ok-registration.ensures;
  made =
      subst (λ (x : AttributeTemplate). attribute_tree x ≡ template_tree 0 c.args.label
      (attribute_clauses_tree c.args.clauses) (ending_tree x.registration)) (sym c.in_ok-template.ensures.ok) refl;
}
