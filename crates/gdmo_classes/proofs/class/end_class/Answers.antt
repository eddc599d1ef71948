-- The end, and the parts with the document number 0.
use Rattle.std.proofs.Common.{◌≡◌, sym, ap, subst, refl}
use Rattle.token_grammar.proofs.Exits.{exit_reads}
use Rattle.token_grammar.proofs.Parts.{spelt_as}
use Rattle.gdmo_members.specs.Trees.{registered_ending_tree}
use Rattle.gdmo_members.specs.MemberTrees.{template_tree}
use Rattle.gdmo_classes.specs.ClassTrees.{class_tree, class_clauses_tree}
use Rattle.gdmo_classes.specs.declared.class.ObjectClassTemplate.{ObjectClassTemplate}
use Rattle.gdmo_classes.proofs.class.end_class.Goals as goal

pub returns-in_err-registration-clause-reads : goal.returns-in_err-registration-clause-reads
returns-in_err-registration-clause-reads c =
    exit_reads _ c.from_residual.result c.from_residual.ensures.1 c.in_err-registration.ensures

pub returns : goal.returns
returns c = record {
  reads =
      spelt_as (ap (λ (x : ObjectClassTemplate). registered_ending_tree x.registration) c.in_ok-template.ensures.ok)
      c.in_ok-registration.ensures;
  made =
      subst (λ (x : ObjectClassTemplate). class_tree x ≡ template_tree 0 c.args.label
      (class_clauses_tree c.args.clauses)
      (registered_ending_tree x.registration)) (sym c.in_ok-template.ensures.ok) refl;
}
