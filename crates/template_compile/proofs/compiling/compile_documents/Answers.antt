-- There are as many lists of tokens as documents.
use Rattle.std.proofs.Common.{◌≤◌, ◌∙◌, ap, arith, length, subst, sym}
use Rattle.std.specs.List.{list_any}
use Rattle.document_parts.specs.ReadDocuments.{AreLexed}
use Rattle.template_compile.specs.Counting.{is_instances}
use Rattle.template_compile.proofs.ListLaws.{as_many}
use Rattle.template_compile.proofs.compiling.compile_documents.Goals as goal

pub parsed-requires : goal.parsed-requires
parsed-requires c = record {
  few = subst (λ lists. length lists ≤ 64) (sym c.as_slice.ensures.value)
      (let many = as_many c.in_ok-lists.ensures.lexed in let few = c.requires.few in omega (arith, many, few));
  lexed = subst (λ lists. AreLexed c.args.documents.now lists) (sym c.as_slice.ensures.value)
      c.in_ok-lists.ensures.lexed;
}

pub returns-clause-compiled : goal.returns-clause-compiled
returns-clause-compiled c = record {
  parts = c.in_ok-parts.parts;
  accepted = c.in_ok-schema.ensures.accepted;
  counts_are = c.in_ok-counts.ensures;
  instances_are = c.has_instances.ensures ∙ ap (λ xs. list_any is_instances xs) c.as_slice-2.ensures.value;
}
