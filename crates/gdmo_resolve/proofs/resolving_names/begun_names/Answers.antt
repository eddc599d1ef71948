-- Nothing is marked at first; then modules, sections and identifiers mark.
use Rattle.std.proofs.Common.{◌≡◌, ◌∙◌, ap, false, length, subst, sym}
use Rattle.std.proofs.lemmas.List.{length-replicate}
use Rattle.std.specs.Prelude.{flat_map}
use Rattle.asn1_names.specs.AssignmentNumbers.{assignment_count}
use Rattle.gdmo_first_names.specs.ReadModules.{HasModules}
use Rattle.gdmo_names.specs.PartTerms.{module_terms_of}
use Rattle.gdmo_names.specs.PartViews.{section_instances, section_rules}
use Rattle.gdmo_resolve.proofs.ResolvingLaws.{are_begun, none_marked, same_modules}
use Rattle.gdmo_resolve.proofs.resolving_names.begun_names.Goals as goal

pub returns : goal.returns
returns c = λ ps k assigned.
    let sections = c.as_slice-sections.ensures.value in
    are_begun ps _ c.mark_identifiers.new.names (record {
      are_defined = assigned.are_defined;
      none = none_marked c.in_ok-no_marks.field-0.items c.count.result c.in_ok-no_marks.ensures;
      with_modules = c.mark_module_values.new.names;
      with_sections = c.mark_section_values.new.names;
      marks_modules = c.in_ok-mark_module_values.ensures (module_terms_of ps) (same_modules ps c.args.known k)
          k.is_linkage.are_modules;
      marks_sections = c.in_ok-mark_section_values.ensures ps k.is_linkage
          (subst (λ xs. ps.rules ≡ flat_map section_rules xs) (sym sections) k.are_rules)
          (subst (λ xs. ps.instances ≡ flat_map section_instances xs) (sym sections) k.are_instances) k.are_targets;
      marks_identifiers = c.mark_identifiers.ensures ps
          (subst (HasModules ps) (sym c.as_slice.ensures.value) k.reads_modules) k.is_linkage.are_found.all;
    }) c.marks_tell_begun.ensures (ap length c.in_ok-no_marks.ensures ∙ length-replicate c.count.result false ∙ c.count.ensures
    ∙ ap assignment_count (same_modules ps c.args.known k))
