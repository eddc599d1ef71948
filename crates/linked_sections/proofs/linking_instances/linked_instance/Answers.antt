-- The class, the name, what is given and the packages.
use Rattle.std.proofs.Common.{map, sym}
use Rattle.std.proofs.Math.Path.{subst}
use Rattle.gdmo_names.specs.InStep.{AreAll, AreEach}
use Rattle.gdmo_names.specs.MemberViews.{clause_tokens}
use Rattle.gdmo_names.specs.Mentions.{mention}
use Rattle.gdmo_names.specs.Mentions.Role.{GivenAttribute, InstanceClass, NameAttribute}
use Rattle.gdmo_names.specs.PartViews.{instance_term, pair_term, pair_terms}
use Rattle.gdmo_names.specs.TargetTables.{TellsMention}
use Rattle.gdmo_names.specs.TemplateTerms.ReferenceTerm.{ByLabel}
use Rattle.gdmo_targets.specs.SectionTables.{TellsPair}
use Rattle.linked_sections.specs.KnownSections.{IsCompletePair}
use Rattle.linked_sections.specs.LinkedSections.{IsPair}
use Rattle.linked_sections.proofs.InstanceLaws.{chosen, chosen_linked, chosen_meant, chosen_told}
use Rattle.linked_sections.proofs.linking_instances.linked_instance.Goals as goal

pub returns : goal.returns
returns c = λ parts document is complete told.
    let instance = instance_term document c.args.instance.now in
    let found = c.args.linker.now.linkage.templates.now in
    let own = c.args.instance.now.name.items in
    let labels = clause_tokens c.args.instance.now.packages in
    let tells = TellsPair parts found document NameAttribute in
    record {
      document = told.is_in;
      is_root = c.is_root.ensures;
      is_class = c.place-class.ensures parts document (mention InstanceClass (ByLabel instance.class)) is
          complete.class_meant told.is_class;
      name_is = subst (λ xs. AreEach (IsPair parts document NameAttribute) (map pair_term xs) c.in_ok-name.name.items)
          c.as_slice.ensures.value
          (c.in_ok-name.ensures parts document NameAttribute is
          (subst (λ xs. AreAll (IsCompletePair parts document NameAttribute) (map pair_term xs))
          (sym c.as_slice.ensures.value) complete.name_complete)
          (subst (λ xs. AreEach tells (map pair_term xs) c.as_slice-2.result.now) (sym c.as_slice.ensures.value)
          (subst (λ ns. AreEach tells (map pair_term own) ns) (sym c.as_slice-2.ensures.value) told.are_name)));
      given_are = c.in_ok-given.ensures parts document GivenAttribute is complete.given_complete
          (subst (λ ns. AreEach (TellsPair parts found document GivenAttribute)
          (pair_terms c.args.instance.now.values) ns) (sym c.as_slice-3.ensures.value) told.are_given);
      packages_are = chosen_linked parts document labels c.in_ok-packages.packages.items
          (c.in_ok-packages.ensures parts document (map chosen labels) is
          (chosen_meant parts document labels complete.packages_meant)
          (subst (λ ns. AreEach (TellsMention parts found document) (map chosen labels) ns)
          (sym c.as_slice-4.ensures.value)
          (chosen_told parts found document labels c.args.own.now.packages.items told.are_packages)));
    }
