-- UnionLaws: what is noted of references is what the sentences of their faults say, both ways; and the first of it is
-- told.
use Rattle.std.specs.Prelude.{◌≡◌, ◌⊎◌, ℕ, None, Some, Contains, refl}
use Rattle.std.proofs.Common.{inl, inr, subst, sym}
use Rattle.std.proofs.lemmas.Option.{none-some, same_Some}
use Rattle.gdmo_names.specs.declared.first_fault.LabelFault.{LabelFault as NotedFault}
use Rattle.gdmo_names.specs.DocumentTemplates.{templates}
use Rattle.gdmo_names.specs.DoubleNames.{DoubleLabelAt}
use Rattle.gdmo_names.specs.DoubleNames.DoubleLabelAt.{template_label, assigned_name}
use Rattle.gdmo_names.specs.DoubleNames.DoubleLabelAt.{module_name as module_twice, first_name as unequal_name}
use Rattle.gdmo_names.specs.FaultSets.{AnyOf, KeepsOne, LabelledTwice, Notes}
use Rattle.gdmo_names.specs.FirstLabelFault.{AreFaultless, HasFault, IsFirstFault, IsNoLater, LabelFault}
use Rattle.gdmo_names.specs.FirstLabelFault.LabelFault.{IdentifierDouble, KindWrong, LabelDouble, LabelUnknown}
use Rattle.gdmo_names.specs.GroupFaults.{FaultsOfAllGroups, FaultsOfGroups}
use Rattle.gdmo_names.specs.LabelMeaning.{reference_token}
use Rattle.gdmo_names.specs.NotedFaults.{kind_of}
use Rattle.gdmo_names.specs.PartTerms.{Placed, PartTerms, module_terms_of}
use Rattle.gdmo_names.specs.TargetTables.{AreFitting}
use Rattle.gdmo_names.specs.TemplateTerms.ReferenceTerm.{ByLabel}
use Rattle.gdmo_names.specs.UnknownLabels.{UnknownLabelAt}
use Rattle.gdmo_names.specs.UnknownLabels.UnknownLabelAt.{template_label as unknown_label, module_name, type_or_value}
use Rattle.gdmo_names.specs.UnknownLabels.UnknownLabelAt.{first_name}
use Rattle.gdmo_names.specs.WrongKinds.{WrongKindAt}
use Rattle.gdmo_names.specs.WrongKinds.WrongKindAt.{other_kind, other_sort, no_first_name, unregistered, fixed_group}
use Rattle.gdmo_names.specs.WrongKinds.WrongKindAt.{no_component, no_identifier, naming_attribute, foreign_attribute}
use Rattle.gdmo_names.specs.WrongKinds.WrongKindAt.{other_type, no_whole_number, stated_twice}
use Rattle.gdmo_targets.proofs.DoubleLaws.{labelled_fault, labelled_noted}
use Rattle.gdmo_targets.proofs.GroupLaws.{group_fault, group_noted}
use Rattle.gdmo_targets.proofs.ReferenceLaws.{any_in, any_out, other_noted, template_fault, unknown_noted}
use Rattle.gdmo_targets.proofs.ReferenceLaws.{unregistered_noted}
use Rattle.gdmo_targets.proofs.SectionLaws.{NotedOfReferences, refers_noted, reply_fault, section_fault, stated_fault}
use Rattle.gdmo_targets.proofs.SectionLaws.{stated_noted}
use Rattle.gdmo_types.specs.ModuleNames.{DoubleModuleNames}
use Rattle.gdmo_types.specs.QualifiedFaults.{QualifiedFaults}
use Rattle.gdmo_types.proofs.ModuleNameLaws.{assigned_name_noted, double_is_fault, module_name_noted}
use Rattle.gdmo_types.proofs.QualifiedLaws.{no_module_told, no_name_told, other_sort_told, qualified_is_fault}
use Rattle.gdmo_rules.specs.FaultsOfSteps.{FaultsOfSteps}
use Rattle.gdmo_rules.specs.FaultsOfSteps.FaultsOfSteps.{naming_attribute as noted_naming, of_reply}
use Rattle.gdmo_rules.specs.FaultsOfSteps.FaultsOfSteps.{foreign_attribute as noted_foreign, other_type as noted_type}
use Rattle.gdmo_rules.specs.FaultsOfSteps.FaultsOfSteps.{no_whole_number as noted_number}
use Rattle.gdmo_identifiers.proofs.SentenceLaws.{FaultsOfAll, double_set, identifier_sentence, module_sentence}
use Rattle.gdmo_identifiers.proofs.SentenceLaws.{no_identifier_set, other_set, unknown_set}
use Rattle.first_name_arcs.specs.UnequalNames.{UnequalNames}
use Rattle.label_laws.specs.AllFaults.{AllFaults, OfNames, OfTypes}

-- ---- where each set stands among all

module _ (parts : PartTerms) {kind : LabelFault} {document token : ℕ} where
  of_types : OfTypes parts kind document token → AllFaults parts kind document token
  of_types fault = inl (inl (inl (inr fault)))

  of_steps : FaultsOfSteps parts kind document token → AllFaults parts kind document token
  of_steps fault = of_types (inr (inr fault))

  of_identifiers : FaultsOfAll parts kind document token → AllFaults parts kind document token
  of_identifiers (inl fault) = inl (inl (inr fault))
  of_identifiers (inr fault) = inl (inr fault)

  of_module_names : DoubleModuleNames (module_terms_of parts) kind document token → AllFaults parts kind document token
  of_module_names fault = inl (inl (inl (inl (inl (inr (inl fault))))))

  of_labels : LabelledTwice parts kind document token → AllFaults parts kind document token
  of_labels fault = inl (inl (inl (inl (inl (inl (inl fault))))))

  of_names : (x : Placed) → Contains (templates parts) x → OfNames parts x kind document token →
      AllFaults parts kind document token
  of_names x stands fault = inl (inl (inl (inl (inl (inr (inr
      (any_in (OfNames parts) (templates parts) x stands kind document token fault)))))))

  of_qualified : AnyOf (QualifiedFaults parts) (templates parts) kind document token →
      AllFaults parts kind document token
  of_qualified fault = let x = any_out (QualifiedFaults parts) (templates parts) kind document token fault in
      of_names x.0 x.1 (inl x.2)

  of_groups : FaultsOfAllGroups parts kind document token → AllFaults parts kind document token
  of_groups fault = let x = any_out (FaultsOfGroups parts) (templates parts) kind document token fault in
      of_names x.0 x.1 (inr x.2)

  of_references : NotedOfReferences parts kind document token → AllFaults parts kind document token
  of_references (inl fault) = inl (inl (inl (inl (inl (inl (inr fault))))))
  of_references (inr (inl fault)) = inl (inl (inl (inl (inr fault))))
  of_references (inr (inr fault)) = of_steps (of_reply fault)

-- ---- from what is noted to the sentences

module _ (parts : PartTerms) (kind : LabelFault) (document token : ℕ) where
  wrong_is : {one at : ℕ} → WrongKindAt parts one at → one ≡ document → at ≡ token → KindWrong ≡ kind →
      HasFault parts kind document token
  wrong_is {one} {at} fault is_in is_at is_wrong = subst (λ k. HasFault parts k document token) is_wrong
      (subst (λ d. WrongKindAt parts d token) is_in (subst (λ t. WrongKindAt parts one t) is_at fault))

  step_is : FaultsOfSteps parts kind document token → HasFault parts kind document token
  step_is (noted_naming says is_wrong is_in is_at) = wrong_is (naming_attribute says refl refl) is_in is_at is_wrong
  step_is (noted_foreign says is_wrong is_in is_at) = wrong_is (foreign_attribute says refl refl) is_in is_at is_wrong
  step_is (noted_type says is_wrong is_in is_at) = wrong_is (other_type says refl refl) is_in is_at is_wrong
  step_is (noted_number says is_wrong is_in is_at) = wrong_is (no_whole_number says refl refl) is_in is_at is_wrong
  step_is (of_reply fault) = reply_fault parts kind document token fault

  types_is : OfTypes parts kind document token → HasFault parts kind document token
  types_is (inl (name, other, is_wrong, is_at)) = wrong_is (no_component other refl) refl is_at is_wrong
  types_is (inr (inl fault)) = stated_fault parts kind document token fault
  types_is (inr (inr fault)) = step_is fault

  names_is : (x : Placed) → Contains (templates parts) x → OfNames parts x kind document token →
      HasFault parts kind document token
  names_is x stands (inl fault) = qualified_is_fault parts x kind document token stands fault
  names_is x stands (inr fault) = group_fault parts kind document token
      (any_in (FaultsOfGroups parts) (templates parts) x stands kind document token fault)

  all_names_is : AnyOf (OfNames parts) (templates parts) kind document token → HasFault parts kind document token
  all_names_is fault = let x = any_out (OfNames parts) (templates parts) kind document token fault in
      names_is x.0 x.1 x.2

  unequal_is : UnequalNames parts kind document token → HasFault parts kind document token
  unequal_is fault = subst (λ k. HasFault parts k document token) fault.is_double
      (unequal_name fault.m fault.i fault.home_at fault.at fault.again fault.is_in fault.is_at)

  pub fault_is : AreFitting parts → AllFaults parts kind document token → HasFault parts kind document token
  fault_is fitting (inr fault) = unequal_is fault
  fault_is fitting (inl (inr fault)) = identifier_sentence parts kind document token fault
  fault_is fitting (inl (inl (inr fault))) = module_sentence parts kind document token fault
  fault_is fitting (inl (inl (inl (inr fault)))) = types_is fault
  fault_is fitting (inl (inl (inl (inl (inr fault))))) = section_fault parts kind document token fault
  fault_is fitting (inl (inl (inl (inl (inl (inr (inr fault))))))) = all_names_is fault
  fault_is fitting (inl (inl (inl (inl (inl (inr (inl fault))))))) = double_is_fault parts kind document token fault
  fault_is fitting (inl (inl (inl (inl (inl (inl (inr fault))))))) =
      template_fault parts fitting kind document token fault
  fault_is fitting (inl (inl (inl (inl (inl (inl (inl fault))))))) = labelled_fault parts kind document token fault

-- ---- from the sentences to what is noted

at_token : (parts : PartTerms) (kind : LabelFault) (document : ℕ) (at token : ℕ) → at ≡ token →
    AllFaults parts kind document at → AllFaults parts kind document token
at_token parts kind document at token is fault = subst (AllFaults parts kind document) is fault

unknown_of : (parts : PartTerms) (document token : ℕ) → UnknownLabelAt parts document token →
    AllFaults parts LabelUnknown document token
unknown_of parts document token (unknown_label {role = role} {label = label} refers none is_at) =
    at_token parts LabelUnknown document label.at token is_at (of_references parts
    (refers_noted parts document role (ByLabel label) refers LabelUnknown document label.at
    (unknown_noted parts document role label none)))
unknown_of parts document token (module_name {name = name} names none is_at) =
    at_token parts LabelUnknown document name.module_name.at token is_at
    (of_qualified parts (no_module_told parts document name names none))
unknown_of parts document token (type_or_value {name = name} names there none is_at) =
    at_token parts LabelUnknown document name.name.at token is_at
    (of_qualified parts (no_name_told parts document name names there none))
unknown_of parts document token (first_name {identifier = x} {name = name} stands is no_root unassigned is_at) =
    of_identifiers parts (unknown_set parts document token x name stands is no_root unassigned is_at)

wrong_of : (parts : PartTerms) (document token : ℕ) → WrongKindAt parts document token →
    AllFaults parts KindWrong document token
wrong_of parts document token (other_kind {label = label} h is_at) =
    at_token parts KindWrong document label.at token is_at (of_references parts
    (refers_noted parts document h.role (ByLabel label) h.refers KindWrong document label.at
    (other_noted parts document h.role label h.to h.means h.other)))
wrong_of parts document token (other_sort {name = name} h is_at) =
    at_token parts KindWrong document name.name.at token is_at (of_qualified parts (other_sort_told parts document name h))
wrong_of parts document token (no_first_name {name = name} h is_at) =
    of_identifiers parts (other_set parts document token name h is_at)
wrong_of parts document token (unregistered {reference = reference} h is_at) =
    at_token parts KindWrong document (reference_token reference).at token is_at (of_references parts
    (refers_noted parts document h.role reference h.refers KindWrong document (reference_token reference).at
    (unregistered_noted parts document h.role reference h.to h.must h.means h.unregistered)))
wrong_of parts document token (fixed_group {reference = reference} h is_at) =
    at_token parts KindWrong document (reference_token reference).at token is_at
    (of_groups parts (group_noted parts document reference h))
wrong_of parts document token (no_component {name = name} h is_at) =
    of_types parts (inl (name, h, refl, is_at))
wrong_of parts document token (no_identifier {brace = brace} h is_at) =
    of_identifiers parts (no_identifier_set parts document token brace h is_at)
wrong_of parts document token (naming_attribute says is_in is_at) =
    of_steps parts (noted_naming says refl is_in is_at)
wrong_of parts document token (foreign_attribute says is_in is_at) =
    of_steps parts (noted_foreign says refl is_in is_at)
wrong_of parts document token (other_type says is_in is_at) = of_steps parts (noted_type says refl is_in is_at)
wrong_of parts document token (no_whole_number says is_in is_at) = of_steps parts (noted_number says refl is_in is_at)
wrong_of parts document token (stated_twice {rule = rule} h is_in is_at) =
    of_types parts (inr (inl (stated_noted parts rule document token h is_in is_at)))

double_of : (parts : PartTerms) (document token : ℕ) → DoubleLabelAt parts document token →
    AllFaults parts LabelDouble document token
double_of parts document token (template_label {later = later} again is_in is_at) =
    of_labels parts (labelled_noted parts later document token again is_in is_at)
double_of parts document token (module_twice m {x = x} at again is_in is_at) =
    of_module_names parts (module_name_noted parts m x document token at again is_in is_at)
double_of parts document token (assigned_name m i {x = x} {assignment = a} at there again is_in is_at) =
    of_module_names parts (assigned_name_noted parts m i x a document token at there again is_in is_at)
double_of parts document token (unequal_name m i {x = x} {assignment = a} at there again is_in is_at) =
    inr (record {
      m = m;
      i = i;
      home = x;
      assignment = a;
      home_at = at;
      at = there;
      again = again;
      is_in = is_in;
      is_at = is_at;
      is_double = refl;
    })

pub fault_of : (parts : PartTerms) (kind : LabelFault) (document token : ℕ) → HasFault parts kind document token →
    AllFaults parts kind document token
fault_of parts LabelUnknown document token fault = unknown_of parts document token fault
fault_of parts KindWrong document token fault = wrong_of parts document token fault
fault_of parts LabelDouble document token fault = double_of parts document token fault
fault_of parts IdentifierDouble document token fault = of_identifiers parts (double_set parts document token fault)

-- ---- what was noted, from nothing

-- the first fault is kept
pub first_noted : (parts : PartTerms) (x : NotedFault) → AreFitting parts → Notes (AllFaults parts) None (Some x) →
    IsFirstFault parts (kind_of x.kind) x.document x.token
first_noted parts x fitting h = record {
  there = by (h.there x refl);
  least = λ kind document token fault. late kind document token
      (h.least kind document token (fault_of parts kind document token fault));
}
  where
    by : (None ≡ Some x) ⊎ AllFaults parts (kind_of x.kind) x.document x.token →
        HasFault parts (kind_of x.kind) x.document x.token
    by (inl none) = absurd (none-some x none)
    by (inr fault) = fault_is parts (kind_of x.kind) x.document x.token fitting fault

    late : (kind : LabelFault) (document token : ℕ) → KeepsOne (Some x) kind document token →
        IsNoLater (kind_of x.kind) x.document x.token kind document token
    late kind document token (y, is, before) =
        subst (λ z. IsNoLater (kind_of z.kind) z.document z.token kind document token) (sym (same_Some x y is)) before

-- or none is
pub nothing_noted : (parts : PartTerms) → Notes (AllFaults parts) None None → AreFaultless parts
nothing_noted parts h = λ kind document token fault.
    none kind document token (h.least kind document token (fault_of parts kind document token fault))
  where
    none : (kind : LabelFault) (document token : ℕ) → KeepsOne None kind document token → ⊥
    none kind document token (y, is, late) = none-some y is
