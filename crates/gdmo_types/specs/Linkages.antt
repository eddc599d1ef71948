-- Linkages: what is known of templates once their references are looked up is what the documents say (X.722, section 8;
-- docs/PROFILE.md, section 12).
use Rattle.std.specs.Prelude.{◌≡◌}
use Rattle.asn1_names.specs.TermViews.{module_terms}
use Rattle.gdmo_names.specs.FoundViews.{AreLabels}
use Rattle.gdmo_names.specs.PartTerms.{PartTerms, module_terms_of}
use Rattle.gdmo_names.specs.TargetTables.{AreFound, AreTargets}
use Rattle.gdmo_types.specs.AttributeTypes.{AreAttributeTypes}
use Rattle.gdmo_types.specs.declared.linkage.Linkage.{Linkage}

pub record IsLinkage (parts : PartTerms) (linkage : Linkage) : Type 0 where
  pub are_found : AreFound parts linkage.templates.now
  pub are_labels : AreLabels parts linkage.templates.now linkage.labels.now
  pub are_targets : AreTargets parts linkage.templates.now linkage.targets.now
  pub are_modules : module_terms linkage.types.now ≡ module_terms_of parts
  pub are_attributes : AreAttributeTypes parts linkage.templates.now linkage.attributes.now
