-- ClosingStates: what is known while classes are closed: of the parts all that is told below, of the packages what they
-- state, and of the classes what they have of each attribute; then the names of types and values that records have mean
-- some (X.722, section 8; docs/PROFILE.md, section 18).
use Rattle.std.specs.Prelude.{List}
use Rattle.asn1_names.specs.ModuleTerms.{ModuleTerm}
use Rattle.joined_properties.specs.ClassProperties.{ArePropertiesOfAll}
use Rattle.joined_properties.specs.OwnStatements.{Stated}
use Rattle.linked_types.specs.KnownParts.{AreClosingParts}
use Rattle.linked_types.specs.declared.closing_parts.ClosingParts.{ClosingParts}
use Rattle.package_statements.specs.PackageStatements.{AreStated}
use Rattle.schema_records.specs.MeantParts.{HaveSyntaxes, HaveValues}
use Rattle.schema_records.specs.declared.class_records.JoinedClasses.{JoinedClasses}
use Rattle.section_values.specs.RegisteredSections.{HaveInstanceSyntaxes, HaveRuleSyntaxes}
use Rattle.linked_parts.specs.declared.linked.Linked.{Linked}

-- what packages state is known
pub record AreStatedParts (ms : List ModuleTerm) (parts : ClosingParts) (stated : Stated) : Type 0 where
  pub are_parts : AreClosingParts ms parts
  pub are_stated : AreStated ms parts.linked.now parts.table.now parts.values.now parts.linked.now.packages.items stated

-- and what classes have
pub record HaveJoined (ms : List ModuleTerm) (parts : ClosingParts) (joined : JoinedClasses) : Type 0 where
  pub stated : AreStatedParts ms parts joined.stated.now
  pub properties : ArePropertiesOfAll parts.values.now parts.linked.now.classes.items joined.stated.now
      joined.properties.now

-- each name of a type and of a value that a record has means one
pub record HaveMeanings (ms : List ModuleTerm) (linked : Linked) : Type 0 where
  pub have_syntaxes : HaveSyntaxes ms linked
  pub have_values : HaveValues ms linked
  pub rules_have_syntaxes : HaveRuleSyntaxes ms linked
  pub instances_have_syntaxes : HaveInstanceSyntaxes ms linked
