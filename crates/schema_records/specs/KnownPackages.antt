-- KnownPackages: what is known of packages where records are made of them: what each states, by places of types and
-- numbers of values, that all that it names is registered, and that the types and values that it names are some (X.722,
-- section 8.4; docs/PROFILE.md, section 18).
use Rattle.std.specs.Prelude.{List, All}
use Rattle.asn1_names.specs.ModuleTerms.{ModuleTerm}
use Rattle.joined_statements.specs.JoinedStatements.{Values}
use Rattle.joined_properties.specs.OwnStatements.{Stated}
use Rattle.joined_properties.specs.declared.statement.Statement.{Statement}
use Rattle.linked_parts.specs.declared.linked.Linked.{Linked}
use Rattle.linked_parts.specs.declared.linked.LinkedPackage.{LinkedPackage}
use Rattle.linked_parts.specs.declared.linked.LinkedUse.{LinkedUse}
use Rattle.linked_types.specs.PartTypes.{AreTold}
use Rattle.linked_types.specs.declared.type_table.TypeTable.{TypeTable}
use Rattle.package_statements.specs.PackageStatements.{AreStated, IsStatementOf}
use Rattle.schema_records.specs.MeantParts.{HaveSyntaxes, HaveValues, MeanValues, MeansType}
use Rattle.schema_records.specs.RegisteredParts.{AreRegisteredParts, NamesRegistered}

pub record IsKnownPackage (ms : List ModuleTerm) (linked : Linked) (table : TypeTable) (values : Values)
    (part : LinkedPackage) (statements : List Statement) : Type 0 where
  pub says : AreTold (IsStatementOf ms linked table values) part.attributes.items statements
  pub names : NamesRegistered linked part
  pub types : All (λ (stated : LinkedUse). MeansType ms linked stated.permitted) part.attributes.items
  pub values_are : All (MeanValues ms linked) part.attributes.items

pub record AreKnownPackages (ms : List ModuleTerm) (linked : Linked) (table : TypeTable) (values : Values)
    (stated : Stated) : Type 0 where
  pub say : AreStated ms linked table values linked.packages.items stated
  pub registered : AreRegisteredParts linked
  pub types : HaveSyntaxes ms linked
  pub values_are : HaveValues ms linked
