-- What sections name is known, and noted.
use Rattle.std.proofs.Common.{ap, refl, sym}
use Rattle.std.specs.Prelude.{flat_map, map}
use Rattle.gdmo_names.proofs.NotingLaws.{both_noted}
use Rattle.gdmo_names.specs.PartViews.{module_part, part_terms, section_instances, section_rules}
use Rattle.gdmo_names.specs.SectionFaults.{FaultsOfSections}
use Rattle.label_laws.specs.AllFaults.{WithNames}
use Rattle.gdmo_resolve.proofs.resolving.resolve_sections.Goals as goal

pub returns : goal.returns
returns c = λ read is tables noted.
    let ps = part_terms c.args.parts.now in
    let told = c.in_ok-targets.ensures ps (record { are = is.are_found.all; tells = is.are_labels })
    (ap (flat_map section_rules) (sym c.as_slice.ensures.value))
    (ap (flat_map section_instances) (sym c.as_slice.ensures.value)) in
    c.resolve_known.ensures ps (record {
      is_linkage = is;
      has_modules = ap (map module_part) (sym tables);
      reads_modules = refl;
      are_rules = refl;
      are_instances = refl;
      are_targets = told.0;
      are_read = read;
    }) (both_noted (WithNames ps) (FaultsOfSections ps) noted told.1)
