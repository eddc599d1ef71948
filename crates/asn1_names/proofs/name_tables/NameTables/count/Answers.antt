-- All assignments are held.
use Rattle.std.proofs.Common.{rules, ◌≡◌, ◌∙◌, ℕ, List, None, Some, Option, ap, option_map, slice_get, sym, Bor}
use Rattle.std.proofs.Math.Path.{subst}
use Rattle.std.specs.Option.{option_copied}
use Rattle.std.proofs.Common.{length}
use Rattle.asn1_names.specs.AssignmentNumbers.{assignment_count}
use Rattle.asn1_names.specs.TermViews.{module_terms}
use Rattle.asn1_names.proofs.TableLaws.{count_told}
use Rattle.asn1_names.proofs.name_tables.NameTables.count.Goals as goal

pub returns : goal.returns
returns c = ap length c.as_slice.ensures.value ∙
    count_told c.self.inside.modules.now c.self.inside.by_name c.self.inside.names.items
    c.self.inside.assignments.items c.self.invariant ∙
    ap (λ v. assignment_count (module_terms v)) c.self.view_is
