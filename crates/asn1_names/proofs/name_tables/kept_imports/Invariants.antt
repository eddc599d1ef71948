use Rattle.std.proofs.Common.{◌≡◌, ◌∷◌, ℕ, List, map, take}
use Rattle.asn1_names.specs.FirstNames.{sources}
use Rattle.asn1_names.specs.TermViews.{import_term}
use Rattle.asn1_names.proofs.NumberLaws.{sources_of}
use Rattle.asn1_names.proofs.name_tables.kept_imports.Given as goal

abbrev pub invariant-loop-group : goal.invariant-loop-group
invariant-loop-group l = (name : List ℕ) → sources l.imported name ≡
    sources_of name (import_term l.imports.first ∷ map import_term (take l.group-index l.group-items))
