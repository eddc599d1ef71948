use Rattle.std.proofs.Common.{◌≡◌, ℕ, List, None, Some, if◌then◌else◌, take}
use Rattle.std.specs.List.{list_any}
use Rattle.asn1_names.specs.FirstNames.{first_of, sources}
use Rattle.asn1_names.specs.NameMeaning.{is_called}
use Rattle.asn1_names.proofs.name_tables.keep_imports.Given as goal

abbrev pub invariant-loop-symbol : goal.invariant-loop-symbol
invariant-loop-symbol l = (name : List ℕ) → sources l.table name ≡ first_of (sources l.initial.table name)
    (if list_any (is_called name) (take l.symbol-index l.symbol-items) then Some l.group.module_name.text else None)
