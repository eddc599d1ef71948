-- One more symbol of an import.
use Rattle.std.proofs.Common.{◌≡◌, ◌∙◌, ℕ, List, Some, None, ap, if◌then◌else◌, sym, take}
use Rattle.std.specs.List.{list_any}
use Rattle.asn1_names.specs.FirstNames.{first_of, sources}
use Rattle.asn1_names.specs.NameMeaning.{is_called}
use Rattle.asn1_names.specs.StandardModule.{is_same_name}
use Rattle.asn1_names.proofs.NumberLaws.{imports_step}
use Rattle.asn1_names.proofs.name_tables.keep_imports.Goals as goal

pub loop-symbol-preserved : goal.loop-symbol-preserved
loop-symbol-preserved c = λ name. c.in_ok-keep_source.ensures name ∙
    ap (λ z. first_of z (if is_same_name c.as_slice.result.now name then Some c.as_slice-from.result.now else None))
    (c.loop-symbol.invariant name) ∙
    ap (λ z. first_of (first_of (sources c.args.table.now name) (if list_any (is_called name)
    (take c.loop-symbol.symbol-index c.deref-symbol-items.result.now) then Some c.args.group.now.module_name.text
    else None)) (if is_same_name z name then Some c.as_slice-from.result.now else None)) c.as_slice.ensures ∙
    ap (λ z. first_of (first_of (sources c.args.table.now name) (if list_any (is_called name)
    (take c.loop-symbol.symbol-index c.deref-symbol-items.result.now) then Some c.args.group.now.module_name.text
    else None)) (if is_called name c.symbol-item.result then Some z else None)) c.as_slice-from.ensures ∙
    imports_step name c.deref-symbol-items.result.now c.loop-symbol.symbol-index c.symbol-item.result
    (sources c.args.table.now name) c.args.group.now.module_name.text c.loop-symbol-test.true c.symbol-item.is
