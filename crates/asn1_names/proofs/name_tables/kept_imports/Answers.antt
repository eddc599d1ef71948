-- One more import.
use Rattle.std.proofs.Common.{◌≡◌, ◌∙◌, List, ap, option_map, sym}
use Rattle.asn1_names.specs.FirstNames.{first_of, sources}
use Rattle.asn1_names.specs.TermViews.{import_term}
use Rattle.asn1_names.proofs.NumberLaws.{empty_found, one_source, source_of, source_step}
use Rattle.asn1_names.proofs.name_tables.kept_imports.Goals as goal

pub loop-group-init : goal.loop-group-init
loop-group-init c = λ name. c.in_ok-keep_imports.ensures name ∙
    one_source name (import_term c.args.imports.now.first) (sources c.new-imported.result name)
    (ap (option_map (λ source. source.now)) (empty_found c.new-imported.result name c.new-imported.ensures.empty))

pub loop-group-preserved : goal.loop-group-preserved
loop-group-preserved c = λ name. c.in_ok-keep_imports-2.ensures name ∙
    ap (λ z. first_of z (source_of name (import_term c.group-item.result))) (c.loop-group.invariant name) ∙
    sym (source_step name (import_term c.args.imports.now.first) import_term c.deref-group-items.result.now
    c.loop-group.group-index c.group-item.result c.loop-group-test.true c.group-item.is)
