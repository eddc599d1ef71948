-- No imports.
use Rattle.std.proofs.Common.{◌≡◌, ◌∙◌, List, ap, option_map, sym}
use Rattle.asn1_names.specs.TermViews.{import_terms}
use Rattle.asn1_names.proofs.NumberLaws.{empty_found, no_sources, sources_of}
use Rattle.asn1_names.proofs.name_tables.imported_names.Goals as goal

pub returns-in-None : goal.returns-in-None
returns-in-None c = λ name.
    ap (option_map (λ source. source.now)) (empty_found c.new.result name c.new.ensures.empty) ∙
    sym (ap (λ i. sources_of name (import_terms i)) c.in-None.is ∙ no_sources name)
