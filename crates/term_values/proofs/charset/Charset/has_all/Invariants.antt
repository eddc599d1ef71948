use Rattle.std.proofs.Common.{◌≡◌, drop}
use Rattle.std.specs.List.{list_all}
use Rattle.term_values.specs.Bounded.{has_character}
use Rattle.term_values.proofs.charset.Charset.has_all.Given as goal

abbrev pub invariant-loop-octet : goal.invariant-loop-octet
invariant-loop-octet l = list_all (has_character l.self) l.text
    ≡ list_all (has_character l.self) (drop l.octet-index l.text)
