use Rattle.std.proofs.Common.{map, take}
use Rattle.asn1_names.specs.DenotedSyntax.{AreNamed}
use Rattle.asn1_names.specs.SaidNumbers.{AllSayNumbers}
use Rattle.asn1_names.specs.TermViews.{integer_term, module_terms}
use Rattle.asn1_types.proofs.said_numbers.named_integers.Given as goal

abbrev pub invariant-loop-one : goal.invariant-loop-one
invariant-loop-one l = AllSayNumbers (module_terms l.numbers) l.home (map integer_term l.named) →
    AreNamed (module_terms l.numbers) l.home (map integer_term (take l.one-index l.named)) l.items.items
