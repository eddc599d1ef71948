-- TakenViews: what SET or REPLY takes, as the code has it (docs/PROFILE.md, section 9).
use Rattle.asn1_values_syntax.specs.ValueTrees.{value_tree}
use Rattle.gdmo_rules.specs.declared.rule_faults.Taken.{Taken}
use Rattle.gdmo_rules.specs.declared.rule_faults.Taken.TheVariants as taken
use Rattle.gdmo_names.specs.PartTerms.{TakenTerm}
use Rattle.gdmo_names.specs.PartTerms.TakenTerm.{TheArgument, OneWord, OtherValue}

abbrev pub taken_view : Taken → TakenTerm
taken_view (taken.Argument word) = TheArgument word.now
taken_view (taken.Word word) = OneWord word.now
taken_view (taken.Value value) = OtherValue (value_tree value.now)
