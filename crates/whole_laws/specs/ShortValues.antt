-- ShortValues: each value that documents give is written in fewer than 2 ^ 32 octets, which is the most that is read
-- (X.690, section 8.1.3; docs/PROFILE.md, section 3).
use Rattle.std.specs.Prelude.{List}
use Rattle.asn1_names.specs.ModuleTerms.{ModuleTerm}
use Rattle.linked_parts.specs.declared.linked.Linked.{Linked}
use Rattle.filled_syntaxes.specs.LinkedMeanings.{linked_arcs}
use Rattle.sound_laws.specs.ShortDefaults.{AreShortDefaults}
use Rattle.instance_laws.specs.ShortInstances.{AreShortInstances}
use Rattle.rule_laws.specs.ShortRules.{AreShortRules}

-- those of DEFAULTs, of the steps of rules, and of instances, in their names and behind WITH
pub record AreShortValues (ms : List ModuleTerm) (linked : Linked) : Type 0 where
  pub defaults : AreShortDefaults ms (linked_arcs linked)
  pub rules : AreShortRules ms linked
  pub instances : AreShortInstances ms linked
