-- An example of docs/PROFILE.md, section 12, computed: `ROOT a AT {load = ..}` names objects of the class a by load, so
-- that a step of a rule for a may not name it.
use Rattle.std.specs.Prelude.{◌≡◌, [], ◌∷◌, true, None, Some, Contains, codes, refl}
use Rattle.std.proofs.Common.{arith, inl}
use Rattle.token_grammar.specs.Form.{Bare}
use Rattle.gdmo_names.specs.ClassMembers.{CanBeNamedBy}
use Rattle.gdmo_names.specs.ClassMembers.IsNamedBy.{as_root}
use Rattle.gdmo_names.specs.DocumentTemplates.{templates}
use Rattle.gdmo_names.specs.LabelMeaning.{first_called, label_meaning, target}
use Rattle.gdmo_names.specs.PartTerms.{InstanceTerm, PairTerm, PartTerms}
use Rattle.gdmo_names.specs.TemplateTerms.{TemplateTerm}
use Rattle.gdmo_names.specs.TemplateTerms.ReferenceTerms.{NoReferences}
use Rattle.gdmo_names.proofs.Texts.{arcs_of, attribute_of, class_of, placed, qualified, word}
use Rattle.class_graphs.specs.ClassGraphs.{MayNotName}

abbrev class_a : TemplateTerm
class_a = class_of (word 0 (codes "a")) (arcs_of 30 (codes "3") (codes "1")) NoReferences NoReferences

abbrev load : TemplateTerm
load = attribute_of (word 100 (codes "load")) (qualified (word 120 (codes "Net")) (word 124 (codes "Id"))) None

abbrev load_pair : PairTerm
load_pair = record { attribute = word 220 (codes "load"); value = Bare }

abbrev root_a : InstanceTerm
root_a = record {
  document = 1;
  is_root = true;
  class = word 200 (codes "a");
  name = load_pair ∷ [];
  given = [];
  packages = [];
}

abbrev rooted : PartTerms
rooted = record {
  modules = [];
  outermost = placed 1 class_a ∷ placed 1 load ∷ [];
  rules = [];
  instances = root_a ∷ [];
}

a_means : label_meaning rooted (codes "a") ≡ Some (placed 1 class_a)
unfolding label_meaning first_called templates
a_means = refl

load_means : label_meaning rooted (codes "load") ≡ Some (placed 1 load)
unfolding label_meaning first_called templates
load_means = refl

a_stands : Contains (templates rooted) (placed 1 class_a)
unfolding templates
a_stands = (0, omega arith, refl)

a_is_named : CanBeNamedBy rooted (placed 1 class_a) (placed 1 load)
unfolding target
a_is_named = record {
  below = placed 1 class_a;
  stands = a_stands;
  derives = inl refl;
  named = as_root {instance = root_a} {pair = load_pair} (0, omega arith, refl) refl refl
      (record { is_target = a_means; of_kind = refl }) (record { is_target = load_means; of_kind = refl });
}

load_may_not : MayNotName rooted (placed 1 class_a) (placed 1 load)
load_may_not = inl a_is_named
