-- StandardFacts: names of types behind those of their modules, and rules of an attribute and its base, computed (X.680,
-- section 13.1; X.722, section 8.7).
use Rattle.std.proofs.Common.{◌≡◌, ℕ, List, [], ◌∷◌, Some, refl}
use Rattle.std.specs.Prelude.{true, false, codes}
use Rattle.token_grammar.specs.declared.token.Token.{Token}
use Rattle.asn1_names.specs.ModuleTerms.{ModuleTerm, TypeTerm}
use Rattle.asn1_names.specs.ModuleTerms.AssignedTerm.{AssignsType}
use Rattle.linked_parts.specs.declared.linked.NamedMeaning.TheVariants.{Assigned, Standard}
use Rattle.linked_types.specs.RuleSteps.{stated_rules, with_base}
use Rattle.linked_types.specs.TypeTables.{type_called}

abbrev word : List ℕ → Token
word text = record { kind = 0; at = 0; text = text }

abbrev modules : TypeTerm → List ModuleTerm
modules of = record {
  document = 0;
  name = word (codes "Types");
  is_implicit = false;
  imports = [];
  assignments = record { name = word (codes "Counter"); assigned = AssignsType of } ∷ [];
} ∷ []

assigned_example : (of : TypeTerm) → type_called (modules of) (Assigned 0 0) ≡ codes "Types.Counter"
assigned_example of = refl

standard_example : type_called [] (Standard (word (codes "ObjectClass"))) ≡ codes "CMIP-1.ObjectClass"
standard_example = refl

-- MATCHES FOR EQUALITY, ORDERING, derived from an attribute that has SET-INTERSECTION
base_example : with_base (stated_rules (word (codes "EQUALITY") ∷ word (codes "ORDERING") ∷ []))
    (Some (stated_rules (word (codes "SET-INTERSECTION") ∷ []))) ≡ record {
      equality = true;
      ordering = true;
      substrings = false;
      comparison = false;
      intersection = true;
    }
base_example = refl
