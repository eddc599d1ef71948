-- Examples: T ::= INTEGER { one(1) }, v T ::= one, B ::= B. The value v is 1, its type has the base of T, and B
-- contains itself.
use Rattle.std.proofs.Common.{◌≡◌, pos, List, [], ◌∷◌, None, Some, codes, false, refl, arith}
use Rattle.std.specs.Str.Parse.{IsNumeral}
use Rattle.token_grammar.specs.Form.{Bare}
use Rattle.asn1_names.specs.AssignmentNumbers.{assignment_count, numbered_at}
use Rattle.asn1_names.specs.CodeMeanings.{IsTypeNumber, IsTypeOf}
use Rattle.asn1_names.specs.Containment.ContainsType.{directly}
use Rattle.asn1_names.specs.Containment.Within.{itself as stands_itself}
use Rattle.asn1_names.specs.ModuleTerms.{AssignmentTerm, ModuleTerm, TypeTerm}
use Rattle.asn1_names.specs.ModuleTerms.AssignedTerm.{AssignsValue}
use Rattle.asn1_names.specs.ModuleTerms.NumberTerm.{Digits, Called}
use Rattle.asn1_names.specs.ModuleTerms.PlainTerm.{IntegerTerm}
use Rattle.asn1_names.specs.ModuleTerms.TypeTerm.{Plain}
use Rattle.asn1_names.specs.NameMeaning.{assigned_in, first_assignment, name_meaning, reference_meaning, type_at}
use Rattle.asn1_names.specs.NameMeaning.Meaning.{TypeAt}
use Rattle.asn1_names.specs.TypeBase.{HasBase, HasNamedNumber, number_called}
use Rattle.asn1_names.specs.TypeBase.Base.{Written}
use Rattle.asn1_names.specs.TypeBase.HasBase.{itself, named as base_named}
use Rattle.asn1_names.specs.WholeNumbers.{FitsSixtyFour}
use Rattle.asn1_names.specs.WholeNumbers.IsNumber.{digits as digits_are}
use Rattle.asn1_names.proofs.Texts.{word, digits, named, type_assignment, module_of}
use Rattle.asn1_numbers.specs.NamedTargets.{AddsNamed}
use Rattle.asn1_numbers.specs.NumberedBases.{HasBaseAt, held_in}
use Rattle.asn1_numbers.specs.NumberedBases.IsEnd.{written}
use Rattle.asn1_numbers.specs.NumberedTypes.{IsCyclicNumber}
use Rattle.asn1_numbers.specs.NumberedValues.{HasValue, value_at_end}
use Rattle.asn1_numbers.specs.NumberedValues.IsValueOf.{named_number}
use Rattle.asn1_numbers.proofs.BaseLinkLaws.{at_same}
use Rattle.asn1_numbers.proofs.LeadingLaws.{same_type}
use Rattle.asn1_numbers.proofs.TargetLaws.{adds_type}

abbrev one_type : TypeTerm
one_type = Plain (word 36 (codes "INTEGER")) (IntegerTerm (record {
  name = word 46 (codes "one");
  number = Digits false (digits 50 (codes "1"));
} ∷ [])) []

abbrev value_v : AssignmentTerm
value_v = record {
  name = word 60 (codes "v");
  assigned = AssignsValue (named 62 (codes "T")) (Some (Called (word 68 (codes "one")))) Bare;
}

abbrev numbers : List ModuleTerm
numbers = module_of 0 (codes "Numbers") [] (type_assignment 30 (codes "T") one_type ∷ value_v ∷
    type_assignment 80 (codes "B") (named 86 (codes "B")) ∷ []) ∷ []

count_example : assignment_count numbers ≡ 3
unfolding assignment_count
count_example = refl

type_t : IsTypeOf numbers 0 0 one_type
unfolding numbered_at
type_t = record {
  numbered = record { in_module = 0; place = 0; assignment = type_assignment 30 (codes "T") one_type };
  at = refl;
  module_is = refl;
  is = refl;
}

type_v : IsTypeOf numbers 1 0 (named 62 (codes "T"))
unfolding numbered_at
type_v = record {
  numbered = record { in_module = 0; place = 1; assignment = value_v };
  at = refl;
  module_is = refl;
  is = refl;
}

meant_t : reference_meaning numbers 0 None (word 62 (codes "T")) ≡ TypeAt 0 0 one_type
unfolding reference_meaning name_meaning assigned_in first_assignment
meant_t = refl

base_of_v : HasBase numbers 0 (named 62 (codes "T")) (Written 0 one_type)
base_of_v = base_named meant_t (itself refl)

base_example : HasBaseAt numbers 1 0
base_example = record {
  home = 0;
  whole = one_type;
  is = type_t;
  base = Written 0 one_type;
  ends = written refl;
  has = λ m of is. at_same (λ v x. HasBase numbers v x (Written 0 one_type)) 0 m (named 62 (codes "T")) of
      (same_type numbers 1 0 m (named 62 (codes "T")) of type_v is) base_of_v;
}

one_fits : FitsSixtyFour (pos 1)
one_fits = record { at_least = omega arith; below = omega arith }

one_digits : IsNumeral 10 (codes "1")
one_digits = (omega arith, (omega arith, tt))

one_named : HasNamedNumber numbers 0 (named 62 (codes "T")) (word 68 (codes "one")) 0 (Digits false
    (digits 50 (codes "1")))
unfolding number_called
one_named = record { base = one_type; has = base_of_v; called = refl }

value_example : HasValue numbers 1 (pos 1)
unfolding numbered_at
value_example = record {
  m = 0;
  of = named 62 (codes "T");
  stated = Called (word 68 (codes "one"));
  assigns = record {
    numbered = record { in_module = 0; place = 1; assignment = value_v };
    at = refl;
    module_is = refl;
    text = Bare;
    assigns = refl;
  };
  is = named_number one_named (digits_are one_digits refl one_fits);
}

-- the chain of the assignment 0 ends at 1, which has the number 5, that of 1 at none
held_example : value_at_end (None ∷ Some (pos 5) ∷ []) (held_in (Some 1 ∷ None ∷ []) 0) ≡ Some (pos 5)
held_example = refl

b_at : type_at numbers 0 2 ≡ Some (named 86 (codes "B"))
unfolding type_at
b_at = refl

meant_b : reference_meaning numbers 0 None (word 86 (codes "B")) ≡ TypeAt 0 2 (named 86 (codes "B"))
unfolding reference_meaning name_meaning assigned_in first_assignment
meant_b = refl

cyclic_example : IsCyclicNumber numbers 2
unfolding numbered_at
cyclic_example = record {
  numbered = record {
    in_module = 0;
    place = 2;
    assignment = type_assignment 80 (codes "B") (named 86 (codes "B"));
  };
  at = refl;
  cyclic = directly b_at (record {
    module_name = None;
    name = word 86 (codes "B");
    limits = [];
    stands = stands_itself;
    named = named 86 (codes "B");
    means = meant_b;
  });
}

-- the type of B names the assignment 2
meant_number : IsTypeNumber numbers 2 (reference_meaning numbers 0 None (word 86 (codes "B")))
unfolding numbered_at
meant_number = record {
  numbered = record {
    in_module = 0;
    place = 2;
    assignment = type_assignment 80 (codes "B") (named 86 (codes "B"));
  };
  at = refl;
  of = named 86 (codes "B");
  assigns = refl;
  is = meant_b;
}

targets_example : AddsNamed numbers 0 (named 86 (codes "B")) (0 ∷ []) (0 ∷ 2 ∷ [])
targets_example = adds_type numbers 0 None (word 86 (codes "B")) [] 2 (0 ∷ []) meant_number
