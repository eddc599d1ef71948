-- ClassTrees: what a managed object class template says, which may stand in line in another one, and which
-- of its clauses came (X.722, section 8.3).
use Rattle.std.specs.Prelude.{Bool, false, [], ◌∷◌, Option, option_map, codes}
use Rattle.std.specs.declared.alloc.Global.{Global}
use Rattle.std.specs.declared.vec.Vec.{Vec}
use Rattle.token_grammar.specs.declared.token.Token.{Token}
use Rattle.token_grammar.specs.Form.{Tree, Bare, Pair, First, Second, Absent, Present, Empty, After, Slots, Slot}
use Rattle.token_grammar.specs.Form.{NoSlots}
use Rattle.token_grammar.specs.TokenTests.{is_one_of}
use Rattle.token_grammar.specs.Parts.{optional_tree, label_reference_tree, vector_tree}
use Rattle.gdmo_members.specs.Trees.{clause_tree, registered_ending_tree}
use Rattle.gdmo_members.specs.MemberTrees.{template_tree}
use Rattle.gdmo_classes.specs.declared.package.PackageReference.{PackageReference}
use Rattle.gdmo_classes.specs.declared.class.ConditionalPackage.{ConditionalPackage}
use Rattle.gdmo_classes.specs.declared.class.ObjectClassTemplate.{ObjectClassTemplate, Row_of-ClassReference}
use Rattle.gdmo_classes.specs.declared.class.ObjectClassTemplate.{end_of-ClassReference, more_of-ClassReference}
use Rattle.gdmo_classes.specs.declared.class.ObjectClassTemplate.{Held-ObjectClassTemplate-superclasses, None', Some'}
use Rattle.gdmo_classes.specs.declared.class.ClassReference.{ClassReference}
use Rattle.gdmo_classes.specs.declared.class.ClassReference.TheVariants.{Label, Template'}
use Rattle.gdmo_classes.specs.declared.class.ClassClauses.{ClassClauses}
use Rattle.gdmo_classes.specs.ClassForms.{superclasses_clause, packages_clause, conditional_clause}
use Rattle.gdmo_classes.specs.PackageTrees.{package_reference_tree, conditional_tree}

-- the clauses of packages, where they stand
abbrev pub packages_tree : Option (Vec PackageReference Global) → Tree
packages_tree x = optional_tree (clause_tree (vector_tree package_reference_tree)) x

abbrev pub conditionals_tree : Option (Vec ConditionalPackage Global) → Tree
conditionals_tree x = optional_tree (clause_tree (vector_tree conditional_tree)) x

abbrev pub class_parts : Tree → Option (Vec PackageReference Global) → Option (Vec ConditionalPackage Global) → Tree
class_parts superclasses packages conditional =
    Pair superclasses (Pair (packages_tree packages) (Pair (conditionals_tree conditional) Bare))

abbrev mutual
  pub class_reference_tree : ClassReference → Tree
  class_reference_tree (Label label) = First (label_reference_tree label)
  class_reference_tree (Template' place document label superclasses packages conditional registration) =
      Second (template_tree document label (class_parts (held_tree superclasses) packages conditional)
      (registered_ending_tree registration))

  pub row_tree : {n : _} → Tree → Row_of-ClassReference n → Tree
  row_tree before end_of-ClassReference = before
  row_tree before (more_of-ClassReference class others) = row_tree (After before (class_reference_tree class)) others

  pub held_tree : Held-ObjectClassTemplate-superclasses → Tree
  held_tree None' = Absent
  held_tree (Some' shape row) = Present (Pair Bare (Pair (row_tree Empty row) Bare))

-- the clause of superclasses, where it stands
abbrev pub superclasses_tree : Option (Vec ClassReference Global) → Tree
superclasses_tree x = optional_tree (clause_tree (vector_tree class_reference_tree)) x

abbrev pub class_tree : ObjectClassTemplate → Tree
class_tree x = template_tree x.document x.label
    (class_parts (superclasses_tree x.superclasses) x.packages x.conditional) (registered_ending_tree x.registration)

abbrev pub class_clauses_tree : ClassClauses → Tree
class_clauses_tree x = class_parts (superclasses_tree x.superclasses) x.packages x.conditional

-- the clauses of a class template, with what came so far, and the words with which they begin
abbrev pub class_slots : ClassClauses → Slots
class_slots x = Slot false superclasses_clause
    (option_map (clause_tree (vector_tree class_reference_tree)) x.superclasses)
    (Slot false packages_clause (option_map (clause_tree (vector_tree package_reference_tree)) x.packages)
    (Slot false conditional_clause (option_map (clause_tree (vector_tree conditional_tree)) x.conditional) NoSlots))

abbrev pub is_class_clause : Token → Bool
is_class_clause = is_one_of (codes "DERIVED" ∷ codes "CHARACTERIZED" ∷ codes "CONDITIONAL" ∷ [])
