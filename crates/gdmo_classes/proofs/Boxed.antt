-- Laws on class templates in a box.
use Rattle.std.proofs.Common.{◌≡◌, List, Option, None, Some, refl, ◌∙◌, ap}
use Rattle.std.specs.declared.alloc.Global.{Global}
use Rattle.std.specs.declared.boxed.Box.{Box}
use Rattle.std.specs.declared.vec.Vec.{Vec}
use Rattle.token_grammar.specs.Form.{Tree, Bare, Pair, Present, Second, Empty, After}
use Rattle.token_grammar.specs.Parts.{list_tree}
use Rattle.gdmo_members.specs.Trees.{registered_ending_tree}
use Rattle.gdmo_members.specs.MemberTrees.{template_tree}
use Rattle.gdmo_classes.specs.declared.class.ObjectClassTemplate.{ObjectClassTemplate, Row_of-ClassReference}
use Rattle.gdmo_classes.specs.declared.class.ObjectClassTemplate.{end_of-ClassReference, more_of-ClassReference}
use Rattle.gdmo_classes.specs.declared.class.ObjectClassTemplate.{items-the_row-ClassReference}
use Rattle.gdmo_classes.specs.declared.class.ObjectClassTemplate.{items_hidden-the_row-ClassReference-0}
use Rattle.gdmo_classes.specs.declared.class.ObjectClassTemplate.{back-ObjectClassTemplate-superclasses}
use Rattle.gdmo_classes.specs.declared.class.ClassReference.{ClassReference}
use Rattle.gdmo_classes.specs.declared.class.ClassReference.TheBlock.{hidden-the_row-ClassReference-0}
use Rattle.gdmo_classes.specs.declared.class.ClassReference.TheVariants.{Template}
use Rattle.gdmo_classes.specs.ClassTrees.{class_reference_tree, class_tree, class_parts, superclasses_tree, row_tree}
use Rattle.gdmo_classes.specs.ClassTrees.{held_tree}

-- a row of classes says what the list of them says
row-list : {n : _} (before : Tree) (row : Row_of-ClassReference n)
    → row_tree before row ≡ list_tree class_reference_tree before (items-the_row-ClassReference n row)
row-list before end_of-ClassReference = refl
row-list before (more_of-ClassReference class others) = row-list (After before (class_reference_tree class)) others

-- and so do the superclasses of a template in a box
held : (x : Option (Vec ClassReference Global))
    → held_tree (back-ObjectClassTemplate-superclasses x) ≡ superclasses_tree x
held None = refl
held (Some xs) = ap (λ (t : Tree). Present (Pair Bare (Pair t Bare)))
    (row-list Empty (hidden-the_row-ClassReference-0 xs)
    ∙ ap (λ (ys : List ClassReference). list_tree class_reference_tree Empty ys)
    (items_hidden-the_row-ClassReference-0 xs))

in_line : (b : Box ObjectClassTemplate Global) → class_reference_tree (Template b) ≡ Second (class_tree b.value)
in_line b = ap (λ (t : Tree). Second
    (template_tree b.value.document b.value.label (class_parts t b.value.packages b.value.conditional)
    (registered_ending_tree b.value.registration))) (held b.value.superclasses)

pub boxed_class : (b : Box ObjectClassTemplate Global) (x : ObjectClassTemplate) → b.value ≡ x
    → class_reference_tree (Template b) ≡ Second (class_tree x)
boxed_class b x e = in_line b ∙ ap (λ (y : ObjectClassTemplate). Second (class_tree y)) e
