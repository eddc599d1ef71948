-- TemplateTree: what a template that holds others says (X.722, sections 8.3, 8.4 and 8.6).
use Rattle.token_grammar.specs.Form.{Tree, First, Second}
use Rattle.gdmo_classes.specs.declared.template.ClassTemplate.{ClassTemplate}
use Rattle.gdmo_classes.specs.declared.template.ClassTemplate.TheVariants.{Class, Package, NameBinding}
use Rattle.gdmo_classes.specs.PackageTrees.{package_tree}
use Rattle.gdmo_classes.specs.ClassTrees.{class_tree}
use Rattle.gdmo_classes.specs.BindingTrees.{name_binding_tree}

abbrev pub class_template_tree : ClassTemplate → Tree
class_template_tree (Package x) = First (package_tree x)
class_template_tree (Class x) = Second (First (class_tree x))
class_template_tree (NameBinding x) = Second (Second (name_binding_tree x))
