-- CyclicClasses: a class derives from itself, directly or not; or an attribute does by DERIVED FROM (X.722, sections 8.3
-- and 8.7). The fault's token is the label.
use Rattle.std.specs.Prelude.{◌≡◌, ℕ, List, Some, map, slice_get}
use Rattle.link_graphs.specs.Leading.{Leads}
use Rattle.linked_parts.specs.declared.linked.Linked.{Linked}
use Rattle.linked_parts.specs.declared.linked.LinkedAttribute.{LinkedAttribute}
use Rattle.linked_parts.specs.declared.linked.LinkedClass.{LinkedClass}
use Rattle.linked_parts.specs.declared.linked.LinkedHead.{LinkedHead}
use Rattle.class_faults.specs.AttributeSyntaxes.{attribute_bases}

-- the classes from which each derives directly
abbrev pub superclass_lists : Linked → List (List ℕ)
superclass_lists linked = map (λ (x : LinkedClass). x.superclasses.items) linked.classes.items

-- the label of a template stands at this token of a document
pub record IsLabelAt (head : LinkedHead) (document at : ℕ) : Type 0 where
  pub in_document : head.document ≡ document
  pub at_token : head.label.at ≡ at

pub data CyclicClassAt (linked : Linked) (document at : ℕ) : Type 0 where
  of_class : {k : ℕ} {x : LinkedClass} → slice_get linked.classes.items k ≡ Some x →
      Leads (superclass_lists linked) k k → IsLabelAt x.head document at → CyclicClassAt linked document at
  of_attribute : {k : ℕ} {x : LinkedAttribute} → slice_get linked.attributes.items k ≡ Some x →
      Leads (attribute_bases linked) k k → IsLabelAt x.head document at → CyclicClassAt linked document at
