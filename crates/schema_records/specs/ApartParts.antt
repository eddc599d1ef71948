-- ApartParts: no two templates have one identifier, and no default and no initial value that is joined is of unequal
-- ones: what is asked where the properties of classes are those of their records (X.722, section 8.4;
-- docs/PROFILE.md, sections 12 and 18).
use Rattle.std.specs.Prelude.{◌≡◌, ◌≢◌, ℕ, List, Some, slice_get}
use Rattle.std.specs.BTreeMap.{get}
use Rattle.std.specs.Ordering.{nat_cmp}
use Rattle.joined_statements.specs.JoinedStatements.{Attributes}
use Rattle.joined_statements.specs.declared.held.Held.TheVariants.{Unequal}
use Rattle.joined_statements.specs.declared.joined.Joined.{Joined}
use Rattle.linked_parts.specs.declared.linked.Linked.{Linked}
use Rattle.linked_parts.specs.declared.linked.LinkedAttribute.{LinkedAttribute}
use Rattle.linked_parts.specs.declared.linked.LinkedClass.{LinkedClass}
use Rattle.linked_parts.specs.declared.linked.LinkedHead.{LinkedHead}
use Rattle.linked_types.specs.PartIdentifiers.{IsIdentified}

-- each identifier is that of one template of a table at most
abbrev pub AreApart : {L : Type 0} → (L → LinkedHead) → List L → Type 0
AreApart head xs = (j k : ℕ) (id : List ℕ) → IsIdentified head xs j id → IsIdentified head xs k id → j ≡ k

pub record HaveOwnIdentifiers (linked : Linked) : Type 0 where
  pub classes : AreApart (λ (x : LinkedClass). x.head) linked.classes.items
  pub attributes : AreApart (λ (x : LinkedAttribute). x.head) linked.attributes.items

pub record HoldsNoneUnequal (joined : Joined) : Type 0 where
  pub default_ : joined.default ≢ Unequal
  pub initial_ : joined.initial ≢ Unequal

abbrev pub AreNoneUnequal : List Attributes → Type 0
AreNoneUnequal known = (k attribute : ℕ) (table : Attributes) (joined : Joined) → slice_get known k ≡ Some table →
    get nat_cmp table attribute ≡ Some joined → HoldsNoneUnequal joined
