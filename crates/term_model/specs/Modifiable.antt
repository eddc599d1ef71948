-- Which attributes of an object managers may modify, and how: X.722, section 8.4, the property list; X.711, section
-- 7.5, type ModifyOperator; docs/PROFILE.md, section 15. The attribute by which it is named is not among them, nor
-- those that the agent fills.
use Rattle.std.specs.Prelude.{ℕ, ℤ, pos, List, [], ◌∷◌, ◌++◌, Bool, false, ◌&&◌, ◌||◌, not, Option, None, Some}
use Rattle.std.specs.Prelude.{codes, int_le, is_none, option_and_then}
use Rattle.std.specs.Prelude.{if◌then◌else◌}
use Rattle.std.specs.Option.{option_map_or}
use Rattle.std.specs.Ordering.{int_eq}
use Rattle.term_model.specs.declared.name.Rdn.{Rdn}
use Rattle.term_model.specs.declared.packages.Property.{Property}
use Rattle.term_model.specs.declared.schema.AttrRec.{AttrRec}
use Rattle.term_model.specs.declared.schema.Set.{Set}
use Rattle.term_model.specs.Comparing.{is_same_oid}
use Rattle.term_model.specs.ClassAttributes.{is_labelled, property_of}

-- the attribute by which an object is named: that of the last part of its whole distinguished name
abbrev pub last_attribute : List Rdn → Option (List ℕ)
last_attribute [] = None
last_attribute (rdn ∷ []) = Some rdn.attribute
last_attribute (rdn ∷ next ∷ others) = last_attribute (next ∷ others)

abbrev pub naming_attribute : Set → List Rdn → Option (List ℕ)
naming_attribute schema name = last_attribute (schema.system ++ name)

-- managers may modify an attribute with these properties by the operator: 0 replace, 1 addValues, 2 removeValues, 3
-- setToDefault, where there is a default
abbrev pub lets_modify : ℤ → Property → Bool
lets_modify operator property =
    if int_eq operator (pos 0) then property.replace
    else (if int_eq operator (pos 1) then property.add
    else (if int_eq operator (pos 2) then property.remove
    else property.set_to_default && not (is_none property.default)))

-- there is such an operator
abbrev pub is_operator : ℤ → Bool
is_operator operator = int_le (pos 0) operator && int_le operator (pos 3)

-- the attributes that the agent fills and no manager modifies, by label
abbrev pub is_filled : List AttrRec → List ℕ → Bool
is_filled records attribute =
    is_labelled records (codes "objectClass") attribute || is_labelled records (codes "nameBinding") attribute
    || is_labelled records (codes "packages") attribute

-- the properties by which managers may modify the attribute of an object so
abbrev pub modifiable : Set → List Rdn → List ℕ → ℤ → List ℕ → Option Property
modifiable schema name class operator attribute =
    if option_map_or (is_same_oid attribute) (naming_attribute schema name) false
    || is_filled schema.attributes attribute
    then None
    else option_and_then (λ property. if lets_modify operator property then Some property else None)
    (property_of schema class attribute)
