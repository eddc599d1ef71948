-- Which attributes the agent itself writes: objectClass, nameBinding and packages of top, each known by its label where
-- it has the syntax of X.721, top; and the attributes by which a bound log tells of its records. docs/PROFILE.md,
-- section 15.
use Rattle.std.specs.Prelude.{ℕ, List, Bool, ◌&&◌, ◌||◌, codes, is_some}
use Rattle.term_values.specs.CmipTypes.{object_class, set_of}
use Rattle.term_values.specs.Syntaxes.TypeSyntax.{ObjectIdentifier}
use Rattle.term_model.specs.declared.schema.Set.{Set}
use Rattle.term_model.specs.BoundClasses.{is_attribute, tells_of_records}
use Rattle.term_model.specs.ClassAttributes.{is_labelled, property_of}

-- objectClass, the class of the object: OBJECT IDENTIFIER or ObjectClass
abbrev pub is_class_identifier : Set → List ℕ → Bool
is_class_identifier schema = is_attribute schema.attributes (codes "objectClass", ObjectIdentifier)

abbrev pub is_class_choice : Set → List ℕ → Bool
is_class_choice schema = is_attribute schema.attributes (codes "objectClass", object_class)

-- nameBinding, the name binding of the object: OBJECT IDENTIFIER
abbrev pub is_name_binding : Set → List ℕ → Bool
is_name_binding schema = is_attribute schema.attributes (codes "nameBinding", ObjectIdentifier)

-- packages, those that the creation of the object named: SET OF OBJECT IDENTIFIER
abbrev pub is_package_list : Set → List ℕ → Bool
is_package_list schema = is_attribute schema.attributes (codes "packages", set_of ObjectIdentifier)

-- and a package of the class has it
abbrev pub is_packages : Set → List ℕ → List ℕ → Bool
is_packages schema class attribute =
    is_package_list schema attribute && is_some (property_of schema class attribute)

-- currentLogSize and numberOfRecords, of an object that is a bound log or isn't
abbrev pub is_counter : Set → Bool → List ℕ → Bool
is_counter schema bound_log attribute =
    bound_log
    && (is_labelled schema.attributes (codes "currentLogSize") attribute
    || is_labelled schema.attributes (codes "numberOfRecords") attribute)

-- availabilityStatus of such an object
abbrev pub is_log_status : Set → Bool → List ℕ → Bool
is_log_status schema bound_log attribute =
    bound_log && is_labelled schema.attributes (codes "availabilityStatus") attribute

-- the agent itself writes the attribute of such an object
abbrev pub is_agent_written : Set → Bool → List ℕ → Bool
is_agent_written schema bound_log attribute =
    is_class_identifier schema attribute || is_class_choice schema attribute || is_name_binding schema attribute
    || is_package_list schema attribute || bound_log && tells_of_records schema.attributes attribute
