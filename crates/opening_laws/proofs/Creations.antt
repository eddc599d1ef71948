-- Which object a creation that succeeds has made: that of the class, with one of the bindings that license it.
use Rattle.std.proofs.Common.{◌≡◌, ℕ, suc, Bool, true, false, List, [], ◌∷◌, Option, None, Some, Ok, Err, refl}
use Rattle.std.proofs.Common.{is_some, arith, length, ◌⊎◌, inl, inr, sym, subst}
use Rattle.std.proofs.lemmas.Bool.{and_parts}
use Rattle.std.proofs.lemmas.Option.{same_Some}
use Rattle.std.specs.Prelude.{Contains, Result, filter, find, if◌then◌else◌, map, nat_le, ◌&&◌}
use Rattle.std.specs.List.{AllByRecursion}
use Rattle.std.specs.Option.{option_map, option_map_or}
use Rattle.term_model.specs.declared.creation.Creation.{Creation}
use Rattle.term_model.specs.declared.creation.Outline.{Outline}
use Rattle.term_model.specs.declared.creation.StepError.{StepError}
use Rattle.term_model.specs.declared.name.Rdn.{Rdn}
use Rattle.term_model.specs.declared.name_binding.BindRec.{BindRec}
use Rattle.term_model.specs.declared.object.Object.{Object}
use Rattle.term_model.specs.declared.objects.NamedObject.{NamedObject}
use Rattle.term_model.specs.declared.reply.CmisError.{CmisError}
use Rattle.term_model.specs.declared.request.Named.TheVariants as named
use Rattle.term_model.specs.declared.schema.ClassRec.{ClassRec}
use Rattle.term_model.specs.declared.schema.InstRec.{InstRec}
use Rattle.term_model.specs.declared.schema.Set.{Set}
use Rattle.term_model.specs.CmisErrors.{duplicate_instance, invalid_instance, no_such_instance, no_such_object_class}
use Rattle.term_model.specs.Comparing.{is_same_oid}
use Rattle.term_model.specs.CreateSteps.{made}
use Rattle.term_model.specs.Creating.{Attempt, attempted, best_of, class_asked, created_below, created_with}
use Rattle.term_model.specs.Creating.{creation_of}
use Rattle.term_model.specs.Creating.{furthest, has_value, in_place, last_of, leads_further, refused, superior_of, told}
use Rattle.term_model.specs.Creating.{under, under_name}
use Rattle.term_model.specs.Creation.{outline_of}
use Rattle.term_model.specs.GetRequest.{instance_octets}
use Rattle.term_model.specs.Inheritance.{HasRecord}
use Rattle.term_model.specs.Licensing.{binds, names_by}
use Rattle.term_model.specs.NamedObjects.{object_at}
use Rattle.term_model.specs.ObjectOperation.{class_record}
use Rattle.term_model.specs.Opening.{asking_of, create_instance, create_root, root_named, root_under}
use Rattle.package_laws.proofs.Members.{filter_from, here, there}

ok_err : {X E : Type 0} (x : X) (e : E) → ◌≡◌ {A = Result X E} (Err e) (Ok x) → ⊥
ok_err x e h = absurd (cc)

told_ok : (made : Result Object StepError) (object : Object) → told made ≡ Ok object → made ≡ Ok object
told_ok (Ok found) object e = cc
told_ok (Err error) object e = absurd (cc)

-- ---- the class

found_there : (records : List ClassRec) (class : List ℕ) (of_class : ClassRec)
    → find (λ (one : ClassRec). is_same_oid one.id class) records ≡ Some of_class → Contains records of_class
found_there [] class of_class e = absurd (cc)
found_there (first ∷ others) class of_class e =
    by (λ f. found_there others class of_class f) (is_same_oid first.id class) e
  where
    by : (find (λ (one : ClassRec). is_same_oid one.id class) others ≡ Some of_class → Contains others of_class)
        → (b : Bool)
        → (if b then Some first else find (λ (one : ClassRec). is_same_oid one.id class) others) ≡ Some of_class
        → Contains (first ∷ others) of_class
    by behind true f = (0, omega arith, same_Some first of_class f)
    by behind false f =
        let found = behind f in
        let within = found.1 in
        (suc found.0, omega arith, found.2)

-- the class that is asked for has a record
pub has_record : (schema : Set) (instance : InstRec) (class : List ℕ)
    → class_asked schema (asking_of schema instance).class ≡ Some class
    → (of_class : ClassRec) × HasRecord schema class of_class
has_record schema instance class e = by (class_record schema.classes instance.class) refl e
  where
    by : (o : Option ClassRec) → class_record schema.classes instance.class ≡ o
        → option_map (λ (of_class : ClassRec). of_class.id) o ≡ Some class
        → (of_class : ClassRec) × HasRecord schema class of_class
    by None is f = absurd (cc)
    by (Some of_class) is f = (
      of_class,
      record {
        known = found_there schema.classes instance.class of_class is;
        named = same_Some of_class.id class f;
      },
    )

-- ---- the binding

-- an attempt that succeeds has made the object with a binding that licenses it
abbrev Succeeds : Set → Creation → Outline → List ℕ → Object → Attempt → Type 0
Succeeds schema creation outline superior object one =
    one.1 ≡ Ok object
    → (binding : BindRec) × Contains schema.bindings binding
    × (binds schema creation.class superior creation.named.attribute binding ≡ true)
    × (made schema (record creation { binding = Some binding.id }) outline ≡ Ok object)

furthest_keeps : (Fact : Attempt → Type 0) (best : Attempt) (others : List Attempt) → Fact best
    → AllByRecursion Fact others → Fact (furthest best others)
furthest_keeps Fact best [] one all = one
furthest_keeps Fact best (next ∷ others) one all =
    furthest_keeps Fact (if leads_further next best then next else best) others (by (leads_further next best)) all.1
  where
    by : (b : Bool) → Fact (if b then next else best)
    by true = all.0
    by false = one

each_succeeds : (schema : Set) (creation : Creation) (outline : Outline) (superior : List ℕ) (object : Object)
    (bindings : List BindRec)
    → ((binding : BindRec) → Contains bindings binding → Contains schema.bindings binding
    × (binds schema creation.class superior creation.named.attribute binding ≡ true))
    → AllByRecursion (Succeeds schema creation outline superior object)
    (map (attempted schema false false creation outline) bindings)
each_succeeds schema creation outline superior object [] licensed = tt
each_succeeds schema creation outline superior object (binding ∷ others) licensed =
    let first = licensed binding (here binding others) in (
      λ e. (binding, first.0, first.1, e),
      each_succeeds schema creation outline superior object others
          (λ other at. licensed other (there binding other others at)),
    )

best_made : (schema : Set) (creation : Creation) (outline : Outline) (superior : List ℕ) (object : Object)
    (attempts : List Attempt) → AllByRecursion (Succeeds schema creation outline superior object) attempts
    → best_of creation attempts ≡ Ok object
    → (binding : BindRec) × Contains schema.bindings binding
    × (binds schema creation.class superior creation.named.attribute binding ≡ true)
    × (made schema (record creation { binding = Some binding.id }) outline ≡ Ok object)
best_made schema creation outline superior object [] all e = absurd (ok_err object _ e)
best_made schema creation outline superior object (first ∷ others) all e =
    furthest_keeps (Succeeds schema creation outline superior object) first others all.0 all.1
    (told_ok (furthest first others).1 object e)

-- the attribute names such objects, and the object was made with a binding that licenses it
licensed_made : (schema : Set) (creation : Creation) (outline : Outline) (superior : List ℕ) (object : Object)
    → created_with schema false false creation outline superior ≡ Ok object
    → (names_by schema outline creation.named.attribute ≡ true)
    × ((binding : BindRec) × Contains schema.bindings binding
    × (binds schema creation.class superior creation.named.attribute binding ≡ true)
    × (made schema (record creation { binding = Some binding.id }) outline ≡ Ok object))
licensed_made schema creation outline superior object e =
    by (names_by schema outline creation.named.attribute) refl e
  where
    test : BindRec → Bool
    test = binds schema creation.class superior creation.named.attribute

    by : (b : Bool) → names_by schema outline creation.named.attribute ≡ b
        → best_of creation
        (map (attempted schema false false creation outline) (if b then filter test schema.bindings else []))
        ≡ Ok object
        → (names_by schema outline creation.named.attribute ≡ true)
        × ((binding : BindRec) × Contains schema.bindings binding × (test binding ≡ true)
        × (made schema (record creation { binding = Some binding.id }) outline ≡ Ok object))
    by false is f = absurd (ok_err object _ f)
    by true is f = (
      is,
      best_made schema creation outline superior object
          (map (attempted schema false false creation outline) (filter test schema.bindings))
          (each_succeeds schema creation outline superior object (filter test schema.bindings)
          (λ binding at. filter_from test schema.bindings binding at)) f,
    )

-- ---- the steps before

-- a part of the system's own name or of the name of the instance
abbrev pub IsPartOf : Set → InstRec → Rdn → Type 0
IsPartOf schema instance part = Contains schema.system part ⊎ Contains instance.name part

-- the root's, which has none, or one of the schema
abbrev pub IsBindingOf : Set → Option (List ℕ) → Type 0
IsBindingOf schema binding =
    (binding ≡ None) ⊎ ((known : BindRec) × Contains schema.bindings known × (binding ≡ Some known.id))

-- an object that its creation made
pub record IsCreated (schema : Set) (instance : InstRec) (object : Object) : Type 0 where
  pub class : List ℕ
  pub asked : class_asked schema (asking_of schema instance).class ≡ Some class
  pub creation : Creation
  pub of_class : creation.class ≡ class
  pub given : creation.given ≡ (asking_of schema instance).given
  pub taken : creation.taken ≡ []
  pub bound : IsBindingOf schema creation.binding
  pub part : IsPartOf schema instance creation.named
  pub names : names_by schema (outline_of schema class (asking_of schema instance).given) creation.named.attribute
      ≡ true
  pub reads : has_value schema creation.named ≡ true
  pub made_so : made schema creation (outline_of schema class (asking_of schema instance).given) ≡ Ok object

-- and one below the root, by a binding that licenses it below its superior
pub record IsCreatedBelow (schema : Set) (objects : List NamedObject) (instance : InstRec) (object : Object) :
    Type 0 where
  pub created : IsCreated schema instance object
  pub first : Rdn
  pub rest : List Rdn
  pub is : instance.name ≡ first ∷ rest
  pub named : created.creation.named ≡ last_of first rest
  pub superior : Object
  pub there : object_at objects (superior_of (first ∷ rest)) ≡ Some superior
  pub binding : BindRec
  pub known : Contains schema.bindings binding
  pub bound : created.creation.binding ≡ Some binding.id
  pub licensed : binds schema created.class superior.class created.creation.named.attribute binding ≡ true

placed_made : (schema : Set) (objects : List NamedObject) (instance : InstRec) (class : List ℕ) (name : List Rdn)
    (part : Rdn) (object : Object) → in_place schema objects (asking_of schema instance) class name part ≡ Ok object
    → (superior : Object) × (object_at objects (superior_of name) ≡ Some superior)
    × (created_below schema false false (creation_of objects (asking_of schema instance) class part) superior.class
    ≡ Ok object)
placed_made schema objects instance class name part object e = by (object_at objects (superior_of name)) refl e
  where
    below : Object → Result Object CmisError
    below superior =
        created_below schema false false (creation_of objects (asking_of schema instance) class part) superior.class

    free : (superior : Object) (b : Bool)
        → (if b then refused (duplicate_instance (asking_of schema instance).instance) else below superior) ≡ Ok object
        → below superior ≡ Ok object
    free superior true f = absurd (ok_err object _ f)
    free superior false f = f

    by : (o : Option Object) → object_at objects (superior_of name) ≡ o
        → option_map_or
        (λ (superior : Object).
        if is_some (object_at objects name) then refused (duplicate_instance (asking_of schema instance).instance)
        else below superior) o
        (refused (no_such_instance (instance_octets (superior_of name)))) ≡ Ok object
        → (superior : Object) × (object_at objects (superior_of name) ≡ Some superior) × (below superior ≡ Ok object)
    by None is f = absurd (ok_err object _ f)
    by (Some superior) is f = (superior, is, free superior (is_some (object_at objects name)) f)

last_there : (first : Rdn) (rest : List Rdn) → Contains (first ∷ rest) (last_of first rest)
last_there first [] = here first []
last_there first (second ∷ rest) = there first (last_of second rest) (second ∷ rest) (last_there second rest)

named_made : (schema : Set) (objects : List NamedObject) (instance : InstRec) (class : List ℕ) (first : Rdn)
    (rest : List Rdn) (object : Object) → class_asked schema (asking_of schema instance).class ≡ Some class
    → instance.name ≡ first ∷ rest
    → under_name schema objects (asking_of schema instance) class (first ∷ rest) ≡ Ok object
    → IsCreatedBelow schema objects instance object
named_made schema objects instance class first rest object asked is e =
    by (nat_le (suc (length rest)) 32 && has_value schema (last_of first rest)) refl e
  where
    part : Rdn
    part = last_of first rest

    by : (b : Bool) → (nat_le (suc (length rest)) 32 && has_value schema (last_of first rest)) ≡ b
        → (if b then in_place schema objects (asking_of schema instance) class (first ∷ rest) (last_of first rest)
        else refused (invalid_instance (asking_of schema instance).instance)) ≡ Ok object
        → IsCreatedBelow schema objects instance object
    by false tests f = absurd (ok_err object _ f)
    by true tests f =
        let outline = outline_of schema class (asking_of schema instance).given in
        let creation = creation_of objects (asking_of schema instance) class part in
        let below = placed_made schema objects instance class (first ∷ rest) part object f in
        let best = licensed_made schema creation outline below.0.class object below.2 in
        let binding = best.1.0 in
        record {
          created = record {
            class = class;
            asked = asked;
            creation = record creation { binding = Some binding.id };
            of_class = refl;
            given = refl;
            taken = refl;
            bound = inr (binding, best.1.1, refl);
            part = inr (subst (λ (name : List Rdn). Contains name part) (sym is) (last_there first rest));
            names = best.0;
            reads = (and_parts (nat_le (suc (length rest)) 32) (has_value schema part) tests).1;
            made_so = best.1.3;
          };
          first = first;
          rest = rest;
          is = is;
          named = refl;
          superior = below.0;
          there = below.1;
          binding = binding;
          known = best.1.1;
          bound = refl;
          licensed = best.1.2;
        }

any_name_made : (schema : Set) (objects : List NamedObject) (instance : InstRec) (class : List ℕ) (name : List Rdn)
    (object : Object) → class_asked schema (asking_of schema instance).class ≡ Some class → instance.name ≡ name
    → under_name schema objects (asking_of schema instance) class name ≡ Ok object
    → IsCreatedBelow schema objects instance object
any_name_made schema objects instance class [] object asked is e = absurd (ok_err object _ e)
any_name_made schema objects instance class (first ∷ rest) object asked is e =
    named_made schema objects instance class first rest object asked is e

pub instance_created_below : (schema : Set) (objects : List NamedObject) (instance : InstRec) (object : Object)
    → create_instance schema objects instance ≡ Ok object → IsCreatedBelow schema objects instance object
instance_created_below schema objects instance object e =
    by (class_asked schema (asking_of schema instance).class) refl e
  where
    by : (o : Option (List ℕ)) → class_asked schema (asking_of schema instance).class ≡ o
        → option_map_or (under schema objects (asking_of schema instance) (named.Object instance.name)) o
        (refused (no_such_object_class (asking_of schema instance).class)) ≡ Ok object
        → IsCreatedBelow schema objects instance object
    by None is f = absurd (ok_err object _ f)
    by (Some class) is f = any_name_made schema objects instance class instance.name object is refl f

pub instance_created : (schema : Set) (objects : List NamedObject) (instance : InstRec) (object : Object)
    → create_instance schema objects instance ≡ Ok object → IsCreated schema instance object
instance_created schema objects instance object e = (instance_created_below schema objects instance object e).created

-- ---- the root

root_made : (schema : Set) (instance : InstRec) (class : List ℕ) (part : Rdn) (object : Object)
    → class_asked schema (asking_of schema instance).class ≡ Some class → Contains schema.system part
    → root_named schema (asking_of schema instance) class part ≡ Ok object → IsCreated schema instance object
root_made schema instance class part object asked at e =
    by (names_by schema (outline_of schema class (asking_of schema instance).given) part.attribute
    && has_value schema part) refl e
  where
    creation : Creation
    creation = creation_of [] (asking_of schema instance) class part

    outline : Outline
    outline = outline_of schema class (asking_of schema instance).given

    by : (b : Bool) → (names_by schema outline part.attribute && has_value schema part) ≡ b
        → (if b then told (made schema creation outline)
        else refused (invalid_instance (asking_of schema instance).instance)) ≡ Ok object
        → IsCreated schema instance object
    by false is f = absurd (ok_err object _ f)
    by true is f =
        let tests = and_parts (names_by schema outline part.attribute) (has_value schema part) is in
        record {
          class = class;
          asked = asked;
          creation = creation;
          of_class = refl;
          given = refl;
          taken = refl;
          bound = inl refl;
          part = inl at;
          names = tests.0;
          reads = tests.1;
          made_so = told_ok (made schema creation outline) object f;
        }

root_parts : (schema : Set) (instance : InstRec) (class : List ℕ) (system : List Rdn) (object : Object)
    → class_asked schema (asking_of schema instance).class ≡ Some class → schema.system ≡ system
    → root_under schema system (asking_of schema instance) class ≡ Ok object → IsCreated schema instance object
root_parts schema instance class [] object asked is e = absurd (ok_err object _ e)
root_parts schema instance class (first ∷ rest) object asked is e =
    root_made schema instance class (last_of first rest) object asked
    (subst (λ (name : List Rdn). Contains name (last_of first rest)) (sym is) (last_there first rest)) e

pub root_created : (schema : Set) (instance : InstRec) (object : Object)
    → create_root schema (asking_of schema instance) ≡ Ok object → IsCreated schema instance object
root_created schema instance object e = by (class_asked schema (asking_of schema instance).class) refl e
  where
    by : (o : Option (List ℕ)) → class_asked schema (asking_of schema instance).class ≡ o
        → option_map_or (root_under schema schema.system (asking_of schema instance)) o
        (refused (no_such_object_class (asking_of schema instance).class)) ≡ Ok object
        → IsCreated schema instance object
    by None is f = absurd (ok_err object _ f)
    by (Some class) is f = root_parts schema instance class schema.system object is refl f
