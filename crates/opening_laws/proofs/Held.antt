-- Each value of an object that is created fits, isn't too long, and was tested where the agent doesn't write it.
use Rattle.std.proofs.Common.{◌≡◌, ℕ, ◌+◌, ◌≤◌, Bool, true, false, List, [], ◌∷◌, Option, None, Some}
use Rattle.std.proofs.Common.{refl, sym, ap, ◌∙◌, subst, arith, inl, inr, length}
use Rattle.std.proofs.lemmas.Bool.{and_parts, false≢true}
use Rattle.std.proofs.lemmas.List.Elements.{All-contains}
use Rattle.std.proofs.lemmas.Option.{same_Some}
use Rattle.std.specs.Prelude.{◌&&◌, ◌||◌, Contains, codes, filter_map, is_some, not, if◌then◌else◌}
use Rattle.std.specs.List.{AllByRecursion, cons_option}
use Rattle.std.specs.Option.{option_map}
use Rattle.term_values.specs.Fits.{Fits}
use Rattle.term_values.specs.Typed.{TypedValue}
use Rattle.term_values.specs.Written.{der}
use Rattle.term_model.specs.declared.creation.Creation.{Creation}
use Rattle.term_model.specs.declared.creation.Outline.{Outline}
use Rattle.term_model.specs.declared.name.Rdn.{Rdn}
use Rattle.term_model.specs.declared.object.Attribute.{Attribute}
use Rattle.term_model.specs.declared.object.Object.{Object}
use Rattle.term_model.specs.declared.schema.AttrRec.{AttrRec}
use Rattle.term_model.specs.declared.schema.InstRec.{InstRec}
use Rattle.term_model.specs.declared.schema.Set.{Set}
use Rattle.term_model.specs.AgentWritten.{is_agent_written, is_class_choice, is_class_identifier}
use Rattle.term_model.specs.AgentWritten.{is_log_status, is_name_binding, is_package_list}
use Rattle.term_model.specs.BoundClasses.{counts, is_bound_log, tells_of_records}
use Rattle.term_model.specs.ClassAttributes.{is_labelled}
use Rattle.term_model.specs.CreateSteps.{may_stand}
use Rattle.term_model.specs.CreateValues.{created_value, listed_value, not_full, or_else, other_value, settled_value}
use Rattle.term_model.specs.CreateValues.{written_value}
use Rattle.term_model.specs.Creation.{attributes_of}
use Rattle.term_model.specs.ObjectOperation.{attribute_record}
use Rattle.term_model.specs.WholeRecords.{IsWholeClass, IsWholePackage, IsWholeProperty}
use Rattle.term_model.specs.WholeSet.{IsWhole}
use Rattle.package_laws.proofs.Attributes.{listed_has_attribute}
use Rattle.package_laws.proofs.Members.{here, there}
use Rattle.set_laws.proofs.LogStatus.{status_is_set}
use Rattle.set_laws.proofs.Records.{record_is}
use Rattle.set_laws.proofs.Sizes.{status_counts_not}
use Rattle.opening_laws.proofs.AgentValues.{HeldOf, tells_written, written_held}
use Rattle.opening_laws.proofs.Elsewhere.{IsFound, other_found}
use Rattle.opening_laws.proofs.FullLogs.{not_full_fits, not_full_short}
use Rattle.opening_laws.proofs.AttributeKinds.{labelled_so, template_found}
use Rattle.opening_laws.proofs.Listed.{listed_is, IsMadeWhole, stands_short}
use Rattle.opening_laws.proofs.Made.{made_of}
use Rattle.opening_laws.proofs.Making.{IsHeld, IsMaking, agent_held, outline_for}
use Rattle.opening_laws.proofs.Tested.{each_other_stands}

-- ---- the value as it stands in the object

status_tells : (schema : Set) (bound_log : Bool) (id : List ℕ) → is_log_status schema bound_log id ≡ true
    → (bound_log && tells_of_records schema.attributes id) ≡ true
status_tells schema true id e =
    ap (λ a. a || is_labelled schema.attributes (codes "currentLogSize") id
    || is_labelled schema.attributes (codes "numberOfRecords") id) e
status_tells schema false id e = absurd (false≢true e)

unless_status : (b : Bool) (value : TypedValue) → (b ≡ true → ⊥) → (if b then not_full value else value) ≡ value
unless_status true value never = absurd (never refl)
unless_status false value never = refl

settled_plain : (schema : Set) (bound_log : Bool) (id : List ℕ) (value : TypedValue)
    → is_agent_written schema bound_log id ≡ false → settled_value schema bound_log id value ≡ value
settled_plain schema bound_log id value plain =
    unless_status (is_log_status schema bound_log id) value
    (λ status.
    false≢true (sym plain ∙ tells_written schema bound_log id (status_tells schema bound_log id status)))

settled_counts : (schema : Set) (class id : List ℕ) (value : TypedValue) → counts schema class id ≡ true
    → settled_value schema (is_bound_log schema class) id value ≡ value
settled_counts schema class id value counted =
    unless_status (is_log_status schema (is_bound_log schema class) id) value
    (λ status.
    let parts = and_parts (is_bound_log schema class) (is_labelled schema.attributes (codes "availabilityStatus") id)
    status in
    false≢true (sym (status_counts_not schema class id parts.0 parts.1) ∙ counted))

-- what is settled of a value that was found
settled_held : (schema : Set) (instance : InstRec) (object : Object) (made : IsMaking schema instance object)
    (template : AttrRec) (id : List ℕ) (value : TypedValue) → attribute_record schema.attributes id ≡ Some template
    → IsFound made.created.creation.named template id value
    → (is_agent_written schema (is_bound_log schema made.created.class) id ≡ false
    → may_stand schema made.created.class id
    (settled_value schema (is_bound_log schema made.created.class) id value) ≡ true)
    → (counts schema made.created.class id ≡ true
    → length (der template.syntax (settled_value schema (is_bound_log schema made.created.class) id value)) ≤ 8192)
    → HeldOf schema instance object made template id
    (settled_value schema (is_bound_log schema made.created.class) id value)
settled_held schema instance object made template id value known found tested small =
    by (is_log_status schema bound_log id) refl tested small
  where
    bound_log : Bool
    bound_log = is_bound_log schema made.created.class

    by : (b : Bool) → is_log_status schema bound_log id ≡ b
        → (is_agent_written schema bound_log id ≡ false
        → may_stand schema made.created.class id (if b then not_full value else value) ≡ true)
        → (counts schema made.created.class id ≡ true
        → length (der template.syntax (if b then not_full value else value)) ≤ 8192)
        → HeldOf schema instance object made template id (if b then not_full value else value)
    by true is tested_so small_so =
        let parts = and_parts bound_log (is_labelled schema.attributes (codes "availabilityStatus") id) is in
        let form = status_is_set schema made.created.class template made.whole parts.0
        (record_is schema.attributes id template known).0
        (labelled_so schema template (codes "availabilityStatus") id known parts.1) in
        let long = found.long in
        let left = not_full_short form.0 value (subst (λ syntax. Fits syntax value) form.1 found.fits) in
        let left_so = subst (λ syntax. length (der syntax (not_full value)) ≤ 15 + length (der syntax value))
        (sym form.1) left in
        agent_held schema instance object made.created template id (not_full value)
        (tells_written schema bound_log id (status_tells schema bound_log id is))
        (subst (λ syntax. Fits syntax (not_full value)) (sym form.1)
        (not_full_fits form.0 value (subst (λ syntax. Fits syntax value) form.1 found.fits)))
        (omega (arith, long, left_so)) small_so
    by false is tested_so small_so =
        let long = found.long in
        record {
          fits = found.fits;
          long = omega (arith, long);
          small = small_so;
          tested = tested_so;
          agrees = found.agrees;
        }

-- ---- a value that the list gives

listed_held : (schema : Set) (instance : InstRec) (object : Object) (made : IsMaking schema instance object)
    (template : AttrRec) (id : List ℕ) (value : TypedValue) → IsMadeWhole schema instance object made
    → attribute_record schema.attributes id ≡ Some template → listed_value made.created.creation id ≡ Some value
    → HeldOf schema instance object made template id
    (settled_value schema (is_bound_log schema made.created.class) id value)
listed_held schema instance object made template id value of known e =
    let class = made.created.class in
    let bound_log = is_bound_log schema class in
    let listed = listed_is schema instance object made template id value of known e in
    let stands : may_stand schema class id value ≡ true =
    subst (λ (c : List ℕ). may_stand schema c id value ≡ true) made.created.of_class listed.stands in
    let short = stands_short schema template class id value known stands in
    settled_held schema instance object made template id value known
    (record { fits = listed.fits; long = omega (arith, short); agrees = listed.agrees })
    (λ plain.
    subst (λ v. may_stand schema class id v ≡ true) (sym (settled_plain schema bound_log id value plain)) stands)
    (λ counted.
    subst (λ v. length (der template.syntax v) ≤ 8192) (sym (settled_counts schema class id value counted)) short)

-- ---- a value from elsewhere

none_if : (b : Bool) (x : TypedValue) (other : Option TypedValue) → (if b then Some x else other) ≡ None
    → (b ≡ false) × (other ≡ None)
none_if true x other e = absurd (cc)
none_if false x other e = (refl, e)

-- the agent wrote no value of an attribute that it writes: one that tells of a log's records
unwritten_tells : (schema : Set) (creation : Creation) (outline : Outline) (id : List ℕ)
    → written_value schema creation outline id ≡ None
    → is_agent_written schema outline.bound_log id ≡ true
    → (outline.bound_log && tells_of_records schema.attributes id) ≡ true
unwritten_tells schema creation outline id e written =
    let one = none_if (is_class_identifier schema id) _ _ e in
    let two = none_if (is_class_choice schema id) _ _ one.1 in
    let three = none_if (is_name_binding schema id) _ _ two.1 in
    let four = none_if (is_package_list schema id) _ _ three.1 in
    let tells = outline.bound_log && tells_of_records schema.attributes id in
    sym (ap (λ d. false || false || false || d || tells) four.0)
    ∙ sym (ap (λ c. false || false || c || is_package_list schema id || tells) three.0)
    ∙ sym (ap (λ b. false || b || is_name_binding schema id || is_package_list schema id || tells) two.0)
    ∙ sym (ap (λ a. a || is_class_choice schema id || is_name_binding schema id || is_package_list schema id || tells)
    one.0)
    ∙ written

other_held : (schema : Set) (instance : InstRec) (object : Object) (made : IsMaking schema instance object)
    (template : AttrRec) (id : List ℕ) (value : TypedValue) → IsMadeWhole schema instance object made
    → attribute_record schema.attributes id ≡ Some template
    → Contains (outline_for schema instance made.created.class).attributes id
    → written_value schema made.created.creation (outline_for schema instance made.created.class) id ≡ None
    → listed_value made.created.creation id ≡ None → other_value schema made.created.creation id ≡ Some value
    → created_value schema made.created.creation (outline_for schema instance made.created.class) id
    ≡ Some (settled_value schema (is_bound_log schema made.created.class) id value)
    → HeldOf schema instance object made template id
    (settled_value schema (is_bound_log schema made.created.class) id value)
other_held schema instance object made template id value of known at unwritten unlisted e whole =
    settled_held schema instance object made template id value known
    (other_found schema instance object made template id value known e) tested
    (λ counted. by_written counted (is_agent_written schema bound_log id) refl)
  where
    class : List ℕ
    class = made.created.class

    outline : Outline
    outline = outline_for schema instance class

    bound_log : Bool
    bound_log = is_bound_log schema class

    creation : Creation
    creation = made.created.creation

    settled : TypedValue
    settled = settled_value schema bound_log id value

    tested : is_agent_written schema bound_log id ≡ false → may_stand schema class id settled ≡ true
    tested plain =
        subst (λ (c : List ℕ). may_stand schema c id settled ≡ true) made.created.of_class
        (each_other_stands schema creation outline outline.attributes id settled of.others at
        (ap (λ b. b || is_some (listed_value creation id)) plain ∙ ap is_some unlisted) whole)

    by_written : counts schema class id ≡ true → (b : Bool) → is_agent_written schema bound_log id ≡ b
        → length (der template.syntax settled) ≤ 8192
    by_written counted false plain = stands_short schema template class id settled known (tested plain)
    by_written counted true written =
        let tells = unwritten_tells schema creation outline id unwritten written in
        absurd (false≢true (sym (ap not tells) ∙ counted))

-- ---- any value

pub value_held : (schema : Set) (instance : InstRec) (object : Object) (made : IsMaking schema instance object)
    (template : AttrRec) (id : List ℕ) (value : TypedValue) → IsMadeWhole schema instance object made
    → attribute_record schema.attributes id ≡ Some template
    → Contains (outline_for schema instance made.created.class).attributes id
    → created_value schema made.created.creation (outline_for schema instance made.created.class) id ≡ Some value
    → HeldOf schema instance object made template id value
value_held schema instance object made template id value of known at e =
    by_written (written_value schema creation outline id) refl e
  where
    outline : Outline
    outline = outline_for schema instance made.created.class

    creation : Creation
    creation = made.created.creation

    settle : TypedValue → TypedValue
    settle = settled_value schema (is_bound_log schema made.created.class) id

    HeldSo : TypedValue → Type 0
    HeldSo = HeldOf schema instance object made template id

    by_other : written_value schema creation outline id ≡ None → listed_value creation id ≡ None
        → (o : Option TypedValue) → other_value schema creation id ≡ o → option_map settle o ≡ Some value
        → HeldSo value
    by_other unwritten unlisted None is f = absurd (cc)
    by_other unwritten unlisted (Some other) is f =
        let same = same_Some (settle other) value f in
        let whole : created_value schema creation outline id ≡ Some (settle other) =
        e ∙ ap Some (sym same) in
        subst HeldSo same
        (other_held schema instance object made template id other of known at unwritten unlisted is whole)

    by_listed : written_value schema creation outline id ≡ None → (o : Option TypedValue)
        → listed_value creation id ≡ o → option_map settle (or_else o (other_value schema creation id)) ≡ Some value
        → HeldSo value
    by_listed unwritten (Some given) is f =
        subst HeldSo (same_Some (settle given) value f)
        (listed_held schema instance object made template id given of known is)
    by_listed unwritten None is f = by_other unwritten is (other_value schema creation id) refl f

    by_written : (o : Option TypedValue) → written_value schema creation outline id ≡ o
        → or_else o (option_map settle (or_else (listed_value creation id) (other_value schema creation id)))
        ≡ Some value
        → HeldSo value
    by_written (Some written) is f =
        written_held schema instance object made template id value of known (is ∙ f)
    by_written None is f = by_listed is (listed_value creation id) refl f

-- ---- all attributes

-- the record of an attribute of an object of the class
pub attribute_template : (schema : Set) (class id : List ℕ) (chosen : List (List ℕ)) → IsWhole schema
    → Contains (attributes_of schema class chosen) id
    → (template : AttrRec) × Contains schema.attributes template × (template.id ≡ id)
attribute_template schema class id chosen whole at =
    let has = listed_has_attribute schema class chosen id at in
    let of = has.has in
    let class_whole = All-contains (IsWholeClass schema) schema.classes of.of_class whole.classes of.record_of.known in
    let package_whole : IsWholePackage schema has.of_package = elim of.there [
      | inl mandatory ↦
          All-contains (IsWholePackage schema) of.of_class.mandatory has.of_package class_whole.mandatory mandatory
      | inr conditional ↦
          All-contains (IsWholePackage schema) of.of_class.conditional has.of_package class_whole.conditional
          conditional.0
    ] in
    let says = All-contains (IsWholeProperty schema) has.of_package.attributes has.property package_whole.attributes
    has.stated in
    (says.template, says.known, says.named ∙ has.is)

abbrev pub IsHeldIn : Set → List ℕ → Rdn → Attribute → Type 0
IsHeldIn schema class part held =
    (template : AttrRec) × (attribute_record schema.attributes held.id ≡ Some template)
    × IsHeld schema class part template held.id held.value

each_in : (Fact : Attribute → Type 0) (value : List ℕ → Option TypedValue) (ids : List (List ℕ))
    → ((id : List ℕ) (found : TypedValue) → Contains ids id → value id ≡ Some found
    → Fact (record { id = id; value = found }))
    → AllByRecursion Fact (filter_map (λ id. option_map (λ found. record { id = id; value = found }) (value id)) ids)
each_in Fact value [] holds = tt
each_in Fact value (id ∷ ids) holds =
    by (value id) refl (each_in Fact value ids (λ other found at. holds other found (there id other ids at)))
  where
    rest : List Attribute
    rest = filter_map (λ one. option_map (λ found. record { id = one; value = found }) (value one)) ids

    by : (o : Option TypedValue) → value id ≡ o → AllByRecursion Fact rest
        → AllByRecursion Fact
        (cons_option (option_map (λ (found : TypedValue). record { id = id; value = found }) o) rest)
    by None is others = others
    by (Some found) is others = (holds id found (here id ids) is, others)

pub all_held : (schema : Set) (instance : InstRec) (object : Object) (made : IsMaking schema instance object)
    → AllByRecursion (IsHeldIn schema made.created.class made.created.creation.named) object.attrs
all_held schema instance object made =
    let class = made.created.class in
    let creation = made.created.creation in
    let outline = outline_for schema instance class in
    let of = made_of schema creation outline object made.created.made_so in
    let Fact = IsHeldIn schema class creation.named in
    subst (λ (o : Object). AllByRecursion Fact o.attrs) of.is
    (each_in Fact (created_value schema creation outline) outline.attributes
    (λ id found at e.
    let template = attribute_template schema class id outline.chosen made.whole at in
    let known = template_found schema template.0 id made.whole template.1 template.2 in
    (template.0, known, value_held schema instance object made template.0 id found of known at e)))
