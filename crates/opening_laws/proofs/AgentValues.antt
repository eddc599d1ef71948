-- Values that the agent itself writes into an object that is created.
use Rattle.std.proofs.Common.{◌≡◌, ◌⊎◌, ℕ, ◌<◌, ◌≤◌, Bool, true, false, List, [], ◌∷◌, Option, None, Some}
use Rattle.std.proofs.Common.{refl, sym, ap, ◌∙◌, subst, arith, inl, inr, length}
use Rattle.std.proofs.lemmas.Bool.{and_parts, false≢true, or_cases}
use Rattle.std.proofs.lemmas.Option.{same_Some}
use Rattle.std.specs.Prelude.{◌&&◌, ◌||◌, codes, pos, if◌then◌else◌}
use Rattle.std.specs.Option.{unwrap_or}
use Rattle.term_values.specs.Fits.{Fits}
use Rattle.term_values.specs.Octets.{integer_contents}
use Rattle.term_values.specs.SameSyntax.{same_syntax}
use Rattle.term_values.specs.Syntaxes.TypeSyntax.{ObjectIdentifier, SetOf}
use Rattle.term_values.specs.TreeTags.{due}
use Rattle.term_values.specs.Typed.{TypedValue}
use Rattle.term_values.specs.Typed.TypedValue.{Identifier, Int, Many, Pick}
use Rattle.term_values.specs.Typed.TypedValues.{Nothing}
use Rattle.term_values.specs.UniversalTags.{integer, set}
use Rattle.term_values.specs.Written.{der}
use Rattle.term_model.specs.declared.creation.Creation.{Creation}
use Rattle.term_model.specs.declared.object.Object.{Object}
use Rattle.term_model.specs.declared.schema.AttrRec.{AttrRec}
use Rattle.term_model.specs.declared.schema.InstRec.{InstRec}
use Rattle.term_model.specs.declared.schema.Set.{Set}
use Rattle.term_model.specs.AgentWritten.{is_agent_written, is_class_choice, is_class_identifier, is_counter}
use Rattle.term_model.specs.AgentWritten.{is_name_binding, is_package_list}
use Rattle.term_model.specs.BoundClasses.{is_bound_log, tells_of_records}
use Rattle.term_model.specs.ClassAttributes.{is_labelled}
use Rattle.term_model.specs.ControlSyntaxes.{from_zero}
use Rattle.term_model.specs.CreateValues.{listed_value, written_value}
use Rattle.term_model.specs.ObjectOperation.{attribute_record}
use Rattle.term_model.specs.WholeSet.{IsWhole}
use Rattle.set_laws.proofs.Records.{record_is}
use Rattle.opening_laws.specs.Encodable.{IsEncodable, IsIdentifier}
use Rattle.opening_laws.proofs.Creations.{IsBindingOf}
use Rattle.opening_laws.proofs.EncodingLengths.{encoded_short, whole_contents_short}
use Rattle.opening_laws.proofs.AttributeKinds.{IsIdentifierChoice, attribute_so, class_choice, identifier_set}
use Rattle.opening_laws.proofs.AttributeKinds.{identifier_type}
use Rattle.opening_laws.proofs.AttributeKinds.{labelled_so, log_syntax, number_fits, number_form}
use Rattle.opening_laws.proofs.Listed.{listed_is, IsMadeWhole, stands_short}
use Rattle.opening_laws.proofs.Making.{IsHeld, IsMaking, agent_held, binding_identifier, choice_short}
use Rattle.opening_laws.proofs.Making.{identifier_short, outline_for, own_identifier, short_held}
use Rattle.opening_laws.proofs.Objects.{not_measured}

-- ---- which attributes these are

or_left : (a b : Bool) → a ≡ true → (a || b) ≡ true
or_left a b e = ap (λ x. x || b) e

or_right : (a b : Bool) → b ≡ true → (a || b) ≡ true
or_right true b e = refl
or_right false b e = e

abbrev log_tells : Set → Bool → List ℕ → Bool
log_tells schema bound_log id = bound_log && tells_of_records schema.attributes id

class_written : (schema : Set) (bound_log : Bool) (id : List ℕ) → is_class_identifier schema id ≡ true
    → is_agent_written schema bound_log id ≡ true
class_written schema bound_log id e =
    ap (λ a. a || is_class_choice schema id || is_name_binding schema id || is_package_list schema id
    || log_tells schema bound_log id) e

choice_written : (schema : Set) (bound_log : Bool) (id : List ℕ) → is_class_choice schema id ≡ true
    → is_agent_written schema bound_log id ≡ true
choice_written schema bound_log id e =
    ap (λ a. a || is_name_binding schema id || is_package_list schema id || log_tells schema bound_log id)
    (or_right (is_class_identifier schema id) (is_class_choice schema id) e)

binding_written : (schema : Set) (bound_log : Bool) (id : List ℕ) → is_name_binding schema id ≡ true
    → is_agent_written schema bound_log id ≡ true
binding_written schema bound_log id e =
    ap (λ a. a || is_package_list schema id || log_tells schema bound_log id)
    (or_right (is_class_identifier schema id || is_class_choice schema id) (is_name_binding schema id) e)

packages_written : (schema : Set) (bound_log : Bool) (id : List ℕ) → is_package_list schema id ≡ true
    → is_agent_written schema bound_log id ≡ true
packages_written schema bound_log id e =
    ap (λ a. a || log_tells schema bound_log id)
    (or_right (is_class_identifier schema id || is_class_choice schema id || is_name_binding schema id)
    (is_package_list schema id) e)

pub tells_written : (schema : Set) (bound_log : Bool) (id : List ℕ) → log_tells schema bound_log id ≡ true
    → is_agent_written schema bound_log id ≡ true
tells_written schema bound_log id e =
    or_right (is_class_identifier schema id || is_class_choice schema id || is_name_binding schema id
    || is_package_list schema id) (log_tells schema bound_log id) e

counter_tells : (a c n : Bool) → (c || n) ≡ true → (a || c || n) ≡ true
counter_tells true true n e = refl
counter_tells true false true e = refl
counter_tells true false false e = refl
counter_tells false true n e = refl
counter_tells false false true e = refl
counter_tells false false false e = absurd (false≢true e)

pub counter_written : (schema : Set) (bound_log : Bool) (id : List ℕ) → is_counter schema bound_log id ≡ true
    → is_agent_written schema bound_log id ≡ true
counter_written schema true id e =
    tells_written schema true id
    (counter_tells (is_labelled schema.attributes (codes "availabilityStatus") id)
    (is_labelled schema.attributes (codes "currentLogSize") id)
    (is_labelled schema.attributes (codes "numberOfRecords") id) e)
counter_written schema false id e = absurd (false≢true e)

-- ---- a count of a log, of any number of 63 bits

-- currentLogSize and numberOfRecords have the syntax of a log's
counter_syntax : (schema : Set) (class id : List ℕ) (template : AttrRec) → IsWhole schema
    → is_bound_log schema class ≡ true → attribute_record schema.attributes id ≡ Some template
    → is_counter schema true id ≡ true → same_syntax template.syntax from_zero ≡ true
counter_syntax schema class id template whole log known told =
    let at = (record_is schema.attributes id template known).0 in
    elim (or_cases (is_labelled schema.attributes (codes "currentLogSize") id)
    (is_labelled schema.attributes (codes "numberOfRecords") id) told) [
      | inl size ↦
          log_syntax schema class (codes "currentLogSize", from_zero) template whole log (7, omega arith, refl) at
          (labelled_so schema template (codes "currentLogSize") id known size)
      | inr number ↦
          log_syntax schema class (codes "numberOfRecords", from_zero) template whole log (8, omega arith, refl) at
          (labelled_so schema template (codes "numberOfRecords") id known number)
    ]

pub record IsCount (template : AttrRec) (n : ℕ) : Type 0 where
  pub fits : Fits template.syntax (Int (pos n))
  pub short : length (der template.syntax (Int (pos n))) ≤ 23

pub count_is : (schema : Set) (class id : List ℕ) (template : AttrRec) (n : ℕ) → IsWhole schema
    → is_bound_log schema class ≡ true → attribute_record schema.attributes id ≡ Some template
    → is_counter schema true id ≡ true → n < 9223372036854775808 → IsCount template n
count_is schema class id template n whole log known told small =
    let same = counter_syntax schema class id template whole log known told in
    let form = number_form template.syntax same in
    let contents = whole_contents_short (pos n) in
    let header = encoded_short false (due None integer) (integer_contents (pos n)) in
    record {
      fits = number_fits template.syntax n same small;
      short = subst (λ syntax. length (der syntax (Int (pos n))) ≤ 23) (sym form.is)
          (omega (arith, contents, header));
    }

-- ---- the values

if_some : {X : Type 0} (b : Bool) (x y : X) (other : Option X) → (if b then Some x else other) ≡ Some y
    → ((b ≡ true) × (x ≡ y)) ⊎ ((b ≡ false) × (other ≡ Some y))
if_some true x y other e = inl (refl, same_Some x y e)
if_some false x y other e = inr (refl, e)

binding_arcs : (schema : Set) (binding : Option (List ℕ)) → IsEncodable schema → IsBindingOf schema binding
    → IsIdentifier (unwrap_or binding (0 ∷ 0 ∷ []))
binding_arcs schema binding encodable (inl none) =
    subst (λ one. IsIdentifier (unwrap_or one (0 ∷ 0 ∷ []))) (sym none) (refl, refl)
binding_arcs schema binding encodable (inr (known, at, is)) =
    subst (λ one. IsIdentifier (unwrap_or one (0 ∷ 0 ∷ []))) (sym is)
    (binding_identifier schema known encodable at)

abbrev pub HeldOf : (schema : Set) (instance : InstRec) (object : Object) → IsMaking schema instance object → AttrRec
    → List ℕ → TypedValue → Type 0
HeldOf schema instance object made template id value =
    IsHeld schema made.created.class made.created.creation.named template id value

identifier_held : (schema : Set) (instance : InstRec) (object : Object) (made : IsMaking schema instance object)
    (template : AttrRec) (id arcs : List ℕ)
    → is_agent_written schema (is_bound_log schema made.created.class) id ≡ true
    → template.syntax ≡ ObjectIdentifier → IsIdentifier arcs
    → HeldOf schema instance object made template id (Identifier arcs)
identifier_held schema instance object made template id arcs written is arcs_are =
    let short = identifier_short arcs arcs_are in
    short_held schema instance object made.created template id (Identifier arcs) written
    (subst (λ syntax. Fits syntax (Identifier arcs)) (sym is) arcs_are)
    (subst (λ syntax. length (der syntax (Identifier arcs)) ≤ 8192) (sym is) (omega (arith, short)))

choice_held : (schema : Set) (instance : InstRec) (object : Object) (made : IsMaking schema instance object)
    (template : AttrRec) (id arcs : List ℕ)
    → is_agent_written schema (is_bound_log schema made.created.class) id ≡ true
    → IsIdentifierChoice template.syntax → IsIdentifier arcs
    → HeldOf schema instance object made template id (Pick 0 (Identifier arcs))
choice_held schema instance object made template id arcs written form arcs_are =
    let short =
    choice_short form.name arcs form.tag form.explicit form.optional form.default form.rest arcs_are in
    short_held schema instance object made.created template id (Pick 0 (Identifier arcs)) written
    (subst (λ syntax. Fits syntax (Pick 0 (Identifier arcs))) (sym form.is) arcs_are)
    (subst (λ syntax. length (der syntax (Pick 0 (Identifier arcs))) ≤ 8192) (sym form.is) (omega (arith, short)))

no_packages : (schema : Set) (instance : InstRec) (object : Object) (made : IsMaking schema instance object)
    (template : AttrRec) (id : List ℕ)
    → is_agent_written schema (is_bound_log schema made.created.class) id ≡ true
    → template.syntax ≡ SetOf ObjectIdentifier []
    → HeldOf schema instance object made template id (Many Nothing)
no_packages schema instance object made template id written is =
    let short = encoded_short true (due None set) [] in
    short_held schema instance object made.created template id (Many Nothing) written
    (subst (λ syntax. Fits syntax (Many Nothing)) (sym is) (tt, refl, tt))
    (subst (λ syntax. length (der syntax (Many Nothing)) ≤ 8192) (sym is) (omega (arith, short)))

packages_held : (schema : Set) (instance : InstRec) (object : Object) (made : IsMaking schema instance object)
    (template : AttrRec) (id : List ℕ) → IsMadeWhole schema instance object made
    → attribute_record schema.attributes id ≡ Some template
    → is_agent_written schema (is_bound_log schema made.created.class) id ≡ true
    → template.syntax ≡ SetOf ObjectIdentifier []
    → HeldOf schema instance object made template id
    (unwrap_or (listed_value made.created.creation id) (Many Nothing))
packages_held schema instance object made template id of known written is =
    by (listed_value made.created.creation id) refl
  where
    by : (o : Option TypedValue) → listed_value made.created.creation id ≡ o
        → HeldOf schema instance object made template id (unwrap_or o (Many Nothing))
    by None e = no_packages schema instance object made template id written is
    by (Some value) e =
        let given = listed_is schema instance object made template id value of known e in
        short_held schema instance object made.created template id value written given.fits
        (stands_short schema template made.created.creation.class id value known given.stands)

counter_held : (schema : Set) (instance : InstRec) (object : Object) (made : IsMaking schema instance object)
    (template : AttrRec) (id : List ℕ) → attribute_record schema.attributes id ≡ Some template
    → is_counter schema (is_bound_log schema made.created.class) id ≡ true
    → HeldOf schema instance object made template id (Int (pos 0))
counter_held schema instance object made template id known told =
    let class = made.created.class in
    let log = (and_parts (is_bound_log schema class) _ told).0 in
    let counter : is_counter schema true id ≡ true = (and_parts (is_bound_log schema class) _ told).1 in
    let count = count_is schema class id template 0 made.whole log known counter (omega arith) in
    let short = count.short in
    agent_held schema instance object made.created template id (Int (pos 0))
    (counter_written schema (is_bound_log schema class) id told) count.fits (omega (arith, short))
    (λ counted. absurd (false≢true (sym (not_measured schema class id log counter) ∙ counted)))

pub written_held : (schema : Set) (instance : InstRec) (object : Object) (made : IsMaking schema instance object)
    (template : AttrRec) (id : List ℕ) (value : TypedValue) → IsMadeWhole schema instance object made
    → attribute_record schema.attributes id ≡ Some template
    → written_value schema made.created.creation (outline_for schema instance made.created.class) id ≡ Some value
    → HeldOf schema instance object made template id value
written_held schema instance object made template id value of known e =
    elim (if_some (is_class_identifier schema id) _ value _ e) [
      | inl (is, same) ↦
          subst HeldSo same (identifier_held schema instance object made template id creation.class
          (class_written schema bound_log id is)
          (identifier_type template.syntax (attribute_so schema template _ id known is)) own)
      | inr (no_identifier, rest) ↦ elim (if_some (is_class_choice schema id) _ value _ rest) [
        | inl (is, same) ↦
            subst HeldSo same (choice_held schema instance object made template id creation.class
            (choice_written schema bound_log id is)
            (class_choice template.syntax (attribute_so schema template _ id known is)) own)
        | inr (no_choice, further) ↦ elim (if_some (is_name_binding schema id) _ value _ further) [
          | inl (is, same) ↦
              subst HeldSo same (identifier_held schema instance object made template id
              (unwrap_or creation.binding (0 ∷ 0 ∷ [])) (binding_written schema bound_log id is)
              (identifier_type template.syntax (attribute_so schema template _ id known is))
              (binding_arcs schema creation.binding made.encodable made.created.bound))
          | inr (no_binding, others) ↦ elim (if_some (is_package_list schema id) _ value _ others) [
            | inl (is, same) ↦
                subst HeldSo same (packages_held schema instance object made template id of known
                (packages_written schema bound_log id is)
                (identifier_set template.syntax (attribute_so schema template _ id known is)))
            | inr (no_packages, last) ↦ elim (if_some (is_counter schema bound_log id) (Int (pos 0)) value None last) [
              | inl (is, same) ↦
                  subst HeldSo same (counter_held schema instance object made template id known is)
              | inr (no_counter, none) ↦ absurd (cc)
            ]
          ]
        ]
      ]
    ]
  where
    creation : Creation
    creation = made.created.creation

    bound_log : Bool
    bound_log = is_bound_log schema made.created.class

    own : IsIdentifier creation.class
    own = own_identifier schema instance object made

    HeldSo : TypedValue → Type 0
    HeldSo = HeldOf schema instance object made template id
