-- Modifications leave the values of an object at most 8192 octets: X.711, section 7.4; docs/PROFILE.md, section 15.
use Rattle.std.proofs.Common.{◌≡◌, ◌≤◌, ℕ, ℤ, Bool, true, false, List, [], ◌∷◌, refl, sym, ◌∙◌, subst}
use Rattle.std.proofs.lemmas.Bool.{and_parts, false≢true}
use Rattle.std.proofs.lemmas.List.Elements.{All-cons, All-head, All-tail}
use Rattle.std.specs.Prelude.{All, IfOk, IfSome, Result, Ok, Err, codes, length, map}
use Rattle.term_values.specs.Typed.{TypedValue}
use Rattle.term_values.specs.Written.{der}
use Rattle.term_model.specs.declared.name.Rdn.{Rdn}
use Rattle.term_model.specs.declared.object.Attribute.{Attribute}
use Rattle.term_model.specs.declared.request.Change.{Change}
use Rattle.term_model.specs.declared.request.IdRef.{IdRef}
use Rattle.term_model.specs.declared.request.IdRef.TheVariants as ids
use Rattle.term_model.specs.declared.schema.Set.{Set}
use Rattle.term_model.specs.BoundClasses.{counts, is_bound_log}
use Rattle.term_model.specs.ClassAttributes.{is_labelled, syntax_of}
use Rattle.term_model.specs.Comparing.{is_same_oid}
use Rattle.term_model.specs.Modifications.{Modified, ends_full, modified, modified_by, replaced, settled, tried}
use Rattle.term_model.specs.Modifications.{unmodified, without_full}
use Rattle.set_laws.specs.ModificationLaws.{HasShortValue, ValuesStayShort}
use Rattle.set_laws.proofs.Given.{IsSmallIn, given_is_small}
use Rattle.set_laws.proofs.Members.{either_way}
use Rattle.set_laws.proofs.SameKind.{modified_by_stays, without_full_identifier}
use Rattle.set_laws.proofs.Sizes.{status_counts_not}
use Rattle.set_laws.proofs.Unnamed.{same_id, without_full_leaves}

replaced_short : (schema : Set) (class id : List ℕ) (value : TypedValue) (attributes : List Attribute)
    → IfSome (syntax_of schema.attributes id) (λ syntax. length (der syntax value) ≤ 8192)
    → All (HasShortValue schema class) attributes → All (HasShortValue schema class) (replaced id value attributes)
replaced_short schema class id value [] given all = all
replaced_short schema class id value (attribute ∷ others) given all =
    either_way (All (HasShortValue schema class)) (is_same_oid attribute.id id)
    (record attribute { value = value } ∷ others) (attribute ∷ replaced id value others)
    (λ same. All-cons (HasShortValue schema class) (record attribute { value = value }) others
    (λ counts_here.
    subst (λ i. IfSome (syntax_of schema.attributes i) (λ syntax. length (der syntax value) ≤ 8192))
    (sym ((same_id attribute.id id).0 same)) given)
    (All-tail (HasShortValue schema class) attribute others all))
    (λ differs. All-cons (HasShortValue schema class) attribute (replaced id value others)
    (All-head (HasShortValue schema class) attribute others all)
    (replaced_short schema class id value others given (All-tail (HasShortValue schema class) attribute others all)))

one_short : (schema : Set) (class : List ℕ) (attribute : Attribute) → is_bound_log schema class ≡ true
    → HasShortValue schema class attribute → HasShortValue schema class (without_full schema.attributes attribute)
one_short schema class attribute log short =
    by_label (is_labelled schema.attributes (codes "availabilityStatus") attribute.id) refl
  where
    by_label : (b : Bool) → is_labelled schema.attributes (codes "availabilityStatus") attribute.id ≡ b
        → HasShortValue schema class (without_full schema.attributes attribute)
    by_label true labelled = λ counts_here.
        absurd (false≢true (sym (status_counts_not schema class attribute.id log labelled)
        ∙ subst (λ id. counts schema class id ≡ true) (without_full_identifier schema.attributes attribute)
        counts_here))
    by_label false other =
        subst (HasShortValue schema class) (sym (without_full_leaves schema.attributes attribute other)) short

all_short : (schema : Set) (class : List ℕ) (attributes : List Attribute) → is_bound_log schema class ≡ true
    → All (HasShortValue schema class) attributes
    → All (HasShortValue schema class) (map (without_full schema.attributes) attributes)
all_short schema class [] log all = all
all_short schema class (attribute ∷ others) log all =
    All-cons (HasShortValue schema class) (without_full schema.attributes attribute)
    (map (without_full schema.attributes) others)
    (one_short schema class attribute log (All-head (HasShortValue schema class) attribute others all))
    (all_short schema class others log (All-tail (HasShortValue schema class) attribute others all))

settled_short : (schema : Set) (made : Modified) (change : Change) (id : List ℕ) (value : Result TypedValue ℤ)
    → IfOk value (IsSmallIn schema made.object id) → All (HasShortValue schema made.object.class) made.object.attrs
    → All (HasShortValue schema made.object.class) (settled schema made change id value).object.attrs
settled_short schema made change id (Err status) given all = all
settled_short schema made change id (Ok value) given all =
    let object = made.object in
    let stands = replaced_short schema object.class id value object.attrs given.1 all in
    either_way (All (HasShortValue schema object.class)) (ends_full schema object.class id)
    (map (without_full schema.attributes) (replaced id value object.attrs)) (replaced id value object.attrs)
    (λ full. all_short schema object.class (replaced id value object.attrs)
    (and_parts _ (is_bound_log schema object.class) full).1 stands)
    (λ differs. stands)

modified_by_short : (schema : Set) (name : List Rdn) (made : Modified) (change : Change) (id : IdRef)
    → All (HasShortValue schema made.object.class) made.object.attrs
    → All (HasShortValue schema made.object.class) (modified_by schema name made change id).object.attrs
modified_by_short schema name made change (ids.Global id) all =
    settled_short schema made change id (tried schema name made.object change id)
    (given_is_small schema name made.object change id) all
modified_by_short schema name made change (ids.Local number) all = all

modified_short : (schema : Set) (name : List Rdn) (class : List ℕ) (made : Modified) (changes : List Change)
    → made.object.class ≡ class → All (HasShortValue schema class) made.object.attrs
    → All (HasShortValue schema class) (modified schema name made changes).object.attrs
modified_short schema name class made [] same all = all
modified_short schema name class made (change ∷ changes) same all =
    let next = modified_by schema name made change change.id in
    let stays = (modified_by_stays schema name made change change.id).1 in
    let before = subst (λ c. All (HasShortValue schema c) made.object.attrs) (sym same) all in
    modified_short schema name class next changes (stays ∙ same)
    (subst (λ c. All (HasShortValue schema c) next.object.attrs) same
    (modified_by_short schema name made change change.id before))

pub values_stay_short : ValuesStayShort
values_stay_short schema name object changes all =
    modified_short schema name object.class (unmodified object) changes refl all
