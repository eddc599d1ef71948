-- Names, lists and results have the one form of their values.
use Rattle.std.proofs.Common.{◌≡◌, ℕ, Bool, true, false, cond, List, [], ◌∷◌, ◌++◌, append-nil, append_assoc, refl}
use Rattle.std.proofs.Common.{sym, ap, ◌∙◌, reverse}
use Rattle.std.specs.Prelude.{map, Option, None, Some}
use Rattle.std.specs.List.{flat_map}
use Rattle.std.proofs.lemmas.List.{reverse-reverse}
use Rattle.ber_tree.proofs.Backwards.{before}
use Rattle.term_values.specs.CmipTypes.{attribute, attribute_value_assertion, object_instance, rdn_sequence, set_of}
use Rattle.term_values.specs.CmipTypes.{implicit}
use Rattle.term_values.specs.Decoding.{inserted_by, rising_by}
use Rattle.term_values.specs.Der.{encoded}
use Rattle.term_values.specs.Oid.{oid_contents}
use Rattle.term_values.specs.Rearranged.{inserted, joined, may_precede, rising}
use Rattle.term_values.specs.ResultSyntaxes.{action_error, action_result, attributes_result, get_error, get_list_error}
use Rattle.term_values.specs.ResultSyntaxes.{outcome, plain_result, set_error, set_list_error}
use Rattle.term_values.specs.Syntaxes.{TypeSyntax}
use Rattle.term_values.specs.Tag.{context, universal}
use Rattle.term_values.specs.Typed.{TypedValue, TypedValues, listed}
use Rattle.term_values.specs.Typed.TypedValues.{Nothing, Then}
use Rattle.term_values.specs.ValueContents.{member_encodings}
use Rattle.term_values.specs.Written.{der}
use Rattle.term_model.specs.declared.name.Rdn.{Rdn}
use Rattle.term_model.specs.declared.object.Attribute.{Attribute}
use Rattle.term_model.specs.declared.schema.AttrRec.{AttrRec}
use Rattle.term_model.specs.declared.results.ActionReply.{ActionReply}
use Rattle.term_model.specs.declared.results.AttributeValue.{AttributeValue}
use Rattle.term_model.specs.declared.results.GetInfoStatus.{GetInfoStatus}
use Rattle.term_model.specs.declared.results.SetInfoStatus.{SetInfoStatus}
use Rattle.term_model.specs.GetRequest.{assertion_octets, class_octets, instance_octets, rdn_octets, rdn_value, assertion_value}
use Rattle.term_model.specs.ObjectOperation.{attribute_octets, readable, time_octets, value_octets}
use Rattle.term_model.specs.Replies.{contents_of}
use Rattle.term_model.specs.ResultValues.{action_value, attributes_value, get_info_value, get_list_value, held_value}
use Rattle.term_model.specs.ResultValues.{local_instance, plain_value, set_info_value, set_list_value, set_value}
use Rattle.result_contents.specs.ResultLaws.{AttributeIsWritten, AttributesAreWritten, GetIsWritten, InstanceIsWritten}
use Rattle.result_contents.specs.ResultLaws.{told_attribute}
use Rattle.result_contents.specs.ResultOctets.{reply_octets, told_octets}

-- what follows was written, and then what stands before it
pub turned_before : (first last : List ℕ) {empty once again : List ℕ} → empty ≡ [] → once ≡ empty ++ reverse last
    → again ≡ once ++ reverse first → reverse again ≡ first ++ last
turned_before first last start sooner later =
    ap reverse (before [] first last later (sooner ∙ ap (λ xs. xs ++ reverse last) start))
    ∙ reverse-reverse (first ++ last)

-- what alone was written
pub turned_alone : (only : List ℕ) {empty once : List ℕ} → empty ≡ [] → once ≡ empty ++ reverse only
    → reverse once ≡ only
turned_alone only start is = ap reverse (is ∙ ap (λ xs. xs ++ reverse only) start) ∙ reverse-reverse only

assertion_written : (rdn : Rdn) → assertion_octets rdn ≡ der attribute_value_assertion (assertion_value rdn)
assertion_written rdn =
    ap (λ xs. encoded true (universal 16) (encoded false (universal 6) (oid_contents rdn.attribute) ++ xs))
    (sym (append-nil rdn.value))

rdn_written : (rdn : Rdn) → rdn_octets rdn ≡ der (set_of attribute_value_assertion) (rdn_value rdn)
rdn_written rdn =
    ap (λ xs. encoded true (universal 17) xs)
    (assertion_written rdn ∙ sym (append-nil (der attribute_value_assertion (assertion_value rdn))))

rdns_written : (name : List Rdn) → flat_map rdn_octets name
    ≡ joined (member_encodings (der (set_of attribute_value_assertion)) (listed (map rdn_value name)))
rdns_written [] = refl
rdns_written (rdn ∷ name) = rw (rdn_written rdn, rdns_written name) refl

pub instance_written : InstanceIsWritten
instance_written name = ap (λ xs. encoded true (context 4) xs) (rdns_written name)

-- a SET OF is written by the rising order of what its members are written as
inserted_written : (encoding : TypedValue → List ℕ) (x : TypedValue) (xs : TypedValues)
    → member_encodings encoding (inserted_by encoding x xs)
    ≡ inserted (encoding x) (member_encodings encoding xs)
inserted_written encoding x Nothing = refl
inserted_written encoding x (Then y ys) =
    let either : (c : Bool)
    → member_encodings encoding (cond c (Then x (Then y ys)) (Then y (inserted_by encoding x ys)))
    ≡ cond c (encoding x ∷ encoding y ∷ member_encodings encoding ys)
    (encoding y ∷ inserted (encoding x) (member_encodings encoding ys)) =
    λ c. elim c as (λ c. member_encodings encoding
    (cond c (Then x (Then y ys)) (Then y (inserted_by encoding x ys)))
    ≡ cond c (encoding x ∷ encoding y ∷ member_encodings encoding ys)
    (encoding y ∷ inserted (encoding x) (member_encodings encoding ys)))
    [ true ↦ refl | false ↦ ap (λ zs. encoding y ∷ zs) (inserted_written encoding x ys) ] in
    either (may_precede (encoding x) (encoding y))

rising_written : (encoding : TypedValue → List ℕ) (xs : TypedValues)
    → member_encodings encoding (rising_by encoding xs) ≡ rising (member_encodings encoding xs)
rising_written encoding Nothing = refl
rising_written encoding (Then x xs) =
    inserted_written encoding x (rising_by encoding xs) ∙ ap (inserted (encoding x)) (rising_written encoding xs)

members_written : {A : Type 0} (encoding : TypedValue → List ℕ) (value : A → TypedValue) (xs : List A)
    → member_encodings encoding (listed (map value xs)) ≡ map (λ x. encoding (value x)) xs
members_written encoding value [] = refl
members_written encoding value (x ∷ xs) = ap (λ ys. encoding (value x) ∷ ys) (members_written encoding value xs)

pub set_written : {A : Type 0} (encoding : TypedValue → List ℕ) (value : A → TypedValue) (xs : List A)
    → joined (rising (map (λ x. encoding (value x)) xs))
    ≡ joined (member_encodings encoding (rising_by encoding (listed (map value xs))))
set_written encoding value xs =
    ap (λ ys. joined (rising ys)) (sym (members_written encoding value xs))
    ∙ ap joined (sym (rising_written encoding (listed (map value xs))))

-- parts in a row, the last of which has nothing behind it
four : (a b c d : List ℕ) → (a ++ (b ++ c)) ++ d ≡ a ++ (b ++ (c ++ (d ++ [])))
four a b c d =
    append_assoc a (b ++ c) d
    ∙ ap (λ xs. a ++ xs) (append_assoc b c d ∙ ap (λ xs. b ++ (c ++ xs)) (sym (append-nil d)))

three : (a b c : List ℕ) → a ++ (b ++ c) ≡ a ++ (b ++ (c ++ []))
three a b c = ap (λ xs. a ++ (b ++ xs)) (sym (append-nil c))

-- class, instance and time, and what follows
pub told_written : (class : List ℕ) (name : List Rdn) (time rest : List ℕ)
    → told_octets class name time ++ rest
    ≡ class_octets class ++ (der object_instance (local_instance name) ++ (time_octets time ++ (rest ++ [])))
told_written class name time rest =
    ap (λ xs. (class_octets class ++ (xs ++ time_octets time)) ++ rest) (instance_written name)
    ∙ four (class_octets class) (der object_instance (local_instance name)) (time_octets time) rest

pub plain_written : (class : List ℕ) (name : List Rdn) (time : List ℕ)
    → told_octets class name time ≡ contents_of plain_result (plain_value class name time)
plain_written class name time =
    ap (λ xs. class_octets class ++ (xs ++ time_octets time)) (instance_written name)
    ∙ three (class_octets class) (der object_instance (local_instance name)) (time_octets time)

pub attributes_written : (class : List ℕ) (name : List Rdn) (time : List ℕ) (attributes : List AttributeValue)
    → told_octets class name time
    ++ encoded true (context 6) (joined (rising (map (λ held. der attribute (held_value held)) attributes)))
    ≡ contents_of attributes_result (attributes_value class name time attributes)
attributes_written class name time attributes =
    ap (λ xs. told_octets class name time ++ encoded true (context 6) xs)
    (set_written (der attribute) held_value attributes)
    ∙ told_written class name time
    (encoded true (context 6)
    (joined (member_encodings (der attribute) (rising_by (der attribute) (listed (map held_value attributes))))))

pub get_list_written : (class : List ℕ) (name : List Rdn) (time : List ℕ) (statuses : List GetInfoStatus)
    → told_octets class name time ++ encoded true (context 6)
    (joined (rising (map (λ status. der (outcome get_error) (get_info_value status)) statuses)))
    ≡ contents_of get_list_error (get_list_value class name time statuses)
get_list_written class name time statuses =
    let encoding = der (outcome get_error) in
    ap (λ xs. told_octets class name time ++ encoded true (context 6) xs)
    (set_written encoding get_info_value statuses)
    ∙ told_written class name time
    (encoded true (context 6)
    (joined (member_encodings encoding (rising_by encoding (listed (map get_info_value statuses))))))

pub set_list_written : (class : List ℕ) (name : List Rdn) (time : List ℕ) (statuses : List SetInfoStatus)
    → told_octets class name time ++ encoded true (context 6)
    (joined (rising (map (λ status. der (outcome set_error) (set_info_value status)) statuses)))
    ≡ contents_of set_list_error (set_list_value class name time statuses)
set_list_written class name time statuses =
    let encoding = der (outcome set_error) in
    ap (λ xs. told_octets class name time ++ encoded true (context 6) xs)
    (set_written encoding set_info_value statuses)
    ∙ told_written class name time
    (encoded true (context 6)
    (joined (member_encodings encoding (rising_by encoding (listed (map set_info_value statuses))))))

pub action_written : (class : List ℕ) (name : List Rdn) (time : List ℕ) (reply : Option ActionReply)
    → told_octets class name time ++ reply_octets reply
    ≡ contents_of action_result (action_value class name time reply)
action_written class name time None =
    append-nil (told_octets class name time) ∙ plain_written class name time
action_written class name time (Some reply) =
    ap (λ xs. told_octets class name time
    ++ encoded true (context 6) (encoded false (context 2) (oid_contents reply.action) ++ xs))
    (sym (append-nil (encoded true (context 4) reply.info)))
    ∙ told_written class name time
    (encoded true (context 6)
    (encoded false (context 2) (oid_contents reply.action) ++ (encoded true (context 4) reply.info ++ [])))

-- attributes of an object
attribute_written : AttributeIsWritten
attribute_written records held =
    ap (λ xs. encoded true (universal 16) (encoded false (context 0) (oid_contents held.id) ++ xs))
    (sym (append-nil (value_octets records held)))

all_written : (records : List AttrRec) (attributes : List Attribute) → map (attribute_octets records) attributes
    ≡ map (λ held. der attribute (held_value held)) (map (told_attribute records) attributes)
all_written records [] = refl
all_written records (held ∷ attributes) = rw (attribute_written records held, all_written records attributes) refl

pub listed_written : AttributesAreWritten
listed_written records attributes =
    ap (λ xs. encoded true (context 6) xs)
    (ap (λ xs. joined (rising xs)) (all_written records attributes)
    ∙ set_written (der attribute) held_value (map (told_attribute records) attributes))

pub get_written : GetIsWritten
get_written schema name object time =
    let told = map (told_attribute schema.attributes) (readable schema object) in
    let members = map (λ held. der attribute (held_value held)) told in
    let list = encoded true (context 6) (joined (rising members)) in
    ap (λ xs. encoded true (universal 16)
    (class_octets object.class
    ++ (instance_octets name ++ (time_octets time ++ encoded true (context 6) (joined (rising xs))))))
    (all_written schema.attributes (readable schema object))
    ∙ ap (λ xs. encoded true (universal 16) xs)
    (ap (λ xs. class_octets object.class ++ xs) (sym (append_assoc (instance_octets name) (time_octets time) list))
    ∙ sym (append_assoc (class_octets object.class) (instance_octets name ++ time_octets time) list)
    ∙ attributes_written object.class name time told)
