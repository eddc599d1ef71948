-- Examples of what modifications leave as it was, computed: X.711, section 7.4. The object is an element with elementId
-- 1 and load 7, which managers may replace.
use Rattle.std.proofs.Common.{◌≡◌, ℕ, pos, List, [], ◌∷◌, Some, refl, arith, ap, ◌∙◌, inl, inr}
use Rattle.std.proofs.lemmas.Bool.{false≢true}
use Rattle.std.proofs.lemmas.Slice.Eq.{bytes_eq-Decides}
use Rattle.std.specs.Prelude.{Contains}
use Rattle.term_values.specs.Der.{identifier_octets, length_octets}
use Rattle.term_values.specs.Octets.{integer_contents}
use Rattle.term_values.specs.Oid.{subidentifier}
use Rattle.term_values.specs.Typed.TypedValue.{Int}
use Rattle.term_model.specs.declared.request.Change.{Change}
use Rattle.term_model.specs.declared.request.IdRef.{IdRef}
use Rattle.term_model.specs.declared.request.IdRef.TheVariants as ids
use Rattle.term_model.specs.BoundClasses.{object_size}
use Rattle.term_model.specs.ObjectAttributes.{identifiers}
use Rattle.term_model.proofs.ExampleNetwork.{element, element_oid, id_oid, id_value, load_oid, load_value, network}
use Rattle.set_laws.specs.ModificationLaws.{HasShortValue, IsNamed, IsNoLogStatus, made_of}
use Rattle.set_laws.proofs.Members.{first_or_later, here, nowhere}
use Rattle.set_laws.proofs.Unnamed.{unnamed_stays}

-- the load becomes 3
abbrev change : Change
change = record {
  operator = pos 0;
  id = ids.Global load_oid;
  given = Some (record { id = ids.Global load_oid; value = Some (Int (pos 3)); raw = 2 ∷ 1 ∷ 3 ∷ [] });
}

load_is_named : IsNamed (change ∷ []) load_oid
load_is_named = (change, here change [], refl)

abbrev global_of : IdRef → List ℕ
global_of (ids.Global id) = id
global_of (ids.Local number) = []

name_is_not_named : IsNamed (change ∷ []) id_oid → ⊥
name_is_not_named named =
    elim (first_or_later change named.0 [] named.1) [
      | inl first ↦ apart (ap (λ (c : Change). global_of c.id) first ∙ ap global_of named.2)
      | inr later ↦ nowhere named.0 later
    ]
  where
    apart : load_oid ≡ id_oid → ⊥
    apart same = false≢true ((bytes_eq-Decides load_oid id_oid).1 same)

-- the element is no log
no_log_status : IsNoLogStatus network element_oid id_oid
no_log_status = inr refl

-- the element keeps its name, with its value
name_stays : Contains (made_of network [] element (change ∷ [])).attrs id_value
name_stays =
    unnamed_stays network [] element (change ∷ []) id_value (here id_value (load_value ∷ [])) name_is_not_named
    no_log_status

-- and its attributes in their order, of which the load has another value
made_is : made_of network [] element (change ∷ [])
    ≡ record element { attrs = id_value ∷ record load_value { value = Int (pos 3) } ∷ [] }
unfolding subidentifier identifier_octets length_octets integer_contents
made_is = refl

same_identifiers : identifiers (made_of network [] element (change ∷ [])).attrs ≡ id_oid ∷ load_oid ∷ []
same_identifiers = ap (λ o. identifiers o.attrs) made_is

-- each attribute has 2 octets of a header, 6 of an identifier and 3 of a value, and the element a header of 2
size_is : object_size network element ≡ 24
unfolding subidentifier identifier_octets length_octets integer_contents
size_is = refl

-- of which the load's value has 3
load_is_short : HasShortValue network element_oid load_value
unfolding subidentifier identifier_octets length_octets integer_contents
load_is_short counts = omega arith
