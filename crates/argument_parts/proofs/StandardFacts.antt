-- Examples of names and of what they name, computed: X.711, section 7.5; X.501; docs/PROFILE.md.
use Rattle.std.specs.Prelude.{◌≡◌, ℕ, [], ◌∷◌, Some, refl}
use Rattle.term_values.specs.Der.{identifier_octets, length_octets}
use Rattle.term_values.specs.Octets.{integer_contents, integer_in}
use Rattle.term_values.specs.Oid.{oid_in, subidentifier}
use Rattle.term_values.specs.Tag.{context, universal}
use Rattle.term_values.specs.Tree.{TreeValue}
use Rattle.term_values.specs.Tree.TreeValue.{Constructed, Primitive}
use Rattle.term_values.specs.Tree.TreeValues.{Nothing, Then}
use Rattle.term_model.specs.declared.request.Named.TheVariants as named
use Rattle.term_model.proofs.ExampleNetwork.{id_oid, network}
use Rattle.term_model.specs.InstanceNames.{named_in}

-- elementId = 7 as a RelativeDistinguishedName, and the system's own, elementId = 1
abbrev rdn : ℕ → TreeValue
rdn value =
    Constructed (universal 17) (Then (Constructed (universal 16)
    (Then (Primitive (universal 6) (0x88 ∷ 0x37 ∷ 0x07 ∷ 0x01 ∷ []))
    (Then (Primitive (universal 2) (value ∷ [])) Nothing))) Nothing)

local_example : named_in network (Constructed (context 4) (Then (rdn 7) Nothing))
    ≡ Some (named.Object (record { attribute = id_oid; value = 0x02 ∷ 0x01 ∷ 0x07 ∷ [] } ∷ []))
unfolding oid_in subidentifier integer_in integer_contents identifier_octets length_octets
local_example = refl

-- a distinguishedName begins with the system's own name, and names nothing where it doesn't
distinguished_example : named_in network (Constructed (context 2) (Then (rdn 1) (Then (rdn 7) Nothing)))
    ≡ Some (named.Object (record { attribute = id_oid; value = 0x02 ∷ 0x01 ∷ 0x07 ∷ [] } ∷ []))
unfolding oid_in subidentifier integer_in integer_contents identifier_octets length_octets
distinguished_example = refl

other_system : named_in network (Constructed (context 2) (Then (rdn 7) Nothing)) ≡ Some named.Nothing
unfolding oid_in subidentifier integer_in integer_contents identifier_octets length_octets
other_system = refl

-- a part of no assertion
no_assertion : named_in network (Constructed (context 4) (Then (Constructed (universal 17) Nothing) Nothing))
    ≡ Some named.Nothing
no_assertion = refl
