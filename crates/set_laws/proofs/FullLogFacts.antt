-- An example of a log whose availabilityStatus loses logFull 8 by a modification of its maxLogSize, computed: X.711,
-- section 7.4; docs/PROFILE.md, section 15. No modification names availabilityStatus.
use Rattle.std.proofs.Common.{sym, inl, inr}
use Rattle.std.proofs.lemmas.Bool.{false≢true}
use Rattle.std.specs.Prelude.{◌≡◌, ◌+◌, ℕ, pos, true, List, [], ◌∷◌, Some, codes, map, refl}
use Rattle.term_values.specs.Der.{identifier_octets, length_octets}
use Rattle.term_values.specs.Octets.{integer_contents}
use Rattle.term_values.specs.Oid.{subidentifier}
use Rattle.term_values.specs.Syntaxes.{TypeSyntax}
use Rattle.term_values.specs.Typed.{listed}
use Rattle.term_values.specs.Typed.TypedValue.{Int, Many}
use Rattle.term_model.specs.declared.object.Attribute.{Attribute}
use Rattle.term_model.specs.declared.object.Object.{Object}
use Rattle.term_model.specs.declared.packages.Property.{Property}
use Rattle.term_model.specs.declared.request.Change.{Change}
use Rattle.term_model.specs.declared.request.IdRef.TheVariants as ids
use Rattle.term_model.specs.declared.schema.AttrRec.{AttrRec}
use Rattle.term_model.specs.declared.schema.Set.{Set}
use Rattle.term_model.specs.BoundClasses.{is_bound_log}
use Rattle.term_model.specs.ControlSyntaxes.{log_attributes}
use Rattle.term_model.proofs.ExampleNetwork.{element, element_class, element_oid, element_package, id_property, network}
use Rattle.term_model.proofs.ExampleNetwork.{ordered}
use Rattle.set_laws.specs.ModificationLaws.{IsNoLogStatus, made_of}

-- the attributes of a log by their place among them: availabilityStatus is 5, maxLogSize 7
abbrev id : ℕ → List ℕ
id n = 2 ∷ 999 ∷ 9 ∷ 7 ∷ n ∷ []

abbrev templates : ℕ → List (List ℕ × TypeSyntax) → List AttrRec
templates n [] = []
templates n (of_log ∷ others) =
    record { id = id n; label = of_log.0; syntax = of_log.1; rules = ordered } ∷ templates (n + 1) others

abbrev properties : List Property
properties =
    map (λ (template : AttrRec). record id_property { attribute = template.id; replace = true })
    (templates 1 log_attributes)

abbrev logs : Set
logs = record network {
  classes = record element_class {
    label = codes "log";
    mandatory = record element_package { attributes = properties } ∷ [];
    properties = properties;
  } ∷ [];
  attributes = templates 1 log_attributes;
}

is_log : is_bound_log logs element_oid ≡ true
is_log = refl

abbrev status : List ℕ → Attribute
status numbers = record { id = id 5; value = Many (listed (map (λ n. Int (pos n)) numbers)) }

abbrev limit : ℕ → Attribute
limit n = record { id = id 7; value = Int (pos n) }

abbrev log : List Attribute → Object
log attributes = record element { attrs = attributes }

abbrev change : Change
change = record {
  operator = pos 0;
  id = ids.Global (id 7);
  given = Some (record { id = ids.Global (id 7); value = Some (Int (pos 120)); raw = 2 ∷ 1 ∷ 120 ∷ [] });
}

full_ends : made_of logs [] (log (status (1 ∷ 8 ∷ []) ∷ limit 100 ∷ [])) (change ∷ [])
    ≡ log (status (1 ∷ []) ∷ limit 120 ∷ [])
unfolding subidentifier identifier_octets length_octets integer_contents
full_ends = refl

-- the law of attributes that no modification names leaves it out
is_log_status : IsNoLogStatus logs element_oid (id 5) → ⊥
is_log_status (inl not_labelled) = false≢true (sym not_labelled)
is_log_status (inr no_log) = false≢true (sym no_log)
