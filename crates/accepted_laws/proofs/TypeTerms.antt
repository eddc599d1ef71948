-- TypeTerms: types that agree say one thing (X.680, sections 17 to 51; X.208, sections 20 to 27; docs/PROFILE.md,
-- section 8).
use Rattle.std.specs.Prelude.{option_map}
use Rattle.std.proofs.Common.{◌≡◌, List, None, Some, refl, ap, map}
use Rattle.token_grammar.specs.declared.token.Token.{Token}
use Rattle.token_grammar.specs.PartLaws.{OptionsAgree}
use Rattle.asn1_values_syntax.specs.declared.constraint.Constraint.TheVariants.{Size, Values}
use Rattle.asn1_values_syntax.specs.ValueTrees.{value_tree}
use Rattle.asn1_values_syntax.proofs.OneTree.{values_alike}
use Rattle.asn1_syntax.specs.declared.plain_type.PlainType.{PlainType}
use Rattle.asn1_syntax.specs.declared.plain_type.PlainType.TheVariants as plain
use Rattle.asn1_syntax.specs.declared.presence.Presence.{Presence}
use Rattle.asn1_syntax.specs.declared.presence.Presence.TheVariants.{Optional, Default}
use Rattle.asn1_syntax.specs.declared.type_text.StructureText.{StructureText, Row_of-Component, end_of-Component}
use Rattle.asn1_syntax.specs.declared.type_text.StructureText.{more_of-Component, Held-StructureText-Components-0}
use Rattle.asn1_syntax.specs.declared.type_text.StructureText.{None' as NoRow, Some' as ARow}
use Rattle.asn1_syntax.specs.declared.type_text.StructureText.TheVariants.{Components', ListOf'}
use Rattle.asn1_syntax.specs.declared.type_text.TypeText.{TypeText, Row_of-Alternative, end_of-Alternative}
use Rattle.asn1_syntax.specs.declared.type_text.TypeText.{more_of-Alternative}
use Rattle.asn1_syntax.specs.declared.type_text.TypeText.TheVariants.{Tagged', Structured, Choice', Plain as APlain}
use Rattle.asn1_syntax.specs.TypeAgreement.{AlternativeRowsAgree, BoxedPresencesAgree, ComponentRowsAgree}
use Rattle.asn1_syntax.specs.TypeAgreement.{ConstraintsAgree, HeldAgree, PlainTypesAgree, PresencesAgree}
use Rattle.asn1_syntax.specs.TypeAgreement.{StructuresAgree, TypesAgree, VectorsAgree, VectorsEqual, two_any}
use Rattle.asn1_syntax.specs.TypeAgreement.{two_bit_strings, two_enumerated, two_identifiers, two_integers, two_names}
use Rattle.asn1_syntax.specs.TypeAgreement.{two_octet_strings, two_simple}
use Rattle.asn1_names.specs.ModuleTerms.{LimitTerm, NamedNumberTerm, PresenceTerm}
use Rattle.asn1_names.specs.ModuleTerms.LimitTerm.{SizeLimit, ValueLimit}
use Rattle.asn1_names.specs.ModuleTerms.PlainTerm.{AnyTerm, BitStringTerm, EnumeratedTerm, IdentifierTerm}
use Rattle.asn1_names.specs.ModuleTerms.PlainTerm.{IntegerTerm, OctetStringTerm, OneWord}
use Rattle.asn1_names.specs.ModuleTerms.PresenceTerm.{DefaultTerm, Needed, OptionalTerm}
use Rattle.asn1_names.specs.ModuleTerms.TypeTerm.{Alternatives, Plain, Repeated, Structure, Under}
use Rattle.asn1_names.specs.ModuleTerms.MemberTerms.{Member}
use Rattle.asn1_names.specs.TermViews.{alternative_terms, bit_term, component_terms, integer_term, limit_term}
use Rattle.asn1_names.specs.TermViews.{limit_terms, listed_terms, plain_term, presence_term, range_term, range_terms}
use Rattle.asn1_names.specs.TermViews.{row_terms, structure_term, tag_term, type_term}
use Rattle.accepted_laws.proofs.ListTerms.{SayOne, lists_say}

-- constraints
limits_say : SayOne ConstraintsAgree limit_term
limits_say (Size x) (Size y) a = λ i. SizeLimit (map range_term (a i))
limits_say (Size _) (Values _) a = absurd a
limits_say (Values _) (Size _) a = absurd a
limits_say (Values x) (Values y) a = λ i. ValueLimit (map range_term (a i))

limit_lists_say : SayOne (VectorsAgree ConstraintsAgree) limit_terms
limit_lists_say x y a = lists_say ConstraintsAgree limit_term limits_say x.items y.items a

sizes_say : SayOne (OptionsAgree VectorsEqual) (option_map range_terms)
sizes_say None None a = refl
sizes_say None (Some _) a = absurd a
sizes_say (Some _) None a = absurd a
sizes_say (Some x) (Some y) a = λ i. Some (map range_term (a i))

-- types that hold no other
listed_say : {X : Type 0} (view : X → NamedNumberTerm) → SayOne (OptionsAgree VectorsEqual) (listed_terms view)
listed_say view None None a = refl
listed_say view None (Some _) a = absurd a
listed_say view (Some _) None a = absurd a
listed_say view (Some x) (Some y) a = ap (map view) a

plain_types_say : {x y : PlainType} {limits others : List LimitTerm} → PlainTypesAgree x y → limits ≡ others →
    plain_term x limits ≡ plain_term y others
plain_types_say (two_simple a) e = λ i. Plain (a i) OneWord (e i)
plain_types_say (two_integers {x} {y} a) e =
    let words = a.0 in
    let numbers = listed_say integer_term x.numbers y.numbers a.1 in
    λ i. Plain (words i) (IntegerTerm (numbers i)) (e i)
plain_types_say (two_enumerated a) e =
    let words = a.0 in
    let items = a.1 in
    λ i. Plain (words i) (EnumeratedTerm (map integer_term (items i))) (e i)
plain_types_say (two_bit_strings {x} {y} a) e =
    let words = a.0 in
    let bits = listed_say bit_term x.bits y.bits a.1 in
    λ i. Plain (words i) (BitStringTerm (bits i)) (e i)
plain_types_say (two_octet_strings a) e = λ i. Plain (a i) OctetStringTerm (e i)
plain_types_say (two_identifiers a) e = λ i. Plain (a i) IdentifierTerm (e i)
plain_types_say (two_any a) e = λ i. Plain (a i).word AnyTerm (e i)
plain_types_say (two_names a) e = λ i. plain_term (plain.Named (a i)) (e i)

-- what says that a component may be missing
abbrev held_term : Presence → PresenceTerm
held_term presence = elim presence as (λ _. PresenceTerm) [
  | Optional word ↦ OptionalTerm
  | Default value ↦ DefaultTerm (value_tree value)
]

held_presences_say : SayOne PresencesAgree held_term
held_presences_say (Optional _) (Optional _) a = refl
held_presences_say (Optional _) (Default _) a = absurd a
held_presences_say (Default _) (Optional _) a = absurd a
held_presences_say (Default x) (Default y) a = ap DefaultTerm (values_alike x y a)

presences_say : SayOne (OptionsAgree BoxedPresencesAgree) presence_term
presences_say None None a = refl
presences_say None (Some _) a = absurd a
presences_say (Some _) None a = absurd a
presences_say (Some x) (Some y) a = held_presences_say x.value y.value a

mutual
  pub types_say : (x y : TypeText) → TypesAgree x y → type_term x ≡ type_term y
  types_say (Tagged' tag mode _ of) (Tagged' its_tag its_mode _ other) a =
      let tags = a.0 in
      let modes = a.1 in
      let types = types_say of other a.2 in
      λ i. Under (tag_term (tags i)) (modes i) (types i)
  types_say (Tagged' _ _ _ _) (Structured _ _) a = absurd a
  types_say (Tagged' _ _ _ _) (Choice' _ _ _ _) a = absurd a
  types_say (Tagged' _ _ _ _) (APlain _ _) a = absurd a
  types_say (Structured _ _) (Tagged' _ _ _ _) a = absurd a
  types_say (Structured word content) (Structured its_word other) a =
      structures_say word its_word content other a.0 a.1
  types_say (Structured _ _) (Choice' _ _ _ _) a = absurd a
  types_say (Structured _ _) (APlain _ _) a = absurd a
  types_say (Choice' _ _ _ _) (Tagged' _ _ _ _) a = absurd a
  types_say (Choice' _ _ _ _) (Structured _ _) a = absurd a
  types_say (Choice' word _ row constraints) (Choice' its_word _ its_row others) a =
      let words = a.0 in
      let rows = alternatives_say row its_row a.1 in
      let limits = limit_lists_say constraints others a.2 in
      λ i. Alternatives (words i) (rows i) (limits i)
  types_say (Choice' _ _ _ _) (APlain _ _) a = absurd a
  types_say (APlain _ _) (Tagged' _ _ _ _) a = absurd a
  types_say (APlain _ _) (Structured _ _) a = absurd a
  types_say (APlain _ _) (Choice' _ _ _ _) a = absurd a
  types_say (APlain of constraints) (APlain other others) a =
      plain_types_say a.0 (limit_lists_say constraints others a.1)

  structures_say : (word its_word : Token) (x y : StructureText) → word ≡ its_word → StructuresAgree x y →
      structure_term word x ≡ structure_term its_word y
  structures_say word its_word (Components' components constraints) (Components' its_components others) words a =
      let members = components_say components its_components a.0 in
      let limits = limit_lists_say constraints others a.1 in
      λ i. Structure (words i) (members i) (limits i)
  structures_say word its_word (Components' _ _) (ListOf' _ _ _) words a = absurd a
  structures_say word its_word (ListOf' _ _ _) (Components' _ _) words a = absurd a
  structures_say word its_word (ListOf' size _ of) (ListOf' its_size _ other) words a =
      let sizes = sizes_say size its_size a.0 in
      let types = types_say of other a.1 in
      λ i. Repeated (words i) (sizes i) (types i)

  components_say : (x y : Held-StructureText-Components-0) → HeldAgree x y → component_terms x ≡ component_terms y
  components_say NoRow NoRow a = refl
  components_say NoRow (ARow _ _) a = absurd a
  components_say (ARow _ _) NoRow a = absurd a
  components_say (ARow _ row) (ARow _ other) a = rows_say row other a

  rows_say : {n m : _} (x : Row_of-Component n) (y : Row_of-Component m) → ComponentRowsAgree x y →
      row_terms x ≡ row_terms y
  rows_say end_of-Component end_of-Component a = refl
  rows_say end_of-Component (more_of-Component _ _ _ _) a = absurd a
  rows_say (more_of-Component _ _ _ _) end_of-Component a = absurd a
  rows_say (more_of-Component name of presence others) (more_of-Component its_name other its_presence further) a =
      let names = a.0 in
      let types = types_say of other a.1 in
      let presences = presences_say presence its_presence a.2 in
      let behind = rows_say others further a.3 in
      λ i. Member (names i) (types i) (presences i) (behind i)

  alternatives_say : {n m : _} (x : Row_of-Alternative n) (y : Row_of-Alternative m) → AlternativeRowsAgree x y →
      alternative_terms x ≡ alternative_terms y
  alternatives_say end_of-Alternative end_of-Alternative a = refl
  alternatives_say end_of-Alternative (more_of-Alternative _ _ _) a = absurd a
  alternatives_say (more_of-Alternative _ _ _) end_of-Alternative a = absurd a
  alternatives_say (more_of-Alternative name of others) (more_of-Alternative its_name other further) a =
      let names = a.0 in
      let types = types_say of other a.1 in
      let behind = alternatives_say others further a.2 in
      λ i. Member (names i) (types i) Needed (behind i)
