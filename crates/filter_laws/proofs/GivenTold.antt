-- The assertion that is read is one that its trees denote.
use Rattle.std.proofs.Common.{◌≡◌, List, [], ◌∷◌, Bool, true, false, Option, None, Some, refl, ⊎_elim}
use Rattle.std.proofs.lemmas.Bool.{and_parts, cases_Bool}
use Rattle.std.specs.List.{list_all}
use Rattle.std.specs.Prelude.{find, IfSome, option_map}
use Rattle.term_values.specs.Decoding.{value_in}
use Rattle.term_values.specs.Soundness.{has_clear_tags}
use Rattle.term_values.specs.Syntaxes.{TypeSyntax}
use Rattle.term_values.specs.Tree.{TreeValue, TreeValues}
use Rattle.term_values.specs.Tree.TreeValues.{Nothing, Then}
use Rattle.term_values.specs.Typed.{TypedValue}
use Rattle.typed_laws.proofs.ReadingStatements.{none_is_denoted_holds, reading_denotes_holds}
use Rattle.typed_laws.specs.TreeOctets.{HasOctets, HaveOctets}
use Rattle.term_model.specs.declared.request.IdRef.{IdRef}
use Rattle.term_model.specs.declared.request.IdRef.TheVariants.{Global, Local}
use Rattle.term_model.specs.declared.schema.AttrRec.{AttrRec}
use Rattle.term_model.specs.Assertions.{IsAsserted, IsIdRef, attribute_given, attribute_syntax, given_in, id_in}
use Rattle.term_model.specs.Comparing.{is_same_oid}
use Rattle.term_model.specs.FilterDenoting.{DenoteGiven}
use Rattle.filter_laws.specs.DenotingLaws.{AreClear, GivenIsDenoted, IsClear, is_clear}
use Rattle.filter_laws.proofs.IdTold.{id_told}
use Rattle.filter_laws.proofs.Options.{if_mapped}

asserted : (syntax : TypeSyntax) (tree : TreeValue) → has_clear_tags syntax ≡ true → HasOctets tree
    → (o : Option TypedValue) → value_in syntax tree ≡ o → IsAsserted (Some syntax) tree o
asserted syntax tree clear octets (Some value) e = reading_denotes_holds syntax tree value octets e
asserted syntax tree clear octets None e = (none_is_denoted_holds syntax tree clear octets).0 e

pub given_is_denoted : GivenIsDenoted
given_is_denoted None id tree clear octets = (refl, refl, refl)
given_is_denoted (Some syntax) id tree clear octets =
    (refl, refl, asserted syntax tree clear octets (value_in syntax tree) refl)

-- the syntax of a record that is found is clear
found_clear : (test : AttrRec → Bool) (records : List AttrRec) → AreClear records
    → IsClear (option_map (λ (of_attribute : AttrRec). of_attribute.syntax) (find test records))
found_clear test [] clear = tt
found_clear test (x ∷ xs) clear =
    let parts = and_parts (is_clear x) (list_all is_clear xs) clear in
    ⊎_elim (λ (e : test x ≡ true). rw e parts.0)
    (λ (e : test x ≡ false). rw e (found_clear test xs parts.1))
    (cases_Bool (test x))

syntax_clear : (records : List AttrRec) (id : IdRef) → AreClear records → IsClear (attribute_syntax records id)
syntax_clear records (Global id) clear =
    found_clear (λ (of_attribute : AttrRec). is_same_oid of_attribute.id id) records clear
syntax_clear records (Local number) clear = tt

pub given_told : (records : List AttrRec) (trees : TreeValues) → AreClear records → HaveOctets trees
    → IfSome (given_in records trees) (DenoteGiven records trees)
given_told records Nothing clear octets = tt
given_told records (Then id Nothing) clear octets = tt
given_told records (Then id (Then value Nothing)) clear octets =
    if_mapped (IsIdRef 0 1 id) (DenoteGiven records (Then id (Then value Nothing)))
    (λ named. attribute_given records named value) (id_in 0 1 id) (id_told 0 1 id octets.0)
    (λ named q. (
      id,
      value,
      refl,
      q,
      given_is_denoted (attribute_syntax records named) named value
          (syntax_clear records named clear) octets.1.0,
    ))
given_told records (Then id (Then value (Then more others))) clear octets = tt
