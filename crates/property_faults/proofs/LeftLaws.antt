-- LeftLaws: whether types leave nothing of the syntax that an attribute has, which is one at most.
use Rattle.std.proofs.Common.{◌≡◌, ◌∙◌, ℕ, List, Bool, true, false, Option, None, Some, sym, subst}
use Rattle.std.specs.Prelude.{◌↔◌, MatchBool}
use Rattle.std.specs.BTreeSet.{BTreeSet}
use Rattle.std.proofs.lemmas.Option.{none-some, same_Some}
use Rattle.term_values.specs.Syntaxes.{TypeSyntax}
use Rattle.term_model.specs.WholeRecords.{IsNotEmpty}
use Rattle.asn1_names.specs.ModuleTerms.{ModuleTerm}
use Rattle.linked_parts.specs.declared.linked.Linked.{Linked}
use Rattle.class_faults.specs.AttributeSyntaxes.{AttributeHas}
use Rattle.linked_types.specs.declared.type_table.TypeTable.{TypeTable}
use Rattle.property_faults.specs.TableFaults.{NothingLeft, types_at}

pub left_told : (ms : List ModuleTerm) (linked : Linked) (table : TypeTable) (attribute : ℕ) (places : BTreeSet ℕ)
    (found : Option TypeSyntax) (syntax : TypeSyntax) (empty : Bool) → found ≡ Some syntax →
    ((type : TypeSyntax) → (found ≡ Some type) ↔ AttributeHas ms linked attribute type) →
    MatchBool empty (¬ IsNotEmpty syntax (types_at table places.keys))
    (IsNotEmpty syntax (types_at table places.keys)) →
    MatchBool empty (NothingLeft ms linked table attribute places) (¬ NothingLeft ms linked table attribute places)
left_told ms linked table attribute places found syntax true at exact told =
    record { syntax = syntax; has = (exact syntax).0 at; empty = told }
left_told ms linked table attribute places found syntax false at exact told = λ left.
    let same = same_Some syntax left.syntax (sym at ∙ (exact left.syntax).1 left.has) in
    left.empty (subst (λ (s : TypeSyntax). IsNotEmpty s (types_at table places.keys)) same told)

pub no_syntax : (ms : List ModuleTerm) (linked : Linked) (table : TypeTable) (attribute : ℕ) (places : BTreeSet ℕ)
    (found : Option TypeSyntax) → found ≡ None →
    ((type : TypeSyntax) → (found ≡ Some type) ↔ AttributeHas ms linked attribute type) →
    ¬ NothingLeft ms linked table attribute places
no_syntax ms linked table attribute places found gone exact left =
    none-some left.syntax (sym gone ∙ (exact left.syntax).1 left.has)
