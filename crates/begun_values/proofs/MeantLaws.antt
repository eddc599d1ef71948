-- MeantLaws: a value of what is meant, by the syntax that is told of it; and what begins in a syntax may begin in any.
use Rattle.std.proofs.Common.{◌≡◌, Option, None, Some, subst}
use Rattle.std.specs.Prelude.{List}
use Rattle.token_grammar.specs.declared.token.Token.{Token}
use Rattle.token_grammar.specs.Form.{Tree}
use Rattle.term_values.specs.Syntaxes.{TypeSyntax}
use Rattle.asn1_names.specs.ModuleTerms.{ModuleTerm}
use Rattle.asn1_names.specs.NameMeaning.{Meaning}
use Rattle.asn1_names.specs.ResolvedTypes.{HasSyntax}
use Rattle.asn1_names.specs.ResolvedTypes.HasSyntax.{of_type, of_value, of_standard}
use Rattle.asn1_names.proofs.DenotedOnce.{one_syntax}
use Rattle.asn1_types.specs.ToldMeanings.{TellsSyntax}
use Rattle.asn1_types.proofs.TypesLaws.{no_syntax}
use Rattle.std.specs.Prelude.{refl}
use Rattle.gdmo_names.specs.ValueNames.{BeginsIn}
use Rattle.gdmo_names.specs.ValueNames.BeginsIn.{arcs, component, set_component, element, set_element, chosen, tagged}
use Rattle.gdmo_names.specs.ValueNames.BeginsIn.{filter}
use Rattle.gdmo_begun_names.specs.declared.begun_names.BegunNames.{BegunNames}
use Rattle.gdmo_begun_names.specs.BegunMarks.{Marks}
use Rattle.gdmo_begun_names.specs.PartNames.{MayBegin}
use Rattle.gdmo_begun_names.specs.PartNames.MayBegin.{arcs as may_arcs, part as may_part, chosen as may_chosen}
use Rattle.gdmo_begun_names.proofs.MarkLaws.{marked_by}
use Rattle.begun_values.specs.MeantSyntaxes.{BeginsMaybe, BeginsOf}

pub begins_may : {first : Token} {syntax : TypeSyntax} {text : Tree} → BeginsIn first syntax text →
    MayBegin first text
begins_may (arcs e) = may_arcs e
begins_may (component has called h) = may_part has (begins_may h)
begins_may (set_component has called h) = may_part has (begins_may h)
begins_may (element has h) = may_part has (begins_may h)
begins_may (set_element has h) = may_part has (begins_may h)
begins_may (chosen is called h) = may_chosen is (begins_may h)
begins_may (tagged h) = begins_may h
begins_may (filter h) = begins_may h

pub of_may : (Of : TypeSyntax → Type 0) (text : Tree) (t : Token) → BeginsOf Of text t → MayBegin t text
of_may Of text t h = begins_may h.2

-- what is meant has one syntax
one_meant_syntax : {ms : List ModuleTerm} {meant : Meaning} {one other : TypeSyntax} → HasSyntax ms meant one →
    HasSyntax ms meant other → one ≡ other
one_meant_syntax (of_type d) (of_type e) = one_syntax d e
one_meant_syntax (of_value d) (of_value e) = one_syntax d e
one_meant_syntax of_standard of_standard = refl

-- where there is a syntax, it is the only one of these
pub only_syntax : (Of : TypeSyntax → Type 0) (syntax : TypeSyntax) (text : Tree) {before after : BegunNames} →
    Of syntax → ((other : TypeSyntax) → Of other → other ≡ syntax) →
    Marks (BeginsMaybe (Some syntax) text) before after → Marks (BeginsOf Of text) before after
only_syntax Of syntax text has only h = marked_by (BeginsMaybe (Some syntax) text) (BeginsOf Of text)
    (λ t b. (syntax, has, b)) (λ t b. subst (λ s. BeginsIn t s text) (only b.0 b.1) b.2) h

pub meant_marked : (ms : List ModuleTerm) (meant : Meaning) (told : Option TypeSyntax) (text : Tree)
    {before after : BegunNames} → TellsSyntax ms meant told → Marks (BeginsMaybe told text) before after →
    Marks (BeginsOf (HasSyntax ms meant) text) before after
meant_marked ms meant None text tells h = marked_by (BeginsMaybe None text) (BeginsOf (HasSyntax ms meant) text)
    (λ t b. absurd b) (λ t b. absurd (no_syntax ms meant tells b.0 b.1)) h
meant_marked ms meant (Some syntax) text tells h =
    only_syntax (HasSyntax ms meant) syntax text tells (λ other has. one_meant_syntax has tells) h

-- two sets of syntaxes that are the same
pub syntaxes_marked : (One Other : TypeSyntax → Type 0) (text : Tree) {before after : BegunNames} →
    ((syntax : TypeSyntax) → One syntax → Other syntax) → ((syntax : TypeSyntax) → Other syntax → One syntax) →
    Marks (BeginsOf One text) before after → Marks (BeginsOf Other text) before after
syntaxes_marked One Other text to from h = marked_by (BeginsOf One text) (BeginsOf Other text)
    (λ t b. (b.0, to b.0 b.1, b.2)) (λ t b. (b.0, from b.0 b.1, b.2)) h
