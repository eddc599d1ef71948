-- MemberLists: the components and the alternatives that are held in a type are those of its term, in order (X.680,
-- sections 25, 27 and 29).
use Rattle.std.proofs.Common.{◌≡◌, ◌<◌, ℕ, suc, List, [], ◌∷◌, Some, refl, sym, ap, ◌∙◌, subst, arith, map}
use Rattle.std.proofs.Common.{get_or, length}
use Rattle.std.proofs.Common.{Option, None, zero}
use Rattle.std.specs.Prelude.{option_map}
use Rattle.std.specs.declared.alloc.Global.{Global}
use Rattle.std.specs.declared.boxed.Box.{Box}
use Rattle.std.specs.declared.vec.Vec.{Vec}
use Rattle.token_grammar.specs.declared.token.Token.{Token}
use Rattle.asn1_values_syntax.specs.declared.constraint.Constraint.{Constraint}
use Rattle.asn1_values_syntax.specs.declared.constraint.Range.{Range}
use Rattle.asn1_values_syntax.specs.declared.tag.Tag.{Tag}
use Rattle.asn1_syntax.specs.declared.type_text.TypeText.{TypeText, Row_of-Alternative, end_of-Alternative}
use Rattle.asn1_syntax.specs.declared.type_text.TypeText.{more_of-Alternative}
use Rattle.asn1_syntax.specs.declared.type_text.TypeText.{items-the_row-Alternative, items_hidden-the_row-Alternative-1}
use Rattle.asn1_syntax.specs.declared.type_text.TypeText.TheVariants.{Choice, Plain as APlain, Structured, Tagged}
use Rattle.asn1_syntax.specs.declared.type_text.StructureText.{StructureText, Row_of-Component, end_of-Component}
use Rattle.asn1_syntax.specs.declared.type_text.StructureText.{more_of-Component}
use Rattle.asn1_syntax.specs.declared.type_text.StructureText.{items-the_row-Component}
use Rattle.asn1_syntax.specs.declared.type_text.StructureText.{items_hidden-the_row-Component-0}
use Rattle.asn1_syntax.specs.declared.type_text.StructureText.TheBlock.{hidden-the_row-Component-0}
use Rattle.asn1_syntax.specs.declared.type_text.StructureText.TheBlock.{hidden-the_row-Alternative-1}
use Rattle.asn1_syntax.specs.declared.type_text.StructureText.TheVariants.{Components, ListOf}
use Rattle.asn1_syntax.specs.declared.plain_type.PlainType.{PlainType}
use Rattle.asn1_syntax.specs.declared.type_text.Component.{Component}
use Rattle.asn1_syntax.specs.declared.type_text.Alternative.{Alternative}
use Rattle.asn1_names.specs.Containment.{IsMember}
use Rattle.asn1_names.specs.Containment.IsMember.{first, behind}
use Rattle.asn1_names.specs.ModuleTerms.PresenceTerm.{Needed}
use Rattle.asn1_names.specs.ModuleTerms.TypeTerm.{Alternatives, Repeated, Structure, Under}
use Rattle.asn1_names.specs.ModuleTerms.MemberTerms.{Member}
use Rattle.asn1_names.specs.TermViews.{alternative_terms, limit_terms, presence_term, row_terms, structure_term}
use Rattle.asn1_names.specs.TermViews.{plain_term, range_terms, tag_term, type_term}
use Rattle.asn1_tags.specs.MemberRows.{MemberRow, alternative_row, component_row, members}

components_listed : {n : _} (row : Row_of-Component n) → row_terms row ≡
    members (map component_row (items-the_row-Component n row))
components_listed end_of-Component = refl
components_listed (more_of-Component name of presence others) =
    ap (Member name (type_term of) (presence_term presence)) (components_listed others)

alternatives_listed : {n : _} (row : Row_of-Alternative n) → alternative_terms row ≡
    members (map alternative_row (items-the_row-Alternative n row))
alternatives_listed end_of-Alternative = refl
alternatives_listed (more_of-Alternative name of others) =
    ap (Member name (type_term of) Needed) (alternatives_listed others)

pub structure_said : (word : Token) (components : Vec Component Global) (constraints : Vec Constraint Global) →
    structure_term word (Components (Some components) constraints)
    ≡ Structure word (members (map component_row components.items)) (limit_terms constraints)
structure_said word components constraints = ap (λ ms. Structure word ms (limit_terms constraints))
    (components_listed (hidden-the_row-Component-0 components) ∙ ap
    (λ (xs : List Component). members (map component_row xs)) (items_hidden-the_row-Component-0 components))

pub choice_said : (word : Token) (alternatives : Vec Alternative Global) (constraints : Vec Constraint Global) →
    type_term (Choice word alternatives constraints)
    ≡ Alternatives word (members (map alternative_row alternatives.items)) (limit_terms constraints)
choice_said word alternatives constraints = ap (λ ms. Alternatives word ms (limit_terms constraints))
    (alternatives_listed (hidden-the_row-Alternative-1 alternatives) ∙ ap
    (λ (xs : List Alternative). members (map alternative_row xs)) (items_hidden-the_row-Alternative-1 alternatives))

-- the element at a place is the member there
pub member_at : {X : Type 0} (f : X → MemberRow) (xs : List X) (i : ℕ) (x : X) → i < length xs → x ≡ get_or xs i x →
    IsMember (members (map f xs)) i (f x).of (f x).presence
member_at f [] i x within is = absurd (omega (arith, within))
member_at f (y ∷ ys) zero x within is =
    subst (λ z. IsMember (members (map f (y ∷ ys))) 0 (f z).of (f z).presence) (sym is) first
member_at f (y ∷ ys) (suc i) x within is = behind (member_at f ys i x (omega (arith, within)) is)

-- ---- the terms of texts

pub tagged_term : (text : TypeText) (tag : Box Tag Global) (mode : Option Token) (of : Box TypeText Global)
    (beneath : TypeText) → text ≡ Tagged tag mode of → beneath ≡ of.value →
    type_term text ≡ Under (tag_term tag.value) mode (type_term beneath)
tagged_term text tag mode of beneath e f =
    ap type_term e ∙ ap (λ x. Under (tag_term tag.value) mode (type_term x)) (sym f)

pub list_of_term : (text : TypeText) (word : Token) (content : StructureText)
    (size : Option (Vec Range Global)) (of : Box TypeText Global) (beneath : TypeText) →
    text ≡ Structured word content → content ≡ ListOf size of → beneath ≡ of.value →
    type_term text ≡ Repeated word (option_map range_terms size) (type_term beneath)
list_of_term text word content size of beneath e f g = ap type_term e ∙ ap (structure_term word) f ∙
    ap (λ x. Repeated word (option_map range_terms size) (type_term x)) (sym g)

pub components_term : (text : TypeText) (word : Token) (content : StructureText)
    (held : Option (Vec Component Global)) (constraints : Vec Constraint Global) (components : Vec Component Global)
    (items : List Component) → text ≡ Structured word content → content ≡ Components held constraints →
    held ≡ Some components → items ≡ components.items →
    type_term text ≡ Structure word (members (map component_row items)) (limit_terms constraints)
components_term text word content held constraints components items e f g h =
    ap type_term e ∙ ap (structure_term word) f ∙ ap (λ x. structure_term word (Components x constraints)) g ∙
    structure_said word components constraints ∙
    ap (λ (xs : List Component). Structure word (members (map component_row xs)) (limit_terms constraints)) (sym h)

pub no_components_term : (text : TypeText) (word : Token) (content : StructureText)
    (held : Option (Vec Component Global)) (constraints : Vec Constraint Global) →
    text ≡ Structured word content → content ≡ Components held constraints → held ≡ None →
    type_term text ≡ Structure word (members []) (limit_terms constraints)
no_components_term text word content held constraints e f g =
    ap type_term e ∙ ap (structure_term word) f ∙ ap (λ x. structure_term word (Components x constraints)) g

pub choice_term : (text : TypeText) (word : Token) (alternatives : Vec Alternative Global)
    (constraints : Vec Constraint Global) (items : List Alternative) → text ≡ Choice word alternatives constraints →
    items ≡ alternatives.items →
    type_term text ≡ Alternatives word (members (map alternative_row items)) (limit_terms constraints)
choice_term text word alternatives constraints items e h =
    ap type_term e ∙ choice_said word alternatives constraints ∙
    ap (λ (xs : List Alternative). Alternatives word (members (map alternative_row xs)) (limit_terms constraints))
    (sym h)

pub plain_term_is : (text : TypeText) (of : PlainType) (constraints : Vec Constraint Global) →
    text ≡ APlain of constraints → type_term text ≡ plain_term of (limit_terms constraints)
plain_term_is text of constraints e = ap type_term e
