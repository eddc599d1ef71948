-- BuildingLaws: what is built of a type is what it denotes (X.680, sections 17 to 51).
use Rattle.std.proofs.Common.{◌≡◌, ◌≤◌, ◌+◌, ℕ, zero, suc, List, [], ◌∷◌, Bool}
use Rattle.std.proofs.Common.{true, false, Option, None, Some, Contains}
use Rattle.std.proofs.Common.{ap, arith, codes, map, refl, sym, true≢false, ◌∙◌}
use Rattle.std.proofs.Math.Path.{subst}
use Rattle.std.proofs.lemmas.Option.{slice_get-map}
use Rattle.std.specs.Prelude.{option_map, slice_get}
use Rattle.std.specs.declared.alloc.Global.{Global}
use Rattle.std.specs.declared.vec.Vec.{Vec}
use Rattle.token_grammar.specs.TokenTests.{is_word_of}
use Rattle.token_grammar.specs.declared.token.Token.{Token}
use Rattle.term_values.specs.Syntaxes.{Bounds, TypeParts, TypeSyntax}
use Rattle.term_values.specs.Syntaxes.TypeSyntax.{Choice, SequenceOf, SetOf, Tagged}
use Rattle.term_values.specs.declared.tag.Tag.{Tag}
use Rattle.asn1_values_syntax.specs.declared.constraint.Constraint.{Constraint}
use Rattle.asn1_syntax.specs.declared.module.Module.{Module}
use Rattle.asn1_syntax.specs.declared.plain_type.PlainType.{PlainType}
use Rattle.asn1_syntax.specs.declared.plain_type.PlainType.TheVariants as text
use Rattle.asn1_syntax.specs.declared.type_text.Alternative.{Alternative}
use Rattle.asn1_syntax.specs.declared.type_text.Component.{Component}
use Rattle.asn1_syntax.specs.declared.type_text.StructureText.{Row_of-Component, end_of-Component, more_of-Component}
use Rattle.asn1_syntax.specs.declared.type_text.StructureText.{items-the_row-Component}
use Rattle.asn1_syntax.specs.declared.type_text.StructureText.{items_hidden-the_row-Component-0}
use Rattle.asn1_syntax.specs.declared.type_text.StructureText.TheBlock.{hidden-the_row-Alternative-1}
use Rattle.asn1_syntax.specs.declared.type_text.StructureText.TheBlock.{hidden-the_row-Component-0}
use Rattle.asn1_syntax.specs.declared.type_text.StructureText.TheVariants.{Components}
use Rattle.asn1_syntax.specs.declared.type_text.TypeText.{Row_of-Alternative, end_of-Alternative, more_of-Alternative}
use Rattle.asn1_syntax.specs.declared.type_text.TypeText.{items-the_row-Alternative, items_hidden-the_row-Alternative-1}
use Rattle.asn1_syntax.specs.declared.type_text.TypeText.TheVariants.{Choice as ChoiceText}
use Rattle.asn1_names.specs.Constraining.{Constrains, is_size_limit}
use Rattle.asn1_names.specs.Constraining.Constrains.{no_more}
use Rattle.asn1_names.specs.DenotedSyntax.{Denotes, MembersDenote, PlainDenotes, has_implicit_default, is_explicit}
use Rattle.asn1_names.specs.DenotedSyntax.{size_limits}
use Rattle.asn1_names.specs.DenotedSyntax.Denotes.{choice, plain, sequence_of, set_of, tagged}
use Rattle.asn1_names.specs.FirstModuleFault.{AreFaultless}
use Rattle.asn1_names.specs.ModuleTerms.{LimitTerm, MemberTerms, ModuleTerm, NumberTerm, PlainTerm, RangeTerm, TagTerm}
use Rattle.asn1_names.specs.ModuleTerms.{TypeTerm}
use Rattle.asn1_names.specs.ModuleTerms.LimitTerm.{SizeLimit, ValueLimit}
use Rattle.asn1_names.specs.ModuleTerms.MemberTerms.{Member}
use Rattle.asn1_names.specs.ModuleTerms.PlainTerm.{AnyTerm, IdentifierTerm, OctetStringTerm, OneWord}
use Rattle.asn1_names.specs.ModuleTerms.PresenceTerm.{Needed}
use Rattle.asn1_names.specs.ModuleTerms.TypeTerm.{Alternatives, Plain, Repeated, Structure, Under}
use Rattle.asn1_names.specs.Narrowing.{can_narrow}
use Rattle.asn1_names.specs.NodeCount.{HasNodes}
use Rattle.asn1_names.specs.NodeCount.HasNodes.{alternatives as nodes_alternatives, cyclic as nodes_cyclic}
use Rattle.asn1_names.specs.NodeCount.HasNodes.{named as nodes_named, plain as nodes_plain, repeated as nodes_repeated}
use Rattle.asn1_names.specs.NodeCount.HasNodes.{standard as nodes_standard, structure as nodes_structure}
use Rattle.asn1_names.specs.NodeCount.HasNodes.{tagged as nodes_tagged, unknown as nodes_unknown}
use Rattle.asn1_names.specs.Occurrences.{Stands}
use Rattle.asn1_names.specs.Occurrences.IsLimitOf.{alternatives as limit_of_alternatives, list_size}
use Rattle.asn1_names.specs.Occurrences.IsLimitOf.{plain as limit_of_plain, structure as limit_of_structure}
use Rattle.asn1_names.specs.TermViews.{alternative_terms, has_implicit_tags, limit_terms, module_term, module_terms}
use Rattle.asn1_names.specs.PassedNames.{Passed}
use Rattle.asn1_names.specs.SaidNumbers.{SaysPlain}
use Rattle.asn1_names.specs.TermViews.{plain_term, presence_term, row_terms, structure_term, type_term}
use Rattle.asn1_names.specs.TypeBase.{HasBase, named_numbers, number_called}
use Rattle.asn1_names.specs.TypeBase.Base.{Written}
use Rattle.asn1_names.specs.TypeBase.HasBase.{itself}
use Rattle.asn1_names.specs.TypeWalks.{IsNoName}
use Rattle.asn1_names.specs.WholeNumbers.{IsTag}
use Rattle.asn1_names.proofs.FaultlessLaws.{faultless_place, says_tag}
use Rattle.asn1_names.proofs.NamedLaws.{called_none}
use Rattle.asn1_names.proofs.BaseLaws.{denoted_place}
use Rattle.asn1_names.proofs.SayingLaws.{bounds_say, plain_says}
use Rattle.asn1_types.specs.BuiltSyntaxes.{AreSizesSaid, HasNoNames, PlainIsDenoted, TakesLimits, alternative_member}
use Rattle.asn1_types.specs.BuiltSyntaxes.{component_member}
use Rattle.asn1_names.proofs.PassingLaws.{passed_nodes}
use Rattle.asn1_names.proofs.WalkLaws.{named_is}
use Rattle.asn1_types.specs.FollowedNames.{LeadsBy}
use Rattle.asn1_types.specs.MeasuredTypes.{AreMeasured, IsMeasured, OneMember, members_listed}
use Rattle.asn1_types.specs.NextTypes.{LeadsToType}
use Rattle.asn1_types.specs.declared.following.Followed.{Followed}
use Rattle.asn1_types.proofs.FollowLaws.{end_stands}
use Rattle.asn1_types.proofs.ReturningLaws.{passes_by}
use Rattle.asn1_types.proofs.ConstrainingLaws.{here_in}
use Rattle.asn1_types.proofs.MeasuredLaws.{measured_alternatives, measured_element, measured_structure, measured_tagged}

-- ---- tags

pub default_is : (modules tables : List Module) (home : ℕ) (text : Module) → tables ≡ modules →
    slice_get tables home ≡ Some text →
    has_implicit_default (module_terms modules) home ≡ has_implicit_tags text.tag_default
unfolding has_implicit_default
default_is modules tables home text same at =
    ap (λ x. elim x as (λ _. Bool) [ None ↦ false | Some y ↦ y.is_implicit ])
    (slice_get-map module_term modules home ∙ ap (option_map module_term)
    (ap (λ ms. slice_get ms home) (sym same) ∙ at))

pub default_none : (modules tables : List Module) (home : ℕ) → tables ≡ modules → slice_get tables home ≡ None →
    has_implicit_default (module_terms modules) home ≡ false
unfolding has_implicit_default
default_none modules tables home same at =
    ap (λ x. elim x as (λ _. Bool) [ None ↦ false | Some y ↦ y.is_implicit ])
    (slice_get-map module_term modules home ∙ ap (option_map module_term)
    (ap (λ ms. slice_get ms home) (sym same) ∙ at))

pub tag_denoted : (ms : List ModuleTerm) (m : ℕ) (text : TagTerm) (mode : Option Token) (of : TypeTerm) (own : Tag)
    (explicit : Bool) (inner boxed : TypeSyntax) → IsTag ms m text own →
    explicit ≡ is_explicit (has_implicit_default ms m) mode inner → boxed ≡ inner → Denotes ms m of inner →
    Denotes ms m (Under text mode of) (Tagged own explicit boxed)
tag_denoted ms m text mode of own explicit inner boxed is said same denotes =
    subst (λ s. Denotes ms m (Under text mode of) s) (λ i. Tagged own (sym said i) (sym same i)) (tagged is denotes)

-- ---- lists

no_named_numbers : (ms : List ModuleTerm) (m v : ℕ) (word : Token) (size : Option (List RangeTerm)) (of base : TypeTerm)
    (name : List ℕ) (number : NumberTerm) → HasBase ms m (Repeated word size of) (Written v base) →
    number_called name (named_numbers base) ≡ Some number → ⊥
no_named_numbers ms m v word size of base name number (itself k) called =
    none_some number (sym (called_none name) ∙ called)
  where
    none_some : (n : NumberTerm) → None ≡ Some n → ⊥
    none_some n h = absurd (cc)

unnamed_list : (ms : List ModuleTerm) (m : ℕ) (word : Token) (size : Option (List RangeTerm)) (of : TypeTerm) →
    HasNoNames ms m (Repeated word size of)
unnamed_list ms m word size of name = λ names.
    no_named_numbers ms m names.written_in word size of names.has.base name.text names.number names.has.has
    names.has.called

only_sizes : (size : Option (List RangeTerm)) (limit : LimitTerm) → Contains (size_limits size) limit →
    is_size_limit limit ≡ true
only_sizes None limit (k, within, is) = absurd (omega (arith, within))
only_sizes (Some ranges) limit (zero, within, is) = ap is_size_limit (sym is)
only_sizes (Some ranges) limit (suc k, within, is) = absurd (omega (arith, within))

takes_sizes : {ms : List ModuleTerm} {m : ℕ} {word : Token} {size : Option (List RangeTerm)} {of : TypeTerm}
    (list : TypeSyntax) → can_narrow true list ≡ true → AreSizesSaid ms m word size of →
    TakesLimits ms m (Repeated word size of) (size_limits size) list
takes_sizes {size = size} list place said = record {
  said = said;
  placed = λ limit there. ap (λ b. can_narrow b list) (only_sizes size limit there) ∙ place;
}

pub sequence_of_denoted : (ms : List ModuleTerm) (m : ℕ) (word : Token) (size : Option (List RangeTerm)) (of : TypeTerm)
    (element boxed left : TypeSyntax) (bounds : Bounds) → boxed ≡ element → bounds ≡ [] →
    is_word_of (codes "SET") word ≡ false → Denotes ms m of element → AreSizesSaid ms m word size of →
    ((t : TypeTerm) → HasNoNames ms m t → TakesLimits ms m t (size_limits size) (SequenceOf boxed bounds) →
    Constrains ms m t (size_limits size) (SequenceOf boxed bounds) left) → Denotes ms m (Repeated word size of) left
sequence_of_denoted ms m word size of element boxed left bounds same none is denotes said narrows =
    sequence_of is denotes
    (subst (λ s. Constrains ms m (Repeated word size of) (size_limits size) s left)
    (λ i. SequenceOf (same i) (none i))
    (narrows (Repeated word size of) (unnamed_list ms m word size of)
    (takes_sizes (SequenceOf boxed bounds) refl said)))

pub set_of_denoted : (ms : List ModuleTerm) (m : ℕ) (word : Token) (size : Option (List RangeTerm)) (of : TypeTerm)
    (element boxed left : TypeSyntax) (bounds : Bounds) → boxed ≡ element → bounds ≡ [] →
    is_word_of (codes "SET") word ≡ true → Denotes ms m of element → AreSizesSaid ms m word size of →
    ((t : TypeTerm) → HasNoNames ms m t → TakesLimits ms m t (size_limits size) (SetOf boxed bounds) →
    Constrains ms m t (size_limits size) (SetOf boxed bounds) left) → Denotes ms m (Repeated word size of) left
set_of_denoted ms m word size of element boxed left bounds same none is denotes said narrows =
    set_of is denotes
    (subst (λ s. Constrains ms m (Repeated word size of) (size_limits size) s left)
    (λ i. SetOf (same i) (none i))
    (narrows (Repeated word size of) (unnamed_list ms m word size of)
    (takes_sizes (SetOf boxed bounds) refl said)))

sizes_said : {ms : List ModuleTerm} {document m : ℕ} (word : Token) (size : Option (List RangeTerm)) (of : TypeTerm) →
    AreFaultless ms → Stands ms document m (Repeated word size of) → AreSizesSaid ms m word size of
sizes_said word None of sound stands limit (k, within, is) = absurd (omega (arith, within))
sizes_said word (Some ranges) of sound stands limit (zero, within, is) =
    bounds_say limit sound stands (list_size (sym is))
sizes_said word (Some ranges) of sound stands limit (suc k, within, is) = absurd (omega (arith, within))

pub list_built : (ms : List ModuleTerm) (m most : ℕ) (whole : TypeTerm) (word : Token) (size : Option (List RangeTerm))
    (of : TypeTerm) (element left : TypeSyntax) → whole ≡ Repeated word size of →
    (IsMeasured ms m of most → Denotes ms m of element) →
    ((t : TypeTerm) → Denotes ms m t element → AreSizesSaid ms m word size t → Denotes ms m (Repeated word size t)
    left) →
    IsMeasured ms m whole (most + 1) → Denotes ms m whole left
list_built ms m most whole word size of element left is inner list measured =
    let here = subst (λ t. IsMeasured ms m t (most + 1)) is measured in
    subst (λ t. Denotes ms m t left) (sym is)
    (list of (inner (measured_element here)) (sizes_said word size of here.faultless here.stands))

-- ---- constraints at SEQUENCE, SET and CHOICE have no place

false_true : {P : Type 0} → false ≡ true → P
false_true h = absurd (true≢false (sym h))

no_structure_limits : {ms : List ModuleTerm} {document m : ℕ} {word : Token} {members : MemberTerms}
    (limits : List LimitTerm) → AreFaultless ms → Stands ms document m (Structure word members limits) → limits ≡ []
no_structure_limits [] sound stands = refl
no_structure_limits (SizeLimit ranges ∷ limits) sound stands =
    false_true (faultless_place sound stands (limit_of_structure (here_in (SizeLimit ranges) limits)) (itself refl))
no_structure_limits (ValueLimit ranges ∷ limits) sound stands =
    false_true (faultless_place sound stands (limit_of_structure (here_in (ValueLimit ranges) limits)) (itself refl))

no_choice_limits : {ms : List ModuleTerm} {document m : ℕ} {word : Token} {members : MemberTerms}
    (limits : List LimitTerm) → AreFaultless ms → Stands ms document m (Alternatives word members limits) → limits ≡ []
no_choice_limits [] sound stands = refl
no_choice_limits (SizeLimit ranges ∷ limits) sound stands =
    false_true (faultless_place sound stands (limit_of_alternatives (here_in (SizeLimit ranges) limits)) (itself refl))
no_choice_limits (ValueLimit ranges ∷ limits) sound stands =
    false_true (faultless_place sound stands (limit_of_alternatives (here_in (ValueLimit ranges) limits)) (itself refl))

-- ---- the members of a text

components_row : {n : _} (row : Row_of-Component n) →
    row_terms row ≡ members_listed (map component_member (items-the_row-Component n row))
components_row end_of-Component = refl
components_row (more_of-Component name of presence others) =
    ap (Member name (type_term of) (presence_term presence)) (components_row others)

pub components_are : (word : Token) (components : Vec Component Global) (constraints : Vec Constraint Global) →
    structure_term word (Components (Some components) constraints) ≡
    Structure word (members_listed (map component_member components.items)) (limit_terms constraints)
components_are word components constraints = ap (λ ms. Structure word ms (limit_terms constraints))
    (components_row (hidden-the_row-Component-0 components) ∙
    ap (λ (xs : List Component). members_listed (map component_member xs))
    (items_hidden-the_row-Component-0 components))

alternatives_row : {n : _} (row : Row_of-Alternative n) →
    alternative_terms row ≡ members_listed (map alternative_member (items-the_row-Alternative n row))
alternatives_row end_of-Alternative = refl
alternatives_row (more_of-Alternative name of others) =
    ap (Member name (type_term of) Needed) (alternatives_row others)

pub alternatives_are : (word : Token) (alternatives : Vec Alternative Global) (constraints : Vec Constraint Global) →
    type_term (ChoiceText word alternatives constraints) ≡
    Alternatives word (members_listed (map alternative_member alternatives.items)) (limit_terms constraints)
alternatives_are word alternatives constraints = ap (λ ms. Alternatives word ms (limit_terms constraints))
    (alternatives_row (hidden-the_row-Alternative-1 alternatives) ∙
    ap (λ (xs : List Alternative). members_listed (map alternative_member xs))
    (items_hidden-the_row-Alternative-1 alternatives))

-- ---- what is built of members

pub structure_built : (ms : List ModuleTerm) (m most : ℕ) (whole : TypeTerm) (word : Token) (members : List OneMember)
    (limits : List LimitTerm) (parts : TypeParts) (syntax : TypeSyntax) →
    whole ≡ Structure word (members_listed members) limits →
    (AreMeasured ms m members most → MembersDenote ms m (members_listed members) parts) →
    (MembersDenote ms m (members_listed members) parts →
    Denotes ms m (Structure word (members_listed members) []) syntax) →
    IsMeasured ms m whole (most + 1) → Denotes ms m whole syntax
structure_built ms m most whole word members limits parts syntax is inner built measured =
    let here = subst (λ t. IsMeasured ms m t (most + 1)) is measured in
    let none = no_structure_limits limits here.faultless here.stands in
    subst (λ t. Denotes ms m t syntax) (sym (is ∙ ap (Structure word (members_listed members)) none))
    (built (inner (measured_structure members here)))

pub choice_built : (ms : List ModuleTerm) (m most : ℕ) (whole : TypeTerm) (word : Token) (members : List OneMember)
    (limits : List LimitTerm) (parts : TypeParts) → whole ≡ Alternatives word (members_listed members) limits →
    (AreMeasured ms m members most → MembersDenote ms m (members_listed members) parts) →
    IsMeasured ms m whole (most + 1) → Denotes ms m whole (Choice parts)
choice_built ms m most whole word members limits parts is inner measured =
    let here = subst (λ t. IsMeasured ms m t (most + 1)) is measured in
    let none = no_choice_limits limits here.faultless here.stands in
    subst (λ t. Denotes ms m t (Choice parts)) (sym (is ∙ ap (Alternatives word (members_listed members)) none))
    (choice (inner (measured_alternatives members here)))

pub tag_built : (ms : List ModuleTerm) (m most : ℕ) (whole : TypeTerm) (text : TagTerm) (mode : Option Token)
    (of : TypeTerm) (inner left : TypeSyntax) → whole ≡ Under text mode of →
    (IsMeasured ms m of most → Denotes ms m of inner) →
    ((t : TypeTerm) → Denotes ms m t inner → ¬ ((own : Tag) → ¬ IsTag ms m text own) →
    Denotes ms m (Under text mode t) left) → IsMeasured ms m whole (most + 1) → Denotes ms m whole left
tag_built ms m most whole text mode of inner left is denoted under measured =
    let here = subst (λ t. IsMeasured ms m t (most + 1)) is measured in
    subst (λ t. Denotes ms m t left) (sym is)
    (under of (denoted (measured_tagged here)) (says_tag here.faultless here.stands))

-- ---- types that hold no other

takes_plain : {ms : List ModuleTerm} {document m : ℕ} {word : Token} {of : PlainTerm} {limits : List LimitTerm}
    (syntax : TypeSyntax) → AreFaultless ms → Stands ms document m (Plain word of limits) →
    PlainDenotes ms m word of syntax → TakesLimits ms m (Plain word of limits) limits syntax
takes_plain syntax sound stands denotes = record {
  said = λ limit there. bounds_say limit sound stands (limit_of_plain there);
  placed = λ limit there. denoted_place (plain denotes no_more) (itself refl) limit
      (faultless_place sound stands (limit_of_plain there) (itself refl));
}

plain_by : (ms : List ModuleTerm) (m most : ℕ) (word : Token) (of : PlainTerm) (limits : List LimitTerm)
    (syntax left : TypeSyntax) → (SaysPlain ms m word of → PlainDenotes ms m word of syntax) →
    (TakesLimits ms m (Plain word of limits) limits syntax →
    Constrains ms m (Plain word of limits) limits syntax left) →
    IsMeasured ms m (Plain word of limits) most → Denotes ms m (Plain word of limits) left
plain_by ms m most word of limits syntax left denoted narrows measured =
    let denotes = denoted (plain_says of measured.faultless measured.stands) in
    plain denotes (narrows (takes_plain syntax measured.faultless measured.stands denotes))

abbrev Built : List ModuleTerm → ℕ → ℕ → TypeTerm → List LimitTerm → TypeSyntax → TypeSyntax → Type 0
Built ms m most whole limits syntax left = PlainIsDenoted ms m whole syntax →
    (TakesLimits ms m whole limits syntax → Constrains ms m whole limits syntax left) → IsNoName whole →
    IsMeasured ms m whole most → Denotes ms m whole left

plain_text_built : (ms : List ModuleTerm) (m most : ℕ) (p : PlainType) (limits : List LimitTerm)
    (syntax left : TypeSyntax) → Built ms m most (plain_term p limits) limits syntax left
plain_text_built ms m most (text.Simple word) limits syntax left d n bare = plain_by ms m most word OneWord limits
    syntax left d n
plain_text_built ms m most (text.Integer x) limits syntax left d n bare = plain_by ms m most x.word _ limits syntax
    left d n
plain_text_built ms m most (text.Enumerated x) limits syntax left d n bare = plain_by ms m most x.word _ limits syntax
    left d n
plain_text_built ms m most (text.BitString x) limits syntax left d n bare = plain_by ms m most x.word _ limits syntax
    left d n
plain_text_built ms m most (text.OctetString word) limits syntax left d n bare =
    plain_by ms m most word OctetStringTerm limits syntax left d n
plain_text_built ms m most (text.ObjectIdentifier word) limits syntax left d n bare =
    plain_by ms m most word IdentifierTerm limits syntax left d n
plain_text_built ms m most (text.Any x) limits syntax left d n bare = plain_by ms m most x.word AnyTerm limits syntax
    left d n
plain_text_built ms m most (text.Named x) limits syntax left d n bare =
    absurd (subst IsNoName (named_is x limits) bare)

pub plain_built : (ms : List ModuleTerm) (m most : ℕ) (whole : TypeTerm) (p : PlainType) (limits : List LimitTerm)
    (syntax left : TypeSyntax) → whole ≡ plain_term p limits → PlainIsDenoted ms m (plain_term p limits) syntax →
    (TakesLimits ms m whole limits syntax → Constrains ms m whole limits syntax left) → IsNoName whole →
    IsMeasured ms m whole most → Denotes ms m whole left
plain_built ms m most whole p limits syntax left is denoted narrows no_name measured =
    subst (λ t. Denotes ms m t left) (sym is) (plain_text_built ms m most p limits syntax left denoted
    (subst (λ t. TakesLimits ms m t limits syntax → Constrains ms m t limits syntax left) is narrows)
    (subst IsNoName is no_name) (subst (λ t. IsMeasured ms m t most) is measured))

-- ---- a type and its names

pub end_measured : {ms : List ModuleTerm} {m v most : ℕ} {of end : TypeTerm} {path : List Passed} →
    LeadsBy ms m of path v end → IsMeasured ms m of most → IsMeasured ms v end most
end_measured leads whole =
    let stands = end_stands whole.document whole.stands leads in record {
      faultless = whole.faultless;
      document = stands.0;
      stands = stands.1;
      nodes = whole.nodes;
      has = passed_nodes whole.faultless (passes_by leads) whole.has;
      within = whole.within;
      few = whole.few;
    }

has_node : {ms : List ModuleTerm} {m n : ℕ} {of : TypeTerm} → IsNoName of → HasNodes ms m of n → 1 ≤ n
has_node no_name (nodes_tagged h) = omega arith
has_node no_name (nodes_structure h) = omega arith
has_node no_name (nodes_repeated h) = omega arith
has_node no_name (nodes_alternatives h) = omega arith
has_node no_name nodes_plain = omega arith
has_node no_name (nodes_named e unless h) = absurd no_name
has_node no_name (nodes_cyclic e cyclic) = absurd no_name
has_node no_name (nodes_standard e is) = absurd no_name
has_node no_name (nodes_unknown none) = absurd no_name

-- a type that is none, or leads to one that is none, has a node
pub no_depth : {ms : List ModuleTerm} {m most : ℕ} {of : TypeTerm} (followed : Followed) → LeadsToType ms m of
    followed →
    most ≡ 0 → IsMeasured ms m of most → ⊥
no_depth followed to none measured =
    let end = end_measured to.leads measured in
    let one = has_node to.no_name end.has in omega (arith, one, end.within, none)

pub depth_left : (ms : List ModuleTerm) (m : ℕ) (of : TypeTerm) (most less : ℕ) → less + 1 ≡ most →
    IsMeasured ms m of most → IsMeasured ms m of (less + 1)
depth_left ms m of most less is measured = subst (λ n. IsMeasured ms m of n) (sym is) measured
