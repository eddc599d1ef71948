-- TextLaws: what modules say as terms, and what the text of a value says as an object identifier, told from its tree.
use Rattle.std.proofs.Common.{◌≡◌, ◌∙◌, ℕ, List, [], ◌∷◌, ◌++◌, Option, None, Some, refl, sym, ap}
use Rattle.std.proofs.Common.{arith, map}
use Rattle.std.specs.Prelude.{is_none, slice_get, if◌then◌else◌}
use Rattle.std.proofs.Math.Path.{subst}
use Rattle.token_grammar.specs.declared.object_identifier.Arc.{Arc}
use Rattle.token_grammar.specs.declared.object_identifier.Arc.TheVariants.{Number as ArcDigits, Named as NamedArc}
use Rattle.token_grammar.specs.declared.token.Token.{Token}
use Rattle.token_grammar.specs.Form.{Tree, Bare, Leaf, Pair, First, Second, Absent, Empty, After, Numbered}
use Rattle.token_grammar.specs.Parts.{arc_tree, list_tree, optional_tree}
use Rattle.asn1_values_syntax.specs.declared.arcs.SureArcs.{SureArcs}
use Rattle.asn1_values_syntax.specs.declared.arcs.SureArcs.TheVariants.{Number as SureNumber, Named as SureNamed}
use Rattle.asn1_values_syntax.specs.declared.value.BracesText.{BracesText, Row_of-ValuePart, end_of-ValuePart}
use Rattle.asn1_values_syntax.specs.declared.value.BracesText.{more_of-ValuePart}
use Rattle.asn1_values_syntax.specs.declared.value.BracesText.TheVariants.{Nothing, Parts', Arcs, NamedArcs}
use Rattle.asn1_values_syntax.specs.declared.value.NamedValue.TheVariants.{Name, Choice'}
use Rattle.asn1_values_syntax.specs.declared.value.ValuePart.{ValuePart}
use Rattle.asn1_values_syntax.specs.declared.value.ValuePart.TheVariants.{Named as NamedPart, Unnamed}
use Rattle.asn1_values_syntax.specs.declared.value.ValueText.{ValueText}
use Rattle.asn1_values_syntax.specs.declared.value.ValueText.TheVariants.{Literal, Number, Named as NamedText, Braces}
use Rattle.asn1_values_syntax.specs.NumberTrees.{arcs_end_tree}
use Rattle.asn1_values_syntax.specs.ValueTrees.{content_tree, part_tree, row_tree, value_tree}
use Rattle.asn1_syntax.specs.declared.module.Assigned.{Assigned}
use Rattle.asn1_syntax.specs.declared.module.Assigned.TheVariants.{OfType, OfValue}
use Rattle.asn1_syntax.specs.declared.module.Module.{Module}
use Rattle.asn1_names.specs.AssignmentNumbers.{Numbered as NumberedAt, numbered_at}
use Rattle.asn1_names.specs.ModuleTerms.{AssignedTerm, ModuleTerm}
use Rattle.asn1_names.specs.ModuleTerms.AssignedTerm.{AssignsType, AssignsValue}
use Rattle.asn1_names.specs.TermViews.{assigned_term, assignment_term, module_term, module_terms}
use Rattle.asn1_numbers.proofs.HeldLaws.{get_map, get_mapped}
use Rattle.asn1_numbers.proofs.StandingLaws.{stands_at}
use Rattle.gdmo_first_names.specs.ReadModules.{HasModules}
use Rattle.gdmo_names.specs.ArcViews.{braces_arcs, of_name, of_numbers, part_arcs}
use Rattle.gdmo_names.specs.ArcViews.{row_arcs, sure_numbers, value_arcs}
use Rattle.gdmo_names.specs.MemberViews.{arc_number}
use Rattle.gdmo_names.specs.PartTerms.{ModulePart, PartTerms, arcs_at, arcs_in, module_terms_of}
use Rattle.gdmo_names.specs.PartViews.{assigned_arcs, module_part}
use Rattle.gdmo_names.specs.TemplateTerms.{IdentifierTerm}

-- ---- modules

terms_of : (modules : List Module) → map (λ x. x.text) (map module_part modules) ≡ module_terms modules
terms_of [] = refl
terms_of (x ∷ xs) = ap (λ ys. module_term x ∷ ys) (terms_of xs)

pub read_terms : (parts : PartTerms) (modules : List Module) → HasModules parts modules →
    module_terms_of parts ≡ module_terms modules
read_terms parts modules is = ap (map (λ (x : ModulePart). x.text)) is ∙ terms_of modules

-- ---- arcs

abbrev arc_tokens : Tree → List Token
arc_tokens (First (Leaf number)) = number ∷ []
arc_tokens (Second (Pair (Leaf name) (Pair Bare (Pair (Leaf number) Bare)))) = number ∷ []
arc_tokens _ = []

abbrev row_tokens : Tree → List Token → List Token
row_tokens (After before part) behind = row_tokens before (arc_tokens part ++ behind)
row_tokens _ behind = behind

abbrev sure_tokens : Tree → List Token
sure_tokens (Pair (First (Pair (Leaf first) (Pair second others))) Bare) =
    first ∷ (arc_tokens second ++ row_tokens others [])
sure_tokens (Pair (Second (Pair (Pair (Leaf name) (Pair Bare (Pair (Leaf number) Bare))) others)) Bare) =
    number ∷ row_tokens others []
sure_tokens _ = []

arc_is : (x : Arc) (behind : List Token) → arc_tokens (arc_tree x) ++ behind ≡ arc_number x ∷ behind
arc_is (ArcDigits number) behind = refl
arc_is (NamedArc name number) behind = refl

row_is : (before : Tree) (xs : List Arc) (behind : List Token) →
    row_tokens (list_tree arc_tree before xs) behind ≡ row_tokens before (map arc_number xs ++ behind)
row_is before [] behind = refl
row_is before (x ∷ xs) behind = row_is (After before (arc_tree x)) xs behind ∙
    ap (row_tokens before) (arc_is x (map arc_number xs ++ behind))

append_nil : (xs : List Token) → xs ++ [] ≡ xs
append_nil [] = refl
append_nil (x ∷ xs) = ap (λ ys. x ∷ ys) (append_nil xs)

sure_is : (x : SureArcs) → sure_tokens (arcs_end_tree x) ≡ sure_numbers x
sure_is (SureNumber first second others) = ap (λ xs. first ∷ xs) (arc_is second _ ∙
    ap (λ xs. arc_number second ∷ xs) (row_is Empty others.items [] ∙ append_nil (map arc_number others.items)))
sure_is (SureNamed first others) =
    ap (λ xs. first.number ∷ xs) (row_is Empty others.items [] ∙ append_nil (map arc_number others.items))

-- ---- braces

abbrev part_in : Token → Tree → Option IdentifierTerm
part_in brace (First (Pair (Leaf name) (Numbered n (Second (First (Pair Absent (Leaf number))))))) =
    of_name brace name (number ∷ [])
part_in brace (Second (Numbered n (Second (First (Pair Absent (Leaf number)))))) = of_numbers brace (number ∷ [])
part_in brace (Second (Numbered n (Second (Second (First (Pair (Leaf name) Absent)))))) = of_name brace name []
part_in brace _ = None

abbrev content_in : Token → Tree → Option IdentifierTerm
content_in brace (Second (First (Pair (After Empty part) Bare))) = part_in brace part
content_in brace (Second (Second (First sure))) = of_numbers brace (sure_tokens sure)
content_in brace (Second (Second (Second (Pair (Leaf first) sure)))) = of_name brace first (sure_tokens sure)
content_in brace _ = None

-- what the text of a value says as an object identifier
abbrev pub tree_arcs : Tree → Option IdentifierTerm
tree_arcs (Numbered n (Second (Second (Second (Pair (Leaf brace) content))))) = content_in brace content
tree_arcs _ = None

number_part : (brace minus : Token) (stated : Option Token) (number : Token) →
    part_in brace (Second (Numbered 0 (Second (First (Pair (optional_tree Leaf stated) (Leaf number)))))) ≡
    (if is_none stated then of_numbers brace (number ∷ []) else None)
number_part brace minus None number = refl
number_part brace minus (Some sign) number = refl

named_part : (brace name : Token) (stated : Option Token) (number : Token) →
    part_in brace (First (Pair (Leaf name) (Numbered 0 (Second (First (Pair (optional_tree Leaf stated)
    (Leaf number))))))) ≡ (if is_none stated then of_name brace name (number ∷ []) else None)
named_part brace name None number = refl
named_part brace name (Some sign) number = refl

part_is : (brace : Token) (part : ValuePart) → part_in brace (part_tree part) ≡ part_arcs brace part
part_is brace (Unnamed (Literal literal)) = refl
part_is brace (Unnamed (Number number)) = number_part brace brace number.minus number.number
part_is brace (Unnamed (NamedText (Name name))) = refl
part_is brace (Unnamed (NamedText (Choice' name place value))) = refl
part_is brace (Unnamed (Braces inner content)) = refl
part_is brace (NamedPart name (Literal literal)) = refl
part_is brace (NamedPart name (Number number)) = named_part brace name number.minus number.number
part_is brace (NamedPart name (NamedText (Name other))) = refl
part_is brace (NamedPart name (NamedText (Choice' other place value))) = refl
part_is brace (NamedPart name (Braces inner content)) = refl

several : {n : _} (brace : Token) (before one other : Tree) (row : Row_of-ValuePart n) →
    content_in brace (Second (First (Pair (row_tree (After (After before one) other) row) Bare))) ≡ None
several brace before one other end_of-ValuePart = refl
several brace before one other (more_of-ValuePart part others) =
    several brace (After before one) other (part_tree part) others

row_said : {n : _} (brace : Token) (row : Row_of-ValuePart n) →
    content_in brace (Second (First (Pair (row_tree Empty row) Bare))) ≡ row_arcs brace row
row_said brace end_of-ValuePart = refl
row_said brace (more_of-ValuePart part end_of-ValuePart) = part_is brace part
row_said brace (more_of-ValuePart part (more_of-ValuePart other others)) =
    several brace Empty (part_tree part) (part_tree other) others

content_is : (brace : Token) (content : BracesText) → content_in brace (content_tree content) ≡ braces_arcs brace content
content_is brace Nothing = refl
content_is brace (Parts' shape row) = row_said brace row
content_is brace (Arcs arcs) = ap (of_numbers brace) (sure_is arcs.value)
content_is brace (NamedArcs first others) = ap (of_name brace first) (sure_is others.value)

pub value_said : (value : ValueText) → tree_arcs (value_tree value) ≡ value_arcs value
value_said (Literal literal) = refl
value_said (Number number) = refl
value_said (NamedText (Name name)) = refl
value_said (NamedText (Choice' name place value)) = refl
value_said (Braces brace content) = content_is brace content

-- ---- assignments

abbrev pub term_arcs : AssignedTerm → Option IdentifierTerm
term_arcs (AssignsType of) = None
term_arcs (AssignsValue of number text) = tree_arcs text

pub assigned_said : (x : Assigned) → term_arcs (assigned_term x) ≡ assigned_arcs x
assigned_said (OfType of) = refl
assigned_said (OfValue of value) = value_said value

-- what the assignment with a number says as an object identifier
pub arcs_there : (parts : PartTerms) (modules : List Module) (k : ℕ) (x : NumberedAt) → HasModules parts modules →
    numbered_at (module_terms_of parts) k ≡ Some x →
    arcs_at parts x.in_module x.place ≡ Some (term_arcs x.assignment.assigned)
unfolding arcs_at
arcs_there parts modules k x has at =
    let ms = module_terms modules in
    let s = stands_at ms k x (subst (λ ts. numbered_at ts k ≡ Some x) (read_terms parts modules has) at) in
    let d : s.d ≡ x.in_module = (let m = s.module_is in omega (arith, m)) in
    let own = get_mapped module_term modules s.d s.home s.home_at in
    let part : slice_get parts.modules x.in_module ≡ Some (module_part own.0) =
    ap (slice_get parts.modules) (sym d) ∙ ap (λ ys. slice_get ys s.d) has ∙
    get_map module_part modules s.d own.0 own.1 in
    let one = get_mapped assignment_term own.0.assignments.items x.place x.assignment
    (ap (λ (y : ModuleTerm). slice_get y.assignments x.place) own.2 ∙ s.stands) in
    ap (λ p. arcs_in p x.place) part ∙
    get_map (λ y. assigned_arcs y.assigned) own.0.assignments.items x.place one.0 one.1 ∙
    ap Some (sym (assigned_said one.0.assigned) ∙ ap (λ y. term_arcs y.assigned) one.2)
