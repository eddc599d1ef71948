-- DocumentBraces: of the templates of all documents that were read at most one is registered at a place of a document.
use Rattle.std.proofs.Common.{◌≡◌, ◌≢◌, ℕ, ◌+◌, ◌<◌, ◌≤◌, Bool, true, false, List, [], ◌∷◌, ◌++◌, Some, refl, sym, ◌∙◌}
use Rattle.std.proofs.Common.{ap}
use Rattle.std.proofs.Common.{arith, ⊎_elim, ◌==◌, map}
use Rattle.std.specs.Prelude.{All, AllPairs, flat_map}
use Rattle.std.specs.Global.{Vec}
use Rattle.std.proofs.lemmas.Bool.{ne_eqb, cases_eq, eq-eqb}
use Rattle.std.proofs.lemmas.Grind.{flat_map-append}
use Rattle.std.proofs.lemmas.List.{map-append}
use Rattle.std.proofs.lemmas.List.Elements.{All-cons, All-nil}
use Rattle.std.proofs.lemmas.List.Kept.{AllPairs-cons}
use Rattle.token_grammar.specs.declared.token.Token.{Token}
use Rattle.gdmo_classes.specs.declared.template.ClassTemplate.{ClassTemplate}
use Rattle.gdmo_members.specs.declared.member.MemberTemplate.{MemberTemplate}
use Rattle.gdmo_names.specs.declared.parsed.Parsed.{Parsed}
use Rattle.gdmo_names.specs.DocumentTemplates.{in_template, placed_templates, templates}
use Rattle.gdmo_names.specs.PartTerms.{Placed, identifier_of}
use Rattle.gdmo_names.specs.PartViews.{class_placed, member_placed, part_terms}
use Rattle.gdmo_names.specs.TemplateTerms.{IdentifierTerm, TemplateTerm}
use Rattle.document_units.specs.UnitOutcome.{unit_term}
use Rattle.document_units.specs.declared.unit.DocumentUnit.{DocumentUnit}
use Rattle.document_units.specs.declared.unit.DocumentUnit.TheVariants as units
use Rattle.document_parts.specs.declared.documents.Doc.{Doc}
use Rattle.document_parts.specs.DocumentParts.{AreParts, classes_in, in_documents, members_in, numbered_class}
use Rattle.document_parts.specs.DocumentParts.{numbered_member}
use Rattle.document_parts.specs.ReadDocuments.{AreLexed, AreRead}
use Rattle.document_parts.specs.ReadDocuments.AreLexed.{no_document as lexed_end, document as lexed_document}
use Rattle.document_parts.specs.ReadDocuments.AreRead.{no_document as read_end, document as read_document}
use Rattle.placing_laws.proofs.DocumentLabels.{class_list, class_numbered, in_number, member_list, member_numbered}
use Rattle.registered_laws.proofs.ClassBraces.{class_level_below}
use Rattle.registered_laws.proofs.MemberBraces.{member_below}
use Rattle.placing_laws.proofs.PlaceCounts.{one_here}
use Rattle.registered_laws.proofs.TemplateBraces.{brace_at, braces}
use Rattle.registered_laws.specs.RegisteredApart.{AreRegisteredApart, AreTwoRegistered}
use Rattle.placing_laws.proofs.UnitCounts.{all_leaves, at_most_one}

-- a number where a test is passed
counted_if : Bool → ℕ → ℕ
counted_if true n = n
counted_if false n = 0

one_placed : ℕ → ℕ → Placed → ℕ
one_placed d p x = counted_if (x.document == d) (brace_at p (identifier_of x.template))

-- how many of templates are registered at the place p of the document with the number d
abbrev placed : ℕ → ℕ → List Placed → ℕ
placed d p [] = 0
placed d p (x ∷ xs) = one_placed d p x + placed d p xs

placed_append : (d p : ℕ) (xs ys : List Placed) → placed d p (xs ++ ys) ≡ placed d p xs + placed d p ys
placed_append d p [] ys = omega arith
placed_append d p (x ∷ xs) ys = let more = placed_append d p xs ys in omega arith

in_document : (d p : ℕ) (x : Placed) → x.document ≡ d → one_placed d p x ≡ brace_at p (identifier_of x.template)
unfolding one_placed counted_if
in_document d p x same = ap (λ b. counted_if b (brace_at p (identifier_of x.template))) (eq-eqb x.document d same)

in_another : (d p : ℕ) (x : Placed) → x.document ≢ d → one_placed d p x ≡ 0
unfolding one_placed counted_if
in_another d p x other = ap (λ b. counted_if b (brace_at p (identifier_of x.template))) (ne_eqb x.document d other)

-- ---- the templates of one template

all_there : (d p n : ℕ) (xs : List TemplateTerm) → n ≡ d → placed d p (map (in_number n) xs) ≡ braces p xs
all_there d p n [] same = refl
all_there d p n (x ∷ xs) same =
    let one = in_document d p (in_number n x) same in
    let rest = all_there d p n xs same in
    omega arith

none_there : (d p n : ℕ) (xs : List TemplateTerm) → n ≢ d → placed d p (map (in_number n) xs) ≡ 0
none_there d p n [] other = refl
none_there d p n (x ∷ xs) other =
    let one = in_another d p (in_number n x) other in
    let rest = none_there d p n xs other in
    omega arith

-- ---- the templates of one document

class_there : (d p n : ℕ) (x : ClassTemplate) (xs : List ClassTemplate) → n ≡ d →
    placed d p (class_list (numbered_class n x ∷ xs)) ≡ braces p (in_template (class_placed x).template) +
    placed d p (class_list xs)
class_there d p n x xs same =
    let e = ap (λ y. placed d p (placed_templates y)) (class_numbered n x) in
    let one = all_there d p n (in_template (class_placed x).template) same in
    let all = placed_append d p (placed_templates (class_placed (numbered_class n x))) (class_list xs) in
    omega arith

class_elsewhere : (d p n : ℕ) (x : ClassTemplate) (xs : List ClassTemplate) → n ≢ d →
    placed d p (class_list (numbered_class n x ∷ xs)) ≡ placed d p (class_list xs)
class_elsewhere d p n x xs other =
    let e = ap (λ y. placed d p (placed_templates y)) (class_numbered n x) in
    let one = none_there d p n (in_template (class_placed x).template) other in
    let all = placed_append d p (placed_templates (class_placed (numbered_class n x))) (class_list xs) in
    omega arith

member_there : (d p n : ℕ) (x : MemberTemplate) (xs : List MemberTemplate) → n ≡ d →
    placed d p (member_list (numbered_member n x ∷ xs)) ≡ braces p (in_template (member_placed x).template) +
    placed d p (member_list xs)
member_there d p n x xs same =
    let e = ap (λ y. placed d p (placed_templates y)) (member_numbered n x) in
    let one = all_there d p n (in_template (member_placed x).template) same in
    let all = placed_append d p (placed_templates (member_placed (numbered_member n x))) (member_list xs) in
    omega arith

member_elsewhere : (d p n : ℕ) (x : MemberTemplate) (xs : List MemberTemplate) → n ≢ d →
    placed d p (member_list (numbered_member n x ∷ xs)) ≡ placed d p (member_list xs)
member_elsewhere d p n x xs other =
    let e = ap (λ y. placed d p (placed_templates y)) (member_numbered n x) in
    let one = none_there d p n (in_template (member_placed x).template) other in
    let all = placed_append d p (placed_templates (member_placed (numbered_member n x))) (member_list xs) in
    omega arith

-- those of units with the number n
of_units : ℕ → ℕ → ℕ → List DocumentUnit → ℕ
of_units d p n us = placed d p (class_list (flat_map (classes_in n) us))
    + placed d p (member_list (flat_map (members_in n) us))

units_there : (d p n : ℕ) (us : List DocumentUnit) → n ≡ d → of_units d p n us ≤ all_leaves p (map unit_term us)
unfolding of_units
units_there d p n [] same = omega arith
units_there d p n (units.Class x ∷ us) same =
    let one = class_there d p n x (flat_map (classes_in n) us) same in
    let fits = (class_level_below p x).fits in
    let rest = units_there d p n us same in
    omega arith
units_there d p n (units.Member x ∷ us) same =
    let one = member_there d p n x (flat_map (members_in n) us) same in
    let fits = (member_below p x).fits in
    let rest = units_there d p n us same in
    omega arith
units_there d p n (units.Module x ∷ us) same = let rest = units_there d p n us same in omega arith
units_there d p n (units.Section x ∷ us) same = let rest = units_there d p n us same in omega arith

units_elsewhere : (d p n : ℕ) (us : List DocumentUnit) → n ≢ d → of_units d p n us ≡ 0
unfolding of_units
units_elsewhere d p n [] other = refl
units_elsewhere d p n (units.Class x ∷ us) other =
    let one = class_elsewhere d p n x (flat_map (classes_in n) us) other in
    let rest = units_elsewhere d p n us other in
    omega arith
units_elsewhere d p n (units.Member x ∷ us) other =
    let one = member_elsewhere d p n x (flat_map (members_in n) us) other in
    let rest = units_elsewhere d p n us other in
    omega arith
units_elsewhere d p n (units.Module x ∷ us) other = units_elsewhere d p n us other
units_elsewhere d p n (units.Section x ∷ us) other = units_elsewhere d p n us other

-- ---- all documents

-- those of documents, of which the first has the number n
of_documents : ℕ → ℕ → ℕ → List (List DocumentUnit) → ℕ
of_documents d p n all = placed d p (class_list (in_documents classes_in n all))
    + placed d p (member_list (in_documents members_in n all))

one_document : (d p n : ℕ) (us : List DocumentUnit) (all : List (List DocumentUnit)) →
    of_documents d p n (us ∷ all) ≡ of_units d p n us + of_documents d p (n + 1) all
unfolding of_documents of_units
one_document d p n us all =
    let classes = flat_map (classes_in n) us in
    let members = flat_map (members_in n) us in
    let further = in_documents classes_in (n + 1) all in
    let others = in_documents members_in (n + 1) all in
    let c = ap (placed d p) (ap (flat_map placed_templates) (map-append class_placed classes further)
    ∙ flat_map-append placed_templates (map class_placed classes) (map class_placed further)) in
    let m = ap (placed d p) (ap (flat_map placed_templates) (map-append member_placed members others)
    ∙ flat_map-append placed_templates (map member_placed members) (map member_placed others)) in
    let both = placed_append d p (class_list classes) (class_list further) in
    let two = placed_append d p (member_list members) (member_list others) in
    omega arith

record AreFew (d p n : ℕ) (all : List (List DocumentUnit)) : Type 0 where
  most : of_documents d p n all ≤ 1
  none_before : d < n → of_documents d p n all ≡ 0

no_document : (d p n : ℕ) → of_documents d p n [] ≡ 0
unfolding of_documents
no_document d p n = refl

documents_few : (d p n : ℕ) {docs : List Doc} {lists : List (Vec Token)} {all : List (List DocumentUnit)} →
    AreLexed docs lists → AreRead lists all → AreFew d p n all
documents_few d p n lexed_end read_end =
    let e = no_document d p n in record { most = omega arith; none_before = λ less. e }
documents_few d p n (lexed_document lexed lists) (read_document {us = us} {documents = all} read others) =
    let both = one_document d p n us all in
    let rest = documents_few d p (n + 1) lists others in
    ⊎_elim
    (λ same.
    let one = units_there d p n us same in
    let few = at_most_one p lexed read in
    let behind = rest.none_before (omega arith) in
    record { most = omega arith; none_before = λ less. absurd (omega arith) })
    (λ other.
    let one = units_elsewhere d p n us other in
    let behind = rest.most in
    record { most = omega arith; none_before = λ less. let none_there = rest.none_before (omega arith) in omega arith })
    (cases_eq n d)

-- ---- pairs

IsElsewhere : ℕ → ℕ → Placed → Type 0
IsElsewhere d p y =
    (other : IdentifierTerm) → identifier_of y.template ≡ Some other → d ≡ y.document → p ≢ other.brace.at

all_others : (d p : ℕ) (xs : List Placed) → placed d p xs ≡ 0 → All (IsElsewhere d p) xs
unfolding IsElsewhere
all_others d p [] none_there = All-nil (IsElsewhere d p)
all_others d p (x ∷ xs) none_there =
    All-cons (IsElsewhere d p) x xs
    (λ other states same at_place.
    let one = in_document d p x (sym same) in
    let stated = ap (brace_at p) states in
    let here = one_here p other.brace (sym at_place) in
    omega arith)
    (all_others d p xs (omega arith))

first_apart : (x : Placed) (xs : List Placed) → ((d p : ℕ) → placed d p (x ∷ xs) ≤ 1) → All (AreTwoRegistered x) xs
unfolding IsElsewhere
first_apart x xs few n d within one other states also same =
    all_others x.document one.brace.at xs
    (let all = few x.document one.brace.at in
    let one_in = in_document x.document one.brace.at x refl in
    let stated = ap (brace_at one.brace.at) states in
    let here = one_here one.brace.at one.brace refl in
    omega arith) n d within other also same

pairs_apart : (xs : List Placed) → ((d p : ℕ) → placed d p xs ≤ 1) → AllPairs AreTwoRegistered xs
pairs_apart [] few = λ i j d less within. absurd (omega arith)
pairs_apart (x ∷ xs) few = AllPairs-cons AreTwoRegistered x xs (first_apart x xs few)
    (pairs_apart xs (λ d p. let all = few d p in omega arith))

all_templates : (d p : ℕ) (parts : Parsed) (documents : List (List DocumentUnit)) → AreParts documents parts →
    placed d p (templates (part_terms parts)) ≡ of_documents d p 1 documents
unfolding templates of_documents
all_templates d p parts documents gathered =
    let e = ap (placed d p) (flat_map-append placed_templates (map class_placed parts.classes.items)
    (map member_placed parts.members.items)) in
    let both = placed_append d p (class_list parts.classes.items) (member_list parts.members.items) in
    let c = ap (λ xs. placed d p (class_list xs)) gathered.classes in
    let m = ap (λ xs. placed d p (member_list xs)) gathered.members in
    omega arith

pub braces_apart : (docs : List Doc) (lists : List (Vec Token)) (units : List (List DocumentUnit)) (parts : Parsed) →
    AreLexed docs lists → AreRead lists units → AreParts units parts → AreRegisteredApart (part_terms parts)
braces_apart docs lists documents parts lexed read gathered =
    pairs_apart (templates (part_terms parts))
    (λ d p.
    let e = all_templates d p parts documents gathered in
    let few = (documents_few d p 1 lexed read).most in
    omega arith)
