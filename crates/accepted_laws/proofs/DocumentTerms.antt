-- DocumentTerms: what documents say is determined by their octets. Their tokens are, the trees of their units are, and
-- so is what their parts say (X.722, section 8.2; X.680, section 12; docs/PROFILE.md, sections 1 and 2).
use Rattle.std.specs.Global.{Vec}
use Rattle.std.specs.Prelude.{flat_map}
use Rattle.std.proofs.Common.{◌≡◌, ℕ, ◌+◌, List, [], ◌∷◌, ◌++◌, refl, sym, ◌∙◌, ap, map, subst}
use Rattle.std.proofs.lemmas.Grind.{flat_map-append}
use Rattle.std.proofs.lemmas.List.{map-append}
use Rattle.token_grammar.specs.PartLaws.{ListsAgree}
use Rattle.token_grammar.specs.declared.token.Token.{Token}
use Rattle.text_lex.proofs.Once.{tokens_once}
use Rattle.asn1_syntax.specs.declared.module.Module.{Module}
use Rattle.asn1_names.specs.TermViews.{module_term, module_terms}
use Rattle.document_units.specs.declared.unit.DocumentUnit.{DocumentUnit}
use Rattle.document_units.specs.DocumentForms.{AreUnits, SpellsUnits}
use Rattle.document_units.specs.UnitOutcome.{unit_term}
use Rattle.gdmo_names.specs.declared.parsed.Parsed.{Parsed}
use Rattle.gdmo_names.specs.PartTerms.{module_terms_of}
use Rattle.gdmo_names.specs.PartViews.{class_placed, member_placed, module_part, part_terms, section_instances}
use Rattle.gdmo_names.specs.PartViews.{section_rules}
use Rattle.document_parts.specs.declared.documents.Doc.{Doc}
use Rattle.document_parts.specs.DocumentParts.{AreParts, classes_in, in_documents, members_in, modules_in, sections_in}
use Rattle.document_parts.specs.ReadDocuments.{AreLexed, AreRead}
use Rattle.document_parts.specs.ReadDocuments.AreLexed.{no_document as lexed_end, document as lexed_document}
use Rattle.document_parts.specs.ReadDocuments.AreRead.{no_document as read_end, document as read_document}
use Rattle.accepted_laws.proofs.ListTerms.{SayOne}
use Rattle.accepted_laws.proofs.UnitTerms.{UnitsAgree, class_units_say, instance_units_say, member_units_say}
use Rattle.accepted_laws.proofs.UnitTerms.{module_units_say, rule_units_say, unit_lists_agree}

-- ---- the units of documents agree

one_row : {tokens others : List Token} (us vs : List DocumentUnit) → tokens ≡ others →
    AreUnits tokens (map unit_term us) → AreUnits others (map unit_term vs) → ListsAgree UnitsAgree us vs
one_row us vs same read again = unit_lists_agree us vs (sym (read.only (map unit_term vs)
    (subst (λ tokens. SpellsUnits tokens 0 (map unit_term vs)) (sym same) again.spelt)))

pub units_determined : {docs : List Doc} {lists others : List (Vec Token)} {units further : List (List DocumentUnit)} →
    AreLexed docs lists → AreRead lists units → AreLexed docs others → AreRead others further →
    ListsAgree (ListsAgree UnitsAgree) units further
units_determined lexed_end read_end lexed_end read_end = tt
units_determined (lexed_document {tokens = tokens} lexed lists) (read_document {us = us} read units)
    (lexed_document {tokens = its_tokens} too others) (read_document {us = vs} again further) = (
      one_row us vs (tokens_once _ [] 0 tokens.items its_tokens.items lexed too) read again,
      units_determined lists units others further,
    )

-- ---- what they say

-- what the parts of documents say, those of one document behind those of another
record Joins {X Y : Type 0} (view : List X → List Y) : Type 0 where
  empty : view [] ≡ []
  append : (xs ys : List X) → view (xs ++ ys) ≡ view xs ++ view ys

mapped : {X Y : Type 0} (view : X → Y) → Joins (map view)
mapped view = record { empty = refl; append = map-append view }

flat_mapped : {X Y : Type 0} (view : X → List Y) → Joins (flat_map view)
flat_mapped view = record { empty = refl; append = flat_map-append view }

row_says : {X Y : Type 0} (kind : DocumentUnit → List X) (view : List X → List Y) → Joins view →
    SayOne UnitsAgree (λ x. view (kind x)) → (us vs : List DocumentUnit) →
    ListsAgree UnitsAgree us vs → view (flat_map kind us) ≡ view (flat_map kind vs)
row_says kind view joins same [] [] a = refl
row_says kind view joins same [] (v ∷ vs) a = absurd a
row_says kind view joins same (u ∷ us) [] a = absurd a
row_says kind view joins same (u ∷ us) (v ∷ vs) a =
    let first = same u v a.0 in
    let others = row_says kind view joins same us vs a.1 in
    joins.append (kind u) (flat_map kind us) ∙ (λ i. first i ++ others i)
    ∙ sym (joins.append (kind v) (flat_map kind vs))

documents_say : {X Y : Type 0} (kind : ℕ → DocumentUnit → List X) (view : List X → List Y) → Joins view →
    ((n : ℕ) → SayOne UnitsAgree (λ x. view (kind n x))) → (n : ℕ)
    (units further : List (List DocumentUnit)) → ListsAgree (ListsAgree UnitsAgree) units further →
    view (in_documents kind n units) ≡ view (in_documents kind n further)
documents_say kind view joins same n [] [] a = refl
documents_say kind view joins same n [] (vs ∷ further) a = absurd a
documents_say kind view joins same n (us ∷ units) [] a = absurd a
documents_say kind view joins same n (us ∷ units) (vs ∷ further) a =
    let first = row_says (kind n) view joins (same n) us vs a.0 in
    let others = documents_say kind view joins same (n + 1) units further a.1 in
    joins.append (flat_map (kind n) us) (in_documents kind (n + 1) units) ∙ (λ i. first i ++ others i)
    ∙ sym (joins.append (flat_map (kind n) vs) (in_documents kind (n + 1) further))

-- parts of documents whose units agree
of_kind : {X Y : Type 0} (kind : ℕ → DocumentUnit → List X) (view : List X → List Y) → Joins view →
    ((n : ℕ) → SayOne UnitsAgree (λ x. view (kind n x))) →
    (units further : List (List DocumentUnit)) → ListsAgree (ListsAgree UnitsAgree) units further →
    (xs ys : List X) → xs ≡ in_documents kind 1 units → ys ≡ in_documents kind 1 further → view xs ≡ view ys
of_kind kind view joins same units further a xs ys gathered again =
    ap view gathered ∙ documents_say kind view joins same 1 units further a ∙ sym (ap view again)

-- documents say one set of parts
pub terms_determined : {docs : List Doc} {lists others : List (Vec Token)} {units further : List (List DocumentUnit)}
    {parts same : Parsed} → AreLexed docs lists → AreRead lists units → AreParts units parts → AreLexed docs others →
    AreRead others further → AreParts further same → part_terms parts ≡ part_terms same
terms_determined {units = units} {further = further} {parts = parts} {same = same} lexed read gathered too again
    other =
    let agree = units_determined lexed read too again in
    let modules = of_kind modules_in (map module_part) (mapped module_part) module_units_say units further agree
    parts.modules.items same.modules.items gathered.modules other.modules in
    let classes = of_kind classes_in (map class_placed) (mapped class_placed) class_units_say units further agree
    parts.classes.items same.classes.items gathered.classes other.classes in
    let members = of_kind members_in (map member_placed) (mapped member_placed) member_units_say units further agree
    parts.members.items same.members.items gathered.members other.members in
    let rules = of_kind sections_in (flat_map section_rules) (flat_mapped section_rules) rule_units_say units further
    agree parts.sections.items same.sections.items gathered.sections other.sections in
    let instances = of_kind sections_in (flat_map section_instances) (flat_mapped section_instances) instance_units_say
    units further agree parts.sections.items same.sections.items gathered.sections other.sections in
    λ i. record {
      modules = modules i;
      outermost = classes i ++ members i;
      rules = rules i;
      instances = instances i;
    }

-- and so one row of modules
texts_of : (xs : List Module) → map (λ x. x.text) (map module_part xs) ≡ module_terms xs
texts_of [] = refl
texts_of (x ∷ xs) = let others = texts_of xs in λ i. module_term x ∷ others i

pub modules_of_terms : (parts same : Parsed) → part_terms parts ≡ part_terms same →
    module_terms parts.modules.items ≡ module_terms same.modules.items
modules_of_terms parts same e =
    sym (texts_of parts.modules.items) ∙ ap module_terms_of e ∙ texts_of same.modules.items
