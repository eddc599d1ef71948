-- RoleLaws: what a template names in one role (X.722, sections 8.3 to 8.11).
use Rattle.std.specs.Prelude.{◌≡◌, ℕ, List, [], ◌∷◌, ◌++◌, Bool, true, false, refl, if◌then◌else◌}
use Rattle.std.proofs.Common.{ap, ◌∙◌}
use Rattle.gdmo_linking.specs.InRoles.{is_role, only}
use Rattle.gdmo_linking.specs.LinkedTables.{AreLinked}
use Rattle.gdmo_linking.specs.LinkedTables.AreLinked.{no_more, another}
use Rattle.gdmo_linking.specs.Linkers.{LinksMention}
use Rattle.gdmo_names.specs.InStep.{AreEach}
use Rattle.gdmo_names.specs.Mentions.{Role, Mention, mention, mentions}
use Rattle.gdmo_names.specs.Mentions.{life_mentions, field_mentions}
use Rattle.gdmo_names.specs.Mentions.Role.{FieldAttribute, OfParameter}
use Rattle.gdmo_names.specs.PartTerms.{PartTerms}
use Rattle.gdmo_names.specs.TemplateTerms.{ReferenceTerms}
use Rattle.gdmo_names.specs.TemplateTerms.{LifeTerm, FieldTerms}
use Rattle.gdmo_names.specs.TemplateTerms.ReferenceTerms.{NoReferences, Reference}
use Rattle.gdmo_names.specs.TemplateTerms.LifeTerm.{NoLife, Life}
use Rattle.gdmo_names.specs.TemplateTerms.FieldTerms.{NoFields, Field}

-- ---- lists behind one another

if_append : (b : Bool) (x : Mention) (xs ys : List Mention) →
    (if b then x ∷ (xs ++ ys) else xs ++ ys) ≡ (if b then x ∷ xs else xs) ++ ys
if_append true x xs ys = refl
if_append false x xs ys = refl

pub only_append : (role : Role) (xs ys : List Mention) → only role (xs ++ ys) ≡ only role xs ++ only role ys
only_append role [] ys = refl
only_append role (x ∷ xs) ys =
    ap (λ zs. if is_role role x.role then x ∷ zs else zs) (only_append role xs ys) ∙
    if_append (is_role role x.role) x (only role xs) (only role ys)

-- what is named in the role, or in another one
pub only_one : (role : Role) (x : Mention) → is_role role x.role ≡ true → only role (x ∷ []) ≡ x ∷ []
only_one role x is = ap (λ b. if b then x ∷ [] else []) is

pub only_none : (role : Role) (x : Mention) → is_role role x.role ≡ false → only role (x ∷ []) ≡ []
only_none role x is = ap (λ b. if b then x ∷ [] else []) is

pub only_more : (role : Role) (xs : List Mention) (x : Mention) → is_role role x.role ≡ true →
    only role (xs ++ x ∷ []) ≡ only role xs ++ x ∷ []
only_more role xs x is = only_append role xs (x ∷ []) ∙ ap (λ zs. only role xs ++ zs) (only_one role x is)

append_none : (xs : List Mention) → xs ++ [] ≡ xs
append_none [] = refl
append_none (x ∷ xs) = ap (λ zs. x ∷ zs) (append_none xs)

pub only_less : (role : Role) (xs : List Mention) (x : Mention) → is_role role x.role ≡ false →
    only role (xs ++ x ∷ []) ≡ only role xs
only_less role xs x is = only_append role xs (x ∷ []) ∙ ap (λ zs. only role xs ++ zs) (only_none role x is) ∙
    append_none (only role xs)

pub in_front : (role : Role) (xs ys zs : List Mention) → only role xs ≡ zs → only role ys ≡ [] →
    only role (xs ++ ys) ≡ zs
in_front role xs ys zs one other = only_append role xs ys ∙ ap (λ us. us ++ only role ys) one ∙
    ap (λ us. zs ++ us) other ∙ append_none zs

pub behind : (role : Role) (xs ys zs : List Mention) → only role xs ≡ [] → only role ys ≡ zs →
    only role (xs ++ ys) ≡ zs
behind role xs ys zs one other = only_append role xs ys ∙ ap (λ us. us ++ only role ys) one ∙ other

pub at_none : (role : Role) (xs ys : List Mention) → only role xs ≡ [] → only role ys ≡ [] → only role (xs ++ ys) ≡ []
at_none role xs ys one other = behind role xs ys [] one other

-- ---- the clauses of templates

pub same : (role : Role) (xs : ReferenceTerms) → is_role role role ≡ true →
    only role (mentions role xs) ≡ mentions role xs
same role NoReferences is = refl
same role (Reference x xs) is =
    ap (λ b. if b then mention role x ∷ only role (mentions role xs) else only role (mentions role xs)) is ∙
    ap (λ zs. mention role x ∷ zs) (same role xs is)

pub other : (role its : Role) (xs : ReferenceTerms) → is_role role its ≡ false → only role (mentions its xs) ≡ []
other role its NoReferences is = refl
other role its (Reference x xs) is =
    ap (λ b. if b then mention its x ∷ only role (mentions its xs) else only role (mentions its xs)) is ∙
    other role its xs is

pub other_life : (role : Role) (x : LifeTerm) → is_role role OfParameter ≡ false → only role (life_mentions x) ≡ []
other_life role NoLife is = refl
other_life role (Life words parameters) is = other role OfParameter parameters is

pub fields_only : (xs : FieldTerms) → only FieldAttribute (field_mentions xs) ≡ field_mentions xs
fields_only NoFields = refl
fields_only (Field name attribute rest) = ap (λ zs. mention FieldAttribute attribute ∷ zs) (fields_only rest)

-- ---- references in a row that are linked

pub are_linked : (parts : PartTerms) (document : ℕ) (role : Role) (xs : ReferenceTerms) (ks : List ℕ) →
    AreEach (LinksMention parts document) (mentions role xs) ks → AreLinked parts document role xs ks
are_linked parts document role NoReferences [] each = no_more
are_linked parts document role NoReferences (k ∷ ks) each = absurd each
are_linked parts document role (Reference x xs) [] each = absurd each
are_linked parts document role (Reference x xs) (k ∷ ks) each =
    another each.0 (are_linked parts document role xs ks each.1)
