-- PackageLaws: what a package names in each role (X.722, section 8.4).
use Rattle.std.specs.Prelude.{◌≡◌, ℕ, List, [], ◌∷◌, ◌++◌, false, true, refl}
use Rattle.std.proofs.Common.{ap, ◌∙◌}
use Rattle.std.proofs.Math.Path.{subst}
use Rattle.gdmo_linking.specs.InRoles.{is_role, only}
use Rattle.gdmo_linking.specs.Linkers.{LinksMention}
use Rattle.gdmo_linking.proofs.RoleLaws.{at_none, behind, in_front, only_append, only_none, only_one, other, same}
use Rattle.gdmo_names.specs.InStep.{AreEach}
use Rattle.gdmo_names.specs.Mentions.{Role, Mention, mention, mentions, body_mentions, row_mentions}
use Rattle.gdmo_names.specs.Mentions.{stated_mentions, use_mentions}
use Rattle.gdmo_names.specs.Mentions.Role.{PackageAttribute, PackageGroup, AddedAttribute, PackageAction}
use Rattle.gdmo_names.specs.Mentions.Role.{PackageNotification, DerivationRule, OfParameter, OfBehaviour}
use Rattle.gdmo_names.specs.PartTerms.{PartTerms}
use Rattle.gdmo_names.specs.TemplateTerms.{ReferenceTerms, BodyTerm, StatedTerm, UseTerms, RowTerms}
use Rattle.gdmo_names.specs.TemplateTerms.BodyTerm.{PackageBody}
use Rattle.gdmo_names.specs.TemplateTerms.StatedTerm.{NotStated, StatedValue, ByRule}
use Rattle.gdmo_names.specs.TemplateTerms.UseTerms.{NoUses, Use}
use Rattle.gdmo_names.specs.TemplateTerms.RowTerms.{NoRows, Row}

-- ---- attributes

abbrev pub use_heads : UseTerms → List Mention
use_heads NoUses = []
use_heads (Use attribute default initial permitted required words parameters rest) =
    mention PackageAttribute attribute ∷ use_heads rest

stated_other : (role : Role) (x : StatedTerm) → is_role role DerivationRule ≡ false → only role (stated_mentions x) ≡ []
stated_other role NotStated is = refl
stated_other role (StatedValue name) is = refl
stated_other role (ByRule rule) is = only_none role (mention DerivationRule rule) is

uses_only : (xs : UseTerms) → only PackageAttribute (use_mentions xs) ≡ use_heads xs
uses_only NoUses = refl
uses_only (Use attribute default initial permitted required words parameters rest) =
    ap (λ zs. mention PackageAttribute attribute ∷ zs)
    (behind PackageAttribute (stated_mentions default)
    (stated_mentions initial ++ (mentions OfParameter parameters ++ use_mentions rest)) (use_heads rest)
    (stated_other PackageAttribute default refl)
    (behind PackageAttribute (stated_mentions initial) (mentions OfParameter parameters ++ use_mentions rest)
    (use_heads rest) (stated_other PackageAttribute initial refl)
    (behind PackageAttribute (mentions OfParameter parameters) (use_mentions rest) (use_heads rest)
    (other PackageAttribute OfParameter parameters refl) (uses_only rest))))

uses_other : (role : Role) (xs : UseTerms) → is_role role PackageAttribute ≡ false →
    is_role role DerivationRule ≡ false → is_role role OfParameter ≡ false → only role (use_mentions xs) ≡ []
uses_other role NoUses a d p = refl
uses_other role (Use attribute default initial permitted required words parameters rest) a d p =
    at_none role (mention PackageAttribute attribute ∷ []) (stated_mentions default
    ++ (stated_mentions initial ++ (mentions OfParameter parameters ++ use_mentions rest)))
    (only_none role (mention PackageAttribute attribute) a)
    (at_none role (stated_mentions default)
    (stated_mentions initial ++ (mentions OfParameter parameters ++ use_mentions rest)) (stated_other role default d)
    (at_none role (stated_mentions initial) (mentions OfParameter parameters ++ use_mentions rest)
    (stated_other role initial d)
    (at_none role (mentions OfParameter parameters) (use_mentions rest) (other role OfParameter parameters p)
    (uses_other role rest a d p))))

-- ---- groups, actions and notifications

abbrev pub row_heads : Role → RowTerms → List Mention
row_heads role NoRows = []
row_heads role (Row x xs rest) = mention role x ∷ row_heads role rest

abbrev pub rows_behind : Role → RowTerms → List Mention
rows_behind role NoRows = []
rows_behind role (Row x xs rest) = mentions role xs ++ rows_behind role rest

only_heads : (role its : Role) (xs : RowTerms) → is_role role role ≡ true → is_role role its ≡ false →
    only role (row_mentions role its xs) ≡ row_heads role xs
only_heads role its NoRows r o = refl
only_heads role its (Row x xs rest) r o =
    only_append role (mention role x ∷ []) (mentions its xs ++ row_mentions role its rest) ∙
    ap (λ zs. zs ++ only role (mentions its xs ++ row_mentions role its rest)) (only_one role (mention role x) r) ∙
    ap (λ zs. mention role x ∷ zs) (behind role (mentions its xs) (row_mentions role its rest) (row_heads role rest)
    (other role its xs o) (only_heads role its rest r o))

only_behind : (role its : Role) (xs : RowTerms) → is_role its its ≡ true → is_role its role ≡ false →
    only its (row_mentions role its xs) ≡ rows_behind its xs
only_behind role its NoRows r o = refl
only_behind role its (Row x xs rest) r o =
    behind its (mention role x ∷ []) (mentions its xs ++ row_mentions role its rest)
    (mentions its xs ++ rows_behind its rest) (only_none its (mention role x) o)
    (only_append its (mentions its xs) (row_mentions role its rest) ∙
    ap (λ zs. zs ++ only its (row_mentions role its rest)) (same its xs r) ∙
    ap (λ zs. mentions its xs ++ zs) (only_behind role its rest r o))

rows_other : (role one its : Role) (xs : RowTerms) → is_role role one ≡ false → is_role role its ≡ false →
    only role (row_mentions one its xs) ≡ []
rows_other role one its NoRows o p = refl
rows_other role one its (Row x xs rest) o p =
    at_none role (mention one x ∷ []) (mentions its xs ++ row_mentions one its rest)
    (only_none role (mention one x) o)
    (at_none role (mentions its xs) (row_mentions one its rest) (other role its xs p)
    (rows_other role one its rest o p))

-- ---- packages

abbrev group_part : RowTerms → List Mention
group_part g = row_mentions PackageGroup AddedAttribute g

abbrev action_part : RowTerms → List Mention
action_part a = row_mentions PackageAction OfParameter a

abbrev told_part : RowTerms → List Mention
told_part n = row_mentions PackageNotification OfParameter n

pub package_attributes : (b : ReferenceTerms) (u : UseTerms) (g a n : RowTerms) →
    only PackageAttribute (body_mentions (PackageBody b u g a n)) ≡ use_heads u
package_attributes b u g a n =
    behind PackageAttribute (mentions OfBehaviour b) (use_mentions u ++ (group_part g ++ (action_part a ++ told_part n)))
    (use_heads u) (other PackageAttribute OfBehaviour b refl)
    (in_front PackageAttribute (use_mentions u) (group_part g ++ (action_part a ++ told_part n)) (use_heads u)
    (uses_only u)
    (at_none PackageAttribute (group_part g) (action_part a ++ told_part n)
    (rows_other PackageAttribute PackageGroup AddedAttribute g refl refl)
    (at_none PackageAttribute (action_part a) (told_part n)
    (rows_other PackageAttribute PackageAction OfParameter a refl refl)
    (rows_other PackageAttribute PackageNotification OfParameter n refl refl))))

-- in a role of groups, which neither actions nor notifications have
at_groups : (role : Role) (b : ReferenceTerms) (u : UseTerms) (g a n : RowTerms) (zs : List Mention) →
    is_role role OfBehaviour ≡ false → is_role role PackageAttribute ≡ false → is_role role DerivationRule ≡ false →
    is_role role OfParameter ≡ false → is_role role PackageAction ≡ false → is_role role PackageNotification ≡ false →
    only role (group_part g) ≡ zs → only role (body_mentions (PackageBody b u g a n)) ≡ zs
at_groups role b u g a n zs no_b no_u no_d no_p no_a no_n is =
    behind role (mentions OfBehaviour b) (use_mentions u ++ (group_part g ++ (action_part a ++ told_part n))) zs
    (other role OfBehaviour b no_b)
    (behind role (use_mentions u) (group_part g ++ (action_part a ++ told_part n)) zs
    (uses_other role u no_u no_d no_p)
    (in_front role (group_part g) (action_part a ++ told_part n) zs is
    (at_none role (action_part a) (told_part n) (rows_other role PackageAction OfParameter a no_a no_p)
    (rows_other role PackageNotification OfParameter n no_n no_p))))

pub package_groups : (b : ReferenceTerms) (u : UseTerms) (g a n : RowTerms) →
    only PackageGroup (body_mentions (PackageBody b u g a n)) ≡ row_heads PackageGroup g
package_groups b u g a n = at_groups PackageGroup b u g a n (row_heads PackageGroup g) refl refl refl refl refl refl
    (only_heads PackageGroup AddedAttribute g refl refl)

pub package_added : (b : ReferenceTerms) (u : UseTerms) (g a n : RowTerms) →
    only AddedAttribute (body_mentions (PackageBody b u g a n)) ≡ rows_behind AddedAttribute g
package_added b u g a n = at_groups AddedAttribute b u g a n (rows_behind AddedAttribute g) refl refl refl refl refl refl
    (only_behind PackageGroup AddedAttribute g refl refl)

pub package_actions : (b : ReferenceTerms) (u : UseTerms) (g a n : RowTerms) →
    only PackageAction (body_mentions (PackageBody b u g a n)) ≡ row_heads PackageAction a
package_actions b u g a n =
    behind PackageAction (mentions OfBehaviour b) (use_mentions u ++ (group_part g ++ (action_part a ++ told_part n)))
    (row_heads PackageAction a) (other PackageAction OfBehaviour b refl)
    (behind PackageAction (use_mentions u) (group_part g ++ (action_part a ++ told_part n)) (row_heads PackageAction a)
    (uses_other PackageAction u refl refl refl)
    (behind PackageAction (group_part g) (action_part a ++ told_part n) (row_heads PackageAction a)
    (rows_other PackageAction PackageGroup AddedAttribute g refl refl)
    (in_front PackageAction (action_part a) (told_part n) (row_heads PackageAction a)
    (only_heads PackageAction OfParameter a refl refl)
    (rows_other PackageAction PackageNotification OfParameter n refl refl))))

pub package_notifications : (b : ReferenceTerms) (u : UseTerms) (g a n : RowTerms) →
    only PackageNotification (body_mentions (PackageBody b u g a n)) ≡ row_heads PackageNotification n
package_notifications b u g a n = let heads = row_heads PackageNotification n in
    behind PackageNotification (mentions OfBehaviour b)
    (use_mentions u ++ (group_part g ++ (action_part a ++ told_part n))) heads
    (other PackageNotification OfBehaviour b refl)
    (behind PackageNotification (use_mentions u) (group_part g ++ (action_part a ++ told_part n)) heads
    (uses_other PackageNotification u refl refl refl)
    (behind PackageNotification (group_part g) (action_part a ++ told_part n) heads
    (rows_other PackageNotification PackageGroup AddedAttribute g refl refl)
    (behind PackageNotification (action_part a) (told_part n) heads
    (rows_other PackageNotification PackageAction OfParameter a refl refl)
    (only_heads PackageNotification OfParameter n refl refl))))

-- what is linked in a role, where the clauses are these
pub named_in : (parts : PartTerms) (document : ℕ) (role : Role) (body own : BodyTerm) (xs : List Mention) (ks : List ℕ) →
    body ≡ own → only role (body_mentions own) ≡ xs →
    AreEach (LinksMention parts document) (only role (body_mentions body)) ks →
    AreEach (LinksMention parts document) xs ks
named_in parts document role body own xs ks is named each =
    subst (λ ys. AreEach (LinksMention parts document) ys ks) (ap (λ b. only role (body_mentions b)) is ∙ named) each
