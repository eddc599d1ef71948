-- LinkLaws: a template that is named is linked by its place among those of its kind.
use Rattle.std.specs.Prelude.{◌≡◌, ℕ, List, [], ◌∷◌, ◌++◌, true, false, Option, None, Some}
use Rattle.std.specs.Prelude.{slice_get}
use Rattle.std.specs.Option.{option_and_then}
use Rattle.std.proofs.Common.{ap, sym, ◌∙◌}
use Rattle.std.proofs.Math.Path.{subst}
use Rattle.std.proofs.lemmas.Option.{get_or_from_slice_get}
use Rattle.gdmo_linking.specs.InRoles.{is_role, only}
use Rattle.gdmo_linking.specs.LinkedTables.{of_kind}
use Rattle.gdmo_linking.specs.Linkers.{ArePlaces, HasPlace, IsLinker, IsMeant, IsOwn, LinksMention, place_at}
use Rattle.gdmo_linking.specs.declared.linking.Linker.{Linker}
use Rattle.gdmo_linking.proofs.RoleLaws.{only_less, only_more}
use Rattle.gdmo_linking.proofs.StepLaws.{all_at, each_at, each_push}
use Rattle.gdmo_names.specs.DocumentTemplates.{templates}
use Rattle.gdmo_names.specs.FoundViews.{found_term, found_views, numbered}
use Rattle.gdmo_names.specs.InStep.{AreEach}
use Rattle.gdmo_names.specs.Mentions.{Role, Mention, template_mentions}
use Rattle.gdmo_names.specs.PartTerms.{Placed, PartTerms, kind_of}
use Rattle.gdmo_names.specs.Roles.{role_term}
use Rattle.gdmo_names.specs.TargetTables.{IsMention, TellsMention}
use Rattle.gdmo_names.specs.declared.found.Found.{Found}
use Rattle.gdmo_names.specs.declared.found.Mention.{Mention as FoundMention}

-- the place that a number has
at_number : (xs : List Placed) (places : List ℕ) (number : Option ℕ) (to : Placed) → ArePlaces xs places →
    numbered xs number ≡ Some to → slice_get (of_kind (kind_of to.template) xs) (place_at places number) ≡ Some to
at_number xs places None to are is = absurd (cc)
at_number xs places (Some n) to are is =
    let found = each_at (HasPlace xs) xs places n to are is in
    ap (slice_get (of_kind (kind_of to.template) xs)) (get_or_from_slice_get places n found.0 0 found.1) ∙ found.2

pub links : (parts : PartTerms) (linker : Linker) (document : ℕ) (x : Mention) (number : Option ℕ) (k : ℕ) →
    IsLinker parts linker → IsMeant parts document x →
    TellsMention parts linker.linkage.templates.now document x number → k ≡ place_at linker.places.now number →
    LinksMention parts document x k
links parts linker document x number k is meant tells place = record {
  to = meant.0;
  means = meant.1;
  at = subst (λ kind. slice_get (of_kind kind (templates parts)) k ≡ Some meant.0) meant.1.of_kind
      (subst (λ xs. slice_get (of_kind (kind_of meant.0.template) xs) k ≡ Some meant.0) is.linkage.are_found.all
      (ap (slice_get (of_kind (kind_of meant.0.template) (found_views linker.linkage.templates.now))) place ∙
      at_number (found_views linker.linkage.templates.now) linker.places.now number meant.0 is.places
      ((tells meant.0).1 meant.1)));
}

-- one more of those that are named in a role
pub pushed_in_role : (parts : PartTerms) (document : ℕ) (role : Role) (before : List Mention) (x : Mention)
    (places after : List ℕ) (k : ℕ) → is_role role x.role ≡ true → LinksMention parts document x k →
    AreEach (LinksMention parts document) (only role before) places → after ≡ places ++ k ∷ [] →
    AreEach (LinksMention parts document) (only role (before ++ x ∷ [])) after
pushed_in_role parts document role before x places after k is one each pushed =
    subst (λ ks. AreEach (LinksMention parts document) (only role (before ++ x ∷ [])) ks) (sym pushed)
    (subst (λ xs. AreEach (LinksMention parts document) xs (places ++ k ∷ [])) (sym (only_more role before x is))
    (each_push (LinksMention parts document) (only role before) places x k each one))

pub passed_in_role : (parts : PartTerms) (document : ℕ) (role : Role) (before : List Mention) (x : Mention)
    (places : List ℕ) → is_role role x.role ≡ false →
    AreEach (LinksMention parts document) (only role before) places →
    AreEach (LinksMention parts document) (only role (before ++ x ∷ [])) places
passed_in_role parts document role before x places is each =
    subst (λ xs. AreEach (LinksMention parts document) xs places) (sym (only_less role before x is)) each

-- what is named at a place, with the number of the template that is meant
pub record NamedAt (parts : PartTerms) (linker : Linker) (document : ℕ) (role : Role) (target : Option ℕ)
    (xs : List Mention) (k : ℕ) : Type 0 where
  pub x : Mention
  pub at : slice_get xs k ≡ Some x
  pub in_role : role ≡ x.role
  pub meant : IsMeant parts document x
  pub tells : TellsMention parts linker.linkage.templates.now document x target

pub named_at : (parts : PartTerms) (linker : Linker) (own : Found) (targets : List (Option ℕ)) (k : ℕ)
    (mention : FoundMention) (target : Option ℕ) → IsOwn parts linker own targets →
    slice_get own.mentions.items k ≡ Some mention → target ≡ option_and_then (λ y. y) (slice_get targets k) →
    NamedAt parts linker own.document (role_term mention.role) target (template_mentions (found_term own)) k
named_at parts linker own targets k mention target is at told =
    let here = each_at (IsMention linker.linkage.templates.now own.document) own.mentions.items
    (template_mentions (found_term own)) k mention is.mentions at in
    let there = each_at (TellsMention parts linker.linkage.templates.now own.document)
    (template_mentions (found_term own)) targets k here.0 is.told here.1 in
    record {
      x = here.0;
      at = here.1;
      in_role = here.2.in_role;
      meant = all_at (IsMeant parts own.document) (template_mentions (found_term own)) k here.0 is.meant here.1;
      tells = subst (λ n. TellsMention parts linker.linkage.templates.now own.document here.0 n)
          (sym (told ∙ ap (option_and_then (λ y. y)) there.1)) there.2;
    }
