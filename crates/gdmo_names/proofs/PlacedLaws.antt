-- PlacedLaws: the templates of documents that are found one behind the other, and all of them.
use Rattle.std.proofs.Common.{◌≡◌, ◌<◌, ◌≤◌, ◌∙◌, ◌+◌, ℕ, List, [], ◌∷◌, ◌++◌, refl, sym, ap, get_or, length, map, take}
use Rattle.std.specs.Prelude.{flat_map}
use Rattle.std.proofs.lemmas.Grind.{flat_map-append}
use Rattle.std.proofs.lemmas.List.{append-nil, append_assoc, map-append, take_all}
use Rattle.std.proofs.Math.Path.{subst}
use Rattle.gdmo_classes.specs.declared.template.ClassTemplate.{ClassTemplate}
use Rattle.gdmo_members.specs.declared.member.MemberTemplate.{MemberTemplate}
use Rattle.gdmo_names.specs.declared.found.Finding.{Finding}
use Rattle.gdmo_names.specs.declared.found.Found.{Found}
use Rattle.gdmo_names.specs.declared.parsed.Parsed.{Parsed}
use Rattle.gdmo_names.specs.DocumentTemplates.{placed_templates, templates}
use Rattle.gdmo_names.specs.FindingSteps.{AddsPlaced, FindsTemplate}
use Rattle.gdmo_names.specs.FoundViews.{found_view, found_views}
use Rattle.gdmo_names.specs.InStep.{AreAll}
use Rattle.gdmo_names.specs.PartTerms.{Placed}
use Rattle.gdmo_names.specs.PartViews.{class_placed, member_placed, part_terms}
use Rattle.gdmo_names.specs.TargetTables.{AreFound, HasMentions}
use Rattle.gdmo_names.specs.TemplateTerms.{TemplateTerm}
use Rattle.gdmo_names.proofs.FindingLaws.{all_grown, all_of, tells_grown}
use Rattle.gdmo_names.proofs.InStepLaws.{all_both}
use Rattle.gdmo_names.proofs.NotingLaws.{map_more}

pub placed_none : (xs : List Found) → AddsPlaced xs xs []
placed_none xs = record { added = []; behind = sym (append-nil xs); views = refl; have = tt }

placed_both : {a b c : List Found} {xs ys : List Placed} → AddsPlaced a b xs → AddsPlaced b c ys →
    AddsPlaced a c (xs ++ ys)
placed_both {a} {b} {c} {xs} {ys} p q = record {
  added = p.added ++ q.added;
  behind = q.behind ∙ ap (λ zs. zs ++ q.added) p.behind ∙ append_assoc a p.added q.added;
  views = map-append found_view p.added q.added ∙ ap (λ zs. zs ++ found_views q.added) p.views
      ∙ ap (λ zs. xs ++ zs) q.views;
  have = all_both (HasMentions c) p.added q.added
      (all_grown b c (tells_grown b q.added c q.behind) p.added p.have) q.have;
}

-- a template of a document, where it was looked for in this document
pub placed_one : {before after : Finding} {number : ℕ} (document : ℕ) (term : TemplateTerm) →
    before.document ≡ document → FindsTemplate before after number term →
    AddsPlaced before.templates.items after.templates.items
    (placed_templates (record { document = document; template = term }))
placed_one {before} {after} document term is found = record {
  added = found.adds.added;
  behind = found.adds.behind;
  views = subst (λ (d : ℕ). found_views found.adds.added
      ≡ placed_templates (record { document = d; template = term })) is found.adds.views;
  have = found.adds.have;
}

pub placed_step : {X : Type 0} {a b c : List Found} (view : X → Placed) (xs : List X) (i : ℕ) (x : X) →
    i < length xs → x ≡ get_or xs i x → AddsPlaced a b (flat_map placed_templates (map view (take i xs))) →
    AddsPlaced b c (placed_templates (view x)) →
    AddsPlaced a c (flat_map placed_templates (map view (take (i + 1) xs)))
placed_step {a = a} {c = c} view xs i x within is p q = subst (AddsPlaced a c) (sym
    (ap (flat_map placed_templates) (map_more view xs i x within is)
    ∙ flat_map-append placed_templates (map view (take i xs)) (view x ∷ [])
    ∙ ap (λ zs. flat_map placed_templates (map view (take i xs)) ++ zs) (append-nil (placed_templates (view x)))))
    (placed_both p q)

pub placed_end : {X : Type 0} {a b : List Found} (view : X → Placed) (xs : List X) (i : ℕ) → length xs ≤ i →
    AddsPlaced a b (flat_map placed_templates (map view (take i xs))) →
    AddsPlaced a b (flat_map placed_templates (map view xs))
placed_end {a = a} {b = b} view xs i past h =
    subst (λ ys. AddsPlaced a b (flat_map placed_templates (map view ys))) (take_all i xs past) h

-- all templates
pub placed_found : {a b c : List Found} (x : Parsed) {classes : List ClassTemplate} {members : List MemberTemplate} →
    a ≡ [] → classes ≡ x.classes.items → members ≡ x.members.items →
    AddsPlaced a b (flat_map placed_templates (map class_placed classes)) →
    AddsPlaced b c (flat_map placed_templates (map member_placed members)) → AreFound (part_terms x) c
unfolding templates
placed_found {a} {b} {c} x {classes} {members} empty classes_are members_are p q = record {
  all = ap found_views is ∙ both.views
      ∙ sym (flat_map-append placed_templates (map class_placed x.classes.items) (map member_placed x.members.items));
  mentions = all_of (HasMentions c) c (subst (λ xs. AreAll (HasMentions c) xs) (sym is) both.have);
}
  where
    both : AddsPlaced a c (flat_map placed_templates (map class_placed x.classes.items)
        ++ flat_map placed_templates (map member_placed x.members.items))
    both = placed_both
        (subst (λ xs. AddsPlaced a b (flat_map placed_templates (map class_placed xs))) classes_are p)
        (subst (λ xs. AddsPlaced b c (flat_map placed_templates (map member_placed xs))) members_are q)

    is : c ≡ both.added
    is = both.behind ∙ ap (λ zs. zs ++ both.added) empty
