-- The attributes, where they are stated.
use Rattle.std.proofs.Common.{◌≡◌, ap, sym}
use Rattle.std.proofs.Math.Path.{subst}
use Rattle.gdmo_linking.specs.Linkers.{IsNamed, LinksMention}
use Rattle.gdmo_names.specs.ClassViews.{use_terms, uses_of}
use Rattle.gdmo_names.specs.FoundViews.{body_term}
use Rattle.gdmo_names.specs.InStep.{AreAll, AreEach}
use Rattle.gdmo_names.specs.TypeMeaning.{type_names, use_types, use_values, value_names}
use Rattle.linked_packages.specs.LinkedPackages.{AreUses}
use Rattle.linked_packages.specs.PackageTexts.{IsNamedUse, IsUseText, LinksUse}
use Rattle.linked_packages.proofs.PackageLaws.{use_heads}
use Rattle.linked_packages.proofs.PackageTextLaws.{are_uses, attributes_named, use_links, uses_named}
use Rattle.linked_packages.proofs.linking_packages.package_uses.Goals as goal

pub returns-in_ok-linked_uses-in-Some : goal.returns-in_ok-linked_uses-in-Some
returns-in_ok-linked_uses-in-Some c = λ parts is body.
    let document = c.args.found.now.document in
    let own = c.in-Some.uses.items in
    let linked = c.in_ok-linked_uses-in-Some.field-0.items in
    let ks = c.in_ok-attributes-in-Some.attributes.items in
    let view : uses_of c.args.text.now.attributes ≡ use_terms own = ap uses_of c.in-Some.is in
    let types = subst (λ u. AreAll (IsNamed parts) (use_types u)) view
    (subst (λ b. AreAll (IsNamed parts) (type_names b)) body is.types) in
    let values = subst (λ u. AreAll (IsNamed parts) (use_values u)) view
    (subst (λ b. AreAll (IsNamed parts) (value_names b)) body is.values) in
    let each = use_links parts document own ks
    (subst (λ u. AreEach (LinksMention parts document) (use_heads u) ks) view
    (attributes_named parts document (body_term c.args.found.now.body) c.args.text.now ks body
    (c.in_ok-attributes-in-Some.ensures parts is))) in
    subst (λ u. AreUses parts document u linked) (sym view)
    (are_uses parts document own linked
    (subst (λ xs. AreEach (IsUseText parts document) xs linked) c.as_slice.ensures.value
    (c.in_ok-linked_uses-in-Some.ensures parts document is.knows
    (subst (λ xs. AreAll (IsNamedUse parts) xs) (sym c.as_slice.ensures.value) (uses_named parts own types values))
    (subst (λ xs. AreEach (LinksUse parts document) xs c.as_slice-in-Some.result.now) (sym c.as_slice.ensures.value)
    (subst (λ ys. AreEach (LinksUse parts document) own ys) (sym c.as_slice-in-Some.ensures.value) each)))))
