-- A title: what is read is what the tree denotes.
use Rattle.std.proofs.Common.{◌≡◌, inl, ℕ, List, [], ◌∷◌, Some, refl, ap, ◌∙◌}
use Rattle.std.specs.Prelude.{codes}
use Rattle.term_values.specs.Syntaxes.TypeParts.{NoParts}
use Rattle.term_values.specs.Syntaxes.TypeSyntax.{ObjectIdentifier}
use Rattle.term_values.specs.CmipTypes.{one}
use Rattle.term_values.specs.Tag.{universal}
use Rattle.term_values.specs.Tree.{TreeValue, listed as trees_listed}
use Rattle.term_values.specs.Tree.TreeValue.{Constructed}
use Rattle.term_values.specs.Typed.TypedSlots.{Filled, NoSlots}
use Rattle.term_values.specs.Typed.TypedValue.{Identifier}
use Rattle.typed_laws.proofs.Choosing.{then_some}
use Rattle.agent_model.specs.Bind.{IsBind, title_of}
use Rattle.term_model.specs.Parts.{oid_under, one_under}
use Rattle.bind_apdus.proofs.PartsDenoted.{identifier_back, oid_given, oid_told, one_told, present, sequence_back}

pub title_told : (tree : TreeValue) (title : List ℕ) → title_of tree ≡ Some title → IsBind tree title
title_told tree title e =
    let f = then_some (oid_under (universal 6)) (one_under (universal 16) tree) title e in
    let is = one_told (universal 16) tree f.0 f.1 in
    let id = oid_told (universal 6) f.0 title f.2 in
    (f.0 ∷ [], Filled (Identifier title) NoSlots, is, inl ((title, id, refl), (refl, refl)), refl)

pub title_given : (tree : TreeValue) (title : List ℕ) → IsBind tree title → title_of tree ≡ Some title
title_given tree title d =
    let s = sequence_back (one (codes "title") ObjectIdentifier NoParts) tree (Filled (Identifier title) NoSlots) d in
    let p = present (codes "title") ObjectIdentifier NoParts s.inside (Identifier title) NoSlots s.denote in
    let inside_is = p.are ∙ ap (λ ys. p.first ∷ ys) p.follow.0 in
    ap title_of (s.is ∙ ap (λ ys. Constructed (universal 16) (trees_listed ys)) inside_is)
    ∙ oid_given (universal 6) p.first title (identifier_back (universal 6) p.first title p.denotes)
