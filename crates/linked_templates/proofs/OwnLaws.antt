-- OwnLaws: what is known of a template by its number, where nothing is missing (X.722, section 8).
use Rattle.std.specs.Prelude.{◌≡◌, ℕ, List, Option, None, Some, IfSome, get_or, is_some, length, ltb, refl, slice_get}
use Rattle.std.specs.Borrow.{Bor}
use Rattle.std.specs.Option.{option_copied}
use Rattle.std.specs.declared.alloc.Global.{Global}
use Rattle.std.specs.declared.vec.Vec.{Vec}
use Rattle.std.proofs.Common.{ap, ltb-false, ltb-true, sym, ◌∙◌}
use Rattle.std.proofs.Math.Path.{subst}
use Rattle.std.proofs.lemmas.Option.{get_or_from_slice_get, same_Some, slice_get_past, slice_get_read}
use Rattle.std.proofs.lemmas.Option.{slice_get_within}
use Rattle.linked_parts.specs.declared.linked.Linked.{Linked}
use Rattle.linked_templates.specs.TemplateTables.{IsComplete, IsRegistered, KeepsSections}
use Rattle.gdmo_linking.specs.Linkers.{IsLinker, IsOwn}
use Rattle.gdmo_linking.specs.declared.linking.Linker.{Linker}
use Rattle.gdmo_linking.proofs.StepLaws.{all_at, each_at, map_at}
use Rattle.gdmo_names.specs.DocumentTemplates.{templates}
use Rattle.gdmo_names.specs.FoundViews.{found_view}
use Rattle.gdmo_names.specs.InStep.{AreAll, AreEach}
use Rattle.gdmo_names.specs.PartTerms.{PartTerms}
use Rattle.gdmo_names.specs.TargetTables.{HasMentions, TellsTargets}
use Rattle.gdmo_names.specs.declared.found.Found.{Found}

view_at : (parts : PartTerms) (linker : Linker) (number : ℕ) (found : Found) → IsLinker parts linker →
    slice_get linker.linkage.templates.now number ≡ Some found →
    slice_get (templates parts) number ≡ Some (found_view found)
view_at parts linker number found is at = subst (λ xs. slice_get xs number ≡ Some (found_view found))
    is.linkage.are_found.all (map_at found_view linker.linkage.templates.now number found at)

pub targets_at : (parts : PartTerms) (linker : Linker) (number : ℕ) (found : Found) → IsLinker parts linker →
    slice_get linker.linkage.templates.now number ≡ Some found →
    (own : Vec (Option ℕ) Global) × (slice_get linker.linkage.targets.now number ≡ Some own)
    × TellsTargets parts linker.linkage.templates.now found own
targets_at parts linker number found is at = each_at (TellsTargets parts linker.linkage.templates.now)
    linker.linkage.templates.now linker.linkage.targets.now number found is.linkage.are_targets at

pub registered_at : (parts : PartTerms) (linker : Linker) (identifiers : List (Option (List ℕ))) (number : ℕ)
    (found : Found) → IsLinker parts linker → slice_get linker.linkage.templates.now number ≡ Some found →
    AreEach (IsRegistered parts) (templates parts) identifiers →
    (identifier : Option (List ℕ)) × (slice_get identifiers number ≡ Some identifier)
    × IsRegistered parts (found_view found) identifier
registered_at parts linker identifiers number found is at each = each_at (IsRegistered parts) (templates parts)
    identifiers number (found_view found) each (view_at parts linker number found is at)

pub own_at : (parts : PartTerms) (linker : Linker) (number : ℕ) (found : Found) (own : Vec (Option ℕ) Global) →
    IsLinker parts linker → AreAll (IsComplete parts) (templates parts) →
    slice_get linker.linkage.templates.now number ≡ Some found →
    slice_get linker.linkage.targets.now number ≡ Some own → IsOwn parts linker found own.items
own_at parts linker number found own is all at told =
    let xs = linker.linkage.templates.now in
    let there = targets_at parts linker number found is at in
    let complete = all_at (IsComplete parts) (templates parts) number (found_view found) all
    (view_at parts linker number found is at) in
    record {
      knows = is;
      mentions = subst (HasMentions xs) (get_or_from_slice_get xs number found found at)
          (is.linkage.are_found.mentions number found (slice_get_within xs number found at));
      told = subst (λ ys. TellsTargets parts linker.linkage.templates.now found ys)
          (same_Some there.0 own (sym there.1 ∙ told)) there.2;
      meant = complete.meant;
      types = complete.types;
      values = complete.values;
    }

-- ---- what `get` gives of a list

got : {X : Type 0} (xs : List X) (i : ℕ) (r : Option (Bor X)) → is_some r ≡ ltb i (length xs) →
    IfSome r (λ x. x.now ≡ get_or xs i x.now) → option_copied r ≡ slice_get xs i
got xs i None e is = sym (slice_get_past xs i (ltb-false i (length xs) (sym e)))
got xs i (Some x) e is = sym (slice_get_read xs (length xs) i x.now refl (ltb-true i (length xs) (sym e)) is)

pub got_one : {X : Type 0} (xs : List X) (i : ℕ) (r : Option (Bor X)) (x : Bor X) → is_some r ≡ ltb i (length xs) →
    IfSome r (λ y. y.now ≡ get_or xs i y.now) → r ≡ Some x → slice_get xs i ≡ Some x.now
got_one xs i r x e is one = sym (got xs i r e is) ∙ ap option_copied one

pub got_none : {X : Type 0} (xs : List X) (i : ℕ) (r : Option (Bor X)) → is_some r ≡ ltb i (length xs) →
    IfSome r (λ y. y.now ≡ get_or xs i y.now) → r ≡ None → slice_get xs i ≡ None
got_none xs i r e is none = sym (got xs i r e is) ∙ ap option_copied none

-- ---- what stays

pub keeps_both : (before between after : Linked) → KeepsSections before between → KeepsSections between after →
    KeepsSections before after
keeps_both before between after one other = record {
  rules = other.rules ∙ one.rules;
  instances = other.instances ∙ one.instances;
  first_names = other.first_names ∙ one.first_names;
}
