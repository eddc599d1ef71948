-- AttributeLaws: the records of attributes, of those that are registered, one attribute more.
use Rattle.std.proofs.Common.{◌≡◌, ◌<◌, ◌≤◌, ◌∙◌, ◌+◌, ◌++◌, ◌∷◌, [], ℕ, suc, List, None, Some, arith, length}
use Rattle.std.proofs.Common.{refl, sym, take}
use Rattle.std.specs.Prelude.{slice_get}
use Rattle.std.proofs.Math.Path.{subst}
use Rattle.std.proofs.lemmas.List.{length-take, take_all}
use Rattle.std.proofs.lemmas.Option.{slice_get_within}
use Rattle.term_model.specs.declared.schema.AttrRec.{AttrRec}
use Rattle.asn1_names.specs.ModuleTerms.{ModuleTerm}
use Rattle.linked_parts.specs.declared.linked.Linked.{Linked}
use Rattle.linked_parts.specs.declared.linked.LinkedAttribute.{LinkedAttribute}
use Rattle.schema_records.specs.AddedRecords.{AddsAttribute}
use Rattle.schema_records.specs.AddedRecords.AddsAttribute.{one as adds_one, unregistered as adds_none}
use Rattle.schema_records.specs.MemberRecords.{AreAttributes, IsAttribute}
use Rattle.schema_records.specs.MemberRecords.AreAttributes.{no_more, one, unregistered}
use Rattle.schema_records.proofs.EachLaws.{take_one}

module _ (ms : List ModuleTerm) (linked : Linked) where
  one_last : {k : ℕ} {xs : List LinkedAttribute} {ys : List AttrRec} (j : ℕ) (x : LinkedAttribute) (y : AttrRec) →
      AreAttributes ms linked k xs ys → j ≡ k + length xs → IsAttribute ms linked j y →
      AreAttributes ms linked k (xs ++ x ∷ []) (ys ++ y ∷ [])
  one_last j x y (no_more {k = k}) at is =
      one (subst (λ n. IsAttribute ms linked n y) (omega (arith, at)) is) no_more
  one_last j x y (one {k = k} {parts = parts} its rest) at is =
      one its (one_last j x y rest (omega (arith, at)) is)
  one_last j x y (unregistered {k = k} {parts = parts} gone rest) at is =
      unregistered gone (one_last j x y rest (omega (arith, at)) is)

  none_last : {k : ℕ} {xs : List LinkedAttribute} {ys : List AttrRec} (x : LinkedAttribute) →
      AreAttributes ms linked k xs ys → x.head.identifier ≡ None → AreAttributes ms linked k (xs ++ x ∷ []) ys
  none_last x no_more gone = unregistered gone no_more
  none_last x (one its rest) gone = one its (none_last x rest gone)
  none_last x (unregistered other rest) gone = unregistered other (none_last x rest gone)

  last_added : (xs : List LinkedAttribute) (x : LinkedAttribute) (j : ℕ) (ys zs : List AttrRec) →
      AreAttributes ms linked 0 xs ys → j ≡ length xs → AddsAttribute ms linked j x ys zs →
      AreAttributes ms linked 0 (xs ++ x ∷ []) zs
  last_added xs x j ys zs so_far at (adds_one y behind is) =
      subst (AreAttributes ms linked 0 (xs ++ x ∷ [])) (sym behind) (one_last j x y so_far (omega (arith, at)) is)
  last_added xs x j ys zs so_far at (adds_none gone same) =
      subst (AreAttributes ms linked 0 (xs ++ x ∷ [])) (sym same) (none_last x so_far gone)

  pub attributes_added : (xs : List LinkedAttribute) (i : ℕ) (x : LinkedAttribute) (ys zs : List AttrRec) →
      slice_get xs i ≡ Some x → AreAttributes ms linked 0 (take i xs) ys → AddsAttribute ms linked i x ys zs →
      AreAttributes ms linked 0 (take (i + 1) xs) zs
  attributes_added xs i x ys zs at so_far added =
      let within = slice_get_within xs i x at in
      let size : i ≡ length (take i xs) = grind (arith, length-take) in
      subst (λ ws. AreAttributes ms linked 0 ws zs) (sym (take_one xs i x at))
      (last_added (take i xs) x i ys zs so_far size added)

  pub attributes_none : (ys : List AttrRec) → ys ≡ [] → AreAttributes ms linked 0 [] ys
  attributes_none ys is = subst (AreAttributes ms linked 0 []) (sym is) no_more

  pub attributes_whole : (xs : List LinkedAttribute) (i : ℕ) (ys : List AttrRec) → length xs ≤ i →
      AreAttributes ms linked 0 (take i xs) ys → AreAttributes ms linked 0 xs ys
  attributes_whole xs i ys past so_far = subst (λ ws. AreAttributes ms linked 0 ws ys) (take_all i xs past) so_far
