-- AddedLaws: the attributes that are added to groups, one after the other (X.722, section 8.4).
use Rattle.std.specs.Prelude.{◌≡◌, ◌<◌, ◌≤◌, ℕ, suc, ◌+◌, List, [], ◌∷◌, ◌++◌, get_or, length, min, refl}
use Rattle.std.specs.Prelude.{◌-◌, ◌^◌}
use Rattle.std.proofs.Common.{ap, arith, drop, sym, take, ◌∙◌}
use Rattle.std.proofs.Math.Path.{subst}
use Rattle.std.proofs.lemmas.List.{drop-drop, drop_more, get_or-drop, take_more}
use Rattle.gdmo_classes.specs.declared.member_use.GroupUse.{GroupUse}
use Rattle.gdmo_linking.specs.LinkedTables.{AreLinked}
use Rattle.gdmo_linking.specs.Linkers.{LinksMention}
use Rattle.gdmo_linking.proofs.RoleLaws.{are_linked}
use Rattle.gdmo_names.specs.InStep.{AreEach}
use Rattle.gdmo_names.specs.MemberViews.{reference_terms}
use Rattle.gdmo_names.specs.Mentions.{Role, mentions}
use Rattle.gdmo_names.specs.Mentions.Role.{AddedAttribute}
use Rattle.gdmo_names.specs.PartTerms.{PartTerms}
use Rattle.gdmo_names.specs.TemplateTerms.{ReferenceTerm}
use Rattle.linked_packages.specs.PackageTexts.{added_mentions, added_terms}

-- ---- two lists in step, the first of two parts

pub record Parted {A B : Type 0} (is : A → B → Type 0) (xs ys : List A) (ks : List B) : Type 0 where
  pub first : AreEach is xs (take (length xs) ks)
  pub rest : AreEach is ys (drop (length xs) ks)
  pub fits : length xs ≤ length ks

pub parted : {A B : Type 0} (is : A → B → Type 0) (xs ys : List A) (ks : List B) → AreEach is (xs ++ ys) ks →
    Parted is xs ys ks
parted is [] ys ks each = record { first = tt; rest = each; fits = omega arith }
parted is (x ∷ xs) ys [] each = absurd each
parted is (x ∷ xs) ys (k ∷ ks) each =
    let behind = parted is xs ys ks each.1 in
    let fits = behind.fits in
    record { first = (each.0, behind.first); rest = behind.rest; fits = omega (arith, fits) }

mention_count : {X : Type 0} (role : Role) (view : X → ReferenceTerm) (xs : List X) →
    length (mentions role (reference_terms view xs)) ≡ length xs
mention_count role view [] = refl
mention_count role view (x ∷ xs) = ap suc (mention_count role view xs)

-- ---- numbers from a place on

pub exact : (a b result : ℕ) → result ≡ min (a + b) (2 ^ 64 - 1) → a + b < 2 ^ 64 → result ≡ a + b
exact a b result is less = omega (arith, is, less)

pub one_number : (numbers : List ℕ) (from k number place : ℕ) (copies after : List ℕ) →
    k < length (drop from numbers) → copies ≡ take k (drop from numbers) → place ≡ from + k →
    number ≡ get_or numbers place 0 → after ≡ copies ++ number ∷ [] → after ≡ take (k + 1) (drop from numbers)
one_number numbers from k number place copies after within so_far here is pushed =
    pushed ∙ ap (λ ys. ys ++ number ∷ []) so_far ∙
    ap (λ y. take k (drop from numbers) ++ y ∷ [])
    (is ∙ ap (λ p. get_or numbers p 0) here ∙ sym (get_or-drop from numbers k 0)) ∙
    sym (take_more (drop from numbers) k 0 within)

-- ---- one group more

pub record NextGroup (parts : PartTerms) (document : ℕ) (own : GroupUse) (rest : List GroupUse) (added : List ℕ)
    (next : ℕ) : Type 0 where
  pub fits : length own.attributes.items ≤ length (drop next added)
  pub first : AreLinked parts document AddedAttribute (added_terms own)
      (take (length own.attributes.items) (drop next added))
  pub behind : AreEach (LinksMention parts document) (added_mentions rest)
      (drop (next + length own.attributes.items) added)

pub next_group : (parts : PartTerms) (document : ℕ) (uses : List GroupUse) (added : List ℕ) (k next : ℕ)
    (own : GroupUse) → k < length uses → own ≡ get_or uses k own →
    AreEach (LinksMention parts document) (added_mentions (drop k uses)) (drop next added) →
    NextGroup parts document own (drop (k + 1) uses) added next
next_group parts document uses added k next own within at each =
    let is = LinksMention parts document in
    let its = mentions AddedAttribute (added_terms own) in
    let rest = added_mentions (drop (k + 1) uses) in
    let count = mention_count AddedAttribute _ own.attributes.items in
    let here : added_mentions (drop k uses) ≡ its ++ rest =
    ap added_mentions (drop_more uses k own within ∙ ap (λ x. x ∷ drop (k + 1) uses) (sym at)) in
    let both = parted is its rest (drop next added)
    (subst (λ xs. AreEach is xs (drop next added)) here each) in
    record {
      fits = subst (λ n. n ≤ length (drop next added)) count both.fits;
      first = are_linked parts document AddedAttribute (added_terms own)
          (take (length own.attributes.items) (drop next added))
          (subst (λ n. AreEach is its (take n (drop next added))) count both.first);
      behind = subst (λ ks. AreEach is rest ks) (drop-drop (length own.attributes.items) next added)
          (subst (λ n. AreEach is rest (drop n (drop next added))) count both.rest);
    }
