-- NodeLaws: a type has one number of nodes (docs/PROFILE.md, section 11).
use Rattle.std.proofs.Common.{◌≡◌, ◌∙◌, ◌+◌, ◌≤◌, ◌<◌, ℕ, List, true, false, refl, ap, sym, arith}
use Rattle.std.specs.Prelude.{min, leb}
use Rattle.std.proofs.Math.Path.{subst}
use Rattle.std.proofs.lemmas.Bool.{leb-true, leb-false}
use Rattle.asn1_names.specs.Containment.{IsCyclic}
use Rattle.asn1_names.specs.ModuleTerms.{MemberTerms, ModuleTerm, TypeTerm}
use Rattle.asn1_names.specs.NameMeaning.{Meaning}
use Rattle.asn1_names.specs.NameMeaning.Meaning.{TypeAt}
use Rattle.asn1_names.specs.NodeCount.{HasNodes, HaveNodes, IsNoType, syntax_count}
use Rattle.asn1_names.specs.NodeCount.HasNodes.{tagged, structure, repeated, alternatives, plain, named, cyclic}
use Rattle.asn1_names.specs.NodeCount.HasNodes.{standard, unknown}
use Rattle.asn1_names.specs.NodeCount.HaveNodes.{no_members, member}
use Rattle.asn1_names.proofs.OneNumber.{at_type, not_both, same_standard, same_types}
use Rattle.asn1_resolve.specs.TypeFaults.{IsFew, IsLarge}

same_place : (meaning : Meaning) (v i w j : ℕ) (of other : TypeTerm) → meaning ≡ TypeAt v i of →
    meaning ≡ TypeAt w j other → (v ≡ w) × (i ≡ j)
same_place meaning v i w j of other h k = let e = sym h ∙ k in (cc, cc)

cyclic_too : (ms : List ModuleTerm) (meaning : Meaning) (v i w j : ℕ) (of other : TypeTerm) → meaning ≡ TypeAt v i of →
    meaning ≡ TypeAt w j other → IsCyclic ms w j → IsCyclic ms v i
cyclic_too ms meaning v i w j of other h k leads =
    let same = same_place meaning v i w j of other h k in
    subst (λ x. IsCyclic ms x i) (sym same.0) (subst (λ x. IsCyclic ms w x) (sym same.1) leads)

mutual
  pub one_nodes : {ms : List ModuleTerm} {m n k : ℕ} {of : TypeTerm} → HasNodes ms m of n → HasNodes ms m of k → n ≡ k
  one_nodes (tagged h) (tagged g) = ap (λ x. 1 + x) (one_nodes h g)
  one_nodes (structure h) (structure g) = ap (λ x. 1 + x) (one_sum h g)
  one_nodes (repeated h) (repeated g) = ap (λ x. 1 + x) (one_nodes h g)
  one_nodes (alternatives h) (alternatives g) = ap (λ x. 1 + x) (one_sum h g)
  one_nodes plain plain = refl
  one_nodes {ms = ms} {k = k} (named {v = v} {i = i} {of = of} e a h) (named {v = w} {i = j} {of = its} f b g) =
      one_nodes h (at_type (λ x y. HasNodes ms x y k) v w of its (same_types _ v i w j of its e f) g)
  one_nodes {ms = ms} (named {v = v} {i = i} {of = of} e a h) (cyclic {v = w} {i = j} {of = its} f c) =
      absurd (a (cyclic_too ms _ v i w j of its e f c))
  one_nodes (named {v = v} {i = i} {of = of} e a h) (standard {syntax = syntax} f is) =
      absurd (not_both _ v i of syntax e f)
  one_nodes (named e a h) (unknown u) = absurd (subst IsNoType e u)
  one_nodes {ms = ms} (cyclic {v = v} {i = i} {of = of} e c) (named {v = w} {i = j} {of = its} f a g) =
      absurd (a (cyclic_too ms _ w j v i its of f e c))
  one_nodes (cyclic e c) (cyclic f d) = refl
  one_nodes (cyclic {v = v} {i = i} {of = of} e c) (standard {syntax = syntax} f is) =
      absurd (not_both _ v i of syntax e f)
  one_nodes (cyclic e c) (unknown u) = absurd (subst IsNoType e u)
  one_nodes (standard {syntax = syntax} e is) (named {v = v} {i = i} {of = of} f a g) =
      absurd (not_both _ v i of syntax f e)
  one_nodes (standard {syntax = syntax} e is) (cyclic {v = v} {i = i} {of = of} f c) =
      absurd (not_both _ v i of syntax f e)
  one_nodes (standard {syntax = one} e is) (standard {syntax = two} f its) =
      is ∙ ap syntax_count (same_standard _ one two e f) ∙ sym its
  one_nodes (standard e is) (unknown u) = absurd (subst IsNoType e u)
  one_nodes (unknown u) (named f a g) = absurd (subst IsNoType f u)
  one_nodes (unknown u) (cyclic f c) = absurd (subst IsNoType f u)
  one_nodes (unknown u) (standard f is) = absurd (subst IsNoType f u)
  one_nodes (unknown u) (unknown w) = refl

  one_sum : {ms : List ModuleTerm} {m n k : ℕ} {members : MemberTerms} → HaveNodes ms m members n →
      HaveNodes ms m members k → n ≡ k
  one_sum no_members no_members = refl
  one_sum (member {n = n} {k = j} h rest) (member {n = l} {k = i} g others) =
      ap (λ x. x + j) (one_nodes h g) ∙ ap (λ x. l + x) (one_sum rest others)

pub not_both_sizes : {ms : List ModuleTerm} {m : ℕ} {of : TypeTerm} → IsFew ms m of → IsLarge ms m of → ⊥
not_both_sizes few large = let same = one_nodes few.1 large.1 in omega (arith, few.2, large.2, same)

-- what is told of the nodes
pub told_few : (told n : ℕ) → leb told 10000 ≡ true → told ≡ min n 18446744073709551615 → n ≤ 10000
told_few told n small is = let few = leb-true told 10000 small in omega (arith, few, is)

pub told_large : (told n : ℕ) → leb told 10000 ≡ false → told ≡ min n 18446744073709551615 → 10000 < n
told_large told n large is = let many = leb-false told 10000 large in omega (arith, many, is)
