-- NodeLaws: a type has one number of nodes, and its parts have no more (docs/PROFILE.md, section 11).
use Rattle.std.proofs.Common.{◌≡◌, ◌+◌, ◌≤◌, ℕ, List, Option, refl, sym, ap, ◌∙◌, subst, arith}
use Rattle.std.specs.Prelude.{Result, Ok, Err, OnOk}
use Rattle.token_grammar.specs.declared.token.Token.{Token}
use Rattle.asn1_names.specs.Containment.{IsCyclic, IsMember}
use Rattle.asn1_names.specs.Containment.IsMember.{first, behind}
use Rattle.asn1_names.specs.ModuleTerms.{LimitTerm, MemberTerms, ModuleTerm, PresenceTerm, TypeTerm}
use Rattle.asn1_names.specs.ModuleTerms.TypeTerm.{Alternatives, Reference, Structure}
use Rattle.asn1_names.specs.NameMeaning.{Meaning, reference_meaning}
use Rattle.asn1_names.specs.NameMeaning.Meaning.{TypeAt}
use Rattle.asn1_names.specs.NodeCount.{HasNodes, HaveNodes, IsNoType, syntax_count}
use Rattle.asn1_names.specs.NodeCount.HasNodes.{alternatives, cyclic, named, plain, repeated, standard, structure}
use Rattle.asn1_names.specs.NodeCount.HasNodes.{tagged, unknown}
use Rattle.asn1_names.specs.NodeCount.HaveNodes.{member, no_members}
use Rattle.asn1_tags.specs.KnownFacts.{HasFew}
use Rattle.asn1_names.proofs.OneNumber.{at_type, not_both, same_standard, same_types}

-- ---- results

pub ok_then : {X E : Type 0} {P Q : Type 0} (r : Result X E) → (P → Q) → OnOk r P → OnOk r Q
ok_then (Ok x) f h = f h
ok_then (Err e) f h = h

-- ---- names

pub same_place : (meaning : Meaning) (v i w j : ℕ) (of other : TypeTerm) → meaning ≡ TypeAt v i of →
    meaning ≡ TypeAt w j other → (v ≡ w) × (i ≡ j)
same_place meaning v i w j of other h k = (cc, cc)

same_cyclic : {ms : List ModuleTerm} (meaning : Meaning) (v i w j : ℕ) (of other : TypeTerm) → meaning ≡ TypeAt v i of →
    meaning ≡ TypeAt w j other → IsCyclic ms v i → IsCyclic ms w j
same_cyclic {ms = ms} meaning v i w j of other e f c = let same = same_place meaning v i w j of other e f in
    subst (λ x. IsCyclic ms x j) same.0 (subst (λ x. IsCyclic ms v x) same.1 c)

pub nodes_beneath : {ms : List ModuleTerm} {m n v i : ℕ} {module_name : Option Token} {name : Token}
    {limits : List LimitTerm} {of : TypeTerm} → reference_meaning ms m module_name name ≡ TypeAt v i of →
    ¬ IsCyclic ms v i → HasNodes ms m (Reference module_name name limits) n → HasNodes ms v of n
nodes_beneath {ms = ms} {n = n} {v = v} {i = i} {of = of} e unless (named {v = w} {i = j} {of = its} f other h) =
    at_type (λ x y. HasNodes ms x y n) v w of its (same_types _ v i w j of its e f) h
nodes_beneath {v = v} {i = i} {of = of} e unless (cyclic {v = w} {i = j} {of = its} f c) =
    absurd (unless (same_cyclic _ w j v i its of f e c))
nodes_beneath {v = v} {i = i} {of = of} e unless (standard {syntax = its} f count) = absurd (not_both _ v i of its e f)
nodes_beneath e unless (unknown no_type) = absurd (subst IsNoType e no_type)

-- ---- one number of nodes

both : {a b c d : ℕ} → a ≡ b → c ≡ d → a + c ≡ b + d
both e f = omega (arith, e, f)

mutual
  pub one_count : {ms : List ModuleTerm} {m n k : ℕ} {of : TypeTerm} → HasNodes ms m of n → HasNodes ms m of k → n ≡ k
  one_count (tagged h) (tagged g) = ap (λ x. 1 + x) (one_count h g)
  one_count (structure h) (structure g) = ap (λ x. 1 + x) (one_sum h g)
  one_count (repeated h) (repeated g) = ap (λ x. 1 + x) (one_count h g)
  one_count (alternatives h) (alternatives g) = ap (λ x. 1 + x) (one_sum h g)
  one_count plain plain = refl
  one_count {ms = ms} {k = k} (named {v = v} {i = i} {of = of} e unless h) (named {v = w} {i = j} {of = its} f other
      g) =
      one_count h (at_type (λ x y. HasNodes ms x y k) v w of its (same_types _ v i w j of its e f) g)
  one_count (named {v = v} {i = i} {of = of} e unless h) (cyclic {v = w} {i = j} {of = its} f c) =
      absurd (unless (same_cyclic _ w j v i its of f e c))
  one_count (named {v = v} {i = i} {of = of} e unless h) (standard {syntax = its} f count) =
      absurd (not_both _ v i of its e f)
  one_count (named e unless h) (unknown no_type) = absurd (subst IsNoType e no_type)
  one_count (cyclic {v = v} {i = i} {of = of} e c) (named {v = w} {i = j} {of = its} f unless g) =
      absurd (unless (same_cyclic _ v i w j of its e f c))
  one_count (cyclic e c) (cyclic f d) = refl
  one_count (cyclic {v = v} {i = i} {of = of} e c) (standard {syntax = its} f count) =
      absurd (not_both _ v i of its e f)
  one_count (cyclic e c) (unknown no_type) = absurd (subst IsNoType e no_type)
  one_count (standard {syntax = its} f count) (named {v = v} {i = i} {of = of} e unless h) =
      absurd (not_both _ v i of its e f)
  one_count (standard {syntax = its} f count) (cyclic {v = v} {i = i} {of = of} e c) =
      absurd (not_both _ v i of its e f)
  one_count (standard {syntax = one} e count) (standard {syntax = two} f other) =
      count ∙ ap syntax_count (same_standard _ one two e f) ∙ sym other
  one_count (standard f count) (unknown no_type) = absurd (subst IsNoType f no_type)
  one_count (unknown no_type) (named e unless h) = absurd (subst IsNoType e no_type)
  one_count (unknown no_type) (cyclic e c) = absurd (subst IsNoType e no_type)
  one_count (unknown no_type) (standard f count) = absurd (subst IsNoType f no_type)
  one_count (unknown no_type) (unknown other) = refl

  one_sum : {ms : List ModuleTerm} {m n k : ℕ} {of : MemberTerms} → HaveNodes ms m of n → HaveNodes ms m of k → n ≡ k
  one_sum no_members no_members = refl
  one_sum (member h rest) (member g others) = both (one_count h g) (one_sum rest others)

-- ---- parts

sum_of_structure : {ms : List ModuleTerm} {m n : ℕ} {word : Token} {rows : MemberTerms} {limits : List LimitTerm} →
    HasNodes ms m (Structure word rows limits) n → (k : ℕ) × HaveNodes ms m rows k × (k ≤ n)
sum_of_structure (structure {n = n} h) = (n, h, omega arith)

sum_of_choice : {ms : List ModuleTerm} {m n : ℕ} {word : Token} {rows : MemberTerms} {limits : List LimitTerm} →
    HasNodes ms m (Alternatives word rows limits) n → (k : ℕ) × HaveNodes ms m rows k × (k ≤ n)
sum_of_choice (alternatives {n = n} h) = (n, h, omega arith)

nodes_in : {ms : List ModuleTerm} {m n k : ℕ} {rows : MemberTerms} {of : TypeTerm} {presence : PresenceTerm} →
    HaveNodes ms m rows n → IsMember rows k of presence → (j : ℕ) × HasNodes ms m of j × (j ≤ n)
nodes_in no_members is = elim is [ ]
nodes_in (member {n = n} h others) first = (n, h, omega arith)
nodes_in (member {n = n} h others) (behind is) = let found = nodes_in others is in
    (found.0, found.1, within n _ found.0 found.2)
  where
    within : (n k j : ℕ) → j ≤ k → j ≤ n + k
    within n k j small = omega (arith, small)

at_most : (a b c d : ℕ) → a ≤ b → b ≤ c → c ≤ d → a ≤ d
at_most a b c d e f g = omega (arith, e, f, g)

pub component_few : {ms : List ModuleTerm} {m n k most : ℕ} (word : Token) (rows : MemberTerms)
    (limits : List LimitTerm) (of : TypeTerm) (presence : PresenceTerm) → IsMember rows k of presence →
    HasNodes ms m (Structure word rows limits) n → n ≤ most → HasFew ms m of most
component_few {n = n} {most = most} word rows limits of presence is h few = let sum = sum_of_structure h in
    let part = nodes_in sum.1 is in
    record { nodes = part.0; has = part.1; few = at_most part.0 sum.0 n most part.2 sum.2 few }

pub alternative_few : {ms : List ModuleTerm} {m n k most : ℕ} (word : Token) (rows : MemberTerms)
    (limits : List LimitTerm) (of : TypeTerm) (presence : PresenceTerm) → IsMember rows k of presence →
    HasNodes ms m (Alternatives word rows limits) n → n ≤ most → HasFew ms m of most
alternative_few {n = n} {most = most} word rows limits of presence is h few = let sum = sum_of_choice h in
    let part = nodes_in sum.1 is in
    record { nodes = part.0; has = part.1; few = at_most part.0 sum.0 n most part.2 sum.2 few }
