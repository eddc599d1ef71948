-- MeasuredLaws: the types that stand in a type have at most the nodes that are left beside it.
use Rattle.std.proofs.Common.{◌≡◌, ◌≤◌, ◌+◌, ℕ, zero, suc, List, [], ◌∷◌, Option, Contains, refl}
use Rattle.std.proofs.Common.{arith}
use Rattle.std.proofs.Math.Path.{subst}
use Rattle.token_grammar.specs.declared.token.Token.{Token}
use Rattle.asn1_names.specs.Containment.{IsMember, Within}
use Rattle.asn1_names.specs.Containment.IsMember.{behind, first}
use Rattle.asn1_names.specs.Containment.Within.{alternative, component, element, itself, tagged}
use Rattle.asn1_names.specs.ModuleTerms.{LimitTerm, MemberTerms, ModuleTerm, RangeTerm, TagTerm, TypeTerm}
use Rattle.asn1_names.specs.ModuleTerms.TypeTerm.{Alternatives, Repeated, Structure, Under}
use Rattle.asn1_names.specs.NodeCount.{HasNodes, HaveNodes}
use Rattle.asn1_names.specs.NodeCount.HasNodes.{alternatives as nodes_alternatives, repeated as nodes_repeated}
use Rattle.asn1_names.specs.NodeCount.HasNodes.{structure as nodes_structure, tagged as nodes_tagged}
use Rattle.asn1_names.specs.NodeCount.HaveNodes.{member as nodes_member}
use Rattle.asn1_names.specs.Occurrences.{Stands}
use Rattle.asn1_types.specs.MeasuredTypes.{AreMeasured, IsMeasured, OneMember, members_listed}

-- ---- what stands in a type that stands somewhere stands there too

within_in : {x inner whole : TypeTerm} → Within x inner → Within inner whole → Within x whole
within_in w itself = w
within_in w (tagged v) = tagged (within_in w v)
within_in w (element v) = element (within_in w v)
within_in w (component is v) = component is (within_in w v)
within_in w (alternative is v) = alternative is (within_in w v)

pub stands_in : {ms : List ModuleTerm} {document m : ℕ} {inner of : TypeTerm} → Within inner of →
    Stands ms document m of → Stands ms document m inner
stands_in w stands = record { of = stands.of; assigned = stands.assigned; within = within_in w stands.within }

-- ---- the nodes of parts

pub record Rest (P : ℕ → Type 0) (whole : ℕ) : Type 0 where
  pub nodes : ℕ
  pub has : P nodes
  pub is : whole ≡ 1 + nodes

pub under_nodes : {ms : List ModuleTerm} {m whole : ℕ} {tag : TagTerm} {mode : Option Token} {of : TypeTerm} →
    HasNodes ms m (Under tag mode of) whole → Rest (HasNodes ms m of) whole
under_nodes (nodes_tagged {n = n} h) = record { nodes = n; has = h; is = refl }

pub element_nodes : {ms : List ModuleTerm} {m whole : ℕ} {word : Token} {size : Option (List RangeTerm)}
    {of : TypeTerm} → HasNodes ms m (Repeated word size of) whole → Rest (HasNodes ms m of) whole
element_nodes (nodes_repeated {n = n} h) = record { nodes = n; has = h; is = refl }

pub structure_nodes : {ms : List ModuleTerm} {m whole : ℕ} {word : Token} {members : MemberTerms}
    {limits : List LimitTerm} → HasNodes ms m (Structure word members limits) whole →
    Rest (HaveNodes ms m members) whole
structure_nodes (nodes_structure {n = n} h) = record { nodes = n; has = h; is = refl }

pub alternatives_nodes : {ms : List ModuleTerm} {m whole : ℕ} {word : Token} {members : MemberTerms}
    {limits : List LimitTerm} → HasNodes ms m (Alternatives word members limits) whole →
    Rest (HaveNodes ms m members) whole
alternatives_nodes (nodes_alternatives {n = n} h) = record { nodes = n; has = h; is = refl }

pub measured_tagged : {ms : List ModuleTerm} {m most : ℕ} {tag : TagTerm} {mode : Option Token} {of : TypeTerm} →
    IsMeasured ms m (Under tag mode of) (most + 1) → IsMeasured ms m of most
measured_tagged whole =
    let rest = under_nodes whole.has in record {
      faultless = whole.faultless;
      document = whole.document;
      stands = stands_in (tagged itself) whole.stands;
      nodes = rest.nodes;
      has = rest.has;
      within = omega (arith, whole.within, rest.is);
      few = omega (arith, whole.few, rest.is);
    }

pub measured_element : {ms : List ModuleTerm} {m most : ℕ} {word : Token} {size : Option (List RangeTerm)}
    {of : TypeTerm} → IsMeasured ms m (Repeated word size of) (most + 1) → IsMeasured ms m of most
measured_element whole =
    let rest = element_nodes whole.has in record {
      faultless = whole.faultless;
      document = whole.document;
      stands = stands_in (element itself) whole.stands;
      nodes = rest.nodes;
      has = rest.has;
      within = omega (arith, whole.within, rest.is);
      few = omega (arith, whole.few, rest.is);
    }

-- ---- the members

record OneOf (ms : List ModuleTerm) (m : ℕ) (members : List OneMember) (x : OneMember) (whole : ℕ) : Type 0 where
  place : ℕ
  is_member : IsMember (members_listed members) place x.of x.presence
  nodes : ℕ
  has : HasNodes ms m x.of nodes
  within : nodes ≤ whole

one_of : {ms : List ModuleTerm} {m whole : ℕ} (members : List OneMember) (x : OneMember) → Contains members x →
    HaveNodes ms m (members_listed members) whole → OneOf ms m members x whole
one_of [] x (k, within, is) have = absurd (omega (arith, within))
one_of {ms = ms} {m = m} (y ∷ members) x (zero, within, is) (nodes_member {n = n} h rest) = record {
  place = 0;
  is_member = subst (λ z. IsMember (members_listed (y ∷ members)) 0 z.of z.presence) is first;
  nodes = n;
  has = subst (λ z. HasNodes ms m z.of n) is h;
  within = omega arith;
}
one_of (y ∷ members) x (suc k, within, is) (nodes_member {n = n} {k = others} h rest) =
    let further = one_of {whole = others} members x (k, omega (arith, within), is) rest in record {
      place = suc further.place;
      is_member = behind further.is_member;
      nodes = further.nodes;
      has = further.has;
      within = omega (arith, further.within);
    }

pub measured_structure : {ms : List ModuleTerm} {m most : ℕ} {word : Token} (members : List OneMember)
    {limits : List LimitTerm} → IsMeasured ms m (Structure word (members_listed members) limits) (most + 1) →
    AreMeasured ms m members most
measured_structure members whole =
    let rest = structure_nodes whole.has in record {
      faultless = whole.faultless;
      each = λ x there. let one = one_of members x there rest.has in record {
        faultless = whole.faultless;
        document = whole.document;
        stands = stands_in (component one.is_member itself) whole.stands;
        nodes = one.nodes;
        has = one.has;
        within = omega (arith, one.within, whole.within, rest.is);
        few = omega (arith, one.within, whole.few, rest.is);
      };
      nodes = rest.nodes;
      have = rest.has;
      few = omega (arith, whole.few, rest.is);
    }

pub measured_alternatives : {ms : List ModuleTerm} {m most : ℕ} {word : Token} (members : List OneMember)
    {limits : List LimitTerm} → IsMeasured ms m (Alternatives word (members_listed members) limits) (most + 1) →
    AreMeasured ms m members most
measured_alternatives members whole =
    let rest = alternatives_nodes whole.has in record {
      faultless = whole.faultless;
      each = λ x there. let one = one_of members x there rest.has in record {
        faultless = whole.faultless;
        document = whole.document;
        stands = stands_in (alternative one.is_member itself) whole.stands;
        nodes = one.nodes;
        has = one.has;
        within = omega (arith, one.within, whole.within, rest.is);
        few = omega (arith, one.within, whole.few, rest.is);
      };
      nodes = rest.nodes;
      have = rest.has;
      few = omega (arith, whole.few, rest.is);
    }
