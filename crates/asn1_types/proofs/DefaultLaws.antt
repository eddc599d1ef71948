-- DefaultLaws: which text of DEFAULT stands at a path of a type (X.680, section 25.1; docs/PROFILE.md, section 11).
use Rattle.std.proofs.Common.{◌≡◌, ◌≤◌, ◌+◌, ◌-◌, ℕ, zero, suc, List, [], ◌∷◌, Option, None, Some, arith, drop, get_or}
use Rattle.std.proofs.Common.{◌∙◌, ap, false, length, map, refl, sym, take, true, true≢false}
use Rattle.std.specs.Bool.{◌==◌}
use Rattle.std.proofs.Math.Path.{subst}
use Rattle.std.proofs.lemmas.Bool.{eqb-true}
use Rattle.std.proofs.lemmas.Slice.{first_rest}
use Rattle.std.specs.Prelude.{slice_get}
use Rattle.token_grammar.specs.Form.{Tree}
use Rattle.token_grammar.specs.declared.token.Token.{Token}
use Rattle.asn1_syntax.specs.declared.type_text.Alternative.{Alternative}
use Rattle.asn1_syntax.specs.declared.type_text.Component.{Component}
use Rattle.asn1_names.specs.Containment.{IsMember, Within}
use Rattle.asn1_names.specs.Containment.IsMember.{behind, first}
use Rattle.asn1_names.specs.Containment.Within.{alternative as within_alternative, component as within_component}
use Rattle.asn1_names.specs.Containment.Within.{element as within_element, itself, tagged as within_tagged}
use Rattle.asn1_names.specs.DefaultTexts.{HasDefault}
use Rattle.asn1_names.specs.DefaultTexts.HasDefault.{alternative, component, element, here, named, tagged}
use Rattle.asn1_names.specs.ModuleTerms.{LimitTerm, MemberTerms, ModuleTerm, PresenceTerm, RangeTerm, TagTerm}
use Rattle.asn1_names.specs.ModuleTerms.{TypeTerm}
use Rattle.asn1_names.specs.ModuleTerms.PresenceTerm.{DefaultTerm, Needed}
use Rattle.asn1_names.specs.ModuleTerms.TypeTerm.{Alternatives, Repeated, Structure, Under}
use Rattle.asn1_names.specs.NodeCount.{HasNodes, HaveNodes}
use Rattle.asn1_names.specs.NodeCount.HaveNodes.{member as nodes_member}
use Rattle.asn1_names.specs.TermViews.{presence_term, type_term}
use Rattle.asn1_names.proofs.TableAnswers.{some_is}
use Rattle.asn1_types.specs.BuiltSyntaxes.{alternative_member, component_member}
use Rattle.asn1_types.specs.MeasuredTypes.{IsMeasured, OneMember, members_listed}
use Rattle.asn1_types.specs.SoughtDefaults.{HasFewer, StandsWithin, TellsSought}
use Rattle.asn1_types.specs.declared.defaults.Sought.{Sought}
use Rattle.asn1_types.proofs.MeasuredLaws.{alternatives_nodes, element_nodes, stands_in, structure_nodes, under_nodes}

-- no text stands at no path
pub never_empty : {ms : List ModuleTerm} {m w : ℕ} {of : TypeTerm} {text : Tree} → HasDefault ms m of [] w text → ⊥
never_empty (tagged h) = never_empty h
never_empty (element h) = never_empty h
never_empty (named e h) = never_empty h

-- a place has one member
pub one_member : {members : MemberTerms} {k : ℕ} {of other : TypeTerm} {presence its : PresenceTerm} →
    IsMember members k of presence → IsMember members k other its → (of ≡ other) × (presence ≡ its)
one_member first first = (refl, refl)
one_member (behind is) (behind also) = one_member is also

-- ---- what stands in a type has fewer nodes

has_fewer : {ms : List ModuleTerm} {m most nodes : ℕ} {of inner : TypeTerm} → Within inner of →
    (whole : IsMeasured ms m of most) → HasNodes ms m inner nodes → nodes + 1 ≤ whole.nodes →
    (less : ℕ) × (most ≡ less + 1) × IsMeasured ms m inner less
has_fewer {most = most} {nodes = nodes} within whole has smaller = (
  most - 1,
  omega (arith, smaller, whole.within),
  record {
    faultless = whole.faultless;
    document = whole.document;
    stands = stands_in within whole.stands;
    nodes = nodes;
    has = has;
    within = omega (arith, smaller, whole.within);
    few = omega (arith, smaller, whole.few);
  },
)

member_nodes : {ms : List ModuleTerm} {m k whole : ℕ} {members : MemberTerms} {of : TypeTerm}
    {presence : PresenceTerm} → IsMember members k of presence → HaveNodes ms m members whole →
    (n : ℕ) × HasNodes ms m of n × (n ≤ whole)
member_nodes first (nodes_member {n = n} h rest) = (n, h, omega arith)
member_nodes (behind is) (nodes_member h rest) =
    let further = member_nodes is rest in (further.0, further.1, omega (arith, further.2))

component_fewer : {ms : List ModuleTerm} {m k : ℕ} {word : Token} {members : MemberTerms} {limits : List LimitTerm}
    {of : TypeTerm} {presence : PresenceTerm} → IsMember members k of presence →
    HasFewer ms m (Structure word members limits) m of
component_fewer there = λ most whole.
    let rest = structure_nodes whole.has in
    let one = member_nodes there rest.has in
    has_fewer (within_component there itself) whole one.1 (omega (arith, one.2, rest.is))

alternative_fewer : {ms : List ModuleTerm} {m k : ℕ} {word : Token} {members : MemberTerms} {limits : List LimitTerm}
    {of : TypeTerm} {presence : PresenceTerm} → IsMember members k of presence →
    HasFewer ms m (Alternatives word members limits) m of
alternative_fewer there = λ most whole.
    let rest = alternatives_nodes whole.has in
    let one = member_nodes there rest.has in
    has_fewer (within_alternative there itself) whole one.1 (omega (arith, one.2, rest.is))

-- ---- the member that a list has at a place, and none behind its end

pub member_got : {X : Type 0} (f : X → OneMember) (xs : List X) (k : ℕ) (x : X) → slice_get xs k ≡ Some x →
    IsMember (members_listed (map f xs)) k (f x).of (f x).presence
member_got f [] k x is = absurd (cc)
member_got f (y ∷ xs) zero x is =
    subst (λ z. IsMember (members_listed (map f (y ∷ xs))) 0 (f z).of (f z).presence) (some_is y x is) first
member_got f (y ∷ xs) (suc k) x is = behind (member_got f xs k x is)

pub no_member : {X : Type 0} (f : X → OneMember) (xs : List X) (k : ℕ) (of : TypeTerm) (presence : PresenceTerm) →
    slice_get xs k ≡ None → IsMember (members_listed (map f xs)) k of presence → ⊥
no_member f [] k of presence is there = elim there [ ]
no_member f (y ∷ xs) zero of presence is there = none_some y is
  where
    none_some : {X : Type 0} (z : X) → Some z ≡ None → ⊥
    none_some z h = absurd (cc)
no_member f (y ∷ xs) (suc k) of presence is (behind there) = no_member f xs k of presence is there

-- ---- a component

-- a path that ends here, and one that goes on
pub no_length : (path : List ℕ) → (length path == 0) ≡ true → path ≡ []
no_length [] is = refl
no_length (k ∷ path) is = absurd (omega (arith, eqb-true (length (k ∷ path)) 0 is))

pub some_length : (path : List ℕ) → (length path == 0) ≡ false → ¬ (path ≡ [])
some_length path some none = true≢false (sym (ap (λ p. length p == 0) none) ∙ some)

pub component_here : {ms : List ModuleTerm} {m : ℕ} {word : Token} {members : MemberTerms} {limits : List LimitTerm}
    {of : TypeTerm} {presence : PresenceTerm} (k : ℕ) (path : List ℕ) (text : Tree) → path ≡ [] →
    IsMember members k of presence → presence ≡ DefaultTerm text →
    HasDefault ms m (Structure word members limits) (k ∷ path) m text
component_here {ms = ms} {m = m} {word = word} {members = members} {limits = limits} {of = of} k path text none there
    is = subst (λ p. HasDefault ms m (Structure word members limits) (k ∷ p) m text) (sym none)
    (here (subst (λ p. IsMember members k of p) is there))

nowhere : {ms : List ModuleTerm} {m k w : ℕ} {word : Token} {members : MemberTerms} {limits : List LimitTerm}
    {of : TypeTerm} {presence : PresenceTerm} {text : Tree} → IsMember members k of presence →
    ((other : Tree) → ¬ (presence ≡ DefaultTerm other)) →
    HasDefault ms m (Structure word members limits) (k ∷ []) w text → ⊥
nowhere {text = text} there none (here also) = none text (one_member there also).1
nowhere there none (component also h) = never_empty h

pub component_nowhere : {ms : List ModuleTerm} {m : ℕ} {word : Token} {members : MemberTerms}
    {limits : List LimitTerm} {of : TypeTerm} {presence : PresenceTerm} (k : ℕ) (path : List ℕ) → path ≡ [] →
    IsMember members k of presence → ((other : Tree) → ¬ (presence ≡ DefaultTerm other)) → (w : ℕ) (text : Tree) →
    HasDefault ms m (Structure word members limits) (k ∷ path) w text → ⊥
component_nowhere {ms = ms} {m = m} {word = word} {members = members} {limits = limits} k path ended there none w text
    h = nowhere there none
    (subst (λ p. HasDefault ms m (Structure word members limits) (k ∷ p) w text) ended h)

component_down : {ms : List ModuleTerm} {m k : ℕ} {word : Token} {members : MemberTerms} {limits : List LimitTerm}
    {of : TypeTerm} {presence : PresenceTerm} (path : List ℕ) → ¬ (path ≡ []) → IsMember members k of presence →
    (w : ℕ) (text : Tree) → HasDefault ms m (Structure word members limits) (k ∷ path) w text →
    HasDefault ms m of path w text
component_down path some there w text (here also) = absurd (some refl)
component_down {ms = ms} {m = m} path some there w text (component also h) =
    subst (λ t. HasDefault ms m t path w text) (sym (one_member there also).0) h

pub component_within : {ms : List ModuleTerm} {m k : ℕ} {word : Token} {members : MemberTerms}
    {limits : List LimitTerm} {of : TypeTerm} {presence : PresenceTerm} (path : List ℕ) → ¬ (path ≡ []) →
    IsMember members k of presence →
    StandsWithin ms m (Structure word members limits) (k ∷ path) m of path
    × HasFewer ms m (Structure word members limits) m of
component_within path some there = (
  record { down = component_down path some there; up = λ w text h. component there h },
  component_fewer there,
)

pub component_missing : {ms : List ModuleTerm} {m k : ℕ} {word : Token} {members : MemberTerms}
    {limits : List LimitTerm} {path : List ℕ} →
    ((of : TypeTerm) (presence : PresenceTerm) → ¬ IsMember members k of presence) → (w : ℕ) (text : Tree) →
    HasDefault ms m (Structure word members limits) (k ∷ path) w text → ⊥
component_missing none w text (here there) = none _ _ there
component_missing none w text (component there h) = none _ _ there

-- ---- an alternative

alternative_down : {ms : List ModuleTerm} {m k : ℕ} {word : Token} {members : MemberTerms} {limits : List LimitTerm}
    {of : TypeTerm} {presence : PresenceTerm} (path : List ℕ) → IsMember members k of presence → (w : ℕ)
    (text : Tree) → HasDefault ms m (Alternatives word members limits) (k ∷ path) w text →
    HasDefault ms m of path w text
alternative_down {ms = ms} {m = m} path there w text (alternative also h) =
    subst (λ t. HasDefault ms m t path w text) (sym (one_member there also).0) h

pub alternative_within : {ms : List ModuleTerm} {m k : ℕ} {word : Token} {members : MemberTerms}
    {limits : List LimitTerm} {of : TypeTerm} {presence : PresenceTerm} (path : List ℕ) →
    IsMember members k of presence →
    StandsWithin ms m (Alternatives word members limits) (k ∷ path) m of path
    × HasFewer ms m (Alternatives word members limits) m of
alternative_within path there = (
  record { down = alternative_down path there; up = λ w text h. alternative there h },
  alternative_fewer there,
)

pub alternative_missing : {ms : List ModuleTerm} {m k : ℕ} {word : Token} {members : MemberTerms}
    {limits : List LimitTerm} {path : List ℕ} →
    ((of : TypeTerm) (presence : PresenceTerm) → ¬ IsMember members k of presence) → (w : ℕ) (text : Tree) →
    HasDefault ms m (Alternatives word members limits) (k ∷ path) w text → ⊥
alternative_missing none w text (alternative there h) = none _ _ there

-- ---- what is tagged, and elements

tagged_down : {ms : List ModuleTerm} {m : ℕ} {tag : TagTerm} {mode : Option Token} {of : TypeTerm} (path : List ℕ)
    (w : ℕ) (text : Tree) → HasDefault ms m (Under tag mode of) path w text → HasDefault ms m of path w text
tagged_down path w text (tagged h) = h

pub tagged_within : {ms : List ModuleTerm} {m : ℕ} {tag : TagTerm} {mode : Option Token} {of : TypeTerm}
    (path : List ℕ) → StandsWithin ms m (Under tag mode of) path m of path × HasFewer ms m (Under tag mode of) m of
tagged_within path = (
  record { down = tagged_down path; up = λ w text h. tagged h },
  λ most whole. let rest = under_nodes whole.has in
      has_fewer (within_tagged itself) whole rest.has (omega (arith, rest.is)),
)

element_down : {ms : List ModuleTerm} {m : ℕ} {word : Token} {size : Option (List RangeTerm)} {of : TypeTerm}
    (path : List ℕ) (w : ℕ) (text : Tree) → HasDefault ms m (Repeated word size of) path w text →
    HasDefault ms m of path w text
element_down path w text (element h) = h

pub element_within : {ms : List ModuleTerm} {m : ℕ} {word : Token} {size : Option (List RangeTerm)} {of : TypeTerm}
    (path : List ℕ) → StandsWithin ms m (Repeated word size of) path m of path
    × HasFewer ms m (Repeated word size of) m of
element_within path = (
  record { down = element_down path; up = λ w text h. element h },
  λ most whole. let rest = element_nodes whole.has in
      has_fewer (within_element itself) whole rest.has (omega (arith, rest.is)),
)

-- ---- what is told of a type is told of one that is the same

pub within_told : (ms : List ModuleTerm) (m : ℕ) (whole other inner its : TypeTerm) (path : List ℕ) → whole ≡ other →
    inner ≡ its → StandsWithin ms m other path m its path × HasFewer ms m other m its →
    StandsWithin ms m whole path m inner path × HasFewer ms m whole m inner
within_told ms m whole other inner its path same also told =
    subst (λ t. StandsWithin ms m t path m inner path × HasFewer ms m t m inner) (sym same)
    (subst (λ t. StandsWithin ms m other path m t path × HasFewer ms m other m t) (sym also) told)

-- a path that begins with a number
pub path_led : (path : List ℕ) → 1 ≤ length path → path ≡ get_or path 0 0 ∷ take (length path - 1) (drop 1 path)
path_led path some = first_rest path 0 (omega (arith, some))

pub component_told : (ms : List ModuleTerm) (m : ℕ) (word : Token) (limits : List LimitTerm) (xs : List Component)
    (path rest : List ℕ) (k : ℕ) (x : Component) (told : Sought) → path ≡ k ∷ rest → slice_get xs k ≡ Some x →
    (IsMember (members_listed (map component_member xs)) k (type_term x.of) (presence_term x.presence) →
    TellsSought ms m (Structure word (members_listed (map component_member xs)) limits) (k ∷ rest) m told) →
    TellsSought ms m (Structure word (members_listed (map component_member xs)) limits) path m told
component_told ms m word limits xs path rest k x told led got tells =
    subst (λ p. TellsSought ms m (Structure word (members_listed (map component_member xs)) limits) p m told) (sym led)
    (tells (member_got component_member xs k x got))

pub component_untold : (ms : List ModuleTerm) (m : ℕ) (word : Token) (limits : List LimitTerm) (xs : List Component)
    (path rest : List ℕ) (k : ℕ) → path ≡ k ∷ rest → slice_get xs k ≡ None → (w : ℕ) (text : Tree) →
    HasDefault ms m (Structure word (members_listed (map component_member xs)) limits) path w text → ⊥
component_untold ms m word limits xs path rest k led none w text h =
    component_missing (λ of presence there. no_member component_member xs k of presence none there) w text
    (subst (λ p. HasDefault ms m (Structure word (members_listed (map component_member xs)) limits) p w text) led h)

pub alternative_told : (ms : List ModuleTerm) (m : ℕ) (word : Token) (limits : List LimitTerm)
    (xs : List Alternative) (path rest : List ℕ) (k : ℕ) (x : Alternative) (told : Sought) → path ≡ k ∷ rest →
    slice_get xs k ≡ Some x → (IsMember (members_listed (map alternative_member xs)) k (type_term x.of) Needed →
    TellsSought ms m (Alternatives word (members_listed (map alternative_member xs)) limits) (k ∷ rest) m told) →
    TellsSought ms m (Alternatives word (members_listed (map alternative_member xs)) limits) path m told
alternative_told ms m word limits xs path rest k x told led got tells =
    subst (λ p. TellsSought ms m (Alternatives word (members_listed (map alternative_member xs)) limits) p m told)
    (sym led) (tells (member_got alternative_member xs k x got))

pub alternative_untold : (ms : List ModuleTerm) (m : ℕ) (word : Token) (limits : List LimitTerm)
    (xs : List Alternative) (path rest : List ℕ) (k : ℕ) → path ≡ k ∷ rest → slice_get xs k ≡ None → (w : ℕ)
    (text : Tree) → HasDefault ms m (Alternatives word (members_listed (map alternative_member xs)) limits) path w
    text → ⊥
alternative_untold ms m word limits xs path rest k led none w text h =
    alternative_missing (λ of presence there. no_member alternative_member xs k of presence none there) w text
    (subst (λ p. HasDefault ms m (Alternatives word (members_listed (map alternative_member xs)) limits) p w text) led
    h)
