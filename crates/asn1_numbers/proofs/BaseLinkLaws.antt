-- BaseLinkLaws: the bases of the types of assignments, as chains of names lead to them.
use Rattle.std.specs.Prelude.{◌≡◌, ℕ, List, true, Option, None, Some, refl, slice_get}
use Rattle.std.proofs.Common.{ap, arith, sym, subst, true≢false, ◌∙◌}
use Rattle.std.specs.Borrow.{Bor}
use Rattle.indexmap.specs.IndexMap.{IndexMap}
use Rattle.asn1_values_syntax.specs.declared.numbers.Bound.{Bound}
use Rattle.token_grammar.specs.declared.token.Token.{Token}
use Rattle.term_values.specs.Syntaxes.{TypeSyntax}
use Rattle.link_graphs.specs.ChainEnds.{AreEnds, EndsAt}
use Rattle.link_graphs.specs.ChainEnds.EndsAt.{itself as ends_itself, onward}
use Rattle.link_graphs.specs.declared.chains.Link.{Link}
use Rattle.link_graphs.specs.declared.chains.Link.TheVariants.{End, Next, Stop}
use Rattle.asn1_names.specs.AssignmentNumbers.{assignment_count}
use Rattle.asn1_names.specs.CodeMeanings.{IsTypeNumber, IsTypeOf}
use Rattle.asn1_names.specs.ModuleTerms.{LimitTerm, ModuleTerm, TagTerm, TypeTerm}
use Rattle.asn1_names.specs.ModuleTerms.TypeTerm.{Under, Structure, Repeated, Alternatives, Plain, Reference}
use Rattle.asn1_names.specs.NameMeaning.{Meaning, reference_meaning}
use Rattle.asn1_names.specs.NameMeaning.Meaning.{TypeAt, StandardType}
use Rattle.asn1_names.specs.NumbersFound.{beneath_tags}
use Rattle.asn1_names.specs.Occurrences.{type_assigned}
use Rattle.asn1_names.specs.TypeBase.{Base, HasBase, is_base}
use Rattle.asn1_names.specs.TypeBase.Base.{Written, Standing}
use Rattle.asn1_names.specs.TypeBase.HasBase.{itself, tagged, named, standard}
use Rattle.asn1_names.specs.TypeWalks.{IsNoName}
use Rattle.asn1_names.proofs.OneNumber.{not_both, same_types}
use Rattle.asn1_numbers.specs.NumberedBases.{AreBases, HasBaseAt, IsBaseLink, IsEnd, LeadsOn, TellsBase}
use Rattle.asn1_numbers.specs.NumberedBases.{AreMaps, IsMapOf, held_in, numbers_under}
use Rattle.asn1_numbers.specs.NumberedBases.IsBaseLink.{typed, absent}
use Rattle.asn1_numbers.specs.NumberedBases.IsEnd.{written, standard as ends_standard}
use Rattle.asn1_numbers.proofs.EachLaws.{EachIs, each_at}
use Rattle.asn1_numbers.proofs.HeldLaws.{held_some, none_some, some_held}
use Rattle.asn1_numbers.proofs.LeadingLaws.{same_type, type_within}

-- ---- beneath tags

pub base_beneath : (of : TypeTerm) → IsNoName (beneath_tags of) → is_base (beneath_tags of) ≡ true
base_beneath (Under tag mode of) h = base_beneath of h
base_beneath (Structure word row limits) h = refl
base_beneath (Repeated word size of) h = refl
base_beneath (Alternatives word row limits) h = refl
base_beneath (Plain word plain limits) h = refl
base_beneath (Reference module_name name limits) h = absurd h

pub above_tags : (ms : List ModuleTerm) (m : ℕ) (of : TypeTerm) (base : Base) → HasBase ms m (beneath_tags of) base →
    HasBase ms m of base
above_tags ms m (Under tag mode of) base h = tagged (above_tags ms m of base h)
above_tags ms m (Structure word row limits) base h = h
above_tags ms m (Repeated word size of) base h = h
above_tags ms m (Alternatives word row limits) base h = h
above_tags ms m (Plain word plain limits) base h = h
above_tags ms m (Reference module_name name limits) base h = h

pub below_tags : (ms : List ModuleTerm) (m : ℕ) (of : TypeTerm) (base : Base) → HasBase ms m of base →
    HasBase ms m (beneath_tags of) base
below_tags ms m (Under tag mode of) base h = below_tags ms m of base (untagged h)
  where
    untagged : {ns : List ModuleTerm} {n : ℕ} {t : TagTerm} {word : Option Token} {inner : TypeTerm} {b : Base} →
        HasBase ns n (Under t word inner) b → HasBase ns n inner b
    untagged (itself is) = absurd (true≢false (sym is))
    untagged (tagged k) = k
below_tags ms m (Structure word row limits) base h = h
below_tags ms m (Repeated word size of) base h = h
below_tags ms m (Alternatives word row limits) base h = h
below_tags ms m (Plain word plain limits) base h = h
below_tags ms m (Reference module_name name limits) base h = h

pub end_has : {ms : List ModuleTerm} {m : ℕ} {of : TypeTerm} {base : Base} → IsEnd ms m of base → HasBase ms m of base
end_has (written is) = itself is
end_has (ends_standard means) = standard means

-- ---- where a name leads

-- a name that means neither an assigned type nor one of CMIP-1 has no base
pub nameless : {ms : List ModuleTerm} {m : ℕ} {module_name : Option Token} {name : Token} {limits : List LimitTerm}
    {base : Base} → ((v i : ℕ) (of : TypeTerm) → reference_meaning ms m module_name name ≡ TypeAt v i of → ⊥) →
    ((syntax : TypeSyntax) → reference_meaning ms m module_name name ≡ StandardType syntax → ⊥) →
    HasBase ms m (Reference module_name name limits) base → ⊥
nameless types standards (itself is) = absurd (cc)
nameless types standards (named means h) = types _ _ _ means
nameless types standards (standard means) = standards _ means

-- ---- from a chain to a base

pub number_type : (ms : List ModuleTerm) (k : ℕ) (meaning : Meaning) (is : IsTypeNumber ms k meaning) →
    IsTypeOf ms k is.numbered.in_module is.of
number_type ms k meaning is = record {
  numbered = is.numbered;
  at = is.at;
  module_is = refl;
  is = ap type_assigned is.assigns;
}

pub at_same : (P : ℕ → TypeTerm → Type 0) (m v : ℕ) (of its : TypeTerm) → (m ≡ v) × (of ≡ its) → P m of → P v its
at_same P m v of its same fact = subst (λ x. P x its) same.0 (subst (P m) same.1 fact)

-- the base of the type of an assignment whose type leads on
led_base : (ms : List ModuleTerm) (k next m : ℕ) (of : TypeTerm) (base : Base) → IsTypeOf ms k m of →
    LeadsOn ms m (beneath_tags of) next → ((v : ℕ) (its : TypeTerm) → IsTypeOf ms next v its → HasBase ms v its base) →
    (v : ℕ) (its : TypeTerm) → IsTypeOf ms k v its → HasBase ms v its base
led_base ms k next m of base is leads has = λ v its also.
    at_same (λ n x. HasBase ms n x base) m v of its (same_type ms k m v of its is also)
    (above_tags ms m of base (subst (λ x. HasBase ms m x base) (sym leads.is)
    (named leads.means.is (has _ _ (number_type ms next _ leads.means)))))

base_here : (ms : List ModuleTerm) (k : ℕ) → IsBaseLink ms k End → HasBaseAt ms k k
base_here ms k (typed {m = m} {of = of} is ends) = record {
  home = m;
  whole = of;
  is = is;
  base = ends.0;
  ends = ends.1;
  has = λ v its also. at_same (λ n x. HasBase ms n x ends.0) m v of its (same_type ms k m v of its is also)
      (above_tags ms m of ends.0 (end_has ends.1));
}

base_on : (ms : List ModuleTerm) (k next end : ℕ) → IsBaseLink ms k (Next next) → HasBaseAt ms next end →
    HasBaseAt ms k end
base_on ms k next end (typed {m = m} {of = of} is leads) further = record {
  home = further.home;
  whole = further.whole;
  is = further.is;
  base = further.base;
  ends = further.ends;
  has = led_base ms k next m of further.base is leads further.has;
}

pub end_base : {ms : List ModuleTerm} {links : List Link} {n k end : ℕ} → EachIs (IsBaseLink ms) n links →
    EndsAt links k end → HasBaseAt ms k end
end_base {ms = ms} {k = k} each (ends_itself at) = base_here ms k (each.each k End at)
end_base {ms = ms} {k = k} {end = end} each (onward {next = next} at rest) =
    base_on ms k next end (each.each k (Next next) at) (end_base each rest)

-- ---- from a base to a chain

abbrev Ended : List Link → ℕ → Type 0
Ended links k = (end : ℕ) × EndsAt links k end

further_end : (links : List Link) (k next : ℕ) → slice_get links k ≡ Some (Next next) → Ended links next →
    Ended links k
further_end links k next at rest = (rest.0, onward at rest.1)

-- by the link of an assignment with a base, and by what is known where it leads on
ended_by : (ms : List ModuleTerm) (links : List Link) (k m : ℕ) (of : TypeTerm) (base : Base) (link : Link) →
    slice_get links k ≡ Some link → IsTypeOf ms k m of → HasBase ms m (beneath_tags of) base → IsBaseLink ms k link →
    ((next : ℕ) → LeadsOn ms m (beneath_tags of) next → Ended links next) → Ended links k
ended_by ms links k m of base End at is has (typed own ends) rest = (k, ends_itself at)
ended_by ms links k m of base (Next next) at is has (typed {m = v} {of = its} own leads) rest =
    further_end links k next at (rest next (at_same (λ n x. LeadsOn ms n (beneath_tags x) next) v m its of
    (same_type ms k v m its of own is) leads))
ended_by ms links k m of base Stop at is has (typed {m = v} {of = its} own stops) rest =
    absurd (at_same (λ n x. (b : Base) → ¬ HasBase ms n (beneath_tags x) b) v m its of
    (same_type ms k v m its of own is) stops base has)
ended_by ms links k m of base Stop at is has (absent nowhere) rest =
    absurd (none_some is.numbered (sym nowhere ∙ is.at))

not_on : (ms : List ModuleTerm) (m next : ℕ) (of : TypeTerm) → LeadsOn ms m of next → is_base of ≡ true → ⊥
not_on ms m next of leads is = absurd (let other = ap is_base leads.is in cc)

same_reference : (module_name its_module : Option Token) (name its_name : Token) (limits its_limits : List LimitTerm) →
    Reference module_name name limits ≡ Reference its_module its_name its_limits →
    (module_name ≡ its_module) × (name ≡ its_name)
same_reference module_name its_module name its_name limits its_limits h = (cc, cc)

-- what the name means through which a type leads on
meant_on : (ms : List ModuleTerm) (m next : ℕ) (module_name : Option Token) (name : Token) (limits : List LimitTerm)
    (leads : LeadsOn ms m (Reference module_name name limits) next) →
    IsTypeNumber ms next (reference_meaning ms m module_name name)
meant_on ms m next module_name name limits leads =
    let same = same_reference module_name leads.module_name name leads.name limits leads.limits leads.is in
    subst (IsTypeNumber ms next) (λ i. reference_meaning ms m (sym same.0 i) (sym same.1 i)) leads.means

-- the assignment with the number of the type that a name means has its type
type_meant : (ms : List ModuleTerm) (next v i : ℕ) (meaning : Meaning) (of : TypeTerm) → meaning ≡ TypeAt v i of →
    IsTypeNumber ms next meaning → IsTypeOf ms next v of
type_meant ms next v i meaning of means is =
    at_same (IsTypeOf ms next) is.numbered.in_module v is.of of
    (same_types meaning is.numbered.in_module is.numbered.place v i is.of of is.is means)
    (number_type ms next meaning is)

untagged_base : (of : TypeTerm) → is_base of ≡ true → beneath_tags of ≡ of
untagged_base (Under tag mode of) h = absurd (cc)
untagged_base (Structure word row limits) h = refl
untagged_base (Repeated word size of) h = refl
untagged_base (Alternatives word row limits) h = refl
untagged_base (Plain word plain limits) h = refl
untagged_base (Reference module_name name limits) h = refl

pub based_end : {ms : List ModuleTerm} {links : List Link} {m : ℕ} {type : TypeTerm} {base : Base} →
    EachIs (IsBaseLink ms) (assignment_count ms) links → HasBase ms m type base → (k : ℕ) (of : TypeTerm) →
    IsTypeOf ms k m of → beneath_tags type ≡ beneath_tags of → Ended links k
based_end {ms = ms} {links = links} {m = m} {base = base} each (itself {of = type} own) k of is beneath =
    let found = each_at (IsBaseLink ms) (assignment_count ms) links k each (type_within ms k m of is) in
    let same : type ≡ beneath_tags of = sym (untagged_base type own) ∙ beneath in
    ended_by ms links k m of (Written m type) found.0 found.1 is
    (subst (λ x. HasBase ms m x (Written m type)) same (itself own)) found.2
    (λ next leads. absurd (not_on ms m next (beneath_tags of) leads (ap is_base (sym same) ∙ own)))
based_end each (tagged h) k of is beneath = based_end each h k of is beneath
based_end {ms = ms} {links = links} {m = m} {base = base} each
    (named {v = v} {i = i} {module_name = module_name} {name = name} {limits = limits} {of = type} means h) k of is
    beneath =
    let found = each_at (IsBaseLink ms) (assignment_count ms) links k each (type_within ms k m of is) in
    ended_by ms links k m of base found.0 found.1 is
    (subst (λ x. HasBase ms m x base) beneath (named means h)) found.2
    (λ next leads. based_end each h next type
    (type_meant ms next v i (reference_meaning ms m module_name name) type means
    (meant_on ms m next module_name name limits (subst (λ x. LeadsOn ms m x next) (sym beneath) leads))) refl)
based_end {ms = ms} {links = links} {m = m} each
    (standard {module_name = module_name} {name = name} {limits = limits} {syntax = syntax} means) k of is beneath =
    let found = each_at (IsBaseLink ms) (assignment_count ms) links k each (type_within ms k m of is) in
    ended_by ms links k m of (Standing syntax) found.0 found.1 is
    (subst (λ x. HasBase ms m x (Standing syntax)) beneath (standard means)) found.2
    (λ next leads. absurd (
    let meant = meant_on ms m next module_name name limits (subst (λ x. LeadsOn ms m x next) (sym beneath) leads) in
    not_both (reference_meaning ms m module_name name) _ _ _ syntax meant.is means))

-- ---- what the ends of the chains tell

pub bases_told : (ms : List ModuleTerm) (links : List Link) (ends : List (Option ℕ)) →
    EachIs (IsBaseLink ms) (assignment_count ms) links → AreEnds links ends → AreBases ms ends
bases_told ms links ends each are = λ k. by k (held_in ends k) refl
  where
    by : (k : ℕ) (told : Option ℕ) → held_in ends k ≡ told → TellsBase ms k told
    by k None is = λ m of base type has.
        let found = based_end each has k of type refl in
        none_some found.0 (sym is ∙ some_held ends k found.0 (are.told k found.0 found.1))
    by k (Some end) is = end_base each (are.leads k end (held_some ends k end is))

-- ---- named numbers

pub maps_told : {S : Type 0} (ms : List ModuleTerm) (n : ℕ) (maps : List (IndexMap (Bor (List ℕ)) (Bor Bound) S)) →
    n ≡ assignment_count ms → EachIs (IsMapOf ms) n maps → AreMaps ms maps
maps_told ms n maps count each = λ k m of is name.
    let within = type_within ms k m of is in
    let found = each_at (IsMapOf ms) n maps k each (omega (arith, within, count)) in
    ap (λ o. numbers_under o name) found.1 ∙ found.2 m of is name
