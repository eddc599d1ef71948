-- ValueLinkLaws: the numbers of values, as chains of names lead to them.
use Rattle.std.specs.Prelude.{◌≡◌, ℕ, ℤ, List, Bool, Option, None, Some, map, refl, slice_get}
use Rattle.std.proofs.Common.{ap, sym, subst, ◌∙◌}
use Rattle.token_grammar.specs.declared.token.Token.{Token}
use Rattle.link_graphs.specs.ChainEnds.{AreEnds, EndsAt}
use Rattle.link_graphs.specs.ChainEnds.EndsAt.{itself as ends_itself, onward}
use Rattle.link_graphs.specs.declared.chains.Link.{Link}
use Rattle.link_graphs.specs.declared.chains.Link.TheVariants.{End, Next, Stop}
use Rattle.asn1_names.specs.AssignmentNumbers.{Numbered, assignment_count, numbered_at}
use Rattle.asn1_names.specs.CodeMeanings.{IsValueNumber}
use Rattle.asn1_names.specs.ModuleTerms.{ModuleTerm, NumberTerm, TypeTerm}
use Rattle.asn1_names.specs.ModuleTerms.NumberTerm.{Digits, Called}
use Rattle.asn1_names.specs.TypeBase.{HasNamedNumber}
use Rattle.asn1_names.specs.WholeNumbers.{IsNumber}
use Rattle.asn1_names.specs.WholeNumbers.IsNumber.{digits, value, named_value}
use Rattle.asn1_names.proofs.OneNumber.{one_named}
use Rattle.asn1_numbers.specs.NumberedBases.{held_in}
use Rattle.asn1_numbers.specs.NumberedValues.{AreValues, AssignsStated, HasValue, IsValueLink, IsValueOf, LeadsToValue}
use Rattle.asn1_numbers.specs.NumberedValues.{LinksNumber, TellsSaid, TellsValue, number_meaning, value_at_end}
use Rattle.asn1_numbers.specs.NumberedValues.IsValueOf.{digits as value_digits, named_number}
use Rattle.asn1_numbers.proofs.HeldLaws.{PairIs, beside, get_map, get_mapped, held_some, none_some}
use Rattle.asn1_numbers.proofs.HeldLaws.{pair_at, some_held}
use Rattle.asn1_numbers.proofs.StandingLaws.{number_within}
use Rattle.asn1_numbers.proofs.ValueLaws.{at_number, meant_value, one_stated, one_value, value_number}
use Rattle.asn1_numbers.proofs.ValueLaws.{value_of_stated}

-- ---- the link of an assignment

-- digits
pub digits_link : (ms : List ModuleTerm) (k m : ℕ) (of : TypeTerm) (minus : Bool) (token : Token) (told : Option ℤ) →
    AssignsStated ms k m of (Some (Digits minus token)) → TellsSaid ms m (Digits minus token) told →
    TellsValue ms k told
digits_link ms k m of minus token None assigns unless =
    λ n has. by (value_of_stated ms k m of (Digits minus token) n assigns has)
  where
    by : {n : ℤ} → IsValueOf ms m of (Digits minus token) n → ⊥
    by (value_digits h) = unless _ h
digits_link ms k m of minus token (Some n) assigns said = record {
  m = m;
  of = of;
  stated = Digits minus token;
  assigns = assigns;
  is = value_digits said;
}

-- a name that is no named number of its type
pub unnamed_link : (ms : List ModuleTerm) (k m : ℕ) (of : TypeTerm) (name : Token) →
    AssignsStated ms k m of (Some (Called name)) →
    ((w : ℕ) (said : NumberTerm) → HasNamedNumber ms m of name w said → ⊥) → (n : ℤ) → HasValue ms k n → ⊥
unnamed_link ms k m of name assigns unless = λ n has. by (value_of_stated ms k m of (Called name) n assigns has)
  where
    by : {n : ℤ} → IsValueOf ms m of (Called name) n → ⊥
    by (named_number has h) = unless _ _ has

-- the number of the named number that the value is
number_said : (ms : List ModuleTerm) (k m w : ℕ) (of : TypeTerm) (name : Token) (further : NumberTerm) (n : ℤ) →
    AssignsStated ms k m of (Some (Called name)) → HasNamedNumber ms m of name w further → HasValue ms k n →
    IsNumber ms w further n
number_said ms k m w of name further n assigns has is =
    by (value_of_stated ms k m of (Called name) n assigns is)
  where
    by : IsValueOf ms m of (Called name) n → IsNumber ms w further n
    by (named_number {w = v} {number = own} its h) =
        at_number (λ a b. IsNumber ms a b n) w v further own (one_named has its) h

pub said_value : (ms : List ModuleTerm) (k m w : ℕ) (of : TypeTerm) (name : Token) (further : NumberTerm) (n : ℤ) →
    AssignsStated ms k m of (Some (Called name)) → HasNamedNumber ms m of name w further → IsNumber ms w further n →
    HasValue ms k n
said_value ms k m w of name further n assigns has said = record {
  m = m;
  of = of;
  stated = Called name;
  assigns = assigns;
  is = named_number has said;
}

-- a named number of its type
pub named_link : (ms : List ModuleTerm) (k m w : ℕ) (of : TypeTerm) (name : Token) (further : NumberTerm) (link : Link)
    (told : Option ℤ) → AssignsStated ms k m of (Some (Called name)) → HasNamedNumber ms m of name w further →
    LinksNumber ms w further link told → IsValueLink ms k link told
named_link ms k m w of name further End None assigns has unless =
    λ n is. unless n (number_said ms k m w of name further n assigns has is)
named_link ms k m w of name further End (Some n) assigns has said =
    said_value ms k m w of name further n assigns has said
named_link ms k m w of name further (Next next) told assigns has means = record {
  m = m;
  of = of;
  name = name;
  assigns = assigns;
  w = w;
  further = further;
  has = has;
  means = means;
}
named_link ms k m w of name further Stop told assigns has unless =
    λ n is. unless n (number_said ms k m w of name further n assigns has is)

-- ---- from a chain to a number

value_on : (ms : List ModuleTerm) (k next : ℕ) (n : ℤ) → LeadsToValue ms k next → HasValue ms next n → HasValue ms k n
value_on ms k next n leads has =
    said_value ms k leads.m leads.w leads.of leads.name leads.further n leads.assigns leads.has
    (value_number ms next leads.w leads.further n leads.means has)

pub end_value : {ms : List ModuleTerm} {links : List Link} {own : List (Option ℤ)} {size k end : ℕ} →
    PairIs (IsValueLink ms) size links own → EndsAt links k end → (n : ℤ) → slice_get own end ≡ Some (Some n) →
    HasValue ms k n
end_value {k = k} pairs (ends_itself at) n said = pairs.each k End (Some n) at said
end_value {ms = ms} {k = k} pairs (onward {next = next} at rest) n said =
    let link = beside pairs at in
    value_on ms k next n link.2 (end_value pairs rest n said)

-- ---- from a number to a chain

-- the chain of an assignment ends where the number stands
pub record EndsWith (links : List Link) (own : List (Option ℤ)) (k : ℕ) (n : ℤ) : Type 0 where
  pub end : ℕ
  pub ends : EndsAt links k end
  pub said : slice_get own end ≡ Some (Some n)

ends_on : {links : List Link} {own : List (Option ℤ)} {k next : ℕ} {n : ℤ} → slice_get links k ≡ Some (Next next) →
    EndsWith links own next n → EndsWith links own k n
ends_on at rest = record { end = rest.end; ends = onward at rest.ends; said = rest.said }

-- by the link of an assignment whose value is a number, and by what is known where it leads on
ends_by : (ms : List ModuleTerm) (links : List Link) (own : List (Option ℤ)) (k : ℕ) (n : ℤ) (link : Link)
    (told : Option ℤ) → slice_get links k ≡ Some link → slice_get own k ≡ Some told → HasValue ms k n →
    IsValueLink ms k link told → ((next : ℕ) → LeadsToValue ms k next → EndsWith links own next n) →
    EndsWith links own k n
ends_by ms links own k n End None at said has unless rest = absurd (unless n has)
ends_by ms links own k n End (Some p) at said has is rest = record {
  end = k;
  ends = ends_itself at;
  said = said ∙ ap (λ x. Some (Some x)) (one_value ms k p n is has);
}
ends_by ms links own k n (Next next) told at said has leads rest = ends_on at (rest next leads)
ends_by ms links own k n Stop told at said has unless rest = absurd (unless n has)

not_called : (minus : Bool) (token name : Token) → Some (Digits minus token) ≡ Some (Called name) → ⊥
not_called minus token name h = absurd (cc)

same_called : (one other : Token) → Some (Called one) ≡ Some (Called other) → one ≡ other
same_called one other h = cc

-- where a named number of a value leads on, the name means the value of the next assignment
meant_next : (ms : List ModuleTerm) (k next m w : ℕ) (of : TypeTerm) (name : Token) (further : NumberTerm) →
    AssignsStated ms k m of (Some (Called name)) → HasNamedNumber ms m of name w further → LeadsToValue ms k next →
    IsValueNumber ms next (number_meaning ms w further)
meant_next ms k next m w of name further assigns has leads =
    let same = one_stated ms k leads.m m leads.of of (Some (Called leads.name)) (Some (Called name)) leads.assigns
    assigns in
    let called = same_called leads.name name same.2 in
    let its : HasNamedNumber ms m of name leads.w leads.further =
    subst (λ x. HasNamedNumber ms m of x leads.w leads.further) called
    (subst (λ x. HasNamedNumber ms m x leads.name leads.w leads.further) same.1
    (subst (λ v. HasNamedNumber ms v leads.of leads.name leads.w leads.further) same.0 leads.has)) in
    at_number (λ a b. IsValueNumber ms next (number_meaning ms a b)) w leads.w further leads.further
    (one_named has its) leads.means

links_at : {ms : List ModuleTerm} {links : List Link} {own : List (Option ℤ)} {k : ℕ} →
    PairIs (IsValueLink ms) (assignment_count ms) links own → (x : Numbered) → numbered_at ms k ≡ Some x →
    (link : Link) × (told : Option ℤ) × (slice_get links k ≡ Some link) × (slice_get own k ≡ Some told)
    × IsValueLink ms k link told
links_at {ms = ms} {k = k} pairs x at = pair_at pairs (number_within ms k x at)

pub number_ends : {ms : List ModuleTerm} {links : List Link} {own : List (Option ℤ)} {m : ℕ} {number : NumberTerm}
    {n : ℤ} → PairIs (IsValueLink ms) (assignment_count ms) links own → IsNumber ms m number n → (k : ℕ) →
    IsValueNumber ms k (number_meaning ms m number) → EndsWith links own k n
number_ends pairs (digits spelt is fits) k means = absurd (let e = means.is in cc)
number_ends {ms = ms} {links = links} {own = own} {n = n} pairs
    (value {v = v} {i = i} {digits = token} {of = of} {minus = minus} {text = text} means h) k is =
    let assigns = meant_value ms k v i of (Some (Digits minus token)) text _ means is in
    let link = links_at pairs is.numbered is.at in
    ends_by ms links own k n link.0 link.1 link.2 link.3
    (record { m = v; of = of; stated = Digits minus token; assigns = assigns; is = value_digits h }) link.4
    (λ next leads. absurd (not_called minus token leads.name
    (one_stated ms k v leads.m of leads.of (Some (Digits minus token)) (Some (Called leads.name)) assigns
    leads.assigns).2))
number_ends {ms = ms} {links = links} {own = own} {n = n} pairs
    (named_value {v = v} {i = i} {w = w} {called = called} {of = of} {text = text} {number = further} means has h) k
    is =
    let assigns = meant_value ms k v i of (Some (Called called)) text _ means is in
    let link = links_at pairs is.numbered is.at in
    ends_by ms links own k n link.0 link.1 link.2 link.3
    (said_value ms k v w of called further n assigns has h) link.4
    (λ next leads. number_ends pairs h next (meant_next ms k next v w of called further assigns has leads))

-- the same of each assignment whose value is a number
pub value_ends : {ms : List ModuleTerm} {links : List Link} {own : List (Option ℤ)} {n : ℤ} →
    PairIs (IsValueLink ms) (assignment_count ms) links own → (k : ℕ) → HasValue ms k n → EndsWith links own k n
value_ends {ms = ms} {links = links} {own = own} {n = n} pairs k has =
    let link = links_at pairs has.assigns.numbered has.assigns.at in
    ends_by ms links own k n link.0 link.1 link.2 link.3 has link.4
    (λ next leads. number_ends pairs
    (number_said ms k leads.m leads.w leads.of leads.name leads.further n leads.assigns leads.has has) next
    leads.means)

-- ---- what the numbers at the ends of the chains tell

held_mapped : (own : List (Option ℤ)) (ends : List (Option ℕ)) (k : ℕ) (n : ℤ) →
    held_in (map (value_at_end own) ends) k ≡ Some n →
    (end : ℕ) × (slice_get ends k ≡ Some (Some end)) × (slice_get own end ≡ Some (Some n))
held_mapped own ends k n h =
    let found = get_mapped (value_at_end own) ends k (Some n) (held_some (map (value_at_end own) ends) k n h) in
    by found.0 found.1 found.2
  where
    by : (end : Option ℕ) → slice_get ends k ≡ Some end → value_at_end own end ≡ Some n →
        (e : ℕ) × (slice_get ends k ≡ Some (Some e)) × (slice_get own e ≡ Some (Some n))
    by None at is = none_some n is
    by (Some e) at is = (e, at, held_some own e n is)

mapped_held : (own : List (Option ℤ)) (ends : List (Option ℕ)) (k end : ℕ) (n : ℤ) →
    slice_get ends k ≡ Some (Some end) → slice_get own end ≡ Some (Some n) →
    held_in (map (value_at_end own) ends) k ≡ Some n
mapped_held own ends k end n at said =
    some_held (map (value_at_end own) ends) k n
    (get_map (value_at_end own) ends k (Some end) at ∙ ap Some (some_held own end n said))

pub values_told : (ms : List ModuleTerm) (links : List Link) (own : List (Option ℤ)) (ends : List (Option ℕ)) →
    PairIs (IsValueLink ms) (assignment_count ms) links own → AreEnds links ends →
    AreValues ms (map (value_at_end own) ends)
values_told ms links own ends pairs are = λ k. by k (held_in (map (value_at_end own) ends) k) refl
  where
    by : (k : ℕ) (told : Option ℤ) → held_in (map (value_at_end own) ends) k ≡ told → TellsValue ms k told
    by k None is = λ n has.
        let found = value_ends pairs k has in
        none_some n (sym is ∙ mapped_held own ends k found.end n (are.told k found.end found.ends) found.said)
    by k (Some n) is =
        let found = held_mapped own ends k n is in
        end_value pairs (are.leads k found.0 found.1) n found.2
