-- LeadLaws: a key that goes with a name goes with the type to which the name leads, up to the last one; each name with
-- a key leads to an end.
use Rattle.std.proofs.Common.{◌≡◌, ◌∙◌, ℕ, List, Option, None, Some, length, refl, slice_get, sym}
use Rattle.std.proofs.Math.Path.{subst}
use Rattle.token_grammar.specs.declared.token.Token.{Token}
use Rattle.link_graphs.specs.ChainEnds.{EndsAt}
use Rattle.link_graphs.specs.ChainEnds.EndsAt.{itself, onward}
use Rattle.link_graphs.specs.declared.chains.Link.{Link}
use Rattle.link_graphs.specs.declared.chains.Link.TheVariants.{End, Next, Stop}
use Rattle.asn1_names.specs.AssignmentNumbers.{Numbered, assignment_count, numbered_at}
use Rattle.asn1_names.specs.CodeMeanings.{IsTypeNumber, IsTypeOf}
use Rattle.asn1_names.specs.ModuleTerms.{LimitTerm, ModuleTerm, TypeTerm}
use Rattle.asn1_names.specs.ModuleTerms.TypeTerm.{Reference}
use Rattle.asn1_names.specs.NameMeaning.{reference_meaning}
use Rattle.asn1_names.specs.NameMeaning.Meaning.{TypeAt}
use Rattle.asn1_names.specs.TypeWalks.{IsNoName}
use Rattle.asn1_names.proofs.OneNumber.{at_type, not_both, same_types}
use Rattle.asn1_numbers.proofs.BaseLinkLaws.{at_same, number_type}
use Rattle.asn1_numbers.proofs.EachLaws.{each_at}
use Rattle.asn1_numbers.proofs.LeadingLaws.{same_type, type_within}
use Rattle.key_numbers.specs.TypeKeys.{TypeKey}
use Rattle.type_numbers.specs.KeysBeside.{IsBeside, IsUnmarked}
use Rattle.type_numbers.specs.KeysBeside.IsBeside.{tagged, sequence, set, choice, sequence_of, set_of, plain, named}
use Rattle.type_numbers.specs.KeysBeside.IsBeside.{standard}
use Rattle.type_numbers.specs.TextLeads.{AreTextEnds, IsAssignedBeside, IsEndBeside, IsTextLink, NamesAssigned}
use Rattle.type_numbers.specs.TextLeads.{NamesElsewhere}

-- ---- one step

step_on : {ms : List ModuleTerm} {m target : ℕ} {module_name : Option Token} {name : Token} {limits : List LimitTerm}
    {key : TypeKey} → IsTypeNumber ms target (reference_meaning ms m module_name name) →
    IsBeside ms m (Reference module_name name limits) key → IsAssignedBeside ms target key
step_on {ms = ms} {target = target} {key = key} means (named {v = v} {i = i} {of = of} e b) =
    let to = means.numbered in record {
      home = to.in_module;
      of = means.of;
      is = number_type ms target _ means;
      beside = at_type (λ x y. IsBeside ms x y key) to.in_module v means.of of
          (same_types _ to.in_module to.place v i means.of of means.is e) b;
    }
step_on means (standard {syntax = syntax} e u) =
    absurd (not_both _ means.numbered.in_module means.numbered.place means.of syntax means.is e)

pub beside_on : (ms : List ModuleTerm) (m target : ℕ) (of : TypeTerm) (key : TypeKey) → NamesAssigned ms m of target →
    IsBeside ms m of key → IsAssignedBeside ms target key
beside_on ms m target of key leads b = step_on leads.means (subst (λ t. IsBeside ms m t key) leads.is b)

step_off : {ms : List ModuleTerm} {m : ℕ} {module_name : Option Token} {name : Token} {limits : List LimitTerm} {key : TypeKey} →
    ((v i : ℕ) (its : TypeTerm) → ¬ (reference_meaning ms m module_name name ≡ TypeAt v i its)) →
    IsBeside ms m (Reference module_name name limits) key → IsUnmarked key
step_off none (named {v = v} {i = i} {of = of} e b) = absurd (none v i of e)
step_off none (standard e u) = u

pub beside_off : (ms : List ModuleTerm) (m : ℕ) (of : TypeTerm) (key : TypeKey) → NamesElsewhere ms m of →
    IsBeside ms m of key → IsUnmarked key
beside_off ms m of key leads b = step_off leads.unassigned (subst (λ t. IsBeside ms m t key) leads.is b)

-- ---- a chain of names to its end

-- the key goes with the type of an assignment, whatever is told of it
moved : (ms : List ModuleTerm) (number m v : ℕ) (of its : TypeTerm) (key : TypeKey) → IsTypeOf ms number m of →
    IsTypeOf ms number v its → IsBeside ms m of key → IsBeside ms v its key
moved ms number m v of its key one other b =
    at_same (λ x y. IsBeside ms x y key) m v of its (same_type ms number m v of its one other) b

some_link : (x y : Link) → Some x ≡ Some y → x ≡ y
some_link x y h = cc

abbrev EachLink : List ModuleTerm → List Link → Type 0
EachLink ms links = (number : ℕ) (link : Link) → slice_get links number ≡ Some link → IsTextLink ms number link

led_to : {ms : List ModuleTerm} {links : List Link} {number end m : ℕ} {of : TypeTerm} {key : TypeKey} →
    EachLink ms links → EndsAt links number end → IsTypeOf ms number m of → IsBeside ms m of key →
    IsEndBeside ms end key
led_to {ms = ms} {m = m} {of = of} {key = key} each (itself {e = number} at) is b =
    let link = each number End at in record {
      home = link.0;
      of = link.1;
      is = link.2;
      ends = link.3;
      beside = moved ms number m link.0 of link.1 key is link.2 b;
    }
led_to {ms = ms} {m = m} {of = of} {key = key} each (onward {e = number} {next = next} at more) is b =
    let link = each number (Next next) at in
    let step = beside_on ms link.0 next link.1 key link.3 (moved ms number m link.0 of link.1 key is link.2 b) in
    led_to each more step.is step.beside

no_number : (x : Numbered) → None ≡ Some x → ⊥
no_number x h = absurd (cc)

-- two references that are one mean the same
abbrev module_part : Option Token → TypeTerm → Option Token
module_part default (Reference module_name name limits) = module_name
module_part default _ = default

abbrev name_part : Token → TypeTerm → Token
name_part default (Reference module_name name limits) = name
name_part default _ = default

same_meant : (ms : List ModuleTerm) (m : ℕ) {a b : Option Token} {x y : Token} {limits others : List LimitTerm} →
    Reference a x limits ≡ Reference b y others → reference_meaning ms m a x ≡ reference_meaning ms m b y
same_meant ms m {a = a} {x = x} h = λ i. reference_meaning ms m (module_part a (h i)) (name_part x (h i))

-- an assignment leads to an end
HasEnd : List Link → ℕ → Type 0
HasEnd links number = (end : ℕ) × EndsAt links number end

not_named : {ms : List ModuleTerm} {m target : ℕ} {of : TypeTerm} → IsNoName of → NamesAssigned ms m of target → ⊥
not_named nameless leads = subst IsNoName leads.is nameless

ends_here : (ms : List ModuleTerm) (links : List Link) (number m : ℕ) (of : TypeTerm) (link : Link) →
    slice_get links number ≡ Some link → IsTextLink ms number link → IsTypeOf ms number m of →
    ((target : ℕ) → ¬ NamesAssigned ms m of target) → HasEnd links number
unfolding HasEnd
ends_here ms links number m of End at told is none = (number, itself at)
ends_here ms links number m of (Next next) at told is none =
    absurd (none next (at_same (λ x y. NamesAssigned ms x y next) told.0 m told.1 of
    (same_type ms number told.0 m told.1 of told.2 is) told.3))
ends_here ms links number m of Stop at told is none = absurd (no_number is.numbered (sym told ∙ is.at))

goes_on : (ms : List ModuleTerm) (links : List Link) (number m v i : ℕ) (of its : TypeTerm)
    (module_name : Option Token) (name : Token)
    (limits : List LimitTerm) (link : Link) → of ≡ Reference module_name name limits →
    reference_meaning ms m module_name name ≡ TypeAt v i its → slice_get links number ≡ Some link →
    IsTextLink ms number link → IsTypeOf ms number m of →
    ((next : ℕ) → IsTypeOf ms next v its → HasEnd links next) → HasEnd links number
unfolding HasEnd
goes_on ms links number m v i of its module_name name limits End shape e at told is more = (number, itself at)
goes_on ms links number m v i of its module_name name limits (Next next) shape e at told is more =
    let leads = at_same (λ x y. NamesAssigned ms x y next) told.0 m told.1 of
    (same_type ms number told.0 m told.1 of told.2 is) told.3 in
    let means = subst (IsTypeNumber ms next) (same_meant ms m (sym leads.is ∙ shape)) leads.means in
    let to = means.numbered in
    let same = same_types _ to.in_module to.place v i means.of its means.is e in
    let rest = more next (at_same (λ x y. IsTypeOf ms next x y) to.in_module v means.of its same
    (number_type ms next _ means)) in
    let end = rest.0 in (end, onward {end = end} at rest.1)
goes_on ms links number m v i of its module_name name limits Stop shape e at told is more =
    absurd (no_number is.numbered (sym told ∙ is.at))

-- what stands at the number of an assignment
link_at : (ms : List ModuleTerm) (links : List Link) (number m : ℕ) (of : TypeTerm) →
    length links ≡ assignment_count ms → EachLink ms links → IsTypeOf ms number m of →
    (link : Link) × (slice_get links number ≡ Some link) × IsTextLink ms number link
link_at ms links number m of size each is =
    each_at (IsTextLink ms) (assignment_count ms) links number (record { size = size; each = each })
    (type_within ms number m of is)

has_end : {ms : List ModuleTerm} {m : ℕ} {of : TypeTerm} {key : TypeKey} (links : List Link) →
    length links ≡ assignment_count ms → EachLink ms links → IsBeside ms m of key → (number : ℕ) →
    IsTypeOf ms number m of → HasEnd links number
has_end {ms = ms} {m = m} {of = of} links size each (named {v = v} {i = i} {module_name = module_name}
    {name = name} {limits = limits} {of = its} e b) number is =
    let link = link_at ms links number m of size each is in
    goes_on ms links number m v i of its module_name name limits link.0 refl e link.1 link.2 is
    (λ next its_is. has_end links size each b next its_is)
has_end {ms = ms} {m = m} {of = of} links size each (standard {syntax = syntax} e u) number is =
    let link = link_at ms links number m of size each is in
    ends_here ms links number m of link.0 link.1 link.2 is (λ target leads.
    let means = subst (IsTypeNumber ms target) (same_meant ms m (sym leads.is)) leads.means in
    not_both _ means.numbered.in_module means.numbered.place means.of syntax means.is e)
has_end {ms = ms} {m = m} {of = of} links size each (tagged b) number is =
    let link = link_at ms links number m of size each is in
    ends_here ms links number m of link.0 link.1 link.2 is (λ target leads. not_named tt leads)
has_end {ms = ms} {m = m} {of = of} links size each (sequence b) number is =
    let link = link_at ms links number m of size each is in
    ends_here ms links number m of link.0 link.1 link.2 is (λ target leads. not_named tt leads)
has_end {ms = ms} {m = m} {of = of} links size each (set b) number is =
    let link = link_at ms links number m of size each is in
    ends_here ms links number m of link.0 link.1 link.2 is (λ target leads. not_named tt leads)
has_end {ms = ms} {m = m} {of = of} links size each (choice b) number is =
    let link = link_at ms links number m of size each is in
    ends_here ms links number m of link.0 link.1 link.2 is (λ target leads. not_named tt leads)
has_end {ms = ms} {m = m} {of = of} links size each (sequence_of b) number is =
    let link = link_at ms links number m of size each is in
    ends_here ms links number m of link.0 link.1 link.2 is (λ target leads. not_named tt leads)
has_end {ms = ms} {m = m} {of = of} links size each (set_of b) number is =
    let link = link_at ms links number m of size each is in
    ends_here ms links number m of link.0 link.1 link.2 is (λ target leads. not_named tt leads)
has_end {ms = ms} {m = m} {of = of} links size each (plain u) number is =
    let link = link_at ms links number m of size each is in
    ends_here ms links number m of link.0 link.1 link.2 is (λ target leads. not_named tt leads)

-- the end of the type of an assignment, among those that are known
pub end_beside : (ms : List ModuleTerm) (ends : List (Option ℕ)) (number m : ℕ) (of : TypeTerm) (key : TypeKey) →
    AreTextEnds ms ends → IsTypeOf ms number m of → IsBeside ms m of key →
    (end : ℕ) × (slice_get ends number ≡ Some (Some end)) × IsEndBeside ms end key
unfolding HasEnd
end_beside ms ends number m of key are is b =
    let end = has_end are.links are.are.size are.are.each b number is in
    (end.0, are.ends.told number end.0 end.1, led_to are.are.each end.1 is b)

-- what is told of the end, where one is known
pub end_told : (ms : List ModuleTerm) (ends : List (Option ℕ)) (number end : ℕ) (key : TypeKey) → AreTextEnds ms ends →
    slice_get ends number ≡ Some (Some end) → IsAssignedBeside ms number key → IsEndBeside ms end key
end_told ms ends number end key are at a =
    let found = end_beside ms ends number a.home a.of key are a.is a.beside in
    subst (λ k. IsEndBeside ms k key) (same found.0 end (sym found.1 ∙ at)) found.2
  where
    same : (x y : ℕ) → Some (Some x) ≡ Some (Some y) → x ≡ y
    same x y h = cc

-- an end is known
pub end_missing : {P : Type 0} (ms : List ModuleTerm) (ends : List (Option ℕ)) (number : ℕ) (key : TypeKey) →
    AreTextEnds ms ends → slice_get ends number ≡ Some None → IsAssignedBeside ms number key → P
end_missing ms ends number key are at a =
    let found = end_beside ms ends number a.home a.of key are a.is a.beside in
    absurd (apart found.0 (sym at ∙ found.1))
  where
    apart : (x : ℕ) → ◌≡◌ {A = Option (Option ℕ)} (Some None) (Some (Some x)) → ⊥
    apart x h = absurd (cc)

pub end_past : {P : Type 0} (ms : List ModuleTerm) (ends : List (Option ℕ)) (number : ℕ) (key : TypeKey) →
    AreTextEnds ms ends → slice_get ends number ≡ None → IsAssignedBeside ms number key → P
end_past ms ends number key are at a =
    let found = end_beside ms ends number a.home a.of key are a.is a.beside in
    absurd (apart found.0 (sym at ∙ found.1))
  where
    apart : (x : ℕ) → ◌≡◌ {A = Option (Option ℕ)} None (Some (Some x)) → ⊥
    apart x h = absurd (cc)

-- the text of the end, which is told by its number
pub end_is : {P : Type 0} (ms : List ModuleTerm) (number : ℕ) (key : TypeKey) → numbered_at ms number ≡ None →
    IsEndBeside ms number key → P
end_is ms number key absent e = absurd (no_number e.is.numbered (sym absent ∙ e.is.at))

pub end_at : (ms : List ModuleTerm) (number m : ℕ) (of : TypeTerm) (key : TypeKey) (P : Type 0) → IsTypeOf ms number m of →
    IsEndBeside ms number key → (IsBeside ms m of key → ((target : ℕ) → ¬ NamesAssigned ms m of target) → P) → P
end_at ms number m of key P is e then =
    let same = same_type ms number e.home m e.of of e.is is in
    then (at_same (λ x y. IsBeside ms x y key) e.home m e.of of same e.beside)
    (at_same (λ x y. (target : ℕ) → ¬ NamesAssigned ms x y target) e.home m e.of of same e.ends)
